-- Whether one of the orders before a place passes a test, as the code finds it. Assumes nothing.
use mathlib.Core.Path.{◌≡◌, refl, sym, ◌∙◌, ap}
use Prim.Native.Nat.{ℕ, zero, suc, ◌+◌, ◌<◌}
use native.Mathlib.Nat.{add-zero, add-suc}
use native.Mathlib.Omega.{arith}
use mathlib.Core.Bool.{Bool, true, false, ◌||◌, or-false}
use mathlib.Core.List.{List, [], ◌∷◌}
use mathlib.Mathlib.Data.Bool.Basic.{or_inr}
use lib.Ieee.{nan}
use lib.ListN.{length, get_or, take}
use lib.Seq.{get_or-take, length-take-le}
use Rattle.std.specs.Bool.{MatchBool}
use Rattle.std.specs.List.{HoldsAt, AllWithin}
use Rattle.std.proofs.lemmas.List.{get_or_default}
use Rattle.lists.specs.Lists.{some, below}
use Rattle.lists.proofs.BelowLaws.{length-below, get_d-below}
use Rattle.lists.proofs.EveryLaws.{some-append, some-from}
use Rattle.lists.proofs.TestLaws as tests
use Rattle.lists.proofs.TestLaws.{false_of}
use Rattle.orders.specs.declared.Order.{Order}
use Rattle.orders.specs.declared.Buffers.{Buffers}
use Rattle.orders.specs.Orders.{order_at, no_order}
use Rattle.orders.specs.Parts.{part}
use Rattle.orders.specs.Refused.{clash, is_too_many, misplaced, clashes, bad_order, refused}
use Rattle.orders.proofs.FineLaws.{one_below}

-- one that passes
pub some-below : (test : ℕ → Bool) (n k : ℕ) → k < n → test k ≡ true → some test (below n) ≡ true
some-below test n k less passes = some-from test 0 (below n) k (rw (length-below n) less) (ap test (get_d-below n k less) ∙ passes)

-- none that does
pub none-below : (test : ℕ → Bool) (n : ℕ) → ((k : ℕ) → k < n → test k ≡ false) → some test (below n) ≡ false
none-below test n none = false_of (some test (below n)) (λ found. let one = one_below test n found in tests.clash one.2 (none one.0 one.1))

-- none yet
pub some-none : (test : ℕ → Bool) → some test (below 0) ≡ false
unfolding some below
some-none test = refl

-- one more
some_next : (test : ℕ → Bool) (k : ℕ) → some test (below (k + 1)) ≡ (some test (below k) || test k)
unfolding some below
some_next test k =
    ap (λ (n : ℕ). some test (below n)) (add-suc k zero ∙ ap suc (add-zero k))
    ∙ some-append test (below k) (k ∷ [])
    ∙ ap (λ (b : Bool). some test (below k) || b) (or-false (test k))

-- one more that doesn't
pub none-next : (test : ℕ → Bool) (k : ℕ) → some test (below k) ≡ false → test k ≡ false → some test (below (k + 1)) ≡ false
none-next test k none fails = some_next test k ∙ rw (none, fails) refl

-- whether one of those before a place passes, as `any` finds it
pub any_before : (orders : List Order) (place : ℕ) (test : Order → Bool) (r : Bool) → place < length orders
    → MatchBool r ((k : ℕ) × (k < length (take place orders)) × HoldsAt (λ o. test o ≡ true) (take place orders) k)
    (AllWithin (λ o. test o ≡ false) (take place orders) 0 (length (take place orders)))
    → r ≡ some (λ j. test (order_at orders j)) (below place)
any_before orders place test true less found =
    let before : found.0 < place = omega (arith, length-take-le place orders (omega arith), found.1) in
    sym (some-below (λ j. test (order_at orders j)) place found.0 before (ap test (sym (get_or-take place orders found.0 no_order before)) ∙ found.2 no_order))
any_before orders place test false less none =
    sym (none-below (λ j. test (order_at orders j)) place
    (λ k before. ap test (sym (get_or-take place orders k no_order before)) ∙ none k no_order (omega arith) (omega (arith, length-take-le place orders (omega arith)))))

-- what the code reads where no order stands
abbrev pub past_end : Order
past_end =
    record {
      points = part 0 0;
      faces = part 0 0;
      margin = part 0 0;
      unit = 0;
      ratio = nan;
      preserve = false;
      limited = false;
      limit = nan;
      out_points = part 0 0;
      out_faces = part 0 0;
    }

-- of an order that stands, either may be read
pub read_alike : (orders : List Order) (place : ℕ) {r : Bool} → place < length orders
    → r ≡ some (λ j. clash (order_at orders j) (get_or orders place past_end)) (below place) → r ≡ clashes orders place
read_alike orders place less found =
    found ∙ ap (λ (o : Order). some (λ j. clash (order_at orders j) o) (below place)) (get_or_default orders place past_end no_order less)

module _ (orders : List Order) (cells : Buffers) where
  -- an order is bad that is misplaced; the code may read it with another default
  pub misplaced-bad : (k : ℕ) (d : Order) → k < length orders → misplaced cells (get_or orders k d) ≡ true → bad_order orders cells k ≡ true
  misplaced-bad k d less bad =
      rw (sym (ap (misplaced cells) (get_or_default orders k d no_order less)) ∙ bad) refl

  -- or that clashes
  pub clashing-bad : (k : ℕ) → clashes orders k ≡ true → bad_order orders cells k ≡ true
  clashing-bad k found = or_inr (misplaced cells (order_at orders k)) (clashes orders k) found

  -- and else good
  pub good-at : (k : ℕ) (d : Order) → k < length orders → misplaced cells (get_or orders k d) ≡ false → clashes orders k ≡ false → bad_order orders cells k ≡ false
  good-at k d less placed apart =
      rw (sym (ap (misplaced cells) (get_or_default orders k d no_order less)) ∙ placed, apart) refl

  -- a call with too many orders is refused
  pub many-refused : is_too_many (length orders) cells ≡ true → true ≡ refused orders cells
  unfolding refused
  many-refused many = rw many refl

  -- one with a bad order
  pub bad-refused : (k : ℕ) → k < length orders → bad_order orders cells k ≡ true → true ≡ refused orders cells
  unfolding refused
  bad-refused k less bad = sym (or_inr (is_too_many (length orders) cells) (some (bad_order orders cells) (below (length orders))) (some-below (bad_order orders cells) (length orders) k less bad))

  -- and no other
  pub none-refused : is_too_many (length orders) cells ≡ false → some (bad_order orders cells) (below (length orders)) ≡ false → false ≡ refused orders cells
  unfolding refused
  none-refused few good = rw (few, good) refl
