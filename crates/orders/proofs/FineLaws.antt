-- A call that isn't refused as a whole: there is room for every answer, each part lies in its buffer, and the output parts of two orders share no cell.
-- Assumes nothing.
use Prim.Native.Nat.{ℕ, ◌+◌, ◌*◌, ◌≤◌, ◌<◌}
use mathlib.Core.Path.{◌≡◌, refl, sym, ap, ◌∙◌}
use mathlib.Core.Logic.{◌≢◌}
use mathlib.Core.Bool.{Bool, true, false, ◌&&◌, ◌||◌}
use mathlib.Core.List.{List}
use native.Mathlib.Omega.{arith}
use lib.Dec.{ltb}
use lib.ListN.{length}
use borrow.Author.Tests.{ltb-true, ltb-false}
use Rattle.lists.specs.Lists.{some, below, first_of}
use Rattle.lists.proofs.BelowLaws.{length-below, get_d-below}
use Rattle.lists.proofs.EveryLaws.{some-from}
use Rattle.lists.proofs.FirstLaws.{first-of}
use Rattle.lists.proofs.TestLaws as tests
use Rattle.lists.proofs.TestLaws.{neither-of, false_of}
use Rattle.orders.specs.declared.Part.{Part}
use Rattle.orders.specs.declared.Order.{Order}
use Rattle.orders.specs.declared.Buffers.{Buffers}
use Rattle.orders.specs.Orders.{order_at}
use Rattle.orders.specs.Refused.{is_too_many, outside, misplaced, share, clash, clashes, bad_order, refused}

-- no number below n passes a test that none does
pub none_below : (test : ℕ → Bool) (n k : ℕ) → some test (below n) ≡ false → k < n → test k ≡ false
none_below test n k none less =
    false_of (test k) (λ here. tests.clash (some-from test 0 (below n) k (rw (length-below n) less) (ap test (get_d-below n k less) ∙ here)) none)

-- one of them passes a test that some do
pub one_below : (test : ℕ → Bool) (n : ℕ) → some test (below n) ≡ true → (k : ℕ) × (k < n) × (test k ≡ true)
one_below test n found =
    let first = first-of test 0 (below n) found in
    let less = rw (length-below n) at first.within in
    (first_of test (below n), less, ap test (sym (get_d-below n (first_of test (below n)) less)) ∙ first.passes)

-- none of five tests passes
none-of-five : (a b c d e : Bool) → (a || b || c || d || e) ≡ false → (a ≡ false) × (b ≡ false) × (c ≡ false) × (d ≡ false) × (e ≡ false)
none-of-five a b c d e none =
    let four = neither-of (a || b || c || d) e none in
    let three = neither-of (a || b || c) d four.0 in
    let two = neither-of (a || b) c three.0 in
    let one = neither-of a b two.0 in
    (one.0, one.1, two.1, three.1, four.1)

-- the same the other way round
share-sym : (p q : Part) → share p q ≡ share q p
share-sym p q = four (ltb 0 p.len) (ltb 0 q.len) (ltb p.from (q.from + q.len)) (ltb q.from (p.from + p.len))
  where
    four : (a b c d : Bool) → (a && b && c && d) ≡ (b && a && d && c)
    four true true true true = refl
    four true true true false = refl
    four true true false true = refl
    four true true false false = refl
    four true false c d = refl
    four false true c d = refl
    four false false c d = refl

clash-sym : (a b : Order) → clash a b ≡ clash b a
clash-sym a b t = share-sym a.out_points b.out_points t || share-sym a.out_faces b.out_faces t

-- the five parts of an order lie in their buffers
abbrev pub AllWithin : Buffers → Order → Type 0
AllWithin cells o =
    (o.points.from + o.points.len ≤ cells.points)
    × (o.faces.from + o.faces.len ≤ cells.faces)
    × (o.margin.from + o.margin.len ≤ cells.margins)
    × (o.out_points.from + o.out_points.len ≤ cells.out_points)
    × (o.out_faces.from + o.out_faces.len ≤ cells.out_faces)

module _ (orders : List Order) (cells : Buffers) (fine : refused orders cells ≡ false) where
  -- neither too many orders nor a bad one
  counted : is_too_many (length orders) cells ≡ false
  unfolding refused
  counted = (neither-of (is_too_many (length orders) cells) (some (bad_order orders cells) (below (length orders))) fine).0

  good : (k : ℕ) → k < length orders → bad_order orders cells k ≡ false
  unfolding refused
  good k = none_below (bad_order orders cells) (length orders) k (neither-of (is_too_many (length orders) cells) (some (bad_order orders cells) (below (length orders))) fine).1

  -- at most 64, and room for every answer
  pub fine-count : (length orders ≤ 64) × (5 * length orders ≤ cells.answers) × (3 * length orders ≤ cells.closed)
  fine-count =
      let many = ltb 64 (length orders) in
      let short = ltb cells.answers (5 * length orders) in
      let two = neither-of (many || short) (ltb cells.closed (3 * length orders)) counted in
      let one = neither-of many short two.0 in
      (ltb-false _ _ one.0, ltb-false _ _ one.1, ltb-false _ _ two.1)

  pub fine-within : (k : ℕ) → k < length orders → AllWithin cells (order_at orders k)
  fine-within k less =
      let o = order_at orders k in
      let none =
      none-of-five (outside o.points cells.points) (outside o.faces cells.faces) (outside o.margin cells.margins)
      (outside o.out_points cells.out_points) (outside o.out_faces cells.out_faces)
      (neither-of (misplaced cells o) (clashes orders k) (good k less)).0 in
      (ltb-false _ _ none.0, ltb-false _ _ none.1, ltb-false _ _ none.2, ltb-false _ _ none.3, ltb-false _ _ none.4)

  -- two orders have no output cell in common
  no-clash : (j k : ℕ) → j < k → k < length orders → clash (order_at orders j) (order_at orders k) ≡ false
  no-clash j k before less =
      none_below (λ j. clash (order_at orders j) (order_at orders k)) k j (neither-of (misplaced cells (order_at orders k)) (clashes orders k) (good k less)).1 before

  pub fine-apart : (j k : ℕ) → j < length orders → k < length orders → j ≢ k →
      (share (order_at orders j).out_points (order_at orders k).out_points ≡ false) × (share (order_at orders j).out_faces (order_at orders k).out_faces ≡ false)
  fine-apart j k less-j less-k other =
      let a = order_at orders j in
      let b = order_at orders k in
      let none =
      tests.by-test (ltb j k)
      (λ first. no-clash j k (ltb-true j k first) less-k)
      (λ later. clash-sym a b ∙ no-clash k j (omega (arith, ltb-false j k later, other)) less-j) in
      neither-of (share a.out_points b.out_points) (share a.out_faces b.out_faces) none
