-- The least pair: the order tells pairs apart whose numbers are below 2 ^ 32, so the least pair of a list hangs on its bag alone, and on no order of visit.
-- Assumes nothing.
use Prim.Native.Nat.{ℕ, ◌+◌, ◌*◌, ◌/◌, ◌%◌, ◌^◌, ◌≤◌, ◌<◌}
use native.Mathlib.Nat.{le_refl, le_antisymm}
use native.Mathlib.Omega.{arith}
use mathlib.Core.Path.{◌≡◌, refl, sym, ap, ◌∙◌}
use mathlib.Core.List.{List, [], ◌∷◌, map}
use mathlib.Core.Bool.{Bool, true, false, ◌&&◌, ◌||◌, cond, false≢true}
use mathlib.Mathlib.Data.Bool.Basic.{and_elim_left, and_elim_right, and_intro, or_inl, or_inr}
use lib.Arith.{digits_div, digits_mod}
use lib.Dec.{leb, ltb}
use lib.ListN.{length, get_or}
use borrow.Author.Tests.{ltb-true, ltb-false, leb-true, lt-ltb, le-leb}
use Rattle.walk.specs.declared.Pair.{Pair}
use Rattle.lists.specs.Lists.{every, some, below, SameBag}
use Rattle.walk.specs.Faces.{Rules, Mesh}
use Rattle.walk.specs.Pairs.{same_pair, order, least}
use Rattle.walk.specs.Walk.{tried, chosen}
use Rattle.lists.proofs.EveryLaws.{every-from, some-from}
use Rattle.lists.proofs.BelowLaws.{length-each, get_d-each}
use Rattle.walk.proofs.SamePairs.{pair_path, same_self, every-member}
use Rattle.lists.proofs.BagLaws.{bag-sym, bag-length, bag-every, bag-some}

-- both numbers of a pair are below 2 ^ 32, so that the order tells it from any other such pair
abbrev pub fitting : Pair → Bool
fitting p = ltb p.keep (2 ^ 32) && ltb p.remove (2 ^ 32)

pub fitting-from : (p : Pair) → p.keep < 2 ^ 32 → p.remove < 2 ^ 32 → fitting p ≡ true
fitting-from p k r = and_intro (lt-ltb p.keep (2 ^ 32) k) (lt-ltb p.remove (2 ^ 32) r)

pub fitting-below : (p : Pair) → fitting p ≡ true → (p.keep < 2 ^ 32) × (p.remove < 2 ^ 32)
fitting-below p fit =
    (ltb-true p.keep (2 ^ 32) (and_elim_left _ (ltb p.remove (2 ^ 32)) fit), ltb-true p.remove (2 ^ 32) (and_elim_right (ltb p.keep (2 ^ 32)) _ fit))

-- one more test between two
or-between : (a b c : Bool) → (a || c) ≡ true → (a || (b || c)) ≡ true
or-between true b c h = refl
or-between false b c h = or_inr b c h

and-between : (a b c : Bool) → b ≡ true → (a && c) ≡ true → (a && (b && c)) ≡ true
and-between true b c e h = and_intro e h
and-between false b c e h = h

-- a number's digits in base n are its own
digits_same : {a b c d n : ℕ} → b < n → d < n → a * n + b ≡ c * n + d → (a ≡ c) × (b ≡ d)
digits_same {a} {b} {c} {d} {n} hb hd e =
    (sym (digits_div a hb) ∙ ap (λ (x : ℕ). x / n) e ∙ digits_div c hd, sym (digits_mod a hb) ∙ ap (λ (x : ℕ). x % n) e ∙ digits_mod c hd)

module _ {D : Type 0} (rules : Rules D) (m : Mesh D) where
  -- the order tells pairs apart
  pub order-injective : (p q : Pair) → fitting p ≡ true → fitting q ≡ true → order rules m p ≡ order rules m q → p ≡ q
  unfolding order
  order-injective p q fp fq e =
      let (kp, rp) = fitting-below p fp in
      let (kq, rq) = fitting-below q fq in
      let (rest, removes) = digits_same rp rq e in
      pair_path (digits_same kp kq rest).1 removes

  -- ---- a least pair of a list: it is there, and it is above none

  abbrev pub not_above : Pair → Pair → Bool
  not_above q p = leb (order rules m q) (order rules m p)

  pub record IsLeast (q : Pair) (ps : List Pair) : Type 0 where
    pub member : some (same_pair q) ps ≡ true
    pub lowest : every (not_above q) ps ≡ true

  -- the lower of two goes on: what is least with it is least with both
  least_step : (b : Bool) (l p q : Pair) (qs : List Pair) → ltb (order rules m q) (order rules m p) ≡ b →
      IsLeast l (cond b q p ∷ qs) → IsLeast l (p ∷ q ∷ qs)
  unfolding every some
  least_step true l p q qs e h =
      let below-q : order rules m l ≤ order rules m q = leb-true _ _ (and_elim_left (not_above l q) (every (not_above l) qs) h.lowest) in
      let below-p : order rules m l ≤ order rules m p = omega (arith, ltb-true) in
      record { member = or_inr (same_pair l p) _ h.member; lowest = and_intro (le-leb _ _ below-p) h.lowest }
  least_step false l p q qs e h =
      let below-p : order rules m l ≤ order rules m p = leb-true _ _ (and_elim_left (not_above l p) (every (not_above l) qs) h.lowest) in
      let below-q : order rules m l ≤ order rules m q = omega (arith, ltb-false) in
      record {
        member = or-between (same_pair l p) (same_pair l q) (some (same_pair l) qs) h.member;
        lowest = and-between (not_above l p) (not_above l q) (every (not_above l) qs) (le-leb _ _ below-q) h.lowest;
      }

  -- what the definition finds is a least pair
  pub least-is : (p : Pair) (ps : List Pair) → IsLeast (least rules m p ps) (p ∷ ps)
  unfolding least every some
  least-is p [] =
      record { member = or_inl (same_pair p p) false (same_self p); lowest = and_intro (le-leb _ _ (le_refl (order rules m p))) refl }
  least-is p (q ∷ qs) = least_step (ltb (order rules m q) (order rules m p)) _ p q qs refl (least-is (cond (ltb (order rules m q) (order rules m p)) q p) qs)

  -- and there is no other
  pub least-unique : {q r : Pair} {ps : List Pair} → every fitting ps ≡ true → IsLeast q ps → IsLeast r ps → q ≡ r
  least-unique {q} {r} {ps} fit lq lr =
      order-injective q r (every-member fitting q ps fit lq.member) (every-member fitting r ps fit lr.member)
      (le_antisymm
      (leb-true _ _ (every-member (not_above q) r ps lq.lowest lr.member))
      (leb-true _ _ (every-member (not_above r) q ps lr.lowest lq.member)))

  -- so it hangs on the bag alone
  pub is-least-bag : {q : Pair} {ps qs : List Pair} → SameBag ps qs → IsLeast q ps → IsLeast q qs
  is-least-bag same l = record { member = sym (bag-some same _) ∙ l.member; lowest = sym (bag-every same _) ∙ l.lowest }

  pub least-bag : {p q : Pair} {ps qs : List Pair} → SameBag (p ∷ ps) (q ∷ qs) → every fitting (p ∷ ps) ≡ true →
      least rules m p ps ≡ least rules m q qs
  least-bag {p} {q} {ps} {qs} same fit = least-unique fit (least-is p ps) (is-least-bag (bag-sym same) (least-is q qs))

  -- ---- the pair that is tried

  pub chosen_is : {q : Pair} (ps : List Pair) → every fitting ps ≡ true → IsLeast q ps → chosen rules m ps ≡ tried rules m q
  unfolding chosen some
  chosen_is [] fit l = absurd (false≢true l.member)
  chosen_is (p ∷ ps) fit l = ap (tried rules m) (least-unique fit (least-is p ps) l)

  pub chosen-bag : (ps qs : List Pair) → SameBag ps qs → every fitting ps ≡ true → chosen rules m ps ≡ chosen rules m qs
  unfolding chosen
  chosen-bag [] [] same fit = refl
  chosen-bag (p ∷ ps) [] same fit = absurd (omega (arith, bag-length same))
  chosen-bag ps (q ∷ qs) same fit = chosen_is ps fit (is-least-bag (bag-sym same) (least-is q qs))

  -- ---- by place, as an array is searched

  pub least-at-index : (d : Pair) (ps : List Pair) (i : ℕ) → i < length ps →
      ((j : ℕ) → j < length ps → order rules m (get_or ps i d) ≤ order rules m (get_or ps j d)) → IsLeast (get_or ps i d) ps
  least-at-index d ps i h low =
      record {
        member = some-from (same_pair (get_or ps i d)) d ps i h (same_self (get_or ps i d));
        lowest = every-from (not_above (get_or ps i d)) d ps (λ j g. le-leb _ _ (low j g));
      }

  -- the array as the function that reads it
  pub least-at-place : (f : ℕ → Pair) (n i : ℕ) → i < n → ((j : ℕ) → j < n → order rules m (f i) ≤ order rules m (f j)) →
      IsLeast (f i) (map f (below n))
  least-at-place f n i h low =
      rw (read i h) at
      (least-at-index (f 0) (map f (below n)) i (rw length-each h) (λ j g. rw (read i h, read j (within j g)) (low j (within j g))))
    where
      within : (j : ℕ) → j < length (map f (below n)) → j < n
      within j g = rw length-each at g

      read : (j : ℕ) → j < n → get_or (map f (below n)) j (f 0) ≡ f j
      read j g = get_d-each f n j (f 0) g

  pub chosen-by-index : (d : Pair) (ps : List Pair) (i : ℕ) → every fitting ps ≡ true → i < length ps →
      ((j : ℕ) → j < length ps → order rules m (get_or ps i d) ≤ order rules m (get_or ps j d)) →
      chosen rules m ps ≡ tried rules m (get_or ps i d)
  chosen-by-index d ps i fit h low = chosen_is ps fit (least-at-index d ps i h low)

  -- an array with the same bag, in whatever order, finds the pair that the list finds
  pub chosen-by-place : (f : ℕ → Pair) (n i : ℕ) (ps : List Pair) → SameBag (map f (below n)) ps → every fitting ps ≡ true → i < n →
      ((j : ℕ) → j < n → order rules m (f i) ≤ order rules m (f j)) →
      chosen rules m ps ≡ tried rules m (f i)
  chosen-by-place f n i ps same fit h low = chosen_is ps fit (is-least-bag same (least-at-place f n i h low))
