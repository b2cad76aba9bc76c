-- A list of slots: one slot more, a slot at a place, and what a change of other cells leaves as it was.
-- Assumes nothing.
use Prim.Native.Nat.{ℕ, ◌+◌, ◌-◌, ◌*◌, ◌≤◌, ◌<◌}
use native.Mathlib.Nat.{add-zero}
use native.Mathlib.Numerals.{add-one}
use native.Mathlib.Omega.{arith}
use mathlib.Core.Path.{◌≡◌, sym, ap, ◌∙◌}
use mathlib.Core.Logic.{◌⊎◌, ⊎_elim}
use mathlib.Core.List.{List, [], ◌∷◌, ◌++◌, map-append}
use mathlib.Core.Bool.{Bool, true, ◌&&◌, ◌||◌, or-false}
use mathlib.Mathlib.Data.Bool.Basic.{and_elim_left, and_elim_right}
use lib.Dec.{ltb}
use lib.ListN.{length, get_or, take, drop}
use Rattle.std.proofs.lemmas.List.{get_or-take, get_or-drop, length-take-le, length-drop}
use borrow.Author.Tests.{ltb-true}
use Rattle.lists.specs.Lists.{sum, some, every, below, stretch}
use Rattle.walk.specs.Faces.{holds, proper, face_at}
use Rattle.lists.proofs.SumLaws.{sum-append}
use Rattle.lists.proofs.EveryLaws.{some-append, every-at, some-from}
use Rattle.lists.proofs.BelowLaws.{length-each, get_d-each, map-same-below, every-implies-below}
use Rattle.memory.specs.Memory.{lives, Proper, live_at}
use Rattle.lists.specs.Frames.{But}
use Rattle.ring.specs.Clauses.Marking.{FacesListed, Around}
use Rattle.memory.proofs.FrameLaws.{lives-but, face-but}
use Rattle.mesh.proofs.AroundLaws.{gathered-but}

-- ---- one slot more

pub slots-more : (w : List ℕ) (base n : ℕ) → stretch w base (n + 1) ≡ stretch w base n ++ (get_or w (base + n) 0 ∷ [])
unfolding below
slots-more w base n = rw (add-one n) (map-append (λ i. get_or w (base + i) 0) (below n) (n ∷ []))

pub sum_more : (g : ℕ → ℕ) (w : List ℕ) (base n : ℕ) →
    sum g (stretch w base (n + 1)) ≡ sum g (stretch w base n) + g (get_or w (base + n) 0)
unfolding sum
sum_more g w base n =
    ap (sum g) (slots-more w base n)
    ∙ sum-append g (stretch w base n) (get_or w (base + n) 0 ∷ [])
    ∙ ap (λ (m : ℕ). sum g (stretch w base n) + m) (add-zero (g (get_or w (base + n) 0)))

pub some_more : (test : ℕ → Bool) (w : List ℕ) (base n : ℕ) →
    some test (stretch w base (n + 1)) ≡ (some test (stretch w base n) || test (get_or w (base + n) 0))
unfolding some
some_more test w base n =
    ap (some test) (slots-more w base n)
    ∙ some-append test (stretch w base n) (get_or w (base + n) 0 ∷ [])
    ∙ ap (λ (b : Bool). some test (stretch w base n) || b) (or-false (test (get_or w (base + n) 0)))

-- ---- the slot at a place

pub length-slots : (w : List ℕ) (base n : ℕ) → length (stretch w base n) ≡ n
length-slots w base n = length-each (λ i. get_or w (base + i) 0) n

module _ (test : ℕ → Bool) (w : List ℕ) (base n : ℕ) where
  slot_at : (i : ℕ) → i < n → get_or (stretch w base n) i (get_or w (base + 0) 0) ≡ get_or w (base + i) 0
  slot_at i l = get_d-each (λ i. get_or w (base + i) 0) n i (get_or w (base + 0) 0) l

  pub every-slot : every test (stretch w base n) ≡ true → (i : ℕ) → i < n → test (get_or w (base + i) 0) ≡ true
  every-slot all i l =
      ap test (sym (slot_at i l)) ∙ every-at test (get_or w (base + 0) 0) (stretch w base n) all i (rw length-slots l)

  pub some-slot : (i : ℕ) → i < n → test (get_or w (base + i) 0) ≡ true → some test (stretch w base n) ≡ true
  some-slot i l pass = some-from test (get_or w (base + 0) 0) (stretch w base n) i (rw length-slots l) (ap test (slot_at i l) ∙ pass)

pub slot_small : (f : ℕ) (w : List ℕ) (base n : ℕ) → every (λ k. ltb k f) (stretch w base n) ≡ true →
    (i : ℕ) → i < n → get_or w (base + i) 0 < f
slot_small f w base n all i l = ltb-true _ f (every-slot (λ k. ltb k f) w base n all i l)

-- ---- the list as a part of the memory

-- the n slots from base on, as a loop over that part of the memory goes through them
abbrev pub part_of : List ℕ → ℕ → ℕ → List ℕ
part_of w base n = take (base + n - base) (drop base w)

module _ (w : List ℕ) (base n : ℕ) (within : base + n ≤ length w) where
  pub length-part : length (part_of w base n) ≡ n
  length-part = length-take-le (base + n - base) (drop base w) (omega (arith, length-drop base w)) ∙ omega arith

  pub read-part : (i : ℕ) → i < n → get_or (part_of w base n) i 0 ≡ get_or w (base + i) 0
  read-part i l = get_or-take (base + n - base) (drop base w) i 0 (omega arith) ∙ get_or-drop base w i 0

-- ---- the faces of a list

module _ {v f : ℕ} {w : List ℕ} {base n : ℕ} (h : FacesListed v f w base n) (i : ℕ) (l : i < n) where
  both-tests : (ltb (get_or w (base + i) 0) f && proper v (face_at w (get_or w (base + i) 0))) ≡ true
  both-tests = every-slot (λ k. ltb k f && proper v (face_at w k)) w base n h.all_proper i l

  pub slot-below : get_or w (base + i) 0 < f
  slot-below = ltb-true _ f (and_elim_left _ _ both-tests)

  pub slot-proper : proper v (face_at w (get_or w (base + i) 0)) ≡ true
  slot-proper = and_elim_right (ltb (get_or w (base + i) 0) f) _ both-tests

-- the faces around a point are proper, where every live face is
pub around-listed : {v f : ℕ} {w : List ℕ} {x base n : ℕ} → Proper v f w → Around v f w x base n → FacesListed v f w base n
around-listed {v} {f} {w} {x} {base} {n} all a = record {
  above = a.above;
  within = omega (arith, a.within, a.gathered.few);
  all_proper =
      every-implies-below f (live_at f w x) (λ k. proper v (face_at w k))
      (λ k l e. all k l (and_elim_left (lives f w k) (holds x (face_at w k)) e))
      (stretch w base n) a.gathered.slots_live;
}

-- ---- a change of other cells

-- a list that lies above what changes, or under it, stays
module _ {lo hi : ℕ} {w w' : List ℕ} (but : But lo hi w w') (base n : ℕ) (apart : (hi ≤ base) ⊎ (base + n ≤ lo)) where
  slot-but : (i : ℕ) → i < n → get_or w' (base + i) 0 ≡ get_or w (base + i) 0
  slot-but i l = ⊎_elim (λ up. but.over (base + i) (omega arith)) (λ down. but.under (base + i) (omega arith)) apart

  pub slots-but : stretch w' base n ≡ stretch w base n
  slots-but = map-same-below (λ i. get_or w' (base + i) 0) (λ i. get_or w (base + i) 0) n slot-but

module _ (f : ℕ) {lo hi : ℕ} {w w' : List ℕ} (but : But lo hi w w') (above : 4 * f ≤ lo) where
  -- proper faces stay proper
  pub proper-but : (v : ℕ) → Proper v f w → Proper v f w'
  proper-but v all k l e = ap (proper v) (face-but but above k l) ∙ all k l (sym (lives-but but above k l) ∙ e)

  -- and such a list stays one
  module _ (base n : ℕ) (apart : (hi ≤ base) ⊎ (base + n ≤ lo)) where
    pub around-but : {v x : ℕ} → Around v f w x base n → Around v f w' x base n
    around-but a = record {
      above = a.above;
      within = omega (arith, a.within, but.same_length);
      gathered = gathered-but but above (slot-but but base n apart) a.gathered;
    }

    pub listed-but : {v : ℕ} → FacesListed v f w base n → FacesListed v f w' base n
    listed-but {v} h = record {
      above = h.above;
      within = omega (arith, h.within, but.same_length);
      all_proper =
          rw (slots-but but base n apart)
          (every-implies-below f (λ k. proper v (face_at w k)) (λ k. proper v (face_at w' k))
          (λ k l e. ap (proper v) (face-but but above k l) ∙ e)
          (stretch w base n) h.all_proper);
    }
