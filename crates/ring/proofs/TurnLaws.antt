-- The loops over a list of faces: what a turn at the next slot adds to marking, to clearing, to a search and to a count.
-- Assumes nothing.
use Prim.Native.Nat.{ℕ, ◌+◌, ◌≤◌, ◌<◌}
use native.Mathlib.Nat.{add-zero}
use native.Mathlib.Omega.{arith}
use mathlib.Core.Path.{◌≡◌, refl, sym, ap, ◌∙◌}
use mathlib.Core.List.{List}
use mathlib.Core.Bool.{Bool, true, false, ◌||◌, cond}
use lib.ListN.{get_or}
use Rattle.lists.specs.Lists.{sum, count, some, below, stretch}
use Rattle.walk.specs.Faces.{holds, proper, face_at}
use Rattle.memory.specs.Memory.{mark, Unmarked}
use Rattle.lists.specs.Frames.{But}
use Rattle.mesh.specs.Clauses.Around.{Marked, Cleared}
use Rattle.ring.specs.Clauses.Marking.{FacesListed, Remarked, FewMarks}
use Rattle.lists.proofs.EveryLaws.{count_most}
use Rattle.lists.proofs.CondLaws.{cond_either}
use Rattle.lists.proofs.FrameLaws.{but-refl, but-then}
use Rattle.memory.proofs.FrameLaws.{face-but}
use Rattle.ring.proofs.SlotLaws.{slot-below, slot-proper, sum_more, some_more, some-slot, length-slots}
use Rattle.memory.specs.Layout.{marks_from, stamps_from}

-- ---- the next slot

-- A slot that is read in the middle of the loop, where marks have changed since its start: its face is the listed one.
pub record Next (v f : ℕ) (w₀ w : List ℕ) (base i k : ℕ) : Type 0 where
  pub inside : k < f
  pub face : face_at w k ≡ face_at w₀ (get_or w₀ (base + i) 0)
  pub face_proper : proper v (face_at w k) ≡ true

pub next-slot : {v f : ℕ} {w₀ w : List ℕ} {base n i k : ℕ} → FacesListed v f w₀ base n →
    But (marks_from v f) (stamps_from v f) w₀ w → i < n → k ≡ get_or w (base + i) 0 → Next v f w₀ w base i k
next-slot {v} {f} {w₀} {w} {base} {n} {i} {k} h but l read =
    let slot : k ≡ get_or w₀ (base + i) 0 = read ∙ but.over (base + i) (omega (arith, h.above)) in
    let small : k < f = omega (arith, slot-below h i l) in
    let same : face_at w k ≡ face_at w₀ (get_or w₀ (base + i) 0) = face-but but (omega arith) k small ∙ ap (face_at w₀) slot in
    record { inside = small; face = same; face_proper = ap (proper v) same ∙ slot-proper h i l }

module _ {v f : ℕ} {w₀ w : List ℕ} {base i k : ℕ} (next : Next v f w₀ w base i k) (u : ℕ) where
  -- the listed faces that hold u, counted, with the next one
  pub count_next : count (λ k. holds u (face_at w₀ k)) (stretch w₀ base (i + 1))
      ≡ count (λ k. holds u (face_at w₀ k)) (stretch w₀ base i) + cond (holds u (face_at w k)) 1 0
  count_next = rw (ap (holds u) next.face) (sum_more (λ k. cond (holds u (face_at w₀ k)) 1 0) w₀ base i)

  -- whether a listed face holds u, with the next one
  pub some_next : some (λ k. holds u (face_at w₀ k)) (stretch w₀ base (i + 1))
      ≡ (some (λ k. holds u (face_at w₀ k)) (stretch w₀ base i) || holds u (face_at w k))
  some_next = rw (ap (holds u) next.face) (some_more (λ k. holds u (face_at w₀ k)) w₀ base i)

-- ---- marking

pub marked-none : (v f base : ℕ) (w : List ℕ) → Marked v f w base 0 w
unfolding sum below
marked-none v f base w = record {
  but = but-refl (marks_from v f) (stamps_from v f) w;
  marks = λ u l. sym (add-zero (mark v f w u));
}

pub marked_more : {v f : ℕ} {w₀ w w' : List ℕ} {base i k : ℕ} → Next v f w₀ w base i k → Marked v f w₀ base i w →
    Remarked v f (λ u m. m + cond (holds u (face_at w k)) 1 0) w w' → Marked v f w₀ base (i + 1) w'
marked_more {v} {f} {w₀} {w} {w'} {base} {i} {k} next h step = record {
  but = but-then h.but step.but;
  marks = λ u l. omega (arith, step.marks u l, h.marks u l, count_next next u);
}

-- the marks are still small
pub marked-few : {v f : ℕ} {w₀ w : List ℕ} {base i : ℕ} → Unmarked v f w₀ → i < f → Marked v f w₀ base i w → FewMarks v f w
marked-few {v} {f} {w₀} {w} {base} {i} none few h u l =
    omega (arith, h.marks u l, none u l, count_most (λ k. holds u (face_at w₀ k)) (stretch w₀ base i), length-slots w₀ base i)

-- ---- clearing

pub cleared-none : (v f base : ℕ) (w : List ℕ) → Cleared v f w base 0 w
unfolding some below
cleared-none v f base w = record { but = but-refl (marks_from v f) (stamps_from v f) w; marks = λ u l. refl }

pub cleared_more : {v f : ℕ} {w₀ w w' : List ℕ} {base i k : ℕ} → Next v f w₀ w base i k → Cleared v f w₀ base i w →
    Remarked v f (λ u m. cond (holds u (face_at w k)) 0 m) w w' → Cleared v f w₀ base (i + 1) w'
cleared_more {v} {f} {w₀} {w} {w'} {base} {i} {k} next h step = record {
  but = but-then h.but step.but;
  marks = λ u l.
      step.marks u l
      ∙ ap (cond (holds u (face_at w k)) 0) (h.marks u l)
      ∙ rw (some_next next u) (cond_either (some (λ k. holds u (face_at w₀ k)) (stretch w₀ base i)) (holds u (face_at w k)) 0 (mark v f w₀ u));
}

-- ---- looking for a face

-- no slot so far passes a test
pub record NoneOf (test : ℕ → Bool) (w : List ℕ) (base i : ℕ) : Type 0 where
  pub none : some test (stretch w base i) ≡ false

pub none_yet : (test : ℕ → Bool) (w : List ℕ) (base : ℕ) → NoneOf test w base 0
unfolding some below
none_yet test w base = record { none = refl }

module _ {test : ℕ → Bool} {w : List ℕ} {base i : ℕ} (h : NoneOf test w base i) where
  -- the next slot passes, or does not
  module _ {k : ℕ} {r : Bool} (read : k ≡ get_or w (base + i) 0) (answer : r ≡ test k) where
    pub one_found : {n : ℕ} → i < n → r ≡ true → true ≡ some test (stretch w base n)
    one_found {n} l e = sym (some-slot test w base n i l (ap test (sym read) ∙ sym answer ∙ e))

    pub none_more : r ≡ false → NoneOf test w base (i + 1)
    none_more e = record { none = rw (some_more, h.none, ap test (sym read) ∙ sym answer ∙ e) }

-- ---- counting faces

-- so many slots so far pass a test
pub record Tally (test : ℕ → Bool) (w : List ℕ) (base i r : ℕ) : Type 0 where
  pub total : r ≡ count test (stretch w base i)

pub tally-none : (test : ℕ → Bool) (w : List ℕ) (base : ℕ) → Tally test w base 0 0
unfolding sum below
tally-none test w base = record { total = refl }

module _ {test : ℕ → Bool} {w : List ℕ} {base i r : ℕ} (h : Tally test w base i r) where
  pub tally-few : r ≤ i
  tally-few = omega (arith, h.total, count_most test (stretch w base i), length-slots w base i)

  -- the next slot passes, or does not
  pub tally-more : {k : ℕ} {b : Bool} → k ≡ get_or w (base + i) 0 → b ≡ test k →
      {s : ℕ} → s ≡ r + cond b 1 0 → Tally test w base (i + 1) s
  tally-more {k} {b} read answer {s} e = record {
    total =
        e ∙ ap (λ (b : Bool). r + cond b 1 0) (answer ∙ ap test read)
        ∙ ap (λ (m : ℕ). m + cond (test (get_or w (base + i) 0)) 1 0) h.total
        ∙ sym (sum_more (λ k. cond (test k) 1 0) w base i);
  }
