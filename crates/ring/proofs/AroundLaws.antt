-- The faces around a point: gathered, marked, and cleared again.
-- Assumes nothing.
use Prim.Native.Nat.{ℕ, ◌+◌, ◌*◌, ◌≤◌, ◌<◌}
use native.Mathlib.Omega.{arith}
use mathlib.Core.Path.{◌≡◌, sym, ap, ◌∙◌}
use mathlib.Core.Logic.{inl, inr}
use mathlib.Core.List.{List}
use mathlib.Core.Bool.{Bool, true, ◌&&◌, cond}
use mathlib.Mathlib.Data.Bool.Basic.{and_elim_left}
use lib.Dec.{ltb}
use lib.ListN.{length}
use borrow.Author.Tests.{ltb-false}
use Rattle.walk.specs.declared.Face.{Face}
use Rattle.lists.specs.Lists.{every, stretch}
use Rattle.walk.specs.Faces.{shared}
use Rattle.lists.proofs.TestLaws.{by-test}
use Rattle.lists.proofs.EveryLaws.{every-implies}
use Rattle.memory.specs.Memory.{live_faces, mark, Room, Unmarked, live_at}
use Rattle.lists.specs.Frames.{But}
use Rattle.mesh.specs.Clauses.Chains.{Tidy}
use Rattle.mesh.specs.Clauses.Around.{Collected, Marked, Cleared}
use Rattle.ring.specs.Clauses.Marking.{FacesListed, Around, Remarked, held_in}
use Rattle.lists.proofs.FrameLaws.{but-then}
use Rattle.mesh.proofs.TidyLaws.{tidy-but}
use Rattle.mesh.proofs.AroundLaws.{live-faces-but}
use Rattle.ring.proofs.SlotLaws.{around-but, around-listed, listed-but}
use Rattle.ring.proofs.LiveLaws.{count-gathered, some-gathered}
use Rattle.ring.proofs.MarkLaws.{remarked-same}
use Rattle.memory.specs.Layout.{marks_from, near_from, stamps_from}

-- ---- gathered

module _ {v f : ℕ} {w : List ℕ} {x base : ℕ} {w₁ : List ℕ} {n : ℕ} (above : near_from v f ≤ base)
    (h : Collected v f w x base w₁ n) where
  pub collected-tidy : Tidy v f w → Tidy v f w₁
  collected-tidy = tidy-but (omega arith) h.but

  pub collected-around : base + f ≤ length w → Around v f w₁ x base n
  collected-around within = record { above = above; within = omega (arith, h.but.same_length); gathered = h.gathered }

-- the faces around two points, gathered one after the other
pub both-around : {v f : ℕ} {w : List ℕ} {x y near far : ℕ} {w₁ w₂ : List ℕ} {n m : ℕ} →
    near_from v f ≤ near → near + f ≤ far → far + f ≤ length w → Collected v f w x near w₁ n → Collected v f w₁ y far w₂ m →
    Around v f w₂ x near n × Around v f w₂ y far m
both-around {v} {f} {w} {x} {y} {near} {far} {w₁} {w₂} {n} {m} above apart within p q = (
  around-but f q.but (omega arith) near n (inr (omega (arith, p.gathered.few))) (collected-around above p (omega arith)),
  collected-around (omega arith) q (omega (arith, p.but.same_length)),
)

-- ---- what is asked of a list by those that mark its faces, that look at it later, and that count

module _ {v f : ℕ} {w : List ℕ} {x base n : ℕ} (t : Tidy v f w) (a : Around v f w x base n) where
  pub may-mark : Room v f w × (Unmarked v f w × (FacesListed v f w base n × (n ≤ f)))
  may-mark = (t.room, (t.unmarked, (around-listed t.faces_proper a, a.gathered.few)))

  pub may-look : {w₁ : List ℕ} → But (marks_from v f) (stamps_from v f) w w₁ → Room v f w₁ × FacesListed v f w₁ base n
  may-look but = (
    omega (arith, t.room, but.same_length),
    listed-but f but (omega arith) base n (inl (omega (arith, a.above))) (around-listed t.faces_proper a),
  )

  pub may-count : (3 * f ≤ length w) × ((base + n ≤ length w) × (every (λ k. ltb k f) (stretch w base n) ≡ true))
  may-count = (
    omega (arith, t.room),
    (
      omega (arith, a.within, a.gathered.few),
      every-implies (λ k. ltb k f && live_at f w x k) (λ k. ltb k f) (λ k. and_elim_left (ltb k f) (live_at f w x k)) (stretch w base n)
          a.gathered.slots_live,
    ),
  )

-- the same of a list that has just been gathered
module _ {v f : ℕ} {w : List ℕ} {x base : ℕ} {w₁ : List ℕ} {n : ℕ} (t : Tidy v f w) (here : base ≡ near_from v f)
    (h : Collected v f w x base w₁ n) where
  pub gathered-tidy : Tidy v f w₁
  gathered-tidy = collected-tidy (omega arith) h t

  pub gathered-around : Around v f w₁ x base n
  gathered-around = collected-around (omega arith) h (omega (arith, t.room.long))

  pub gathered-marks : Room v f w₁ × (Unmarked v f w₁ × (FacesListed v f w₁ base n × (n ≤ f)))
  gathered-marks = may-mark gathered-tidy gathered-around

  pub gathered-looks : {w₂ : List ℕ} → Marked v f w₁ base n w₂ → Room v f w₂ × FacesListed v f w₂ base n
  gathered-looks m = may-look gathered-tidy gathered-around m.but

-- ---- marked

module _ {v f : ℕ} {w : List ℕ} {x base n : ℕ} (t : Tidy v f w) (a : Around v f w x base n)
    {w₁ : List ℕ} (m : Marked v f w base n w₁) where
  -- each mark is the number of faces that hold both
  pub marks-shared : (u : ℕ) → u < v → mark v f w₁ u ≡ shared (live_faces f w) x u
  marks-shared u l = omega (arith, m.marks u l, t.unmarked u l, count-gathered a.gathered u)

  pub around-marked : Around v f w₁ x base n
  around-marked = around-but f m.but (omega arith) base n (inl (omega (arith, a.above))) a

  -- ---- and cleared again

  module _ {rule : ℕ → ℕ → ℕ} {w₂ : List ℕ} (r : Remarked v f rule w₁ w₂) where
    -- the points of the listed faces are those that were marked
    held-marked : (u : ℕ) → u < v → held_in w₂ base n u ≡ ltb 0 (mark v f w₁ u)
    held-marked u l =
        some-gathered (around-but f r.but (omega arith) base n (inl (omega (arith, a.above))) around-marked).gathered u
        ∙ ap (λ (faces : List Face). ltb 0 (shared faces x u))
        (live-faces-but f r.but (omega arith) ∙ live-faces-but f m.but (omega arith))
        ∙ ap (ltb 0) (sym (marks-shared u l))

    -- Where only marked points got another mark, clearing the same faces brings the memory back.
    pub cleared-back : {w₃ : List ℕ} → ((u : ℕ) → rule u 0 ≡ 0) → Cleared v f w₂ base n w₃ → w₃ ≡ w
    cleared-back {w₃} stays c =
        remarked-same {v = v} {f = f} record {
          but = but-then m.but (but-then r.but c.but);
          marks = λ u l.
              c.marks u l
              ∙ ap (λ (b : Bool). cond b 0 (mark v f w₂ u)) (held-marked u l)
              ∙ by-test (ltb 0 (mark v f w₁ u))
              (λ e. rw e (sym (t.unmarked u l)))
              (λ e.
              let unmarked : mark v f w₁ u ≡ 0 = omega (arith, ltb-false 0 (mark v f w₁ u) e) in
              rw e (r.marks u l ∙ ap (rule u) unmarked ∙ stays u ∙ sym (t.unmarked u l)));
        }
