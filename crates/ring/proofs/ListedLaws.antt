-- The points that are listed around a point are those that the definition names: the gathered faces ask for just these, and no mark is left.
-- Assumes nothing.
use Prim.Native.Nat.{ℕ, zero, suc, ◌+◌, ◌-◌, ◌≤◌, ◌<◌}
use native.Mathlib.Numerals.{add-one}
use native.Mathlib.Omega.{arith}
use mathlib.Core.Path.{◌≡◌, refl, sym, subst, ap, ap₂, ◌∙◌}
use mathlib.Core.List.{List}
use mathlib.Core.Bool.{Bool, true, false, not, ◌&&◌, ◌||◌, cond}
use mathlib.Mathlib.Data.Bool.Basic.{and_elim_left}
use lib.Dec.{ltb, eqb}
use lib.ListN.{get_or}
use borrow.Author.Tests.{ltb-true, ltb-false, lt-ltb}
use Rattle.walk.specs.declared.Face.{Face}
use Rattle.lists.specs.Lists.{sum, those, below, stretch}
use Rattle.walk.specs.Faces.{holds, proper, face_at}
use Rattle.lists.proofs.EveryLaws.{some-implies, every-counted}
use Rattle.lists.proofs.TestLaws.{by-test, clash, false_of}
use Rattle.lists.proofs.SumLaws.{sum-those, sum-length}
use Rattle.memory.specs.Memory.{live_faces, mark, Room, Unmarked, around_in}
use Rattle.mesh.specs.Clauses.Chains.{Tidy}
use Rattle.mesh.specs.Clauses.Around.{Collected}
use Rattle.lists.proofs.BelowLaws.{sum-same-below, sum-none, count-below-most, every-each}
use Rattle.memory.proofs.FrameLaws.{lives-but, face-but}
use Rattle.mesh.proofs.AroundLaws.{live-faces-but}
use Rattle.ring.specs.declared.Neighbours.{Neighbours}
use Rattle.ring.specs.Clauses.Listing.{is_around, AroundListed}
use Rattle.ring.specs.Clauses.Wanting.{Near, found, wanted, Marks}
use Rattle.ring.specs.Clauses.Taking.{marked, Framed, Taken, MarksReady}
use Rattle.ring.proofs.FrameLaws.{framed_then, framed-marks, framed-list, framed-room, face-listed}
use Rattle.ring.proofs.WantedLaws.{found_none, found-next}
use Rattle.ring.proofs.TakeLaws.{counted, marked-sum, listed-none, listed-count}
use Rattle.ring.proofs.NearLaws.{some-around, near-gathered, wanted-around}
use Rattle.memory.specs.Layout.{around_from, marks_from, near_from, stamps_from}

-- what a face around x asks of u
abbrev asked : Neighbours → ℕ → ℕ → Face → Bool
asked which x u face = holds u face && wanted which x u face

-- ---- found, in two memories and by two tests

found_framed : {v f : ℕ} {w w' : List ℕ} → Framed v f w w' → (n : ℕ) → n ≤ f → Near v f w n → (test : Face → Bool) →
    found v f w' n test ≡ found v f w n test
found_framed {v} {f} {w} {w'} frame zero few near test = found_none v f w' test ∙ sym (found_none v f w test)
found_framed {v} {f} {w} {w'} frame (suc n) few near test =
    rw (← add-one n)
    (found-next v f w' n test
    ∙ ap₂ ◌||◌ (found_framed frame n (omega arith) (λ i l. near i (omega arith)) test) (ap test (face-listed frame few near n (omega arith)))
    ∙ sym (found-next v f w n test))

-- a mark that is set is not 0
marked-flag : (b : Bool) → not (eqb (cond b 1 0) 0) ≡ b
marked-flag true = refl
marked-flag false = refl

-- ---- from one memory to the next

-- where the faces are gathered may be said otherwise
pub collected-from : {v f : ℕ} {w w' : List ℕ} {x at base n : ℕ} → at ≡ base → Collected v f w x at w' n → Collected v f w x base w' n
collected-from {v} {f} {w} {w'} {x} {n = n} same = subst (λ (k : ℕ). Collected v f w x k w' n) same

module _ {v f : ℕ} {w₀ w₁ : List ℕ} {x count : ℕ} (tidy : Tidy v f w₀) (collected : Collected v f w₀ x (near_from v f) w₁ count) where
  -- the faces are gathered: sizes, marks and the mesh are as they were
  pub gathered-room : Room v f w₁
  gathered-room = record {
    points_few = tidy.room.points_few;
    faces_few = tidy.room.faces_few;
    long = omega (arith, tidy.room.long, collected.but.same_length);
  }

  pub gathered-near : Near v f w₁ count
  gathered-near =
      near-gathered
      (λ k l live. ap (proper v) (face-but collected.but (omega arith) k l) ∙ tidy.faces_proper k l (sym (lives-but collected.but (omega arith) k l) ∙ live))
      collected.gathered

  gathered-unmarked : Unmarked v f w₁
  gathered-unmarked u l = collected.but.under (marks_from v f + u) (omega arith) ∙ tidy.unmarked u l

  module _ (which : Neighbours) {w₂ : List ℕ} (was-marked : Marks v f (λ u. found v f w₁ count (asked which x u)) w₁ w₂) where
    -- the points are marked: those that the faces ask for
    pub marked-near : Near v f w₂ count
    marked-near = framed-list (framed-marks was-marked.but) collected.gathered.few gathered-near

    marked-asked : (u : ℕ) → u < v → mark v f w₂ u ≡ cond (found v f w₁ count (asked which x u)) 1 0
    marked-asked u l = was-marked.marks u l ∙ ap (λ (m : ℕ). cond (found v f w₁ count (asked which x u)) 1 m) (gathered-unmarked u l)

    -- a face asks for no point that it doesn't hold
    none-asked : (u : ℕ) → found v f w₁ count (holds u) ≡ false → found v f w₁ count (asked which x u) ≡ false
    none-asked u none =
        false_of (found v f w₁ count (asked which x u))
        (λ t. clash (some-implies _ _ (λ k e. and_elim_left (holds u (face_at w₁ k)) (wanted which x u (face_at w₁ k)) e) (stretch w₁ (near_from v f) count) t) none)

    -- these are the points around x
    marked-around : (g : ℕ → ℕ) → sum g (marked v f w₂) ≡ sum g (those (is_around which (live_faces f w₀) x) (below v))
    marked-around g =
        let faces = live_faces f w₁ in
        let same : (u : ℕ) → u < v → counted v f w₂ g u ≡ cond (is_around which faces x u) (g u) 0 =
        λ u l. ap (λ (b : Bool). cond b (g u) 0)
        (ap (λ (k : ℕ). not (eqb k 0)) (marked-asked u l)
        ∙ marked-flag (found v f w₁ count (asked which x u))
        ∙ some-around collected.gathered (asked which x u)
        ∙ wanted-around which faces x u) in
        marked-sum v f w₂ g
        ∙ sum-same-below (counted v f w₂ g) (λ u. cond (is_around which faces x u) (g u) 0) v same
        ∙ sym (sum-those g (is_around which faces x) (below v))
        ∙ ap (λ (fs : List Face). sum g (those (is_around which fs x) (below v))) (live-faces-but f collected.but (omega arith))

    -- there is a place for each of them
    pub marked-ready : MarksReady v f w₂ 0
    marked-ready =
        record {
          room = framed-room (framed-marks was-marked.but) gathered-room;
          enough = omega (
            arith,
            marked-sum v f w₂ (λ u. 1),
            count-below-most (λ u. not (eqb (mark v f w₂ u) 0)) v,
            sum-length (marked v f w₂),
          );
        }

    module _ {w₃ : List ℕ} {n : ℕ} (done : Taken v f (λ u. found v f w₂ count (holds u)) w₂ 0 w₃ n) where
      -- the marks are off, each of them
      none_left : Unmarked v f w₃
      none_left u l =
          let same : found v f w₂ count (holds u) ≡ found v f w₁ count (holds u) =
          found_framed (framed-marks was-marked.but) count collected.gathered.few gathered-near (holds u) in
          done.marks u l
          ∙ by-test (found v f w₁ count (holds u))
          (λ t. rw (same, t))
          (λ t. rw (same, t) (marked-asked u l ∙ ap (λ (b : Bool). cond b 1 0) (none-asked u t)))

      none-marked : (g : ℕ → ℕ) → sum g (marked v f w₃) ≡ 0
      none-marked g = marked-sum v f w₃ g ∙ sum-none (counted v f w₃ g) v (λ u l. rw (none_left u l))

      -- so every cell below the gathered faces is as it was
      same-under : (i : ℕ) → i < near_from v f → get_or w₃ i 0 ≡ get_or w₀ i 0
      same-under i l =
          let frame = framed_then (framed-marks was-marked.but) done.frame in
          let u = i - (marks_from v f) in
          by-test (ltb i (marks_from v f))
          (λ t. frame.under i (ltb-true _ _ t) ∙ collected.but.under i l)
          (λ above. by-test (ltb i (stamps_from v f))
          (λ t.
          let low = ltb-false i (marks_from v f) above in
          let high = ltb-true i (stamps_from v f) t in
          let here : marks_from v f + u ≡ i = omega arith in
          rw here at (none_left u (omega arith) ∙ sym (tidy.unmarked u (omega arith))))
          (λ t. frame.between i (ltb-false _ _ t) (omega arith) ∙ collected.but.under i l))

      pub listed-all : AroundListed v f w₀ which x w₃ n
      listed-all =
          let frame = framed_then (framed-marks was-marked.but) done.frame in
          record {
            but = record {
              same_length = frame.same_length ∙ collected.but.same_length;
              under = same-under;
              over = λ i l. frame.over i l ∙ collected.but.over i (omega arith);
            };
            sums = λ g. omega (arith, done.sums g, none-marked g, listed-none v f w₂ g, marked-around g);
          }

-- ---- what the sums say of the list

module _ {v f : ℕ} {w w' : List ℕ} {which : Neighbours} {x n : ℕ} (done : AroundListed v f w which x w' n) where
  -- it is no longer than there are points
  pub listed-few : n ≤ v
  listed-few =
      let test = is_around which (live_faces f w) x in
      omega (arith, listed-count v f w' n, done.sums (λ u. 1), sum-those (λ u. 1) test (below v), count-below-most test v)

  -- and each of it is one of them
  pub listed-within : (i : ℕ) → i < n → get_or w' (around_from v f + i) 0 < v
  listed-within i l =
      let test = is_around which (live_faces f w) x in
      let none : sum (λ u. cond (ltb u v) 0 1) (around_in v f w' n) ≡ 0 =
      done.sums (λ u. cond (ltb u v) 0 1)
      ∙ sum-those (λ u. cond (ltb u v) 0 1) test (below v)
      ∙ sum-none _ v (λ u m. rw (lt-ltb u v m) (by-test (test u) (λ e. rw e) (λ e. rw e))) in
      ltb-true _ v (every-each (λ u. ltb u v) (λ i. get_or w' (around_from v f + i) 0) n (every-counted (λ u. ltb u v) (around_in v f w' n) none) i l)
