-- Listed points and marked ones are together the same, whatever marks are taken off.
-- Assumes nothing.
use Prim.Native.Nat.{ℕ, ◌+◌, ◌<◌}
use native.Mathlib.Numerals.{add-one}
use native.Mathlib.Omega.{arith}
use mathlib.Core.Path.{◌≡◌, refl, sym, ap, ◌∙◌}
use mathlib.Core.Logic.{◌≢◌}
use mathlib.Core.List.{List}
use mathlib.Core.Bool.{Bool, not, ◌||◌, cond}
use lib.Dec.{eqb}
use lib.ListN.{get_or, set}
use lib.Seq.{get_or-set_same, get_or-set_other}
use borrow.Author.Tests.{eqb-true, ne_eqb}
use Rattle.walk.specs.declared.Face.{Face}
use Rattle.lists.specs.Lists.{sum, below}
use Rattle.walk.specs.Faces.{holds, face_at}
use Rattle.lists.proofs.TestLaws.{by-test}
use Rattle.lists.proofs.CondLaws.{cond_either}
use Rattle.lists.proofs.SumLaws.{sum-those, sum-length, sum-add}
use Rattle.lists.proofs.BelowLaws.{sum_below, sum-same-below, sum-single, sum_ones}
use Rattle.memory.specs.Memory.{mark, Room, around_in, near_at}
use Rattle.lists.specs.Frames.{But}
use Rattle.mesh.proofs.AroundLaws.{sum-slots}
use Rattle.lists.proofs.FrameLaws.{but-set}
use Rattle.ring.specs.Clauses.Marking.{Remarked}
use Rattle.ring.specs.Clauses.Wanting.{found}
use Rattle.ring.specs.Clauses.Taking.{marked, Taken, MarksReady}
use Rattle.ring.proofs.FrameLaws.{framed-refl, framed_then, framed-marks, framed-points, framed-room}
use Rattle.ring.proofs.WantedLaws.{found_none, found-next}
use Rattle.memory.specs.Layout.{around_from, marks_from, folds_from}

module _ (v f : ℕ) where
  -- ---- the marked points, as a sum over all points

  -- what the point u adds to it
  abbrev pub counted : List ℕ → (ℕ → ℕ) → ℕ → ℕ
  counted w g u = cond (not (eqb (mark v f w u) 0)) (g u) 0

  pub marked-sum : (w : List ℕ) (g : ℕ → ℕ) → sum g (marked v f w) ≡ sum (counted w g) (below v)
  unfolding marked
  marked-sum w g = sum-those g _ (below v)

  module _ (w w' : List ℕ) where
    -- the same points are marked
    marked-same : ((u : ℕ) → u < v → mark v f w' u ≡ mark v f w u) → (g : ℕ → ℕ) → sum g (marked v f w') ≡ sum g (marked v f w)
    marked-same same g =
        marked-sum w' g ∙ sum-same-below (counted w' g) (counted w g) v (λ u l. rw (same u l)) ∙ sym (marked-sum w g)

    -- one mark is taken off
    marked-less : (y : ℕ) → y < v → mark v f w y ≢ 0 → ((u : ℕ) → u < v → mark v f w' u ≡ cond (eqb u y) 0 (mark v f w u)) → (g : ℕ → ℕ) →
        sum g (marked v f w') + g y ≡ sum g (marked v f w)
    marked-less y y-in was now-off g =
        let one : ℕ → ℕ = λ u. cond (eqb u y) (g u) 0 in
        let here : (u : ℕ) → u < v → counted w g u ≡ counted w' g u + one u =
        λ u l. by-test (eqb u y)
        (λ e. rw (now-off u l, e, eqb-true u y e, ne_eqb (mark v f w y) 0 was) (omega arith))
        (λ e. rw (now-off u l, e) (omega arith)) in
        omega (
          arith,
          marked-sum w' g,
          marked-sum w g,
          sum-same-below (counted w g) (λ u. counted w' g u + one u) v here,
          sum-add (counted w' g) one (below v),
          sum-single g y v y-in,
        )

  -- ---- the listed points, as a sum over their places

  pub listed-none : (w : List ℕ) (g : ℕ → ℕ) → sum g (around_in v f w 0) ≡ 0
  unfolding sum below
  listed-none w g = refl

  pub listed_next : (w : List ℕ) (n : ℕ) (g : ℕ → ℕ) → sum g (around_in v f w (n + 1)) ≡ sum g (around_in v f w n) + g (get_or w (around_from v f + n) 0)
  listed_next w n g =
      rw add-one
      (sum-slots g w (around_from v f) _
      ∙ sum_below (λ i. g (get_or w (around_from v f + i) 0)) n
      ∙ ap (λ (k : ℕ). k + g (get_or w (around_from v f + n) 0)) (sym (sum-slots g w (around_from v f) n)))

  pub listed-count : (w : List ℕ) (n : ℕ) → sum (λ u. 1) (around_in v f w n) ≡ n
  listed-count w n = sum-slots (λ u. 1) w (around_from v f) n ∙ sum_ones n

  -- two memories with the same points there
  pub listed_same : (w w' : List ℕ) (n : ℕ) → ((i : ℕ) → i < n → get_or w' (around_from v f + i) 0 ≡ get_or w (around_from v f + i) 0) → (g : ℕ → ℕ) →
      sum g (around_in v f w' n) ≡ sum g (around_in v f w n)
  listed_same w w' n same g =
      sum-slots g w' (around_from v f) n ∙ sum-same-below _ _ n (λ i l. ap g (same i l)) ∙ sym (sum-slots g w (around_from v f) n)

-- ---- marks taken off

-- the mark of y is taken off
pub record Unmark (v f : ℕ) (w : List ℕ) (n y : ℕ) (w' : List ℕ) : Type 0 where
  pub ready : MarksReady v f w n
  pub within : y < v
  pub was : mark v f w y ≢ 0
  pub written : Remarked v f (λ u m. cond (eqb u y) 0 m) w w'

module _ {v f : ℕ} where
  -- nothing is done
  taken_none : {w : List ℕ} {n : ℕ} {which : ℕ → Bool} → ((u : ℕ) → u < v → mark v f w u ≡ cond (which u) 0 (mark v f w u)) →
      Taken v f which w n w n
  taken_none {w} off = record { frame = framed-refl v f w; marks = off; sums = λ g. refl }

  -- where a point has no mark, none is taken off
  pub taken-unmarked : {w : List ℕ} {n : ℕ} (y : ℕ) → mark v f w y ≡ 0 → Taken v f (λ u. eqb u y) w n w n
  taken-unmarked y off =
      taken_none (λ u l. by-test (eqb u y) (λ e. rw (e, eqb-true u y e) off) (λ e. rw e))

  module _ {w w' : List ℕ} {n y : ℕ} (off : Unmark v f w n y w') where
    -- what was marked is what is marked still and the point
    unmark-sum : (g : ℕ → ℕ) → sum g (marked v f w') + g y ≡ sum g (marked v f w)
    unmark-sum = marked-less v f w w' y off.within off.was off.written.marks

    unmark-room : Room v f w'
    unmark-room = framed-room (framed-marks off.written.but) off.ready.room

    -- there is a place for it
    unmark-place : n < v
    unmark-place = omega (arith, off.ready.enough, unmark-sum (λ u. 1), sum-length (marked v f w))

    -- and it is listed
    pub taken-one : {w'' : List ℕ} → w'' ≡ set w' (around_from v f + n) y → Taken v f (λ u. eqb u y) w n w'' (n + 1)
    taken-one {w''} e =
        let place = unmark-place in
        let but : But (around_from v f) (folds_from v f) w' w'' = rw e (but-set _ _ w' (around_from v f + n) y (omega arith) (omega arith)) in
        let same-marks : (u : ℕ) → u < v → mark v f w'' u ≡ mark v f w' u = λ u l. but.under (marks_from v f + u) (omega arith) in
        let here : get_or w'' (around_from v f + n) 0 ≡ y =
        rw e (get_or-set_same w' (around_from v f + n) y 0 (omega (arith, unmark-room.long))) in
        let others : (i : ℕ) → i < n → get_or w'' (around_from v f + i) 0 ≡ get_or w (around_from v f + i) 0 =
        λ i l. rw e (get_or-set_other w' (around_from v f + n) (around_from v f + i) y 0 (omega arith)) ∙ off.written.but.over (around_from v f + i) (omega arith) in
        record {
          frame = framed_then (framed-marks off.written.but) (framed-points but);
          marks = λ u l. same-marks u l ∙ off.written.marks u l;
          sums = λ g.
              omega (
                arith,
                listed_next v f w'' n g,
                ap g here,
                listed_same v f w w'' n others g,
                marked-same v f w' w'' same-marks g,
                unmark-sum g,
              );
        }

  -- ---- one corner after another, one face after another

  -- some marks, and then others
  pub taken_then : {a b : ℕ → Bool} {w w' w'' : List ℕ} {n n' n'' : ℕ} → Taken v f a w n w' n' → Taken v f b w' n' w'' n'' →
      Taken v f (λ u. a u || b u) w n w'' n''
  taken_then {a} {b} {w} one two =
      record {
        frame = framed_then one.frame two.frame;
        marks = λ u l. two.marks u l ∙ ap (λ (m : ℕ). cond (b u) 0 m) (one.marks u l) ∙ cond_either (a u) (b u) 0 (mark v f w u);
        sums = λ g. two.sums g ∙ one.sums g;
      }

  -- the same ones, said otherwise
  taken_as : {a b : ℕ → Bool} {w w' : List ℕ} {n n' : ℕ} → ((u : ℕ) → a u ≡ b u) → Taken v f a w n w' n' → Taken v f b w n w' n'
  taken_as {a} {b} {w} same one =
      record { frame = one.frame; marks = λ u l. one.marks u l ∙ ap (λ (t : Bool). cond t 0 (mark v f w u)) (same u); sums = one.sums }

  -- there is a place for each point that is marked still
  pub ready-after : {which : ℕ → Bool} {w w' : List ℕ} {n n' : ℕ} → MarksReady v f w n → Taken v f which w n w' n' → MarksReady v f w' n'
  ready-after {which} {w} {w'} {n} {n'} ready step =
      record {
        room = framed-room step.frame ready.room;
        enough = omega (
          arith,
          ready.enough,
          step.sums (λ u. 1),
          listed-count v f w n,
          listed-count v f w' n',
          sum-length (marked v f w),
          sum-length (marked v f w'),
        );
      }

-- the marks of the points of the first i faces are off
pub record Taking (v f : ℕ) (w : List ℕ) (n i : ℕ) (w' : List ℕ) (n' : ℕ) : Type 0 where
  pub so_far : Taken v f (λ u. found v f w i (holds u)) w n w' n'

module _ {v f : ℕ} {w : List ℕ} {n : ℕ} where
  pub taking-none : Taking v f w n 0 w n
  taking-none = record { so_far = taken_none (λ u l. rw (found_none v f w (holds u))) }

  pub taking-next : {i : ℕ} {w' w'' : List ℕ} {n' n'' : ℕ} → Taking v f w n i w' n' →
      {face : Face} → face ≡ face_at w (near_at v f w i) → Taken v f (λ u. holds u face) w' n' w'' n'' → Taking v f w n (i + 1) w'' n''
  taking-next {i} before here more =
      record {
        so_far =
            taken_as (λ u. ap (λ (r : Face). found v f w i (holds u) || holds u r) here ∙ sym (found-next v f w i (holds u)))
            (taken_then before.so_far more);
      }

  pub taking-all : {i k : ℕ} {w' : List ℕ} {n' : ℕ} → i ≡ k → Taking v f w n i w' n' → Taken v f (λ u. found v f w k (holds u)) w n w' n'
  taking-all e end = taken_as (λ u. ap (λ (j : ℕ). found v f w j (holds u)) e) end.so_far
