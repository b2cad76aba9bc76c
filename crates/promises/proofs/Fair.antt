-- No fold turns over or squashes a face: what each fold of the walk does to each live face, as the mesh is before the step and after it.
-- Assumes nothing.
use Prim.Native.Nat.{ℕ, ◌+◌, ◌≤◌}
use mathlib.Core.Path.{◌≡◌, sym, ap, ◌∙◌}
use mathlib.Core.Logic.{◌≢◌}
use mathlib.Core.List.{Memᴰ}
use mathlib.Core.Bool.{true, false, not, ◌||◌}
use mathlib.Mathlib.Data.Bool.Basic.{and_elim_right}
use borrow.Author.Tests.{not-true, not-false}
use lib.ListN.{length}
use lib.Ieee.{binary32, mul, lt}
use Rattle.geometry.specs.declared.Point.{Point}
use Rattle.geometry.specs.Points.{dot, norm}
use Rattle.placement.specs.declared.pair.Vertex.{Vertex}
use Rattle.lists.proofs.TestLaws.{clash, both_true, neither-of}
use Rattle.walk.specs.declared.Face.{Face}
use Rattle.walk.specs.declared.Pair.{Pair}
use Rattle.walk.specs.Faces.{holds, both, shared, common, renamed_face, Mesh, data_of}
use Rattle.walk.specs.Fold.{folded_faces, folded_mesh}
use Rattle.std.specs.Prelude.{Ok}
use Rattle.walk.specs.FoldTest.{fold_test}
use Rattle.walk.specs.Walk.{State, StepAnswer, folded, after, plain_machine}
use Rattle.walk.proofs.FaceLaws.{holds-gone}
use Rattle.walk.proofs.SoundLaws.{is_open_pair, open-differ, open-below}
use Rattle.walk.proofs.FoldLaws.{fold-exact}
use Rattle.walk.proofs.StepLaws.{answer-folded}
use Rattle.walk.proofs.MachineLaws.{walk-last}
use Rattle.walk.proofs.FairLaws as fair
use Rattle.std.specs.Prelude.{Ok}
use Rattle.meaning.specs.declared.Task.TheVariants.{Admitted}
use Rattle.meaning.specs.Input.{Input, points_in}
use Rattle.meaning.specs.Answers.{verdict_of}
use Rattle.meaning.specs.Arithmetic.{tiny, hundredth, rules_of, squashed_points, turned_points, squashed_normals, turned_normals}
use Rattle.meaning.specs.Outcome.{rules_in, start_of, target_of}
use Rattle.promises.specs.Steps.{state_at, answer_at, faces_at, carried, normal_at}
use Rattle.promises.specs.Fair.{NotTurned, holds_one, holds_neither}
use Rattle.promises.proofs.Ended.{states-sound, states-points}

-- what the two tests of document 01 say that don't fail
not-turned : (before after : Point) → (squashed_normals before after ≡ false) × (turned_normals before after ≡ false) → NotTurned before after
not-turned before after (squashed, turned) =
    record { not_squashed = not-false (lt (mul binary32 tiny (norm before)) (norm after)) squashed; not_over = not-false (lt (mul binary32 (mul binary32 hundredth (norm before)) (norm after)) (dot before after)) turned }

-- the mesh after the step is the folded mesh
pub mesh-after : (i : Input) (n : ℕ) (p : Pair) → answer_at i n ≡ folded p → (state_at i (n + 1)).mesh ≡ folded_mesh (rules_in i) (state_at i n).mesh p
unfolding after
mesh-after i n p e =
    ap (λ (s : State Vertex). s.mesh) (walk-last (plain_machine (rules_in i) (target_of i)) n (start_of i))
    ∙ ap (λ (a : StepAnswer). (after (rules_in i) (state_at i n) a).mesh) e

module _ (i : Input) (admitted : verdict_of i ≡ Ok Admitted) (n : ℕ) (p : Pair) (is-folded : answer_at i n ≡ folded p) where
  -- what the answer tells: the pair is open, and its fold is allowed
  told : is_open_pair (state_at i n) p × (fold_test (rules_in i) (state_at i n).mesh p ≡ Ok tt)
  told = answer-folded (rules_in i) (target_of i) (state_at i n) p is-folded

  -- keep and remove are two points
  pub fold-of-two : p.keep ≢ p.remove
  fold-of-two = open-differ (state_at i n) (states-sound i admitted n) p told.0

  -- the faces after the step, and what the points carry there
  faces-after : faces_at i (n + 1) ≡ folded_faces (faces_at i n) p
  unfolding folded_mesh
  faces-after = ap (λ (m : Mesh Vertex). m.faces) (mesh-after i n p is-folded)

  carried-after : (x : ℕ) → carried i (n + 1) x ≡ data_of (rules_in i) (folded_mesh (rules_in i) (state_at i n).mesh p) x
  carried-after x = ap (λ (m : Mesh Vertex). data_of (rules_in i) m x) (mesh-after i n p is-folded)

  -- ---- how many

  -- the live faces that hold both number at least 1
  pub shared-least : 1 ≤ shared (faces_at i n) p.keep p.remove
  shared-least = fair.shared-least (rules_in i) (state_at i n).mesh p told.1

  -- and the common neighbours number the same
  pub common-same : common (points_in i) (faces_at i n) p.keep p.remove ≡ shared (faces_at i n) p.keep p.remove
  common-same =
      ap (λ v. common v (faces_at i n) p.keep p.remove) (sym (states-points i admitted n))
      ∙ fair.common-same (rules_in i) (state_at i n).mesh p told.1

  -- ---- each live face

  module _ (f : Face) (live : Memᴰ f (faces_at i n)) where
    -- one that does not hold both is there after the step, with remove's number turned to keep's
    stays : both p.keep p.remove f ≡ false → Memᴰ (renamed_face p.keep p.remove f) (faces_at i (n + 1))
    stays not-both = rw faces-after (fair.face-stays (faces_at i n) p f live not-both)

    -- one that holds just one of the two is neither squashed nor turned over
    pub one-stays-fair :
        holds_one p f ≡ true
        → Memᴰ (renamed_face p.keep p.remove f) (faces_at i (n + 1))
        × NotTurned (normal_at i n f) (normal_at i (n + 1) (renamed_face p.keep p.remove f))
    unfolding rules_of squashed_points turned_points
    one-stays-fair one =
        let parts = both_true (holds p.keep f || holds p.remove f) (not (both p.keep p.remove f)) one in
        let not-both = not-true (both p.keep p.remove f) parts.1 in
        let g = renamed_face p.keep p.remove f in (
          stays not-both,
          rw (carried-after g.a, carried-after g.b, carried-after g.c)
              (not-turned _ _
              (fair.one-fair (rules_in i) (state_at i n).mesh p fold-of-two (open-below (state_at i n) (states-sound i admitted n) p told.0).0
              told.1 f live parts.0 not-both)),
        )

    -- one that holds neither is there as it was, and so is what its points carry
    pub neither-stays-same :
        holds_neither p f ≡ true
        → Memᴰ f (faces_at i (n + 1)) × ((x : ℕ) → holds x f ≡ true → carried i (n + 1) x ≡ carried i n x)
    neither-stays-same none =
        let parts = neither-of (holds p.keep f) (holds p.remove f) (not-true _ none) in (
          rw (fair.face-same p.keep p.remove f parts.1) at (stays (rw parts.0)),
          λ x has. carried-after x ∙ fair.neither-same (rules_in i) (state_at i n).mesh p f parts.0 x has,
        )

  -- ---- the faces after the step

  -- each is one that does not hold both, renamed
  pub each-was :
      (g : Face) → Memᴰ g (faces_at i (n + 1))
      → (f : Face) × Memᴰ f (faces_at i n) × (both p.keep p.remove f ≡ false) × (g ≡ renamed_face p.keep p.remove f)
  each-was g m = fair.face-was (faces_at i n) p g (rw faces-after at m)

  -- one that holds both is gone
  pub both-gone : (f : Face) → both p.keep p.remove f ≡ true → Memᴰ f (faces_at i (n + 1)) → ⊥
  both-gone f holds-both m =
      let was = each-was f m in
      clash (and_elim_right (holds p.keep f) (holds p.remove f) holds-both)
      (ap (holds p.remove) was.3 ∙ holds-gone p.keep p.remove fold-of-two was.0)

  -- and no other is
  pub others-counted : length (faces_at i (n + 1)) + shared (faces_at i n) p.keep p.remove ≡ length (faces_at i n)
  others-counted = rw faces-after (fold-exact (faces_at i n) p)
