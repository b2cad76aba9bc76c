-- The fold of an open pair in memory: the mesh is folded, pairs are dropped, pairs are opened, and the state is the plain walk's after that fold.
-- Assumes nothing.
use Prim.Native.Nat.{ℕ, ◌+◌, ◌*◌, ◌-◌, ◌≤◌}
use native.Mathlib.Omega.{arith}
use mathlib.Core.Path.{◌≡◌, refl, sym, ap, ap₂, ◌∙◌}
use mathlib.Core.List.{List}
use lib.Ieee.{Float}
use lib.ListN.{length, length-append}
use Rattle.std.specs.Prelude.{Option}
use Rattle.placement.specs.declared.pair.Vertex.{Vertex}
use Rattle.lists.specs.Lists.{sum, those}
use Rattle.walk.specs.Faces.{Mesh}
use Rattle.walk.specs.Fold.{folded_mesh}
use Rattle.walk.specs.Walk.{folded, after, SameState}
use Rattle.walk.specs.Pairs.{pair_of, apart, opened}
use Rattle.lists.proofs.SumLaws.{sum-append}
use Rattle.walk.proofs.SoundLaws.{is_open_pair, fold-sound}
use Rattle.walk.proofs.StepLaws.{fold-room}
use Rattle.memory.specs.Memory.{live_faces}
use Rattle.mesh.specs.Clauses.Chains.{Tidy}
use Rattle.lists.proofs.FrameLaws.{but-widen}
use Rattle.mesh.proofs.TidyLaws.{tidy-but}
use Rattle.mesh.proofs.AroundLaws.{live-faces-but, live-few}
use Rattle.memory.specs.Points.{mesh_of}
use Rattle.meaning.specs.Arithmetic.{rules_of}
use Rattle.openpairs.specs.State.{open_pairs, state_of}
use Rattle.openpairs.specs.Clauses.Changes.{Dropped, Added}
use Rattle.folding.specs.Clauses.Folds.{MeshFolded}
use Rattle.plainwalk.specs.declared.Step.TheVariants.{Folded}
use Rattle.plainwalk.specs.Steps.{Holds, StepWithin, AnswerDone}
use Rattle.walk.proofs.StateLaws.{sound-bag}
use Rattle.plainwalk.proofs.MemoryLaws.{pairs-same, open-few, within-but, within_then}
use Rattle.memory.proofs.MeshLaws.{mesh-but}
use Rattle.lists.proofs.DropLaws.{rest_more}
use Rattle.memory.specs.Layout.{costs_to, places_to}
use Rattle.openpairs.proofs.OpenLaws.{open-length}
use Rattle.folding.proofs.TriedLaws.{folded-live}

module _ {v f : ℕ} {w : List ℕ} {p q : List Float} {n live : ℕ} {limit : Option Float} {bound : Float} {keep remove : ℕ}
    {w₁ : List ℕ} {p' q' : List Float} {gone : ℕ}
    (h : Holds v f w p q n live) (fold : MeshFolded v f limit bound w p q keep remove w₁ p' q' gone) where
  -- the faces that are gone and those that are left are the faces before
  pub left-live : length (live_faces f w₁) + gone ≡ live
  left-live = folded-live fold ∙ sym h.counted

  module _ {w₂ : List ℕ} {kept : ℕ} (drop : Dropped v f w₁ n keep remove w₂ kept) (is_open : is_open_pair (state_of v f w p q n) (pair_of keep remove)) where
    -- the pairs that stay, and the mesh
    dropped-pairs : open_pairs v f w₂ kept ≡ those (apart (pair_of keep remove)) (open_pairs v f w n)
    dropped-pairs =
        drop.kept
        ∙ ap (those (apart (pair_of keep remove))) (pairs-same v f n w w₁ (open-few h) (λ i l m. fold.but.over i (omega arith)))

    dropped-mesh : mesh_of v f w₂ p' q' ≡ folded_mesh (rules_of limit bound) (mesh_of v f w p q) (pair_of keep remove)
    dropped-mesh = mesh-but v f p' q' drop.but (omega arith) ∙ fold.same_mesh

    pub dropped-tidy : Tidy v f w₂
    dropped-tidy = tidy-but (omega arith) drop.but fold.tidy

    -- there is room for the pairs that the fold opens
    pub room-left : kept + length (opened (rules_of limit bound) (mesh_of v f w₂ p' q') keep) ≤ 3 * f
    unfolding state_of after mesh_of
    room-left =
        omega (
          arith,
          ap (λ (m : Mesh Vertex). length (opened (rules_of limit bound) m keep)) dropped-mesh,
          fold-room (rules_of limit bound) (state_of v f w p q n) h.sound (pair_of keep remove) is_open,
          length-append (those (apart (pair_of keep remove)) (open_pairs v f w n))
              (opened (rules_of limit bound) (folded_mesh (rules_of limit bound) (mesh_of v f w p q) (pair_of keep remove)) keep),
          open-length v f w₂ kept,
          ap length dropped-pairs,
          live-few f w,
        )

    module _ {w₃ : List ℕ} {more : ℕ} (add : Added v f w₂ kept (opened (rules_of limit bound) (mesh_of v f w₂ p' q') keep) w₃ more) where
      -- the state after the fold is the plain walk's
      folded-state : SameState (state_of v f w₃ p' q' more) (after (rules_of limit bound) (state_of v f w p q n) (folded (pair_of keep remove)))
      unfolding state_of after
      folded-state = record {
        same_mesh = mesh-but v f p' q' add.but (omega arith) ∙ dropped-mesh;
        same_open =
            record {
              sums = λ g.
                  add.sums g
                  ∙ ap₂ ◌+◌ (ap (sum g) dropped-pairs) (ap (λ (m : Mesh Vertex). sum g (opened (rules_of limit bound) m keep)) dropped-mesh)
                  ∙ sym (sum-append g (those (apart (pair_of keep remove)) (open_pairs v f w n)) _);
            };
      }

      folded-within : StepWithin v f w p q w₃ p' q'
      folded-within =
          within_then
          (record {
            but = but-widen (omega arith) (omega arith) fold.but;
            same_length_p = fold.same_length_p;
            same_length_q = fold.same_length_q;
            rest_p = rest_more p' p (3 * v) (places_to v f) (omega arith) fold.rest_p;
            rest_q = rest_more q' q (10 * v) (costs_to v f) (omega arith) fold.rest_q;
          })
          (within_then (within-but p' q' drop.but (omega arith)) (within-but p' q' add.but (omega arith)))

      pub folded-done : AnswerDone v f w p q n limit bound (folded (pair_of keep remove)) w₃ p' q'
          (record { step = Folded (pair_of keep remove); «open» = more; live = live - gone })
      folded-done = record {
        holds =
            record {
              tidy = tidy-but (omega arith) add.but dropped-tidy;
              points_long = omega (arith, fold.same_length_p, h.points_long);
              quadrics_long = omega (arith, fold.same_length_q, h.quadrics_long);
              sound = sound-bag folded-state (fold-sound (rules_of limit bound) (state_of v f w p q n) h.sound (pair_of keep remove) is_open);
              counted =
                  let left : live - gone ≡ length (live_faces f w₁) = omega (arith, left-live) in
                  left ∙ sym (ap length (live-faces-but f add.but (omega arith) ∙ live-faces-but f drop.but (omega arith)));
            };
        within = folded-within;
        same_answer = refl;
        same_state = folded-state;
      }
