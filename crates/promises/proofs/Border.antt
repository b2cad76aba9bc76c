-- With preserve on, the border of an admitted mesh stays as it is: every border edge is a border edge after every step, between the same two points, at the
-- same places, and is written as one. So every border point is in the output. (A margin point need not be: all its faces may be folded away.)
-- Assumes nothing.
use Prim.Native.Nat.{ℕ, zero, suc}
use native.Mathlib.Numerals.{add-one}
use native.Mathlib.Omega.{arith}
use mathlib.Core.Path.{◌≡◌, refl, sym, ap, ◌∙◌}
use mathlib.Core.Logic.{◌≢◌}
use mathlib.Core.List.{List, []}
use mathlib.Core.Bool.{true}
use Rattle.lists.specs.Lists.{some}
use Rattle.placement.specs.declared.pair.Vertex.{Vertex}
use Rattle.walk.specs.declared.Face.{Face}
use Rattle.walk.specs.Faces.{holds, shared, border_edge, border_point, faces_of}
use Rattle.walk.specs.Fold.{folded_mesh}
use Rattle.walk.specs.Walk.{walk, State, StepAnswer, folded, closed, ended, after, plain_machine}
use Rattle.walk.specs.Output.{used, renumbered, numbers_of}
use Rattle.walk.proofs.FoldLaws.{folded-shared}
use Rattle.walk.proofs.BorderLaws.{shared-sym, shared-holds, edge-differ, edge-shared, edge_of, end-border, border-edge}
use Rattle.walk.proofs.MachineLaws.{walk-last}
use Rattle.walk.proofs.RenumberLaws.{used-held}
use Rattle.walk.proofs.NumberedLaws.{place-differ, shared-renumbered, length-renumbered, faces_back}
use Rattle.std.specs.Prelude.{Ok}
use Rattle.meaning.specs.declared.Task.TheVariants.{Admitted}
use Rattle.meaning.specs.Input.{Input, points_in, point_at}
use Rattle.meaning.specs.Answers.{verdict_of}
use Rattle.meaning.specs.Outcome.{rules_in, start_of, target_of, last_mesh, Outcome, outcome}
use Rattle.promises.specs.Steps.{state_at, answer_at, faces_at, budget_of, given_faces, fixed_point}
use Rattle.promises.specs.Written.{new_number, written_point, written_faces}
use Rattle.promises.proofs.Admitted.{passed}
use Rattle.promises.proofs.Ended.{start-faces}
use Rattle.promises.proofs.Fixed.{thinned-is, border-fixed, fixed-never-folded, fixed-written}
use Rattle.promises.proofs.Fair.{fold-of-two}

-- ---- with preserve on

module _ (i : Input) (admitted : verdict_of i ≡ Ok Admitted) (preserved : i.options.preserve ≡ true) where
  -- the ends of a border edge are fixed
  pub end-fixed : (x y : ℕ) → border_edge (given_faces i) x y ≡ true → fixed_point i x ≡ true
  end-fixed x y e = border-fixed i x preserved (end-border (given_faces i) x y (points_in i) (passed i admitted).faces_proper e)

  module _ (x y : ℕ) (edge : border_edge (given_faces i) x y ≡ true) where
    -- its ends are two points, either way round, and fixed
    x_y : x ≢ y
    x_y = edge-differ (given_faces i) x y edge

    turned : border_edge (given_faces i) y x ≡ true
    turned = edge_of (given_faces i) y x (λ e. x_y (sym e)) (shared-sym (given_faces i) y x ∙ edge-shared (given_faces i) x y edge)

    x-fixed : fixed_point i x ≡ true
    x-fixed = end-fixed x y edge

    y-fixed : fixed_point i y ≡ true
    y-fixed = end-fixed y x turned

    -- a step leaves it
    step-shares : (n : ℕ) (a : StepAnswer) → answer_at i n ≡ a → shared (after (rules_in i) (state_at i n) a).mesh.faces x y ≡ shared (faces_at i n) x y
    unfolding after folded_mesh
    step-shares n (folded p) e =
        let of-x = fixed-never-folded i admitted x x-fixed n p e in
        let of-y = fixed-never-folded i admitted y y-fixed n p e in
        folded-shared (faces_at i n) p x y
        (record {
          x_y = x_y;
          k_r = fold-of-two i admitted n p e;
          x_k = λ d. of-x.0 (sym d);
          x_r = λ d. of-x.1 (sym d);
          y_k = λ d. of-y.0 (sym d);
          y_r = λ d. of-y.1 (sym d);
        })
    step-shares n (closed p reason) e = refl
    step-shares n ended e = refl

    -- so after any number of steps exactly one face holds both ends
    still-shared : (n : ℕ) → shared (faces_at i n) x y ≡ 1
    unfolding walk
    still-shared zero = ap (λ (faces : List Face). shared faces x y) (start-faces i) ∙ edge-shared (given_faces i) x y edge
    still-shared (suc n) =
        ap (λ (s : State Vertex). shared s.mesh.faces x y)
        (ap (λ k. state_at i k) (sym (add-one n)) ∙ walk-last (plain_machine (rules_in i) (target_of i)) n (start_of i))
        ∙ step-shares n (answer_at i n) refl
        ∙ still-shared n

    -- a border edge of the input is a border edge after every step
    pub border-edge-stays : (n : ℕ) → border_edge (faces_at i n) x y ≡ true
    border-edge-stays n = edge_of (faces_at i n) x y x_y (still-shared n)

    -- so some face that is left holds its first end
    end-used : some (holds x) (last_mesh i).faces ≡ true
    unfolding last_mesh
    end-used = let one = still-shared (budget_of i) in shared-holds (last_mesh i).faces x y (omega arith)

  -- ---- so every border point is in the output

  module _ (x : ℕ) (border : border_point (points_in i) (given_faces i) x ≡ true) where
    -- some face that is left holds it
    pub border-stays-used : some (holds x) (last_mesh i).faces ≡ true
    border-stays-used = let (y, edge) = border-edge (points_in i) (given_faces i) x border in end-used x y edge

    -- and it is written with its input bits
    pub border-in-output : (outcome i).answer.number ≡ 0 → written_point i (new_number i x) ≡ point_at i.points x
    border-in-output done = fixed-written i admitted x (border-fixed i x preserved border) done border-stays-used

-- ---- and so is every border edge

-- the faces that are written are those left, with new numbers
written-are : (i : Input) → verdict_of i ≡ Ok Admitted → (outcome i).answer.number ≡ 0 → written_faces i ≡ renumbered (last_mesh i).faces
written-are i admitted done =
    let left = (last_mesh i).faces in
    ap (λ (o : Outcome). faces_of o.answer.faces o.faces) (thinned-is i admitted done)
    ∙ ap (λ n. faces_of n (numbers_of (renumbered left))) (sym (length-renumbered left))
    ∙ faces_back (renumbered left)

module _ (i : Input) (admitted : verdict_of i ≡ Ok Admitted) (preserved : i.options.preserve ≡ true) (done : (outcome i).answer.number ≡ 0)
    (x y : ℕ) (edge : border_edge (given_faces i) x y ≡ true) where
  -- a border edge of the input is a border edge of what is written, and its ends have their input bits (`border-in-output`)
  pub border-edge-written : border_edge (written_faces i) (new_number i x) (new_number i y) ≡ true
  unfolding last_mesh
  border-edge-written =
      let left = (last_mesh i).faces in
      let x-in = used-held left x (end-used i admitted preserved x y edge) in
      let y-in = used-held left y (end-used i admitted preserved y x (turned i admitted preserved x y edge)) in
      rw (written-are i admitted done)
      (edge_of (renumbered left) (new_number i x) (new_number i y)
      (place-differ (used [] left) x y x-in y-in (x_y i admitted preserved x y edge))
      (shared-renumbered left x y x-in y-in ∙ still-shared i admitted preserved x y edge (budget_of i)))
