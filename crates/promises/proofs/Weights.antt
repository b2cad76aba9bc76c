-- Each point has a weight, a whole number, and its quadric is bounded by it: a fold adds remove's weight to keep's and leaves remove none, so the sum of
-- the weights never grows. It holds of the points that some live face holds; no live face holds a removed point. Assumes nothing.
use Prim.Native.Nat.{ℕ, ◌+◌, ◌^◌, ◌≤◌, ◌<◌}
use native.Mathlib.Nat.{le_trans, le_of_eq}
use native.Mathlib.Omega.{arith}
use mathlib.Core.Path.{◌≡◌, refl, sym, subst, ◌∙◌}
use mathlib.Core.Logic.{◌≢◌}
use mathlib.Core.List.{List, map}
use mathlib.Core.Bool.{Bool, true, false, not, cond}
use mathlib.Mathlib.Data.Bool.Basic.{and_elim_left, and_elim_right}
use lib.Dec.{eqb}
use lib.ListN.{length, get_or, set, length-set}
use lib.Seq.{get_or-set_same, get_or-set_other}
use lib.Ieee.{Float, binary64}
use borrow.Author.Tests.{eqb-true, eqb-false, eq-eqb, ne_eqb, not-true}
use Rattle.std.specs.Prelude.{Option}
use Rattle.lists.specs.Lists.{sum, count, those, below}
use Rattle.lists.proofs.TestLaws.{by-test, clash, flag_true}
use Rattle.lists.proofs.SumLaws.{sum-map, sum_same, sum_mono, witness}
use Rattle.lists.proofs.EveryLaws.{count-mono, count-those-le}
use Rattle.lists.proofs.BelowLaws.{sum-changed, sum-single}
use Rattle.placement.specs.declared.pair.Vertex.{Vertex}
use Rattle.placement.specs.Pairs.{pair_quadric}
use Rattle.walk.specs.declared.Face.{Face}
use Rattle.walk.specs.declared.Pair.{Pair}
use Rattle.walk.specs.Faces.{holds, both, shared, renamed_face, Mesh, data_of, merged_of}
use Rattle.walk.specs.Fold.{folded_faces, folded_mesh}
use Rattle.walk.specs.Walk.{walk, State, StepAnswer, folded, closed, ended, answer, after, plain_machine}
use Rattle.walk.specs.Sound.{Sound}
use Rattle.walk.proofs.FaceLaws.{holds-other}
use Rattle.walk.proofs.FoldLaws.{folded-gone}
use Rattle.walk.proofs.SoundLaws.{is_open_pair, open-differ, open_shared, open-below}
use Rattle.walk.proofs.MachineLaws.{walk-keeps}
use Rattle.walk.proofs.StepLaws.{Told, answer-told, step-sound}
use Rattle.meaning.specs.Arithmetic.{merged_vertex, rules_of}
use Rattle.promises.specs.Errors.{held}
use Rattle.promises.proofs.Floats.{has-power}
use Rattle.promises.proofs.ErrorsQuadrics.{QuadricWithin, sum-within}

-- ---- points that live faces hold

-- the two points of a pair that shares a face are held
pub shared-held : (faces : List Face) (x y : ℕ) → 0 < shared faces x y → held faces x × held faces y
shared-held faces x y h = (
  le_trans h (count-mono (both x y) (holds x) (λ f t. and_elim_left (holds x f) (holds y f) t) faces),
  le_trans h (count-mono (both x y) (holds y) (λ f t. and_elim_right (holds x f) (holds y f) t) faces),
)

-- a point that a live face holds after a fold is not remove
folded-held-not : (faces : List Face) (p : Pair) (x : ℕ) → p.keep ≢ p.remove → held (folded_faces faces p) x → x ≢ p.remove
folded-held-not faces p x k_r h e =
    let w = witness (λ f. not (holds p.remove f)) (λ f. cond (holds x f) 1 0) (folded_faces faces p) (folded-gone faces p k_r) h in
    clash (subst (λ y. holds y w.0 ≡ true) e (flag_true (holds x w.0) w.2)) (not-true (holds p.remove w.0) w.1)

-- and, where it isn't keep, one held it before
folded-held-before : (faces : List Face) (p : Pair) (x : ℕ) → x ≢ p.keep → x ≢ p.remove → held (folded_faces faces p) x → held faces x
unfolding folded_faces
folded-held-before faces p x x_k x_r h =
    let left = those (λ f. not (both p.keep p.remove f)) faces in
    let same : count (holds x) (map (renamed_face p.keep p.remove) left) ≡ count (holds x) left =
    sum-map (λ f. cond (holds x f) 1 0) (renamed_face p.keep p.remove) left
    ∙ sum_same (λ f. cond (holds x (renamed_face p.keep p.remove f)) 1 0) (λ f. cond (holds x f) 1 0) (λ f. rw (holds-other p.keep p.remove x x_k x_r f)) left in
    omega (arith, count-those-le (holds x) (λ f. not (both p.keep p.remove f)) faces)

-- ---- the weights after a fold

-- one point's becomes none
abbrev lost : (ℕ → ℕ) → ℕ → ℕ → ℕ
lost w r x = cond (eqb x r) 0 (w x)

-- keep's becomes the sum of both, and remove's none
abbrev folded_weight : (ℕ → ℕ) → Pair → ℕ → ℕ
folded_weight w p x = cond (eqb x p.keep) (w p.keep + w p.remove) (lost w p.remove x)

-- the sum stays
folded-total : (w : ℕ → ℕ) (p : Pair) (v : ℕ) → p.keep ≢ p.remove → p.keep < v → p.remove < v → sum (folded_weight w p) (below v) ≡ sum w (below v)
folded-total w p v k_r k-v r-v =
    let off = sum-changed w (lost w p.remove) v p.remove r-v (λ i l d. rw (ne_eqb i p.remove d)) in
    let on = sum-changed (lost w p.remove) (folded_weight w p) v p.keep k-v (λ i l d. rw (ne_eqb i p.keep d)) in
    let gone : lost w p.remove p.remove ≡ 0 = rw (eq-eqb p.remove p.remove refl) in
    let kept : lost w p.remove p.keep ≡ w p.keep = rw (ne_eqb p.keep p.remove k_r) in
    let joined : folded_weight w p p.keep ≡ w p.keep + w p.remove = rw (eq-eqb p.keep p.keep refl) in
    omega arith

-- one weight is at most the sum
one_of : (w : ℕ → ℕ) (x v : ℕ) → x < v → w x ≤ sum w (below v)
one_of w x v h =
    le_trans (le_of_eq (sym (sum-single w x v h))) (sum_mono (λ k. cond (eqb k x) (w k) 0) w (λ k. part (eqb k x) (w k)) (below v))
  where
    part : (b : Bool) (n : ℕ) → cond b n 0 ≤ n
    part true n = omega arith
    part false n = omega arith

-- ---- the weights of a mesh

-- at most so many planes have gone into all quadrics: 3 for each of 131,072 faces
abbrev pub planes_most : ℕ
planes_most = 393216

-- the rules of a limit and a bound
module _ (limit : Option Float) (bound : Float) where
  -- the weights of the points, with their sum, and the quadrics of the points that live faces hold
  pub record Weighed (m : Mesh Vertex) : Type 0 where
    pub weight : ℕ → ℕ
    pub total : sum weight (below (length m.points)) ≤ planes_most
    pub parts : (x : ℕ) → x < length m.points → held m.faces x → QuadricWithin (weight x) 194 (data_of (rules_of limit bound) m x).quadric

  -- two weights are below 2^20, and f64 has what they stand for
  pub two-weights : (m : Mesh Vertex) (weighed : Weighed m) (x y : ℕ) → x < length m.points → y < length m.points → weighed.weight x + weighed.weight y ≤ 2 ^ 20
  two-weights m weighed x y x-v y-v =
      omega (arith, one_of weighed.weight x (length m.points) x-v, one_of weighed.weight y (length m.points) y-v, weighed.total)

  -- the quadric of a pair of points that live faces hold
  pub pair-within :
      (m : Mesh Vertex) (weighed : Weighed m) (x y : ℕ) → x < length m.points → y < length m.points → held m.faces x → held m.faces y
      → QuadricWithin (weighed.weight x + weighed.weight y) 194 (pair_quadric (data_of (rules_of limit bound) m x) (data_of (rules_of limit bound) m y))
  unfolding pair_quadric
  pair-within m weighed x y x-v y-v x-held y-held =
      sum-within (has-power binary64 (weighed.weight x + weighed.weight y) 194 20 (two-weights m weighed x y x-v y-v) (omega arith) (omega arith))
      (weighed.parts x x-v x-held) (weighed.parts y y-v y-held)

  -- ---- a fold

  -- what keep carries after a fold has the pair's quadric
  merged-quadric : (keep remove : Vertex) → ((rules_of limit bound).merged keep remove).quadric ≡ pair_quadric keep remove
  unfolding rules_of merged_vertex
  merged-quadric keep remove = refl

  module _ (s : State Vertex) (sound : Sound s) (weighed : Weighed s.mesh) (p : Pair) (is_open : is_open_pair s p) where
    -- the quadrics after the fold
    folded-parts :
        (x : ℕ) → x < length s.mesh.points → held (folded_faces s.mesh.faces p) x
        → QuadricWithin (folded_weight weighed.weight p x) 194
        (get_or (set s.mesh.points p.keep (merged_of (rules_of limit bound) s.mesh p)) x (rules_of limit bound).blank).quadric
    folded-parts x x-v x-held =
        let rules = rules_of limit bound in
        let k_r = open-differ s sound p is_open in
        let inside = open-below s sound p is_open in
        let both-held = shared-held s.mesh.faces p.keep p.remove (open_shared s sound p is_open) in
        by-test (eqb x p.keep)
        (λ t.
        rw (
          t,
          eqb-true x p.keep t,
          get_or-set_same s.mesh.points p.keep (merged_of rules s.mesh p) rules.blank inside.0,
          merged-quadric (data_of rules s.mesh p.keep) (data_of rules s.mesh p.remove),
        )
        (pair-within s.mesh weighed p.keep p.remove inside.0 inside.1 both-held.0 both-held.1))
        (λ t.
        let x_k = eqb-false x p.keep t in
        let x_r = folded-held-not s.mesh.faces p x k_r x-held in
        rw (t, ne_eqb x p.remove x_r, get_or-set_other s.mesh.points p.keep x (merged_of rules s.mesh p) rules.blank x_k)
        (weighed.parts x x-v (folded-held-before s.mesh.faces p x x_k x_r x-held)))

    -- the fold keeps the weights
    fold-weighed : Weighed (folded_mesh (rules_of limit bound) s.mesh p)
    unfolding folded_mesh
    fold-weighed =
        let same = length-set s.mesh.points p.keep (merged_of (rules_of limit bound) s.mesh p) in
        let inside = open-below s sound p is_open in
        record {
          weight = folded_weight weighed.weight p;
          total = rw (same, folded-total weighed.weight p (length s.mesh.points) (open-differ s sound p is_open) inside.0 inside.1) weighed.total;
          parts = λ x x-v. folded-parts x (rw same at x-v);
        }

  -- ---- the walk

  -- after an answer
  told-weighed :
      (s : State Vertex) → Sound s → Weighed s.mesh → (a : StepAnswer)
      → Told (rules_of limit bound) s.mesh s.«open» a → Weighed (after (rules_of limit bound) s a).mesh
  unfolding after
  told-weighed s sound weighed (folded p) told = fold-weighed s sound weighed p told.0
  told-weighed s sound weighed (closed p reason) told = weighed
  told-weighed s sound weighed ended told = weighed

  -- after any number of steps
  pub walk-weighed :
      (target n : ℕ) (s : State Vertex) → Sound s → Weighed s.mesh
      → Sound (walk (plain_machine (rules_of limit bound) target) n s) × Weighed (walk (plain_machine (rules_of limit bound) target) n s).mesh
  walk-weighed target n s sound weighed =
      let rules = rules_of limit bound in
      walk-keeps (plain_machine rules target) (λ t. Sound t × Weighed t.mesh)
      (λ t good. (step-sound rules target t good.0, told-weighed t good.0 good.1 (answer rules target t) (answer-told rules target t)))
      n s (sound, weighed)
