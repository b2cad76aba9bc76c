-- The pairs that are opened around a point are those that the definition names: x with each listed point, where the pair is eligible.
-- Assumes nothing.
use Prim.Native.Nat.{ℕ, ◌+◌, ◌*◌, ◌≤◌, ◌<◌}
use native.Mathlib.Omega.{arith}
use mathlib.Core.Path.{◌≡◌, sym, ap, ap₂, ◌∙◌}
use mathlib.Core.List.{List}
use mathlib.Core.Bool.{Bool, ◌&&◌, cond}
use lib.ListN.{length}
use lib.Ieee.{Float}
use Rattle.std.specs.Prelude.{Option}
use Rattle.walk.specs.declared.Pair.{Pair}
use Rattle.lists.specs.Lists.{sum, below}
use Rattle.walk.specs.Faces.{Rules, Mesh}
use Rattle.walk.specs.Pairs.{pair_of, eligible_pair}
use Rattle.lists.proofs.SumLaws.{sum-map, sum-those, sum-length}
use Rattle.walk.proofs.OpenSums.{opened-sum}
use Rattle.memory.specs.Memory.{live_faces}
use Rattle.mesh.specs.Clauses.Chains.{Tidy}
use Rattle.lists.proofs.CondLaws.{cond-and}
use Rattle.lists.proofs.BelowLaws.{sum-same-below}
use Rattle.lists.proofs.FrameLaws.{but-then, but-widen}
use Rattle.memory.specs.Points.{mesh_of}
use Rattle.meaning.specs.Arithmetic.{rules_of}
use Rattle.openpairs.specs.State.{open_pairs}
use Rattle.openpairs.specs.Clauses.Changes.{Added}
use Rattle.openpairs.proofs.OpenLaws.{open-same}
use Rattle.ring.specs.declared.Neighbours.{Neighbours}
use Rattle.ring.specs.declared.Neighbours.TheVariants.{Rising, Every}
use Rattle.ring.specs.Clauses.Listing.{is_around, AroundListed}
use Rattle.ring.proofs.ListedLaws.{listed-few, listed-within}
use Rattle.openpairs.specs.Clauses.Edges.{rising_from, opened_around}
use Rattle.openpairs.specs.Clauses.Waiting.{fits, waiting, PairsReady}
use Rattle.openpairs.proofs.WaitLaws.{waits, waiting-sum, fits-but}
use Rattle.memory.specs.Layout.{keeps_from, removes_from}
use Rattle.memory.proofs.MeshLaws.{mesh-length, mesh-point}

-- the definition, as a sum over the points
pub around-sum : {D : Type 0} (rules : Rules D) (m : Mesh D) (which : Neighbours) (x : ℕ) (g : Pair → ℕ) →
    sum g (opened_around rules m which x)
    ≡ sum (λ y. cond (is_around which m.faces x y && eligible_pair rules m (pair_of x y)) (g (pair_of x y)) 0) (below (length m.points))
unfolding rising_from
around-sum rules m Rising x g = sum-map g (pair_of x) _ ∙ sum-those (λ y. g (pair_of x y)) _ (below (length m.points))
around-sum rules m Every x g = opened-sum rules m g x

-- a pair is eligible in memory as it is in the mesh
pub fits-mesh : (v f : ℕ) (w : List ℕ) (p q : List Float) (limit : Option Float) (bound : Float) (x y : ℕ) → x < v → y < v →
    fits v f w p q limit bound x y ≡ eligible_pair (rules_of limit bound) (mesh_of v f w p q) (pair_of x y)
unfolding fits rules_of
fits-mesh v f w p q limit bound x y x-in y-in =
    rw (mesh-point v f w p q x (rules_of limit bound).blank x-in, mesh-point v f w p q y (rules_of limit bound).blank y-in)

module _ {v f : ℕ} {w w₁ : List ℕ} {which : Neighbours} {x count : ℕ} (done : AroundListed v f w which x w₁ count) (x-in : x < v)
    (p q : List Float) (limit : Option Float) (bound : Float) where
  -- what waits is what is to be opened
  pub waiting-opened : (g : Pair → ℕ) →
      sum g (waiting v f w₁ p q limit bound x count) ≡ sum g (opened_around (rules_of limit bound) (mesh_of v f w p q) which x)
  unfolding mesh_of
  waiting-opened g =
      let rules = rules_of limit bound in
      let m = mesh_of v f w p q in
      let test = is_around which (live_faces f w) x in
      let opens : ℕ → ℕ = λ y. cond (test y && eligible_pair rules m (pair_of x y)) (g (pair_of x y)) 0 in
      let same : (y : ℕ) → y < v → cond (test y) (waits v f w₁ p q limit bound x g y) 0 ≡ opens y =
      λ y l.
      ap (λ (b : Bool). cond (test y) (cond b (g (pair_of x y)) 0) 0)
      (fits-but v f p q limit bound x y done.but (omega arith) x-in l ∙ fits-mesh v f w p q limit bound x y x-in l)
      ∙ sym (cond-and (test y) (eligible_pair rules m (pair_of x y)) (g (pair_of x y))) in
      waiting-sum v f w₁ p q limit bound x count g
      ∙ done.sums (waits v f w₁ p q limit bound x g)
      ∙ sum-those (waits v f w₁ p q limit bound x g) test (below v)
      ∙ sum-same-below _ opens v same
      ∙ ap (λ (n : ℕ). sum opens (below n)) (sym (mesh-length v f w p q))
      ∙ sym (around-sum rules m which x g)

  -- there is a place for each of them
  pub listed-ready : {n : ℕ} → Tidy v f w → 3 * v ≤ length p → 10 * v ≤ length q →
      n + length (opened_around (rules_of limit bound) (mesh_of v f w p q) which x) ≤ 3 * f → PairsReady v f w₁ p q limit bound x count n
  listed-ready tidy points_long quadrics_long enough =
      record {
        room = record {
          points_few = tidy.room.points_few;
          faces_few = tidy.room.faces_few;
          long = omega (arith, tidy.room.long, done.but.same_length);
        };
        points_long = points_long;
        quadrics_long = quadrics_long;
        point = x-in;
        few = listed-few done;
        points = listed-within done;
        enough = omega (
          arith,
          enough,
          waiting-opened (λ r. 1),
          sum-length (waiting v f w₁ p q limit bound x count),
          sum-length (opened_around (rules_of limit bound) (mesh_of v f w p q) which x),
        );
      }

  pub added : {w' : List ℕ} {n n' : ℕ} → n ≤ 3 * f → Added v f w₁ n (waiting v f w₁ p q limit bound x count) w' n' →
      Added v f w n (opened_around (rules_of limit bound) (mesh_of v f w p q) which x) w' n'
  added {w'} {n} few more =
      let same-pairs : open_pairs v f w₁ n ≡ open_pairs v f w n =
      open-same v f w w₁ n
      (λ i l. rw (done.but.under (keeps_from v f + i) (omega arith), done.but.under (removes_from v f + i) (omega arith))) in
      record {
        but = but-then (but-widen (omega arith) (omega arith) done.but) more.but;
        sums = λ g. more.sums g ∙ ap₂ ◌+◌ (ap (λ (ps : List Pair). sum g ps) same-pairs) (waiting-opened g);
      }
