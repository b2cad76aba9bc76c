-- The entry that a pair gets: it is current, and it is what was pushed.
-- Assumes nothing.
use Prim.Native.Nat.{ℕ, ◌<◌}
use mathlib.Core.Path.{◌≡◌, refl, sym, ap, ap₂, ◌∙◌}
use mathlib.Core.List.{List, map}
use mathlib.Core.Bool.{Bool, true, false, not, ◌&&◌}
use lib.Ieee.{Float}
use lib.ListN.{get_or}
use borrow.Author.Tests.{eq-eqb}
use Rattle.std.specs.Prelude.{Option}
use Rattle.geometry.specs.declared.Point.{Point}
use Rattle.placement.specs.declared.pair.Vertex.{Vertex}
use Rattle.placement.specs.Pairs.{pair_place, pair_cost}
use Rattle.lists.specs.Lists.{every}
use Rattle.lists.proofs.EveryLaws.{every_map, every-all}
use Rattle.walk.specs.declared.Pair.{Pair}
use Rattle.walk.specs.Faces.{Mesh}
use Rattle.walk.specs.Pairs.{pair_of}
use Rattle.meaning.specs.Arithmetic.{rules_of}
use Rattle.memory.specs.Points.{vertex_at, mesh_of}
use Rattle.memory.specs.Entries.{stamp}
use Rattle.memory.proofs.MeshLaws.{mesh-point}
use Rattle.memory.specs.declared.entries.Entry.{Entry}
use Rattle.queue.specs.Stored.{stamps_of, is_old}
use Rattle.memory.proofs.EntryLaws.{entry-path}
use Rattle.queue.proofs.PresentLaws.{stamp-of}
use Rattle.heapwalk.specs.Entries.{entry_for}

module _ (limit : Option Float) (bound : Float) (m : Mesh Vertex) (stamps : List ℕ) where
  -- it has the present stamps
  entry-current : (x : Pair) → is_old stamps (entry_for limit bound m stamps x) ≡ false
  unfolding entry_for
  entry-current x =
      let keep = get_or stamps x.keep 0 in
      let remove = get_or stamps x.remove 0 in
      ap₂ (λ (a b : Bool). not (a && b)) (eq-eqb keep keep refl) (eq-eqb remove remove refl)

  -- so have those of a list
  pub entries-current : (xs : List Pair) → every (λ e. not (is_old stamps e)) (map (entry_for limit bound m stamps) xs) ≡ true
  entries-current xs =
      every_map (λ e. not (is_old stamps e)) (entry_for limit bound m stamps) xs
      ∙ every-all (λ x. not (is_old stamps (entry_for limit bound m stamps x))) (λ x. ap not (entry-current x)) xs

-- the entry of two points in memory, with their cost and place
module _ (v f : ℕ) (w : List ℕ) (p q : List Float) (limit : Option Float) (bound : Float) {keep remove : ℕ} (keep-in : keep < v) (remove-in : remove < v)
    {cost : Float} {place : Point} (cost-is : cost ≡ pair_cost bound (vertex_at v f w p q keep) (vertex_at v f w p q remove))
    (place_is : place ≡ pair_place bound (vertex_at v f w p q keep) (vertex_at v f w p q remove)) where
  pub entry-is : ◌≡◌ {A = Entry}
      (record { pair = pair_of keep remove; cost = cost; place = place; keepstamp = stamp v f w keep; removestamp = stamp v f w remove })
      (entry_for limit bound (mesh_of v f w p q) (stamps_of v f w) (pair_of keep remove))
  unfolding entry_for
  entry-is =
      let blank = (rules_of limit bound).blank in
      let at-keep = mesh-point v f w p q keep blank keep-in in
      let at-remove = mesh-point v f w p q remove blank remove-in in
      entry-path refl
      (cost-is ∙ sym (ap₂ (pair_cost bound) at-keep at-remove))
      (place_is ∙ sym (ap₂ (pair_place bound) at-keep at-remove))
      (sym (stamp-of v f w keep keep-in))
      (sym (stamp-of v f w remove remove-in))
