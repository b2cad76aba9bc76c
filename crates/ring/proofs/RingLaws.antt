-- The faces around two points, gathered one list after the other.
-- Assumes nothing.
use Prim.Native.Nat.{ℕ, ◌+◌, ◌≤◌}
use native.Mathlib.Omega.{arith}
use mathlib.Core.Path.{◌≡◌}
use mathlib.Core.List.{List}
use lib.ListN.{length}
use Rattle.lists.proofs.FrameLaws.{but-then, but-widen}
use Rattle.memory.specs.Layout.{near_from, far_from}
use Rattle.mesh.specs.Clauses.Around.{Collected}
use Rattle.mesh.specs.Clauses.Chains.{Tidy}
use Rattle.mesh.proofs.AroundLaws.{gathered-but}
use Rattle.mesh.proofs.TidyLaws.{tidy-but}
use Rattle.ring.specs.Clauses.Rings.{RingGathered}

module _ {v f : ℕ} {w w₁ : List ℕ} {keep near nears far : ℕ} (tidy : Tidy v f w) (from-near : near ≡ near_from v f) (from-far : far ≡ far_from v f)
    (one : Collected v f w keep near w₁ nears) where
  -- the memory is tidy and as long as before once the first list stands
  pub still-tidy : Tidy v f w₁
  still-tidy = tidy-but (omega arith) one.but tidy

  pub still-long : far + f ≤ length w₁
  still-long = omega (arith, tidy.room.long, one.but.same_length)

  -- both lists stand
  pub both-gathered : {remove fars : ℕ} {w₂ : List ℕ} → Collected v f w₁ remove far w₂ fars →
      RingGathered v f w keep remove w₂ (record { near = near; nears = nears; far = far; fars = fars })
  both-gathered two = record {
    but = but-then (but-widen (omega arith) (omega arith) one.but) (but-widen (omega arith) (omega arith) two.but);
    ringed =
        record {
          around_keep =
              gathered-but two.but (omega arith)
              (λ i l. two.but.under (near + i) (omega (arith, one.gathered.few))) one.gathered;
          around_remove = two.gathered;
          past_pairs = omega arith;
          one_after_other = omega arith;
          within = omega (arith, still-long, two.but.same_length);
        };
  }
