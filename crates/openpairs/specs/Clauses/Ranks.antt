-- The order of pairs, by the three numbers that are compared.
use Rattle.std.specs.Prelude.{ℕ, ◌+◌, ◌*◌, ◌^◌, List, Float}
use Rattle.bits.specs.Order.{float_key}
use Rattle.geometry.specs.declared.Point.{Point}
use Rattle.placement.specs.Pairs.{pair_cost, pair_place}
use Rattle.memory.specs.Points.{vertex_at}
use Rattle.meaning.specs.Arithmetic.{from_lowest}
use Rattle.memory.specs.Entries.{pair_at}
use Rattle.openpairs.specs.declared.pairs.Ranked.{Ranked}

module _ (v f : ℕ) (w : List ℕ) (p q : List Float) (bound : Float) where
  -- a pair's cost, and where the pair goes
  abbrev pub cost_at : ℕ → ℕ → Float
  cost_at keep remove = pair_cost bound (vertex_at v f w p q keep) (vertex_at v f w p q remove)

  abbrev pub place_at : ℕ → ℕ → Point
  place_at keep remove = pair_place bound (vertex_at v f w p q keep) (vertex_at v f w p q remove)

  -- the pair in a place of the list, with its cost
  unfoldable pub ranked_at : ℕ → Ranked
  ranked_at i =
      let pair = pair_at v f w i in
      record { at = i; cost = cost_at pair.keep pair.remove; keep = pair.keep; remove = pair.remove }

-- a pair's rank in the order, as one number: the key of its cost, then keep, then remove
unfoldable pub rank : Ranked → ℕ
rank r = (from_lowest (float_key r.cost) * 2 ^ 32 + r.keep) * 2 ^ 32 + r.remove
