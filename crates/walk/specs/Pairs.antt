-- Pairs of points: which are opened, and their order (document 01, "Pairs, folds, ends").
use Rattle.std.specs.Prelude.{ℕ, ◌+◌, ◌*◌, ◌^◌, Bool, not, ◌&&◌, ◌||◌, cond, ltb, eqb, length}
use mathlib.Core.List.{List, [], ◌∷◌, map, flat_map}
use Rattle.lists.specs.Lists.{those, some, below}
use Rattle.walk.specs.declared.Face.{Face}
use Rattle.walk.specs.declared.Pair.{Pair}
use Rattle.walk.specs.Faces.{neighbour, runs, Rules, Mesh, data_of}

-- a pair of two numbers, and whether two pairs are the same
abbrev pub pair_of : ℕ → ℕ → Pair
pair_of keep remove = record { keep = keep; remove = remove }

abbrev pub same_pair : Pair → Pair → Bool
same_pair p q = eqb p.keep q.keep && eqb p.remove q.remove

-- a pair that touches neither point of another
abbrev pub apart : Pair → Pair → Bool
apart p q =
    not (eqb q.keep p.keep || eqb q.keep p.remove || eqb q.remove p.keep || eqb q.remove p.remove)

-- every two numbers below v, keep first
unfoldable pub pairs_below : ℕ → List Pair
unfolding below flat_map
pairs_below v = flat_map (λ x. map (pair_of x) (below v)) (below v)

-- a face edge runs from the pair's lower number to its higher one
abbrev pub rises : List Face → Pair → Bool
rises faces p = ltb p.keep p.remove && some (runs p.keep p.remove) faces

module _ {D : Type 0} (rules : Rules D) where
  -- only an eligible pair is ever opened
  abbrev pub eligible_pair : Mesh D → Pair → Bool
  eligible_pair m p = rules.eligible (data_of rules m p.keep) (data_of rules m p.remove)

  -- the order of pairs as one number: cost, then keep, then remove
  unfoldable pub order : Mesh D → Pair → ℕ
  order m p = (rules.rank (data_of rules m p.keep) (data_of rules m p.remove) * 2 ^ 32 + p.keep) * 2 ^ 32 + p.remove

  -- the first of the least, by the order, of p and a list
  unfoldable pub least : Mesh D → Pair → List Pair → Pair
  unfolding order
  least m p [] = p
  least m p (q ∷ qs) = least m (cond (ltb (order m q) (order m p)) q p) qs

  -- after a fold: keep with each present neighbour, keep first whatever the numbers
  unfoldable pub opened : Mesh D → ℕ → List Pair
  unfolding those below
  opened m keep =
      map (pair_of keep)
      (those (λ n. neighbour m.faces keep n && eligible_pair m (pair_of keep n)) (below (length m.points)))
