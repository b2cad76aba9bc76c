-- One pass over the open pairs that finds the least: what holds before each turn, what a turn does, and what is found.
-- Assumes nothing.
use Prim.Native.Nat.{ℕ, ◌+◌, ◌≤◌, ◌<◌}
use native.Mathlib.Nat.{le_refl}
use native.Mathlib.Omega.{arith}
use mathlib.Core.Path.{◌≡◌, sym, ap, ap₂, ◌∙◌}
use mathlib.Core.List.{List}
use mathlib.Core.Bool.{true, false}
use lib.Dec.{ltb}
use lib.Ieee.{Float}
use borrow.Author.Count.{below_more}
use borrow.Author.Tests.{ltb-true, ltb-false}
use Rattle.std.specs.Prelude.{Option}
use Rattle.geometry.specs.declared.Point.{Point}
use Rattle.walk.specs.Pairs.{order}
use Rattle.walk.proofs.SamePairs.{pair_path}
use Rattle.memory.specs.Points.{mesh_of}
use Rattle.meaning.specs.Arithmetic.{rules_of}
use Rattle.openpairs.specs.declared.pairs.Ranked.{Ranked}
use Rattle.memory.specs.Entries.{pair_at}
use Rattle.openpairs.specs.Clauses.Ranks.{cost_at, place_at, ranked_at, rank}
use Rattle.openpairs.specs.Clauses.Changes.{Named, LeastAt}
use Rattle.memory.proofs.MeshLaws.{mesh-point}

module _ (v f : ℕ) (w : List ℕ) (p q : List Float) (bound : Float) (i : ℕ) where
  -- what is read of the pair in a place, part by part
  pub ranked-is : {cost : Float} {keep remove : ℕ} →
      keep ≡ (pair_at v f w i).keep → remove ≡ (pair_at v f w i).remove → cost ≡ cost_at v f w p q bound keep remove →
      ◌≡◌ {A = Ranked} (record { at = i; cost = cost; keep = keep; remove = remove }) (ranked_at v f w p q bound i)
  unfolding ranked_at
  ranked-is e d k =
      let same-cost = k ∙ ap₂ (cost_at v f w p q bound) e d in
      λ t. record { at = i; cost = same-cost t; keep = e t; remove = d t }

  -- its rank is its place in the walk's order
  pub order-rank : (limit : Option Float) → (pair_at v f w i).keep < v → (pair_at v f w i).remove < v →
      order (rules_of limit bound) (mesh_of v f w p q) (pair_at v f w i) ≡ rank (ranked_at v f w p q bound i)
  unfolding order rules_of rank ranked_at
  order-rank limit k r =
      rw (mesh-point v f w p q (pair_at v f w i).keep (rules_of limit bound).blank k, mesh-point v f w p q (pair_at v f w i).remove (rules_of limit bound).blank r)

-- the least of the first i pairs
pub record Leading (v f : ℕ) (w : List ℕ) (p q : List Float) (bound : Float) (r : Ranked) (i : ℕ) : Type 0 where
  pub within : r.at < i
  pub same : r ≡ ranked_at v f w p q bound r.at
  pub lowest : (j : ℕ) → j < i → rank r ≤ rank (ranked_at v f w p q bound j)

module _ {v f : ℕ} {w : List ℕ} {p q : List Float} {bound : Float} where
  -- of one pair, itself
  pub leading-first : {r : Ranked} → r ≡ ranked_at v f w p q bound 0 → Leading v f w p q bound r 1
  unfolding ranked_at
  leading-first {r} e =
      let at_first : r.at ≡ 0 = ap (λ (x : Ranked). x.at) e in
      record {
        within = omega arith;
        same = e ∙ ap (ranked_at v f w p q bound) (sym at_first);
        lowest = λ j l. let first : j ≡ 0 = omega arith in rw (first, ← e) (le_refl (rank r));
      }

  module _ {r next : Ranked} {i : ℕ} (before : Leading v f w p q bound r i) (here : next ≡ ranked_at v f w p q bound i) where
    -- the next one comes before it, and leads
    pub leading-new : ltb (rank next) (rank r) ≡ true → Leading v f w p q bound next (i + 1)
    unfolding ranked_at
    leading-new less =
        let at_last : next.at ≡ i = ap (λ (x : Ranked). x.at) here in
        record {
          within = omega arith;
          same = here ∙ ap (ranked_at v f w p q bound) (sym at_last);
          lowest = below_more _ _ (λ j l. omega (arith, before.lowest j l, ltb-true)) (rw here (le_refl _));
        }

    -- or it doesn't
    pub leading-stays : ltb (rank next) (rank r) ≡ false → Leading v f w p q bound r (i + 1)
    leading-stays not-less =
        record {
          within = omega (arith, before.within);
          same = before.same;
          lowest = below_more _ _ before.lowest (rw (← here) (ltb-false _ _ not-less));
        }

  -- its points are among those that there are
  pub leading-named : {r : Ranked} {i n : ℕ} → i ≤ n → Named v f w n → Leading v f w p q bound r i → (r.keep < v) × (r.remove < v)
  unfolding ranked_at
  leading-named {r} within named lead =
      let here = named r.at (omega (arith, lead.within)) in
      (rw (ap (λ (x : Ranked). x.keep) lead.same) here.0, rw (ap (λ (x : Ranked). x.remove) lead.same) here.1)

  -- the least of all, as the walk has it
  pub leading-least : {r : Ranked} {i n : ℕ} {place : Point} {limit : Option Float} → i ≡ n → Named v f w n → Leading v f w p q bound r i →
      place ≡ place_at v f w p q bound r.keep r.remove →
      LeastAt v f w p q n limit bound (record { at = r.at; fold = record { keep = r.keep; remove = r.remove; place = place } })
  unfolding ranked_at
  leading-least {r} {i} {n} {limit = limit} e named end at_place =
      let known : (j : ℕ) → j < n → order (rules_of limit bound) (mesh_of v f w p q) (pair_at v f w j) ≡ rank (ranked_at v f w p q bound j) =
      λ j l. order-rank v f w p q bound j limit (named j l).0 (named j l).1 in
      let inside : r.at < n = omega (arith, end.within) in
      record {
        within = inside;
        pair_unchanged = sym (pair_path (ap (λ (x : Ranked). x.keep) end.same) (ap (λ (x : Ranked). x.remove) end.same));
        place = at_place;
        least = λ j l. rw (known r.at inside, known j l, ← end.same) (end.lowest j (omega arith));
      }
