-- `heapwalk::entering::enter_pair` meets its contract: an entry is pushed where the pair's candidate is one, with the candidate's cost and place.
-- Assumes nothing.
use native.Mathlib.Omega.{arith}
use mathlib.Core.Path.{◌≡◌, sym, ap, ap₂, ◌∙◌}
use Rattle.placement.specs.Pairs.{pair_candidate}
use Rattle.placement.proofs.PlacementLaws.{candidate-eligible, candidate-none}
use Rattle.memory.specs.Points.{vertex_with, vertex_at}
use Rattle.openpairs.specs.Clauses.Waiting.{fits}
use Rattle.heapwalk.proofs.EnterLaws.{one-point, one_place, entered-one, entered-not}
use Rattle.heapwalk.proofs.entering.enter_pair.Goals as goal
use Rattle.heapwalk.proofs.entering.enter_pair.Goals.{After-pair_candidate}

-- the candidate is that of the two points in memory
candidate : (c : After-pair_candidate) →
    c.pair_candidate.result
    ≡ pair_candidate c.args.bounds.limit c.args.bounds.size
    (vertex_at c.args.extent.v c.args.extent.f c.args.w.now c.args.p.now c.args.q.now c.args.x)
    (vertex_at c.args.extent.v c.args.extent.f c.args.w.now c.args.p.now c.args.q.now c.args.y)
candidate c =
    c.pair_candidate.ensures
    ∙ ap₂ (pair_candidate c.args.bounds.limit c.args.bounds.size) c.vertex_at-stays.ensures
    (c.vertex_with-goes.ensures ∙ ap (vertex_with c.args.extent.v c.args.extent.f c.args.w.now c.args.p.now c.args.y) c.requires.fact_2)

pub vertex_at-stays-requires : goal.vertex_at-stays-requires
vertex_at-stays-requires c =
    record { fact_1 = omega (arith, c.requires.fact_1.«open».tidy.room.long, c.requires.fact_1.point); fact_2 = omega (arith, c.requires.fact_1.«open».queue.enough.places_long, c.requires.fact_1.point); fact_3 = omega (arith, c.requires.fact_1.«open».queue.enough.costs_long, c.requires.fact_1.point) }

pub vertex_with-goes-requires : goal.vertex_with-goes-requires
vertex_with-goes-requires c =
    let other = one-point c.requires.fact_1 in
    record { fact_1 = omega (arith, c.requires.fact_1.«open».tidy.room.long); fact_2 = omega (arith, c.requires.fact_1.«open».queue.enough.places_long) }

pub push-requires : goal.push-requires
unfolding fits
push-requires c =
    let same = candidate-eligible _ _ _ _ _ (sym c.in-Some.is ∙ candidate (goal.at.push-requires c).After-pair_candidate) in
    let other = one-point c.requires.fact_1 in record { fact_1 = c.requires.fact_1.«open».queue; fact_2 = (λ i l. (c.requires.fact_1.«open».kept i l).named); fact_3 = (omega (arith, c.requires.fact_1.point, other), omega (arith, c.requires.fact_1.point, other)); fact_4 = one_place c.requires.fact_1 same.0 }

pub returns-in-Some : goal.returns-in-Some
unfolding fits
returns-in-Some c =
    let same = candidate-eligible _ _ _ _ _ (sym c.in-Some.is ∙ candidate (goal.at.returns-in-Some c).After-pair_candidate) in
    entered-one c.requires.fact_1 same.0 same.1 same.2 c.push.ensures.fact_1 (c.push.ensures.fact_2 c.args.bounds.size c.requires.fact_1.«open».kept same.1 same.2)

pub returns-in-None : goal.returns-in-None
unfolding fits
returns-in-None c =
    entered-not c.requires.fact_1 (candidate-none _ _ _ _ (sym c.in-None.is ∙ candidate (goal.at.returns-in-None c).After-pair_candidate))
