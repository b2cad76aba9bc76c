-- `queue::order::lesser_of` meets its contract: each test is one of its definition.
-- Assumes nothing.
use mathlib.Core.Path.{◌≡◌, ap₂, ◌∙◌}
use lib.Dec.{ltb}
use Rattle.openpairs.specs.declared.pairs.Ranked.{Ranked}
use Rattle.openpairs.specs.Clauses.Ranks.{rank}
use Rattle.queue.specs.Clauses.Ranks.{rank_in}
use Rattle.queue.proofs.HeapLaws.{first-is-second, first-stays, first_alone}
use Rattle.queue.proofs.order.lesser_of.Goals as goal
use Rattle.queue.proofs.order.lesser_of.Goals.{After-comes_first, else-j-n-via-then-j-n+else-comes_first, else-j-n-via-else-j-n}

-- the comparison is of the ranks of the two places
told : (c : After-comes_first) → c.comes_first.result ≡ ltb ((rank_in c.args.extent.v c.args.extent.f c.args.w.now c.args.q.now) c.args.j) ((rank_in c.args.extent.v c.args.extent.f c.args.w.now c.args.q.now) c.args.i)
unfolding rank_in
told c = c.comes_first.ensures ∙ ap₂ (λ (a b : Ranked). ltb (rank a) (rank b)) c.ranked_in.ensures c.ranked_in-then-j-n.ensures

pub returns-then-comes_first : goal.returns-then-comes_first
returns-then-comes_first c =
    first-is-second ((rank_in c.args.extent.v c.args.extent.f c.args.w.now c.args.q.now)) c.args.n c.args.i c.args.j c.if-j-n.true (told (goal.at.returns-then-comes_first c).After-comes_first) c.if-comes_first.true

pub returns-else-j-n : goal.returns-else-j-n
unfolding rank_in
returns-else-j-n c =
    let ranks = rank_in c.args.extent.v c.args.extent.f c.args.w.now c.args.q.now in
    elim c.else-j-n.branch [
      | else-j-n-via-then-j-n+else-comes_first w ↦ first-stays ranks c.args.n c.args.i c.args.j w.if-j-n.true (w.comes_first.ensures ∙ ap₂ (λ (a b : Ranked). ltb (rank a) (rank b)) w.ranked_in.ensures w.ranked_in-then-j-n.ensures) w.if-comes_first.false
      | else-j-n-via-else-j-n w ↦ first_alone ranks c.args.n c.args.i c.args.j w.if-j-n.false
    ]
