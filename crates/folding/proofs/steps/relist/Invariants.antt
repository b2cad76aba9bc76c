-- `folding::steps::relist` meets its contract. The loop's invariant: the first `i` slots have had their turn.
-- Assumes nothing.
use Rattle.folding.specs.Clauses.Steps.{relisted}
use Rattle.folding.proofs.TurnLaws.{Turning}
use Rattle.folding.proofs.steps.relist.Given as goal

abbrev pub invariant-loop-i : goal.invariant-loop-i
invariant-loop-i l = Turning (relisted l.f l.old l.new) 0 l.list l.initial.w l.list l.n l.i l.w
