-- `foldtest::lowest_harmed` meets its contract. The loop's invariant: what was found is the lowest of the faces so far.
-- Assumes nothing.
use Rattle.walk.specs.Faces.{face_at}
use Rattle.foldtest.specs.Clauses.Fair.{harmed}
use Rattle.foldtest.proofs.LowestLaws.{Lowest}
use Rattle.foldtest.proofs.lowest_harmed.Given as goal

abbrev pub invariant-loop-k : goal.invariant-loop-k
invariant-loop-k l =
    Lowest (λ k. harmed l.p l.fold.keep l.fold.remove l.fold.place l.other (face_at l.w k)) l.from l.w l.base l.k-index l.lowest
