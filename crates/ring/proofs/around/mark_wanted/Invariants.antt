-- `ring::around::mark_wanted` meets its contract. The loop's invariant: the points that the faces passed ask for are marked.
-- Assumes nothing.
use mathlib.Core.Bool.{◌&&◌}
use Rattle.walk.specs.Faces.{holds}
use Rattle.ring.specs.Clauses.Wanting.{wanted}
use Rattle.ring.proofs.WantedLaws.{Marking}
use Rattle.ring.proofs.around.mark_wanted.Given as goal

abbrev pub invariant-loop-i : goal.invariant-loop-i
invariant-loop-i l = Marking l.extent.v l.extent.f (λ u face. holds u face && wanted l.which l.x u face) l.initial.w l.i l.w
