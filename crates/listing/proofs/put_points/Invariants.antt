-- The first k lines are stored.
use Rattle.std.proofs.Common.{◌*◌}
use Rattle.text.specs.Lines.{lines_to}
use Rattle.listing.specs.Texts.{point_line}
use Rattle.lists.specs.Puts.{Put}
use Rattle.listing.proofs.put_points.Given as goal

abbrev pub invariant-loop-k : goal.invariant-loop-k
invariant-loop-k l = Put (27 * l.k) (lines_to (point_line l.points) l.k) l.at l.initial.out l.out l.next
