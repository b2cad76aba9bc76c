-- The first k lines are stored.
use Rattle.std.proofs.Common.{◌*◌}
use Rattle.text.specs.Lines.{lines_to}
use Rattle.listing.specs.Texts.{face_line}
use Rattle.lists.specs.Puts.{Put}
use Rattle.listing.proofs.put_faces.Given as goal

abbrev pub invariant-loop-k : goal.invariant-loop-k
invariant-loop-k l = Put (33 * l.k) (lines_to (face_line l.faces) l.k) l.at l.initial.out l.out l.next
