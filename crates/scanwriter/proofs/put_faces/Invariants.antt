-- The first numbers are stored.
use Rattle.records.proofs.WordLaws.{FoursStored}
use Rattle.scanwriter.proofs.put_faces.Given as goal

abbrev pub invariant-loop-number : goal.invariant-loop-number
invariant-loop-number l = FoursStored l.faces l.at l.initial.file l.number-index l.file l.next
