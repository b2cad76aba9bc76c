-- The first numbers are stored.
use Rattle.std.proofs.Common.{map}
use Rattle.std.specs.Float.{binary32}
use Rattle.std.specs.Float.Ieee.{to_bits}
use Rattle.records.proofs.WordLaws.{FoursStored}
use Rattle.scanwriter.proofs.put_points.Given as goal

abbrev pub invariant-loop-x : goal.invariant-loop-x
invariant-loop-x l = FoursStored (map (to_bits binary32) l.points) l.at l.initial.file l.x-index l.file l.next
