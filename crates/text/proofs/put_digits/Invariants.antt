-- With the digits of what is left stored too, the buffer is as it is to be.
use Rattle.std.proofs.Common.{◌≡◌}
use Rattle.std.proofs.lemmas.List.Edits.{sets}
use Rattle.text.specs.Digits.{digits}
use Rattle.text.proofs.put_digits.Given as goal

abbrev pub invariant-loop-i : goal.invariant-loop-i
invariant-loop-i l = sets l.out l.at (digits l.base l.i l.rest) ≡ sets l.initial.out l.at (digits l.base l.k l.n)
