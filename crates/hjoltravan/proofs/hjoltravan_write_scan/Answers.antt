-- The writer's answer as three numbers.
use mathlib.Core.Path.{sym, ap}
use borrow.Author.Rules.{rules}
use Rattle.scanwriter.specs.Written.{three_of}
use Rattle.scanwriter.proofs.WritingLaws.{longest}
use Rattle.hjoltravan.proofs.CallLaws.{called-to-write}
use Rattle.hjoltravan.proofs.hjoltravan_write_scan.Goals as goal

pub overflow_cast-answer : goal.overflow_cast-answer
overflow_cast-answer c =
    let few = longest c.write_scan.ensures c.in-Ok.is in
    search rules

pub returns-in-Ok : goal.returns-in-Ok
returns-in-Ok c = called-to-write c.write_scan.ensures (ap three_of (sym c.in-Ok.is))

pub returns-in-Err : goal.returns-in-Err
returns-in-Err c =
    rw (c.number.ensures, c.place.ensures) (called-to-write c.write_scan.ensures (ap three_of (sym c.in-Err.is)))
