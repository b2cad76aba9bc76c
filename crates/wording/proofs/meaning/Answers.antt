-- `wording::meaning` meets its contract: a number's cells have the words of its row. Assumes nothing.
use mathlib.Core.Path.{refl}
use borrow.Author.Rules.{rules}
use native.Mathlib.Omega.{arith}
use Rattle.wording.specs.Meanings.{meanings, row_of}
use Rattle.wording.proofs.MeaningLaws.{NoneOf, by_row, known-row, no_row}
use Rattle.wording.proofs.meaning.Goals as goal

pub returns-in-1 : goal.returns-in-1
unfolding meanings row_of
returns-in-1 c = by_row (known-row c.in-1.is) refl refl (omega arith)

pub returns-in-2 : goal.returns-in-2
unfolding meanings row_of
returns-in-2 c = by_row (known-row c.in-2.is) refl refl (omega arith)

pub returns-in-3 : goal.returns-in-3
unfolding meanings row_of
returns-in-3 c = by_row (known-row c.in-3.is) refl refl (omega arith)

pub returns-in-4 : goal.returns-in-4
unfolding meanings row_of
returns-in-4 c = by_row (known-row c.in-4.is) refl refl (omega arith)

pub returns-in-5 : goal.returns-in-5
unfolding meanings row_of
returns-in-5 c = by_row (known-row c.in-5.is) refl refl (omega arith)

pub returns-in-6 : goal.returns-in-6
unfolding meanings row_of
returns-in-6 c = by_row (known-row c.in-6.is) refl refl (omega arith)

pub returns-in-7 : goal.returns-in-7
unfolding meanings row_of
returns-in-7 c = by_row (known-row c.in-7.is) refl refl (omega arith)

pub returns-in-8 : goal.returns-in-8
unfolding meanings row_of
returns-in-8 c = by_row (known-row c.in-8.is) refl refl (omega arith)

pub returns-in-9 : goal.returns-in-9
unfolding meanings row_of
returns-in-9 c = by_row (known-row c.in-9.is) refl refl (omega arith)

pub returns-in-10 : goal.returns-in-10
unfolding meanings row_of
returns-in-10 c = by_row (known-row c.in-10.is) refl refl (omega arith)

pub returns-in-11 : goal.returns-in-11
unfolding meanings row_of
returns-in-11 c = by_row (known-row c.in-11.is) refl refl (omega arith)

pub returns-in-12 : goal.returns-in-12
unfolding meanings row_of
returns-in-12 c = by_row (known-row c.in-12.is) refl refl (omega arith)

pub returns-in-21 : goal.returns-in-21
unfolding meanings row_of
returns-in-21 c = by_row (known-row c.in-21.is) refl refl (omega arith)

pub returns-in-22 : goal.returns-in-22
unfolding meanings row_of
returns-in-22 c = by_row (known-row c.in-22.is) refl refl (omega arith)

pub returns-in-23 : goal.returns-in-23
unfolding meanings row_of
returns-in-23 c = by_row (known-row c.in-23.is) refl refl (omega arith)

pub returns-in-24 : goal.returns-in-24
unfolding meanings row_of
returns-in-24 c = by_row (known-row c.in-24.is) refl refl (omega arith)

pub returns-in-25 : goal.returns-in-25
unfolding meanings row_of
returns-in-25 c = by_row (known-row c.in-25.is) refl refl (omega arith)

pub returns-in-26 : goal.returns-in-26
unfolding meanings row_of
returns-in-26 c = by_row (known-row c.in-26.is) refl refl (omega arith)

pub returns-in-27 : goal.returns-in-27
unfolding meanings row_of
returns-in-27 c = by_row (known-row c.in-27.is) refl refl (omega arith)

pub returns-in-31 : goal.returns-in-31
unfolding meanings row_of
returns-in-31 c = by_row (known-row c.in-31.is) refl refl (omega arith)

pub returns-in_default : goal.returns-in_default
unfolding meanings row_of
returns-in_default c =
    let none : NoneOf c.args.number (Unit {0}) meanings = search rules in
    by_row (no_row _ _ meanings none) refl refl (omega arith)
