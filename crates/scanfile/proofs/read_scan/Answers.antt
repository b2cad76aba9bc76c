-- `scanfile::read_scan` meets its contract: each return is the answer after the tests that passed.
-- Assumes nothing.
use Prim.Native.Nat.{ℕ, ◌+◌}
use native.Mathlib.Omega.{arith}
use mathlib.Core.Path.{◌≡◌, sym, ap, ◌∙◌}
use borrow.Author.Rules.{rules}
use Rattle.std.specs.Prelude.{Ok}
use Rattle.scanfile.specs.Layout.{second_at, points_at, third_at}
use Rattle.scanfile.specs.Faults.{record_fault, options_fault}
use Rattle.scanfile.proofs.FaultLaws.{passed, options-size, options-passed}
use Rattle.scanfile.proofs.ScanLaws.{passes-at, NoneRefused, first-refused, options-refused, second-refused, third-refused, three-passed}
use Rattle.scanfile.proofs.read_scan.Goals as goal
use Rattle.scanfile.proofs.read_scan.Goals.{In_ok-check_record, In_ok-check_options, In_ok-check_record-2, In_ok-check_record-3}

-- ---- what passed

first : (c : In_ok-check_record) → record_fault c.args.bytes.now 1 0 ≡ Ok tt
first c = passes-at _ _ (sym c.in_ok-check_record.was ∙ c.check_record.ensures)

options : (c : In_ok-check_options) → options_fault c.args.bytes.now ≡ Ok tt
options c = passes-at _ _ (sym c.in_ok-check_options.was ∙ c.check_options.ensures)

second : (c : In_ok-check_record-2) → record_fault c.args.bytes.now 2 second_at ≡ Ok tt
second c = passes-at _ _ (sym c.in_ok-check_record-2.was ∙ c.check_record-2.ensures)

pub returns-in_err-check_record : goal.returns-in_err-check_record
returns-in_err-check_record c = let e = first-refused _ (sym c.in_err-check_record.was ∙ c.check_record.ensures) in search rules

pub check_options-requires : goal.check_options-requires
check_options-requires c = let p = passed _ _ _ (first (goal.at.check_options-requires c).In_ok-check_record) in omega (arith, p.room, options-size p)

pub returns-in_err-check_options : goal.returns-in_err-check_options
returns-in_err-check_options c =
    let e = options-refused _ (first (goal.at.returns-in_err-check_options c).In_ok-check_record) (sym c.in_err-check_options.was ∙ c.check_options.ensures) in
    search rules

pub returns-in_err-check_record-2 : goal.returns-in_err-check_record-2
returns-in_err-check_record-2 c =
    let e = second-refused _ (first (goal.at.returns-in_err-check_record-2 c).In_ok-check_record) (options (goal.at.returns-in_err-check_record-2 c).In_ok-check_options)
    (sym c.in_err-check_record-2.was ∙ c.check_record-2.ensures) in
    search rules

pub four_bytes-requires : goal.four_bytes-requires
four_bytes-requires c = omega (arith, (passed _ _ _ (second (goal.at.four_bytes-requires c).In_ok-check_record-2)).room)

pub check_record-requires-3 : goal.check_record-requires-3
check_record-requires-3 c = omega (arith, c.four_bytes.ensures, (passed _ _ _ (second (goal.at.check_record-requires-3 c).In_ok-check_record-2)).size_most)

pub returns-in_err-check_record-3 : goal.returns-in_err-check_record-3
returns-in_err-check_record-3 c =
    let here = ap (λ (n : ℕ). points_at + n) c.four_bytes.ensures in
    let e = third-refused _ (first (goal.at.returns-in_err-check_record-3 c).In_ok-check_record) (options (goal.at.returns-in_err-check_record-3 c).In_ok-check_options)
    (second (goal.at.returns-in_err-check_record-3 c).In_ok-check_record-2) _ here (sym c.in_err-check_record-3.was ∙ c.check_record-3.ensures) in
    search rules

none_refused : (c : In_ok-check_record-3) → NoneRefused c.args.bytes.now
none_refused c =
    record {
      first = passes-at _ _ (sym c.in_ok-check_record.was ∙ c.check_record.ensures);
      options = passes-at _ _ (sym c.in_ok-check_options.was ∙ c.check_options.ensures);
      second = passes-at _ _ (sym c.in_ok-check_record-2.was ∙ c.check_record-2.ensures);
      third =
          ap (λ (size : ℕ). record_fault c.args.bytes.now 3 (points_at + size)) (sym c.four_bytes.ensures)
          ∙ passes-at _ _ (sym c.in_ok-check_record-3.was ∙ c.check_record-3.ensures);
    }

pub read_tail-requires : goal.read_tail-requires
read_tail-requires c =
    let file = (c.args.bytes.now) in
    let none = none_refused (goal.at.read_tail-requires c).In_ok-check_record-3 in
    let here : points_at + c.four_bytes.result ≡ third_at file = ap (λ (n : ℕ). points_at + n) c.four_bytes.ensures in
    let third = passed file 3 (third_at file) none.third in
    record {
      third_stands = here;
      third_most = omega (arith, (passed _ _ _ none.second).size_most);
      size_most = rw here third.size_most;
      there = rw here third.room;
      unit_known = (options-passed file none.options).0;
    }

pub returns : goal.returns
returns c = c.read_tail.ensures ∙ three-passed (none_refused (goal.at.returns c).In_ok-check_record-3)
