-- How a file comes to be refused or good: which tests passed, and which did not.
-- Assumes nothing.
use Prim.Native.Nat.{ℕ, ◌+◌, ◌≤◌, ◌<◌}
use native.Mathlib.Omega.{arith}
use mathlib.Core.Path.{◌≡◌, refl, sym}
use mathlib.Core.List.{List}
use mathlib.Core.Bool.{true, false}
use lib.ListN.{length}
use borrow.Author.Tests.{le-ltb, le-leb, lt-leb, eq-eqb}
use Rattle.records.specs.Records.{head_length, kind_at}
use Rattle.scanfile.specs.declared.Head.{Head}
use Rattle.std.specs.Prelude.{Result, Ok, Err}
use Rattle.scanfile.specs.declared.faults.Fault.{Fault}
use Rattle.scanfile.specs.declared.faults.BadFile.{BadFile}
use Rattle.scanfile.specs.Layout.{second_at, third_at, fourth_at, marked, last_end}
use Rattle.scanfile.specs.Faults.{record_fault, options_fault, at_place}
use Rattle.scanfile.specs.Scans.{Scan, head_of, refuse, after_last, after_third, scan_of}
use Rattle.scanfile.proofs.FaultLaws.{not_passed}

-- ---- the answer from each test on

abbrev pub after_second : List ℕ → Scan
after_second bytes = refuse (record_fault bytes 3 (third_at bytes)) (third_at bytes) (after_third bytes)

abbrev pub after_options : List ℕ → Scan
after_options bytes = refuse (record_fault bytes 2 second_at) second_at (after_second bytes)

-- ---- one test

-- one that refuses is the answer, with its place
refused : (t : Result Unit Fault) (place : ℕ) (next : Scan) {b : BadFile} → Err b ≡ at_place place t → Err b ≡ refuse t place next
refused (Ok none) place next e = absurd (not_passed e)
refused (Err fault) place next e = cc

-- one that doesn't has passed
pub passes-at : (t : Result Unit Fault) (place : ℕ) {u : Unit} → Ok u ≡ at_place place t → t ≡ Ok tt
passes-at (Ok none) place e = refl
passes-at (Err fault) place e = absurd (not_passed (sym e))

-- what is good was not refused by the first test
pub not-refused : (t : Result Unit Fault) (place : ℕ) (next : Scan) (h : Head) → refuse t place next ≡ Ok h → (t ≡ Ok tt) × (next ≡ Ok h)
not-refused (Ok none) place next h e = (refl, e)
not-refused (Err fault) place next h e = absurd (not_passed e)

-- ---- the answer by what came before it. b is what the test gave.

module _ (bytes : List ℕ) {b : BadFile} where
  pub first-refused : Err b ≡ at_place 0 (record_fault bytes 1 0) → Err b ≡ scan_of bytes
  unfolding scan_of
  first-refused e = refused _ 0 _ e

  module _ (first : record_fault bytes 1 0 ≡ Ok tt) where
    pub options-refused : Err b ≡ at_place 0 (options_fault bytes) → Err b ≡ scan_of bytes
    unfolding scan_of
    options-refused e = rw first (refused _ 0 _ e)

    module _ (options : options_fault bytes ≡ Ok tt) where
      pub second-refused : Err b ≡ at_place second_at (record_fault bytes 2 second_at) → Err b ≡ scan_of bytes
      unfolding scan_of
      second-refused e = rw (first, options) (refused _ second_at _ e)

      module _ (second : record_fault bytes 2 second_at ≡ Ok tt) where
        pub third-refused : (place : ℕ) → place ≡ third_at bytes → Err b ≡ at_place place (record_fault bytes 3 place) → Err b ≡ scan_of bytes
        unfolding scan_of
        third-refused place here e = rw (first, options, second, ← here) (refused _ place _ e)

-- no test refused a record or the options
pub record NoneRefused (bytes : List ℕ) : Type 0 where
  pub first : record_fault bytes 1 0 ≡ Ok tt
  pub options : options_fault bytes ≡ Ok tt
  pub second : record_fault bytes 2 second_at ≡ Ok tt
  pub third : record_fault bytes 3 (third_at bytes) ≡ Ok tt

-- then what follows the third record decides
pub three-passed : {bytes : List ℕ} → NoneRefused bytes → after_third bytes ≡ scan_of bytes
unfolding scan_of
three-passed t = rw (t.first, t.options, t.second, t.third)

-- ---- whether there is a fourth record

module _ (bytes : List ℕ) {end : ℕ} (here : fourth_at bytes ≡ end) where
  -- not where the third ends the file
  pub no-head : length bytes ≡ end → marked bytes ≡ false
  no-head whole =
      let short : length bytes < fourth_at bytes + head_length = omega arith in
      rw (lt-leb _ _ short) refl

  -- where a whole head of kind 4 follows it
  pub a-head : end + head_length ≤ length bytes → kind_at bytes end ≡ 4 → marked bytes ≡ true
  a-head room kind =
      let head : fourth_at bytes + head_length ≤ length bytes = omega arith in
      let right : kind_at bytes (fourth_at bytes) ≡ 4 = rw here kind in
      rw (le-leb _ _ head, eq-eqb _ _ right) refl

-- ---- the answer from the fourth record on

module _ (bytes : List ℕ) where
  -- it passes, or there is none: then the end decides
  pub margin-passed : marked bytes ≡ true → record_fault bytes 4 (fourth_at bytes) ≡ Ok tt → after_last bytes ≡ after_third bytes
  margin-passed there none = rw (there, none)

  pub margin-absent : marked bytes ≡ false → after_last bytes ≡ after_third bytes
  margin-absent absent = rw absent

  module _ (end : ℕ) (here : end ≡ last_end bytes) where
    -- with no spare byte
    pub all-good : length bytes ≤ end → (h : Head) → h ≡ head_of bytes → Ok h ≡ after_last bytes
    all-good none h e = rw (← here, le-ltb end _ none, e)
