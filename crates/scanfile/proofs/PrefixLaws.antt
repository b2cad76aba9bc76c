-- A program that stops reading at one byte over the longest good file gives the same answer.
-- Assumes nothing.
use Prim.Native.Nat.{ℕ, ◌+◌, ◌≤◌, ◌<◌}
use native.Mathlib.Omega.{arith}
use mathlib.Core.Path.{◌≡◌, refl, sym, ap, ◌∙◌}
use mathlib.Core.List.{List}
use mathlib.Core.Bool.{Bool, true, false, not}
use lib.Dec.{ltb, eqb}
use lib.ListN.{length, take}
use lib.Seq.{take_all, length-take-le}
use borrow.Author.Tests.{ltb-true, ltb-false, lt-ltb, le-ltb, le-leb}
use Rattle.lists.proofs.TestLaws.{by-test}
use Rattle.records.specs.Words.{two_bytes, four_bytes}
use Rattle.records.specs.Records.{head_length, size_at, kind_at}
use Rattle.records.proofs.WordLaws.{two-begun, four-begun}
use Rattle.std.specs.Prelude.{Result, Ok, Err}
use Rattle.scanfile.specs.declared.faults.Fault.{Fault}
use Rattle.scanfile.specs.declared.faults.Fault.TheVariants.{CutShort, OtherKind, WrongSize, TooMany}
use Rattle.scanfile.specs.Layout.{second_at, third_at, fourth_at, has_head, marked, last_end}
use Rattle.scanfile.specs.Faults.{fault_if, wrong_size, most_of, record_fault, options_fault}
use Rattle.scanfile.specs.Scans.{Scan, head_of, refuse, fourth_fault, after_last, after_third, scan_of}
use Rattle.scanfile.proofs.ScanLaws.{after_second, after_options}
use Rattle.scanfile.proofs.FaultLaws.{passed}

-- what comes next matters only where nothing refused
same_next : (t t' : Result Unit Fault) (place place' : ℕ) (next next' : Scan) → t ≡ t' → place ≡ place' → (t' ≡ Ok tt → next ≡ next') →
    refuse t place next ≡ refuse t' place' next'
same_next t t' place place' next next' test here same = rw (test, here) (by_test t' same)
  where
    by_test : (t : Result Unit Fault) → (t ≡ Ok tt → next ≡ next') → refuse t place' next ≡ refuse t place' next'
    by_test (Ok none) same = same refl
    by_test (Err fault) same = refl

-- the last test of a record matters only where there are not too many
same_tests : (a b c d d' : Bool) → (c ≡ false → d ≡ d') →
    fault_if a OtherKind (fault_if b WrongSize (fault_if c TooMany (fault_if d CutShort (Ok tt))))
    ≡ fault_if a OtherKind (fault_if b WrongSize (fault_if c TooMany (fault_if d' CutShort (Ok tt))))
same_tests a b true d d' same = refl
same_tests a b false d d' same = rw (same refl) refl

-- ---- a file with spare bytes, and its beginning

module _ (n : ℕ) (most : 5157 ≤ n) (bytes : List ℕ) (long : n ≤ length bytes) where
  abbrev begin : List ℕ
  begin = take n bytes

  begin-length : length begin ≡ n
  begin-length = length-take-le n bytes long

  same-two : (at : ℕ) → at + 2 ≤ 5157 → two_bytes begin at ≡ two_bytes bytes at
  same-two at h = two-begun n bytes at (omega arith)

  same-four : (at : ℕ) → at + 4 ≤ 5157 → four_bytes begin at ≡ four_bytes bytes at
  same-four at h = four-begun n bytes at (omega arith)

  -- a record that would end within the longest file, were it as long as it may be
  same-fault : (kind : ℕ) (at : ℕ) → at + head_length + most_of kind ≤ 5156 → record_fault begin kind at ≡ record_fault bytes kind at
  unfolding record_fault
  same-fault kind at h =
      let size = size_at bytes at in
      let head : at + 6 ≤ length begin = omega (arith, begin-length) in
      let head' : at + 6 ≤ length bytes = omega arith in
      rw (le-ltb _ _ head, le-ltb _ _ head', same-two (at + 4) (omega arith), same-four at (omega arith))
      (same_tests (not (eqb (kind_at bytes at) kind)) (wrong_size kind size) (ltb (most_of kind) size)
      (ltb (length begin) (at + 6 + size)) (ltb (length bytes) (at + 6 + size))
      (λ few.
      let few-enough : size ≤ most_of kind = ltb-false _ _ few in
      let room : at + 6 + size ≤ length begin = omega (arith, begin-length) in
      let room' : at + 6 + size ≤ length bytes = omega arith in
      le-ltb _ _ room ∙ sym (le-ltb _ _ room')))

  same-options : options_fault begin ≡ options_fault bytes
  unfolding options_fault
  same-options = rw (same-two 6 (omega arith), same-two 8 (omega arith)) refl

  -- ---- the places, once the records before them passed

  module _ (second : size_at bytes second_at ≤ 1536) where
    same-third : third_at begin ≡ third_at bytes
    same-third = rw (same-four 18 (omega arith)) refl

    -- the fourth record's place
    same-fourth : fourth_at begin ≡ fourth_at bytes
    same-fourth = rw (same-third, same-four (third_at bytes) (omega arith)) refl

    module _ (third : size_at bytes (third_at bytes) ≤ 3072) where
      -- whether it is there, how long it is, and where the last record ends
      same-marked : marked begin ≡ marked bytes
      same-marked =
          let here : fourth_at bytes + head_length ≤ length begin = omega (arith, begin-length) in
          let there : fourth_at bytes + head_length ≤ length bytes = omega arith in
          ap (has_head begin 4) same-fourth ∙ rw (le-leb _ _ here, le-leb _ _ there, same-two (fourth_at bytes + 4) (omega arith)) refl

      same_size : size_at begin (fourth_at begin) ≡ size_at bytes (fourth_at bytes)
      same_size = ap (size_at begin) same-fourth ∙ same-four (fourth_at bytes) (omega arith)

      same-last : last_end begin ≡ last_end bytes
      same-last = rw (same-marked, same_size, same-fourth) refl

      same_head : head_of begin ≡ head_of bytes
      same_head =
          rw (
            same-marked,
            same_size,
            same-two 6 (omega arith),
            same-two 8 (omega arith),
            same-four 10 (omega arith),
            same-four 14 (omega arith),
            same-four 18 (omega arith),
            same-four (third_at bytes) (omega arith),
          ) refl

      -- where it is not refused the last record ends within the longest file
      fourth-most : fourth_fault bytes ≡ Ok tt → last_end bytes ≤ 5156
      fourth-most none =
          by-test (marked bytes)
          (λ marks. let good = passed bytes 4 (fourth_at bytes) (rw marks at none) in rw marks (omega (arith, good.size_most)))
          (λ absent. rw absent (omega arith))

      same-spare : last_end bytes ≤ 5156 → ltb (last_end begin) (length begin) ≡ ltb (last_end bytes) (length bytes)
      same-spare last =
          let here : last_end begin < length begin = omega (arith, begin-length, same-last) in
          let there : last_end bytes < length bytes = omega arith in
          lt-ltb _ _ here ∙ sym (lt-ltb _ _ there)

      same-after-third : after_third begin ≡ after_third bytes
      same-after-third =
          same_next (fourth_fault begin) (fourth_fault bytes) (fourth_at begin) (fourth_at bytes) (after_last begin) (after_last bytes)
          (rw (same-marked, same-fourth, same-fault 4 (fourth_at bytes) (omega arith)) refl) same-fourth
          (λ none. rw (same-spare (fourth-most none), same-last, same_head) refl)

  same-after-second : size_at bytes second_at ≤ 1536 → after_second begin ≡ after_second bytes
  same-after-second second =
      let place = same-third second in
      same_next _ _ (third_at begin) (third_at bytes) (after_third begin) (after_third bytes)
      (ap (record_fault begin 3) place ∙ same-fault 3 (third_at bytes) (omega arith)) place
      (λ none. same-after-third second (passed bytes 3 (third_at bytes) none).size_most)

  same-after-options : after_options begin ≡ after_options bytes
  same-after-options =
      same_next _ _ second_at second_at (after_second begin) (after_second bytes) (same-fault 2 second_at (omega arith)) refl
      (λ none. same-after-second (passed bytes 2 second_at none).size_most)

  same-long : scan_of begin ≡ scan_of bytes
  unfolding scan_of
  same-long =
      same_next _ _ 0 0 (refuse (options_fault begin) 0 (after_options begin)) (refuse (options_fault bytes) 0 (after_options bytes))
      (same-fault 1 0 (omega arith)) refl
      (λ _. same_next _ _ 0 0 (after_options begin) (after_options bytes) same-options refl (λ _. same-after-options))

-- any beginning that is longer than the longest good file
pub prefix-enough : (n : ℕ) → 5157 ≤ n → (bytes : List ℕ) → scan_of (take n bytes) ≡ scan_of bytes
prefix-enough n most bytes = by_length (ltb (length bytes) n) refl
  where
    by_length : (short : Bool) → ltb (length bytes) n ≡ short → scan_of (take n bytes) ≡ scan_of bytes
    by_length true e = ap scan_of (take_all n bytes (omega (arith, ltb-true (length bytes) n e)))
    by_length false e = same-long n most bytes (ltb-false (length bytes) n e)
