-- A file is good exactly when it is three records of the right kinds and lengths, or four, a unit and flags that are known, and no byte more.
-- Assumes nothing.
use Prim.Native.Nat.{ℕ, ◌+◌, ◌*◌, ◌/◌, ◌%◌, ◌≤◌, ◌<◌}
use native.Mathlib.Omega.{arith}
use mathlib.Core.Path.{◌≡◌, refl, sym, ap, ◌∙◌}
use mathlib.Core.Logic.{◌⊎◌, inl, inr}
use mathlib.Core.List.{List}
use mathlib.Core.Bool.{Bool, true, false, not, cond}
use lib.Dec.{ltb, eqb}
use lib.ListN.{length}
use borrow.Author.Tests.{ltb-false}
use Rattle.lists.proofs.TestLaws.{by-test}
use Rattle.units.specs.Units.{known_unit}
use Rattle.units.proofs.UnitLaws.{number_known, number-of-unit}
use Rattle.records.specs.Records.{head_length, size_at, kind_at, next_at}
use Rattle.scanfile.specs.declared.Head.{Head}
use Rattle.std.specs.Prelude.{Ok}
use Rattle.scanfile.specs.declared.faults.Fault.TheVariants.{BytesFollow}
use Rattle.scanfile.specs.Layout.{second_at, third_at, fourth_at, third_after, end_after, margin_at, marked, last_end}
use Rattle.scanfile.specs.Faults.{fault_if, unit_in, record_fault, options_fault}
use Rattle.scanfile.specs.Scans.{head_of, refuse, fourth_fault, after_last, after_third, scan_of}
use Rattle.scanfile.specs.Facts.{EndsThird, EndsFourth, GoodFile}
use Rattle.scanfile.proofs.FaultLaws.{not_passed, GoodRecord, passed, passes, options-size, points-size, faces-size, margin-size, options-passed, options-pass}
use Rattle.scanfile.proofs.ScanLaws.{after_second, after_options, not-refused, NoneRefused, three-passed, no-head, a-head, margin-passed, margin-absent, all-good}

-- ---- all tests of a good file

record AllPassed (bytes : List ℕ) (h : Head) : Type 0 where
  none_refused : NoneRefused bytes
  fourth : fourth_fault bytes ≡ Ok tt
  none_spare : length bytes ≤ last_end bytes
  head_is : h ≡ head_of bytes

no-spare : (t : Bool) → fault_if t BytesFollow (Ok tt) ≡ Ok tt → t ≡ false
no-spare true e = absurd (not_passed e)
no-spare false e = refl

all-passed : (bytes : List ℕ) (h : Head) → scan_of bytes ≡ Ok h → AllPassed bytes h
unfolding scan_of
all-passed bytes h e =
    let third = third_at bytes in
    let a = not-refused (record_fault bytes 1 0) 0 (refuse (options_fault bytes) 0 (after_options bytes)) h e in
    let b = not-refused (options_fault bytes) 0 (after_options bytes) h a.1 in
    let c = not-refused (record_fault bytes 2 second_at) second_at (after_second bytes) h b.1 in
    let d = not-refused (record_fault bytes 3 third) third (after_third bytes) h c.1 in
    let f = not-refused (fourth_fault bytes) (fourth_at bytes) (after_last bytes) h d.1 in
    let g = not-refused (fault_if (ltb (last_end bytes) (length bytes)) BytesFollow (Ok tt)) (last_end bytes) (Ok (head_of bytes)) h f.1 in
    let same = g.1 in
    record {
      none_refused = record { first = a.0; options = b.0; second = c.0; third = d.0 };
      fourth = f.0;
      none_spare = ltb-false (last_end bytes) (length bytes) (no-spare _ g.0);
      head_is = cc;
    }

-- ---- what follows the third record

module _ {bytes : List ℕ} {h : Head} (p : AllPassed bytes h) (here : fourth_at bytes ≡ end_after h.points h.faces) (there : fourth_at bytes ≤ length bytes) where
  -- how many points the margin names
  margin-is : {b : Bool} → marked bytes ≡ b → h.margin ≡ cond b (size_at bytes (fourth_at bytes) / 4) 0
  margin-is e = ap (λ (x : Head). x.margin) p.head_is ∙ rw e refl

  -- without a fourth record
  no-fourth : marked bytes ≡ false → EndsThird bytes h
  no-fourth absent =
      let none_spare : length bytes ≤ fourth_at bytes = rw absent at p.none_spare in
      record { none_named = margin-is absent; whole = omega arith }

  -- with one: it passed, and no byte follows
  fourth-good : marked bytes ≡ true → GoodRecord bytes 4 (fourth_at bytes)
  fourth-good marks = passed bytes 4 (fourth_at bytes) (rw marks at p.fourth)

  a-fourth : marked bytes ≡ true → EndsFourth bytes h
  a-fourth marks =
      let g = fourth-good marks in
      let size : size_at bytes (fourth_at bytes) ≡ 4 * h.margin = omega (arith, margin-is marks, margin-size g) in
      let none_spare : length bytes ≤ fourth_at bytes + head_length + size_at bytes (fourth_at bytes) = rw marks at p.none_spare in
      record {
        fourth_kind = rw here at g.kind_right;
        fourth_size = rw here at size;
        whole = omega (arith, g.room);
      }

  -- one or the other
  ending : EndsThird bytes h ⊎ EndsFourth bytes h
  ending = by-test (marked bytes) (λ marks. inr (a-fourth marks)) (λ absent. inl (no-fourth absent))

  few-named : h.margin ≤ 128
  few-named = by-test (marked bytes) (λ marks. omega (arith, margin-is marks, (fourth-good marks).size_most)) (λ absent. omega (arith, margin-is absent))

-- ---- good, and what that is

pub good-file : (bytes : List ℕ) (h : Head) → scan_of bytes ≡ Ok h → GoodFile bytes h
good-file bytes h e =
    let p = all-passed bytes h e in
    let first = passed bytes 1 0 p.none_refused.first in
    let second = passed bytes 2 second_at p.none_refused.second in
    let third = passed bytes 3 (third_at bytes) p.none_refused.third in
    let o = options-passed bytes p.none_refused.options in
    let points : h.points ≡ size_at bytes second_at / 12 = ap (λ (x : Head). x.points) p.head_is in
    let faces : h.faces ≡ size_at bytes (third_at bytes) / 12 = ap (λ (x : Head). x.faces) p.head_is in
    let second_size : size_at bytes second_at ≡ 12 * h.points = omega (arith, points-size second) in
    let third_size : size_at bytes (third_at bytes) ≡ 12 * h.faces = omega (arith, faces-size third) in
    let here : fourth_at bytes ≡ end_after h.points h.faces = omega arith in
    record {
      head_is = p.head_is;
      first_kind = first.kind_right;
      second_kind = second.kind_right;
      third_kind = rw second_size at third.kind_right;
      first_size = options-size first;
      second_size = second_size;
      third_size = rw second_size at third_size;
      there = omega (arith, third.room);
      ends = ending p here third.room;
      points_most = omega (arith, second.size_most);
      faces_most = omega (arith, third.size_most);
      margin_most = few-named p here third.room;
      unit_is = rw p.head_is (sym (number-of-unit (unit_in bytes) o.0));
      flags_known = o.1;
    }

-- its unit is known
pub unit_known : {bytes : List ℕ} {h : Head} → GoodFile bytes h → known_unit (unit_in bytes) ≡ true
unit_known {bytes} {h} g = rw g.unit_is (number_known h.unit)

-- a length that leaves no rest is one that 23 lets through
no-rest : (rest : ℕ) → rest ≡ 0 → not (eqb rest 0) ≡ false
no-rest rest none = rw none refl

module _ {bytes : List ℕ} {h : Head} (g : GoodFile bytes h) where
  -- where the third record is, and how long
  third-place : third_at bytes ≡ third_after h.points
  third-place = omega (arith, g.second_size)

  third_size : size_at bytes (third_at bytes) ≡ 12 * h.faces
  third_size = rw third-place g.third_size

  -- where a fourth record would start
  pub fourth-place : fourth_at bytes ≡ end_after h.points h.faces
  fourth-place = omega (arith, third-place, third_size)

  -- whether there is one
  pub not-marked : length bytes ≡ end_after h.points h.faces → marked bytes ≡ false
  not-marked whole = no-head bytes fourth-place whole

  pub is-marked : EndsFourth bytes h → marked bytes ≡ true
  is-marked e = a-head bytes fourth-place (omega arith) e.fourth_kind

  -- the margin's numbers are all there, if any
  pub margin-there : 0 < h.margin → margin_at h.points h.faces + 4 * h.margin ≤ length bytes
  margin-there some = by_end g.ends
    where
      by_end : EndsThird bytes h ⊎ EndsFourth bytes h → margin_at h.points h.faces + 4 * h.margin ≤ length bytes
      by_end (inl e) = omega arith
      by_end (inr e) = omega arith

  -- the first three records pass
  none_refused : NoneRefused bytes
  none_refused =
      let kind : kind_at bytes (third_at bytes) ≡ 3 = rw third-place g.third_kind in
      let size = third_size in
      let place = third-place in
      let first : GoodRecord bytes 1 0 =
      record { kind_right = g.first_kind; size_right = rw g.first_size refl; size_most = omega arith; room = omega arith } in
      let second : GoodRecord bytes 2 second_at =
      record { kind_right = g.second_kind; size_right = no-rest (size_at bytes second_at % 12) (omega (arith, g.second_size)); size_most = omega arith; room = omega arith } in
      let third : GoodRecord bytes 3 (third_at bytes) =
      record { kind_right = kind; size_right = no-rest (size_at bytes (third_at bytes) % 12) (omega arith); size_most = omega arith; room = omega arith } in
      record {
        first = passes bytes 1 0 first;
        options = options-pass bytes (unit_known g) g.flags_known;
        second = passes bytes 2 second_at second;
        third = passes bytes 3 (third_at bytes) third;
      }

  -- and so does what follows them
  good-end : EndsThird bytes h ⊎ EndsFourth bytes h → Ok h ≡ after_third bytes
  good-end (inl e) =
      let absent = not-marked e.whole in
      let end : fourth_at bytes ≡ last_end bytes = rw absent refl in
      all-good bytes (fourth_at bytes) end (omega (arith, fourth-place)) h g.head_is ∙ margin-absent bytes absent
  good-end (inr e) =
      let marks = is-marked e in
      let end : next_at bytes (fourth_at bytes) ≡ last_end bytes = rw marks refl in
      let size : size_at bytes (fourth_at bytes) ≡ 4 * h.margin = rw fourth-place e.fourth_size in
      let here = fourth-place in
      let fourth : GoodRecord bytes 4 (fourth_at bytes) =
      record { kind_right = rw here e.fourth_kind; size_right = no-rest (size_at bytes (fourth_at bytes) % 4) (omega arith); size_most = omega arith; room = omega arith } in
      all-good bytes (next_at bytes (fourth_at bytes)) end (omega arith) h g.head_is ∙ margin-passed bytes marks (passes bytes 4 (fourth_at bytes) fourth)

pub file-good : (bytes : List ℕ) (h : Head) → GoodFile bytes h → scan_of bytes ≡ Ok h
file-good bytes h g = sym (good-end g g.ends ∙ three-passed (none_refused g))

-- the longest good file
pub good-longest : (bytes : List ℕ) (h : Head) → scan_of bytes ≡ Ok h → length bytes ≤ 5156
good-longest bytes h e = by_end (good-file bytes h e).ends
  where
    by_end : EndsThird bytes h ⊎ EndsFourth bytes h → length bytes ≤ 5156
    by_end (inl end) = let g = good-file bytes h e in omega arith
    by_end (inr end) = let g = good-file bytes h e in omega arith
