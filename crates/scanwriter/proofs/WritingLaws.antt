-- What a call that is not refused was given; and the three records, put together of their parts.
-- Assumes nothing.
use Prim.Native.Nat.{ℕ, ◌+◌, ◌*◌, ◌/◌, ◌%◌, ◌≤◌}
use native.Mathlib.Omega.{arith}
use mathlib.Core.Path.{◌≡◌, refl, sym, ap, ◌∙◌}
use mathlib.Core.List.{List, [], map}
use mathlib.Core.Bool.{Bool, true, false, not, ◌||◌, cond}
use lib.Dec.{ltb, eqb}
use lib.ListN.{length, length-map}
use lib.Ieee.{Float, binary32, to_bits}
use borrow.Author.Tests.{ltb-false, eqb-true, le-ltb}
use Rattle.lists.specs.Puts.{Put}
use Rattle.lists.proofs.PutLaws.{none, wider, both, whole}
use Rattle.units.specs.Units.{known_unit}
use Rattle.records.specs.Words.{as_fours}
use Rattle.records.specs.Records.{head_bytes, record_bytes, records_bytes}
use Rattle.records.proofs.WordLaws.{fours-length}
use Rattle.scanfile.specs.Layout.{most_points, most_faces, second_at, third_after}
use Rattle.scanfile.specs.Files.{options_record}
use Rattle.std.specs.Prelude.{Result, Ok, Err}
use Rattle.scanwriter.specs.declared.WriteFault.{WriteFault}
use Rattle.scanwriter.specs.declared.WriteFault.TheVariants.{UnevenList, UnknownUnit, TooMany, ShortBuffer}
use Rattle.scanwriter.specs.Written.{scan_contents, scan_bytes, scan_room, writing_of, buffer_after, ScanWritten}
use Rattle.scanwriter.specs.Clauses.{ScanFits}

-- ---- what is not refused

-- no refusal, so none of the six tests holds
record NoneHolds (a b c d e g : Bool) (end n : ℕ) : Type 0 where
  points_by_three : a ≡ true
  faces_by_three : b ≡ true
  unit_known : c ≡ true
  few_points : d ≡ false
  few_faces : e ≡ false
  enough : g ≡ false
  counted : n ≡ end

none-holds : (a b c d e g : Bool) (third end n : ℕ) →
    cond (not a || not b) (Err UnevenList) (cond (not c) (Err UnknownUnit) (cond d (Err (TooMany second_at)) (cond e (Err (TooMany third)) (cond g (Err ShortBuffer) (Ok end))))) ≡ Ok n →
    NoneHolds a b c d e g end n
none-holds false b c d e g third end n h = let z : ◌≡◌ {A = ℕ} 0 1 = cc in absurd (omega arith)
none-holds true false c d e g third end n h = let z : ◌≡◌ {A = ℕ} 0 1 = cc in absurd (omega arith)
none-holds true true false d e g third end n h = let z : ◌≡◌ {A = ℕ} 0 1 = cc in absurd (omega arith)
none-holds true true true true e g third end n h = let z : ◌≡◌ {A = ℕ} 0 1 = cc in absurd (omega arith)
none-holds true true true false true g third end n h = let z : ◌≡◌ {A = ℕ} 0 1 = cc in absurd (omega arith)
none-holds true true true false false true third end n h = let z : ◌≡◌ {A = ℕ} 0 1 = cc in absurd (omega arith)
none-holds true true true false false false third end n h =
    record { points_by_three = refl; faces_by_three = refl; unit_known = refl; few_points = refl; few_faces = refl; enough = refl; counted = cc }

-- what was given fits, and how many bytes it takes
pub fits : (unit : ℕ) (points : List Float) (faces file : List ℕ) (n : ℕ) → writing_of unit (length points) (length faces) (length file) ≡ Ok n →
    ScanFits unit points faces file × (n ≡ scan_room (length points) (length faces))
unfolding writing_of
fits unit points faces file n e =
    let p = length points in
    let f = length faces in
    let t =
    none-holds (eqb (p % 3) 0) (eqb (f % 3) 0) (known_unit unit) (ltb most_points (p / 3)) (ltb most_faces (f / 3)) (ltb (length file) (scan_room p f))
    (third_after (p / 3)) (scan_room p f) n e
    in (
      record {
        points_by_three = omega (arith, eqb-true (p % 3) 0 t.points_by_three);
        faces_by_three = omega (arith, eqb-true (f % 3) 0 t.faces_by_three);
        unit_known = t.unit_known;
        points_most = ltb-false _ _ t.few_points;
        faces_most = ltb-false _ _ t.few_faces;
        room = ltb-false _ _ t.enough;
      },
      t.counted,
    )

-- and what fits is not refused
pub taken : {unit : ℕ} {points : List Float} {faces file : List ℕ} → ScanFits unit points faces file →
    writing_of unit (length points) (length faces) (length file) ≡ Ok (scan_room (length points) (length faces))
unfolding writing_of
taken {unit} {points} {faces} {file} fit =
    let p = length points in
    let f = length faces in
    let points-even : p % 3 ≡ 0 = omega arith in
    let faces-even : f % 3 ≡ 0 = omega arith in
    rw (points-even, faces-even, fit.unit_known, le-ltb _ _ fit.points_most, le-ltb _ _ fit.faces_most, le-ltb _ _ fit.room) refl

-- ---- the three records, one after another

-- a record of numbers: its head, and its payload
record-put : (kind : ℕ) (ns : List ℕ) {size at p r : ℕ} {a b c : List ℕ} → size ≡ 4 * length ns → Put 6 (head_bytes size kind) at a b p →
    Put (4 * length ns) (as_fours ns) p b c r → Put (6 + 4 * length ns) (record_bytes (record { kind = kind; payload = as_fours ns })) at a c r
record-put kind ns {size} sized head payload =
    let long : size ≡ length (as_fours ns) = sized ∙ sym (fours-length ns) in
    both (rw long at head) payload

pub scan-put : (unit : ℕ) (points : List Float) (faces : List ℕ) {p q r s t : ℕ} {a b c d e g : List ℕ} → ScanFits unit points faces a →
    Put 18 (record_bytes (options_record (scan_contents unit [] []))) 0 a b p →
    Put 6 (head_bytes (4 * length points) 2) p b c q → Put (4 * length points) (as_fours (map (to_bits binary32) points)) q c d r →
    Put 6 (head_bytes (4 * length faces) 3) r d e s → Put (4 * length faces) (as_fours faces) s e g t →
    Put (scan_room (length points) (length faces)) (scan_bytes unit points faces) 0 a g t
unfolding records_bytes
scan-put unit points faces {t = t} {g = g} fit options points-head points-put faces-head faces-put =
    let bits = map (to_bits binary32) points in
    let same : length bits ≡ length points = length-map points (to_bits binary32) in
    let most : 18 + ((6 + 4 * length bits) + ((6 + 4 * length faces) + 0)) ≤ scan_room (length points) (length faces) = omega (arith, same) in
    wider most
    (both options
    (both (record-put 2 bits (rw same refl) points-head (rw same points-put))
    (both (record-put 3 faces refl faces-head faces-put) (none g t))))

-- ---- what is left

module _ (unit : ℕ) (points : List Float) (faces old : List ℕ) where
  pub all-written : {n r : ℕ} {new : List ℕ} → Ok n ≡ writing_of unit (length points) (length faces) (length old) →
      Put (scan_room (length points) (length faces)) (scan_bytes unit points faces) 0 old new r → ScanWritten unit points faces old new (Ok n)
  all-written {n} {r} {new} e done =
      let room = (fits unit points faces old n (sym e)).0.room in
      record { answered = e; written = whole done room ∙ ap (λ (w : Result ℕ WriteFault). buffer_after w (scan_bytes unit points faces) old) e }

  pub none_written : {fault : WriteFault} → Err fault ≡ writing_of unit (length points) (length faces) (length old) →
      ScanWritten unit points faces old old (Err fault)
  none_written e = record { answered = e; written = ap (λ (w : Result ℕ WriteFault). buffer_after w (scan_bytes unit points faces) old) e }

-- the longest file that is written
pub longest : {unit : ℕ} {points : List Float} {faces old new : List ℕ} {w : Result ℕ WriteFault} {n : ℕ} → ScanWritten unit points faces old new w → w ≡ Ok n → n ≤ 4638
longest {unit} {points} {faces} {old} {n = n} done is =
    let fit = fits unit points faces old n (sym done.answered ∙ is) in
    omega (arith, fit.0.points_most, fit.0.faces_most, fit.1)
