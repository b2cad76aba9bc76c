-- From what the libraries leave to the reply.
-- Assumes nothing.
use Prim.Native.Nat.{ℕ, zero, suc, ◌+◌, ◌*◌, ◌/◌, ◌≤◌}
use native.Mathlib.Nat.{zero-add}
use native.Mathlib.Omega.{arith}
use mathlib.Core.Path.{◌≡◌, refl, sym, ap, subst, ◌∙◌}
use mathlib.Core.List.{List, ◌++◌}
use mathlib.Core.Bool.{Bool, true}
use lib.Dec.{T}
use lib.ListN.{length, get_or, take, drop, length-append, length-map}
use lib.Seq.{take_at, length-take-le, sets-eq}
use lib.Ieee.{Float, nan, binary32, fits, of_bits}
use borrow.Author.Tests.{le-leb}
use Rattle.units.specs.declared.Unit.{Unit}
use Rattle.units.specs.Units.{unit_number}
use Rattle.units.proofs.UnitLaws.{number_known}
use Rattle.walk.specs.declared.Closings.{Closings}
use Rattle.meaning.specs.declared.Answer.{Answer}
use Rattle.meaning.specs.Call.{Lent, input_of}
use Rattle.meaning.specs.Outcome.{Outcome}
use Rattle.std.specs.Prelude.{Option, Some, unwrap_or, Result, Ok, Err}
use Rattle.listing.specs.Texts.{refusal_text, mesh_text, refusal_fits, mesh_fits}
use Rattle.lists.specs.Lists.{overlaid}
use Rattle.lists.specs.Puts.{Put}
use Rattle.lists.proofs.OverlayLaws.{length_over}
use Rattle.lists.proofs.PutLaws.{put, both, whole}
use Rattle.listing.specs.Written.{Prints}
use Rattle.listing.proofs.TextLaws.{refusal-room, enough-room}
use Rattle.records.specs.Words.{numbers_from}
use Rattle.records.proofs.WordLaws.{numbers-count}
use Rattle.scanfile.specs.declared.Head.{Head}
use Rattle.scanfile.specs.Layout.{points_at, faces_at, margin_at}
use Rattle.scanfile.specs.Contents.{points_of, face_numbers_of, margin_of}
use Rattle.scanwriter.specs.declared.WriteFault.{WriteFault}
use Rattle.scanwriter.specs.Written.{scan_bytes, scan_room, ScanWritten}
use Rattle.scanwriter.specs.Clauses.{ScanFits}
use Rattle.scanwriter.proofs.WritingLaws.{taken}
use Rattle.scanwriter.proofs.BackLaws.{written_over, written_count, written-bytes, written-within, written_back}
use Rattle.replies.specs.declared.Wanted.{Wanted}
use Rattle.replies.specs.declared.Wanted.TheVariants.{Listing, File}
use Rattle.replies.specs.declared.Reply.{Reply}
use Rattle.replies.specs.declared.Reply.TheVariants.{Mesh, Refusal}
use Rattle.replies.specs.Replies.{Told, mesh, refusal, refused, told_bytes, told_by, closed_line, with_why, answer_told, outcome_told, head_options, call_of}
use Rattle.replies.specs.Clauses.{size_of, reply_in, Replied, RepliedWhy, Small, Shown}
use Rattle.replies.proofs.OutcomeLaws.{Counted}

-- ---- replies from what the libraries leave

-- a listing that fits is written whole
record Listed (text old new : List ℕ) (r : ℕ) : Type 0 where
  written : new ≡ overlaid text old
  counted : r ≡ length text
  within : length text ≤ length new

listed : {fits : Bool} {text old new : List ℕ} {l : Option ℕ} {r : ℕ} → fits ≡ true → length text ≤ length old → Prints fits text old new l → r ≡ unwrap_or l 0 →
    Listed text old new r
listed {fits} {text} {old} {new} {l} {r} large room done size =
    let printed : l ≡ Some (length text) = rw large at done.answered in
    let stands : new ≡ overlaid text old = rw large at done.written in
    let long : length new ≡ length (overlaid text old) = ap length stands in
    record {
      written = stands;
      counted = size ∙ ap (λ (o : Option ℕ). unwrap_or o 0) printed;
      within = omega (arith, length-append text (drop (length text) old));
    }

-- a refusal's line
pub refusal-replied : (wanted : Wanted) (number place : ℕ) (closed : Closings) {old new : List ℕ} {l : Option ℕ} {r : ℕ} → 12288 ≤ length old →
    Prints (refusal_fits (length old)) (refusal_text number place) old new l → r ≡ unwrap_or l 0 →
    Replied wanted (refused number place closed) old new (Refusal r number place closed)
refusal-replied wanted number place closed {old} room done size =
    let text-short : length (refusal_text number place) ≤ length old = omega (arith, refusal-room number place) in
    let there = listed (le-leb 35 (length old) (omega arith)) text-short done size in
    record {
      written = there.written;
      answered = ap (λ (k : ℕ). Refusal k number place closed) there.counted;
      short = λ told. omega (arith, refusal-room number place);
      within = there.within;
      is_scan = λ n c file mesh-told. let z : ◌≡◌ {A = ℕ} 0 1 = cc in absurd (omega arith);
    }

-- the listing of a mesh
pub listing-replied : (unit folds : ℕ) (closed : Closings) (points : List Float) (faces : List ℕ) {old new : List ℕ} {l : Option ℕ} {r : ℕ} → 12288 ≤ length old →
    Small points faces →
    Prints (mesh_fits (length old) (length points / 3) (length faces / 3)) (mesh_text unit folds points faces) old new l → r ≡ unwrap_or l 0 →
    Replied Listing (mesh (mesh_text unit folds points faces) closed) old new (Mesh r closed)
listing-replied unit folds closed points faces {old} room small done size =
    let v = length points / 3 in
    let f = length faces / 3 in
    let few : v ≤ 65536 = omega arith in
    let few_faces : f ≤ 131072 = omega arith in
    let enough : 27 * v + 33 * f + 88 ≤ length old = omega arith in
    let fits : mesh_fits (length old) v f ≡ true = rw (le-leb v 65536 few, le-leb f 131072 few_faces, le-leb (27 * v + 33 * f + 88) (length old) enough) refl in
    let text-short : length (mesh_text unit folds points faces) ≤ length old = omega (arith, enough-room unit folds points faces) in
    let there = listed fits text-short done size in
    record {
      written = there.written;
      answered = ap (λ (k : ℕ). Mesh k closed) there.counted;
      short = λ told. omega (arith, enough-room unit folds points faces);
      within = there.within;
      is_scan = λ n c file mesh-told. let z : ◌≡◌ {A = ℕ} 0 1 = cc in absurd (omega arith);
    }

-- the file of a mesh: it fits
pub small-fits : (unit : Unit) {points : List Float} {faces out : List ℕ} → 12288 ≤ length out → Small points faces → ScanFits (unit_number unit) points faces out
small-fits unit room small =
    record {
      points_by_three = small.points_by_three;
      faces_by_three = small.faces_by_three;
      unit_known = number_known unit;
      points_most = omega arith;
      faces_most = omega arith;
      room = omega arith;
    }

pub file-replied : {unit : ℕ} (closed : Closings) {points : List Float} {faces old new : List ℕ} {w : Result ℕ WriteFault} {n : ℕ} → ((i : ℕ) → T (fits binary32 (get_or points i nan))) →
    ScanWritten unit points faces old new w → w ≡ Ok n → Replied File (mesh (scan_bytes unit points faces) closed) old new (Mesh n closed)
file-replied {unit} closed {points} {faces} {old} {new} {w} {n} floats done is =
    let whole : ScanWritten unit points faces old new (Ok n) = rw is at done in
    let count = written_count whole in
    record {
      written = written_over whole;
      answered = ap (λ (k : ℕ). Mesh k closed) (sym count);
      short = λ told. let z : ◌≡◌ {A = ℕ} 0 1 = cc in absurd (omega arith);
      within = omega (arith, written-within whole, count);
      is_scan = λ k c file mesh-told.
          let same : n ≡ k = cc in
          rw (sym same)
          (record { unit = unit; points = points; faces = faces; bytes_are = written-bytes whole; back = written_back whole floats });
    }

pub never-refused : (unit : Unit) {points : List Float} {faces old new : List ℕ} {w : Result ℕ WriteFault} {fault : WriteFault} → 12288 ≤ length old → Small points faces →
    ScanWritten (unit_number unit) points faces old new w → w ≡ Err fault → ⊥
never-refused unit {points} {faces} {old} {fault = fault} room small done is =
    let same : ◌≡◌ {A = Result ℕ WriteFault} (Ok (scan_room (length points) (length faces))) (Err fault) =
    sym (taken (small-fits unit {points = points} {faces = faces} {out = old} room small)) ∙ sym done.answered ∙ is in
    let z : ◌≡◌ {A = ℕ} 0 1 = cc in
    omega arith

-- ---- what a reply says of the buffer

-- its bytes are all there
told-size : (t : Told) → size_of (reply_in t) ≡ length (told_bytes t)
told-size (mesh bytes closed) = refl
told-size (refusal number place line closed) = refl

pub reply-within : {wanted : Wanted} {t : Told} {old new : List ℕ} {r s : Reply} → Replied wanted t old new r → r ≡ s → size_of s ≤ length new
reply-within {t = t} {r = r} done is =
    let size : size_of r ≡ length (told_bytes t) = ap size_of done.answered ∙ told-size t in
    rw (sym is) (omega (arith, done.within))

-- ---- the reply with the line of the pairs closed

-- a text over the beginning is one that was stored there
over : (text old : List ℕ) → length text ≤ length old → Put (length text) text 0 old (overlaid text old) (length text)
over text old room =
    let size : 0 + length text ≡ length text = omega arith in
    put (sym (sets-eq text old 0 (omega arith) ∙ rw size)) (sym size) (omega arith)

module _ {t : Told} {old mid : List ℕ} {r : Reply} (done : Replied Listing t old mid r) (room : 12288 ≤ length old) where
  same-long : length mid ≡ length old
  same-long = ap length done.written ∙ length_over (told_bytes t) old (omega (arith, done.short refl))

  -- there is room for the line
  pub why-room : {s : Reply} → r ≡ s → size_of s + 70 ≤ length mid
  why-room is =
      let size : size_of r ≡ length (told_bytes t) = ap size_of done.answered ∙ told-size t in
      rw (sym is) (omega (arith, same-long, done.short refl))

  -- the reply and the line stand over the beginning
  with-line : (line : List ℕ) {new : List ℕ} {n : ℕ} → Put 70 line (length (told_bytes t)) mid new n →
      (new ≡ overlaid (told_bytes t ++ line) old) × (n ≡ length (told_bytes t ++ line)) × (length (told_bytes t ++ line) ≤ length new)
  with-line line {new} {n} next =
      let first : Put (length (told_bytes t)) (told_bytes t) 0 old mid (length (told_bytes t)) =
      rw done.written (over (told_bytes t) old (omega (arith, done.short refl))) in
      let all = both first next in (
        whole all (omega (arith, done.short refl)),
        all.past ∙ zero-add (length (told_bytes t ++ line)),
        omega (arith, all.same_room, all.short, done.short refl),
      )

-- by the case that it is
pub why-mesh : (t : Told) {old mid new : List ℕ} {r : Reply} {n size : ℕ} {closed : Closings} → Replied Listing t old mid r → 12288 ≤ length old →
    r ≡ Mesh n closed → Put 70 (closed_line closed) n mid new size → RepliedWhy t old new (Mesh size closed)
why-mesh (mesh bytes c) {n = n} {closed = closed} done room is next =
    let told : Mesh (length bytes) c ≡ Mesh n closed = sym done.answered ∙ is in
    let long : n ≡ length bytes = cc in
    let same : closed ≡ c = cc in
    let there = with-line done room (closed_line c) (rw (long, same) at next) in
    record { written = there.0; answered = rw (there.1, same); within = there.2 }
why-mesh (refusal number place line c) {n = n} {closed = closed} done room is next =
    let told : Refusal (length line) number place c ≡ Mesh n closed = sym done.answered ∙ is in
    let z : ◌≡◌ {A = ℕ} 0 1 = cc in
    absurd (omega arith)

pub why-refusal : (t : Told) {old mid new : List ℕ} {r : Reply} {n size number place : ℕ} {closed : Closings} → Replied Listing t old mid r → 12288 ≤ length old →
    r ≡ Refusal n number place closed → Put 70 (closed_line closed) n mid new size → RepliedWhy t old new (Refusal size number place closed)
why-refusal (mesh bytes c) {n = n} {number = number} {place = place} {closed = closed} done room is next =
    let told : Mesh (length bytes) c ≡ Refusal n number place closed = sym done.answered ∙ is in
    let z : ◌≡◌ {A = ℕ} 0 1 = cc in
    absurd (omega arith)
why-refusal (refusal k at line c) {n = n} {number = number} {place = place} {closed = closed} done room is next =
    let told : Refusal (length line) k at c ≡ Refusal n number place closed = sym done.answered ∙ is in
    let long : n ≡ length line = cc in
    let same_number : number ≡ k = cc in
    let same_place : place ≡ at = cc in
    let same : closed ≡ c = cc in
    let there = with-line done room (closed_line c) (rw (long, same) at next) in
    record { written = there.0; answered = rw (there.1, same_number, same_place, same); within = there.2 }

-- its bytes are all there too
pub why-within : {t : Told} {old new : List ℕ} {r s : Reply} → RepliedWhy t old new r → r ≡ s → size_of s ≤ length new
why-within {t} {r = r} done is =
    let size : size_of r ≡ length (told_bytes (with_why t)) = ap size_of done.answered ∙ told-size (with_why t) in
    rw (sym is) (omega (arith, done.within))

-- ---- the reply by the answer's number

pub refused-told : (n place : ℕ) (closed : Closings) (bytes : List ℕ) → (n ≡ 0 → ⊥) → told_by n place closed bytes ≡ refused n place closed
refused-told zero place closed bytes other = absurd (other refl)
refused-told (suc n) place closed bytes other = refl

pub mesh-told : (n place : ℕ) (closed : Closings) (bytes : List ℕ) → n ≡ 0 → told_by n place closed bytes ≡ mesh bytes closed
mesh-told zero place closed bytes none = refl
mesh-told (suc n) place closed bytes none = absurd (omega arith)

-- ---- lists over the beginning of memory

module _ {A : Type 0} (new old : List A) (n : ℕ) (long : length new ≡ n) where
  -- is all there
  pub over-there : {cells : List A} → cells ≡ overlaid new old → n ≤ length cells
  over-there {cells} e = let same : length cells ≡ length (overlaid new old) = ap length e in omega (arith, length-append new (drop (length new) old))

  -- and is what is taken from there
  pub over-taken : {cells : List A} → cells ≡ overlaid new old → take n cells ≡ new
  over-taken e = ap (take n) e ∙ take_at new (drop (length new) old) n long

-- ---- the library's call

-- with the program's memory the input is the one that the reply names
pub same-call : (head : Head) (points : List Float) (faces margin : List ℕ) (memory : Lent) → 384 ≡ length memory.points → 768 ≡ length memory.faces →
    10240 ≡ length memory.u32s → 3584 ≡ length memory.f32s → 3584 ≡ length memory.f64s →
    input_of points faces margin (head_options head) memory ≡ call_of head points faces margin
same-call head points faces margin memory points_long faces-long u32s-long f32s-long f64s-long =
    rw (sym points_long, sym faces-long, sym u32s-long, sym f32s-long, sym f64s-long) refl

module _ (o : Outcome) (whole : Counted o) {r : Answer} (points : List Float) {points' : List Float} (faces : List ℕ) {faces' : List ℕ} (answered : r ≡ o.answer)
    (points_written : points' ≡ overlaid o.points points) (faces_written : faces' ≡ overlaid o.faces faces) where
  points_count : length o.points ≡ 3 * r.points
  points_count = rw answered whole.points

  faces_count : length o.faces ≡ 3 * r.faces
  faces_count = rw answered whole.faces

  -- its mesh is there
  pub shown : length points' ≤ 384 → length faces' ≤ 768 → Shown r points' faces'
  shown points_most faces_most = record {
    points_there = over-there o.points points (3 * r.points) points_count points_written;
    faces_there = over-there o.faces faces (3 * r.faces) faces_count faces_written;
    points_most = points_most;
    faces_most = faces_most;
  }

  -- and its reply is the outcome's
  pub outcome-replied : (wanted : Wanted) (unit : Unit) {old new : List ℕ} {s : Reply} →
      Replied wanted (answer_told wanted unit r (take (3 * r.points) points') (take (3 * r.faces) faces')) old new s →
      Replied wanted (outcome_told wanted unit o) old new s
  outcome-replied wanted unit {old} {new} {s} done =
      let points_are = over-taken o.points points (3 * r.points) points_count points_written in
      let faces_are = over-taken o.faces faces (3 * r.faces) faces_count faces_written in
      let told_is : answer_told wanted unit r (take (3 * r.points) points') (take (3 * r.faces) faces') ≡ outcome_told wanted unit o =
      rw (points_are, faces_are) (ap (λ (x : Answer). answer_told wanted unit x o.points o.faces) answered) in
      subst (λ (t : Told). Replied wanted t old new s) told_is done

-- the parts of an answer's mesh are small
pub parts-small : {r : Answer} {points : List Float} {faces : List ℕ} → Shown r points faces →
    Small (take (3 * r.points) points) (take (3 * r.faces) faces)
parts-small {r} {points} {faces} there =
    let points_long : length (take (3 * r.points) points) ≡ 3 * r.points = length-take-le (3 * r.points) points there.points_there in
    let faces-long : length (take (3 * r.faces) faces) ≡ 3 * r.faces = length-take-le (3 * r.faces) faces there.faces_there in
    record {
      points_by_three = omega arith;
      faces_by_three = omega arith;
      points_most = omega (arith, there.points_there, there.points_most);
      faces_most = omega (arith, there.faces_there, there.faces_most);
    }

-- ---- the file's mesh

pub points-length : (bytes : List ℕ) (v : ℕ) → length (points_of bytes v) ≡ 3 * v
points-length bytes v = length-map (numbers_from bytes points_at (3 * v)) (of_bits binary32) ∙ numbers-count bytes points_at (3 * v)

pub faces-length : (bytes : List ℕ) (v f : ℕ) → length (face_numbers_of bytes v f) ≡ 3 * f
faces-length bytes v f = numbers-count bytes (faces_at v) (3 * f)

pub margin-length : (bytes : List ℕ) (v f m : ℕ) → length (margin_of bytes v f m) ≡ m
margin-length bytes v f m = numbers-count bytes (margin_at v f) m
