-- The files that are good are exactly those that are written.
-- Assumes nothing.
use Prim.Native.Nat.{ℕ, ◌+◌, ◌*◌, ◌/◌, ◌≤◌, ◌<◌}
use native.Mathlib.Omega.{arith}
use mathlib.Core.Path.{◌≡◌, refl, sym, ap, ◌∙◌}
use mathlib.Core.Logic.{◌⊎◌, inl, inr}
use mathlib.Core.Option.{Option, none, some}
use mathlib.Core.List.{List, [], ◌∷◌, ◌++◌, map}
use lib.ListN.{length, get_or, drop, drop_of_length-le}
use lib.Ieee.{binary32, of_bits}
use Rattle.units.proofs.UnitLaws.{number-of-unit}
use Rattle.records.specs.Words.{two_bytes, four_bytes, numbers_from, as_fours}
use Rattle.records.specs.Records.{head_length, size_at, kind_at, records_bytes}
use Rattle.records.proofs.WordLaws.{numbers-count, read-two, read-four, read-fours, two_then, four-then, fours-then, fours-length}
use Rattle.records.proofs.RecordLaws.{record-length, read-record, record-then}
use Rattle.scanfile.specs.declared.Head.{Head}
use Rattle.std.specs.Prelude.{Ok}
use Rattle.scanfile.specs.Layout.{unit_at, flags_at, ratio_at, limit_at, second_at, points_at, third_after, faces_at, end_after, margin_at, third_at, fourth_at}
use Rattle.scanfile.specs.Scans.{margin_count, scan_of}
use Rattle.scanfile.specs.Contents.{points_of, face_numbers_of, margin_of}
use Rattle.scanfile.specs.Facts.{EndsThird, EndsFourth, GoodFile}
use Rattle.scanfile.specs.Files.{Contents, options_record, points_record, faces_record, margin_record, margin_records, file_of, named, end_with, Writable, head_for, margin_in, contents_of}
use Rattle.scanfile.proofs.ScanLaws.{no-head, a-head}
use Rattle.scanfile.proofs.GoodLaws.{good-file, file-good, unit_known, not-marked, is-marked}

-- ---- a good file is the one that would be written from what it holds

-- its margin has as many numbers as the head says
margin-counted : {bytes : List ℕ} {h : Head} → GoodFile bytes h → EndsThird bytes h ⊎ EndsFourth bytes h → named (margin_in bytes h) ≡ h.margin
margin-counted g (inl e) = rw (not-marked g e.whole) (sym e.none_named)
margin-counted {bytes} {h} g (inr e) = rw (is-marked g e) (numbers-count bytes (margin_at h.points h.faces) h.margin)

module _ {bytes : List ℕ} {h : Head} (g : GoodFile bytes h) (small : (i : ℕ) → get_or bytes i 0 < 256) where
  -- what follows its third record
  margin-written : EndsThird bytes h ⊎ EndsFourth bytes h → drop (end_after h.points h.faces) bytes ≡ records_bytes (margin_records (margin_in bytes h))
  unfolding records_bytes
  margin-written (inl e) = rw (not-marked g e.whole) (drop_of_length-le bytes {i = end_after h.points h.faces} (omega arith))
  margin-written (inr e) =
      let at = margin_at h.points h.faces in
      let end = at + 4 * h.margin in
      let numbers = margin_of bytes h.points h.faces h.margin in
      let size : size_at bytes (end_after h.points h.faces) ≡ length (as_fours numbers) = omega (arith, fours-length numbers, numbers-count bytes at h.margin) in
      rw (is-marked g e)
      (record-then bytes small (end_after h.points h.faces) (margin_record numbers) [] (omega arith) size e.fourth_kind
      (fours-then bytes small at end [] h.margin refl (omega arith) (drop_of_length-le bytes {i = end} (omega arith))))

module _ (bytes : List ℕ) (h : Head) (good : scan_of bytes ≡ Ok h) where
  pub good-writable : Writable (contents_of bytes h) h.points h.faces
  good-writable =
      let g = good-file bytes h good in
      record {
        unit_known = unit_known g;
        flags_known = g.flags_known;
        points_count = numbers-count bytes points_at (3 * h.points);
        points_most = g.points_most;
        faces_count = numbers-count bytes (faces_at h.points) (3 * h.faces);
        faces_most = g.faces_most;
        margin_most = omega (arith, margin-counted g g.ends);
      }

  pub good-written : ((i : ℕ) → get_or bytes i 0 < 256) → bytes ≡ file_of (contents_of bytes h)
  unfolding records_bytes
  good-written small =
      let g = good-file bytes h good in
      let v = h.points in
      let f = h.faces in
      let held = contents_of bytes h in
      let two = two_then bytes small in
      let four = four-then bytes small in
      let fours = fours-then bytes small in
      let points-size : size_at bytes second_at ≡ length (as_fours held.points) = omega (arith, fours-length held.points, numbers-count bytes points_at (3 * v)) in
      let faces-size : size_at bytes (third_after v) ≡ length (as_fours held.faces) = omega (arith, fours-length held.faces, numbers-count bytes (faces_at v) (3 * f)) in
      let place : third_after v + head_length ≡ faces_at v = omega arith in
      let last = margin_records held.margin in
      let faces : drop (third_after v + head_length) bytes ≡ as_fours held.faces ++ records_bytes last =
      rw place (fours (faces_at v) (end_after v f) (records_bytes last) (3 * f) (omega arith) g.there (margin-written g small g.ends)) in
      record-then bytes small 0 (options_record held) (records_bytes (points_record held ∷ faces_record held ∷ last)) (omega arith) g.first_size g.first_kind
      (two unit_at flags_at _ _ refl (omega arith) refl
      (two flags_at ratio_at _ _ refl (omega arith) refl
      (four ratio_at limit_at _ _ refl (omega arith) refl
      (four limit_at second_at _ _ refl (omega arith) refl
      (record-then bytes small second_at (points_record held) (records_bytes (faces_record held ∷ last)) (omega arith) points-size g.second_kind
      (fours points_at (third_after v) _ (3 * v) (omega arith) (omega arith)
      (record-then bytes small (third_after v) (faces_record held) (records_bytes last) (omega arith) faces-size g.third_kind faces)))))))

-- ---- what is written is good, and is read back

-- how long what follows the third record is
margin-length : (v f : ℕ) (o : Option (List ℕ)) → end_after v f + length (records_bytes (margin_records o)) ≡ end_with v f o
unfolding records_bytes
margin-length v f none = omega arith
margin-length v f (some numbers) = omega (arith, record-length (margin_record numbers) [], fours-length numbers)

-- what a reader finds after the third record, where no margin was written, and where these numbers were
abbrev pub TailFound : List ℕ → Head → Option (List ℕ) → Type 0
TailFound bytes h none = EndsThird bytes h
TailFound bytes h (some numbers) = EndsFourth bytes h × (margin_of bytes h.points h.faces h.margin ≡ numbers)

module _ (bytes : List ℕ) (h : Head) where
  -- that is found
  tail-found : (o : Option (List ℕ)) → h.margin ≡ named o → drop (end_after h.points h.faces) bytes ≡ records_bytes (margin_records o) →
      length bytes ≡ end_with h.points h.faces o → TailFound bytes h o
  unfolding records_bytes
  tail-found none count left whole = record { none_named = count; whole = whole }
  tail-found (some numbers) count left whole =
      let fourth = read-record bytes (end_after h.points h.faces) (margin_record numbers) [] left in
      let margin = read-fours bytes (margin_at h.points h.faces) numbers [] fourth.payload in (
        record { fourth_kind = fourth.kind; fourth_size = omega (arith, fourth.size, fours-length numbers); whole = omega arith },
        rw count margin.0,
      )

  -- how the file ends, and that the third record is all there
  tail-ends : (o : Option (List ℕ)) → TailFound bytes h o → EndsThird bytes h ⊎ EndsFourth bytes h
  tail-ends none t = inl t
  tail-ends (some numbers) t = inr t.0

  tail-there : (o : Option (List ℕ)) → TailFound bytes h o → end_after h.points h.faces ≤ length bytes
  tail-there none t = omega arith
  tail-there (some numbers) t = omega (arith, t.0.whole)

  -- and so how many points the margin names, and which
  module _ (here : fourth_at bytes ≡ end_after h.points h.faces) where
    tail-count : (o : Option (List ℕ)) → TailFound bytes h o → h.margin ≡ margin_count bytes
    tail-count none t = rw (no-head bytes here t.whole) t.none_named
    tail-count (some numbers) t =
        let size : size_at bytes (fourth_at bytes) ≡ 4 * h.margin = rw here t.0.fourth_size in
        rw (a-head bytes here (omega (arith, t.0.whole)) t.0.fourth_kind) (omega arith)

    tail-margin : (o : Option (List ℕ)) → TailFound bytes h o → margin_in bytes h ≡ o
    tail-margin none t = rw (no-head bytes here t.whole) refl
    tail-margin (some numbers) t = rw (a-head bytes here (omega (arith, t.0.whole)) t.0.fourth_kind, t.1) refl

module _ (c : Contents) (v f : ℕ) (w : Writable c v f) where
  pub written-length : length (file_of c) ≡ end_with v f c.margin
  unfolding records_bytes
  written-length =
      let last = margin_records c.margin in
      omega (
        arith,
        record-length (options_record c) (records_bytes (points_record c ∷ faces_record c ∷ last)),
        record-length (points_record c) (records_bytes (faces_record c ∷ last)),
        record-length (faces_record c) (records_bytes last),
        fours-length c.points,
        fours-length c.faces,
        margin-length v f c.margin,
      )

  -- what a reader finds, number by number
  pub record Found (bytes : List ℕ) : Type 0 where
    pub first_size : size_at bytes 0 ≡ 12
    pub first_kind : kind_at bytes 0 ≡ 1
    pub unit : two_bytes bytes unit_at ≡ c.unit
    pub flags : two_bytes bytes flags_at ≡ c.flags
    pub ratio : four_bytes bytes ratio_at ≡ c.ratio
    pub limit : four_bytes bytes limit_at ≡ c.limit
    pub second_size : size_at bytes second_at ≡ 12 * v
    pub second_kind : kind_at bytes second_at ≡ 2
    pub points : numbers_from bytes points_at (3 * v) ≡ c.points
    pub third_size : size_at bytes (third_after v) ≡ 12 * f
    pub third_kind : kind_at bytes (third_after v) ≡ 3
    pub faces : numbers_from bytes (faces_at v) (3 * f) ≡ c.faces
    pub tail : TailFound bytes (head_for c v f) c.margin

  pub found : (bytes : List ℕ) → bytes ≡ file_of c → Found bytes
  unfolding records_bytes
  found bytes e =
      let first = read-record bytes 0 (options_record c) _ e in
      let unit = read-two bytes unit_at c.unit _ first.payload in
      let flags = read-two bytes flags_at c.flags _ unit.1 in
      let ratio = read-four bytes ratio_at c.ratio _ flags.1 in
      let limit = read-four bytes limit_at c.limit _ ratio.1 in
      let second = read-record bytes second_at (points_record c) _ limit.1 in
      let points = read-fours bytes points_at c.points _ second.payload in
      let past : points_at + 4 * length c.points ≡ third_after v = omega arith in
      let third = read-record bytes (third_after v) (faces_record c) _ (rw past at points.1) in
      let place : third_after v + head_length ≡ faces_at v = omega arith in
      let faces = read-fours bytes (faces_at v) c.faces _ (rw place at third.payload) in
      let end : faces_at v + 4 * length c.faces ≡ end_after v f = omega arith in
      record {
        first_size = first.size;
        first_kind = first.kind;
        unit = unit.0;
        flags = flags.0;
        ratio = ratio.0;
        limit = limit.0;
        second_size = omega (arith, second.size, fours-length c.points);
        second_kind = second.kind;
        points = rw w.points_count at points.0;
        third_size = omega (arith, third.size, fours-length c.faces);
        third_kind = third.kind;
        faces = rw w.faces_count at faces.0;
        tail = tail-found bytes (head_for c v f) c.margin refl (rw end at faces.1) (ap length e ∙ written-length);
      }

  -- where the fourth record is, or would be
  found-fourth : (bytes : List ℕ) → Found bytes → fourth_at bytes ≡ end_after v f
  found-fourth bytes g =
      let place : third_at bytes ≡ third_after v = omega (arith, g.second_size) in
      let size : size_at bytes (third_at bytes) ≡ 12 * f = rw place g.third_size in
      omega arith

  found-good : (bytes : List ℕ) → Found bytes → GoodFile bytes (head_for c v f)
  found-good bytes g =
      let points : v ≡ size_at bytes second_at / 12 = omega (arith, g.second_size) in
      let place : points_at + size_at bytes second_at ≡ third_after v = omega (arith, g.second_size) in
      let faces : f ≡ size_at bytes (third_after v) / 12 = omega (arith, g.third_size) in
      let margin : named c.margin ≡ margin_count bytes = tail-count bytes (head_for c v f) (found-fourth bytes g) c.margin g.tail in
      record {
        head_is = rw (← margin, place, ← faces, ← points, g.unit, g.flags, g.ratio, g.limit) refl;
        first_kind = g.first_kind;
        second_kind = g.second_kind;
        third_kind = g.third_kind;
        first_size = g.first_size;
        second_size = g.second_size;
        third_size = g.third_size;
        there = tail-there bytes (head_for c v f) c.margin g.tail;
        ends = tail-ends bytes (head_for c v f) c.margin g.tail;
        points_most = w.points_most;
        faces_most = w.faces_most;
        margin_most = w.margin_most;
        unit_is = g.unit ∙ sym (number-of-unit c.unit w.unit_known);
        flags_known = rw g.flags w.flags_known;
      }

  pub written-good : scan_of (file_of c) ≡ Ok (head_for c v f)
  written-good = file-good (file_of c) (head_for c v f) (found-good (file_of c) (found (file_of c) refl))

  pub written-points : points_of (file_of c) v ≡ map (of_bits binary32) c.points
  written-points = ap (map (of_bits binary32)) (found (file_of c) refl).points

  pub written-faces : face_numbers_of (file_of c) v f ≡ c.faces
  written-faces = (found (file_of c) refl).faces

  -- it holds what was written
  pub written-contents : contents_of (file_of c) (head_for c v f) ≡ c
  written-contents =
      let g = found (file_of c) refl in
      let margin : margin_in (file_of c) (head_for c v f) ≡ c.margin = tail-margin (file_of c) (head_for c v f) (found-fourth (file_of c) g) c.margin g.tail in
      rw (g.unit, g.flags, g.ratio, g.limit, g.points, g.faces, margin) refl
