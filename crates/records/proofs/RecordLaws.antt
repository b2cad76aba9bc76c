-- A record that is written is read back, whatever its kind and payload, and a record that is read is the one that would be written.
-- Assumes nothing.
use Prim.Native.Nat.{ℕ, zero, suc, ◌+◌, ◌≤◌, ◌<◌}
use native.Mathlib.Omega.{arith}
use mathlib.Core.Path.{◌≡◌, refl, sym, ap, ◌∙◌}
use mathlib.Core.List.{List, [], ◌∷◌, ◌++◌}
use lib.ListN.{length, get_or, take, drop, length-append, length-drop, take-append-drop}
use lib.Seq.{take_at, drop_at, drop-drop, length-take-le}
use Rattle.records.specs.Records.{head_length, size_at, kind_at, payload_at, next_at, Record, record_bytes, records_bytes, record_at}
use Rattle.records.proofs.WordLaws.{read-two, read-four, two_then, four-then}

-- how long a record is, with the rest after it
pub record-length : (r : Record) (rest : List ℕ) → length (record_bytes r ++ rest) ≡ head_length + length r.payload + length rest
record-length r rest = omega (arith, length-append r.payload rest)

-- a record is written as bytes, where its kind and its length have room and its payload is bytes
pub record-small : (r : Record) → r.kind < 65536 → length r.payload < 4294967296 → ((i : ℕ) → get_or r.payload i 0 < 256) →
    (i : ℕ) → get_or (record_bytes r) i 0 < 256
record-small r kind size small zero = omega arith
record-small r kind size small (suc zero) = omega arith
record-small r kind size small (suc (suc zero)) = omega arith
record-small r kind size small (suc (suc (suc zero))) = omega arith
record-small r kind size small (suc (suc (suc (suc zero)))) = omega arith
record-small r kind size small (suc (suc (suc (suc (suc zero))))) = omega arith
record-small r kind size small (suc (suc (suc (suc (suc (suc i)))))) = small i

-- ---- reading what was written

-- what a reader finds where a record was written, with the rest after it
pub record Read (bytes : List ℕ) (at : ℕ) (r : Record) (rest : List ℕ) : Type 0 where
  pub size : size_at bytes at ≡ length r.payload
  pub kind : kind_at bytes at ≡ r.kind
  pub payload : drop (at + head_length) bytes ≡ r.payload ++ rest
  pub next : drop (next_at bytes at) bytes ≡ rest

-- that is found
pub read-record : (bytes : List ℕ) (at : ℕ) (r : Record) (rest : List ℕ) → drop at bytes ≡ record_bytes r ++ rest → Read bytes at r rest
read-record bytes at r rest e =
    let size = read-four bytes at (length r.payload) _ e in
    let kind = read-two bytes (at + 4) r.kind (r.payload ++ rest) size.1 in
    let place : at + 4 + 2 ≡ at + head_length = omega arith in
    let left : drop (at + head_length) bytes ≡ r.payload ++ rest = rw place at kind.1 in
    record {
      size = size.0;
      kind = kind.0;
      payload = left;
      next = sym (drop-drop (size_at bytes at) (at + head_length) bytes) ∙ ap (drop (size_at bytes at)) left ∙ drop_at r.payload rest _ (sym size.0);
    }

-- the record itself
pub record-back : {bytes : List ℕ} {at : ℕ} {r : Record} {rest : List ℕ} → Read bytes at r rest → record_at bytes at ≡ r
record-back {bytes} {at} {r} {rest} found =
    let payload : payload_at bytes at ≡ r.payload = ap (take (size_at bytes at)) found.payload ∙ take_at r.payload rest _ (sym found.size) in
    rw (found.kind, payload) refl

-- so the same bytes are the same record and the same rest
pub record_same : (r s : Record) (rest rest' : List ℕ) → record_bytes r ++ rest ≡ record_bytes s ++ rest' → (r ≡ s) × (rest ≡ rest')
record_same r s rest rest' e =
    let bytes = record_bytes r ++ rest in
    let one = read-record bytes 0 r rest refl in
    let other = read-record bytes 0 s rest' e in
    (sym (record-back one) ∙ record-back other, sym one.next ∙ other.next)

-- and the same records
pub records-same : (rs ss : List Record) → records_bytes rs ≡ records_bytes ss → rs ≡ ss
unfolding records_bytes
records-same [] [] e = refl
records-same [] (s ∷ ss) e = let z : ◌≡◌ {A = ℕ} 0 1 = cc in absurd (omega arith)
records-same (r ∷ rs) [] e = let z : ◌≡◌ {A = ℕ} 0 1 = cc in absurd (omega arith)
records-same (r ∷ rs) (s ∷ ss) e =
    let same = record_same r s (records_bytes rs) (records_bytes ss) e in
    let more = records-same rs ss same.1 in
    cc same.0

-- ---- writing what was read

module _ (bytes : List ℕ) (small : (i : ℕ) → get_or bytes i 0 < 256) where
  -- from what stands after its head to the record
  pub record-then : (at : ℕ) (r : Record) (rest : List ℕ) → at + head_length ≤ length bytes → size_at bytes at ≡ length r.payload → kind_at bytes at ≡ r.kind →
      drop (at + head_length) bytes ≡ r.payload ++ rest → drop at bytes ≡ record_bytes r ++ rest
  record-then at r rest room size kind left =
      four-then bytes small at (at + 4) _ (length r.payload) refl (omega arith) size
      (two_then bytes small (at + 4) (at + head_length) _ r.kind (omega arith) room kind left)

  -- a record that is all there
  pub record-written : (at : ℕ) → next_at bytes at ≤ length bytes → drop at bytes ≡ record_bytes (record_at bytes at) ++ drop (next_at bytes at) bytes
  record-written at room =
      let left = drop (at + head_length) bytes in
      let long : length (payload_at bytes at) ≡ size_at bytes at = length-take-le (size_at bytes at) left (omega (arith, length-drop (at + head_length) bytes)) in
      record-then at (record_at bytes at) (drop (next_at bytes at) bytes) (omega arith) (sym long) refl
      (sym (take-append-drop (size_at bytes at) left) ∙ ap (λ (l : List ℕ). payload_at bytes at ++ l) (drop-drop (size_at bytes at) (at + head_length) bytes))
