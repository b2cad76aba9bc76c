-- A record of a file: a 4-byte payload length, a 2-byte kind, the payload (document 01, "The program and its file").
use Rattle.std.specs.Prelude.{ℕ, ◌+◌, List, [], ◌∷◌, ◌++◌, length, take, drop}
use Rattle.records.specs.Words.{two_bytes, four_bytes, as_two, as_four}

-- a record's head: the length and the kind
abbrev pub head_length : ℕ
head_length = 6

-- ---- as it is read, at an offset

-- the payload's length
abbrev pub size_at : List ℕ → ℕ → ℕ
size_at bytes at = four_bytes bytes at

-- the kind
abbrev pub kind_at : List ℕ → ℕ → ℕ
kind_at bytes at = two_bytes bytes (at + 4)

-- the payload
abbrev pub payload_at : List ℕ → ℕ → List ℕ
payload_at bytes at = take (size_at bytes at) (drop (at + head_length) bytes)

-- where the next record begins
abbrev pub next_at : List ℕ → ℕ → ℕ
next_at bytes at = at + head_length + size_at bytes at

-- ---- as it is written

-- what a record holds
pub record Record : Type 0 where
  pub kind : ℕ
  pub payload : List ℕ

-- a head: the payload's length and the kind
abbrev pub head_bytes : ℕ → ℕ → List ℕ
head_bytes size kind = as_four size ++ as_two kind

-- one record
abbrev pub record_bytes : Record → List ℕ
record_bytes r = head_bytes (length r.payload) r.kind ++ r.payload

-- records one after another
unfoldable pub records_bytes : List Record → List ℕ
records_bytes [] = []
records_bytes (r ∷ rs) = record_bytes r ++ records_bytes rs

-- the record that stands at an offset
abbrev pub record_at : List ℕ → ℕ → Record
record_at bytes at = record { kind = kind_at bytes at; payload = payload_at bytes at }
