-- Numbers written as bytes are read back, and bytes that are read are those that would be written.
-- Assumes nothing.
use Prim.Native.Nat.{ℕ, zero, suc, ◌+◌, ◌*◌, ◌/◌, ◌%◌, ◌≤◌, ◌<◌}
use native.Mathlib.Nat.{add-zero}
use native.Mathlib.Numerals.{add-one}
use native.Mathlib.Omega.{arith}
use mathlib.Core.Path.{◌≡◌, refl, sym, ap, ◌∙◌}
use mathlib.Core.List.{List, [], ◌∷◌, ◌++◌, append_assoc}
use lib.ListN.{length, get_or, take, drop, length-append}
use lib.Seq.{drop-cons, drop-drop, get_or-drop, get_or-take, take-suc, take-length}
use Rattle.lists.specs.Puts.{Put}
use borrow.Rule.Slice.PartMut.{put_mid}
use Rattle.std.specs.Int.{w32, to_le_bytes}
use Rattle.std.proofs.lemmas.List.Edits.{sets, sets-eq}
use Rattle.lists.proofs.PutLaws.{put, none, wider, both}
use Rattle.records.specs.Words.{two_bytes, four_bytes, numbers_from, as_two, as_four, as_fours}

-- ---- numbers one after another

-- as many as asked for
pub numbers-count : (bytes : List ℕ) (at n : ℕ) → length (numbers_from bytes at n) ≡ n
unfolding numbers_from
numbers-count bytes at zero = refl
numbers-count bytes at (suc n) = ap suc (numbers-count bytes (at + 4) n)

-- number i stands 4 * i bytes on
pub number_at : (bytes : List ℕ) (at n i : ℕ) → i < n → get_or (numbers_from bytes at n) i 0 ≡ four_bytes bytes (at + 4 * i)
unfolding numbers_from
number_at bytes at zero i h = absurd (omega arith)
number_at bytes at (suc n) zero h = let same : at ≡ at + 4 * zero = omega arith in ap (four_bytes bytes) same
number_at bytes at (suc n) (suc i) h =
    let same : at + 4 + 4 * i ≡ at + 4 * suc i = omega arith in
    number_at bytes (at + 4) n i (omega arith) ∙ ap (four_bytes bytes) same

-- ---- a beginning of the bytes has the numbers that stand in it

pub two-begun : (n : ℕ) (bytes : List ℕ) (at : ℕ) → at + 2 ≤ n → two_bytes (take n bytes) at ≡ two_bytes bytes at
two-begun n bytes at h = rw (get_or-take n bytes at 0 (omega arith), get_or-take n bytes (at + 1) 0 (omega arith))

pub four-begun : (n : ℕ) (bytes : List ℕ) (at : ℕ) → at + 4 ≤ n → four_bytes (take n bytes) at ≡ four_bytes bytes at
unfolding four_bytes
four-begun n bytes at h = rw (two-begun n bytes at (omega arith), two-begun n bytes (at + 2) (omega arith))

-- ---- reading what was written: `drop at bytes` is what is left of the bytes at an offset

module _ (bytes : List ℕ) where
  -- the bytes at an offset, from what is left there
  left_at : (at i : ℕ) (left : List ℕ) → drop at bytes ≡ left → get_or bytes (at + i) 0 ≡ get_or left i 0
  left_at at i left e = sym (get_or-drop at bytes i 0) ∙ ap (λ (l : List ℕ). get_or l i 0) e

  left_after : (at n : ℕ) (front rest : List ℕ) → drop at bytes ≡ front ++ rest → drop n (front ++ rest) ≡ rest → drop (at + n) bytes ≡ rest
  left_after at n front rest e past = sym (drop-drop n at bytes) ∙ ap (drop n) e ∙ past

  pub read-two : (at n : ℕ) (rest : List ℕ) → drop at bytes ≡ as_two n ++ rest → (two_bytes bytes at ≡ n) × (drop (at + 2) bytes ≡ rest)
  read-two at n rest e =
      let low = rw (add-zero at) at (left_at at 0 (as_two n ++ rest) e) in
      let high = left_at at 1 (as_two n ++ rest) e in
      (rw (low, high) (omega arith), left_after at 2 (as_two n) rest e refl)

  pub read-four : (at n : ℕ) (rest : List ℕ) → drop at bytes ≡ as_four n ++ rest → (four_bytes bytes at ≡ n) × (drop (at + 4) bytes ≡ rest)
  unfolding four_bytes
  read-four at n rest e =
      let low = read-two at (n % 65536) (as_two (n / 65536) ++ rest) e in
      let high = read-two (at + 2) (n / 65536) rest low.1 in
      (rw (low.0, high.0) (omega arith), left_after at 4 (as_four n) rest e refl)

  pub read-fours : (at : ℕ) (ns rest : List ℕ) → drop at bytes ≡ as_fours ns ++ rest →
      (numbers_from bytes at (length ns) ≡ ns) × (drop (at + 4 * length ns) bytes ≡ rest)
  unfolding as_fours numbers_from
  read-fours at [] rest e = (refl, rw (add-zero at) e)
  read-fours at (n ∷ ns) rest e =
      let one = read-four at n (as_fours ns ++ rest) (e ∙ append_assoc (as_four n) (as_fours ns) rest) in
      let more = read-fours (at + 4) ns rest one.1 in
      let place : at + 4 + 4 * length ns ≡ at + 4 * suc (length ns) = omega arith in
      (rw one.0 (ap (λ (l : List ℕ). n ∷ l) more.0), rw place at more.1)

pub fours-length : (ns : List ℕ) → length (as_fours ns) ≡ 4 * length ns
unfolding as_fours
fours-length [] = refl
fours-length (n ∷ ns) = omega (arith, length-append (as_four n) (as_fours ns), fours-length ns)

-- numbers below 2^32 are written as bytes
pub fours-small : (ns : List ℕ) → ((i : ℕ) → get_or ns i 0 < 4294967296) → (i : ℕ) → get_or (as_fours ns) i 0 < 256
unfolding as_fours
fours-small [] small i = omega (arith, small i)
fours-small (n ∷ ns) small zero = omega (arith, small 0)
fours-small (n ∷ ns) small (suc zero) = omega (arith, small 0)
fours-small (n ∷ ns) small (suc (suc zero)) = omega (arith, small 0)
fours-small (n ∷ ns) small (suc (suc (suc zero))) = omega (arith, small 0)
fours-small (n ∷ ns) small (suc (suc (suc (suc i)))) = fours-small ns (λ j. small (suc j)) i

-- ---- numbers stored one after another

pub fours-join : (ms ns : List ℕ) → as_fours (ms ++ ns) ≡ as_fours ms ++ as_fours ns
unfolding as_fours
fours-join [] ns = refl
fours-join (m ∷ ms) ns = ap (λ (l : List ℕ). as_four m ++ l) (fours-join ms ns) ∙ sym (append_assoc (as_four m) (as_fours ms) (as_fours ns))

module _ (ns : List ℕ) (at : ℕ) (old : List ℕ) where
  -- the first i are stored
  pub record FoursStored (i : ℕ) (w : List ℕ) (next : ℕ) : Type 0 where
    pub most : i ≤ length ns
    pub so_far : Put (4 * i) (as_fours (take i ns)) at old w next
    pub here : next ≡ at + 4 * i

  pub none-stored : FoursStored 0 old at
  unfolding as_fours
  none-stored = record { most = omega arith; so_far = none old at; here = omega arith }

  -- one more is stored. `past` stands for what is past the end, and is never read.
  pub one-stored : (past : ℕ) {i next r n : ℕ} {w w' : List ℕ} → i < length ns → n ≡ get_or ns i past → FoursStored i w next → Put 4 (as_four n) next w w' r →
      FoursStored (i + 1) w' r
  unfolding as_fours
  one-stored past {i} {next} {r} {n} {w} {w'} h is s done =
      let four : as_four n ≡ as_fours (get_or ns i past ∷ []) = rw is refl in
      let longer : as_fours (take i ns) ++ as_four n ≡ as_fours (take (i + 1) ns) =
      rw (four, add-one i, take-suc ns i past h) (sym (fours-join (take i ns) (get_or ns i past ∷ []))) in
      let more : 4 * i + 4 ≤ 4 * (i + 1) = omega arith in
      record {
        most = omega arith;
        so_far = rw longer at (wider more (both s.so_far done));
        here = omega (arith, done.past);
      }

  -- all are stored
  pub all-stored : {i next : ℕ} {w : List ℕ} → length ns ≤ i → FoursStored i w next → Put (4 * length ns) (as_fours ns) at old w next
  all-stored {i} {next} {w} h s =
      let all : i ≡ length ns = omega arith in
      rw (all, take-length) at s.so_far

-- ---- numbers as std writes them

pub four-written : (n : ℕ) → n < 4294967296 → to_le_bytes w32 n ≡ as_four n
four-written n most =
    let one : n % 256 ≡ n % 65536 % 256 = omega arith in
    let two : n / 256 % 256 ≡ n % 65536 / 256 = omega arith in
    let last : n / 16777216 % 256 ≡ n / 65536 / 256 = omega arith in
    rw (one, two, last) refl

-- a part of a list that is written over
pub part-put : {at k : ℕ} {old part run : List ℕ} → part ≡ run → k ≡ length run → at + k ≤ length old → Put k run at old (put_mid at k old part) (at + k)
part-put {at} {k} {old} {part} {run} is long room =
    let cells : put_mid at k old run ≡ sets old at run =
    rw (drop-drop k at old, long) (sym (append_assoc (take at old) run (drop (at + length run) old)) ∙ sym (sets-eq run old at (omega arith))) in
    rw is (put cells (omega arith) (omega arith))

-- ---- writing what was read

module _ (bytes : List ℕ) (small : (i : ℕ) → get_or bytes i 0 < 256) where
  pub write_two : (at : ℕ) → at + 2 ≤ length bytes → drop at bytes ≡ as_two (two_bytes bytes at) ++ drop (at + 2) bytes
  write_two at h =
      let low : two_bytes bytes at % 256 ≡ get_or bytes at 0 = omega (arith, small at) in
      let high : two_bytes bytes at / 256 ≡ get_or bytes (suc at) 0 = rw (← add-one at) (omega (arith, small at)) in
      let two : at + 2 ≡ suc (suc at) = omega arith in
      drop-cons bytes at 0 (omega arith)
      ∙ ap (λ (l : List ℕ). get_or bytes at 0 ∷ l) (drop-cons bytes (suc at) 0 (omega arith))
      ∙ rw (low, high, two) refl

  two-small : (at : ℕ) → two_bytes bytes at < 65536
  two-small at = omega (arith, small at, small (at + 1))

  pub four-small : (at : ℕ) → four_bytes bytes at < 4294967296
  unfolding four_bytes
  four-small at = omega (arith, two-small at, two-small (at + 2))

  pub write-four : (at : ℕ) → at + 4 ≤ length bytes → drop at bytes ≡ as_four (four_bytes bytes at) ++ drop (at + 4) bytes
  unfolding four_bytes
  write-four at h =
      let low : four_bytes bytes at % 65536 ≡ two_bytes bytes at = omega (arith, two-small at) in
      let high : four_bytes bytes at / 65536 ≡ two_bytes bytes (at + 2) = omega (arith, two-small at) in
      let four : at + 2 + 2 ≡ at + 4 = omega arith in
      write_two at (omega arith)
      ∙ ap (λ (l : List ℕ). as_two (two_bytes bytes at) ++ l) (rw four at (write_two (at + 2) (omega arith)))
      ∙ rw (low, high) refl

  pub write-fours : (at n : ℕ) → at + 4 * n ≤ length bytes → drop at bytes ≡ as_fours (numbers_from bytes at n) ++ drop (at + 4 * n) bytes
  unfolding as_fours numbers_from
  write-fours at zero h = rw (add-zero at) refl
  write-fours at (suc n) h =
      let place : at + 4 + 4 * n ≡ at + 4 * suc n = omega arith in
      write-four at (omega arith)
      ∙ ap (λ (l : List ℕ). as_four (four_bytes bytes at) ++ l) (rw place at (write-fours (at + 4) n (omega arith)))
      ∙ sym (append_assoc (as_four (four_bytes bytes at)) (as_fours (numbers_from bytes (at + 4) n)) (drop (at + 4 * suc n) bytes))

  -- ---- one number after another, from the offset after it to its own

  module _ (at next : ℕ) (rest : List ℕ) where
    pub two_then : (n : ℕ) → at + 2 ≡ next → next ≤ length bytes → two_bytes bytes at ≡ n → drop next bytes ≡ rest →
        drop at bytes ≡ as_two n ++ rest
    two_then n place room e left =
        write_two at (omega arith) ∙ rw (e, place) (ap (λ (l : List ℕ). as_two n ++ l) left)

    pub four-then : (n : ℕ) → at + 4 ≡ next → next ≤ length bytes → four_bytes bytes at ≡ n → drop next bytes ≡ rest →
        drop at bytes ≡ as_four n ++ rest
    four-then n place room e left =
        write-four at (omega arith) ∙ rw (e, place) (ap (λ (l : List ℕ). as_four n ++ l) left)

    pub fours-then : (n : ℕ) → at + 4 * n ≡ next → next ≤ length bytes → drop next bytes ≡ rest →
        drop at bytes ≡ as_fours (numbers_from bytes at n) ++ rest
    fours-then n place room left =
        write-fours at n (omega arith) ∙ rw place (ap (λ (l : List ℕ). as_fours (numbers_from bytes at n) ++ l) left)
