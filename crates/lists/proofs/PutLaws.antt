-- Runs of bytes stored one after the other.
-- Assumes nothing.
use Prim.Native.Nat.{ℕ, suc, ◌+◌, ◌≤◌}
use native.Mathlib.Nat.{add-zero}
use native.Mathlib.Omega.{arith}
use mathlib.Core.Path.{◌≡◌, refl, sym, ap, ◌∙◌}
use mathlib.Core.List.{List, [], ◌∷◌, ◌++◌}
use borrow.Rule.Slice.PartMut.{put_mid}
use lib.ListN.{length, take, drop, set, length-append}
use lib.Seq.{sets, length-sets, set_comm, sets-eq}
use Rattle.std.proofs.lemmas.List.{append_assoc, drop-drop}
use Rattle.lists.specs.Puts.{Put}

-- ---- runs of stores

-- a run in two parts
sets-append : (s t l : List ℕ) (at : ℕ) → sets l at (s ++ t) ≡ sets (sets l at s) (at + length s) t
sets-append [] t l at = ap (λ (k : ℕ). sets l k t) (sym (add-zero at))
sets-append (b ∷ s) t l at =
    let place : suc at + length s ≡ at + suc (length s) = omega arith in
    sets-append s t (set l at b) (suc at) ∙ ap (λ (k : ℕ). sets (sets (set l at b) (suc at) s) k t) place

-- one store past a run
sets-after : (s l : List ℕ) (at k b : ℕ) → at + length s ≤ k → sets (set l k b) at s ≡ set (sets l at s) k b
sets-after [] l at k b past = refl
sets-after (x ∷ s) l at k b past =
    ap (λ (l' : List ℕ). sets l' (suc at) s) (set_comm l k at b x (λ e. omega arith))
    ∙ sets-after s (set l at x) (suc at) k b (omega arith)

-- a run whose last byte is stored first
pub last-first : (s l : List ℕ) (at k b : ℕ) → length s ≡ k → sets (set l (at + k) b) at s ≡ sets l at (s ++ (b ∷ []))
last-first s l at k b long =
    sets-after s l at (at + k) b (omega arith)
    ∙ ap (λ (j : ℕ). set (sets l at s) (at + j) b) (sym long)
    ∙ sym (sets-append s (b ∷ []) l at)

-- ---- parts of a text

-- a part as it was stored
pub put : {most : ℕ} {text old new : List ℕ} {at r : ℕ} → new ≡ sets old at text → r ≡ at + length text → length text ≤ most → Put most text at old new r
put {text = text} {old = old} {at = at} cells past short =
    record { cells = cells; past = past; short = short; same_room = ap length cells ∙ length-sets old at text }

-- a part that is copied whole
pub copied : {at k : ℕ} {word part old : List ℕ} → part ≡ word → k ≡ length word → at + length word ≤ length old →
    Put (length word) word at old (put_mid at k old part) (at + length word)
copied {at = at} {word = word} {old = old} same long room =
    put (rw (same, long, drop-drop (length word) at old) (sym (sets-eq word old at room ∙ append_assoc (take at old) word (drop (at + length word) old)))) refl (omega arith)

-- the same part, of at most more bytes
pub wider : {most more : ℕ} {text old new : List ℕ} {at r : ℕ} → most ≤ more → Put most text at old new r → Put more text at old new r
wider few there = put there.cells there.past (omega arith)

-- no part yet
pub none : (old : List ℕ) (at : ℕ) → Put 0 [] at old old at
none old at = record { cells = refl; past = sym (add-zero at); short = omega arith; same_room = refl }

-- one part after another
pub both : {m n : ℕ} {s t a b c : List ℕ} {at p r : ℕ} → Put m s at a b p → Put n t p b c r → Put (m + n) (s ++ t) at a c r
both {s = s} {t = t} {a = a} {at = at} {p = p} one two =
    put
    (two.cells ∙ ap (λ (l : List ℕ). sets l p t) one.cells ∙ ap (λ (k : ℕ). sets (sets a at s) k t) one.past ∙ sym (sets-append s t a at))
    (omega (arith, length-append s t))
    (omega (arith, length-append s t))

-- a whole text stands over the beginning
pub whole : {most r : ℕ} {text old new : List ℕ} → Put most text 0 old new r → most ≤ length old → new ≡ text ++ drop (length text) old
whole {text = text} {old = old} done room =
    let size : 0 + length text ≡ length text = omega arith in
    done.cells ∙ sets-eq text old 0 (omega arith) ∙ rw size
