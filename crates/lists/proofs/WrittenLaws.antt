-- Stretches of cells that are written.
-- Assumes nothing.
use Prim.Native.Nat.{ℕ, ◌+◌, ◌-◌, ◌≤◌, ◌<◌}
use native.Mathlib.Nat.{zero-add, not-suc-le-zero}
use native.Mathlib.Omega.{arith}
use mathlib.Core.Path.{◌≡◌, sym, ap, subst, ◌∙◌}
use mathlib.Core.List.{List}
use lib.ListN.{length, get_or, drop, get_or-append}
use lib.Seq.{get_or-append-add, get_or-drop}
use Rattle.lists.specs.Frames.{Written}
use Rattle.lists.specs.Lists.{overlaid}
use Rattle.lists.proofs.OverlayLaws.{length_over}

-- where the stretch begins may be said otherwise
pub written_from : {at start n : ℕ} {value : ℕ → ℕ} {w w' : List ℕ} → at ≡ start → Written at n value w w' → Written start n value w w'
written_from {n = n} {value} {w} {w'} same done = subst (λ (k : ℕ). Written k n value w w') same done

-- a list copied to the beginning of another
pub copy_written : {n : ℕ} {w w' : List ℕ} (list : List ℕ) → length list ≡ n → n ≤ length w → w' ≡ overlaid list w →
    Written 0 n (λ i. get_or list i 0) w w'
copy_written {n} {w} list long fits copied =
    let front : (i : ℕ) → i < n → get_or (overlaid list w) i 0 ≡ get_or list i 0 = λ i l. get_or-append list (drop (length list) w) 0 i (omega arith) in
    let back : (i : ℕ) → n ≤ i → get_or (overlaid list w) i 0 ≡ get_or w i 0 =
    λ i l.
    let there : length list + (i - length list) ≡ i = omega arith in
    ap (λ (k : ℕ). get_or (overlaid list w) k 0) (sym there)
    ∙ get_or-append-add list (drop (length list) w) (i - length list) 0
    ∙ get_or-drop (length list) w (i - length list) 0
    ∙ ap (λ (k : ℕ). get_or w k 0) there in
    rw copied
    (record {
      but = record { same_length = length_over list w (omega arith); under = λ i l. absurd (not-suc-le-zero l); over = λ i l. back i (omega arith) };
      cells = λ i l. rw zero-add (front i l);
    })
