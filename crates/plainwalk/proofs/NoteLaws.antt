-- The folds that a walk writes down: what they hang on, and one more.
-- Assumes nothing.
use Prim.Native.Nat.{ℕ, ◌+◌, ◌*◌, ◌≤◌, ◌<◌}
use native.Mathlib.Omega.{arith}
use mathlib.Core.Path.{◌≡◌, ap, ap₂, ◌∙◌}
use mathlib.Core.List.{List, [], ◌∷◌, ◌++◌, map-append}
use native.Mathlib.Numerals.{add-one}
use lib.ListN.{length, get_or, set, length-set}
use lib.Seq.{get_or-set_same, get_or-set_other}
use Rattle.walk.specs.declared.Pair.{Pair}
use Rattle.lists.specs.Lists.{below}
use Rattle.walk.specs.Pairs.{pair_of}
use Rattle.walk.proofs.SamePairs.{pair_path}
use Rattle.memory.specs.Memory.{Room}
use Rattle.lists.specs.Frames.{But}
use Rattle.lists.proofs.BelowLaws.{map-same-below, length-each}
use Rattle.lists.proofs.FrameLaws.{but-set, but-then}
use Rattle.memory.specs.Entries.{folds_in, with_fold}
use Rattle.memory.specs.Layout.{folds_from, work_to}

-- only the cells of folds change
pub noted-but : (v f n keep remove : ℕ) (w : List ℕ) → n < f → But (folds_from v f) (work_to v f) w (with_fold v f n keep remove w)
noted-but v f n keep remove w few =
    but-then (but-set (folds_from v f) (work_to v f) w (folds_from v f + 2 * n) keep (omega arith) (omega arith))
    (but-set (folds_from v f) (work_to v f) _ (folds_from v f + 2 * n + 1) remove (omega arith) (omega arith))

-- they are as many as are asked for
pub folds-length : (v f : ℕ) (w : List ℕ) (n : ℕ) → length (folds_in v f w n) ≡ n
unfolding folds_in
folds-length v f w n = length-each (λ i. pair_of (get_or w (folds_from v f + 2 * i) 0) (get_or w (folds_from v f + 2 * i + 1) 0)) n

-- the folds hang on their own cells
pub folds-same : (v f : ℕ) (w w' : List ℕ) (n : ℕ) → ((i : ℕ) → folds_from v f ≤ i → i < folds_from v f + 2 * n → get_or w' i 0 ≡ get_or w i 0) → folds_in v f w' n ≡ folds_in v f w n
unfolding folds_in
folds-same v f w w' n same =
    map-same-below _ _ n
    (λ i l. pair_path (same (folds_from v f + 2 * i) (omega arith) (omega arith)) (same (folds_from v f + 2 * i + 1) (omega arith) (omega arith)))

-- one more
pub folds-more : {v f : ℕ} (w : List ℕ) (n keep remove : ℕ) → n < f → Room v f w →
    folds_in v f (with_fold v f n keep remove w) (n + 1) ≡ folds_in v f w n ++ (pair_of keep remove ∷ [])
unfolding folds_in below
folds-more {v} {f} w n keep remove few room =
    let at = folds_from v f + 2 * n in
    let w' = with_fold v f n keep remove w in
    let fold : List ℕ → ℕ → Pair = λ u i. pair_of (get_or u (folds_from v f + 2 * i) 0) (get_or u (folds_from v f + 2 * i + 1) 0) in
    let first : get_or w' at 0 ≡ keep = get_or-set_other (set w at keep) (at + 1) at remove 0 (omega arith) ∙ get_or-set_same w at keep 0 (omega (arith, room.long)) in
    let second : get_or w' (at + 1) 0 ≡ remove = get_or-set_same (set w at keep) (at + 1) remove 0 (omega (arith, room.long, length-set w at keep)) in
    rw (add-one n)
    (map-append (fold w') (below n) (n ∷ [])
    ∙ ap₂ ◌++◌
    (folds-same v f w w' n
    (λ i l m. get_or-set_other (set w at keep) (at + 1) i remove 0 (omega arith) ∙ get_or-set_other w at i keep 0 (omega arith)))
    (ap (λ (x : Pair). x ∷ []) (pair_path first second)))
