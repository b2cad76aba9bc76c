-- The list of open pairs: it grows at its end, it hangs on its own cells alone, and what a pair written into a place of it does.
-- Assumes nothing.
use Prim.Native.Nat.{ℕ, zero, suc, ◌+◌, ◌-◌, ◌*◌, ◌≤◌, ◌<◌}
use native.Mathlib.Nat.{eq-or-lt_of_le}
use native.Mathlib.Numerals.{add-one}
use native.Mathlib.Omega.{arith}
use mathlib.Core.Path.{◌≡◌, refl, sym, ap, ap₂, ◌∙◌}
use mathlib.Core.Logic.{◌≢◌, ⊎_elim}
use mathlib.Core.List.{List, [], ◌∷◌, ◌++◌, map-append}
use lib.ListN.{length, set, length-set, length-map}
use lib.Seq.{get_or-set_same, get_or-set_other}
use Rattle.walk.specs.declared.Pair.{Pair}
use Rattle.lists.specs.Lists.{sum, below}
use Rattle.walk.specs.Pairs.{pair_of}
use Rattle.lists.proofs.SumLaws.{sum-map, sum-append}
use Rattle.lists.proofs.BelowLaws.{sum_below, length-below, sum-same-below, sum-changed}
use Rattle.walk.proofs.SamePairs.{pair_path}
use Rattle.memory.specs.Memory.{Room}
use Rattle.lists.specs.Frames.{But}
use Rattle.memory.specs.Entries.{pair_at}
use Rattle.openpairs.specs.State.{open_pairs}
use Rattle.openpairs.specs.Clauses.Changes.{Closed}
use Rattle.lists.proofs.FrameLaws.{but-then, but-set}
use Rattle.memory.specs.Layout.{keeps_from, near_from, removes_from}

module _ (v f : ℕ) where
  -- ---- the list by its places

  pub open_none : (w : List ℕ) → open_pairs v f w 0 ≡ []
  unfolding open_pairs below
  open_none w = refl

  pub open_next : (w : List ℕ) (n : ℕ) → open_pairs v f w (n + 1) ≡ open_pairs v f w n ++ (pair_at v f w n ∷ [])
  unfolding open_pairs below
  open_next w n = rw add-one (map-append (pair_at v f w) (below n) (n ∷ []))

  pub open-length : (w : List ℕ) (n : ℕ) → length (open_pairs v f w n) ≡ n
  unfolding open_pairs
  open-length w n = length-map (below n) (pair_at v f w) ∙ length-below n

  pub open-sum : (g : Pair → ℕ) (w : List ℕ) (n : ℕ) → sum g (open_pairs v f w n) ≡ sum (λ i. g (pair_at v f w i)) (below n)
  unfolding open_pairs
  open-sum g w n = sum-map g (pair_at v f w) (below n)

  -- two memories with the same pairs
  pub open-same : (w w' : List ℕ) (n : ℕ) → ((i : ℕ) → i < n → pair_at v f w' i ≡ pair_at v f w i) → open_pairs v f w' n ≡ open_pairs v f w n
  open-same w w' zero same = open_none w' ∙ sym (open_none w)
  open-same w w' (suc n) same =
      rw (← add-one n)
      (open_next w' n
      ∙ ap₂ (λ (ps : List Pair) (p : Pair). ps ++ (p ∷ [])) (open-same w w' n (λ i l. same i (omega arith))) (same n (omega arith))
      ∙ sym (open_next w n))

-- ---- a pair written into a place

abbrev pub pushed : ℕ → ℕ → List ℕ → ℕ → ℕ → ℕ → List ℕ
pushed v f w n keep remove = set (set w (keeps_from v f + n) keep) (removes_from v f + n) remove

module _ {v f : ℕ} {w : List ℕ} (room : Room v f w) (n keep remove : ℕ) (within : n < 3 * f) where
  pub pushed-but : But (keeps_from v f) (near_from v f) w (pushed v f w n keep remove)
  pushed-but =
      but-then (but-set _ _ w (keeps_from v f + n) keep (omega arith) (omega arith))
      (but-set _ _ _ (removes_from v f + n) remove (omega arith) (omega arith))

  -- it stands there
  pub pushed-here : pair_at v f (pushed v f w n keep remove) n ≡ pair_of keep remove
  pushed-here =
      let first = set w (keeps_from v f + n) keep in
      pair_path
      (get_or-set_other first (removes_from v f + n) (keeps_from v f + n) remove 0 (omega arith)
      ∙ get_or-set_same w (keeps_from v f + n) keep 0 (omega arith))
      (get_or-set_same first (removes_from v f + n) remove 0 (simp length-set (omega arith)))

  -- and every other pair is as before
  pub pushed-other : (i : ℕ) → i < 3 * f → i ≢ n → pair_at v f (pushed v f w n keep remove) i ≡ pair_at v f w i
  pushed-other i inside other =
      let first = set w (keeps_from v f + n) keep in
      pair_path
      (get_or-set_other first (removes_from v f + n) (keeps_from v f + i) remove 0 (omega arith)
      ∙ get_or-set_other w (keeps_from v f + n) (keeps_from v f + i) keep 0 (omega arith))
      (get_or-set_other first (removes_from v f + n) (removes_from v f + i) remove 0 (omega arith)
      ∙ get_or-set_other w (keeps_from v f + n) (removes_from v f + i) keep 0 (omega arith))

  -- after the last one, the list is longer by it
  pub pushed_grows : open_pairs v f (pushed v f w n keep remove) (n + 1) ≡ open_pairs v f w n ++ (pair_of keep remove ∷ [])
  pushed_grows =
      open_next v f (pushed v f w n keep remove) n
      ∙ ap₂ (λ (ps : List Pair) (p : Pair). ps ++ (p ∷ []))
      (open-same v f w (pushed v f w n keep remove) n (λ i l. pushed-other i (omega arith) (omega arith))) pushed-here

  pub pushed-sum : (g : Pair → ℕ) → sum g (open_pairs v f (pushed v f w n keep remove) (n + 1)) ≡ sum g (open_pairs v f w n) + g (pair_of keep remove)
  unfolding sum
  pushed-sum g = rw (pushed_grows, sum-append) (omega arith)

-- ---- a pair closed

module _ {v f : ℕ} {w : List ℕ} {n at : ℕ} (room : Room v f w) (within : at < n) (inside : n ≤ 3 * f) (p : Pair) (is_last : p ≡ pair_at v f w (n - 1)) where
  -- the last pair is written into a place: what is left of the list, and the pair that stood there, are the whole list
  closed-sum : (g : Pair → ℕ) →
      sum g (open_pairs v f (pushed v f w at p.keep p.remove) (n - 1)) + g (pair_at v f w at) ≡ sum g (open_pairs v f w (n - 1 + 1))
  closed-sum g =
      let w' = pushed v f w at p.keep p.remove in
      let old : ℕ → ℕ = λ i. g (pair_at v f w i) in
      let new : ℕ → ℕ = λ i. g (pair_at v f w' i) in
      let here : new at ≡ old (n - 1) = ap g (pushed-here room at p.keep p.remove (omega arith) ∙ is_last) in
      let other : (i : ℕ) → i < n - 1 → i ≢ at → new i ≡ old i =
      λ i l o. ap g (pushed-other room at p.keep p.remove (omega arith) i (omega arith) o) in
      let at_most : at ≤ n - 1 = omega arith in
      rw (open-sum v f g w', open-sum v f g w, add-one, sum_below)
      (⊎_elim
      (λ e. ap₂ ◌+◌ (sum-same-below new old (n - 1) (λ i l. other i l (omega arith))) (ap old e))
      (λ l. sum-changed old new (n - 1) at l other ∙ ap (λ (k : ℕ). sum old (below (n - 1)) + k) here)
      (eq-or-lt_of_le at_most))

  pub closing : {w' : List ℕ} → w' ≡ pushed v f w at p.keep p.remove → Closed v f w n at w' (n - 1)
  closing {w'} e =
      let back : n - 1 + 1 ≡ n = omega arith in
      record {
        but = rw e (pushed-but room at p.keep p.remove (omega arith));
        fewer = back;
        sums = λ g. rw e (closed-sum g ∙ ap (λ (k : ℕ). sum g (open_pairs v f w k)) back);
      }
