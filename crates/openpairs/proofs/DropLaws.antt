-- One pass over the open pairs that keeps, in order, those that touch neither point of a pair: what holds before each turn, and what a turn does.
-- Assumes nothing.
use Prim.Native.Nat.{ℕ, ◌+◌, ◌*◌, ◌≤◌, ◌<◌}
use native.Mathlib.Omega.{arith}
use mathlib.Core.Path.{◌≡◌, refl, sym, ap, ◌∙◌}
use mathlib.Core.List.{List, [], ◌∷◌, ◌++◌, append-nil}
use mathlib.Core.Bool.{Bool, true, false, cond}
use Rattle.walk.specs.declared.Pair.{Pair}
use Rattle.lists.specs.Lists.{those}
use Rattle.walk.specs.Pairs.{pair_of, apart}
use Rattle.memory.specs.Memory.{Room}
use Rattle.lists.specs.Frames.{But}
use Rattle.memory.specs.Entries.{pair_at}
use Rattle.openpairs.specs.State.{open_pairs}
use Rattle.openpairs.specs.Clauses.Changes.{Dropped}
use Rattle.lists.proofs.FrameLaws.{but-refl, but-then}
use Rattle.lists.proofs.EveryLaws.{those-next}
use Rattle.openpairs.proofs.OpenLaws.{open_none, open_next, pushed, pushed-but, pushed-other, pushed_grows}
use Rattle.memory.specs.Layout.{keeps_from, near_from}

-- The first i pairs are looked at, and kept of them stay. Those to come are as they were.
pub record Dropping (v f : ℕ) (w₀ : List ℕ) (keep remove : ℕ) (w : List ℕ) (kept i : ℕ) : Type 0 where
  pub fewer : kept ≤ i
  pub but : But (keeps_from v f) (near_from v f) w₀ w
  pub ahead : (j : ℕ) → i ≤ j → j < 3 * f → pair_at v f w j ≡ pair_at v f w₀ j
  pub done : open_pairs v f w kept ≡ those (apart (pair_of keep remove)) (open_pairs v f w₀ i)

pub dropping-none : (v f : ℕ) (w : List ℕ) (keep remove : ℕ) → Dropping v f w keep remove w 0 0
unfolding those
dropping-none v f w keep remove =
    record {
      fewer = omega arith;
      but = but-refl _ _ w;
      ahead = λ j l m. refl;
      done = rw (open_none v f w);
    }

module _ {v f : ℕ} {w₀ : List ℕ} {keep remove : ℕ} {w : List ℕ} {kept i : ℕ} (before : Dropping v f w₀ keep remove w kept i) (inside : i < 3 * f)
    (p : Pair) (here : p ≡ pair_at v f w i) where
  -- one more is looked at
  looked : {b : Bool} → apart (pair_of keep remove) p ≡ b →
      open_pairs v f w kept ++ cond b (p ∷ []) [] ≡ those (apart (pair_of keep remove)) (open_pairs v f w₀ (i + 1))
  looked {b} e =
      ap (λ (ps : List Pair). ps ++ cond b (p ∷ []) []) before.done
      ∙ sym (those-next (apart (pair_of keep remove)) (open_pairs v f w₀ i) (sym (before.ahead i (omega arith) inside) ∙ sym here) e)
      ∙ ap (those (apart (pair_of keep remove))) (sym (open_next v f w₀ i))

  -- it touches neither point, and stays
  pub dropping-kept : {w' : List ℕ} → Room v f w → apart (pair_of keep remove) p ≡ true → w' ≡ pushed v f w kept p.keep p.remove →
      Dropping v f w₀ keep remove w' (kept + 1) (i + 1)
  dropping-kept room passes e =
      record {
        fewer = omega arith;
        but = rw e (but-then before.but (pushed-but room kept p.keep p.remove (omega arith)));
        ahead = λ j l m. rw e (pushed-other room kept p.keep p.remove (omega arith) j m (omega arith) ∙ before.ahead j (omega arith) m);
        done = rw e (pushed_grows room kept p.keep p.remove (omega arith) ∙ looked passes);
      }

  -- it touches one, and goes
  pub dropping-gone : apart (pair_of keep remove) p ≡ false → Dropping v f w₀ keep remove w kept (i + 1)
  dropping-gone fails =
      record {
        fewer = omega arith;
        but = before.but;
        ahead = λ j l m. before.ahead j (omega arith) m;
        done = sym (append-nil _) ∙ looked fails;
      }

pub dropping-all : {v f : ℕ} {w₀ : List ℕ} {keep remove : ℕ} {w : List ℕ} {kept i n : ℕ} → i ≡ n → Dropping v f w₀ keep remove w kept i →
    Dropped v f w₀ n keep remove w kept
dropping-all {v} {f} {w₀} {keep} {remove} e end =
    record { but = end.but; kept = end.done ∙ ap (λ (k : ℕ). those (apart (pair_of keep remove)) (open_pairs v f w₀ k)) e }
