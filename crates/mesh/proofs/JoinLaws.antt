-- Pushing every corner, from the last to the first: the corners from one on are in their chains.
-- Assumes nothing.
use Prim.Native.Nat.{ℕ, ◌+◌, ◌-◌, ◌*◌, ◌≤◌, ◌<◌}
use native.Mathlib.Omega.{arith}
use mathlib.Core.Path.{◌≡◌, sym}
use mathlib.Core.List.{List, []}
use mathlib.Core.Bool.{Bool, true, false, ◌||◌}
use lib.Dec.{leb, eqb}
use lib.ListN.{set}
use borrow.Author.Tests.{le-leb, lt-leb, leb-true, leb-false, eqb-true, eqb-false}
use Rattle.lists.specs.Lists.{sum}
use Rattle.memory.specs.Memory.{corner, first, Room}
use Rattle.lists.specs.Frames.{But}
use Rattle.mesh.specs.Clauses.Chains.{Linked, Chains}
use Rattle.mesh.specs.Clauses.Laying.{Joined}
use Rattle.lists.proofs.TestLaws.{by-outcome}
use Rattle.lists.proofs.BelowLaws.{sum-none}
use Rattle.lists.proofs.FrameLaws.{but-refl, but-then, but-set}
use Rattle.mesh.proofs.ChainLaws.{chains-listed, chains-push}
use Rattle.memory.specs.Layout.{firsts_from, kinds_from, nexts_from}

-- where no point has a link no corner is listed
pub chains-none : (v f : ℕ) (w : List ℕ) (listed : ℕ → Bool) →
    ((x : ℕ) → x < v → first f w x ≡ 0) → ((c : ℕ) → c < 3 * f → listed c ≡ false) → Chains v f w listed
unfolding Linked sum
chains-none v f w listed firsts none = record {
  chain = λ x. [];
  linked = firsts;
  sums = λ x l g. sym (sum-none _ (3 * f) (λ c m. rw (none c m)));
}

-- the numbers from c on, with the one before c
one-before : (c d k : ℕ) → c ≡ d + 1 → (leb c k || eqb k d) ≡ leb d k
one-before c d k e =
    by-outcome (λ b. (b || eqb k d) ≡ leb d k) (leb c k)
    (λ t. sym (le-leb d k (omega (arith, leb-true c k t))))
    (λ t.
    by-outcome (λ b. b ≡ leb d k) (eqb k d)
    (λ q. sym (le-leb d k (omega (arith, eqb-true k d q))))
    (λ q. sym (lt-leb d k (omega (arith, leb-false c k t, eqb-false k d q)))))

-- what is true at each turn: the corners from c on are in their chains
pub record Joining (v f : ℕ) (w₀ w : List ℕ) (c : ℕ) : Type 0 where
  pub few : c ≤ 3 * f
  pub but : But (4 * f) (kinds_from v f) w₀ w
  pub chains : Chains v f w (λ d. leb c d)

-- at the start none is
pub join-start : {v f : ℕ} {w : List ℕ} → ((x : ℕ) → x < v → first f w x ≡ 0) → Joining v f w w (3 * f)
join-start {v} {f} {w} firsts = record {
  few = omega arith;
  but = but-refl (4 * f) (kinds_from v f) w;
  chains = chains-none v f w (λ d. leb (3 * f) d) firsts (λ c l. lt-leb (3 * f) c l);
}

-- a turn pushes the corner before c, whose point is one
module _ {v f : ℕ} {w₀ w : List ℕ} {c : ℕ} (room : Room v f w₀) (corners : (d : ℕ) → d < 3 * f → corner w₀ d < v) (some : 0 < c)
    (h : Joining v f w₀ w c) where
  pub join-point : corner w (c - 1) < v
  join-point = omega (arith, corners (c - 1) (omega arith), h.but.under (c - 1) (omega arith))

  pub join-turn : {w' : List ℕ} {x : ℕ} → x ≡ corner w (c - 1) →
      w' ≡ set (set w (nexts_from f + (c - 1)) (first f w x)) (firsts_from f + x) (c - 1 + 1) → Joining v f w₀ w' (c - 1)
  join-turn {w'} {x} here after =
      let d : ℕ = c - 1 in
      let x_below : x < v = rw here join-point in
      record {
        few = omega arith;
        but =
            rw after
            (but-then h.but
            (but-then
            (but-set (4 * f) (kinds_from v f) w (nexts_from f + d) (first f w x) (omega arith) (omega arith))
            (but-set (4 * f) (kinds_from v f) (set w (nexts_from f + d) (first f w x)) (firsts_from f + x) (d + 1) (omega arith) (omega arith))));
        chains =
            rw after
            (chains-listed v f _ (λ k. leb c k || eqb k d) (λ k. leb d k) (λ k l. one-before c d k (omega arith))
            (chains-push v f w (λ k. leb c k) d x (omega arith) (lt-leb c d (omega arith)) (sym here) x_below (omega arith) h.chains));
      }

-- at the end all are
pub join-end : {v f : ℕ} {w₀ w : List ℕ} {c : ℕ} → c ≤ 0 → Joining v f w₀ w c → Joined v f w₀ w
join-end {v} {f} {w₀} {w} {c} none h = record {
  but = h.but;
  chains = chains-listed v f w (λ d. leb c d) (λ d. true) (λ d l. le-leb c d (omega arith)) h.chains;
}
