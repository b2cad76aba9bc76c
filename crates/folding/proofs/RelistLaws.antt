-- Listing corners again, at another point or at the same: which cells change, and what it does to the chains.
-- Assumes nothing.
use Prim.Native.Nat.{ℕ, ◌+◌, ◌*◌, ◌/◌, ◌≤◌, ◌<◌}
use native.Mathlib.Omega.{arith}
use mathlib.Core.Path.{◌≡◌, refl, sym, ap, ◌∙◌}
use mathlib.Core.List.{List, [], ◌∷◌}
use mathlib.Core.Bool.{Bool, true, false, ◌&&◌, ◌||◌, cond, and-false, or-true, or-false, or_assoc}
use mathlib.Mathlib.Data.Bool.Basic.{and_elim_left, and_elim_right}
use lib.Dec.{ltb, eqb}
use lib.ListN.{length, set, length-set}
use lib.Seq.{get_or-set_same, get_or-set_other}
use borrow.Author.Tests.{ltb-true, le-ltb, eqb-true, eqb-false, eq-eqb, ne_eqb}
use Rattle.lists.specs.Lists.{sum, count, every, some}
use Rattle.lists.proofs.TestLaws.{by-test, clash, false_of}
use Rattle.lists.proofs.CondLaws.{cond_either}
use Rattle.lists.proofs.EveryLaws.{every-head, every-tail, some-count}
use Rattle.memory.specs.Memory.{corner, first, lives}
use Rattle.lists.specs.Frames.{But}
use Rattle.mesh.specs.Clauses.Chains.{Chains}
use Rattle.lists.proofs.FrameLaws.{but-refl, but-then, but-set}
use Rattle.mesh.proofs.ChainLaws.{chains-listed, chains-rename, chains-push}
use Rattle.folding.specs.Clauses.Steps.{in_turn, corner_of, moved, relisted}
use Rattle.folding.proofs.CornerLaws.{corner-slot, corner-same}
use Rattle.memory.specs.Layout.{firsts_from, kinds_from, lives_from, nexts_from}

-- The picked corners got the point new. If they were in no chain they are in its chain now, and the other chains are as they were.
pub record Relisted (v f new : ℕ) (picked : ℕ → Bool) (w w' : List ℕ) : Type 0 where
  pub but : But 0 (kinds_from v f) w w'
  pub lives_same : (k : ℕ) → k < f → lives f w' k ≡ lives f w k
  pub corners : (c : ℕ) → c < 3 * f → corner w' c ≡ cond (picked c) new (corner w c)
  pub chains : (listed : ℕ → Bool) → ((c : ℕ) → c < 3 * f → picked c ≡ true → listed c ≡ false) →
      Chains v f w listed → Chains v f w' (λ c. listed c || picked c)

module _ {v f new : ℕ} where
  -- none
  pub relisted-none : (w : List ℕ) → Relisted v f new (λ c. false) w w
  relisted-none w = record {
    but = but-refl 0 (kinds_from v f) w;
    lives_same = λ k l. refl;
    corners = λ c l. refl;
    chains = λ listed free. chains-listed v f w listed (λ c. listed c || false) (λ c l. sym (or-false (listed c)));
  }

  -- some, and then others
  pub relisted-then : {picked picked' : ℕ → Bool} {w w' w'' : List ℕ} →
      ((c : ℕ) → c < 3 * f → picked' c ≡ true → picked c ≡ false) →
      Relisted v f new picked w w' → Relisted v f new picked' w' w'' → Relisted v f new (λ c. picked c || picked' c) w w''
  relisted-then {picked} {picked'} {w} {w'} {w''} others p q = record {
    but = but-then p.but q.but;
    lives_same = λ k l. q.lives_same k l ∙ p.lives_same k l;
    corners = λ c l. q.corners c l ∙ rw (p.corners c l) (cond_either (picked c) (picked' c) new (corner w c));
    chains = λ listed free h.
        chains-listed v f w'' (λ c. (listed c || picked c) || picked' c) (λ c. listed c || (picked c || picked' c))
        (λ c l. or_assoc (listed c) (picked c) (picked' c))
        (q.chains (λ c. listed c || picked c)
        (λ c l e. rw (others c l e, free c l (rw (e, or-true)), or-false))
        (p.chains listed (λ c l e. free c l (rw e)) h));
  }

  -- the same corners, said another way
  pub relisted-as : {picked picked' : ℕ → Bool} {w w' : List ℕ} →
      ((c : ℕ) → c < 3 * f → picked c ≡ picked' c) → Relisted v f new picked w w' → Relisted v f new picked' w w'
  relisted-as {picked} {picked'} {w} {w'} same p = record {
    but = p.but;
    lives_same = p.lives_same;
    corners = λ c l. p.corners c l ∙ rw (same c l);
    chains = λ listed free h.
        chains-listed v f w' (λ c. listed c || picked c) (λ c. listed c || picked' c) (λ c l. rw (same c l))
        (p.chains listed (λ c l e. free c l (sym (same c l) ∙ e)) h);
  }

-- ---- one corner, and one slot

-- the cells of one corner's move
pub moved-but : {hi : ℕ} (f c new : ℕ) (w : List ℕ) → c < 3 * f → firsts_from f + new < hi → But 0 hi w (moved f c new w)
unfolding moved
moved-but {hi} f c new w l above =
    but-then (but-set 0 hi w c new (omega arith) (omega arith))
    (but-then (but-set 0 hi _ (nexts_from f + c) _ (omega arith) (omega arith))
    (but-set 0 hi _ (firsts_from f + new) (c + 1) (omega arith) (omega arith)))

pub relisted-but : {hi : ℕ} (f old new k : ℕ) (w : List ℕ) → k < f → firsts_from f + new < hi → But 0 hi w (relisted f old new k w)
unfolding relisted
relisted-but {hi} f old new k w l above =
    let slot = corner-slot w k old in
    by-test (lives f w k)
    (λ e. rw e (moved-but f (corner_of w k old) new w (omega arith) above))
    (λ e. rw e (but-refl 0 hi w))

module _ {v f new : ℕ} (new-below : new < v) where
  relisted-one : (c : ℕ) (w : List ℕ) → c < 3 * f → kinds_from v f ≤ length w → Relisted v f new (λ d. eqb d c) w (moved f c new w)
  unfolding moved
  relisted-one c w l long =
      let w₁ : List ℕ = set w c new in
      let w₂ : List ℕ = set w₁ (nexts_from f + c) (first f w₁ new) in
      record {
        but = moved-but f c new w l (omega arith);
        lives_same = λ k m.
            rw (
              get_or-set_other w₂ (firsts_from f + new) (lives_from f + k) (c + 1) 0 (omega arith),
              get_or-set_other w₁ (nexts_from f + c) (lives_from f + k) (first f w₁ new) 0 (omega arith),
              get_or-set_other w c (lives_from f + k) new 0 (omega arith),
            );
        corners = λ d m.
            get_or-set_other w₂ (firsts_from f + new) d (c + 1) 0 (omega arith)
            ∙ get_or-set_other w₁ (nexts_from f + c) d (first f w₁ new) 0 (omega arith)
            ∙ by-test (eqb d c)
            (λ e. rw (e, eqb-true d c e) (get_or-set_same w c new 0 (omega arith)))
            (λ e. rw e (get_or-set_other w c d new 0 (eqb-false d c e)));
        chains = λ listed free h.
            let alone : listed c ≡ false = free c l (eq-eqb c c refl) in
            chains-push v f w₁ listed c new l alone (get_or-set_same w c new 0 (omega arith)) new-below (rw length-set long)
            (chains-rename v f w listed c new l alone h);
      }

  relisted-slot : (old k : ℕ) (w : List ℕ) → k < f → kinds_from v f ≤ length w →
      Relisted v f new (λ c. lives f w k && eqb c (corner_of w k old)) w (relisted f old new k w)
  unfolding relisted
  relisted-slot old k w l long =
      let slot = corner-slot w k old in
      by-test (lives f w k)
      (λ e. rw e (relisted-one (corner_of w k old) w (omega arith) long))
      (λ e. rw e (relisted-none w))

-- ---- a list of slots

-- the corners that are picked by a list: in each slot that lives the one at old
abbrev pub picks : ℕ → ℕ → List ℕ → List ℕ → ℕ → Bool
picks f old ks w c = some (λ k. eqb k (c / 3)) ks && (lives f w (c / 3) && eqb c (corner_of w (c / 3) old))

-- no slot is in the list twice
abbrev pub Once : List ℕ → Type 0
Once ks = (j : ℕ) → count (λ k. eqb k j) ks ≤ 1

-- so the first is not among the rest
once-first : (k : ℕ) (ks : List ℕ) → Once (k ∷ ks) → some (λ i. eqb i k) ks ≡ false
unfolding sum
once-first k ks once =
    let here = rw (eq-eqb k k refl) at (once k) in
    some-count (λ i. eqb i k) ks ∙ le-ltb 0 (count (λ i. eqb i k) ks) (omega arith)

once-rest : (k : ℕ) (ks : List ℕ) → Once (k ∷ ks) → Once ks
unfolding sum
once-rest k ks once j = let all = once j in omega arith

-- a corner of a slot is none of the rest of the list
picks-apart : (f old k : ℕ) (ks w w' : List ℕ) → some (λ i. eqb i k) ks ≡ false →
    (c : ℕ) → picks f old ks w' c ≡ true → (lives f w k && eqb c (corner_of w k old)) ≡ false
picks-apart f old k ks w w' absent c e =
    false_of (lives f w k && eqb c (corner_of w k old))
    (λ h.
    let slot : c / 3 ≡ k =
    ap (λ (n : ℕ). n / 3) (eqb-true c (corner_of w k old) (and_elim_right (lives f w k) (eqb c (corner_of w k old)) h)) ∙ corner-slot w k old in
    clash (and_elim_left (some (λ i. eqb i (c / 3)) ks) (lives f w' (c / 3) && eqb c (corner_of w' (c / 3) old)) e) (rw slot absent))

module _ {v f new : ℕ} (new-below : new < v) (old : ℕ) where
  -- the corners of a slot and those of the rest of the list
  picks_more : (k : ℕ) (ks w w' : List ℕ) → some (λ i. eqb i k) ks ≡ false →
      Relisted v f new (λ c. lives f w k && eqb c (corner_of w k old)) w w' → (c : ℕ) → c < 3 * f →
      ((lives f w k && eqb c (corner_of w k old)) || picks f old ks w' c) ≡ picks f old (k ∷ ks) w c
  unfolding some
  picks_more k ks w w' absent p c l =
      by-test (eqb k (c / 3))
      (λ e.
      let here : k ≡ c / 3 = eqb-true k (c / 3) e in
      let gone : some (λ i. eqb i (c / 3)) ks ≡ false = rw here at absent in
      rw (e, here, gone) (or-false (lives f w (c / 3) && eqb c (corner_of w (c / 3) old))))
      (λ e.
      let apart = eqb-false k (c / 3) e in
      let elsewhere : (d : ℕ) → d / 3 ≡ c / 3 → eqb d (corner_of w k old) ≡ false =
      λ d at. ne_eqb d (corner_of w k old) (λ q. apart (sym (corner-slot w k old) ∙ ap (λ (n : ℕ). n / 3) (sym q) ∙ at)) in
      let still : (d : ℕ) → d / 3 ≡ c / 3 → corner w' d ≡ corner w d =
      λ d at. p.corners d (omega arith) ∙ rw (elsewhere d at, and-false (lives f w k)) in
      rw (e, elsewhere c refl, and-false (lives f w k), p.lives_same (c / 3) (omega arith), corner-same w w' (c / 3) old still))

  -- each slot of the list has had its turn
  pub relisted-all : (ks w : List ℕ) → every (λ k. ltb k f) ks ≡ true → Once ks → kinds_from v f ≤ length w →
      Relisted v f new (picks f old ks w) w (in_turn (relisted f old new) ks w)
  unfolding in_turn some
  relisted-all [] w all once long = relisted-none w
  relisted-all (k ∷ ks) w all once long =
      let here : k < f = ltb-true k f (every-head (λ i. ltb i f) k ks all) in
      let w' : List ℕ = relisted f old new k w in
      let p = relisted-slot new-below old k w here long in
      let absent = once-first k ks once in
      relisted-as (picks_more k ks w w' absent p)
      (relisted-then
      (λ c l e. picks-apart f old k ks w w' absent c e)
      p
      (relisted-all ks w' (every-tail (λ i. ltb i f) k ks all) (once-rest k ks once) (omega (arith, p.but.same_length))))
