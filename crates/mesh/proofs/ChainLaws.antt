-- What a change of the memory does to the chains: which changes keep them, and how a chain is dropped and a corner pushed.
-- Assumes nothing.
use Prim.Native.Nat.{ℕ, ◌+◌, ◌*◌, ◌≤◌, ◌<◌}
use native.Mathlib.Omega.{arith}
use mathlib.Core.Path.{◌≡◌, refl, sym, ap, ap₂, ◌∙◌}
use mathlib.Core.Logic.{◌≢◌}
use mathlib.Core.List.{List, [], ◌∷◌}
use mathlib.Core.Bool.{Bool, true, false, not, ◌&&◌, ◌||◌, cond}
use lib.Dec.{eqb}
use lib.ListN.{length, get_or, set, length-set}
use lib.Seq.{get_or-set_same, get_or-set_other}
use borrow.Author.Tests.{eqb-true, eqb-false, not-true}
use Rattle.lists.specs.Lists.{sum, below}
use Rattle.memory.specs.Memory.{corner, next, first}
use Rattle.lists.specs.Frames.{But}
use Rattle.mesh.specs.Clauses.Chains.{Linked, Chains}
use Rattle.lists.proofs.TestLaws.{by-outcome, not-two, never_both}
use Rattle.lists.proofs.CondLaws.{never-self, passes, cond-apart, cond-none}
use Rattle.lists.proofs.SumLaws.{one_kept, sum-add, sum-zero}
use Rattle.lists.proofs.BelowLaws.{sum-same-below, sum-none, sum-single}
use Rattle.memory.specs.Layout.{firsts_from, kinds_from, lives_from, nexts_from}

-- a chain runs on as it was where the links of its corners stay
linked-kept : (f : ℕ) (w w' : List ℕ) (kept : ℕ → Bool) →
    ((c : ℕ) → c < 3 * f → kept c ≡ true → next f w' c ≡ next f w c) →
    (link : ℕ) (cs : List ℕ) → sum (λ c. cond (kept c) 0 1) cs ≡ 0 → Linked f w link cs → Linked f w' link cs
unfolding Linked sum
linked-kept f w w' kept same link [] all h = h
linked-kept f w w' kept same link (c ∷ cs) all h = (
  h.0,
  h.1,
  rw (same c h.1 (passes (kept c) (sum (λ d. cond (kept d) 0 1) cs) all))
      (linked-kept f w w' kept same (next f w c) cs (omega arith) h.2),
)

-- the chains stay where the links stay, and the corners that are listed at each point
pub chains-keep : (v f : ℕ) (w w' : List ℕ) (listed listed' : ℕ → Bool) →
    ((c : ℕ) → c < 3 * f → next f w' c ≡ next f w c) →
    ((x : ℕ) → x < v → first f w' x ≡ first f w x) →
    ((c : ℕ) → c < 3 * f → (x : ℕ) → (listed c && eqb (corner w c) x) ≡ (listed' c && eqb (corner w' c) x)) →
    Chains v f w listed → Chains v f w' listed'
chains-keep v f w w' listed listed' nexts firsts corners h = record {
  chain = h.chain;
  linked = λ x l.
      rw (firsts x l)
      (linked-kept f w w' (λ c. true) (λ c m t. nexts c m) (first f w x) (h.chain x) (sum-zero (h.chain x)) (h.linked x l));
  sums = λ x l g.
      h.sums x l g ∙ sum-same-below _ _ (3 * f) (λ c m. ap (λ (b : Bool). cond b (g c) 0) (corners c m x));
}

-- a list of the same corners, said another way
pub chains-listed : (v f : ℕ) (w : List ℕ) (listed listed' : ℕ → Bool) →
    ((c : ℕ) → c < 3 * f → listed c ≡ listed' c) → Chains v f w listed → Chains v f w listed'
chains-listed v f w listed listed' same =
    chains-keep v f w w listed listed' (λ c l. refl) (λ x l. refl) (λ c l x. ap (λ (b : Bool). b && eqb (corner w c) x) (same c l))

-- a face is killed or comes to life
pub chains-live : (v f : ℕ) (w : List ℕ) (listed : ℕ → Bool) (k value : ℕ) →
    k < f → Chains v f w listed → Chains v f (set w (lives_from f + k) value) listed
chains-live v f w listed k value l =
    chains-keep v f w (set w (lives_from f + k) value) listed listed
    (λ c m. get_or-set_other w (lives_from f + k) (nexts_from f + c) value 0 (omega arith))
    (λ x m. get_or-set_other w (lives_from f + k) (firsts_from f + x) value 0 (omega arith))
    (λ c m x. rw (get_or-set_other w (lives_from f + k) c value 0 (omega arith)))

-- cells above the links change: kinds, marks and what follows them
pub chains-but : {v f lo hi : ℕ} {w w' : List ℕ} {listed : ℕ → Bool} →
    kinds_from v f ≤ lo → But lo hi w w' → Chains v f w listed → Chains v f w' listed
chains-but {v} {f} {lo} {hi} {w} {w'} {listed} above but =
    chains-keep v f w w' listed listed
    (λ c m. but.under (nexts_from f + c) (omega arith))
    (λ x m. but.under (firsts_from f + x) (omega arith))
    (λ c m x. rw (but.under c (omega arith)))

-- a corner that is in no chain gets another point
pub chains-rename : (v f : ℕ) (w : List ℕ) (listed : ℕ → Bool) (c y : ℕ) →
    c < 3 * f → listed c ≡ false → Chains v f w listed → Chains v f (set w c y) listed
chains-rename v f w listed c y l free =
    chains-keep v f w (set w c y) listed listed
    (λ d m. get_or-set_other w c (nexts_from f + d) y 0 (omega arith))
    (λ x m. get_or-set_other w c (firsts_from f + x) y 0 (omega arith))
    (λ d m x.
    by-outcome (λ b. (listed d && eqb (corner w d) x) ≡ (listed d && eqb (corner (set w c y) d) x)) (eqb d c)
    (λ e. let here : listed d ≡ false = rw (eqb-true d c e) free in rw here)
    (λ e. rw (get_or-set_other w c d y 0 (eqb-false d c e))))

-- ---- a point's chain is emptied, and its corners are in no chain

module _ (v f : ℕ) (w : List ℕ) (listed : ℕ → Bool) (x : ℕ) (x_below : x < v) (long : kinds_from v f ≤ length w) (h : Chains v f w listed) where
  abbrev dropped : List ℕ
  dropped = set w (firsts_from f + x) 0

  -- the point's own chain is empty, and the others run on
  dropped-linked : (y : ℕ) → y < v → Linked f dropped (first f dropped y) (cond (eqb x y) [] (h.chain y))
  unfolding Linked
  dropped-linked y l =
      by-outcome (λ b. Linked f dropped (first f dropped y) (cond b [] (h.chain y))) (eqb x y)
      (λ e. rw (← (eqb-true x y e)) (get_or-set_same w (firsts_from f + x) 0 0 (omega arith)))
      (λ e.
      let apart : x ≢ y = eqb-false x y e in
      rw (get_or-set_other w (firsts_from f + x) (firsts_from f + y) 0 0 (omega arith))
      (linked-kept f w dropped (λ c. true) (λ c m t. get_or-set_other w (firsts_from f + x) (nexts_from f + c) 0 0 (omega arith))
      (first f w y) (h.chain y) (sum-zero (h.chain y)) (h.linked y l)))

  -- no listed corner is left at the point, and at another point all are
  dropped-sums : (y : ℕ) → y < v → (g : ℕ → ℕ) →
      sum g (cond (eqb x y) [] (h.chain y))
      ≡ sum (λ c. cond (listed c && not (eqb (corner w c) x) && eqb (corner dropped c) y) (g c) 0) (below (3 * f))
  unfolding sum
  dropped-sums y l g =
      by-outcome
      (λ b.
      sum g (cond b [] (h.chain y))
      ≡ sum (λ c. cond (listed c && not (eqb (corner w c) x) && eqb (corner dropped c) y) (g c) 0) (below (3 * f)))
      (eqb x y)
      (λ e.
      sym
      (sum-none _ (3 * f) (λ c m.
      rw (get_or-set_other w (firsts_from f + x) c 0 0 (omega arith), ← (eqb-true x y e)) (never-self (listed c) (eqb (corner w c) x) (g c)))))
      (λ e.
      h.sums y l g
      ∙ sum-same-below _ _ (3 * f) (λ c m.
      rw (
        get_or-set_other w (firsts_from f + x) c 0 0 (omega arith),
        never_both (listed c) (eqb (corner w c) x) (eqb (corner w c) y) (not-two (corner w c) x y (eqb-false x y e)),
      )))

  pub chains-drop : Chains v f (set w (firsts_from f + x) 0) (λ c. listed c && not (eqb (corner w c) x))
  chains-drop = record { chain = λ y. cond (eqb x y) [] (h.chain y); linked = dropped-linked; sums = dropped-sums }

-- ---- a corner that is in no chain is pushed on its point's

module _ (v f : ℕ) (w : List ℕ) (listed : ℕ → Bool) (c x : ℕ) (c_below : c < 3 * f) (free : listed c ≡ false) (at_x : corner w c ≡ x)
    (x_below : x < v) (long : kinds_from v f ≤ length w) (h : Chains v f w listed) where
  abbrev pushed : List ℕ
  pushed = set (set w (nexts_from f + c) (first f w x)) (firsts_from f + x) (c + 1)

  -- what a cell holds that is neither of the two
  pushed-other : (i : ℕ) → i ≢ nexts_from f + c → i ≢ firsts_from f + x → get_or pushed i 0 ≡ get_or w i 0
  pushed-other i p q =
      get_or-set_other (set w (nexts_from f + c) (first f w x)) (firsts_from f + x) i (c + 1) 0 q ∙ get_or-set_other w (nexts_from f + c) i (first f w x) 0 p

  -- and what these two hold
  pushed-next : next f pushed c ≡ first f w x
  pushed-next =
      get_or-set_other (set w (nexts_from f + c) (first f w x)) (firsts_from f + x) (nexts_from f + c) (c + 1) 0 (omega arith)
      ∙ get_or-set_same w (nexts_from f + c) (first f w x) 0 (omega arith)

  pushed-first : first f pushed x ≡ c + 1
  pushed-first = get_or-set_same (set w (nexts_from f + c) (first f w x)) (firsts_from f + x) (c + 1) 0 (simp length-set (omega arith))

  -- the corner is in no chain yet
  absent : (y : ℕ) → y < v → sum (λ d. cond (not (eqb d c)) 0 1) (h.chain y) ≡ 0
  absent y l =
      h.sums y l (λ d. cond (not (eqb d c)) 0 1)
      ∙ sum-none _ (3 * f) (λ d m. cond-none (listed d) (eqb d c) (eqb (corner w d) y) (λ e. rw (eqb-true d c e) free))

  -- so every chain runs on as it was
  still-linked : (y : ℕ) → y < v → Linked f pushed (first f w y) (h.chain y)
  still-linked y l =
      linked-kept f w pushed (λ d. not (eqb d c))
      (λ d m t.
      let apart : d ≢ c = eqb-false d c (not-true (eqb d c) t) in
      pushed-other (nexts_from f + d) (omega arith) (omega arith))
      (first f w y) (h.chain y) (absent y l) (h.linked y l)

  -- but for the one at x, which begins with the corner
  pushed-linked : (y : ℕ) → y < v → Linked f pushed (first f pushed y) (cond (eqb x y) (c ∷ h.chain y) (h.chain y))
  unfolding Linked
  pushed-linked y l =
      by-outcome (λ b. Linked f pushed (first f pushed y) (cond b (c ∷ h.chain y) (h.chain y))) (eqb x y)
      (λ e.
      let same : x ≡ y = eqb-true x y e in
      (ap (first f pushed) (sym same) ∙ pushed-first, c_below, rw (pushed-next ∙ ap (first f w) same) (still-linked y l)))
      (λ e.
      let apart : x ≢ y = eqb-false x y e in
      rw (pushed-other (firsts_from f + y) (omega arith) (omega arith)) (still-linked y l))

  -- the corner counts once more at x
  pushed-sums : (y : ℕ) → y < v → (g : ℕ → ℕ) →
      sum g (cond (eqb x y) (c ∷ h.chain y) (h.chain y))
      ≡ sum (λ d. cond ((listed d || eqb d c) && eqb (corner pushed d) y) (g d) 0) (below (3 * f))
  pushed-sums y l g =
      let old : ℕ → ℕ = λ d. cond (listed d && eqb (corner w d) y) (g d) 0 in
      let one : ℕ → ℕ = λ d. cond (eqb (corner w d) y) (g d) 0 in
      let all : ℕ → ℕ = λ d. cond ((listed d || eqb d c) && eqb (corner pushed d) y) (g d) 0 in
      let new : sum all (below (3 * f)) ≡ sum (λ d. cond (eqb d c) (one d) 0 + old d) (below (3 * f)) =
      sum-same-below _ _ (3 * f) (λ d m.
      rw (pushed-other d (omega arith) (omega arith))
      (cond-apart (listed d) (eqb d c) (eqb (corner w d) y) (g d) (λ e. rw (eqb-true d c e) free))) in
      let single : sum (λ d. cond (eqb d c) (one d) 0) (below (3 * f)) ≡ cond (eqb x y) (g c) 0 =
      sum-single one c (3 * f) c_below ∙ rw at_x in
      one_kept g (eqb x y) c (h.chain y)
      ∙ ap₂ ◌+◌ (sym single) (h.sums y l g)
      ∙ sym (new ∙ sum-add (λ d. cond (eqb d c) (one d) 0) old (below (3 * f)))

  pub chains-push : Chains v f (set (set w (nexts_from f + c) (first f w x)) (firsts_from f + x) (c + 1)) (λ d. listed d || eqb d c)
  chains-push = record { chain = λ y. cond (eqb x y) (c ∷ h.chain y) (h.chain y); linked = pushed-linked; sums = pushed-sums }
