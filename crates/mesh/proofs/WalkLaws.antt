-- The walk along a point's chain: what is true at each turn, and why it ends.
-- Assumes nothing.
use Prim.Native.Nat.{ℕ, zero, suc, ◌+◌, ◌-◌, ◌*◌, ◌/◌, ◌≤◌, ◌<◌}
use native.Mathlib.Nat.{zero-add, add-zero}
use native.Mathlib.Numerals.{add-one}
use native.Mathlib.Omega.{arith}
use mathlib.Core.Path.{◌≡◌, refl, sym, ap, ◌∙◌}
use mathlib.Core.Logic.{◌≢◌}
use mathlib.Core.List.{List, [], ◌∷◌}
use mathlib.Core.Bool.{Bool, true, false, ◌&&◌, cond}
use lib.Dec.{eqb}
use lib.ListN.{length, get_or, set}
use lib.Seq.{get_or-set_same, get_or-set_other}
use Rattle.lists.specs.Lists.{sum, below, stretch}
use Rattle.memory.specs.Memory.{corner, next, first, lives, live_at}
use Rattle.lists.specs.Frames.{But}
use Rattle.mesh.specs.Clauses.Chains.{Linked, Tidy}
use Rattle.mesh.specs.Clauses.Around.{Collected}
use Rattle.lists.proofs.SumLaws.{sum-length}
use Rattle.lists.proofs.BelowLaws.{sum_below, sum-same-below, sum_ones, count-below-most}
use Rattle.lists.proofs.FrameLaws.{but-refl, but-then, but-set}
use Rattle.memory.proofs.FrameLaws.{live-at-but}
use Rattle.mesh.proofs.TidyLaws.{around}
use Rattle.mesh.proofs.AroundLaws.{sum-slots, gathered-by}
use Rattle.memory.specs.Layout.{lives_from, nexts_from}

-- ---- along a chain

-- how many corners a chain has from a link on, n at most
pub steps : ℕ → List ℕ → ℕ → ℕ → ℕ
steps f w zero link = 0
steps f w (suc n) zero = 0
steps f w (suc n) (suc c) = suc (steps f w n (next f w c))

-- it is the length of the list
linked-steps : (f : ℕ) (w : List ℕ) (n link : ℕ) (cs : List ℕ) → length cs ≤ n → Linked f w link cs → steps f w n link ≡ length cs
unfolding Linked steps
linked-steps f w zero link [] short h = refl
linked-steps f w zero link (c ∷ cs) short h = absurd (omega arith)
linked-steps f w (suc n) link [] short h = rw h
linked-steps f w (suc n) link (c ∷ cs) short h =
    let e : link ≡ suc c = omega arith in
    rw e (ap suc (linked-steps f w n (next f w c) cs (omega arith) h.2))

-- a chain that goes on from a link: its first corner, and the rest
record Ahead (f : ℕ) (w : List ℕ) (link : ℕ) (cs : List ℕ) : Type 0 where
  rest : List ℕ
  whole : cs ≡ (link - 1) ∷ rest
  inside : link - 1 < 3 * f
  onward : Linked f w (next f w (link - 1)) rest

-- a link that is not 0 names a corner
ahead : (f : ℕ) (w : List ℕ) (link : ℕ) (cs : List ℕ) → link ≢ 0 → Linked f w link cs → Ahead f w link cs
unfolding Linked
ahead f w link [] more h = absurd (more h)
ahead f w link (c ∷ cs) more h =
    let e : link - 1 ≡ c = omega arith in
    record { rest = cs; whole = rw e; inside = rw e h.1; onward = rw e h.2 }

-- one slot more in a list of them
slots-more : (g : ℕ → ℕ) (w : List ℕ) (base n k : ℕ) → base + n < length w →
    sum g (stretch (set w (base + n) k) base (n + 1)) ≡ sum g (stretch w base n) + g k
slots-more g w base n k fits =
    let w' : List ℕ = set w (base + n) k in
    let before : sum (λ i. g (get_or w' (base + i) 0)) (below n) ≡ sum (λ i. g (get_or w (base + i) 0)) (below n) =
    sum-same-below _ _ n (λ i l. ap g (get_or-set_other w (base + n) (base + i) k 0 (omega arith))) in
    let here : g (get_or w' (base + n) 0) ≡ g k = ap g (get_or-set_same w (base + n) k 0 fits) in
    rw add-one (omega (arith, sum-slots g w' base (suc n), sum-slots g w base n, sum_below (λ i. g (get_or w' (base + i) 0)) n))

-- ---- the walk

-- What is listed and what is ahead, together, is what is around the point.
pub record Walk (v f : ℕ) (w₀ : List ℕ) (x base : ℕ) (w : List ℕ) (n link : ℕ) : Type 0 where
  pub left : List ℕ
  pub linked : Linked f w₀ link left
  pub short : length left ≤ 3 * f
  pub but : But base (base + f) w₀ w
  pub sums : (g : ℕ → ℕ) →
      sum g (stretch w base n) + sum (λ c. cond (lives f w₀ (c / 3)) (g (c / 3)) 0) left
      ≡ sum (λ k. cond (live_at f w₀ x k) (g k) 0) (below f)

-- at the start nothing is listed, and the whole chain is ahead
pub start : {v f : ℕ} {w : List ℕ} {x link : ℕ} (base : ℕ) → link ≡ first f w x → Tidy v f w → x < v → Walk v f w x base w 0 link
unfolding sum below
start {v} {f} {w} {x} base link-is t l = record {
  left = t.chains.chain x;
  linked = rw link-is (t.chains.linked x l);
  short =
      omega
      (arith, sum-length (t.chains.chain x), t.chains.sums x l (λ c. 1), count-below-most (λ c. t.listed c && eqb (corner w c) x) (3 * f));
  but = but-refl base (base + f) w;
  sums = λ g. zero-add _ ∙ around t x l g;
}

-- A turn: the walk stands at a link that names a corner. `onward` is the corner's own link, and `flag` says whether its face is live.
module _ {v f : ℕ} {w₀ : List ℕ} {x base : ℕ} {w : List ℕ} {n link : ℕ} (above : 7 * f ≤ base) (more : link ≢ 0)
    (h : Walk v f w₀ x base w n link) where
  next-ahead : Ahead f w₀ link h.left
  next-ahead = ahead f w₀ link h.left more h.linked

  -- the corner is one
  pub inside : link - 1 < 3 * f
  inside = next-ahead.inside

  -- the sums with the corner apart from what is ahead of it
  sums-ahead : (g : ℕ → ℕ) →
      sum g (stretch w base n)
      + (cond (lives f w₀ ((link - 1) / 3)) (g ((link - 1) / 3)) 0 + sum (λ c. cond (lives f w₀ (c / 3)) (g (c / 3)) 0) next-ahead.rest)
      ≡ sum (λ k. cond (live_at f w₀ x k) (g k) 0) (below f)
  unfolding sum
  sums-ahead g = rw next-ahead.whole at (h.sums g)

  module _ {onward : ℕ} (onward-is : onward ≡ next f w (link - 1)) where
    onward-linked : Linked f w₀ onward next-ahead.rest
    onward-linked = rw (onward-is ∙ h.but.under (nexts_from f + (link - 1)) (omega (arith, inside))) next-ahead.onward

    -- the chain gets shorter
    shorter : suc (length next-ahead.rest) ≤ 3 * f
    shorter = omega (arith, ap length next-ahead.whole)

    pub less : steps f w₀ (3 * f) onward < steps f w₀ (3 * f) link
    less =
        omega (
          arith,
          ap length next-ahead.whole,
          linked-steps f w₀ (3 * f) link h.left h.short h.linked,
          linked-steps f w₀ (3 * f) onward next-ahead.rest (omega (arith, shorter)) onward-linked,
        )

    module _ {flag : Bool} (flag_is : flag ≡ lives f w ((link - 1) / 3)) where
      flag-was : flag ≡ lives f w₀ ((link - 1) / 3)
      flag-was = flag_is ∙ ap (λ (n : ℕ). eqb n 1) (h.but.under (lives_from f + (link - 1) / 3) (omega (arith, inside)))

      -- a dead face is passed over
      pub passed : flag ≡ false → Walk v f w₀ x base w n onward
      passed dead = record {
        left = next-ahead.rest;
        linked = onward-linked;
        short = omega (arith, shorter);
        but = h.but;
        sums = λ g. omega (arith, rw (sym flag-was ∙ dead) at (sums-ahead g));
      }

      module _ (alive : flag ≡ true) where
        sums-alive : (g : ℕ → ℕ) →
            sum g (stretch w base n) + (g ((link - 1) / 3) + sum (λ c. cond (lives f w₀ (c / 3)) (g (c / 3)) 0) next-ahead.rest)
            ≡ sum (λ k. cond (live_at f w₀ x k) (g k) 0) (below f)
        sums-alive g = rw (sym flag-was ∙ alive) at (sums-ahead g)

        -- there is room for a live one
        pub some-room : n < f
        some-room = omega (arith, sums-alive (λ k. 1), sum-slots (λ k. 1) w base n, sum_ones n, count-below-most (λ k. live_at f w₀ x k) f)

        -- a live face is listed
        pub noted : base + f ≤ length w₀ → Walk v f w₀ x base (set w (base + n) ((link - 1) / 3)) (n + 1) onward
        noted fits = record {
          left = next-ahead.rest;
          linked = onward-linked;
          short = omega (arith, shorter);
          but = but-then h.but (but-set base (base + f) w (base + n) ((link - 1) / 3) (omega arith) (omega (arith, some-room)));
          sums = λ g. omega (arith, sums-alive g, slots-more g w base n ((link - 1) / 3) (omega (arith, some-room, h.but.same_length)));
        }

-- ---- the end

-- nothing is ahead of link 0
at-end : (f : ℕ) (w : List ℕ) (link : ℕ) (cs : List ℕ) → link ≡ 0 → Linked f w link cs → cs ≡ []
unfolding Linked
at-end f w link [] none h = refl
at-end f w link (c ∷ cs) none h = absurd (omega arith)

module _ {v f : ℕ} {w₀ : List ℕ} {x base : ℕ} {w : List ℕ} {n link : ℕ} (above : 7 * f ≤ base) (none : link ≡ 0)
    (h : Walk v f w₀ x base w n link) where
  all-sums : (g : ℕ → ℕ) → sum g (stretch w base n) ≡ sum (λ k. cond (live_at f w x k) (g k) 0) (below f)
  unfolding sum
  all-sums g =
      sym (add-zero _)
      ∙ (rw (at-end f w₀ link h.left none h.linked) at (h.sums g))
      ∙ sum-same-below _ _ f (λ k l. ap (λ (b : Bool). cond b (g k) 0) (sym (live-at-but h.but (omega arith) k l x)))

  -- so what is listed is what is around the point
  pub collected : Collected v f w₀ x base w n
  collected = record { but = h.but; gathered = gathered-by v f w x base n all-sums }
