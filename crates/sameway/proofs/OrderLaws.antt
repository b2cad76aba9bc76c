-- Pushing corners from the last to the first lays the chains in order; and what keeps them so.
-- Assumes nothing.
use Prim.Native.Nat.{ℕ, ◌+◌, ◌*◌, ◌≤◌, ◌<◌}
use native.Mathlib.Omega.{arith}
use mathlib.Core.Path.{◌≡◌, sym, ap, ◌∙◌}
use mathlib.Core.Logic.{◌≢◌, inl, inr}
use mathlib.Core.List.{List}
use lib.Dec.{eqb}
use borrow.Author.Tests.{eqb-true, eqb-false}
use Rattle.lists.specs.Frames.{But}
use Rattle.lists.proofs.TestLaws.{by-test}
use Rattle.memory.specs.Memory.{corner, next, first}
use Rattle.memory.specs.Layout.{firsts_from, kinds_from, nexts_from}
use Rattle.sameway.specs.Order.{NoneAt, Leads, InOrder}

-- ---- where the corners stay

module _ (f : ℕ) (w w' : List ℕ) (same : (d : ℕ) → d < 3 * f → corner w' d ≡ corner w d) where
  none-same : {x lo hi : ℕ} → hi ≤ 3 * f → NoneAt w x lo hi → NoneAt w' x lo hi
  none-same few none d l h at = none d l h (sym (same d (omega arith)) ∙ at)

  -- a link leads where it did
  pub leads-same : {x lo link : ℕ} → Leads f w x lo link → Leads f w' x lo link
  leads-same (inl end) = inl (end.0, none-same (omega arith) end.1)
  leads-same (inr (c, to)) =
      inr (
        c,
        record {
          link-is = to.link-is;
          from = to.from;
          within = to.within;
          at-point = same c to.within ∙ to.at-point;
          none_before = none-same (omega (arith, to.within)) to.none_before;
        },
      )

-- cells above the links change: kinds, marks and what follows them
pub in-order-but : {v f lowest lo hi : ℕ} {w w' : List ℕ} → kinds_from v f ≤ lo → But lo hi w w' → InOrder v f lowest w → InOrder v f lowest w'
in-order-but {v} {f} {lowest} {lo} {hi} {w} {w'} above but h =
    let same : (d : ℕ) → d < 3 * f → corner w' d ≡ corner w d = λ d m. but.under d (omega arith) in
    record {
      firsts = λ x l. rw (but.under (firsts_from f + x) (omega arith)) (leads-same f w w' same (h.firsts x l));
      nexts = λ c low l. rw (but.under (nexts_from f + c) (omega arith), same c l) (leads-same f w w' same (h.nexts c low l));
    }

-- ---- a corner more

-- one more corner below, at another point
module _ (f : ℕ) (w : List ℕ) (x d : ℕ) (other : corner w d ≢ x) where
  none-lower : {hi : ℕ} → NoneAt w x (d + 1) hi → NoneAt w x d hi
  none-lower none k l h at =
      by-test (eqb k d)
      (λ e. other (ap (corner w) (sym (eqb-true k d e)) ∙ at))
      (λ e. let apart : k ≢ d = eqb-false k d e in none k (omega arith) h at)

  leads-lower : {link : ℕ} → Leads f w x (d + 1) link → Leads f w x d link
  leads-lower (inl end) = inl (end.0, none-lower end.1)
  leads-lower (inr (c, to)) =
      inr (c, record { link-is = to.link-is; from = omega (arith, to.from); within = to.within; at-point = to.at-point; none_before = none-lower to.none_before })

-- none is in order where there is no link
pub in-order-none : {v f : ℕ} {w : List ℕ} → ((x : ℕ) → x < v → first f w x ≡ 0) → InOrder v f (3 * f) w
in-order-none firsts = record {
  firsts = λ x l. inl (firsts x l, λ d low h. absurd (omega arith));
  nexts = λ c low l. absurd (omega arith);
}

-- the corner d is pushed at the head of the chain of its point: w' has its link, and the point's; the corners and other links stay
pub in-order-push : {v f d x : ℕ} {w w' : List ℕ} → d < 3 * f → corner w d ≡ x →
    ((k : ℕ) → k < 3 * f → corner w' k ≡ corner w k) →
    ((k : ℕ) → k < 3 * f → k ≢ d → next f w' k ≡ next f w k) → next f w' d ≡ first f w x →
    ((y : ℕ) → y < v → y ≢ x → first f w' y ≡ first f w y) → first f w' x ≡ d + 1 → x < v →
    InOrder v f (d + 1) w → InOrder v f d w'
in-order-push {v} {f} {d} {x} {w} {w'} within at_x same others here other-firsts head x_below h = record {
  firsts = λ y l.
      by-test (eqb y x)
      (λ e.
      let is : y ≡ x = eqb-true y x e in
      inr (
        d,
        record {
          link-is = ap (first f w') is ∙ head;
          from = omega arith;
          within = within;
          at-point = same d within ∙ at_x ∙ sym is;
          none_before = λ k low high. absurd (omega arith);
        },
      ))
      (λ e.
      let apart : y ≢ x = eqb-false y x e in
      rw (other-firsts y l apart) (leads-same f w w' same (leads-lower f w y d (λ at. apart (sym at ∙ at_x)) (h.firsts y l))));
  nexts = λ k low l.
      by-test (eqb k d)
      (λ e.
      let is : k ≡ d = eqb-true k d e in
      rw (is, here, same d within, at_x) (leads-same f w w' same (h.firsts x x_below)))
      (λ e.
      let apart : k ≢ d = eqb-false k d e in
      rw (others k l apart, same k l) (leads-same f w w' same (h.nexts k (omega arith) l)));
}
