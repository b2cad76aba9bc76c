-- Looking at the edges from a point, in the order of their corners: what is true at each turn.
-- Assumes nothing.
use Prim.Native.Nat.{ℕ, ◌+◌, ◌-◌, ◌*◌, ◌/◌, ◌≤◌, ◌<◌}
use native.Mathlib.Omega.{arith}
use mathlib.Core.Path.{◌≡◌, sym, ap, subst, ◌∙◌}
use mathlib.Core.Logic.{◌≢◌, inl, inr}
use mathlib.Core.List.{List}
use mathlib.Core.Bool.{cond}
use lib.Dec.{ltb, eqb}
use lib.ListN.{set}
use lib.Seq.{get_or-set_same, get_or-set_other}
use borrow.Author.Tests.{eqb-true, eqb-false, ltb-true, ltb-false, ne_eqb}
use Rattle.lists.specs.Frames.{But}
use Rattle.lists.proofs.TestLaws.{by-test}
use Rattle.lists.proofs.FrameLaws.{but-refl, but-then, but-set}
use Rattle.memory.specs.Layout.{folds_from, nexts_from}
use Rattle.sameway.specs.Seen.{seen_from, seen}
use Rattle.memory.specs.Memory.{corner, next, first}
use Rattle.sameway.specs.Order.{Leads, LeadsTo}
use Rattle.mesh.proofs.FaceCorners.{corner-below}
use Rattle.sameway.specs.Clauses.{ahead, end_of, New, Ordered, SeenBefore, Looked}
use Rattle.sameway.proofs.EdgeLaws.{ahead_within}

-- what is true at each turn: the corners at x below lo are looked at, their ends are noted, and no two ends are the same
pub record Looking (v f : ℕ) (w₀ : List ℕ) (x : ℕ) (w : List ℕ) (link : ℕ) : Type 0 where
  pub lo : ℕ
  pub few : lo ≤ 3 * f
  pub leads : Leads f w₀ x lo link
  pub but : But (seen_from v f) (folds_from v f) w₀ w
  pub seen-before : SeenBefore v f w (x + 1)
  pub noted : (d : ℕ) → d < lo → corner w₀ d ≡ x → seen v f w (end_of w₀ d) ≡ x + 1
  pub known : (y : ℕ) → y < v → seen v f w y ≡ x + 1 → (d : ℕ) × (d < lo) × (corner w₀ d ≡ x) × (end_of w₀ d ≡ y)
  pub all_new : (d : ℕ) → d < lo → corner w₀ d ≡ x → New w₀ d

-- how far a link is from the end
abbrev pub left : ℕ → ℕ → ℕ
left f link = cond (eqb link 0) 0 (3 * f + 1 - link)

-- a link that leads on from the corner of another is 0, or higher
farther : (f : ℕ) (w : List ℕ) (x link link' : ℕ) → link ≢ 0 → link ≤ 3 * f → Leads f w x (link - 1 + 1) link' → left f link' < left f link
farther f w x link link' more few (inl end) = rw (end.0, ne_eqb link 0 more) (omega arith)
farther f w x link link' more few (inr (c, to)) =
    let above : link' ≢ 0 = λ none. omega (arith, to.link-is) in
    rw (ne_eqb link' 0 above, ne_eqb link 0 more) (omega (arith, to.link-is, to.from, to.within))

module _ {v f : ℕ} {w₀ : List ℕ} {x : ℕ} (ordered : Ordered v f w₀) where
  -- at the start none is
  pub look-start : x < v → SeenBefore v f w₀ x → Looking v f w₀ x w₀ (first f w₀ x)
  look-start x_below before = record {
    lo = 0;
    few = omega arith;
    leads = ordered.in_order.firsts x x_below;
    but = but-refl (seen_from v f) (folds_from v f) w₀;
    seen-before = λ y l. omega (arith, before y l);
    noted = λ d l at. absurd (omega arith);
    known = λ y l at. absurd (omega (arith, before y l));
    all_new = λ d l at. absurd (omega arith);
  }

  -- a link that other 0 leads to the next corner
  onward : {lo link : ℕ} → link ≢ 0 → Leads f w₀ x lo link → LeadsTo f w₀ x lo link (link - 1)
  onward more (inl end) = absurd (more end.0)
  onward {lo} {link} more (inr (c, to)) = let e : link - 1 ≡ c = omega (arith, to.link-is) in rw e to

  -- ---- a turn

  module _ {w : List ℕ} {link : ℕ} (h : Looking v f w₀ x w link) (more : link ≢ 0) where
    to : LeadsTo f w₀ x h.lo link (link - 1)
    to = onward more h.leads

    pub corner-within : link - 1 < 3 * f
    corner-within = to.within

    pub ahead-here : ahead (link - 1) < 3 * f
    ahead-here = ahead_within f (link - 1) to.within

    -- the end of its edge is what it was, and a point
    pub end_is : end_of w (link - 1) ≡ end_of w₀ (link - 1)
    end_is = h.but.under (ahead (link - 1)) (omega (arith, ahead-here))

    pub end_below : end_of w (link - 1) < v
    end_below =
        rw end_is (corner-below v w₀ (ahead (link - 1)) (ordered.faces_proper (ahead (link - 1) / 3) (omega (arith, ahead-here))))

    -- a lower corner at x is one that was looked at
    looked-at : (d : ℕ) → d < link - 1 → corner w₀ d ≡ x → d < h.lo
    looked-at d l at =
        by-test (ltb d h.lo) (λ t. ltb-true d h.lo t) (λ t. absurd (to.none_before d (ltb-false d h.lo t) l at))

    -- its end was noted: it is the lowest with the edge of a lower one
    pub look-found : {end s : ℕ} → end ≡ end_of w (link - 1) → s ≡ seen v f w end → s ≡ x + 1 → Looked v f w₀ x w (link - 1)
    look-found leads read is =
        let seen_here : seen v f w (end_of w (link - 1)) ≡ x + 1 = rw leads at (sym read ∙ is) in
        let (d, low, at, end) = h.known (end_of w₀ (link - 1)) (rw (← end_is) end_below) (rw (← end_is) seen_here) in
        record {
          but = h.but;
          seen-before = h.seen-before;
          most = omega (arith, to.within);
          new-before = λ c l at_x. h.all_new c (looked-at c l at_x) at_x;
          repeated = λ l. (d, omega (arith, to.from), (at ∙ sym to.at-point, end));
        }

    -- it was not: it is noted
    module _ {end s : ℕ} (leads : end ≡ end_of w (link - 1)) (read : s ≡ seen v f w end) (other : s ≢ x + 1) where
      unseen : seen v f w (end_of w (link - 1)) ≢ x + 1
      unseen is = other (read ∙ ap (seen v f w) leads ∙ is)

      abbrev noting : List ℕ
      noting = set w (seen_from v f + end_of w (link - 1)) (x + 1)

      noted_here : seen v f noting (end_of w₀ (link - 1)) ≡ x + 1
      noted_here =
          rw (← end_is) (get_or-set_same w (seen_from v f + end_of w (link - 1)) (x + 1) 0 (omega (arith, end_below, h.but.same_length, ordered.room.long)))

      noted_other : (y : ℕ) → y ≢ end_of w (link - 1) → seen v f noting y ≡ seen v f w y
      noted_other y other = get_or-set_other w (seen_from v f + end_of w (link - 1)) (seen_from v f + y) (x + 1) 0 (omega arith)

      noting-but : But (seen_from v f) (folds_from v f) w₀ noting
      noting-but =
          but-then h.but
          (but-set (seen_from v f) (folds_from v f) w (seen_from v f + end_of w (link - 1)) (x + 1) (omega arith) (omega (arith, end_below)))

      -- the cells of a point, by whether the edge leads there
      by_end : {P : Type 0} (y : ℕ) → (y ≡ end_of w (link - 1) → P) → (y ≢ end_of w (link - 1) → P) → P
      by_end y same other = by-test (eqb y (end_of w (link - 1))) (λ t. same (eqb-true y _ t)) (λ t. other (eqb-false y _ t))

      -- a corner at x up to this one was looked at, or is this one
      by_turn : {P : Type 0} (d : ℕ) → d < link - 1 + 1 → corner w₀ d ≡ x → (d < h.lo → P) → (d ≡ link - 1 → P) → P
      by_turn d l at before here =
          by-test (eqb d (link - 1))
          (λ t. here (eqb-true d (link - 1) t))
          (λ t. let apart : d ≢ link - 1 = eqb-false d (link - 1) t in before (looked-at d (omega arith) at))

      -- the edge is new: the end of a lower one from x was noted
      new-here : New w₀ (link - 1)
      new-here d l same =
          unseen (rw (end_is, ← same.1) (h.noted d (looked-at d l (same.0 ∙ to.at-point)) (same.0 ∙ to.at-point)))

      -- the next link leads on from here
      leads-on : {w' : List ℕ} {link' : ℕ} → w' ≡ noting → link' ≡ next f w' (link - 1) → Leads f w₀ x (link - 1 + 1) link'
      leads-on {w'} {link'} after told =
          let is : link' ≡ next f w₀ (link - 1) = told ∙ (rw after (noting-but.under (nexts_from f + (link - 1)) (omega (arith, to.within)))) in
          rw is (subst (λ y. Leads f w₀ y (link - 1 + 1) (next f w₀ (link - 1))) to.at-point (ordered.in_order.nexts (link - 1) (omega arith) to.within))

      pub look-again : {w' : List ℕ} {link' : ℕ} → w' ≡ set w (seen_from v f + end) (x + 1) → link' ≡ next f w' (link - 1) → Looking v f w₀ x w' link'
      look-again {w'} {link'} written told =
          let after : w' ≡ noting = rw leads at written in
          record {
            lo = link - 1 + 1;
            few = omega (arith, to.within);
            leads = leads-on after told;
            but = rw after noting-but;
            seen-before = λ y l.
                rw after
                (by_end y
                (λ e. omega (arith, ap (seen v f noting) (e ∙ end_is) ∙ noted_here))
                (λ e. omega (arith, noted_other y e, h.seen-before y l)));
            noted = λ d l at.
                rw after
                (by_end (end_of w₀ d)
                (λ e. ap (seen v f noting) (e ∙ end_is) ∙ noted_here)
                (λ e.
                by_turn d l at
                (λ before. noted_other (end_of w₀ d) e ∙ h.noted d before at)
                (λ here. absurd (e (ap (end_of w₀) here ∙ sym end_is)))));
            known = λ y l is.
                by_end y
                (λ e. (link - 1, omega arith, to.at-point, sym (e ∙ end_is)))
                (λ e.
                let (d, low, at, end) = h.known y l (sym (noted_other y e) ∙ (rw after at is)) in
                (d, omega (arith, to.from), at, end));
            all_new = λ d l at. by_turn d l at (λ before. h.all_new d before at) (λ here. rw here new-here);
          }

      -- and the next link leads farther
      pub look-less : {w' : List ℕ} {link' : ℕ} → w' ≡ set w (seen_from v f + end) (x + 1) → link' ≡ next f w' (link - 1) → left f link' < left f link
      look-less {w'} {link'} written told =
          farther f w₀ x link link' more (omega (arith, to.within)) (leads-on (rw leads at written) told)

  -- where the chain ends every corner at x was looked at
  all_seen : {lo link : ℕ} → Leads f w₀ x lo link → link ≡ 0 → (c : ℕ) → c < 3 * f → corner w₀ c ≡ x → c < lo
  all_seen {lo} (inl end) none c l at = by-test (ltb c lo) (λ t. ltb-true c lo t) (λ t. absurd (end.1 c (ltb-false c lo t) l at))
  all_seen (inr (d, to)) none c l at = absurd (omega (arith, to.link-is))

  -- at the end of the chain every edge from x was new
  pub look-end : {w : List ℕ} {link : ℕ} → Looking v f w₀ x w link → link ≡ 0 → Looked v f w₀ x w (3 * f)
  look-end {w} {link} h none = record {
    but = h.but;
    seen-before = h.seen-before;
    most = omega arith;
    new-before = λ c l at. h.all_new c (all_seen h.leads none c l at) at;
    repeated = λ l. absurd (omega arith);
  }
