-- The loops that give each point its kind, and the count of those that are fixed.
-- Assumes nothing.
use Prim.Native.Nat.{ℕ, ◌+◌, ◌≤◌, ◌<◌}
use native.Mathlib.Nat.{le_antisymm}
use native.Mathlib.Numerals.{add-one}
use native.Mathlib.Omega.{arith}
use mathlib.Core.Path.{◌≡◌, refl, sym, ap, ◌∙◌}
use mathlib.Core.List.{List, [], ◌∷◌}
use mathlib.Core.Bool.{Bool, true, ◌&&◌, ◌||◌, cond, or-false}
use mathlib.Mathlib.Data.Bool.Basic.{or_inr}
use borrow.Author.Tests.{eqb-true, eqb-false, ltb-true}
use lib.Dec.{ltb, eqb}
use lib.ListN.{length, get_or, set, take}
use lib.Seq.{get_or-set_same, get_or-set_other, take_all, take-suc}
use borrow.Author.Count.{below_none, below_more}
use mir.Syntax.{w64}
use mir.Val.{Fits}
use Rattle.lists.specs.Lists.{some, sum, count, below}
use Rattle.lists.specs.Frames.{But}
use Rattle.lists.proofs.TestLaws.{by-test}
use Rattle.lists.proofs.EveryLaws.{every-at, some-append}
use Rattle.lists.proofs.BelowLaws.{sum_below, sum-same-below, count-below-most}
use Rattle.lists.proofs.FrameLaws.{but-refl, but-then, but-widen, but-set}
use Rattle.placement.specs.declared.Kind.{Kind}
use Rattle.placement.specs.declared.Kind.TheVariants.{Free, Border, Margin}
use Rattle.placement.specs.Choices.{kind_number, kind_of, fixed}
use Rattle.placement.proofs.PlacementLaws.{kind-back}
use Rattle.walk.specs.declared.Face.{Face}
use Rattle.walk.specs.Faces.{border_point}
use Rattle.meaning.specs.Start.{in_margin, start_kind, fixed_count}
use Rattle.memory.specs.Memory.{Room, live_faces, kind}
use Rattle.memory.specs.Layout.{far_from, kinds_from, marks_from, near_from}
use Rattle.mesh.specs.Clauses.Chains.{Tidy}
use Rattle.mesh.specs.Clauses.Laid.{Kinded}
use Rattle.mesh.proofs.TidyLaws.{tidy-but, tidy-again}
use Rattle.mesh.proofs.AroundLaws.{live-faces-but}
use Rattle.ring.specs.Clauses.Kinds.{NamesPoints, Margined}

-- where kinds alone have changed the memory is as tidy as it was
kinds-tidy : {v f : ℕ} {w w' : List ℕ} → But (kinds_from v f) (marks_from v f) w w' → Tidy v f w → Tidy v f w'
kinds-tidy {v} {f} but t = tidy-again (omega arith) but (λ u m. but.over (marks_from v f + u) (omega arith) ∙ t.unmarked u m) t

-- a point's number fits
pub point-fits : {x v : ℕ} → x < v → v ≤ 65536 → Fits w64 x
point-fits small few = record { fits = omega arith }

-- ---- without a margin

-- a point's kind then
pub unmarked-kind : (v : ℕ) (faces : List Face) (preserve : Bool) (x : ℕ) →
    start_kind v faces preserve [] x ≡ cond (preserve && border_point v faces x) Border Free
unfolding start_kind some
unmarked-kind v faces preserve x = refl

-- The points below x have their kinds.
pub record Kinds (v f : ℕ) (preserve : Bool) (w₀ w : List ℕ) (x : ℕ) : Type 0 where
  pub most : x ≤ v
  pub but : But (kinds_from v f) (far_from v f) w₀ w
  pub tidy : Tidy v f w
  pub kinds : (y : ℕ) → y < x → kind v f w y ≡ kind_number (start_kind v (live_faces f w₀) preserve [] y)

pub kinds-none : {v f : ℕ} (preserve : Bool) {w : List ℕ} → Tidy v f w → Kinds v f preserve w w 0
kinds-none {v} {f} preserve {w} t = record {
  most = omega arith;
  but = but-refl (kinds_from v f) (far_from v f) w;
  tidy = t;
  kinds = below_none (λ y. kind v f w y ≡ kind_number (start_kind v (live_faces f w) preserve [] y));
}

module _ {v f : ℕ} {preserve : Bool} {w₀ w : List ℕ} {x : ℕ} (h : Kinds v f preserve w₀ w x) where
  -- one more point, with the kind k found and its number n written
  module _ {w₁ : List ℕ} {k : Kind} {n : ℕ} (l : x < v) (found : k ≡ cond (preserve && border_point v (live_faces f w) x) Border Free)
      (but₁ : But (near_from v f) (far_from v f) w w₁) (number : n ≡ kind_number k) where
    is-kind : n ≡ kind_number (start_kind v (live_faces f w₀) preserve [] x)
    is-kind =
        number
        ∙ ap kind_number (found ∙ sym (unmarked-kind v (live_faces f w) preserve x))
        ∙ ap (λ (faces : List Face). kind_number (start_kind v faces preserve [] x)) (live-faces-but f h.but (omega arith))

    pub kinds-more : {w₂ : List ℕ} → w₂ ≡ set w₁ (kinds_from v f + x) n → Kinds v f preserve w₀ w₂ (x + 1)
    kinds-more wrote =
        let but₂ = but-set (kinds_from v f) (marks_from v f) w₁ (kinds_from v f + x) n (omega arith) (omega arith) in
        rw wrote
        record {
          most = omega arith;
          but = but-then h.but (but-then (but-widen (omega arith) (omega arith) but₁) (but-widen (omega arith) (omega arith) but₂));
          tidy = kinds-tidy but₂ (tidy-but (omega arith) but₁ h.tidy);
          kinds =
              below_more (λ y. kind v f (set w₁ (kinds_from v f + x) n) y ≡ kind_number (start_kind v (live_faces f w₀) preserve [] y)) x
              (λ y m.
              get_or-set_other w₁ (kinds_from v f + x) (kinds_from v f + y) n 0 (omega arith)
              ∙ but₁.under (kinds_from v f + y) (omega arith)
              ∙ h.kinds y m)
              (get_or-set_same w₁ (kinds_from v f + x) n 0 (omega (arith, h.tidy.room, but₁.same_length)) ∙ is-kind);
        }

  -- all points
  pub kinds-all : v ≤ x → Kinded v f preserve [] w₀ w
  kinds-all least = record { but = h.but; tidy = h.tidy; kinds = λ y l. h.kinds y (omega arith) }

-- ---- the margin

-- The first i entries have their kinds.
pub record Marked (v f : ℕ) (margin w₀ w : List ℕ) (i : ℕ) : Type 0 where
  pub most : i ≤ length margin
  pub done : Margined v f (take i margin) w₀ w

pub marked-none : {v f : ℕ} (margin : List ℕ) {w : List ℕ} → Marked v f margin w w 0
unfolding some
marked-none {v} {f} margin {w} = record { most = omega arith; done = record { but = but-refl (kinds_from v f) (marks_from v f) w; kinds = λ x l. refl } }

-- the entry i is a point
pub entry-below : {v : ℕ} (margin : List ℕ) (i : ℕ) → NamesPoints v margin → i < length margin → get_or margin i 0 < v
entry-below {v} margin i named l = ltb-true (get_or margin i 0) v (every-at (λ x. ltb x v) 0 margin named i l)

-- a point is named by the entries up to i, or by the entry i
named_more : (margin : List ℕ) (i y : ℕ) → i < length margin →
    in_margin (take (i + 1) margin) y ≡ (in_margin (take i margin) y || eqb y (get_or margin i 0))
unfolding some
named_more margin i y l =
    ap (λ (named : List ℕ). in_margin named y) (ap (λ (j : ℕ). take j margin) (add-one i) ∙ take-suc margin i 0 l)
    ∙ some-append (eqb y) (take i margin) (get_or margin i 0 ∷ [])
    ∙ ap (λ (b : Bool). in_margin (take i margin) y || b) (or-false (eqb y (get_or margin i 0)))

module _ {v f : ℕ} {margin w₀ w : List ℕ} {i : ℕ} (room : Room v f w₀) (named : NamesPoints v margin) (h : Marked v f margin w₀ w i) where
  -- one more entry, whose point x gets the margin's number
  pub marked_more : {x n : ℕ} {w' : List ℕ} → i < length margin → x ≡ get_or margin i 0 → n ≡ kind_number Margin → w' ≡ set w (kinds_from v f + x) n →
      Marked v f margin w₀ w' (i + 1)
  marked_more {x} {n} l entry number wrote =
      let small : x < v = rw entry (entry-below margin i named l) in
      let but = but-set (kinds_from v f) (marks_from v f) w (kinds_from v f + x) n (omega arith) (omega arith) in
      rw wrote
      record {
        most = omega arith;
        done = record {
          but = but-then h.done.but but;
          kinds = λ y m.
              by-test (eqb y x)
              (λ t.
              let here : y ≡ x = eqb-true y x t in
              let same : (in_margin (take i margin) y || eqb y (get_or margin i 0)) ≡ true = or_inr (in_margin (take i margin) y) (eqb y (get_or margin i 0)) (rw entry at t) in
              ap (kind v f (set w (kinds_from v f + x) n)) here
              ∙ get_or-set_same w (kinds_from v f + x) n 0 (omega (arith, room, h.done.but.same_length))
              ∙ number
              ∙ sym (rw (named_more margin i y l, same)))
              (λ t.
              let apart : y ≡ x → ⊥ = eqb-false y x t in
              get_or-set_other w (kinds_from v f + x) (kinds_from v f + y) n 0 (omega arith)
              ∙ h.done.kinds y m
              ∙ rw (named_more margin i y l, rw entry at t, or-false));
        };
      }

  -- all entries
  pub marked_all : length margin ≤ i → Margined v f margin w₀ w
  marked_all least = rw (take_all i margin least) at h.done

-- ---- the count

-- whether a point's kind in memory is fixed
abbrev pub held : ℕ → ℕ → List ℕ → ℕ → Bool
held v f w x = fixed (kind_of (kind v f w x))

-- The fixed points below x are counted.
pub record CountedTo (v f : ℕ) (w : List ℕ) (n x : ℕ) : Type 0 where
  pub most : x ≤ v
  pub counted : n ≡ count (held v f w) (below x)

pub counted_none : (v f : ℕ) (w : List ℕ) → CountedTo v f w 0 0
unfolding sum below
counted_none v f w = record { most = omega arith; counted = refl }

module _ {v f : ℕ} {w : List ℕ} {n x : ℕ} (h : CountedTo v f w n x) where
  -- no more than there are
  pub counted-few : n ≤ x
  counted-few = omega (arith, h.counted, count-below-most (held v f w) x)

  -- one more, which is fixed or not
  pub counted-more : {b : Bool} {more : ℕ} → x < v → b ≡ held v f w x → more ≡ n + cond b 1 0 → CountedTo v f w more (x + 1)
  counted-more {b} {more} l is added =
      let one : ◌≡◌ {A = ℕ} (cond b 1 0) (cond (held v f w x) 1 0) = ap (λ (c : Bool). cond c 1 0) is in
      record { most = omega arith; counted = rw add-one (omega (arith, h.counted, sum_below (λ y. cond (held v f w y) 1 0) x)) }

  -- all
  pub counted-all : v ≤ x → n ≡ count (held v f w) (below v)
  counted-all least = let all : x ≡ v = le_antisymm h.most least in h.counted ∙ ap (λ (m : ℕ). count (held v f w) (below m)) all

-- ---- the kinds with a margin

-- the margin's number over the number of a kind without a margin is the kind's number with it
margin-wins : (v : ℕ) (faces : List Face) (preserve : Bool) (margin : List ℕ) (x : ℕ) →
    cond (in_margin margin x) (kind_number Margin) (kind_number (start_kind v faces preserve [] x)) ≡ kind_number (start_kind v faces preserve margin x)
unfolding start_kind some
margin-wins v faces preserve margin x = by-test (in_margin margin x) (λ t. rw t) (λ t. rw t)

module _ {v f : ℕ} {preserve : Bool} {margin w₀ w₁ w₂ : List ℕ} (bordered : Kinded v f preserve [] w₀ w₁) (margined : Margined v f margin w₁ w₂) where
  pub kinds-with-margin : Kinded v f preserve margin w₀ w₂
  kinds-with-margin =
      record {
        but = but-then bordered.but (but-widen (omega arith) (omega arith) margined.but);
        tidy = kinds-tidy margined.but bordered.tidy;
        kinds = λ x l. margined.kinds x l ∙ rw (bordered.kinds x l) (margin-wins v (live_faces f w₀) preserve margin x);
      }

  -- and those counted are the fixed ones
  pub fixed_counted : {n : ℕ} → n ≡ count (held v f w₂) (below v) → n ≡ fixed_count v (live_faces f w₀) preserve margin
  unfolding fixed_count
  fixed_counted e =
      e
      ∙ sum-same-below _ _ v
      (λ x l. ap (λ (k : Kind). cond (fixed k) 1 0) (ap kind_of (kinds-with-margin.kinds x l) ∙ kind-back (start_kind v (live_faces f w₀) preserve margin x)))
