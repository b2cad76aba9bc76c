-- A linked pair whose faces differ in their third points: its fold leaves each way along each edge with one face at most, where it was so before.
-- Assumes nothing.
use Prim.Native.Nat.{ℕ, zero, suc, ◌+◌, ◌≤◌, ◌<◌}
use native.Mathlib.Nat.{le_trans, zero-lt-suc}
use native.Mathlib.Omega.{arith}
use mathlib.Core.Path.{◌≡◌, sym, ◌∙◌}
use mathlib.Core.Logic.{◌≢◌}
use mathlib.Core.List.{List}
use mathlib.Core.Bool.{Bool, true, cond, and_comm}
use lib.Dec.{leb, eqb}
use borrow.Author.Tests.{leb-true, eqb-true, eqb-false}
use Rattle.lists.specs.Lists.{count, every}
use Rattle.lists.proofs.TestLaws.{by-test, both_true, flag-mono}
use Rattle.lists.proofs.SumLaws.{sum-le}
use Rattle.lists.proofs.EveryLaws.{count-mono}
use Rattle.walk.specs.declared.Face.{Face}
use Rattle.walk.specs.declared.Pair.{Pair}
use Rattle.walk.specs.Faces.{holds, both, shared, proper}
use Rattle.walk.specs.Fold.{folded_faces}
use Rattle.walk.specs.FoldTest.{linked}
use Rattle.sameway.specs.Ways.{OneWay, ThirdsDiffer}
use Rattle.walk.proofs.FaceLaws.{held_below}
use Rattle.walk.proofs.FoldLaws.{shared-face, folded-proper}
use Rattle.sameway.proofs.TurnLaws.{Way, way-from, way-to}
use Rattle.sameway.proofs.WayLaws.{no-loops, ways-elsewhere, none-to-remove, none-from-remove, dead, ways-joined}
use Rattle.sameway.proofs.ThirdLaws.{third, third-known, near_of, near-third}

-- of two at most one is left, where one dies if there are two
one_left : (a b dying left : ℕ) → left + dying ≡ a + b → a ≤ 1 → b ≤ 1 → (0 < a → 0 < b → 0 < dying) → left ≤ 1
one_left zero b dying left sums a-once b-once dies = omega arith
one_left (suc a) zero dying left sums a-once b-once dies = omega arith
one_left (suc a) (suc b) dying left sums a-once b-once dies = omega (arith, dies (zero-lt-suc a) (zero-lt-suc b))

module _ (v : ℕ) (faces : List Face) (p : Pair) (all : every (proper v) faces ≡ true) (k_r : p.keep ≢ p.remove)
    (is-linked : linked v faces p.keep p.remove ≡ true) (differ : ThirdsDiffer faces p) where
  -- a way between keep and another point, after the fold: one face at most
  module _ {way : ℕ → ℕ → Face → Bool} (is : Way way) (once : (x y : ℕ) → count (way x y) faces ≤ 1)
      (z : ℕ) (z-k : z ≢ p.keep) (z-r : z ≢ p.remove) where
    -- a face with both and z goes that way between z and one of them, so it is among the dead
    third-dead : count (third p z) faces ≤ count (dead way p z) faces
    third-dead = sum-le (proper v) each faces all
      where
        each : (f : Face) → proper v f ≡ true → cond (third p z f) 1 0 ≤ cond (dead way p z f) 1 0
        each f h =
            flag-mono (third p z f) (dead way p z f)
            (λ t.
            let k = third-known p z f t in
            rw (
              k.holds-both,
              is.third v z p.keep p.remove k_r (λ e. z-k (sym e)) (λ e. z-r (sym e)) f h k.holds-it k.holds-both,
            ))

    -- where z had a face that way with keep and one with remove, it is a common neighbour, so a face with both dies that goes that way too
    one-dies : 0 < count (way z p.keep) faces → 0 < count (way z p.remove) faces → 0 < count (dead way p z) faces
    one-dies with-keep with-remove =
        let (f, h, _, held) = shared-face (proper v) faces p.keep z all (le_trans with-keep (share p.keep)) in
        let is-near = near_of faces p z z-k z-r (le_trans with-keep (share p.keep)) (le_trans with-remove (share p.remove)) in
        le_trans (near-third v faces p all k_r is-linked differ z (held_below v f z h held) is-near) third-dead
      where
        share : (y : ℕ) → count (way z y) faces ≤ shared faces y z
        share y = count-mono (way z y) (both y z) (λ f t. and_comm (holds y f) (holds z f) ∙ is.along z y f t) faces

    -- so one of the two at most is left
    once-at-keep : count (way z p.keep) (folded_faces faces p) ≤ 1
    once-at-keep =
        one_left (count (way z p.keep) faces) (count (way z p.remove) faces) (count (dead way p z) faces) _
        (ways-joined is v faces p all k_r z z-k z-r) (once z p.keep) (once z p.remove) one-dies

  -- keep is a point that there is
  keep-below : p.keep < v
  keep-below =
      let least = leb-true 1 (shared faces p.keep p.remove) (both_true (leb 1 (shared faces p.keep p.remove)) _ is-linked).0 in
      let (f, h, held, _) = shared-face (proper v) faces p.keep p.remove all least in
      held_below v f p.keep h held

  -- so after the fold each edge is run along from one point to the other by one face at most, if it was so before
  pub one-way-folded : OneWay faces → OneWay (folded_faces faces p)
  one-way-folded one x y =
      by-test (eqb x p.remove) (λ t. rw (eqb-true x p.remove t) (omega (arith, none-from-remove faces p k_r y)))
      (λ xr. by-test (eqb y p.remove) (λ t. rw (eqb-true y p.remove t) (omega (arith, none-to-remove faces p k_r x)))
      (λ yr.
      let x_r = eqb-false x p.remove xr in
      let y_r = eqb-false y p.remove yr in
      by-test (eqb x p.keep)
      (λ xk. by-test (eqb y p.keep)
      (λ yk. rw (eqb-true x p.keep xk, eqb-true y p.keep yk) (omega (arith, no-loops v (folded_faces faces p) p.keep (folded-proper v faces p keep-below all))))
      (λ yk. rw (eqb-true x p.keep xk) (once-at-keep way-to (λ m n. one n m) y (eqb-false y p.keep yk) y_r)))
      (λ xk. by-test (eqb y p.keep)
      (λ yk. rw (eqb-true y p.keep yk) (once-at-keep way-from one x (eqb-false x p.keep xk) x_r))
      (λ yk. omega (arith, one x y, ways-elsewhere faces p x y k_r (eqb-false x p.keep xk) x_r (eqb-false y p.keep yk) y_r)))))
