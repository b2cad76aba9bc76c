-- Entries put in one after another: what becomes of all is what becomes of each.
-- Assumes nothing.
use Prim.Native.Nat.{ℕ, ◌+◌}
use native.Mathlib.Omega.{arith}
use native.Mathlib.Nat.{add-zero}
use mathlib.Core.Path.{◌≡◌, refl, sym, ap, ap₂, ◌∙◌}
use mathlib.Core.List.{List, [], ◌++◌}
use mathlib.Core.Bool.{true, not, cond}
use Rattle.lists.specs.Lists.{sum, those, every, SameBag}
use Rattle.lists.proofs.SumLaws.{sum-append, sum-those}
use Rattle.lists.proofs.BagLaws.{bag-refl, bag-trans, bag-append}
use Rattle.lists.proofs.EveryLaws.{every-both, every-implies}
use Rattle.memory.specs.declared.entries.Entry.{Entry}
use Rattle.queue.specs.Stored.{is_old, Requeued}
use Rattle.lists.proofs.PartLaws.{sum-failed, sum-passed, sum-parts}

-- nothing is put in, and nothing goes
pub requeued-none : (stamps : List ℕ) (entries : List Entry) → Requeued stamps entries [] entries
unfolding every sum
requeued-none stamps entries = record {
  thrown = [];
  stayed = entries;
  old = refl;
  were = bag-refl;
  are = record { sums = λ g. sym (sum-append g entries [] ∙ add-zero _) };
}

-- where there was none, just the new ones are queued
pub requeued-all : {stamps : List ℕ} {before new after : List Entry} → before ≡ [] → Requeued stamps before new after → SameBag after new
unfolding sum
requeued-all {before = before} {new} none one = record {
  sums = λ g.
      omega (arith, one.are.sums g, sum-append g one.stayed new, one.were.sums g, sum-append g one.thrown one.stayed, ap (sum g) none);
}

-- the new ones may be listed in another order
pub requeued-as : {stamps : List ℕ} {before new new' after : List Entry} → SameBag new new' → Requeued stamps before new after → Requeued stamps before new' after
requeued-as same one = record {
  thrown = one.thrown;
  stayed = one.stayed;
  old = one.old;
  were = one.were;
  are = bag-trans one.are (bag-append {xs = one.stayed} bag-refl same);
}

-- some are put in, and then others, while the first are current still
module _ {stamps : List ℕ} {before new between more after : List Entry} (one : Requeued stamps before new between) (two : Requeued stamps between more after)
    (current : every (λ e. not (is_old stamps e)) new ≡ true) where
  -- what weighs an old one, and what weighs a current one
  where_old : (Entry → ℕ) → Entry → ℕ
  where_old g e = cond (is_old stamps e) (g e) 0

  where_not : (Entry → ℕ) → Entry → ℕ
  where_not g e = cond (not (is_old stamps e)) (g e) 0

  -- of those that stayed at first the current ones stay, and of the old ones those that stay in the end
  still : List Entry
  still = those (λ e. not (is_old stamps e)) one.stayed ++ those (is_old stamps) two.stayed

  still-sum : (g : Entry → ℕ) → sum g still ≡ sum (where_not g) one.stayed + sum (where_old g) two.stayed
  unfolding still where_old where_not
  still-sum g =
      sum-append g (those (λ e. not (is_old stamps e)) one.stayed) (those (is_old stamps) two.stayed)
      ∙ ap₂ ◌+◌ (sum-those g (λ e. not (is_old stamps e)) one.stayed) (sum-those g (is_old stamps) two.stayed)

  -- between the two
  middle : (h : Entry → ℕ) → sum h one.stayed + sum h new ≡ sum h two.thrown + sum h two.stayed
  middle h = sym (sum-append h one.stayed new) ∙ sym (one.are.sums h) ∙ two.were.sums h ∙ sum-append h two.thrown two.stayed

  old-parts : (g : Entry → ℕ) → sum (where_old g) one.stayed ≡ sum g two.thrown + sum (where_old g) two.stayed
  unfolding where_old
  old-parts g = omega (arith, middle (where_old g), sum-failed (is_old stamps) g new current, sum-passed (is_old stamps) g two.thrown two.old)

  current-parts : (g : Entry → ℕ) → sum (where_not g) one.stayed + sum g new ≡ sum (where_not g) two.stayed
  unfolding where_not
  current-parts g =
      omega (
        arith,
        middle (where_not g),
        sum-passed (λ e. not (is_old stamps e)) g new current,
        sum-failed (λ e. not (is_old stamps e)) g two.thrown (every-implies (is_old stamps) (λ e. not (not (is_old stamps e))) (λ e old. rw old) two.thrown two.old),
      )

  parts : (g : Entry → ℕ) (xs : List Entry) → sum g xs ≡ sum (where_not g) xs + sum (where_old g) xs
  unfolding where_old where_not
  parts g xs = sum-parts (is_old stamps) g xs

  pub requeued-then : Requeued stamps before (new ++ more) after
  requeued-then = record {
    thrown = one.thrown ++ two.thrown;
    stayed = still;
    old = every-both (is_old stamps) one.thrown two.thrown one.old two.old;
    were =
        record {
          sums = λ g.
              omega (
                arith,
                one.were.sums g,
                sum-append g one.thrown one.stayed,
                sum-append g (one.thrown ++ two.thrown) still,
                sum-append g one.thrown two.thrown,
                still-sum g,
                parts g one.stayed,
                old-parts g,
              );
        };
    are =
        record {
          sums = λ g.
              omega (
                arith,
                two.are.sums g,
                sum-append g two.stayed more,
                sum-append g still (new ++ more),
                sum-append g new more,
                still-sum g,
                parts g two.stayed,
                current-parts g,
              );
        };
  }
