-- The margin looked at entry by entry: what is known at each, and that the first bad one decides.
use Prim.Native.Nat.{ℕ, ◌+◌, ◌≤◌, ◌<◌}
use native.Mathlib.Omega.{arith}
use mathlib.Core.Path.{◌≡◌, sym}
use mathlib.Core.List.{List}
use mathlib.Core.Bool.{true, false}
use borrow.Author.Count.{below_none, below_more}
use mir.Syntax.{w32}
use mir.Val.{Fits}
use lib.ListN.{length}
use Rattle.lists.specs.Lists.{below}
use Rattle.lists.proofs.BelowLaws.{length-below, get_d-below}
use Rattle.std.specs.Prelude.{Ok, Err}
use Rattle.meaning.specs.declared.Refusal.TheVariants.{BadMargin}
use Rattle.meaning.specs.Answers.{bad_entry, margin_verdict}
use Rattle.meaning.proofs.MarginVerdictLaws.{some_bad, entry-decides, margin-admitted, good-few}
use Rattle.checks.proofs.TestLaws.{none_passes}

module _ (v : ℕ) (margin : List ℕ) where
  -- what is known at entry k: none before it is bad
  pub record Ascends (k : ℕ) : Type 0 where
    pub within : k ≤ length margin
    pub good : (j : ℕ) → j < k → bad_entry v margin j ≡ false

  -- at the first entry
  pub none_seen : Ascends 0
  none_seen = record { within = omega arith; good = below_none (λ j. bad_entry v margin j ≡ false) }

  -- the entry is good: on to the next
  pub one-more-good : {k : ℕ} → Ascends k → k < length margin → bad_entry v margin k ≡ false → Ascends (k + 1)
  one-more-good {k} s h e = record { within = omega arith; good = below_more (λ j. bad_entry v margin j ≡ false) k s.good e }

  -- so many good entries are few, and their number fits
  pub place_fits : {k : ℕ} → Ascends k → v ≤ 65536 → Fits w32 k
  place_fits {k} s few = record { fits = omega (arith, good-few v margin k s.good) }

  -- the entry is bad: 12, at that entry
  pub twelve : {k : ℕ} → Ascends k → k < length margin → bad_entry v margin k ≡ true → Err (BadMargin k) ≡ margin_verdict v margin
  twelve {k} s h e =
      sym
      (entry-decides v margin
      (record {
        within = rw length-below h;
        passes = rw (get_d-below (length margin) k h) e;
        none_before = λ j l. rw (get_d-below (length margin) j (omega arith)) (s.good j l);
      }))

  -- none is
  pub all-good : ((k : ℕ) → k < length margin → bad_entry v margin k ≡ false) → some_bad v margin ≡ false
  all-good good =
      none_passes (bad_entry v margin) 0 (below (length margin))
      (λ k h. let l : k < length margin = rw length-below at h in rw (get_d-below (length margin) k l) (good k l))

  pub margin-passed : {k : ℕ} → Ascends k → length margin ≤ k → Ok tt ≡ margin_verdict v margin
  margin-passed s h = sym (margin-admitted v margin (all-good (λ j l. s.good j (omega arith))))
