-- The plain walk's loop: where it has come, with the pairs closed on the way counted by reason.
-- Assumes nothing.
use Prim.Native.Nat.{ℕ, ◌+◌}
use mathlib.Core.Path.{◌≡◌, refl, sym, ap, subst, ◌∙◌}
use mathlib.Core.List.{List, [], ◌∷◌, ◌++◌}
use lib.Ieee.{Float}
use Rattle.std.specs.Prelude.{Option}
use Rattle.lists.specs.Lists.{sum}
use Rattle.walk.specs.declared.Closings.{Closings}
use Rattle.walk.specs.declared.Pair.{Pair}
use Rattle.walk.specs.declared.Reason.{Reason}
use Rattle.walk.specs.Closings.{closings_of, none_closed}
use Rattle.walk.specs.Clauses.{with_reason, RoomToCount}
use Rattle.walk.proofs.ClosingLaws.{closings-more}
use Rattle.plainwalk.specs.declared.Step.{Step}
use Rattle.plainwalk.specs.declared.Step.TheVariants.{Folded, Closed, Ended}
use Rattle.plainwalk.specs.Moments.{Moment, noted}
use Rattle.plainwalk.specs.Whole.{WalkedFrom}
use Rattle.plainwalk.proofs.LentLaws.{Holding, Taken, Walking, walking_start, turn-folded, room-closed, turn-closed, walking-end}

-- Where a walk has come from m₀, after n folds, with so many pairs closed for each reason.
pub record Counting {v f : ℕ} (h : Holding v f) (target : ℕ) (limit : Option Float) (bound : Float) (m₀ m : Moment) (n : ℕ) (closed : Closings) : Type 0 where
  pub reasons : List Reason
  pub walking : Walking h target limit bound m₀ m n reasons
  pub counts : closed ≡ closings_of reasons

-- before the first step
pub counting-start : {v f : ℕ} (h : Holding v f) (target : ℕ) (limit : Option Float) (bound : Float) (m : Moment) → h.Held m →
    Counting h target limit bound m m 0 none_closed
unfolding closings_of sum
counting-start h target limit bound m held = record { reasons = []; walking = walking_start h target limit bound m held; counts = refl }

module _ {v f : ℕ} {h : Holding v f} {target : ℕ} {limit : Option Float} {bound : Float} {m₀ m : Moment} {n : ℕ} {closed : Closings}
    (counting : Counting h target limit bound m₀ m n closed) {m' : Moment} {step : Step} (done : Taken h target limit bound m m' step) where
  -- a pair was folded
  pub count-folded : {x : Pair} → step ≡ Folded x → Counting h target limit bound m₀ (noted v f n x m') (n + 1) closed
  count-folded told = record { reasons = counting.reasons; walking = turn-folded counting.walking done told; counts = counting.counts }

  -- a pair was closed: it can be counted, and is
  module _ {x : Pair} {reason : Reason} (told : step ≡ Closed x reason) where
    pub count_room : RoomToCount closed
    count_room = rw counting.counts (room-closed counting.walking done told)

    pub count-closed : {closed' : Closings} → closed' ≡ with_reason closed reason → Counting h target limit bound m₀ m' n closed'
    count-closed more = record {
      reasons = counting.reasons ++ (reason ∷ []);
      walking = turn-closed counting.walking done told;
      counts = more ∙ ap (λ (c : Closings). with_reason c reason) counting.counts ∙ sym (closings-more counting.reasons reason);
    }

  -- at the end it is the plain walk that was walked
  pub counting-end : step ≡ Ended →
      WalkedFrom v f (h.state m₀) m₀.u32s m₀.f32s m₀.f64s target limit bound m'.u32s m'.f32s m'.f64s
      (record { folds = n; closed = closed; live = m'.live })
  counting-end told =
      subst (λ (c : Closings). WalkedFrom v f (h.state m₀) m₀.u32s m₀.f32s m₀.f64s target limit bound m'.u32s m'.f32s m'.f64s
      (record { folds = n; closed = c; live = m'.live })) (sym counting.counts) (walking-end counting.walking done told)
