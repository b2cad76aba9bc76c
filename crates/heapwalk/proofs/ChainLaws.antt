-- The heap walk's chain: it grows at its end, it goes the way of the plain walk, and so its end is the plain walk's.
-- Assumes nothing.
use Prim.Native.Nat.{ℕ, suc, ◌+◌}
use native.Mathlib.Nat.{add_assoc, add-zero, zero-add}
use native.Mathlib.Omega.{arith}
use mathlib.Core.Path.{◌≡◌, refl, sym, ap, subst, ◌∙◌}
use mathlib.Core.List.{List, [], ◌∷◌, ◌++◌, append_assoc, append-nil}
use lib.Ieee.{Float}
use lib.ListN.{length, length-append}
use Rattle.std.specs.Prelude.{Option}
use Rattle.lists.specs.Lists.{sum, below}
use Rattle.walk.specs.declared.Pair.{Pair}
use Rattle.walk.specs.declared.Closings.{Closings}
use Rattle.walk.specs.declared.Reason.{Reason}
use Rattle.walk.specs.Closings.{closings_of, none_closed}
use Rattle.walk.specs.Clauses.{with_reason, RoomToCount}
use Rattle.walk.specs.Walk.{StepAnswer, fold_of, reason_of}
use Rattle.walk.proofs.ClosingLaws.{closings-more}
use Rattle.memory.specs.Entries.{folds_in}
use Rattle.plainwalk.specs.declared.Step.{Step}
use Rattle.plainwalk.specs.declared.Step.TheVariants.{Folded, Closed, Ended}
use Rattle.plainwalk.specs.declared.Walked.{Walked}
use Rattle.plainwalk.specs.Steps.{answer_of}
use Rattle.plainwalk.specs.Moments.{Moment, noted}
use Rattle.plainwalk.specs.Whole.{WalkedFrom}
use Rattle.plainwalk.proofs.LentLaws.{Walking, walking_start, room-folded, turn-folded, room-closed, turn-closed, walking-end}
use Rattle.plainwalk.proofs.NoteLaws.{folds-length, folds-same, folds-more}
use Rattle.queue.specs.State.{heap_state}
use Rattle.heapwalk.specs.Chain.{told_in, folds_told, reasons_told, HeldAt, StepAt, Link, Chain, ChainFrom}
use Rattle.heapwalk.proofs.HoldLaws.{by_heap, heap-step}

-- one answer more is told at the end
pub told_more : {X : Type 0} (tells : StepAnswer → List X) (steps : List Step) (step : Step) →
    told_in tells (steps ++ (step ∷ [])) ≡ told_in tells steps ++ tells (answer_of step)
unfolding told_in
told_more tells [] step = append-nil (tells (answer_of step))
told_more {X} tells (first ∷ steps) step =
    ap (λ (rest : List X). tells (answer_of first) ++ rest) (told_more tells steps step)
    ∙ sym (append_assoc (tells (answer_of first)) (told_in tells steps) (tells (answer_of step)))

-- one more, before or after
one_more : (n k : ℕ) → n + 1 + k ≡ n + suc k
one_more n k = omega arith

module _ (v f target : ℕ) (limit : Option Float) (bound : Float) where
  -- a link more, at the end
  pub chain_more : (n : ℕ) (m : Moment) (steps : List Step) (m' : Moment) (step : Step) (m'' : Moment) →
      Chain v f target limit bound n m steps m' → Link v f target limit bound (n + length (folds_told steps)) m' step m'' →
      Chain v f target limit bound n m (steps ++ (step ∷ [])) m''
  unfolding Chain told_in
  chain_more n m [] m' step m'' same link =
      (m'', subst (λ (k : ℕ). Link v f target limit bound k m step m'') (add-zero n) (subst (λ (x : Moment). Link v f target limit bound (n + 0) x step m'') same link), refl)
  chain_more n m (first ∷ steps) m' step m'' (next, one, rest) link =
      let told = fold_of (answer_of first) in (
        next,
        one,
        chain_more (n + length told) next steps m' step m'' rest
            (subst (λ (k : ℕ). Link v f target limit bound k m' step m'')
            (ap (λ (k : ℕ). n + k) (length-append told (folds_told steps)) ∙ sym (add_assoc n (length told) (length (folds_told steps)))) link),
      )

  -- it goes the way of the plain walk
  pub chain-walking : (n : ℕ) (reasons : List Reason) (m₀ m : Moment) (steps : List Step) (m' : Moment) → Walking (by_heap v f bound) target limit bound m₀ m n reasons →
      Chain v f target limit bound n m steps m' →
      Walking (by_heap v f bound) target limit bound m₀ m' (n + length (folds_told steps)) (reasons ++ reasons_told steps)
  unfolding Chain told_in fold_of reason_of
  chain-walking n reasons m₀ m [] m' walking same =
      rw (add-zero n, append-nil reasons) (subst (λ (x : Moment). Walking (by_heap v f bound) target limit bound m₀ x n reasons) (sym same) walking)
  chain-walking n reasons m₀ m (Folded x ∷ steps) m' walking (next, link, rest) =
      let step = heap-step link.done in
      let turned =
      subst (λ (k : Moment). Walking (by_heap v f bound) target limit bound m₀ k (n + 1) reasons) (sym link.written) (turn-folded walking step refl) in
      subst (λ (k : ℕ). Walking (by_heap v f bound) target limit bound m₀ m' k (reasons ++ reasons_told steps)) (one_more n (length (folds_told steps)))
      (chain-walking (n + 1) reasons m₀ next steps m' turned rest)
  chain-walking n reasons m₀ m (Closed x reason ∷ steps) m' walking (next, link, rest) =
      let step = heap-step link.done in
      let turned =
      subst (λ (k : Moment). Walking (by_heap v f bound) target limit bound m₀ k n (reasons ++ (reason ∷ []))) (sym link.written)
      (turn-closed walking step refl) in
      subst (λ (rs : List Reason). Walking (by_heap v f bound) target limit bound m₀ m' (n + length (folds_told steps)) rs)
      (append_assoc reasons (reason ∷ []) (reasons_told steps))
      (chain-walking n (reasons ++ (reason ∷ [])) m₀ next steps m' turned (rw (add-zero n) at rest))
  chain-walking n reasons m₀ m (Ended ∷ steps) m' walking (next, link, rest) = absurd (link.on refl)

  -- so where it ends, the plain walk has been walked
  pub chain-walked : (m : Moment) {w' : List ℕ} {p' q' : List Float} {r : Walked} → HeldAt v f target limit bound m →
      ChainFrom v f target limit bound m w' p' q' r →
      WalkedFrom v f (heap_state v f m.u32s m.f32s m.f64s m.pairs) m.u32s m.f32s m.f64s target limit bound w' p' q' r
  chain-walked m {w'} {p'} {q'} {r} held done =
      let walking = chain-walking 0 [] m m done.steps done.last (walking_start (by_heap v f bound) target limit bound m held) done.chain in
      let over = walking-end walking (heap-step done.end) refl in
      subst (λ (c : Closings). WalkedFrom v f (heap_state v f m.u32s m.f32s m.f64s m.pairs) m.u32s m.f32s m.f64s target limit bound w' p' q'
      (record { folds = r.folds; closed = c; live = r.live })) (sym done.closed-told)
      (subst (λ (k : ℕ). WalkedFrom v f (heap_state v f m.u32s m.f32s m.f64s m.pairs) m.u32s m.f32s m.f64s target limit bound w' p' q'
      (record { folds = k; closed = closings_of (reasons_told done.steps); live = r.live }))
      (zero-add (length (folds_told done.steps)) ∙ sym done.counted) over)

  -- ---- the loop

  -- Where the loop has come from m₀, after n folds: a chain leads there, it goes the way of the plain walk, the folds told on it are written down, and the
  -- reasons told on it are counted.
  pub record Chaining (m₀ m : Moment) (n : ℕ) (closed : Closings) : Type 0 where
    pub steps : List Step
    pub walking : Walking (by_heap v f bound) target limit bound m₀ m n (reasons_told steps)
    pub chain : Chain v f target limit bound 0 m₀ steps m
    pub listed : folds_in v f m.u32s n ≡ folds_told steps
    pub counts : closed ≡ closings_of (reasons_told steps)

  -- before the first step
  pub chaining-start : (m : Moment) → HeldAt v f target limit bound m → Chaining m m 0 none_closed
  unfolding Chain told_in folds_in below closings_of sum
  chaining-start m held =
      record { steps = []; walking = walking_start (by_heap v f bound) target limit bound m held; chain = refl; listed = refl; counts = refl }

module _ {v f target : ℕ} {limit : Option Float} {bound : Float} {m₀ m : Moment} {n : ℕ} {closed : Closings}
    (chaining : Chaining v f target limit bound m₀ m n closed) where
  -- as many folds were told as are written down
  told-length : n ≡ length (folds_told chaining.steps)
  told-length = sym (folds-length v f m.u32s n) ∙ ap length chaining.listed

  module _ {step : Step} {m' : Moment} (done : StepAt v f target limit bound m step m') where
    -- the folds before the step stay written
    still-listed : folds_in v f m'.u32s n ≡ folds_told chaining.steps
    still-listed =
        folds-same v f m.u32s m'.u32s n (λ i low high. done.tied.within.but.over i low) ∙ chaining.listed

    -- a pair is folded, and written down
    pub chaining-folded : {x : Pair} → step ≡ Folded x → Chaining v f target limit bound m₀ (noted v f n x m') (n + 1) closed
    unfolding fold_of reason_of
    chaining-folded {x} told =
        let taken = heap-step done in
        let room = room-folded chaining.walking taken told in
        let reasons : reasons_told (chaining.steps ++ (Folded x ∷ [])) ≡ reasons_told chaining.steps =
        told_more reason_of chaining.steps (Folded x) ∙ append-nil (reasons_told chaining.steps) in
        record {
          steps = chaining.steps ++ (Folded x ∷ []);
          walking = rw reasons (turn-folded chaining.walking taken told);
          chain =
              chain_more v f target limit bound 0 m₀ chaining.steps m (Folded x) (noted v f n x m') chaining.chain
              (record {
                held = chaining.walking.going.holds;
                on = λ e. let z : ◌≡◌ {A = ℕ} 0 1 = cc e in omega arith;
                stepped = m';
                done = subst (λ (s : Step). StepAt v f target limit bound m s m') told done;
                written = ap (λ (k : ℕ). noted v f k x m') (told-length ∙ sym (zero-add (length (folds_told chaining.steps))));
              });
          listed =
              folds-more m'.u32s n x.keep x.remove room.0 room.1
              ∙ ap (λ (ps : List Pair). ps ++ (x ∷ [])) still-listed
              ∙ sym (told_more fold_of chaining.steps (Folded x));
          counts = chaining.counts ∙ ap closings_of (sym reasons);
        }

    -- a pair is closed, and counted
    module _ {x : Pair} {reason : Reason} (told : step ≡ Closed x reason) where
      pub chaining-room : RoomToCount closed
      chaining-room = rw chaining.counts (room-closed chaining.walking (heap-step done) told)

      pub chaining-closed : {closed' : Closings} → closed' ≡ with_reason closed reason → Chaining v f target limit bound m₀ m' n closed'
      unfolding fold_of reason_of
      chaining-closed more =
          let reasons : reasons_told (chaining.steps ++ (Closed x reason ∷ [])) ≡ reasons_told chaining.steps ++ (reason ∷ []) =
          told_more reason_of chaining.steps (Closed x reason) in
          record {
            steps = chaining.steps ++ (Closed x reason ∷ []);
            walking = rw reasons (turn-closed chaining.walking (heap-step done) told);
            chain =
                chain_more v f target limit bound 0 m₀ chaining.steps m (Closed x reason) m' chaining.chain
                (record {
                  held = chaining.walking.going.holds;
                  on = λ e. let z : ◌≡◌ {A = ℕ} 0 1 = cc e in omega arith;
                  stepped = m';
                  done = subst (λ (s : Step). StepAt v f target limit bound m s m') told done;
                  written = refl;
                });
            listed = still-listed ∙ sym (append-nil (folds_told chaining.steps)) ∙ sym (told_more fold_of chaining.steps (Closed x reason));
            counts =
                more ∙ ap (λ (c : Closings). with_reason c reason) chaining.counts ∙ sym (closings-more (reasons_told chaining.steps) reason)
                ∙ ap closings_of (sym reasons);
          }

    -- at the end the chain is whole
    pub chaining-end : step ≡ Ended → ChainFrom v f target limit bound m₀ m'.u32s m'.f32s m'.f64s (record { folds = n; closed = closed; live = m'.live })
    chaining-end told =
        record {
          steps = chaining.steps;
          last = m;
          chain = chaining.chain;
          held = chaining.walking.going.holds;
          left = m'.pairs;
          end = subst (λ (s : Step). StepAt v f target limit bound m s m') told done;
          folds-told = still-listed;
          counted = told-length;
          closed-told = chaining.counts;
        }
