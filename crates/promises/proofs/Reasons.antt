-- Why pairs were closed: every reason that the walk gives is true of the mesh at its step, its face number is the input's, each reason counted is that of
-- some step, and where nothing was folded the counts sum to the pairs opened at the start.
-- Assumes nothing.
use Prim.Native.Nat.{ℕ, ◌+◌, ◌<◌}
use native.Mathlib.Omega.{arith}
use mathlib.Core.Path.{◌≡◌, refl, sym, ap, subst, ◌∙◌}
use mathlib.Core.Logic.{◌≢◌, ⊎_elim}
use mathlib.Core.List.{List, map, Memᴰ}
use mathlib.Core.Bool.{Bool, true, false}
use borrow.Author.Tests.{eqb-true, ltb-true}
use lib.Dec.{ltb, eqb}
use lib.ListN.{length}
use Rattle.placement.specs.declared.pair.Vertex.{Vertex}
use Rattle.lists.specs.Lists.{those, below}
use Rattle.lists.proofs.TestLaws.{by-test, both_true}
use Rattle.lists.proofs.MemberLaws.{those-member, member-map}
use Rattle.walk.specs.declared.Closings.{Closings}
use Rattle.walk.specs.declared.Face.{Face}
use Rattle.walk.specs.declared.Pair.{Pair}
use Rattle.walk.specs.declared.Reason.{Reason}
use Rattle.std.specs.Prelude.{Ok, Err}
use Rattle.walk.specs.Faces.{face_at, Mesh}
use Rattle.walk.specs.FoldTest.{linked, harm, first_harm, face_test}
use Rattle.walk.specs.Walk.{closed, ended, started, reason_of, plain_machine}
use Rattle.walk.proofs.MachineLaws.{collected-step}
use Rattle.walk.proofs.StepLaws.{answer-closed, reason-answer, ended-open}
use Rattle.walk.proofs.ClosingLaws.{sum-of-closings}
use Rattle.walk.proofs.WalkLaws.{walk-tries, walk-unfolded}
use Rattle.walk.proofs.FairLaws.{harmless, harmed-why, not-allowed}
use Rattle.walk.proofs.FirstLaws.{live-found}
use Rattle.walk.proofs.NumberLaws.{Numbered, member-live, start-numbered, walk-numbered}
use Rattle.std.specs.Prelude.{Ok, Err}
use Rattle.meaning.specs.declared.Refusal.{Refusal}
use Rattle.meaning.specs.declared.Task.TheVariants.{Copied, Admitted}
use Rattle.meaning.specs.Input.{Input, faces_in}
use Rattle.meaning.specs.Answers.{Verdict, verdict_of}
use Rattle.meaning.specs.Arithmetic.{rules_of, squashed_points, turned_points}
use Rattle.meaning.specs.Start.{start_mesh}
use Rattle.meaning.specs.Outcome.{rules_in, start_of, target_of, folds_walked, closed_walked, stuck, fixed_in, outcome, outcome_by}
use Rattle.walk.specs.Closings.{none_closed}
use Rattle.promises.specs.Steps.{state_at, answer_at, folds_to, reasons_to, budget_of, faces_at}
use Rattle.promises.specs.Fair.{holds_one}
use Rattle.promises.specs.Reasons.{face_now, numbers_at, squashes, turns_over, LowestHarmed, linked_at, ReasonTrue}
use Rattle.promises.proofs.Refused.{early, late-stuck}
use Rattle.promises.proofs.Ended.{start-faces, start-count, states-points, walk-has-ended}

-- ---- the numbers are the input's

-- at the start
start-numbers : (i : Input) → (start_of i).mesh.numbers ≡ below (faces_in i)
unfolding start_of started start_mesh
start-numbers i = refl

-- after n steps
numbered : (i : Input) (n : ℕ) → Numbered (face_at i.faces) (faces_in i) (state_at i n).mesh (folds_to i n)
numbered i n =
    walk-numbered (rules_in i) (face_at i.faces) (faces_in i) (target_of i) n (start_of i)
    (start-numbered (rules_in i) (face_at i.faces) (faces_in i) (start_of i).mesh (start-faces i) (start-numbers i))

-- the live numbers, of all that the input has
abbrev live_numbers : Input → ℕ → List ℕ
live_numbers i n = those (numbered i n).alive (below (faces_in i))

-- The live numbers are some of the input's face numbers, in rising order, and the live faces are the input's of these numbers, with the folds' points joined.
pub numbered-at : (i : Input) (n : ℕ) →
    (alive : ℕ → Bool) × (numbers_at i n ≡ those alive (below (faces_in i))) × (faces_at i n ≡ map (face_now i n) (numbers_at i n))
numbered-at i n = let are = numbered i n in (are.alive, are.numbers_are, are.faces_are)

-- so the face of each live number is live
pub face-of-live : (i : Input) (n k : ℕ) → Memᴰ k (numbers_at i n) → Memᴰ (face_now i n k) (faces_at i n)
face-of-live i n k live = rw (numbered-at i n).2 (member-map (face_now i n) (numbers_at i n) k live)

-- a number is live where it is among them
number-is-live : (i : Input) (n k : ℕ) → k < faces_in i → (numbered i n).alive k ≡ true → Memᴰ k (numbers_at i n)
number-is-live i n k small live =
    subst (λ (ks : List ℕ). Memᴰ k ks) (sym (numbered i n).numbers_are) (member-live (numbered i n).alive (faces_in i) k small live)

live-is-number : (i : Input) (n k : ℕ) → Memᴰ k (numbers_at i n) → (numbered i n).alive k ≡ true
live-is-number i n k there =
    (those-member (numbered i n).alive (below (faces_in i)) k (subst (λ (ks : List ℕ). Memᴰ k ks) (numbered i n).numbers_are there)).1

-- ---- each reason is true

module _ (i : Input) (n : ℕ) (p : Pair) where
  -- what the fold test tells of the input's face of a number: the two tests of its normals, where it holds just one of the two
  told_is :
      (k : ℕ) → face_test (rules_in i) (state_at i n).mesh p k (face_now i n k) ≡ harm k (holds_one p (face_now i n k)) (squashes i n p k) (turns_over i n p k)
  unfolding face_test rules_of squashed_points turned_points
  told_is k = refl

  -- what the fold test tells of the faces, by the numbers that are live
  told-first :
      first_harm (face_test (rules_in i) (state_at i n).mesh p) (faces_at i n) (numbers_at i n)
      ≡ first_harm (face_test (rules_in i) (state_at i n).mesh p) (map (face_now i n) (live_numbers i n)) (live_numbers i n)
  told-first =
      let test = face_test (rules_in i) (state_at i n).mesh p in
      ap (λ (fs : List Face). first_harm test fs (numbers_at i n)) (numbered i n).faces_are
      ∙ ap (λ (ks : List ℕ). first_harm test (map (face_now i n) ks) ks) (numbered i n).numbers_are

  -- a live face that holds just one of the two, with none harmed below it
  lowest-harmed :
      (k : ℕ) → k < faces_in i → (numbered i n).alive k ≡ true → holds_one p (face_now i n k) ≡ true
      → ((j : ℕ) → j < k → (numbered i n).alive j ≡ true → face_test (rules_in i) (state_at i n).mesh p j (face_now i n j) ≡ Ok tt)
      → LowestHarmed i n p k
  lowest-harmed k small live one lower =
      record {
        is_live = number-is-live i n k small live;
        face_live = face-of-live i n k (number-is-live i n k small live);
        holds_just_one = one;
        none-lower =
            λ j less there asked.
            harmless j (holds_one p (face_now i n j)) (squashes i n p j) (turns_over i n p j) (sym (told_is j) ∙ lower j less (live-is-number i n j there)) asked;
      }

  -- so a reason that the faces give, where the points are linked, is that of the lowest face harmed
  harmed-true :
      (reason : Reason) → linked_at i n p ≡ true → first_harm (face_test (rules_in i) (state_at i n).mesh p) (faces_at i n) (numbers_at i n) ≡ Err reason
      → ReasonTrue i n p reason
  harmed-true reason are-linked e =
      let (k, small, live, here, lower) =
      live-found (face_test (rules_in i) (state_at i n).mesh p) (face_now i n) (numbered i n).alive (faces_in i) reason (sym told-first ∙ e) in
      let (one, why) = harmed-why k (holds_one p (face_now i n k)) (squashes i n p k) (turns_over i n p k) reason (sym (told_is k) ∙ here) in
      let lowest = lowest-harmed k small live one lower in
      ⊎_elim
      (λ (squashed, is). subst (ReasonTrue i n p) is (are-linked, lowest, squashed))
      (λ (not_squashed, turned, is). subst (ReasonTrue i n p) is (are-linked, lowest, not_squashed, turned))
      why

-- A pair that was closed after n steps was closed for what is so there.
pub reason-true : (i : Input) → verdict_of i ≡ Ok Admitted → (n : ℕ) (p : Pair) (reason : Reason) → answer_at i n ≡ closed p reason → ReasonTrue i n p reason
reason-true i admitted n p reason e =
    let same : linked_at i n p ≡ linked (length (state_at i n).mesh.points) (faces_at i n) p.keep p.remove =
    ap (λ (v : ℕ). linked v (faces_at i n) p.keep p.remove) (sym (states-points i admitted n)) in
    ⊎_elim
    (λ (apart, is). subst (ReasonTrue i n p) is (same ∙ apart))
    (λ (are-linked, harmed). harmed-true i n p reason (same ∙ are-linked) harmed)
    (not-allowed (rules_in i) (state_at i n).mesh p reason (answer-closed (rules_in i) (target_of i) (state_at i n) p reason e).1)

-- ---- each reason counted is that of a step

-- every reason of the first n steps is the answer of one of them
pub reasons-are-steps :
    (i : Input) (n : ℕ) (reason : Reason) → Memᴰ reason (reasons_to i n)
    → (k : ℕ) × (k < n) × (p : Pair) × (answer_at i k ≡ closed p reason)
reasons-are-steps i n reason m =
    let (k, small, there) = collected-step (plain_machine (rules_in i) (target_of i)) reason_of n (start_of i) reason m in
    let (p, is) = reason-answer (answer_at i k) reason there in
    (k, small, p, is)

-- ---- how many

-- before its end the walk tries one pair at each step, and folds it or closes it
pub tried-counted : (i : Input) (n : ℕ) → ((k : ℕ) → k < n → answer_at i k ≢ ended) → length (folds_to i n) + length (reasons_to i n) ≡ n
tried-counted i n on = walk-tries (rules_in i) (target_of i) n (start_of i) on

-- the counts of the answer sum to the number of pairs closed
pub counts-sum : (i : Input) → (closed_walked i).unlinked + (closed_walked i).squashed + (closed_walked i).turned ≡ length (reasons_to i (budget_of i))
unfolding closed_walked
counts-sum i = sum-of-closings (reasons_to i (budget_of i))

-- where nothing was folded, they sum to the number of pairs opened at the start: each was tried and closed, as no pair is open at the end
pub counts-say-why : (i : Input) → verdict_of i ≡ Ok Admitted → stuck i ≡ true →
    (closed_walked i).unlinked + (closed_walked i).squashed + (closed_walked i).turned ≡ length (start_of i).«open»
unfolding folds_walked
counts-say-why i admitted is_stuck =
    let two = both_true (eqb (length (folds_walked i)) 0) (ltb (target_of i) (faces_in i)) is_stuck in
    let none : length (folds_to i (budget_of i)) ≡ 0 = eqb-true (length (folds_walked i)) 0 two.0 in
    let still = walk-unfolded (rules_in i) (target_of i) (budget_of i) (start_of i) none in
    let as_many : length (faces_at i (budget_of i)) ≡ faces_in i = ap (λ (m : Mesh Vertex). length m.faces) still.0 ∙ start-count i in
    let above : target_of i < length (faces_at i (budget_of i)) = rw as_many (ltb-true (target_of i) (faces_in i) two.1) in
    let no-open : length (state_at i (budget_of i)).«open» ≡ 0 =
    ap length (ended-open (rules_in i) (target_of i) (state_at i (budget_of i)) (walk-has-ended i admitted) above) in
    omega (arith, counts-sum i, still.1, no-open)

-- ---- the counts in the answer

-- none where the input is refused, which `early-none` of Refused.antt says by its number, or copied
pub closed-zero-refused : (i : Input) {r : Refusal} → verdict_of i ≡ Err r → (outcome i).answer.closed ≡ none_closed
unfolding outcome outcome_by
closed-zero-refused i e = ap (λ (d : Verdict). (outcome_by d i).answer.closed) e

pub closed-zero-copied : (i : Input) → verdict_of i ≡ Ok Copied → (outcome i).answer.closed ≡ none_closed
unfolding outcome outcome_by
closed-zero-copied i e = ap (λ (d : Verdict). (outcome_by d i).answer.closed) e

-- and those of the walk where it is admitted, whatever the number of the answer
pub closed-walked : (i : Input) → verdict_of i ≡ Ok Admitted → (outcome i).answer.closed ≡ closed_walked i
unfolding outcome outcome_by
closed-walked i e =
    ap (λ (d : Verdict). (outcome_by d i).answer.closed) e
    ∙ by-test (stuck i) (λ t. by-test (ltb 0 (fixed_in i)) (λ b. rw (t, b)) (λ b. rw (t, b))) (λ t. rw t)

-- so where the answer is 10 or 11 its three counts sum to the number of pairs opened at the start, each of which was tried
pub answer-says-why : (i : Input) → early (outcome i).answer.number ≡ false → (outcome i).answer.number ≢ 0 →
    (let closed = (outcome i).answer.closed in closed.unlinked + closed.squashed + closed.turned) ≡ length (start_of i).«open»
answer-says-why i late other =
    let is = late-stuck i late other in
    ap (λ (c : Closings). c.unlinked + c.squashed + c.turned) (closed-walked i is.0) ∙ counts-say-why i is.0 is.1
