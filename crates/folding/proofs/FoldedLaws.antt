-- The steps of a fold, one after another, leave the folded faces, each listed at its points.
-- Assumes nothing.
use Prim.Native.Nat.{ℕ, ◌+◌, ◌*◌, ◌/◌, ◌≤◌, ◌<◌}
use native.Mathlib.Omega.{arith}
use mathlib.Core.Path.{◌≡◌, refl, sym, ap, ap₂, ◌∙◌}
use mathlib.Core.Logic.{◌≢◌, inl}
use mathlib.Core.List.{List, [], ◌∷◌, map}
use mathlib.Core.Bool.{Bool, true, false, not, ◌&&◌, ◌||◌, cond, and-false}
use mathlib.Mathlib.Data.Bool.Basic.{and_elim_left, and_elim_right}
use lib.Dec.{ltb, eqb}
use lib.ListN.{length, set}
use borrow.Author.Tests.{eqb-true, ne_eqb, lt-ltb, ltb-true, le-ltb}
use Rattle.walk.specs.declared.Face.{Face}
use Rattle.lists.specs.Lists.{count, those, every, some, below, stretch}
use Rattle.walk.specs.Faces.{holds, both, renamed, renamed_face, proper, face_at}
use Rattle.walk.specs.Fold.{folded_faces, left_numbers}
use Rattle.lists.proofs.TestLaws.{by-test, flag-le}
use Rattle.lists.proofs.EveryLaws.{every-head, every-tail, every-implies, some-count, those-both, beside-map}
use Rattle.lists.proofs.BelowLaws.{all-below, sum-pick, sum-same-below}
use Rattle.lists.proofs.SumLaws.{sum_same}
use Rattle.walk.proofs.FaceLaws.{renamed-proper}
use Rattle.memory.specs.Memory.{corner, lives, live_faces, live_numbers, Room, live_at}
use Rattle.lists.specs.Frames.{But}
use Rattle.mesh.specs.Clauses.Chains.{Chains, Tidy}
use Rattle.mesh.specs.Clauses.Around.{Gathered}
use Rattle.lists.proofs.FrameLaws.{but-then, but-set, but-widen}
use Rattle.mesh.proofs.ChainLaws.{chains-keep, chains-listed, chains-drop}
use Rattle.lists.proofs.CondLaws.{cond-swap, cond-and}
use Rattle.mesh.proofs.AroundLaws.{gathered-sums}
use Rattle.ring.proofs.SlotLaws.{slots-but}
use Rattle.folding.specs.Clauses.Steps.{in_turn, killed, relisted}
use Rattle.folding.specs.Clauses.Folds.{FacesFolded}
use Rattle.folding.proofs.TurnLaws.{turn-but}
use Rattle.folding.proofs.KillLaws.{killed-but, kill-lives}
use Rattle.folding.proofs.CornerLaws.{corner-same, corner-found}
use Rattle.folding.proofs.RelistLaws.{Relisted, Once, picks, relisted-all, relisted-as}
use Rattle.memory.specs.Layout.{firsts_from, kinds_from, lives_from, marks_from, nexts_from}

-- ---- a list of gathered faces

module _ {v f : ℕ} {w : List ℕ} {x base n : ℕ} (g : Gathered v f w x base n) where
  -- its slots are slots
  pub gathered-inside : every (λ k. ltb k f) (stretch w base n) ≡ true
  gathered-inside =
      every-implies (λ k. ltb k f && live_at f w x k) (λ k. ltb k f) (λ k h. and_elim_left (ltb k f) (live_at f w x k) h) (stretch w base n) g.slots_live

  -- a slot is in it once, if it is one and its face is live and holds the point
  times : (k : ℕ) → count (λ j. eqb j k) (stretch w base n) ≡ cond (ltb k f) (cond (live_at f w x k) 1 0) 0
  times k =
      g.sums (λ j. cond (eqb j k) 1 0)
      ∙ sum-same-below _ _ f (λ j m. cond-swap (live_at f w x j) (eqb j k) 1)
      ∙ sum-pick (λ j. cond (live_at f w x j) 1 0) k f

  gathered-once : Once (stretch w base n)
  gathered-once k =
      by-test (ltb k f) (λ e. rw (times k, e) (flag-le (live_at f w x k))) (λ e. rw (times k, e) (omega arith))

  gathered-is : (k : ℕ) → k < f → some (λ j. eqb j k) (stretch w base n) ≡ live_at f w x k
  gathered-is k l = some-count (λ j. eqb j k) (stretch w base n) ∙ rw (times k, lt-ltb k f l) (counted (live_at f w x k))
    where
      counted : (b : Bool) → ltb 0 (cond b 1 0) ≡ b
      counted true = lt-ltb 0 1 (omega arith)
      counted false = le-ltb 0 0 (omega arith)

-- ---- the faces that are left

-- those that pass, and are changed
kept-changed : (test : Face → Bool) (change : Face → Face) (alive alive' good : ℕ → Bool) (face face' : ℕ → Face) →
    ((k : ℕ) → good k ≡ true → alive' k ≡ (alive k && test (face k))) →
    ((k : ℕ) → good k ≡ true → alive' k ≡ true → face' k ≡ change (face k)) →
    (ks : List ℕ) → every good ks ≡ true → map face' (those alive' ks) ≡ map change (those test (map face (those alive ks)))
unfolding those
kept-changed test change alive alive' good face face' tests faces [] all = refl
kept-changed test change alive alive' good face face' tests faces (k ∷ ks) all =
    let here = every-head good k ks all in
    let rest = kept-changed test change alive alive' good face face' tests faces ks (every-tail good k ks all) in
    by-test (alive k)
    (λ a. by-test (test (face k))
    (λ t.
    let lives_on : alive' k ≡ true = tests k here ∙ rw (a, t) in
    rw (lives_on, a, t) (ap₂ ◌∷◌ (faces k here lives_on) rest))
    (λ t. rw (tests k here, a, t) rest))
    (λ a. rw (tests k here, a) rest)

-- ---- the faces that hold both are killed, and the chains of both points dropped

-- No corner at keep or remove is listed; the others are as they were.
pub record Dropped (v f : ℕ) (w : List ℕ) (keep remove : ℕ) (listed : ℕ → Bool) (w' : List ℕ) : Type 0 where
  pub but : But 0 (kinds_from v f) w w'
  pub lives_on : (k : ℕ) → k < f → lives f w' k ≡ (lives f w k && not (both keep remove (face_at w k)))
  pub corners : (c : ℕ) → c < 3 * f → corner w' c ≡ corner w c
  pub chains : Chains v f w' (λ c. (listed c && not (eqb (corner w c) keep)) && not (eqb (corner w c) remove))

-- a face of the list that holds remove holds both
kill-both : (l a b : Bool) → (l && not ((l && a) && b)) ≡ (l && not (a && b))
kill-both true a b = refl
kill-both false a b = refl

pub dropped : {v f : ℕ} {w : List ℕ} {keep remove near n : ℕ} {w₁ w₂ w₃ : List ℕ} (t : Tidy v f w) → keep < v → remove < v →
    Gathered v f w keep near n → w₁ ≡ in_turn (killed f remove) (stretch w near n) w →
    w₂ ≡ set w₁ (firsts_from f + keep) 0 → w₃ ≡ set w₂ (firsts_from f + remove) 0 → Dropped v f w keep remove t.listed w₃
dropped {v} {f} {w} {keep} {remove} {near} {n} {w₁} {w₂} {w₃} t keep-v remove-v g killing first-drop then-drop =
    let room = t.room in
    let inside = gathered-inside g in
    let but₁ : But (3 * f) (4 * f) w w₁ = rw killing (turn-but (killed f remove) f (killed-but f remove) (stretch w near n) w inside) in
    let but₂ : But (7 * f) (kinds_from v f) w₁ w₂ = rw first-drop (but-set (7 * f) (kinds_from v f) w₁ (firsts_from f + keep) 0 (omega arith) (omega arith)) in
    let but₃ : But (7 * f) (kinds_from v f) w₂ w₃ = rw then-drop (but-set (7 * f) (kinds_from v f) w₂ (firsts_from f + remove) 0 (omega arith) (omega arith)) in
    let long₁ = but₁.same_length in
    let long₂ = but₂.same_length in
    let after : (k : ℕ) → k < f → lives f w₁ k ≡ (lives f w k && not (some (λ j. eqb j k) (stretch w near n) && holds remove (face_at w k))) =
    λ k l. rw killing (kill-lives f remove (stretch w near n) w inside (omega arith) k l) in
    let chains₁ : Chains v f w₁ t.listed =
    chains-keep v f w w₁ t.listed t.listed
    (λ c l. but₁.over (nexts_from f + c) (omega arith)) (λ x l. but₁.over (firsts_from f + x) (omega arith)) (λ c l x. rw (but₁.under c (omega arith)))
    t.chains in
    let chains₂ : Chains v f w₂ (λ c. t.listed c && not (eqb (corner w₁ c) keep)) =
    rw first-drop (chains-drop v f w₁ t.listed keep keep-v (omega arith) chains₁) in
    let chains₃ : Chains v f w₃ (λ c. (t.listed c && not (eqb (corner w₁ c) keep)) && not (eqb (corner w₂ c) remove)) =
    rw then-drop (chains-drop v f w₂ (λ c. t.listed c && not (eqb (corner w₁ c) keep)) remove remove-v (omega arith) chains₂) in
    record {
      but = but-then (but-widen (omega arith) (omega arith) but₁) (but-then (but-widen (omega arith) (omega arith) but₂) (but-widen (omega arith) (omega arith) but₃));
      lives_on = λ k l.
          ap (λ (i : ℕ). eqb i 1) (but₃.under (lives_from f + k) (omega arith) ∙ but₂.under (lives_from f + k) (omega arith))
          ∙ after k l
          ∙ rw (gathered-is g k l) (kill-both (lives f w k) (holds keep (face_at w k)) (holds remove (face_at w k)));
      corners = λ c l. but₃.under c (omega arith) ∙ but₂.under c (omega arith) ∙ but₁.under c (omega arith);
      chains =
          chains-listed v f w₃ (λ c. (t.listed c && not (eqb (corner w₁ c) keep)) && not (eqb (corner w₂ c) remove))
          (λ c. (t.listed c && not (eqb (corner w c) keep)) && not (eqb (corner w c) remove))
          (λ c l. rw (but₂.under c (omega arith), but₁.under c (omega arith)))
          chains₃;
    }

-- ---- a list of gathered faces picks, in the faces that are left, the corners at its point

pub picks-are : {v f : ℕ} {w : List ℕ} {x base n : ℕ} (u : List ℕ) → Tidy v f w → Gathered v f w x base n →
    ((c : ℕ) → c < 3 * f → corner u c ≡ corner w c) → ((k : ℕ) → k < f → lives f u k ≡ true → lives f w k ≡ true) →
    (c : ℕ) → c < 3 * f → picks f x (stretch w base n) u c ≡ (lives f u (c / 3) && eqb (corner w c) x)
picks-are {v} {f} {w} {x} {base} {n} u t g corners alive c l =
    by-test (lives f u (c / 3))
    (λ e.
    let lived = alive (c / 3) (omega arith) e in
    let found = corner-found v w x c (t.faces_proper (c / 3) (omega arith) lived) in
    let same = corner-same w u (c / 3) x (λ d at. corners d (omega arith)) in
    rw (gathered-is g (c / 3) (omega arith), e, lived, same) found)
    (λ e. rw e (and-false (some (λ k. eqb k (c / 3)) (stretch w base n))))

-- the list stays while only faces and links change, and has what listing it again asks
pub may-relist : {v f : ℕ} {w u : List ℕ} {x base n new : ℕ} → Room v f w → new < v → Gathered v f w x base n → But 0 (kinds_from v f) w u →
    kinds_from v f ≤ base → base + f ≤ length w →
    (every (λ k. ltb k f) (stretch u base n) ≡ true) × ((firsts_from f + new < base) × (base + n ≤ length u) × (f ≤ 131072))
may-relist {base = base} {n} room new-v g but above within = (
  rw (slots-but but base n (inl above)) (gathered-inside g),
  (omega arith, omega (arith, but.same_length, g.few), room.faces_few),
)

-- so these are the corners that are listed again
pub again : {v f new : ℕ} {w u u' : List ℕ} {x base n : ℕ} → Tidy v f w → new < v → Gathered v f w x base n → But 0 (kinds_from v f) w u → kinds_from v f ≤ base →
    ((c : ℕ) → c < 3 * f → corner u c ≡ corner w c) → ((k : ℕ) → k < f → lives f u k ≡ true → lives f w k ≡ true) →
    u' ≡ in_turn (relisted f x new) (stretch u base n) u → Relisted v f new (λ c. lives f u (c / 3) && eqb (corner w c) x) u u'
again {v} {f} {new} {w} {u} {u'} {x} {base} {n} t new-v g but above corners alive e =
    relisted-as (picks-are u t g corners alive)
    (rw (e, slots-but but base n (inl above))
    (relisted-all new-v x (stretch w base n) u (gathered-inside g) (gathered-once g) (omega (arith, but.same_length, t.room))))

-- a corner that is put where it is
stays : (b : Bool) (x y : ℕ) → cond (b && eqb x y) y x ≡ x
stays true x y = by-test (eqb x y) (λ e. rw e (sym (eqb-true x y e))) (λ e. rw e)
stays false x y = refl

-- ---- the faces around keep, and those around remove

module _ {v f : ℕ} {w : List ℕ} {keep remove : ℕ} {w₃ : List ℕ} (t : Tidy v f w) (keep-v : keep < v) (d : Dropped v f w keep remove t.listed w₃) where
  lived-then : (k : ℕ) → k < f → lives f w₃ k ≡ true → lives f w k ≡ true
  lived-then k l e = and_elim_left (lives f w k) (not (both keep remove (face_at w k))) (sym (d.lives_on k l) ∙ e)

  pub near_again : {near n : ℕ} {w₄ : List ℕ} → Gathered v f w keep near n → kinds_from v f ≤ near →
      w₄ ≡ in_turn (relisted f keep keep) (stretch w₃ near n) w₃ →
      Relisted v f keep (λ c. lives f w₃ (c / 3) && eqb (corner w c) keep) w₃ w₄
  near_again g above = again t keep-v g d.but above d.corners lived-then

  pub far-again : {far m : ℕ} {w₄ w₅ : List ℕ} → Gathered v f w remove far m → kinds_from v f ≤ far →
      Relisted v f keep (λ c. lives f w₃ (c / 3) && eqb (corner w c) keep) w₃ w₄ →
      w₅ ≡ in_turn (relisted f remove keep) (stretch w₄ far m) w₄ →
      Relisted v f keep (λ c. lives f w₃ (c / 3) && eqb (corner w c) remove) w₄ w₅
  far-again {far} {m} {w₄} {w₅} g above near e =
      relisted-as (λ c l. rw (near.lives_same (c / 3) (omega arith)))
      (again t keep-v g (but-then d.but near.but) above
      (λ c l. near.corners c l ∙ rw (d.corners c l) (stays (lives f w₃ (c / 3)) (corner w c) keep))
      (λ k l alive. lived-then k l (sym (near.lives_same k l) ∙ alive))
      e)

-- ---- all steps

-- a corner at keep is listed no more, and one at remove
unlisted-keep : (l b : Bool) → ((l && false) && b) ≡ false
unlisted-keep true b = refl
unlisted-keep false b = refl

unlisted-remove : (l s : Bool) → (((l && true) && false) || (s && false)) ≡ false
unlisted-remove true true = refl
unlisted-remove true false = refl
unlisted-remove false true = refl
unlisted-remove false false = refl

-- but in a live face each is listed again
listed-again : (a b : Bool) → ((((true && not a) && not b) || (true && a)) || (true && b)) ≡ true
listed-again true b = refl
listed-again false true = refl
listed-again false false = refl

module _ {v f : ℕ} {w : List ℕ} {keep remove : ℕ} {w₃ w₄ w₅ : List ℕ} (t : Tidy v f w) (keep-v : keep < v) (apart : keep ≢ remove)
    (d : Dropped v f w keep remove t.listed w₃)
    (near : Relisted v f keep (λ c. lives f w₃ (c / 3) && eqb (corner w c) keep) w₃ w₄)
    (far : Relisted v f keep (λ c. lives f w₃ (c / 3) && eqb (corner w c) remove) w₄ w₅) where
  -- which faces are left
  still : (k : ℕ) → k < f → lives f w₅ k ≡ lives f w₃ k
  still k l = far.lives_same k l ∙ near.lives_same k l

  left : (k : ℕ) → k < f → lives f w₅ k ≡ (lives f w k && not (both keep remove (face_at w k)))
  left k l = still k l ∙ d.lives_on k l

  lived : (k : ℕ) → k < f → lives f w₅ k ≡ true → lives f w k ≡ true
  lived k l e = and_elim_left (lives f w k) (not (both keep remove (face_at w k))) (sym (left k l) ∙ e)

  -- and their points
  renamed-corner : (c : ℕ) → c < 3 * f → lives f w₅ (c / 3) ≡ true → corner w₅ c ≡ renamed keep remove (corner w c)
  renamed-corner c l e =
      far.corners c l
      ∙ rw (near.corners c l, d.corners c l, stays (lives f w₃ (c / 3)) (corner w c) keep, sym (still (c / 3) (omega arith)) ∙ e)

  renamed-face : (k : ℕ) → k < f → lives f w₅ k ≡ true → face_at w₅ k ≡ renamed_face keep remove (face_at w k)
  renamed-face k l e =
      let first : 3 * k / 3 ≡ k = omega arith in
      let second : (3 * k + 1) / 3 ≡ k = omega arith in
      let third : (3 * k + 2) / 3 ≡ k = omega arith in
      rw (
        renamed-corner (3 * k) (omega arith) (rw first e),
        renamed-corner (3 * k + 1) (omega arith) (rw second e),
        renamed-corner (3 * k + 2) (omega arith) (rw third e),
      )

  -- the chains
  abbrev listed' : ℕ → Bool
  listed' c =
      (((t.listed c && not (eqb (corner w c) keep)) && not (eqb (corner w c) remove)) || (lives f w₃ (c / 3) && eqb (corner w c) keep))
      || (lives f w₃ (c / 3) && eqb (corner w c) remove)

  chains' : Chains v f w₅ listed'
  chains' =
      far.chains
      (λ c. ((t.listed c && not (eqb (corner w c) keep)) && not (eqb (corner w c) remove)) || (lives f w₃ (c / 3) && eqb (corner w c) keep))
      (λ c l e.
      let here = and_elim_right (lives f w₃ (c / 3)) (eqb (corner w c) remove) e in
      let elsewhere : eqb (corner w c) keep ≡ false = ne_eqb (corner w c) keep (λ p. apart (sym p ∙ eqb-true (corner w c) remove here)) in
      rw (here, elsewhere) (unlisted-remove (t.listed c) (lives f w₃ (c / 3))))
      (near.chains (λ c. (t.listed c && not (eqb (corner w c) keep)) && not (eqb (corner w c) remove))
      (λ c l e.
      rw (and_elim_right (lives f w₃ (c / 3)) (eqb (corner w c) keep) e) (unlisted-keep (t.listed c) (not (eqb (corner w c) remove))))
      d.chains)

  pub folded : {near-at n gone : ℕ} → Gathered v f w keep near-at n →
      gone ≡ count (λ k. holds remove (face_at w k)) (stretch w near-at n) → FacesFolded v f w keep remove w₅ gone
  unfolding live_faces folded_faces left_numbers
  folded {near-at} {n} {gone} g counting =
      let but : But 0 (kinds_from v f) w w₅ = but-then d.but (but-then near.but far.but) in
      record {
        but = but;
        tidy = record {
          room = omega (arith, but.same_length, t.room);
          faces_proper = λ k l e.
              ap (proper v) (renamed-face k l e)
              ∙ renamed-proper keep remove v keep-v (face_at w k) (t.faces_proper k l (lived k l e))
              (and_elim_right (lives f w k) (not (both keep remove (face_at w k))) (sym (left k l) ∙ e));
          listed = listed';
          chains = chains';
          live_listed = λ c l e.
              rw (sym (still (c / 3) (omega arith)) ∙ e, t.live_listed c l (lived (c / 3) (omega arith) e))
              (listed-again (eqb (corner w c) keep) (eqb (corner w c) remove));
          unmarked = λ x l. but.over (marks_from v f + x) (omega arith) ∙ t.unmarked x l;
        };
        same_faces =
            kept-changed (λ p. not (both keep remove p)) (renamed_face keep remove) (lives f w) (lives f w₅) (λ k. ltb k f) (face_at w) (face_at w₅)
            (λ k l. left k (ltb-true k f l)) (λ k l. renamed-face k (ltb-true k f l)) (below f) (all-below f);
        same_numbers =
            those-both (λ k. not (both keep remove (face_at w k))) (lives f w) (lives f w₅) (λ k. ltb k f) (λ k l. left k (ltb-true k f l)) (below f) (all-below f)
            ∙ sym (beside-map (λ p. not (both keep remove p)) (face_at w) (live_numbers f w));
        counted =
            counting
            ∙ gathered-sums g (λ p. cond (holds remove p) 1 0)
            ∙ sum_same _ _ (λ p. sym (cond-and (holds keep p) (holds remove p) 1)) (live_faces f w);
      }
