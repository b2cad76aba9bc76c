-- The numbers beside the live faces are the input's: each live face is the input's face of its number, with the points of the folds made joined.
-- Assumes nothing.
use Prim.Native.Nat.{ℕ, zero, suc, ◌<◌}
use native.Mathlib.Nat.{not-suc-le-zero, le_of_suc-le-suc, eq-or-lt_of_le}
use mathlib.Core.Path.{◌≡◌, refl, sym, ap, subst, ◌∙◌}
use mathlib.Core.Logic.{⊎_elim}
use mathlib.Core.List.Memᴰ
use mathlib.Core.List.{List, [], ◌∷◌, ◌++◌, map, append_assoc, append-nil, Memᴰ}
use mathlib.Core.Bool.{Bool, true, not, ◌&&◌}
use Rattle.lists.specs.Lists.{those, beside, below}
use Rattle.lists.proofs.TestLaws.{by-test}
use Rattle.lists.proofs.EveryLaws.{every-all, those-all, those-both, beside-map}
use Rattle.lists.proofs.MemberLaws.{member-those}
use Rattle.walk.specs.declared.Face.{Face}
use Rattle.walk.specs.declared.Pair.{Pair}
use Rattle.walk.specs.Faces.{both, renamed_face, Rules, Mesh}
use Rattle.walk.specs.Fold.{folded_faces, left_numbers, renamed_by, folded_mesh}
use Rattle.walk.specs.Walk.{walk, collected, fold_list, State, StepAnswer, folded, closed, ended, fold_of, answer, after, plain_machine}
use Rattle.walk.proofs.MachineLaws.{step}

-- A mesh after some folds of an input of so many faces: the live numbers rise, and each live face is the input's of its number, with the folds' points joined.
pub record Numbered {D : Type 0} (input : ℕ → Face) (count : ℕ) (m : Mesh D) (folds : List Pair) : Type 0 where
  pub alive : ℕ → Bool
  pub numbers_are : m.numbers ≡ those alive (below count)
  pub faces_are : m.faces ≡ map (λ k. renamed_by folds (input k)) m.numbers

-- ---- one fold more

-- its points are joined last
pub renamed-last : (ps : List Pair) (p : Pair) (f : Face) → renamed_by (ps ++ (p ∷ [])) f ≡ renamed_face p.keep p.remove (renamed_by ps f)
unfolding renamed_by
renamed-last [] p f = refl
renamed-last (q ∷ ps) p f = renamed-last ps p (renamed_face q.keep q.remove f)

-- faces made of numbers: those that pass, given a new name, are made of the numbers left beside them
named-left : (test : Face → Bool) (name : Face → Face) (rule : ℕ → Face) (numbers : List ℕ) →
    map name (those test (map rule numbers)) ≡ map (λ k. name (rule k)) (beside test (map rule numbers) numbers)
unfolding those beside
named-left test name rule [] = refl
named-left test name rule (k ∷ numbers) =
    let rest = named-left test name rule numbers in
    by-test (test (rule k)) (λ t. rw t (ap (λ (fs : List Face). name (rule k) ∷ fs) rest)) (λ t. rw t rest)

-- those that pass a second test of those that pass a first pass both
those-again : (one test : ℕ → Bool) (xs : List ℕ) → those test (those one xs) ≡ those (λ k. one k && test k) xs
those-again one test xs =
    sym (those-both test one (λ k. one k && test k) (λ k. true) (λ k all. refl) xs (every-all (λ k. true) (λ k. refl) xs))

-- a number below another is among the numbers below it, and where it is live, among the live ones
member_below : (n k : ℕ) → k < n → Memᴰ k (below n)
unfolding below
member_below zero k small = absurd (not-suc-le-zero small)
member_below (suc n) k small =
    ⊎_elim (λ (last : k ≡ n). Memᴰ.append_right (below n) (Memᴰ.head last)) (λ l. Memᴰ.append_left (n ∷ []) (member_below n k l))
    (eq-or-lt_of_le (le_of_suc-le-suc small))

pub member-live : (alive : ℕ → Bool) (n k : ℕ) → k < n → alive k ≡ true → Memᴰ k (those alive (below n))
member-live alive n k small is = member-those alive (below n) k (member_below n k small) is

module _ {D : Type 0} (rules : Rules D) (input : ℕ → Face) (count : ℕ) where
  -- ---- at the start

  -- the input's own faces, numbered from 0
  pub start-numbered : (m : Mesh D) → m.faces ≡ map input (below count) → m.numbers ≡ below count → Numbered input count m []
  unfolding renamed_by
  start-numbered m faces numbers =
      record { alive = λ k. true; numbers_are = numbers ∙ sym (those-all (below count)); faces_are = faces ∙ ap (map input) (sym numbers) }

  -- ---- after a step

  -- after a fold
  fold-numbered : (m : Mesh D) (folds : List Pair) (p : Pair) → Numbered input count m folds → Numbered input count (folded_mesh rules m p) (folds ++ (p ∷ []))
  unfolding folded_mesh folded_faces left_numbers
  fold-numbered m folds p was =
      let test : Face → Bool = λ f. not (both p.keep p.remove f) in
      let rule : ℕ → Face = λ k. renamed_by folds (input k) in
      let left = beside test (map rule m.numbers) m.numbers in
      let same : beside test m.faces m.numbers ≡ left = ap (λ (fs : List Face). beside test fs m.numbers) was.faces_are in
      record {
        alive = λ k. was.alive k && test (rule k);
        numbers_are =
            same ∙ beside-map test rule m.numbers ∙ ap (those (λ k. test (rule k))) was.numbers_are
            ∙ those-again was.alive (λ k. test (rule k)) (below count);
        faces_are =
            ap (λ (fs : List Face). map (renamed_face p.keep p.remove) (those test fs)) was.faces_are
            ∙ named-left test (renamed_face p.keep p.remove) rule m.numbers
            ∙ (λ t. map (λ k. sym (renamed-last folds p (input k)) t) left)
            ∙ ap (map (λ k. renamed_by (folds ++ (p ∷ [])) (input k))) (sym same);
      }

  -- whatever the answer
  after-numbered : (s : State D) (folds : List Pair) (a : StepAnswer) → Numbered input count s.mesh folds →
      Numbered input count (after rules s a).mesh (folds ++ fold_of a)
  unfolding after fold_of
  after-numbered s folds (folded p) was = fold-numbered s.mesh folds p was
  after-numbered s folds (closed p reason) was = rw (append-nil folds) was
  after-numbered s folds ended was = rw (append-nil folds) was

  -- ---- after any number of steps

  module _ (target : ℕ) where
    -- with folds made before
    walk-numbered-from : (n : ℕ) (s : State D) (folds : List Pair) → Numbered input count s.mesh folds →
        Numbered input count (walk (plain_machine rules target) n s).mesh (folds ++ fold_list (plain_machine rules target) n s)
    unfolding walk collected
    walk-numbered-from zero s folds was = rw (append-nil folds) was
    walk-numbered-from (suc n) s folds was =
        let next = step (plain_machine rules target) s in
        subst (λ (made : List Pair). Numbered input count (walk (plain_machine rules target) n next).mesh made)
        (append_assoc folds (fold_of (answer rules target s)) (fold_list (plain_machine rules target) n next))
        (walk-numbered-from n next (folds ++ fold_of (answer rules target s)) (after-numbered s folds (answer rules target s) was))

    -- with none
    pub walk-numbered : (n : ℕ) (s : State D) → Numbered input count s.mesh [] →
        Numbered input count (walk (plain_machine rules target) n s).mesh (fold_list (plain_machine rules target) n s)
    walk-numbered n s was = walk-numbered-from n s [] was
