-- The first face that fails, by slots: where the lowest slot is known whose face fails, it is that one, and where one fails, it is in the lowest such slot.
-- Assumes nothing.
use Prim.Native.Nat.{ℕ, zero, suc, ◌<◌}
use native.Mathlib.Nat.{not-suc-le-zero, le_of_suc-le-suc, eq-or-lt_of_le}
use native.Mathlib.Omega.{arith}
use mathlib.Core.Path.{◌≡◌, refl, sym, ap, ap₂, subst, ◌∙◌}
use mathlib.Core.Logic.{◌≢◌, ⊎_elim}
use mathlib.Core.List.{List, [], ◌∷◌, ◌++◌, map}
use mathlib.Core.Bool.{Bool, true, cond}
use Rattle.lists.specs.Lists.{those, below}
use Rattle.lists.proofs.TestLaws.{by-test}
use Rattle.walk.specs.declared.Face.{Face}
use Rattle.walk.specs.declared.Reason.{Reason}
use Rattle.std.specs.Prelude.{⊤, Result, Ok, Err}
use Rattle.walk.specs.FoldTest.{or_else, first_harm}
use Rattle.walk.proofs.FairLaws.{both-allowed}

-- ---- of two answers

or-allowed : (t : Result ⊤ Reason) → or_else t (Ok tt) ≡ t
unfolding or_else
or-allowed (Ok _) = refl
or-allowed (Err reason) = refl

or-after : (t u x : Result ⊤ Reason) → or_else (or_else t u) x ≡ or_else t (or_else u x)
unfolding or_else
or-after (Ok _) u x = refl
or-after (Err reason) u x = refl

or-not : (t u : Result ⊤ Reason) → t ≢ Ok tt → or_else t u ≡ t
unfolding or_else
or-not (Ok _) u not = absurd (not refl)
or-not (Err reason) u not = refl

-- an answer is that it is allowed or not
by-told : {P : Type 0} (t : Result ⊤ Reason) → (t ≡ Ok tt → P) → ((reason : Reason) → t ≡ Err reason → P) → P
by-told (Ok _) passes fails = passes refl
by-told (Err reason) passes fails = fails reason refl

-- ---- of slots, by what is told of each

unfoldable first_in : (ℕ → Result ⊤ Reason) → List ℕ → Result ⊤ Reason
first_in told [] = Ok tt
first_in told (k ∷ ks) = or_else (told k) (first_in told ks)

-- faces in slots, with their slots for numbers
first-slots : (test : ℕ → Face → Result ⊤ Reason) (face : ℕ → Face) (ks : List ℕ) → first_harm test (map face ks) ks ≡ first_in (λ k. test k (face k)) ks
unfolding first_harm first_in
first-slots test face [] = refl
first-slots test face (k ∷ ks) = ap (or_else (test k (face k))) (first-slots test face ks)

first-append : (told : ℕ → Result ⊤ Reason) (xs ys : List ℕ) → first_in told (xs ++ ys) ≡ or_else (first_in told xs) (first_in told ys)
unfolding first_in or_else
first-append told [] ys = refl
first-append told (x ∷ xs) ys = ap (or_else (told x)) (first-append told xs ys) ∙ sym (or-after (told x) (first_in told xs) (first_in told ys))

-- of those that pass a test the first is the first where nothing is told of the others
abbrev only_of : (ℕ → Bool) → (ℕ → Result ⊤ Reason) → ℕ → Result ⊤ Reason
only_of alive told k = cond (alive k) (told k) (Ok tt)

first-those : (alive : ℕ → Bool) (told : ℕ → Result ⊤ Reason) (ks : List ℕ) → first_in told (those alive ks) ≡ first_in (only_of alive told) ks
unfolding first_in those or_else
first-those alive told [] = refl
first-those alive told (k ∷ ks) =
    by-test (alive k)
    (λ a. rw a (ap (or_else (told k)) (first-those alive told ks)))
    (λ a. rw a (first-those alive told ks))

-- ---- of the slots below n

module _ (told : ℕ → Result ⊤ Reason) where
  one_more : (n : ℕ) → first_in told (below (suc n)) ≡ or_else (first_in told (below n)) (told n)
  unfolding below first_in
  one_more n = first-append told (below n) (n ∷ []) ∙ ap (or_else (first_in told (below n))) (or-allowed (told n))

  -- none fails
  none_first : (n : ℕ) → ((k : ℕ) → k < n → told k ≡ Ok tt) → first_in told (below n) ≡ Ok tt
  unfolding below first_in or_else
  none_first zero none = refl
  none_first (suc n) none = one_more n ∙ ap₂ or_else (none_first n (λ k l. none k (omega arith))) (none n (omega arith))

  -- one does, and none below it
  first-at : (n k : ℕ) → k < n → ((j : ℕ) → j < k → told j ≡ Ok tt) → told k ≢ Ok tt → first_in told (below n) ≡ told k
  unfolding or_else
  first-at zero k l none not = absurd (not-suc-le-zero l)
  first-at (suc n) k l none not =
      one_more n
      ∙ ⊎_elim
      (λ e. ap₂ or_else (none_first n (subst (λ (i : ℕ). (j : ℕ) → j < i → told j ≡ Ok tt) e none)) (ap told (sym e)))
      (λ m. ap (λ (t : Result ⊤ Reason). or_else t (told n)) (first-at n k m none not) ∙ or-not (told k) (told n) not)
      (eq-or-lt_of_le (le_of_suc-le-suc l))

  -- the other way round: where none is found, none fails
  none_told : (n : ℕ) → first_in told (below n) ≡ Ok tt → (k : ℕ) → k < n → told k ≡ Ok tt
  none_told zero e k l = absurd (not-suc-le-zero l)
  none_told (suc n) e k l =
      let two = both-allowed (first_in told (below n)) (told n) (sym (one_more n) ∙ e) in
      ⊎_elim (λ (last : k ≡ n). ap told last ∙ two.1) (λ m. none_told n two.0 k m) (eq-or-lt_of_le (le_of_suc-le-suc l))

  -- and where a reason is found, it is told of some slot, and of none below it
  first_found : (n : ℕ) (reason : Reason) → first_in told (below n) ≡ Err reason →
      (k : ℕ) × (k < n) × (told k ≡ Err reason) × ((j : ℕ) → j < k → told j ≡ Ok tt)
  unfolding below first_in or_else
  first_found zero reason e = let z : ◌≡◌ {A = ℕ} 0 1 = cc in absurd (omega arith)
  first_found (suc n) reason e =
      by-told (first_in told (below n))
      (λ none. (n, omega arith, ap (λ (t : Result ⊤ Reason). or_else t (told n)) (sym none) ∙ sym (one_more n) ∙ e, none_told n none))
      (λ other is.
      let before : first_in told (below n) ≡ Err reason = is ∙ ap (λ (t : Result ⊤ Reason). or_else t (told n)) (sym is) ∙ sym (one_more n) ∙ e in
      let (k, small, here, lower) = first_found n reason before in
      (k, omega arith, here, lower))

-- ---- of the live faces

module _ (test : ℕ → Face → Result ⊤ Reason) (face : ℕ → Face) (alive : ℕ → Bool) (n : ℕ) where
  live-first : first_harm test (map face (those alive (below n))) (those alive (below n)) ≡ first_in (only_of alive (λ k. test k (face k))) (below n)
  live-first = first-slots test face (those alive (below n)) ∙ first-those alive (λ k. test k (face k)) (below n)

  -- what is told of a live one that passes, or of one that isn't live
  told_none : (k : ℕ) → (alive k ≡ true → test k (face k) ≡ Ok tt) → only_of alive (λ k. test k (face k)) k ≡ Ok tt
  told_none k passes = by-test (alive k) (λ a. rw a (passes a)) (λ a. rw a)

  -- none fails
  pub live-none : ((k : ℕ) → k < n → alive k ≡ true → test k (face k) ≡ Ok tt) →
      first_harm test (map face (those alive (below n))) (those alive (below n)) ≡ Ok tt
  live-none none = live-first ∙ none_first _ n (λ k l. told_none k (none k l))

  -- the lowest that does
  pub live-lowest : (k : ℕ) → k < n → ((j : ℕ) → j < k → alive j ≡ true → test j (face j) ≡ Ok tt) → alive k ≡ true → test k (face k) ≢ Ok tt →
      first_harm test (map face (those alive (below n))) (those alive (below n)) ≡ test k (face k)
  live-lowest k l none is not =
      let here : only_of alive (λ k. test k (face k)) k ≡ test k (face k) = rw is in
      live-first
      ∙ first-at _ n k l (λ j m. told_none j (none j m)) (λ e. not (sym here ∙ e))
      ∙ here

  -- what is told of a live one, and a reason is told of a live one only
  told-live : (k : ℕ) → only_of alive (λ k. test k (face k)) k ≡ Ok tt → alive k ≡ true → test k (face k) ≡ Ok tt
  told-live k e is = rw is at e

  told-reason : (k : ℕ) (reason : Reason) → only_of alive (λ k. test k (face k)) k ≡ Err reason → (alive k ≡ true) × (test k (face k) ≡ Err reason)
  told-reason k reason e =
      by-test (alive k)
      (λ a. (a, rw a at e))
      (λ a. let none : Ok tt ≡ Err reason = rw a at e in let z : ◌≡◌ {A = ℕ} 0 1 = cc in absurd (omega arith))

  -- the other way round: a reason that is told is that of the lowest live one that fails
  pub live-found : (reason : Reason) → first_harm test (map face (those alive (below n))) (those alive (below n)) ≡ Err reason →
      (k : ℕ) × (k < n) × (alive k ≡ true) × (test k (face k) ≡ Err reason) × ((j : ℕ) → j < k → alive j ≡ true → test j (face j) ≡ Ok tt)
  live-found reason e =
      let (k, small, here, lower) = first_found (only_of alive (λ k. test k (face k))) n reason (sym live-first ∙ e) in
      let is = told-reason k reason here in
      (k, small, is.0, is.1, λ j l. told-live j (lower j l))
