-- What is in a list, in those of it that pass a test, and in a list made from it.
-- Assumes nothing.
use mathlib.Core.Path.{◌≡◌, refl, ap, sym, ◌∙◌}
use mathlib.Core.Logic.{⊎_elim}
use mathlib.Core.List.Memᴰ
use mathlib.Core.List.{List, [], ◌∷◌, map, Memᴰ}
use mathlib.Core.Bool.{Bool, true}
use Rattle.lists.specs.Lists.{those, every}
use Rattle.lists.proofs.TestLaws.{by-test}
use Rattle.lists.proofs.EveryLaws.{every-head, every-tail}

module _ {A : Type 0} where
  -- what every one passes, one that is there passes
  pub member-passes : (test : A → Bool) (xs : List A) (x : A) → every test xs ≡ true → Memᴰ x xs → test x ≡ true
  member-passes test [] x all m = absurd (Memᴰ.not-nil m)
  member-passes test (y ∷ xs) x all m =
      ⊎_elim (λ (e : x ≡ y). ap test e ∙ every-head test y xs all) (λ r. member-passes test xs x (every-tail test y xs all) r) (Memᴰ.cases_cons m)

  -- one that is there and passes is among those that pass
  pub member-those : (test : A → Bool) (xs : List A) (x : A) → Memᴰ x xs → test x ≡ true → Memᴰ x (those test xs)
  unfolding those
  member-those test [] x m t = absurd (Memᴰ.not-nil m)
  member-those test (y ∷ xs) x m t =
      ⊎_elim
      (λ (e : x ≡ y). rw (sym (ap test e) ∙ t) (Memᴰ.head e))
      (λ r. let rest = member-those test xs x r t in by-test (test y) (λ b. rw b (Memᴰ.tail rest)) (λ b. rw b rest))
      (Memᴰ.cases_cons m)

  -- and back
  pub those-member : (test : A → Bool) (xs : List A) (x : A) → Memᴰ x (those test xs) → Memᴰ x xs × (test x ≡ true)
  unfolding those
  those-member test [] x m = absurd (Memᴰ.not-nil m)
  those-member test (y ∷ xs) x m =
      by-test (test y)
      (λ b.
      ⊎_elim (λ (e : x ≡ y). (Memᴰ.head e, ap test e ∙ b))
      (λ r. let rest = those-member test xs x r in (Memᴰ.tail rest.0, rest.1))
      (Memᴰ.cases_cons (rw b at m)))
      (λ b. let rest = those-member test xs x (rw b at m) in (Memᴰ.tail rest.0, rest.1))

module _ {A B : Type 0} (f : A → B) where
  -- what is made of one that is there is in the list made
  pub member-map : (xs : List A) (x : A) → Memᴰ x xs → Memᴰ (f x) (map f xs)
  member-map [] x m = absurd (Memᴰ.not-nil m)
  member-map (y ∷ xs) x m =
      ⊎_elim (λ (e : x ≡ y). Memᴰ.head (ap f e)) (λ r. Memᴰ.tail (member-map xs x r)) (Memᴰ.cases_cons m)

  -- and what is in it was made of one that is there
  pub map-member : (xs : List A) (y : B) → Memᴰ y (map f xs) → (x : A) × Memᴰ x xs × (y ≡ f x)
  map-member [] y m = absurd (Memᴰ.not-nil m)
  map-member (x ∷ xs) y m =
      ⊎_elim (λ (e : y ≡ f x). (x, Memᴰ.head refl, e))
      (λ r. let rest = map-member xs y r in (rest.0, Memᴰ.tail rest.1, rest.2))
      (Memᴰ.cases_cons m)
