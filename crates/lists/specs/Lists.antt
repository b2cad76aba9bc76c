-- Small things on lists: sums, counts, those that pass a test.
use Rattle.std.specs.Prelude.{ℕ, zero, suc, ◌+◌, ◌<◌, ◌≡◌, List, [], ◌∷◌, ◌++◌, map, Bool, true, false, ◌&&◌, ◌||◌, cond, length, get_or, drop}

module _ {A : Type 0} where
  -- the sum of a weight over a list
  unfoldable pub sum : (A → ℕ) → List A → ℕ
  sum g [] = 0
  sum g (x ∷ xs) = g x + sum g xs

  -- how many pass
  abbrev pub count : (A → Bool) → List A → ℕ
  count test xs = sum (λ x. cond (test x) 1 0) xs

  -- those that pass, in order
  unfoldable pub those : (A → Bool) → List A → List A
  those test [] = []
  those test (x ∷ xs) = cond (test x) (x ∷ those test xs) (those test xs)

  -- whether every one passes, and whether one does
  unfoldable pub every : (A → Bool) → List A → Bool
  every test [] = true
  every test (x ∷ xs) = test x && every test xs

  unfoldable pub some : (A → Bool) → List A → Bool
  some test [] = false
  some test (x ∷ xs) = test x || some test xs

  -- a list without the first one that passes
  unfoldable pub without : (A → Bool) → List A → List A
  without test [] = []
  without test (x ∷ xs) = cond (test x) xs (x ∷ without test xs)

  -- The same bag: the same elements, each as often, in whatever order. Every weight has the same sum over both lists.
  pub record SameBag (xs ys : List A) : Type 0 where
    pub sums : (g : A → ℕ) → sum g xs ≡ sum g ys

-- those of a second list that stand beside one of the first that passes
unfoldable pub beside : {A B : Type 0} → (A → Bool) → List A → List B → List B
beside test [] ys = []
beside test (x ∷ xs) [] = []
beside test (x ∷ xs) (y ∷ ys) = cond (test x) (y ∷ beside test xs ys) (beside test xs ys)

-- 0, 1, .. up to the number before n
unfoldable pub below : ℕ → List ℕ
below zero = []
below (suc n) = below n ++ (n ∷ [])

-- the n numbers of a list that stand from base on
abbrev pub stretch : List ℕ → ℕ → ℕ → List ℕ
stretch w base n = map (λ i. get_or w (base + i) 0) (below n)

-- the place of the first that passes, or the length where none does
unfoldable pub first_of : {A : Type 0} → (A → Bool) → List A → ℕ
first_of test [] = 0
first_of test (x ∷ xs) = cond (test x) 0 (suc (first_of test xs))

-- k is the place of the first that passes. `past` stands for what is past the end, and is never read.
pub record FirstAt {A : Type 0} (test : A → Bool) (past : A) (xs : List A) (k : ℕ) : Type 0 where
  pub within : k < length xs
  pub passes : test (get_or xs k past) ≡ true
  pub none_before : (j : ℕ) → j < k → test (get_or xs j past) ≡ false

-- a list written over the beginning of another
abbrev pub overlaid : {A : Type 0} → List A → List A → List A
overlaid new old = new ++ drop (length new) old
