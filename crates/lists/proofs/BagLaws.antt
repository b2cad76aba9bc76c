-- Laws of `SameBag`: it is an equivalence, every count and test says the same of both lists, and what is done to both leaves the same bag.
-- Assumes nothing.
use Prim.Native.Nat.{ℕ, ◌+◌}
use native.Mathlib.Nat.{add_comm, add_right_cancel}
use native.Mathlib.Omega.{arith}
use mathlib.Core.Path.{◌≡◌, refl, sym, ap, ap₂, ◌∙◌}
use mathlib.Core.List.{List, [], ◌∷◌, ◌++◌, map}
use mathlib.Core.Bool.{Bool, true, false, not, cond, true≢false}
use lib.Dec.{ltb, eqb}
use lib.ListN.{length}
use borrow.Author.Tests.{lt-ltb}
use Rattle.lists.specs.Lists.{sum, count, those, every, some, without, SameBag}
use Rattle.lists.proofs.TestLaws.{by-test}
use Rattle.lists.proofs.SumLaws.{sum-append, sum-those, sum-map, sum-length, sum-without}
use Rattle.lists.proofs.EveryLaws.{some-count, every-count}

module _ {A : Type 0} where
  pub bag-refl : {xs : List A} → SameBag xs xs
  bag-refl = record { sums = λ g. refl }

  pub bag-sym : {xs ys : List A} → SameBag xs ys → SameBag ys xs
  bag-sym same = record { sums = λ g. sym (same.sums g) }

  pub bag-trans : {xs ys zs : List A} → SameBag xs ys → SameBag ys zs → SameBag xs zs
  bag-trans one two = record { sums = λ g. one.sums g ∙ two.sums g }

  -- ---- what sums say is the same of both

  pub bag-length : {xs ys : List A} → SameBag xs ys → length xs ≡ length ys
  bag-length {xs} {ys} same = sym (sum-length xs) ∙ same.sums (λ x. 1) ∙ sum-length ys

  pub bag-count : {xs ys : List A} → SameBag xs ys → (test : A → Bool) → count test xs ≡ count test ys
  bag-count same test = same.sums (λ x. cond (test x) 1 0)

  pub bag-every : {xs ys : List A} → SameBag xs ys → (test : A → Bool) → every test xs ≡ every test ys
  bag-every {xs} {ys} same test =
      every-count test xs ∙ ap (λ (n : ℕ). eqb n 0) (bag-count same (λ x. not (test x))) ∙ sym (every-count test ys)

  pub bag-some : {xs ys : List A} → SameBag xs ys → (test : A → Bool) → some test xs ≡ some test ys
  bag-some {xs} {ys} same test = some-count test xs ∙ ap (λ (n : ℕ). ltb 0 n) (bag-count same test) ∙ sym (some-count test ys)

  -- ---- what is done to both leaves the same bag

  pub bag-append : {xs ys us vs : List A} → SameBag xs ys → SameBag us vs → SameBag (xs ++ us) (ys ++ vs)
  bag-append {xs} {ys} {us} {vs} one two =
      record { sums = λ g. sum-append g xs us ∙ ap₂ ◌+◌ (one.sums g) (two.sums g) ∙ sym (sum-append g ys vs) }

  pub bag-those : {xs ys : List A} → SameBag xs ys → (test : A → Bool) → SameBag (those test xs) (those test ys)
  bag-those {xs} {ys} same test =
      record { sums = λ g. sum-those g test xs ∙ same.sums (λ x. cond (test x) (g x) 0) ∙ sym (sum-those g test ys) }

  -- the two parts of a list may change places
  pub bag-swap : (xs ys : List A) → SameBag (xs ++ ys) (ys ++ xs)
  bag-swap xs ys = record { sums = λ g. sum-append g xs ys ∙ add_comm (sum g xs) (sum g ys) ∙ sym (sum-append g ys xs) }

  -- ---- one taken out

  -- where none passes, nothing is taken out
  pub without-none : (test : A → Bool) (xs : List A) → some test xs ≡ false → without test xs ≡ xs
  unfolding some without
  without-none test [] h = refl
  without-none test (x ∷ xs) h =
      by-test (test x)
      (λ e. absurd (true≢false (rw e at h)))
      (λ e. rw (e, without-none test xs (rw e at h)))

  -- the same one taken out of both
  pub bag-without : {xs ys : List A} → SameBag xs ys → (test : A → Bool) (p : A) → ((x : A) → test x ≡ true → x ≡ p) →
      SameBag (without test xs) (without test ys)
  bag-without {xs} {ys} same test p one = by-test (some test xs) taken kept
    where
      taken : some test xs ≡ true → SameBag (without test xs) (without test ys)
      taken h =
          record {
            sums = λ g.
                add_right_cancel (g p)
                (sum-without g test (g p) (λ x e. ap g (one x e)) xs h
                ∙ same.sums g
                ∙ sym (sum-without g test (g p) (λ x e. ap g (one x e)) ys (sym (bag-some same test) ∙ h)));
          }

      kept : some test xs ≡ false → SameBag (without test xs) (without test ys)
      kept h = rw (without-none test xs h, without-none test ys (sym (bag-some same test) ∙ h)) same

  -- a list that lacks one of the other's is the other with that one taken out, in whatever order
  pub bag-taken : (test : A → Bool) (p : A) → ((x : A) → test x ≡ true → x ≡ p) → test p ≡ true →
      (xs ys : List A) → ((g : A → ℕ) → sum g xs + g p ≡ sum g ys) → SameBag xs (without test ys)
  bag-taken test p one self xs ys lacks =
      let more : count test xs + 1 ≡ count test ys = rw self at (lacks (λ x. cond (test x) 1 0)) in
      let there : some test ys ≡ true = some-count test ys ∙ lt-ltb 0 (count test ys) (omega arith) in
      record { sums = λ g. add_right_cancel (g p) (lacks g ∙ sym (sum-without g test (g p) (λ x e. ap g (one x e)) ys there)) }

module _ {A B : Type 0} where
  pub bag-map : {xs ys : List A} → SameBag xs ys → (f : A → B) → SameBag (map f xs) (map f ys)
  bag-map {xs} {ys} same f = record { sums = λ g. sum-map g f xs ∙ same.sums (λ x. g (f x)) ∙ sym (sum-map g f ys) }
