-- The order of the checks: the first test that holds decides.
-- Assumes nothing.
use mathlib.Core.Path.{◌≡◌, refl, sym, ap, ◌∙◌}
use mathlib.Core.Logic.{◌⊎◌, inl, inr}
use mathlib.Core.Bool.{Bool, true, false, cond, false≢true}
use Rattle.std.specs.Prelude.{⊤, Result, Ok, Err, is_ok}
use Rattle.meaning.specs.declared.Refusal.{Refusal}
use Rattle.meaning.specs.declared.Task.TheVariants.{Copied, Admitted}
use Rattle.meaning.specs.Answers.{Verdict, and_then}

-- the kinds of verdict that are no refusal: admitted and copied
abbrev pub admits : Verdict → Bool
admits (Err refusal) = false
admits (Ok Copied) = false
admits (Ok Admitted) = true

abbrev pub copies : Verdict → Bool
copies (Err refusal) = false
copies (Ok Copied) = true
copies (Ok Admitted) = false

module _ {A : Type 0} where
  -- a test that the code made holds: its verdict is given
  pub decides : (made test : Bool) (x later : A) → made ≡ test → made ≡ true → x ≡ cond test x later
  decides made test x later e t = rw (← e, t)

  -- it does not hold: the later ones decide
  pub goes_on : (made test : Bool) (x later r : A) → made ≡ test → made ≡ false → r ≡ later → r ≡ cond test x later
  goes_on made test x later r e t l = rw (← e, t) l

  -- a verdict of a kind that x is not of: the test did not hold, and the later ones decided
  pub past : (kind : A → Bool) (test : Bool) (x later : A) {r : A} → kind x ≡ false → kind r ≡ true → cond test x later ≡ r → (test ≡ false) × (later ≡ r)
  past kind false x later other same e = (refl, e)
  past kind true x later other same e = let z : false ≡ true = sym other ∙ ap kind e ∙ same in (sym z, cc)

  -- by which of the two a verdict came
  pub decided : (test : Bool) (x later : A) {r : A} → cond test x later ≡ r → ((test ≡ true) × (x ≡ r)) ⊎ ((test ≡ false) × (later ≡ r))
  decided true x later e = inl (refl, e)
  decided false x later e = inr (refl, e)

-- ---- one check and then the next

module _ {T : Type 0} where
  -- the two pass where both do, and only there
  pub both-pass : {check : Result ⊤ Refusal} {next : Result T Refusal} {x : T} → check ≡ Ok tt → next ≡ Ok x → and_then check next ≡ Ok x
  both-pass e n = rw e n

  pub each-passes : (check : Result ⊤ Refusal) (next : Result T Refusal) {x : T} → and_then check next ≡ Ok x → (check ≡ Ok tt) × (next ≡ Ok x)
  each-passes (Err refusal) next e = absurd (false≢true (ap is_ok e))
  each-passes (Ok done) next e = (refl, e)

  -- a refusal is the first's, or the next one's where the first passes
  pub refused-by : (check : Result ⊤ Refusal) (next : Result T Refusal) {r : Refusal} → and_then check next ≡ Err r → (check ≡ Err r) ⊎ ((check ≡ Ok tt) × (next ≡ Err r))
  refused-by (Err refusal) next {r} e = inl (let same : refusal ≡ r = cc in ap Err same)
  refused-by (Ok done) next e = inr (refl, e)
