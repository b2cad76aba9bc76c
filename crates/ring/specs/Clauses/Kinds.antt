-- What writing the kinds of margin points asks and leaves.
use Rattle.std.specs.Prelude.{ℕ, ◌<◌, ◌≡◌, List, true, cond, ltb}
use Rattle.lists.specs.Frames.{But}
use Rattle.lists.specs.Lists.{every}
use Rattle.placement.specs.declared.Kind.TheVariants.{Margin}
use Rattle.placement.specs.Choices.{kind_number}
use Rattle.memory.specs.Memory.{kind}
use Rattle.memory.specs.Layout.{kinds_from, marks_from}
use Rattle.meaning.specs.Start.{in_margin}

-- every entry of the margin names one of v points
abbrev pub NamesPoints : ℕ → List ℕ → Type 0
NamesPoints v margin = every (λ x. ltb x v) margin ≡ true

-- the margin's points have their kind, and every other point the one it had
pub record Margined (v f : ℕ) (margin w w' : List ℕ) : Type 0 where
  pub but : But (kinds_from v f) (marks_from v f) w w'
  pub kinds : (x : ℕ) → x < v → kind v f w' x ≡ cond (in_margin margin x) (kind_number Margin) (kind v f w x)
