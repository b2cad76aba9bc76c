-- `serving::tell_at` meets its contract: each list has the numbers in the part at the order's place.
-- Assumes nothing.
use mathlib.Core.Path.{ap, ◌∙◌}
use mathlib.Core.List.{List}
use Prim.Native.Nat.{ℕ}
use Rattle.orders.specs.Parts.{replaced}
use Rattle.serving.specs.Desks.{five_at, three_at}
use Rattle.orders.proofs.PartLaws.{part-put}
use Rattle.serving.proofs.tell_at.Goals as goal

pub returns : goal.returns
returns c = (
  part-put (five_at c.args.place) c.args.answers.now c.tell.new.five
      ∙ ap (λ (new : List ℕ). replaced (five_at c.args.place) new c.args.answers.now) c.tell.ensures.five,
  part-put (three_at c.args.place) c.args.closed.now c.tell.new.three
      ∙ ap (λ (new : List ℕ). replaced (three_at c.args.place) new c.args.closed.now) c.tell.ensures.three,
)
