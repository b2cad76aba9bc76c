-- The last digit left is stored at each step.
use Rattle.std.proofs.Common.{◌≡◌, ◌∙◌, arith}
use Rattle.text.specs.Digits.{digits}
use Rattle.lists.proofs.PutLaws.{put}
use Rattle.text.proofs.DigitLaws.{digits-length, digit-more}
use Rattle.text.proofs.put_digits.Goals as goal

pub loop-i-preserved : goal.loop-i-preserved
loop-i-preserved c =
    rw c.glyph.ensures (digit-more c.args.base c.loop-i.i c.loop-i.rest c.args.at c.loop-i.out (omega arith) ∙ c.loop-i.invariant)

pub returns : goal.returns
unfolding digits
returns c =
    let none : c.loop-i.i ≡ 0 = omega arith in
    let long = digits-length c.args.base c.args.k c.args.n in
    put (rw none at c.loop-i.invariant) (omega arith) (omega arith)
