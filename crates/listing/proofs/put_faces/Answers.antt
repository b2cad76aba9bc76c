-- One line after another.
use Rattle.std.proofs.Common.{◌≡◌, arith}
use Rattle.text.specs.Lines.{lines_to}
use Rattle.lists.proofs.PutLaws.{none}
use Rattle.text.proofs.LineLaws.{line-more}
use Rattle.listing.proofs.put_faces.Goals as goal

pub loop-k-init : goal.loop-k-init
unfolding lines_to
loop-k-init c = none _ _

pub loop-k-preserved : goal.loop-k-preserved
loop-k-preserved c = line-more _ 33 _ c.loop-k.invariant c.put_face-next.ensures

pub returns : goal.returns
returns c =
    let all : c.loop-k.k ≡ c.args.f = omega arith in
    rw all at c.loop-k.invariant
