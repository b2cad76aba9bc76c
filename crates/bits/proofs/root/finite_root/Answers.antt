-- `bits::root::finite_root` meets its contract: a finite pattern by the statement, which has one answer. Assumes nothing.
use Rattle.std.proofs.Common.{◌<◌, sym, ap, ◌∙◌, arith}
use Rattle.bits.specs.Root.{finite_root}
use Rattle.bits.specs.Clauses.{Raised}
use Rattle.bits.proofs.RootLaws.{root-of-zero, nearest-is-root}
use Rattle.bits.proofs.RootScaled.{raised-normal}
use Rattle.bits.proofs.root.finite_root.Goals as goal
use Rattle.bits.proofs.root.finite_root.Goals.{Joined-b-lt8388608, then-b-lt8388608+else-b-eq0, else-b-lt8388608}

-- by either way the pattern is raised
raised : (c : Joined-b-lt8388608) → (c.if-b-lt8388608.x < 0xc000_0000) × Raised c.args.b c.if-b-lt8388608.x
raised c =
    elim c.if-b-lt8388608.branch [
      | then-b-lt8388608+else-b-eq0 w ↦ rw w.x-is w.raised_low-x.ensures
      | else-b-lt8388608 w ↦ rw w.x-is (omega arith, raised-normal c.args.b (omega arith))
    ]

pub returns-then-b-eq0 : goal.returns-then-b-eq0
returns-then-b-eq0 c = sym (ap finite_root c.if-b-eq0.true ∙ root-of-zero)

pub raised_root-requires : goal.raised_root-requires
raised_root-requires c = (raised (goal.at.raised_root-requires c).Joined-b-lt8388608).0

pub returns : goal.returns
returns c =
    nearest-is-root c.args.b _ (omega arith) (c.raised_root.ensures c.args.b (raised (goal.at.returns c).Joined-b-lt8388608).1)
