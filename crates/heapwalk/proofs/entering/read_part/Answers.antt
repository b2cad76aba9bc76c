-- `heapwalk::entering::read_part` meets its contract. The loop's invariant: those before j are read. Assumes nothing.
use Prim.Native.Nat.{◌+◌}
use native.Mathlib.Omega.{arith}
use mathlib.Core.Path.{◌≡◌}
use Rattle.heapwalk.proofs.ReadLaws.{reading-none, reading-next}
use Rattle.heapwalk.proofs.entering.read_part.Goals as goal

pub loop-j-init : goal.loop-j-init
loop-j-init c = (omega arith, reading-none)

pub around_at-y-requires : goal.around_at-y-requires
around_at-y-requires c =
    omega (arith, c.requires.fact_1.long, c.requires.fact_2, c.loop-j-test.true)

pub quadric_at-requires : goal.quadric_at-requires
quadric_at-requires c =
    let y-in = c.requires.fact_3 (c.args.from + c.loop-j.j) (omega (arith, c.loop-j-test.true)) in
    omega (arith, c.around_at-y.ensures, y-in, c.requires.fact_4)

pub set_quadric-requires : goal.set_quadric-requires
set_quadric-requires c =
    omega (arith, c.requires.fact_5, c.loop-j.invariant.1.same_length, c.loop-j-test.true)

pub loop-j-preserved : goal.loop-j-preserved
loop-j-preserved c = (
  omega (arith, c.loop-j-test.true),
  reading-next c.loop-j.invariant.1 (omega (arith, c.requires.fact_5, c.loop-j-test.true)) c.around_at-y.ensures
      c.quadric_at.ensures c.set_quadric.ensures,
)

pub shape_of-near : goal.shape_of-near
shape_of-near c = c.loop-j.invariant.1.same_length

pub returns : goal.returns
returns c =
    let all : c.loop-j.j ≡ c.args.some = omega (arith, c.loop-j.invariant.0, c.loop-j-test.false) in
    rw all at c.loop-j.invariant.1
