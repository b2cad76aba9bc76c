-- `openpairs::opening::open_listed` meets its contract. The loop's invariant: the pairs of the points passed are open; each arm of the test is one law of it.
-- The measure is how many points are left. Assumes nothing.
use Prim.Native.Nat.{◌<◌, ◌*◌}
use mathlib.Core.Path.{sym, ◌∙◌}
use native.Mathlib.Omega.{arith}
use borrow.Author.Rules.{rules}
use Rattle.openpairs.proofs.WaitLaws.{opening-none, opening-room, opening-point, opening-place, opening-pair, opening-refused, opening-all}
use Rattle.openpairs.proofs.opening.open_listed.Goals as goal
use Rattle.openpairs.proofs.opening.open_listed.Goals.{Then-is_eligible, then-is_eligible, else-is_eligible}

-- where the pair is eligible there is a place for it
place : (c : Then-is_eligible) →
    c.loop-i.now_open < 3 * c.args.extent.f
place c =
    opening-place c.loop-i.invariant.1 c.requires c.loop-i-test.true c.around_at-y.ensures
    (sym c.is_eligible.ensures ∙ c.if-is_eligible.true)

pub loop-i-init : goal.loop-i-init
loop-i-init c = (search rules, opening-none)

pub around_at-y-requires : goal.around_at-y-requires
around_at-y-requires c =
    omega (arith, (opening-room c.loop-i.invariant.1 c.requires c.loop-i-test.true).long, c.requires.few)

pub is_eligible-requires : goal.is_eligible-requires
is_eligible-requires c =
    record { room = opening-room c.loop-i.invariant.1 c.requires c.loop-i-test.true; points_long = c.requires.points_long; quadrics_long = c.requires.quadrics_long; named = (c.requires.point, opening-point c.loop-i.invariant.1 c.requires c.loop-i-test.true c.around_at-y.ensures) }

pub set_pair-requires : goal.set_pair-requires
set_pair-requires c =
    (place (goal.at.set_pair-requires c).Then-is_eligible, opening-room c.loop-i.invariant.1 c.requires c.loop-i-test.true)

pub overflow_add-now_open : goal.overflow_add-now_open
overflow_add-now_open c =
    let few = place (goal.at.overflow_add-now_open c).Then-is_eligible in
    search rules

pub loop-i-preserved : goal.loop-i-preserved
loop-i-preserved c = (
  search rules,
  elim c.if-is_eligible.branch [
    | then-is_eligible w ↦ rw (w.w-is, w.now_open-is) (opening-pair c.loop-i.invariant.1 c.requires c.loop-i-test.true c.around_at-y.ensures (sym c.is_eligible.ensures ∙ w.if-is_eligible.true) w.set_pair.ensures)
    | else-is_eligible w ↦ rw (w.w-is, w.now_open-is) (opening-refused c.loop-i.invariant.1 c.requires c.loop-i-test.true c.around_at-y.ensures (sym c.is_eligible.ensures ∙ w.if-is_eligible.false))
  ],
)

pub returns : goal.returns
returns c = opening-all (search rules) c.loop-i.invariant.1
