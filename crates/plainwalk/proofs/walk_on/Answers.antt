-- `plainwalk::walk_on` meets its contract. The loop's invariant: the memory holds the state that the plain walk comes to in some number of steps, the
-- folds made on the way are written down, and the pairs closed on it are counted by reason. The measure is the plain walk's budget. Assumes nothing.
use native.Mathlib.Omega.{arith}
use Rattle.walk.proofs.ClosingLaws.{default-closed}
use Rattle.plainwalk.proofs.LentLaws.{folds_few, room-folded, less-folded, less-closed}
use Rattle.plainwalk.proofs.CountLaws.{counting-start, count-folded, count_room, count-closed, counting-end}
use Rattle.plainwalk.proofs.WalkLaws.{plain, plain_step}
use Rattle.plainwalk.proofs.walk_on.Goals as goal

pub loop-pair-init : goal.loop-pair-init
loop-pair-init c =
    rw (default-closed {closed = c.default-closed.result} c.default-closed.ensures)
    (counting-start (plain c.args.extent.v c.args.extent.f) c.args.target c.args.bounds.limit c.args.bounds.size _ c.requires)

pub plain_step-stepped-requires : goal.plain_step-stepped-requires
plain_step-stepped-requires c = c.loop-pair.invariant.walking.going.holds

pub note_fold-requires : goal.note_fold-requires
note_fold-requires c =
    room-folded c.loop-pair.invariant.walking (plain_step c.plain_step-stepped.ensures) c.in-Folded.is

pub overflow_add-folds : goal.overflow_add-folds
overflow_add-folds c =
    omega (arith, folds_few c.loop-pair.invariant.walking, c.requires.tidy.room)

pub loop-pair-smaller-in-Folded : goal.loop-pair-smaller-in-Folded
loop-pair-smaller-in-Folded c =
    rw c.note_fold.ensures
    (less-folded c.loop-pair.invariant.walking (plain_step c.plain_step-stepped.ensures) c.in-Folded.is)

pub loop-pair-preserved-in-Folded : goal.loop-pair-preserved-in-Folded
loop-pair-preserved-in-Folded c =
    rw c.note_fold.ensures
    (count-folded c.loop-pair.invariant (plain_step c.plain_step-stepped.ensures) c.in-Folded.is)

pub with-closed-requires : goal.with-closed-requires
with-closed-requires c =
    count_room c.loop-pair.invariant (plain_step c.plain_step-stepped.ensures) c.in-Closed.is

pub loop-pair-smaller : goal.loop-pair-smaller
loop-pair-smaller c =
    less-closed c.loop-pair.invariant.walking (plain_step c.plain_step-stepped.ensures) c.in-Closed.is

pub loop-pair-preserved : goal.loop-pair-preserved
loop-pair-preserved c =
    count-closed c.loop-pair.invariant (plain_step c.plain_step-stepped.ensures) c.in-Closed.is c.with-closed.ensures

pub returns-in-Ended : goal.returns-in-Ended
returns-in-Ended c =
    counting-end c.loop-pair.invariant (plain_step c.plain_step-stepped.ensures) c.in-Ended.is
