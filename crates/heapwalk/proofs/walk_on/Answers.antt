-- `heapwalk::walk_on` meets its contract. The loop's invariant: a chain of steps leads from the start to the memory as it is, the folds
-- told on it are written down, and the reasons told on it are counted. When old entries are thrown out, it doesn't say. The measure is the plain walk's
-- budget. Assumes nothing.
use native.Mathlib.Omega.{arith}
use mathlib.Core.Path.{◌∙◌}
use Rattle.walk.proofs.ClosingLaws.{default-closed}
use Rattle.plainwalk.proofs.LentLaws.{folds_few, room-folded, less-folded, less-closed}
use Rattle.heapwalk.proofs.HoldLaws.{heap-step}
use Rattle.heapwalk.proofs.ChainLaws.{chaining-start, chaining-folded, chaining-room, chaining-closed, chaining-end}
use Rattle.heapwalk.proofs.walk_on.Goals as goal

pub loop-pair-init : goal.loop-pair-init
loop-pair-init c =
    rw (default-closed {closed = c.default-closed.result} c.default-closed.ensures)
    (chaining-start c.args.extent.v c.args.extent.f c.args.target c.args.bounds.limit c.args.bounds.size _ c.requires)

pub heap_step-paced-requires : goal.heap_step-paced-requires
heap_step-paced-requires c = c.loop-pair.invariant.walking.going.holds

pub note_fold-requires : goal.note_fold-requires
note_fold-requires c =
    room-folded c.loop-pair.invariant.walking (heap-step c.heap_step-paced.ensures)
    c.in-Folded.is

pub overflow_add-folds : goal.overflow_add-folds
overflow_add-folds c =
    omega (arith, folds_few c.loop-pair.invariant.walking, c.requires.«open».tidy.room)

pub loop-pair-smaller-in-Folded : goal.loop-pair-smaller-in-Folded
loop-pair-smaller-in-Folded c =
    rw c.note_fold.ensures
    (less-folded c.loop-pair.invariant.walking (heap-step c.heap_step-paced.ensures) c.in-Folded.is)

pub loop-pair-preserved-in-Folded : goal.loop-pair-preserved-in-Folded
loop-pair-preserved-in-Folded c =
    rw c.note_fold.ensures
    (chaining-folded c.loop-pair.invariant c.heap_step-paced.ensures c.in-Folded.is)

pub with-closed-requires : goal.with-closed-requires
with-closed-requires c =
    chaining-room c.loop-pair.invariant c.heap_step-paced.ensures c.in-Closed.is

pub loop-pair-smaller : goal.loop-pair-smaller
loop-pair-smaller c =
    less-closed c.loop-pair.invariant.walking (heap-step c.heap_step-paced.ensures) c.in-Closed.is

pub loop-pair-preserved : goal.loop-pair-preserved
loop-pair-preserved c =
    chaining-closed c.loop-pair.invariant c.heap_step-paced.ensures c.in-Closed.is
    c.with-closed.ensures

pub shape_of-w-in-Ended : goal.shape_of-w-in-Ended
shape_of-w-in-Ended c = c.heap_step-paced.ensures.tied.within.but.same_length ∙ c.loop-pair.invariant.walking.going.within.but.same_length

pub shape_of-p-in-Ended : goal.shape_of-p-in-Ended
shape_of-p-in-Ended c = c.heap_step-paced.ensures.tied.within.same_length_p ∙ c.loop-pair.invariant.walking.going.within.same_length_p

pub shape_of-q-in-Ended : goal.shape_of-q-in-Ended
shape_of-q-in-Ended c = c.heap_step-paced.ensures.tied.within.same_length_q ∙ c.loop-pair.invariant.walking.going.within.same_length_q

pub returns-in-Ended : goal.returns-in-Ended
returns-in-Ended c = chaining-end c.loop-pair.invariant c.heap_step-paced.ensures c.in-Ended.is
