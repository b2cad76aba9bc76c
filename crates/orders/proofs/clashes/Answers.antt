-- `orders::clashes` meets its contract: `any` finds whether one of those before clashes. Assumes nothing.
use Rattle.std.proofs.Common.{rules, ◌≡◌, true, false, take, get_or}
use Rattle.std.proofs.lemmas.Iterator.{YieldsList-from_slice, cases_from_any}
use Rattle.orders.specs.Refused.{clash}
use Rattle.orders.proofs.BeforeLaws.{any_before, past_end, read_alike}
use Rattle.orders.proofs.clashes.Goals as goal

pub returns : goal.returns
returns c =
    let order = get_or c.args.orders.now c.args.place past_end in
    read_alike c.args.orders.now c.args.place c.requires
    (any_before c.args.orders.now c.args.place (λ o. clash o order) c.any.result c.requires
    (cases_from_any _ _ _ (λ o. clash o order ≡ true) (λ o. clash o order ≡ false) c.any.ensures.ran
    (YieldsList-from_slice (take c.args.place c.args.orders.now) cc) (λ x q k. search rules) (λ x q k. search rules)))
