-- `bits::order::order` meets its contract: the key of a float is that of its pattern. Assumes nothing.
use Rattle.std.proofs.Common.{ap, ◌∙◌, to_z-of_z, w64}
use Rattle.bits.specs.Order.{order_key, float_key}
use Rattle.bits.proofs.order.order.Goals as goal

pub returns : goal.returns
unfolding float_key
returns c =
    to_z-of_z {w = w64} (record { sfits = c.order_bits.type_inv }) ∙ c.order_bits.ensures ∙ ap order_key c.bits_of_f64.ensures
