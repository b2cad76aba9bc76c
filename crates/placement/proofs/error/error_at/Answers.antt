-- `placement::error::error_at` meets its contract: four column sums and the sum over them, from what the calls ensure. Assumes nothing.
use Rattle.placement.specs.Errors.{error_at}
use Rattle.placement.proofs.error.error_at.Goals as goal

pub returns : goal.returns
unfolding error_at
returns c =
    rw (
      c.row_product-5.ensures,
      c.row_product-4.ensures,
      c.row_product-3.ensures,
      c.row_product-2.ensures,
      c.row_product.ensures,
      c.widen-3.ensures,
      c.widen-2.ensures,
      c.widen.ensures,
    )
