use Rattle.cxx_computed.proofs.Exact.{shift_product}
use Rattle.cxx_computed.proofs.laws.shift_is_product.Goals as goal

pub returns : goal.returns
returns c = shift_product
