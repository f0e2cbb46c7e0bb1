use Rattle.std.proofs.Common.{refl}
use Rattle.cxx_tokens.specs.Pieces.{spelled}
use Rattle.cxx_tokens.proofs.Pieces.{three_at, two_at}
use Rattle.cxx_tokens.proofs.Shorter.{alone_at}
use Rattle.cxx_tokens.proofs.operators.operator.Goals as goal

pub returns-in-Some : goal.returns-in-Some
returns-in-Some c = three_at c.args.fresh c.args.text.now (spelled c.in-Some.spells) c.requires c.in-Some.ensures

pub returns-in-Some-longer_at : goal.returns-in-Some-longer_at
returns-in-Some-longer_at c = two_at c.args.fresh c.args.text.now (spelled c.in-Some-longer_at.spells) c.requires c.in_default.ensures c.in-Some-longer_at.ensures

pub returns : goal.returns
returns c = alone_at c.args.fresh c.args.text.now _ c.alone-spells.result c.requires c.in_default.ensures c.in_default-longer_at.ensures refl c.alone-spells.ensures
