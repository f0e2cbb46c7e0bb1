use Rattle.cxx_standard.specs.Views.{kind_at}
use Rattle.cxx_standard.proofs.Ranges.{kind_in_range}
use Rattle.cxx_standard.proofs.kinds.kind_of.Goals as goal

pub returns-clause-range : goal.returns-clause-range
returns-clause-range c = kind_in_range c.args.graph.now c.args.types.now c.args.number.0 (kind_at c.args.types.now c.kind_in.result) c.requires.fitted c.requires.known c.kind_in.ensures.is
