use Rattle.std.proofs.Common.{length}
use Rattle.cxx_found.specs.Views.{types_of}
use Rattle.cxx_found.proofs.Facts.{copied_below}
use Rattle.cxx_found.proofs.seeking.Seeking.fact.Goals as goal

pub returns-clause-below : goal.returns-clause-below
returns-clause-below c =
    let self = c.args.self.now in
    copied_below (length (types_of self)) self.looking.graph.now.facts c.args.number.0 c.fact_of.result c.requires.fitted.numbers.facts c.fact_of.ensures
