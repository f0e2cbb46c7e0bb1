use Rattle.std.proofs.Common.{length, arith}
use Rattle.cxx_answers.proofs.Typing.{fact_below}
use Rattle.cxx_answers.proofs.typed.first_type.Goals as goal

pub type_given-requires : goal.type_given-requires
type_given-requires c = fact_below (length c.args.types.now) c.facts-facts.result.now c.args.graph.now.facts c.loop-number.number c.index-facts-number.result c.requires.numbers.facts c.facts-facts.ensures (omega (arith, c.loop-number-test.true, c.length-number-end.ensures.count)) c.index-facts-number.is
