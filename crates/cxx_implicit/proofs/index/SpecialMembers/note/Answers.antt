use Rattle.std.specs.Prelude.{length, take}
use Rattle.cxx_model.specs.Facts.Declarations.{facts_at}
use Rattle.cxx_implicit.proofs.Noting.{entity_below, noted_err, noted_ok}
use Rattle.cxx_implicit.proofs.index.SpecialMembers.note.Goals as goal

pub note_fact-requires : goal.note_fact-requires
note_fact-requires c = entity_below (length c.args.types.now) c.args.graph.now.facts c.args.number.0 c.fact_of-fact.result.now c.requires.fitted.numbers.facts c.fact_of-fact.ensures

pub returns-clause-ok : goal.returns-clause-ok
returns-clause-ok c = noted_ok c.note_fact.result c.args.types.now c.args.graph.now c.args.number.0 c.fact_of-fact.result.now c.args.self.now c.note_fact.new.self c.in_range.ensures c.requires.last c.fact_of-fact.ensures c.requires.noted c.note_fact.ensures.ok

pub returns-clause-err : goal.returns-clause-err
returns-clause-err c = noted_err c.note_fact.result (take c.args.number.0 (facts_at c.args.types.now c.args.graph.now.facts)) c.args.self.now c.note_fact.new.self c.requires.noted c.note_fact.ensures.err
