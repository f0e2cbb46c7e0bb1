use Rattle.std.proofs.Common.{refl}
use Rattle.cxx_model.specs.Facts.Declarations.{facts_at}
use Rattle.cxx_standard.specs.Reached.{reaches}
use Rattle.cxx_standard.proofs.Reaching.{noted_all, noted_more}
use Rattle.cxx_standard.proofs.classes.note_bases.Goals as goal

pub loop-number-preserved : goal.loop-number-preserved
loop-number-preserved c = record {
  below = c.note.ensures.below;
  noted = noted_more (reaches (facts_at c.args.types.now c.args.graph.now.facts) c.args.base.0) c.args.waiting.now.keys c.loop-number.waiting.keys c.note.new.waiting.keys c.ancestors-numbers.result.now c.loop-number.number-index c.args.before _ (record { 0 = 0 }) c.loop-number-test.true refl c.loop-number.invariant.noted (c.in_ok-note.ensures.noted (reaches (facts_at c.args.types.now c.args.graph.now.facts) c.args.base.0));
}

pub returns-clause-noted : goal.returns-clause-noted
returns-clause-noted c = noted_all c.args.types.now c.args.graph.now.facts c.args.class.0 c.args.base.0 c.args.before c.args.waiting.now.keys c.loop-number.waiting.keys c.ancestors-numbers.result.now c.loop-number.number-index c.loop-number-test.false c.ancestors-numbers.ensures c.loop-number.invariant.noted
