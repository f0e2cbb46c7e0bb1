use Rattle.std.proofs.Common.{refl}
use Rattle.cxx_subobjects.proofs.Walking.{noted_all, noted_more, none_among}
use Rattle.cxx_subobjects.proofs.reached.note_bases.Goals as goal

pub loop-number-init : goal.loop-number-init
loop-number-init c = record {
  below = c.requires;
  kept = λ j h. h;
  noted = λ j lt h. none_among j h _;
}

pub loop-number-preserved : goal.loop-number-preserved
loop-number-preserved c = record {
  below = c.note.ensures.below;
  kept = λ j h. c.in_ok-note.ensures.kept j (c.loop-number.invariant.kept j h);
  noted = noted_more c.loop-number.waiting.keys c.note.new.waiting.keys c.ancestors-numbers.result.now c.loop-number.number-index c.args.before _ (record { 0 = 0 }) c.loop-number-test.true refl c.loop-number.invariant.noted c.in_ok-note.ensures.kept c.in_ok-note.ensures.noted;
}

pub returns-clause-noted : goal.returns-clause-noted
returns-clause-noted c = noted_all c.args.graph.now.facts c.loop-number.waiting.keys c.ancestors-numbers.result.now c.loop-number.number-index c.args.class.0 c.args.before c.loop-number-test.false c.ancestors-numbers.ensures c.loop-number.invariant.noted
