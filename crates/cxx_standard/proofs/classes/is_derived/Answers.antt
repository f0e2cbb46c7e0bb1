use Rattle.std.proofs.Common.{◌∙◌, length, arith}
use Rattle.cxx_model.specs.Facts.Declarations.{facts_at}
use Rattle.cxx_meaning.specs.Conversions.Derived.{is_derived_before}
use Rattle.cxx_standard.specs.Reached.{reaches}
use Rattle.cxx_standard.proofs.Reaching.{derived_whole, last_below, step_left, step_taken, was_reached, was_not_reached, went_on}
use Rattle.cxx_standard.proofs.classes.is_derived.Goals as goal

pub returns-then-branch : goal.returns-then-branch
returns-then-branch c = was_reached (reaches (facts_at c.args.types.now c.args.graph.now.facts) c.args.base.0) c.loop-number.waiting.keys c.take_last.new.waiting.keys c.in-Some.number (is_derived_before (facts_at c.args.types.now c.args.graph.now.facts) (length c.args.graph.now.facts) c.args.class.0 c.args.base.0) c.in-Some.ensures.last c.loop-number.invariant.waits (step_taken (reaches (facts_at c.args.types.now c.args.graph.now.facts) c.args.base.0) c.take_last.new.waiting.keys c.is_reached.new.waiting.keys c.in-Some.number c.in_ok-is_reached.field-0 c.in_ok-is_reached.ensures.is c.if-branch.true) ∙ derived_whole c.args.types.now c.args.graph.now c.args.class.0 c.args.base.0

pub loop-number-smaller : goal.loop-number-smaller
loop-number-smaller c = last_below c.loop-number.bound c.loop-number.waiting.keys c.take_last.new.waiting.keys c.in-Some.number c.loop-number.invariant.below c.in-Some.ensures.last

pub loop-number-preserved : goal.loop-number-preserved
loop-number-preserved c = record {
  within = (let before = last_below c.loop-number.bound c.loop-number.waiting.keys c.take_last.new.waiting.keys c.in-Some.number c.loop-number.invariant.below c.in-Some.ensures.last in omega (arith, before, c.loop-number.invariant.within));
  below = c.is_reached.ensures.below;
  waits = went_on (reaches (facts_at c.args.types.now c.args.graph.now.facts) c.args.base.0) c.loop-number.waiting.keys c.take_last.new.waiting.keys c.is_reached.new.waiting.keys c.in-Some.number (is_derived_before (facts_at c.args.types.now c.args.graph.now.facts) (length c.args.graph.now.facts) c.args.class.0 c.args.base.0) c.in-Some.ensures.last c.loop-number.invariant.waits (step_left (reaches (facts_at c.args.types.now c.args.graph.now.facts) c.args.base.0) c.take_last.new.waiting.keys c.is_reached.new.waiting.keys c.in-Some.number c.in_ok-is_reached.field-0 c.in_ok-is_reached.ensures.is c.if-branch.false);
}

pub returns : goal.returns
returns c = was_not_reached (reaches (facts_at c.args.types.now c.args.graph.now.facts) c.args.base.0) c.loop-number.waiting.keys (is_derived_before (facts_at c.args.types.now c.args.graph.now.facts) (length c.args.graph.now.facts) c.args.class.0 c.args.base.0) c.in_default.ensures.none c.loop-number.invariant.waits ∙ derived_whole c.args.types.now c.args.graph.now c.args.class.0 c.args.base.0
