use Rattle.cxx_expr.proofs.Kept.{later_refl}
use Rattle.cxx_answers.proofs.Asked.{few_enough, too_many}
use Rattle.cxx_answers.proofs.calls.call_with.Goals as goal

pub returns-then-are_too_many : goal.returns-then-are_too_many
returns-then-are_too_many c = record {
  is = too_many c.args.state.now c.args.place c.args.is_bare c.args.word.now c.args.functions.now c.args.object c.args.operands c.as_slice.result.now c.are_too_many.result c.as_slice.ensures c.are_too_many.ensures c.if-are_too_many.true;
  later = later_refl c.args.state.now;
}

pub returns : goal.returns
returns c = few_enough c.args.state.now c.called_here.new.state c.called_here.result c.args.place c.args.is_bare c.args.word.now c.args.functions.now c.args.object c.args.operands c.as_slice.result.now c.are_too_many.result c.as_slice.ensures c.are_too_many.ensures c.if-are_too_many.false c.called_here.ensures
