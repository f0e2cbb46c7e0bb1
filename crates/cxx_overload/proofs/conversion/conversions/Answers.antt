use Rattle.std.proofs.Common.{◌≡◌, [], ◌∙◌, ◌+◌, ap, sym, refl, drop, length, subst, arith}
use Rattle.std.proofs.lemmas.Grind.{common_steps}
use Rattle.std.proofs.lemmas.Result.{err_from_is_err_and}
use Rattle.cxx_model.specs.Facts.Declarations.{graph_at}
use Rattle.cxx_model.specs.Types.Numbers.{AreTypesBelow}
use Rattle.cxx_overload.specs.Asking.{after}
use Rattle.cxx_overload.specs.Sequences.{behind, sequences_of}
use Rattle.cxx_overload.specs.Views.{listed_at, operands_at, row_at}
use Rattle.cxx_overload.proofs.Converting.{converted_end, converted_start, converted_step, converted_stop, operand_below, parameters_behind, types_behind}
use Rattle.cxx_overload.proofs.conversion.conversions.Goals as goal

pub loop-operand-init : goal.loop-operand-init
loop-operand-init c = record {
  same = converted_start c.args.types.now c.args.operands.now c.args.parameters.now c.new-found.result.items _ c.new-found.ensures.items;
  counted = grind (arith, c.new-found.ensures.items);
  at_parameter = refl;
  parameters = c.requires.parameters;
}

pub conversion_to-requires-clause-operand : goal.conversion_to-requires-clause-operand
conversion_to-requires-clause-operand c = operand_below _ c.args.operands.now c.loop-operand.operand-index _ _ c.requires.operands c.loop-operand-test.true refl

pub returns-in_err-one-clause-is : goal.returns-in_err-one-clause-is
returns-in_err-one-clause-is c =
    let types = c.args.types.now in
    let p = err_from_is_err_and c.from_residual.result c.from_residual.ensures.1 in
    rw (p.1, p.2) (converted_stop (graph_at types c.args.graph.now) types c.args.operands.now c.loop-operand.left.now (row_at types c.args.operands.now c.args.parameters.now c.loop-operand.found.items) c.loop-operand.operand-index c.args.ellipsis _ _ c.in_err-one.field-0.0 _ c.loop-operand-test.true refl c.loop-operand.invariant.same c.in_err-one.ensures)

pub loop-operand-preserved : goal.loop-operand-preserved
loop-operand-preserved c =
    let types = c.args.types.now in
    let graph = graph_at types c.args.graph.now in
    let operands = c.args.operands.now in
    let parameters = c.args.parameters.now in
    let rest = sequences_of graph (operands_at types (drop (c.loop-operand.operand-index + 1) operands)) (listed_at types (behind c.loop-operand.left.now)) c.args.ellipsis in
    record {
      same =
          ap (λ ps. after (row_at types operands parameters c.push.new.self.items) (sequences_of graph (operands_at types (drop (c.loop-operand.operand-index + 1) operands)) (listed_at types ps) c.args.ellipsis)) c.behind-left.ensures
          ∙ ap (λ xs. after (row_at types operands parameters xs) rest) c.in_ok-push.ensures.items
          ∙ converted_step graph types operands parameters c.loop-operand.left.now c.loop-operand.found.items c.loop-operand.operand-index c.args.ellipsis c.in_ok-one.one _ _ c.loop-operand-test.true refl c.loop-operand.invariant.counted c.loop-operand.invariant.at_parameter c.in_ok-one.ensures
          ∙ c.loop-operand.invariant.same;
      counted = grind (arith, common_steps, c.in_ok-push.ensures.items, c.loop-operand.invariant.counted);
      at_parameter = c.behind-left.ensures ∙ parameters_behind c.loop-operand.left.now parameters c.loop-operand.operand-index c.loop-operand.invariant.at_parameter;
      parameters = subst (AreTypesBelow (length types)) (sym c.behind-left.ensures) (types_behind (length types) c.loop-operand.left.now c.loop-operand.invariant.parameters);
    }

pub returns-clause-is : goal.returns-clause-is
returns-clause-is c =
    let types = c.args.types.now in
    let past : drop c.loop-operand.operand-index c.args.operands.now ≡ [] = grind (arith, common_steps) in
    converted_end (graph_at types c.args.graph.now) types (drop c.loop-operand.operand-index c.args.operands.now) (listed_at types c.loop-operand.left.now) (row_at types c.args.operands.now c.args.parameters.now c.loop-operand.found.items) c.args.ellipsis _ past c.loop-operand.invariant.same
