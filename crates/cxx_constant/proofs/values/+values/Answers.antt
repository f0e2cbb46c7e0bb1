use Rattle.std.proofs.Common.{◌≡◌, ◌<◌, ◌+◌, ◌*◌, subst, sym, arith}
use Rattle.cxx_tree.specs.Arena.{label_at}
use Rattle.cxx_constant.specs.declared.form.Form.{Form}
use Rattle.cxx_constant.specs.Known.{graph_in, labels_in, trees_in, value_at, IsFormWide}
use Rattle.cxx_constant.proofs.Wholes.{there_too, value_is}
use Rattle.cxx_constant.proofs.Wide.{form_wide}
use Rattle.cxx_constant.proofs.values.+values.Goals as goal

pub value-form_of-form-requires-clause-there : goal.value-form_of-form-requires-clause-there
value-form_of-form-requires-clause-there t c = there_too _ c.args.number.0 c.operands_of-operands.result.now c.requires.there c.operands_of-operands.ensures.below

pub value-value_by-value-requires : goal.value-value_by-value-requires
value-value_by-value-requires t c =
    let whole : t ≡ 4 * c.args.number.0 + 3 = sym c.decreases in
    let small : 4 * c.args.number.0 + 2 < t = omega arith in
    let wide : IsFormWide c.form_of-form.result = subst (λ (f : Form). IsFormWide f) (sym c.form_of-form.ensures) (form_wide (graph_in c.args.known.now) (label_at c.args.known.now.types.now c.node-node.result.now) (labels_in c.args.known.now c.operands_of-operands.result.now)) in
    (small, (c.requires.known, (c.requires.there, (wide, c.operands_of-operands.ensures.below))))

pub value-returns-clause-is : goal.value-returns-clause-is
value-returns-clause-is t c = value_is c.args.known.now c.node-node.result.now c.args.number c.operands_of-operands.result.now c.form_of-form.result (value_at (trees_in c.args.known.now) c.value_by-value.result) _ c.node-node.ensures.tree c.operands_of-operands.ensures.is c.form_of-form.ensures c.value_by-value.ensures.is c.typed.ensures.is
