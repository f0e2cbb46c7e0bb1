use Rattle.std.proofs.Common.{sym, ◌∙◌, arith}
use Rattle.cxx_model.specs.Facts.Declarations.{type_of_option}
use Rattle.cxx_constant.proofs.Wholes.{some_operands}
use Rattle.cxx_constant.proofs.forms.functional_form.Goals as goal

pub returns : goal.returns
returns c = c.cast_form.ensures ∙ sym (some_operands c.args.known.now (type_of_option c.args.known.now.types.now c.args.of) c.args.operands.now (let h = c.in-len1-up.len_at_least in omega arith))
