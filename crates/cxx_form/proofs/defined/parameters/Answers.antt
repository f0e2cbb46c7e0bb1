use Rattle.std.proofs.Common.{◌∙◌, ap}
use Rattle.cxx_form.specs.Order.{parts_in}
use Rattle.cxx_form.specs.Views.{facts_in}
use Rattle.cxx_form.proofs.Holding.{row_of_scope}
use Rattle.cxx_form.proofs.defined.parameters.Goals as goal

pub returns : goal.returns
returns c =
    row_of_scope (facts_in c.args.state.now) c.args.parts.now c.list_of_body.result c.row.result.now c.requires.parts c.row.ensures
    ∙ ap (λ n. parts_in n 0 (facts_in c.args.state.now)) c.list_of_body.ensures
