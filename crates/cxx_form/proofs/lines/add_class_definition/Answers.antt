use Rattle.cxx_tree.specs.Held.{trees}
use Rattle.cxx_form.specs.Giving.{class_definition_given}
use Rattle.cxx_form.specs.Views.{facts_in}
use Rattle.std.proofs.Common.{◌∙◌, ap}
use Rattle.cxx_form.specs.Giving.{class_definition_by}
use Rattle.cxx_form.proofs.Lined.{line_given}
use Rattle.cxx_form.proofs.lines.add_class_definition.Goals as goal

pub returns : goal.returns
returns c =
    let held = c.args.state.now in
    let all = facts_in held in
    line_given (class_definition_given all) held.types (trees held) all c.args.number c.fact-fact.result.now c.args.lines.now.items c.add.new.lines.items c.class_definition.result c.fact-fact.ensures.is
    (c.class_definition.ensures.is ∙ ap (class_definition_by all c.fact-fact.result.now.scope.0) (c.ended_class.ensures held.types)) c.in_ok-add.ensures
