use Rattle.std.proofs.Common.{◌∙◌}
use Rattle.cxx_model.specs.Facts.Declarations.{fact_at}
use Rattle.cxx_form.proofs.Lining.{key_found, no_key}
use Rattle.cxx_form.proofs.classes.key_at.Goals as goal

pub returns-in-Some : goal.returns-in-Some
returns-in-Some c =
    let held = c.args.state.now in
    let one = fact_at held.types c.in-Some.fact.now in
    key_found held c.args.number.0 c.in-Some.fact.now c.key_in.result.now c.in-Some.ensures.is (c.key_in.ensures held.types one.place one.scope one.name one.access)

pub returns-in-None : goal.returns-in-None
returns-in-None c = c.key_by.ensures ∙ no_key c.args.state.now c.args.number.0 c.in-None.ensures.is
