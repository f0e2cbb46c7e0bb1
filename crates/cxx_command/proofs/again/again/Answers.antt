use Rattle.std.proofs.Common.{◌≡◌, ◌∙◌, ap, sym}
use Rattle.cxx_model.specs.declared.stop.Fault.{Fault}
use Rattle.cxx_units.specs.Read.{reading_of}
use Rattle.cxx_command.specs.Again.{IsBroken}
use Rattle.cxx_command.specs.Outcome.{Whole, Broken, outcome_of}
use Rattle.cxx_command.proofs.Showing.{shown_as}
use Rattle.cxx_command.proofs.again.again.Goals as goal

pub returns-in-Whole : goal.returns-in-Whole
returns-in-Whole c first is = shown_as c.args.options first c.as_slice.result.now (Whole (reading_of c.args.options c.in-Whole.state)) c.printed_again-shown.result (c.as_slice.ensures.value ∙ is.text) c.in-Whole.ensures (c.printed_again-shown.ensures c.args.options first is)

pub returns-in-Broken : goal.returns-in-Broken
returns-in-Broken c first is =
    let broken : outcome_of c.args.options c.as_slice.result.now ≡ Broken c.deref.result.now = c.in-Broken.ensures ∙ ap (λ (f : Fault). Broken f) (sym c.deref.ensures) in
    shown_as c.args.options first c.as_slice.result.now (Broken c.deref.result.now) c.told.result (c.as_slice.ensures.value ∙ is.text) broken (c.told.ensures (IsBroken c.deref.result.now) c.broken_text.ensures)
