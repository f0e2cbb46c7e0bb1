use Rattle.cxx_form.proofs.Enumerated.{named_at}
use Rattle.cxx_form.proofs.enumerations.note_at.Goals as goal

pub returns : goal.returns
returns c =
    let held = c.args.state.now in
    named_at held.types held.graph.facts c.args.number c.fact-fact.result.now c.args.slots.now c.note.new.slots c.named.result c.fact-fact.ensures.is (c.named.ensures held.types) c.in_ok-note.ensures
