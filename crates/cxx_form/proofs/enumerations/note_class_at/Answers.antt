use Rattle.cxx_form.proofs.Enumerated.{class_at}
use Rattle.cxx_form.proofs.enumerations.note_class_at.Goals as goal

pub returns : goal.returns
returns c =
    let held = c.args.state.now in
    class_at held.types held.graph.facts c.args.number c.fact-fact.result.now c.args.slots.now c.note.new.slots c.class_of.result c.fact-fact.ensures.is (c.class_of.ensures held.types) c.in_ok-note.ensures
