use Rattle.std.proofs.Common.{ap, sym, ◌∙◌}
use Rattle.std.specs.List.{slice_get}
use Rattle.cxx_model.specs.Facts.Declarations.{facts_at}
use Rattle.cxx_model.specs.Facts.Graph.{Graph}
use Rattle.cxx_reading.specs.Declaring.{declares_by}
use Rattle.cxx_declare.proofs.Defining.{declared_defined, declared_stopped}
use Rattle.cxx_declare.proofs.objects.define_declared.Goals as goal

pub returns-in-Ok : goal.returns-in-Ok
returns-in-Ok c = λ kind. declared_defined c.args.state.now c.note.new.state kind c.args.place c.args.word.now c.args.number.0 _ c.in-Ok.field-0 c.note.result (ap (λ (g : Graph). declares_by (slice_get (facts_at c.args.state.now.types g.facts) c.args.number.0)) (sym c.graph.ensures.is) ∙ c.what_of-what.ensures.at c.args.state.now.types) c.in-Ok.ensures c.note.ensures.later c.note.ensures.is c.note.ensures.memory

pub returns-in-Err : goal.returns-in-Err
returns-in-Err c = λ kind. declared_stopped c.args.state.now kind c.args.place c.args.word.now c.args.number.0 _ c.in-Err.stop (ap (λ (g : Graph). declares_by (slice_get (facts_at c.args.state.now.types g.facts) c.args.number.0)) (sym c.graph.ensures.is) ∙ c.what_of-what.ensures.at c.args.state.now.types) c.in-Err.ensures
