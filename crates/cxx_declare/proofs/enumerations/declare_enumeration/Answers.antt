use Rattle.std.proofs.Common.{ap, ◌∙◌}
use Rattle.cxx_model.specs.Facts.Declarations.{facts_at}
use Rattle.cxx_model.specs.Facts.Graph.{Graph, enumerations}
use Rattle.cxx_reading.specs.Declaring.{enumeration_count}
use Rattle.cxx_declare.proofs.Listing.{enumeration_begun, enumeration_stopped}
use Rattle.cxx_declare.proofs.enumerations.declare_enumeration.Goals as goal

pub returns-in-Ok : goal.returns-in-Ok
returns-in-Ok c = λ one named. enumeration_begun c.args.state.now c.declare.new.state c.set_enumeration.new.self c.scope.result c.args.name c.args.place c.enumerations-number.result one c.fact_in-fact.result c.in-Ok.field-0 c.scope.ensures.is (c.enumerations-number.ensures.is c.args.state.now.types ∙ ap (λ (g : Graph). enumeration_count (facts_at c.args.state.now.types g.facts)) c.graph.ensures.is) (c.enumerations-number.ensures.counted ∙ ap (λ (g : Graph). enumerations g.facts) c.graph.ensures.is) c.fact_in-fact.ensures named c.in-Ok.ensures.answered c.in-Ok.ensures.held c.set_enumeration.ensures.later c.set_enumeration.ensures.is c.set_enumeration.ensures.held

pub returns-in-Err : goal.returns-in-Err
returns-in-Err c = λ one named. enumeration_stopped c.args.state.now c.declare.new.state c.scope.result c.args.name c.args.place c.enumerations-number.result one c.fact_in-fact.result c.in-Err.stop c.scope.ensures.is (c.enumerations-number.ensures.is c.args.state.now.types ∙ ap (λ (g : Graph). enumeration_count (facts_at c.args.state.now.types g.facts)) c.graph.ensures.is) c.fact_in-fact.ensures named c.in-Err.ensures.answered
