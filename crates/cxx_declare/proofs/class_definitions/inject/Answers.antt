use Rattle.cxx_declare.proofs.Begun.{injected_as, injected_ready}
use Rattle.cxx_declare.proofs.class_definitions.inject.Goals as goal

pub add_injected-requires-clause-ready : goal.add_injected-requires-clause-ready
add_injected-requires-clause-ready c = injected_ready c.args.state.now c.args.place c.args.word.now c.args.class c.args.inner c.in-Ok.name c.fact_in-fact.result c.requires.there c.requires.class c.in-Ok.ensures c.fact_in-fact.ensures

pub returns-in-Ok : goal.returns-in-Ok
returns-in-Ok c = λ kind. injected_as c.args.state.now c.add_injected.new.state kind c.args.place c.args.word.now c.args.class c.args.inner c.in-Ok.name c.fact_in-fact.result c.add_injected.result c.in-Ok.ensures c.fact_in-fact.ensures c.add_injected.ensures
