use Rattle.cxx_model.specs.declared.facts.Name.TheVariants.{Spelled}
use Rattle.cxx_declare.proofs.Begun.{class_again, class_own, word_ready}
use Rattle.cxx_declare.proofs.class_definitions.define_again.Goals as goal

pub define_known-requires-clause-ready : goal.define_known-requires-clause-ready
define_known-requires-clause-ready c = word_ready c.args.state.now c.args.place c.args.word.now c.args.class c.args.is_union c.in-Ok.fact c.in-Ok.ensures.there c.requires c.in-Ok.ensures.is

pub define_known-requires-clause-own : goal.define_known-requires-clause-own
define_known-requires-clause-own c = class_own c.args.place c.args.state.now.scope (Spelled c.args.word.now) c.args.class c.args.is_union c.in-Ok.fact c.in-Ok.ensures.is

pub returns-in-Ok : goal.returns-in-Ok
returns-in-Ok c = λ kind. class_again c.args.state.now c.define_known.new.state kind c.args.place c.args.word.now c.args.class c.args.is_union c.in-Ok.fact c.define_known.result c.in-Ok.ensures.is (c.define_known.ensures kind)
