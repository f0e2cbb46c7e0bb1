use Rattle.cxx_model.specs.Facts.Declarations.{fact_at}
use Rattle.cxx_declare.specs.Made.{token, word_in}
use Rattle.cxx_declare.proofs.Begun.{known_class, unknown_class}
use Rattle.cxx_declare.proofs.class_definitions.define_known.Goals as goal

pub returns-in-Ok : goal.returns-in-Ok
returns-in-Ok c = λ kind. known_class c.args.state.now c.define_added.new.state (token kind c.args.place c.args.word.now) c.args.class.0 c.args.fact.place (word_in c.args.fact.name) (fact_at c.args.state.now.types c.args.fact) c.in-Ok.field-0 c.define_added.result c.in-Ok.ensures (c.define_added.ensures kind)

pub returns-in-Err : goal.returns-in-Err
returns-in-Err c = λ kind. unknown_class c.args.state.now (token kind c.args.place c.args.word.now) c.args.class.0 c.args.fact.place (word_in c.args.fact.name) (fact_at c.args.state.now.types c.args.fact) c.in-Err.stop c.in-Err.ensures
