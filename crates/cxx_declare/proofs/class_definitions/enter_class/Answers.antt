use Rattle.cxx_model.specs.declared.facts.ScopeKind.TheVariants as scope_kind
use Rattle.cxx_declare.proofs.Begun.{class_entered, class_not_entered, class_still}
use Rattle.cxx_tree.specs.Whole.{scope_fact}
use Rattle.cxx_declare.proofs.class_definitions.enter_class.Goals as goal

pub inject-requires-clause-class : goal.inject-requires-clause-class
inject-requires-clause-class c = class_still c.args.state.now c.add_class_scope.new.self (scope_fact (scope_kind.Class c.args.class) c.args.place c.args.state.now.scope) c.args.class.0 c.in-Ok.ensures.held c.requires

pub returns-in-Ok : goal.returns-in-Ok
returns-in-Ok c = λ kind. class_entered c.args.state.now c.add_class_scope.new.self c.inject.new.state kind c.args.place c.args.word.now c.args.class c.in-Ok.inner c.inject.result c.in-Ok.ensures.answered (c.inject.ensures kind)

pub returns-in-Err : goal.returns-in-Err
returns-in-Err c = λ kind. class_not_entered c.args.state.now c.add_class_scope.new.self kind c.args.place c.args.word.now c.args.class c.in-Err.stop c.in-Err.ensures.answered
