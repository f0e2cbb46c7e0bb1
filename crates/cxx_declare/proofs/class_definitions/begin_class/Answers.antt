use Rattle.std.proofs.Common.{Some, None}
use Rattle.cxx_names.specs.Looked.{class_named_at}
use Rattle.cxx_declare.proofs.Begun.{class_begun}
use Rattle.cxx_declare.proofs.class_definitions.begin_class.Goals as goal

pub returns-in-Some : goal.returns-in-Some
returns-in-Some c = λ kind. class_begun c.args.state.now c.define_again.new.state kind c.args.place c.args.word.now c.args.is_union c.scope.result (Some (class_named_at c.in-Some.one)) c.define_again.result c.scope.ensures.is c.in-Some.ensures.is (c.define_again.ensures kind)

pub returns-in-None : goal.returns-in-None
returns-in-None c = λ kind. class_begun c.args.state.now c.define_new.new.state kind c.args.place c.args.word.now c.args.is_union c.scope.result None c.define_new.result c.scope.ensures.is c.in-None.ensures.is (c.define_new.ensures kind)
