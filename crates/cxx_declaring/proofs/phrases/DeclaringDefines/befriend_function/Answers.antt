use Rattle.cxx_declare.specs.Friends as definition
use Rattle.cxx_cursor.specs.Views.{name_at}
use Rattle.cxx_tree.specs.Answered.{AnyKnown, fact_number, scope_of_option}
use Rattle.cxx_tree.specs.Held.{meaning, type_of}
use Rattle.cxx_declaring.proofs.Answering.{named_asked}
use Rattle.cxx_declaring.proofs.phrases.DeclaringDefines.befriend_function.Goals as goal

pub returns : goal.returns
returns c = named_asked fact_number AnyKnown c.args.state.now c.befriend_function.new.state c.befriend_function.result (λ name. definition.befriend_function c.args.scope.0 (scope_of_option c.args.list) name (type_of c.args.state.now c.args.of) (meaning c.args.state.now)) (name_at c.args.name.now) c.as_slice-word.result.now c.as_slice-word.ensures c.befriend_function.ensures
