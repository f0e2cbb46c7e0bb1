use Rattle.cxx_declare.specs.ClassDefinitions as definition
use Rattle.cxx_cursor.specs.Views.{name_at}
use Rattle.cxx_tree.specs.Answered.{IsFactKnown, fact_number, scope_of_option}
use Rattle.cxx_tree.specs.Held.{meaning, type_of}
use Rattle.cxx_declaring.proofs.Answering.{named_asked}
use Rattle.cxx_declaring.proofs.phrases.DeclaringDefines.declare_member.Goals as goal

pub returns : goal.returns
returns c = named_asked fact_number IsFactKnown c.args.state.now c.declare_member.new.state c.declare_member.result (λ name. definition.declare_member c.args.words (scope_of_option c.args.list) name (type_of c.args.state.now c.args.of) (meaning c.args.state.now)) (name_at c.args.name.now) c.as_slice-word.result.now c.as_slice-word.ensures c.declare_member.ensures
