use Rattle.cxx_declare.specs.Outside as definition
use Rattle.cxx_cursor.specs.Views.{name_at}
use Rattle.cxx_tree.specs.Answered.{IsFactKnown, fact_number}
use Rattle.cxx_tree.specs.Held.{meaning, type_of}
use Rattle.cxx_declaring.proofs.Answering.{named_asked}
use Rattle.cxx_declaring.proofs.declares.DeclaringDeclares.declare_again.Goals as goal

pub returns : goal.returns
returns c = named_asked fact_number IsFactKnown c.args.state.now c.declare_again.new.state c.declare_again.result (λ name. definition.declare_again name c.args.cv (type_of c.args.state.now c.args.of) (meaning c.args.state.now)) (name_at c.args.name.now) c.as_slice.result.now c.as_slice.ensures c.declare_again.ensures
