use Rattle.cxx_declare.specs.Outside as definition
use Rattle.cxx_cursor.specs.Views.{name_at}
use Rattle.cxx_tree.specs.Answered.{AnyKnown, itself}
use Rattle.cxx_tree.specs.Held.{meaning, type_of}
use Rattle.cxx_declaring.proofs.Answering.{named_asked}
use Rattle.cxx_declaring.proofs.declares.DeclaringDeclares.agree_here.Goals as goal

pub returns : goal.returns
returns c = named_asked itself AnyKnown c.args.state.now c.args.state.now c.agree_here.result (λ name. definition.agree_here c.args.is_typedef name (type_of c.args.state.now c.args.of) (meaning c.args.state.now)) (name_at c.args.name.now) c.as_slice.result.now c.as_slice.ensures c.agree_here.ensures
