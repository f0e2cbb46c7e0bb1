use Rattle.cxx_declare.specs.ClassDefinitions.{begin_class}
use Rattle.cxx_cursor.specs.Views.{name_at}
use Rattle.cxx_tree.specs.Answered.{IsClassKnown, class_number}
use Rattle.cxx_tree.specs.Held.{meaning}
use Rattle.cxx_declaring.proofs.Answering.{named_known}
use Rattle.cxx_declaring.proofs.phrases.DeclaringDefines.begin_class.Goals as goal

pub returns : goal.returns
returns c = named_known class_number IsClassKnown c.args.state.now c.begin_class.new.state c.begin_class.result (λ name. begin_class c.args.is_union name (meaning c.args.state.now)) (name_at c.args.name.now) c.as_slice.result.now c.as_slice.ensures c.begin_class.ensures
