use Rattle.std.proofs.Common.{ap, ◌∙◌}
use Rattle.cxx_model.specs.declared.facts.Name.TheVariants.{Spelled}
use Rattle.cxx_declare.specs.Made.{made}
use Rattle.cxx_declare.proofs.Listing.{enumerator_ready, value_added, value_stopped}
use Rattle.cxx_declare.proofs.enumerations.declare_value.Goals as goal

pub add-requires : goal.add-requires
add-requires c = enumerator_ready c.args.state.now c.args.place c.args.word.now c.args.number c.args.value.now c.in-Ok.fact _ _ c.in-Ok-checked.field-0 c.in-Ok.ensures.there c.requires (c.in-Ok.ensures.is ∙ ap (made c.args.state.now.scope c.args.place (Spelled c.args.word.now)) c.enumerator.ensures) c.in-Ok-checked.ensures

pub returns-in-Ok-checked : goal.returns-in-Ok-checked
returns-in-Ok-checked c = λ kind. value_added c.args.state.now c.add.new.state kind c.args.place c.args.word.now c.args.number c.args.value.now c.in-Ok.fact c.add.result c.in-Ok-checked.field-0 (c.in-Ok.ensures.is ∙ ap (made c.args.state.now.scope c.args.place (Spelled c.args.word.now)) c.enumerator.ensures) c.in-Ok-checked.ensures c.add.ensures

pub returns-in-Err-checked : goal.returns-in-Err-checked
returns-in-Err-checked c = λ kind. value_stopped c.args.state.now kind c.args.place c.args.word.now c.args.number c.args.value.now c.in-Ok.fact c.in-Err-checked.stop (c.in-Ok.ensures.is ∙ ap (made c.args.state.now.scope c.args.place (Spelled c.args.word.now)) c.enumerator.ensures) c.in-Err-checked.ensures
