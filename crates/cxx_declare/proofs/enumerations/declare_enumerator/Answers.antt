use Rattle.std.proofs.Common.{rules, subst}
use Rattle.std.proofs.lemmas.Int.{to_z-of_z}
use mir.Val.{SFits}
use mir.Syntax.{w128}
use Rattle.cxx_reading.specs.Declaring.{declare_value}
use Rattle.cxx_declare.specs.Made.{token}
use Rattle.cxx_declare.proofs.Listing.{enumerator_declared}
use Rattle.cxx_tree.specs.Answered.{AnyKnown, IsAnswered, itself}
use Rattle.cxx_tree.specs.Held.{meaning}
use Rattle.cxx_declare.proofs.enumerations.declare_enumerator.Goals as goal

pub returns-in-Some : goal.returns-in-Some
returns-in-Some c = λ kind. (let fits : SFits w128 c.in-Some.value = search rules in
    enumerator_declared c.args.state.now c.declare_value.new.state kind c.args.place c.args.word.now c.args.number.0 c.args.value c.in-Some.value c.declare_value.result c.in-Some.ensures
    (subst (λ v. IsAnswered itself AnyKnown c.args.state.now c.declare_value.new.state c.declare_value.result (declare_value c.args.number.0 (token kind c.args.place c.args.word.now) v (meaning c.args.state.now))) (to_z-of_z w128 c.in-Some.value fits) (c.declare_value.ensures kind)))
