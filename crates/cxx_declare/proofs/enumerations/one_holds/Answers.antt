use Rattle.std.specs.Prelude.{ℤ, ◌++◌, [], ◌∷◌}
use Rattle.std.proofs.Common.{ap, rules, ◌∙◌}
use Rattle.std.proofs.lemmas.Int.{to_z-of_z}
use mir.Val.{SFits}
use mir.Syntax.{w128}
use Rattle.cxx_model.specs.Facts.Graph.{Graph, values_of}
use Rattle.cxx_model.specs.Types.Integral.{one_holds}
use Rattle.cxx_declare.proofs.Listing.{holds_here}
use Rattle.cxx_declare.proofs.enumerations.one_holds.Goals as goal

pub returns : goal.returns
returns c =
    let fits : SFits w128 c.args.value.now = search rules in
    c.one_holds.ensures
    ∙ (ap (λ (v : ℤ). one_holds (values_of c.graph.result.now.facts c.args.number.0 ++ v ∷ [])) (to_z-of_z w128 c.args.value.now fits)
    ∙ (ap (λ (g : Graph). one_holds (values_of g.facts c.args.number.0 ++ c.args.value.now ∷ [])) c.graph.ensures.is
    ∙ holds_here c.args.state.now c.args.number.0 c.args.value.now))
