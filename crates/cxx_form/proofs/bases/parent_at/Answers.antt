use Rattle.std.proofs.Common.{◌∙◌, subst}
use Rattle.cxx_model.specs.Facts.Graph.{Graph, InRange}
use Rattle.cxx_form.proofs.Derived.{no_parent, parent_is, parent_there}
use Rattle.cxx_form.proofs.bases.parent_at.Goals as goal

pub returns-in_default-clause-is : goal.returns-in_default-clause-is
returns-in_default-clause-is c = no_parent c.args.state.now c.args.number.0 c.in_default.ensures.is

pub returns-clause-is : goal.returns-clause-is
returns-clause-is c = c.parent_in.ensures.is c.args.state.now.types ∙ parent_is c.args.state.now c.args.number.0 c.in-Some.fact.now c.in-Some.ensures.is

pub returns-clause-below : goal.returns-clause-below
returns-clause-below c =
    let graph = c.args.state.now.graph in
    c.parent_in.ensures.below graph (parent_there graph c.args.number.0 c.in-Some.fact.now (subst (λ (g : Graph). InRange g) c.graph.ensures.is c.in_range.ensures) c.in-Some.ensures.is)
