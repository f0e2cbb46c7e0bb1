use Rattle.std.specs.Prelude.{IfSome}
use Rattle.std.specs.Option.{option_copied}
use Rattle.std.proofs.Common.{◌≡◌, [], ◌∷◌, length, option_map, ap, sym, subst, ◌∙◌}
use Rattle.cxx_model.specs.Facts.Declarations.{declares_at}
use Rattle.cxx_model.specs.Facts.Fitted.{IsEntityBelow}
use Rattle.cxx_model.specs.Types.Numbers.{type_at}
use Rattle.cxx_declare.specs.Agreed.{seen_as}
use Rattle.cxx_declare.specs.Outside as members
use Rattle.cxx_tree.specs.Held.{type_of}
use Rattle.cxx_declare.proofs.Agreeing.{entity_below}
use Rattle.cxx_declare.proofs.Redeclared.{again_none, again_one}
use Rattle.cxx_declare.proofs.again.again_at.Goals as goal

pub again_by-requires-clause-what : goal.again_by-requires-clause-what
again_by-requires-clause-what c = subst (λ ts. IsEntityBelow (length ts) c.in-Some.fact.now.what) (sym c.types.ensures.is) (entity_below c.args.state.now c.graph.result.now c.args.number.0 c.in-Some.fact.now c.graph.ensures.is c.graph.ensures.fitted (sym c.fact_of.ensures ∙ ap option_copied c.in-Some.is))

pub returns-in-Some-clause-is : goal.returns-in-Some-clause-is
returns-in-Some-clause-is c =
    again_one c.args.state.now c.graph.result.now c.args.cv (type_of c.args.state.now c.args.of) c.args.number.0 c.in-Some.fact.now (option_map (declares_at c.args.state.now.types) c.again_by.result) c.graph.ensures.is (sym c.fact_of.ensures ∙ ap option_copied c.in-Some.is)
    (subst (λ ts. option_map (declares_at ts) c.again_by.result ≡ members.again_among c.args.cv (type_at ts c.args.of.0) (seen_as ts c.args.number.0 c.in-Some.fact.now ∷ [])) c.types.ensures.is c.again_by.ensures.is)

pub returns-in-Some-clause-below : goal.returns-in-Some-clause-below
returns-in-Some-clause-below c = subst (λ ts. IfSome c.again_by.result (IsEntityBelow (length ts))) c.types.ensures.is c.again_by.ensures.below

pub returns-in-None-clause-is : goal.returns-in-None-clause-is
returns-in-None-clause-is c = again_none c.args.state.now c.graph.result.now c.args.cv (type_of c.args.state.now c.args.of) c.args.number.0 c.graph.ensures.is (sym c.fact_of.ensures ∙ ap option_copied c.in-None.is)
