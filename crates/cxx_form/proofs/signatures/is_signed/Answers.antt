use Rattle.std.proofs.Common.{◌<◌, length, sym, subst, List}
use Rattle.cxx_model.specs.Facts.Declarations.{name_at}
use Rattle.cxx_model.specs.Types.Numbers.{type_at}
use Rattle.cxx_model.specs.Types.Trees.{CxxType}
use Rattle.cxx_form.specs.Shared.{signature_with}
use Rattle.cxx_form.proofs.Signed.{none_signed, not_signed, signed_as}
use Rattle.cxx_form.proofs.signatures.is_signed.Goals as goal

pub returns-in_default : goal.returns-in_default
returns-in_default c =
    let held = c.args.state.now in
    none_signed held.types held.graph.facts c.args.number.0 (signature_with (name_at held.types c.args.name.now) (type_at held.types c.args.of.0)) c.in_default.ensures.is

pub returns-in_default-signed_type : goal.returns-in_default-signed_type
returns-in_default-signed_type c =
    let held = c.args.state.now in
    let fact = c.in-Some.fact.now in
    not_signed held.types held.graph.facts c.args.number.0 fact (signature_with (name_at held.types c.args.name.now) (type_at held.types c.args.of.0)) c.in-Some.ensures.is (c.in_default-signed_type.ensures.is held.types (name_at held.types fact.name))

pub same_signature-requires-clause-other : goal.same_signature-requires-clause-other
same_signature-requires-clause-other c =
    subst (λ (ts : List CxxType). c.in-Some-signed_type.other.0 < length ts) (sym c.types.ensures.is) (c.in-Some-signed_type.ensures.below (length c.args.state.now.types) c.in-Some.ensures.below.what)

pub returns : goal.returns
returns c =
    let held = c.args.state.now in
    let fact = c.in-Some.fact.now in
    signed_as held.types c.types.result.now held.graph.facts c.args.number.0 fact c.args.name.now c.args.of c.in-Some-signed_type.other c.same_signature.result c.types.ensures.is c.in-Some.ensures.is (c.in-Some-signed_type.ensures.is held.types (name_at held.types fact.name)) c.same_signature.ensures
