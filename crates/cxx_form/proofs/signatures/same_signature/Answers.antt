use Rattle.std.proofs.Common.{length, sym, subst}
use Rattle.cxx_model.specs.Types.Numbers.{AreTypesBelow, IsNodeBelow}
use Rattle.cxx_form.proofs.Signed.{parameters_below}
use Rattle.cxx_form.proofs.signatures.same_signature.Goals as goal

pub same_types-requires-clause-ones : goal.same_types-requires-clause-ones
same_types-requires-clause-ones c =
    let count = length c.args.types.now in
    let f = c.in-Function in
    subst (AreTypesBelow count) (sym c.as_slice.ensures) (parameters_below c.args.of.0 count f.result f.ones f.first f.cv (subst (IsNodeBelow c.args.of.0) f.is c.node.ensures.below) c.requires.of)

pub same_types-requires-clause-twos : goal.same_types-requires-clause-twos
same_types-requires-clause-twos c =
    let count = length c.args.types.now in
    let f = c.in-Function-node in
    subst (AreTypesBelow count) (sym c.as_slice-then-same_name.ensures) (parameters_below c.args.other.0 count f.result f.twos f.second f.behind (subst (IsNodeBelow c.args.other.0) f.is c.node-in-Function.ensures.below) c.requires.other)
