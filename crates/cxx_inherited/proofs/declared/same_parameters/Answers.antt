use Rattle.std.proofs.Common.{length, sym, subst}
use Rattle.cxx_model.specs.Types.Numbers.{AreTypesBelow, IsNodeBelow}
use Rattle.cxx_members.proofs.Functions.{parameters_below}
use Rattle.cxx_inherited.proofs.declared.same_parameters.Goals as goal

pub same_types-requires-clause-ones : goal.same_types-requires-clause-ones
same_types-requires-clause-ones c =
    let count = length c.args.types.now in
    let f = c.in-Function in
    subst (AreTypesBelow count) (sym c.as_slice.ensures) (parameters_below c.args.one.0 count f.result f.ones f.first f.cv (subst (IsNodeBelow c.args.one.0) f.is c.node.ensures.below) c.requires.one)

pub same_types-requires-clause-twos : goal.same_types-requires-clause-twos
same_types-requires-clause-twos c =
    let count = length c.args.types.now in
    let f = c.in-Function-node in
    subst (AreTypesBelow count) (sym c.as_slice-in-Function-node.ensures) (parameters_below c.args.two.0 count f.result f.twos f.second f.cv (subst (IsNodeBelow c.args.two.0) f.is c.node-in-Function.ensures.below) c.requires.two)
