use Rattle.std.proofs.Common.{length, sym, subst}
use Rattle.cxx_model.specs.Types.Numbers.{AreTypesBelow, IsNodeBelow}
use Rattle.cxx_names.proofs.Types.{parameters_below}
use Rattle.cxx_declare.proofs.Worded.{result_below}
use Rattle.cxx_declare.proofs.again.same_worded.Goals as goal

pub same-requires-clause-one_known : goal.same-requires-clause-one_known
same-requires-clause-one_known c =
    let f = c.in-Function-node in
    result_below c.args.one.0 (length c.args.types.now) f.first f.ones f.ellipsis f.words (subst (IsNodeBelow c.args.one.0) f.is c.node-in-Function.ensures.below) c.requires.one

pub same-requires-clause-two_known : goal.same-requires-clause-two_known
same-requires-clause-two_known c =
    let f = c.in-Function in
    result_below c.args.of.0 (length c.args.types.now) f.second f.twos f.other f.cv (subst (IsNodeBelow c.args.of.0) f.is c.node.ensures.below) c.requires.of

pub same_types-requires-clause-ones : goal.same_types-requires-clause-ones
same_types-requires-clause-ones c =
    let count = length c.args.types.now in
    let f = c.in-Function-node in
    subst (AreTypesBelow count) (sym c.as_slice.ensures) (parameters_below c.args.one.0 count f.first f.ones f.ellipsis f.words (subst (IsNodeBelow c.args.one.0) f.is c.node-in-Function.ensures.below) c.requires.one)

pub same_types-requires-clause-twos : goal.same_types-requires-clause-twos
same_types-requires-clause-twos c =
    let count = length c.args.types.now in
    let f = c.in-Function in
    subst (AreTypesBelow count) (sym c.as_slice-then-same.ensures) (parameters_below c.args.of.0 count f.second f.twos f.other f.cv (subst (IsNodeBelow c.args.of.0) f.is c.node.ensures.below) c.requires.of)
