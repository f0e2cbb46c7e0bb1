use Rattle.std.proofs.Common.{length, sym, subst}
use Rattle.cxx_model.specs.Types.Numbers.{AreTypesBelow, IsNodeBelow}
use Rattle.cxx_form.proofs.Signed.{parameters_below}
use Rattle.cxx_form.proofs.mark.ends_by.Goals as goal

pub ends_of-requires : goal.ends_of-requires
ends_of-requires c =
    let count = length c.args.types.now in
    let f = c.in-Function in
    subst (AreTypesBelow count) (sym c.as_slice.ensures) (parameters_below c.args.of.0 count f.result f.parameters f.ellipsis f.cv (subst (IsNodeBelow c.args.of.0) f.is c.node.ensures.below) c.requires)
