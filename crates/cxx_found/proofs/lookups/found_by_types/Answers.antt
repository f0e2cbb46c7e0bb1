use Rattle.std.proofs.Common.{length, subst, sym}
use Rattle.cxx_model.specs.Types.Numbers.{AreTypesBelow}
use Rattle.cxx_found.proofs.Parts.{found_as}
use Rattle.cxx_found.proofs.lookups.found_by_types.Goals as goal

pub found_by_types-requires-clause-of : goal.found_by_types-requires-clause-of
found_by_types-requires-clause-of c = subst (λ ts. AreTypesBelow (length ts) c.args.of.now) (sym c.seeking-seeking.ensures.types) c.requires.of

pub returns : goal.returns
returns c = found_as _ _ _ _ _ _ c.args.of.now c.in_ok-found_by_types.field-0 c.seeking-seeking.ensures.graph c.seeking-seeking.ensures.types c.seeking-seeking.ensures.name c.in_ok-found_by_types.ensures
