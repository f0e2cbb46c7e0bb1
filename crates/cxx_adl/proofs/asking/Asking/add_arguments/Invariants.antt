use Rattle.std.proofs.Common.{◌≡◌, drop, length, map}
use Rattle.cxx_model.specs.Types.Numbers.{AreArgumentsBelow, arguments_at}
use Rattle.cxx_meaning.specs.Lookups.Associated.{types_among, with_parts}
use Rattle.cxx_adl.specs.Views.{ArePartsBelow, part_at}
use Rattle.cxx_adl.proofs.asking.Asking.add_arguments.Given as goal

abbrev pub invariant-loop-one : goal.invariant-loop-one
invariant-loop-one l = record { rest : with_parts (map (part_at l.self.types.now) l.parts.items) (types_among (arguments_at l.self.types.now (drop l.one-index l.arguments))) ≡ with_parts (map (part_at l.self.types.now) l.fn.parts.items) (types_among (arguments_at l.self.types.now l.arguments)); below : ArePartsBelow (length l.self.types.now) l.parts.items; left : AreArgumentsBelow (length l.self.types.now) (drop l.one-index l.arguments) }
