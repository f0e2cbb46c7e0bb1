use Rattle.std.proofs.Common.{◌≡◌, drop, length, map}
use Rattle.cxx_model.specs.Types.Numbers.{AreTypesBelow, types_at}
use Rattle.cxx_meaning.specs.Lookups.Associated.{each_of, with_parts}
use Rattle.cxx_adl.specs.Views.{ArePartsBelow, part_at}
use Rattle.cxx_adl.proofs.asking.Asking.add_types.Given as goal

abbrev pub invariant-loop-one : goal.invariant-loop-one
invariant-loop-one l = record { rest : with_parts (map (part_at l.self.types.now) l.parts.items) (each_of (types_at l.self.types.now (drop l.one-index l.types))) ≡ with_parts (map (part_at l.self.types.now) l.fn.parts.items) (each_of (types_at l.self.types.now l.types)); below : ArePartsBelow (length l.self.types.now) l.parts.items; left : AreTypesBelow (length l.self.types.now) (drop l.one-index l.types) }
