use Rattle.std.proofs.Common.{◌≡◌, drop, length, map}
use Rattle.std.specs.List.{list_any}
use Rattle.cxx_meaning.specs.Lookups.Associated.{same_part}
use Rattle.cxx_adl.specs.Views.{ArePartsBelow, part_at}
use Rattle.cxx_adl.proofs.asking.Asking.holds.Given as goal

abbrev pub invariant-loop-other : goal.invariant-loop-other
invariant-loop-other l = record { rest : list_any (same_part (part_at l.self.types.now l.part)) (map (part_at l.self.types.now) (drop l.other-index l.parts)) ≡ list_any (same_part (part_at l.self.types.now l.part)) (map (part_at l.self.types.now) l.parts); below : ArePartsBelow (length l.self.types.now) (drop l.other-index l.parts) }
