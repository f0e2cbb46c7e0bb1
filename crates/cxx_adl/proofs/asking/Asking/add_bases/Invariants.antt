use Rattle.std.proofs.Common.{◌≡◌, drop, length, map}
use Rattle.cxx_meaning.specs.Lookups.Associated.{bases_of, with_parts}
use Rattle.cxx_adl.specs.Views.{ArePartsBelow, facts_of, part_at}
use Rattle.cxx_adl.proofs.Bases.{bases_at}
use Rattle.cxx_adl.proofs.asking.Asking.add_bases.Given as goal

abbrev pub invariant-loop-number : goal.invariant-loop-number
invariant-loop-number l = record { rest : with_parts (map (part_at l.self.types.now) l.parts.items) (bases_at (facts_of l.self) l.class.0 (drop l.number-index l.number-items)) ≡ with_parts (map (part_at l.self.types.now) l.fn.parts.items) (bases_of (facts_of l.self) l.class.0); below : ArePartsBelow (length l.self.types.now) l.parts.items }
