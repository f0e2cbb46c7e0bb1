use Rattle.std.proofs.Common.{◌≡◌, drop, length, map}
use Rattle.cxx_adl.specs.Views.{ArePartsBelow, graph_of, part_at}
use Rattle.cxx_meaning.specs.Lookups.Associated.{with_spaces}
use Rattle.cxx_adl.proofs.asking.Asking.add_spaces.Given as goal

abbrev pub invariant-loop-part : goal.invariant-loop-part
invariant-loop-part l = record { rest : with_spaces (graph_of l.self) (map (part_at l.self.types.now) (drop l.part-index l.parts)) l.spaces.items ≡ with_spaces (graph_of l.self) (map (part_at l.self.types.now) l.parts) l.fn.spaces.items; left : ArePartsBelow (length l.self.types.now) (drop l.part-index l.parts) }
