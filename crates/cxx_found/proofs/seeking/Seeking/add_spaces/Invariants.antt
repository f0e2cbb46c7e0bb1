use Rattle.std.proofs.Common.{◌≡◌, drop, length, map}
use Rattle.cxx_adl.specs.Views.{ArePartsBelow, part_at}
use Rattle.cxx_meaning.specs.Lookups.Associated.{with_spaces}
use Rattle.cxx_found.specs.Views.{graph_of, types_of}
use Rattle.cxx_found.proofs.seeking.Seeking.add_spaces.Given as goal

abbrev pub invariant-loop-part : goal.invariant-loop-part
invariant-loop-part l = record { rest : with_spaces (graph_of l.self) (map (part_at (types_of l.self)) (drop l.part-index l.parts)) l.spaces.items ≡ with_spaces (graph_of l.self) (map (part_at (types_of l.self)) l.parts) l.fn.spaces.items; left : ArePartsBelow (length (types_of l.self)) (drop l.part-index l.parts) }
