use Rattle.std.proofs.Common.{◌≡◌, drop, length, map}
use Rattle.cxx_adl.specs.Views.{ArePartsBelow, part_at}
use Rattle.cxx_found.specs.Associated.{any_pending}
use Rattle.cxx_found.specs.Views.{graph_of, types_of}
use Rattle.cxx_found.proofs.seeking.Seeking.any_pending.Given as goal

abbrev pub invariant-loop-part : goal.invariant-loop-part
invariant-loop-part l = record { rest : any_pending (graph_of l.self) (map (part_at (types_of l.self)) (drop l.part-index l.parts)) ≡ any_pending (graph_of l.self) (map (part_at (types_of l.self)) l.parts); left : ArePartsBelow (length (types_of l.self)) (drop l.part-index l.parts) }
