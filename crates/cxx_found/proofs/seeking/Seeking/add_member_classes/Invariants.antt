use Rattle.std.proofs.Common.{◌≡◌, drop, length, map}
use Rattle.cxx_adl.specs.Views.{ArePartsBelow, part_at}
use Rattle.cxx_found.specs.Associated.{with_enumeration_classes}
use Rattle.cxx_found.specs.Views.{graph_of, types_of}
use Rattle.cxx_found.proofs.seeking.Seeking.add_member_classes.Given as goal

abbrev pub invariant-loop-part : goal.invariant-loop-part
invariant-loop-part l = record { rest : with_enumeration_classes (graph_of l.self) (map (part_at (types_of l.self)) (drop l.part-index l.parts)) l.classes.items ≡ with_enumeration_classes (graph_of l.self) (map (part_at (types_of l.self)) l.parts) l.fn.classes.items; left : ArePartsBelow (length (types_of l.self)) (drop l.part-index l.parts) }
