use Rattle.std.proofs.Common.{◌≡◌, drop, length, map}
use Rattle.cxx_adl.specs.Views.{ArePartsBelow, part_at}
use Rattle.cxx_meaning.specs.Lookups.Associated.{class_of, collected}
use Rattle.cxx_found.specs.Views.{types_of}
use Rattle.cxx_found.proofs.seeking.Seeking.add_classes.Given as goal

abbrev pub invariant-loop-part : goal.invariant-loop-part
invariant-loop-part l = record { rest : collected class_of l.classes.items (map (part_at (types_of l.self)) (drop l.part-index l.parts)) ≡ collected class_of l.fn.classes.items (map (part_at (types_of l.self)) l.parts); left : ArePartsBelow (length (types_of l.self)) (drop l.part-index l.parts) }
