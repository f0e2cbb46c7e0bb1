use Rattle.std.proofs.Common.{◌≡◌, drop, length, map}
use Rattle.cxx_adl.specs.Views.{ArePartsBelow, part_at}
use Rattle.cxx_meaning.specs.Lookups.Associated.{class_of, collected, own_classes}
use Rattle.cxx_adl.proofs.asking.Asking.own_classes.Given as goal

abbrev pub invariant-loop-part : goal.invariant-loop-part
invariant-loop-part l = record { rest : collected class_of l.classes.items (map (part_at l.self.types.now) (drop l.part-index l.parts)) ≡ own_classes (map (part_at l.self.types.now) l.parts); left : ArePartsBelow (length l.self.types.now) (drop l.part-index l.parts) }
