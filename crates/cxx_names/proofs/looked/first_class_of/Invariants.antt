use Rattle.std.proofs.Common.{◌≡◌, List, drop}
use Rattle.cxx_model.specs.Types.Trees.{CxxType}
use Rattle.cxx_reading.specs.Classes.{first_class}
use Rattle.cxx_names.specs.Looked.{looked_up}
use Rattle.cxx_names.proofs.looked.first_class_of.Given as goal

abbrev pub invariant-loop-number : goal.invariant-loop-number
invariant-loop-number l = (types : List CxxType) → first_class (looked_up types l.graph.facts (drop l.number-index l.numbers)) ≡ first_class (looked_up types l.graph.facts l.numbers)
