use Rattle.std.proofs.Common.{◌≡◌, drop}
use Rattle.cxx_model.specs.Types.Numbers.{type_at}
use Rattle.cxx_reading.specs.Declaring.{first_function}
use Rattle.cxx_names.specs.Looked.{looked_up}
use Rattle.cxx_names.proofs.looked.first_function_of.Given as goal

abbrev pub invariant-loop-number : goal.invariant-loop-number
invariant-loop-number l = first_function (type_at l.types l.of.0) (looked_up l.types l.graph.facts (drop l.number-index l.numbers)) ≡ first_function (type_at l.types l.of.0) (looked_up l.types l.graph.facts l.numbers)
