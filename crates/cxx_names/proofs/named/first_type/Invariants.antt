use Rattle.std.proofs.Common.{◌≡◌, drop}
use Rattle.cxx_names.specs.Looked.{looked_up}
use Rattle.cxx_names.specs.Meant.{first_named}
use Rattle.cxx_names.proofs.named.first_type.Given as goal

abbrev pub invariant-loop-number : goal.invariant-loop-number
invariant-loop-number l = first_named (looked_up l.types l.graph.facts (drop l.number-index l.numbers)) ≡ first_named (looked_up l.types l.graph.facts l.numbers)
