use Rattle.std.proofs.Common.{◌≡◌, drop}
use Rattle.cxx_declare.specs.Outside as members
use Rattle.cxx_reading.specs.Seen.{fact_numbers, numbered_at}
use Rattle.cxx_tree.specs.Held.{meaning, type_of}
use Rattle.cxx_declare.proofs.again.again_among.Given as goal

abbrev pub invariant-loop-number : goal.invariant-loop-number
invariant-loop-number l = members.again_among l.cv (type_of l.state l.of) (numbered_at (meaning l.state).graph (fact_numbers (drop l.number-index l.numbers))) ≡ members.again_among l.cv (type_of l.state l.of) (numbered_at (meaning l.state).graph (fact_numbers l.numbers))
