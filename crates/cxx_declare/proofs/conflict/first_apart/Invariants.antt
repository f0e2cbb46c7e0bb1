use Rattle.std.proofs.Common.{◌≡◌, drop}
use Rattle.cxx_reading.specs.Linked.{first_apart}
use Rattle.cxx_reading.specs.Seen.{fact_numbers, numbered_at}
use Rattle.cxx_tree.specs.Held.{meaning}
use Rattle.cxx_declare.proofs.conflict.first_apart.Given as goal

abbrev pub invariant-loop-number : goal.invariant-loop-number
invariant-loop-number l = first_apart (meaning l.state) l.linked (numbered_at (meaning l.state).graph (fact_numbers (drop l.number-index l.numbers))) ≡ first_apart (meaning l.state) l.linked (numbered_at (meaning l.state).graph (fact_numbers l.numbers))
