use Rattle.std.proofs.Common.{◌≡◌, drop}
use Rattle.cxx_declare.specs.Outside.{any_agrees}
use Rattle.cxx_reading.specs.Seen.{fact_numbers, numbered_at}
use Rattle.cxx_tree.specs.Held.{meaning, type_of}
use Rattle.cxx_declare.proofs.outside.any_agrees.Given as goal

abbrev pub invariant-loop-number : goal.invariant-loop-number
invariant-loop-number l = any_agrees (meaning l.state).graph (meaning l.state).here.scope l.is_typedef (type_of l.state l.of) (numbered_at (meaning l.state).graph (fact_numbers (drop l.number-index l.numbers))) ≡ any_agrees (meaning l.state).graph (meaning l.state).here.scope l.is_typedef (type_of l.state l.of) (numbered_at (meaning l.state).graph (fact_numbers l.numbers))
