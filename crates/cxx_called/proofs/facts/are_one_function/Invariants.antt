use Rattle.std.proofs.Common.{◌≡◌, drop}
use Rattle.cxx_expr.specs.Names.{are_one_function}
use Rattle.cxx_expr.specs.Views.{numbered}
use Rattle.cxx_called.proofs.facts.are_one_function.Given as goal

abbrev pub invariant-loop-number : goal.invariant-loop-number
invariant-loop-number l = are_one_function l.target.0 (numbered l.state (drop l.number-index l.numbers)) ≡ are_one_function l.target.0 (numbered l.state l.numbers)
