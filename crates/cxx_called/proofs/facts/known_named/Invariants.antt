use Rattle.std.proofs.Common.{◌≡◌, drop}
use Rattle.cxx_expr.specs.Names.{known_among}
use Rattle.cxx_expr.specs.Views.{numbered}
use Rattle.cxx_called.specs.Views.{named_of}
use Rattle.cxx_called.proofs.facts.known_named.Given as goal

abbrev pub invariant-loop-number : goal.invariant-loop-number
invariant-loop-number l = known_among l.target.0 l.place (numbered l.state (named_of l.state l.name (drop l.number-index l.numbers))) ≡ known_among l.target.0 l.place (numbered l.state (named_of l.state l.name l.numbers))
