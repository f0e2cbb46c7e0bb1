use Rattle.std.proofs.Common.{◌≡◌, ◌++◌, drop}
use Rattle.cxx_tree.specs.Held.{meaning}
use Rattle.cxx_expr.specs.Names.{values_among}
use Rattle.cxx_expr.specs.Views.{AreFactsKnown, numbered}
use Rattle.cxx_called.proofs.facts.values_among.Given as goal

abbrev pub invariant-loop-number : goal.invariant-loop-number
invariant-loop-number l = record {
  known : AreFactsKnown l.state l.values;
  is : numbered l.state l.values ++ values_among (meaning l.state).graph (numbered l.state (drop l.number-index l.all)) ≡ values_among (meaning l.state).graph (numbered l.state l.all);
}
