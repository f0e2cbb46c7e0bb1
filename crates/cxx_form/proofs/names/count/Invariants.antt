-- those so far and the rest are all
use Rattle.std.proofs.Common.{◌≡◌, ◌≤◌, ◌+◌, drop}
use Rattle.cxx_model.specs.Facts.Graph.{enumerations}
use Rattle.cxx_form.proofs.names.count.Given as goal

abbrev pub invariant-loop-number : goal.invariant-loop-number
invariant-loop-number l = record {
  few : l.total ≤ l.number;
  counted : l.total + enumerations (drop l.number l.state.graph.facts) ≡ enumerations l.state.graph.facts;
}
