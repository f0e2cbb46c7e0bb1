use Rattle.std.proofs.Common.{◌≡◌, ◌++◌, drop}
use Rattle.cxx_adl.specs.Views.{holders_of}
use Rattle.cxx_adl.proofs.asking.Asking.read_holders.Given as goal

abbrev pub invariant-loop-number : goal.invariant-loop-number
invariant-loop-number g l = l.holders.items ++ holders_of (drop l.number l.self.graph.now.facts) ≡ holders_of l.self.graph.now.facts
