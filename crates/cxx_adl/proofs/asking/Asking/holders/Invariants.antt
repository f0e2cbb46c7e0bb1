use Rattle.std.proofs.Common.{◌≡◌, ◌++◌, drop}
use Rattle.cxx_adl.specs.Views.{holders_of}
use Rattle.cxx_adl.proofs.asking.Asking.holders.Given as goal

abbrev pub invariant-loop-fact : goal.invariant-loop-fact
invariant-loop-fact l = l.holders.items ++ holders_of (drop l.fact-index l.fact-items) ≡ holders_of l.self.graph.now.facts
