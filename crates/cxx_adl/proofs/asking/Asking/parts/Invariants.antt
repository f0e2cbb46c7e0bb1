use Rattle.std.proofs.Common.{◌-◌, length}
use Rattle.cxx_meaning.specs.Lookups.Associated.{everything}
use Rattle.cxx_adl.specs.Views.{given, graph_of}
use Rattle.cxx_adl.proofs.Turns.{IsUnderWay}
use Rattle.cxx_adl.proofs.asking.Asking.parts.Given as goal

abbrev pub invariant-loop-place : goal.invariant-loop-place
invariant-loop-place l = IsUnderWay (graph_of l.self) l.self.types.now l.of l.place l.found.items

abbrev pub decreases-loop-place : goal.decreases-loop-place
decreases-loop-place l = length (everything (graph_of l.self) (given l.self.types.now l.of)) - l.place
