use Rattle.std.proofs.Common.{◌≡◌, List, drop}
use Rattle.cxx_model.specs.Facts.Declarations.{facts_at}
use Rattle.cxx_model.specs.Types.Trees.{CxxType}
use Rattle.cxx_this.specs.Begun.{begun_each}
use Rattle.cxx_this.specs.This.{begun_in}
use Rattle.cxx_this.proofs.this.begun_in.Given as goal

abbrev pub invariant-loop-number : goal.invariant-loop-number
invariant-loop-number l = (types : List CxxType) → begun_each (facts_at types l.graph.facts) (drop l.number-index l.number-items) ≡ begun_in l.fn.scope.0 (facts_at types l.graph.facts)
