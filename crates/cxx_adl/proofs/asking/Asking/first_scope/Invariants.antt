use Rattle.std.proofs.Common.{◌≡◌, drop}
use Rattle.cxx_model.specs.Facts.Declarations.{facts_at}
use Rattle.cxx_meaning.specs.Lookups.Associated.{first_scope}
use Rattle.cxx_adl.specs.Tests.{declares}
use Rattle.cxx_adl.specs.Views.{facts_of}
use Rattle.cxx_adl.proofs.asking.Asking.first_scope.Given as goal

abbrev pub invariant-loop-fact : goal.invariant-loop-fact
invariant-loop-fact l = first_scope (declares l.named) (facts_at l.self.types.now (drop l.fact-index l.fact-items)) ≡ first_scope (declares l.named) (facts_of l.self)
