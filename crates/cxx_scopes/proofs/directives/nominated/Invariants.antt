use Rattle.std.proofs.Common.{◌≡◌, ◌++◌, drop}
use Rattle.cxx_model.specs.Facts.Declarations.{facts_at}
use Rattle.cxx_meaning.specs.Lookups.Gathered.{gathered}
use Rattle.cxx_meaning.specs.Lookups.Directives.{nominates}
use Rattle.cxx_members.specs.Views.{facts_of}
use Rattle.cxx_scopes.proofs.directives.nominated.Given as goal

abbrev pub invariant-loop-number : goal.invariant-loop-number
invariant-loop-number g l = l.spaces.items ++ gathered (nominates (facts_of l.looking) l.cut l.scope) l.number (facts_at l.looking.types.now (drop l.number l.looking.graph.now.facts)) ≡ gathered (nominates (facts_of l.looking) l.cut l.scope) 0 (facts_of l.looking)
