use Rattle.std.proofs.Common.{◌≡◌, ◌≤◌, ◌+◌, drop}
use Rattle.cxx_model.specs.Facts.Graph.{enumerations}
use Rattle.cxx_candidate_tests.proofs.fits.enumeration_count.Given as goal

abbrev pub invariant-loop-fact : goal.invariant-loop-fact
invariant-loop-fact l = record { rest : l.count + enumerations (drop l.fact-index l.fact-items) ≡ enumerations l.graph.facts; few : l.count ≤ l.fact-index }
