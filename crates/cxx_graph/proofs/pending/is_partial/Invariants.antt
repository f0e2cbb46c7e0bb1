use Rattle.std.proofs.Common.{◌≡◌, drop}
use Rattle.cxx_graph.specs.Defining.{is_any_partial}
use Rattle.cxx_graph.proofs.pending.is_partial.Given as goal

abbrev pub invariant-loop-pattern : goal.invariant-loop-pattern
invariant-loop-pattern l = is_any_partial l.template.0 l.class.0 (drop l.pattern-index l.patterns) ≡ is_any_partial l.template.0 l.class.0 l.patterns
