use Rattle.std.proofs.Common.{◌≡◌, ◌≤◌, length}
use Rattle.std.specs.List.{list_any}
use Rattle.cxx_model.specs.Facts.Declarations.{facts_at}
use Rattle.cxx_meaning.specs.Conversions.Derived.{is_derived_before}
use Rattle.cxx_standard.specs.Reached.{AreAllBelow, reaches}
use Rattle.cxx_standard.proofs.classes.is_derived.Given as goal

abbrev pub invariant-loop-number : goal.invariant-loop-number
invariant-loop-number l = record {
  within : l.bound ≤ length l.graph.facts;
  below : AreAllBelow l.bound l.waiting.keys;
  waits : list_any (reaches (facts_at l.types l.graph.facts) l.base.0) l.waiting.keys ≡ is_derived_before (facts_at l.types l.graph.facts) (length l.graph.facts) l.fn.class.0 l.base.0;
}

abbrev pub decreases-loop-number : goal.decreases-loop-number
decreases-loop-number l = l.bound
