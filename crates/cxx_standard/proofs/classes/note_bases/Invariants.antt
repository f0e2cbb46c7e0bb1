use Rattle.std.proofs.Common.{◌≡◌, ◌||◌, take}
use Rattle.std.specs.List.{list_any}
use Rattle.cxx_model.specs.Facts.Declarations.{facts_at}
use Rattle.cxx_standard.specs.Reached.{AreAllBelow, passes_below, reaches}
use Rattle.cxx_standard.proofs.classes.note_bases.Given as goal

abbrev pub invariant-loop-number : goal.invariant-loop-number
invariant-loop-number l = record {
  below : AreAllBelow l.before l.waiting.keys;
  noted : list_any (reaches (facts_at l.fn.types l.graph.facts) l.fn.base.0) l.waiting.keys ≡ (list_any (reaches (facts_at l.fn.types l.graph.facts) l.fn.base.0) l.fn.waiting.keys || list_any (passes_below l.before (reaches (facts_at l.fn.types l.graph.facts) l.fn.base.0)) (take l.number-index l.numbers));
}
