use Rattle.std.specs.Prelude.{◌≡◌, length}
use Rattle.std.specs.Vec.Iter.{into_iter_items, into_iter_len}
use Rattle.cxx_declare.proofs.Begun.{AreLeft}
use Rattle.cxx_declare.proofs.class_definitions.add_each.Given as goal

abbrev pub invariant-loop-fact : goal.invariant-loop-fact
invariant-loop-fact l = AreLeft l.fn.state l.state l.fn.all.items (into_iter_items l.fact-iterator) × (into_iter_len l.fact-iterator ≡ length (into_iter_items l.fact-iterator))
