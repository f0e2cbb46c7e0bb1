use Rattle.std.proofs.Common.{◌≡◌, ◌-◌, drop, length}
use Rattle.std.specs.BTreeMap.{get}
use Rattle.std.specs.Ordering.{nat_cmp}
use Rattle.cxx_subobjects.specs.Reached.{along}
use Rattle.cxx_subobjects.specs.Table.{AreKnown, IsTable}
use Rattle.cxx_subobjects.proofs.bases.counted.Given as goal

abbrev pub invariant-loop-done : goal.invariant-loop-done
invariant-loop-done l = record {
  base : l.table.base ≡ l.fn.base;
  known : AreKnown l.table.steps.items (get nat_cmp l.table.known);
  table : IsTable l.fn.base.0 l.table.steps.items (get nat_cmp l.table.known) (along l.graph.facts l.fn.base.0 (drop (length l.order - l.done) l.order));
}
