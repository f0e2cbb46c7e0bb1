use Rattle.std.proofs.Common.{◌-◌, ◌∙◌, ℕ, List, ◌++◌, ap, arith, drop, length, slice_index_or, subst, sym}
use Rattle.std.specs.BTreeMap.{get, is_at}
use Rattle.std.specs.Map.{lookup}
use Rattle.std.specs.Ordering.{nat_cmp}
use Rattle.std.proofs.lemmas.List.{drop_all}
use Rattle.cxx_model.specs.declared.types.ClassId.{ClassId}
use Rattle.cxx_subobjects.specs.Direct.{direct_base_at, through_base}
use Rattle.cxx_subobjects.specs.Paths.{first_two}
use Rattle.cxx_subobjects.specs.Reached.{along}
use Rattle.cxx_subobjects.specs.Table.{IsTable}
use Rattle.cxx_subobjects.proofs.Joining.{known_empty, table_empty}
use Rattle.cxx_subobjects.proofs.Trail.{drop_one}
use Rattle.cxx_subobjects.proofs.bases.counted.Goals as goal

pub loop-done-init : goal.loop-done-init
loop-done-init c =
    let table = c.new-table.result in
    let order = c.args.order.now in
    record {
      base = c.new-table.ensures.base;
      known = known_empty table.steps.items (get nat_cmp table.known) c.new-table.ensures.steps (λ class. ap (lookup (is_at (nat_cmp class))) c.new-table.ensures.known);
      table = table_empty c.args.base.0 table.steps.items (get nat_cmp table.known) c.args.graph.now.facts (drop (length order - 0) order) c.new-table.ensures.steps (λ class. ap (lookup (is_at (nat_cmp class))) c.new-table.ensures.known) (drop_all (length order - 0) order (omega arith));
    }

pub loop-done-preserved : goal.loop-done-preserved
loop-done-preserved c =
    let old = c.loop-done.table in
    let new = c.count.new.table in
    let facts = c.args.graph.now.facts in
    let order = c.args.order.now in
    let number = slice_index_or order (length order - 1 - c.loop-done.done) 0 in
    let paths = along facts c.args.base.0 (drop (length order - c.loop-done.done) order) in
    let more : ℕ → List (List ℕ) = λ class. paths class ++ through_base paths class (direct_base_at facts number) in
    let before = subst (λ (b : ClassId). IsTable b.0 old.steps.items (get nat_cmp old.known) paths) (sym c.loop-done.invariant.base) c.loop-done.invariant.table in
    let after = subst (λ (b : ClassId). IsTable b.0 new.steps.items (get nat_cmp new.known) more) c.loop-done.invariant.base (c.in_ok-count.ensures.table paths before) in
    let read = drop_one order c.loop-done.done 0 c.loop-done-test.true in
    record {
      base = c.count.ensures.base ∙ c.loop-done.invariant.base;
      known = c.in_ok-count.ensures.known;
      table = λ class. after class ∙ ap (λ (ks : List ℕ). first_two (along facts c.args.base.0 ks class)) (sym read);
    }
