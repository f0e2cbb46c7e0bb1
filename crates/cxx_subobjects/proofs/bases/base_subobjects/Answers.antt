use Rattle.std.proofs.Common.{◌∙◌, List, ℕ, ap, subst, sym}
use Rattle.std.specs.BTreeMap.{get}
use Rattle.std.specs.Ordering.{nat_cmp}
use Rattle.cxx_model.specs.declared.types.ClassId.{ClassId}
use Rattle.cxx_model.specs.Facts.Declarations.{graph_at}
use Rattle.cxx_subobjects.specs.Paths.{subobjects}
use Rattle.cxx_subobjects.specs.Reached.{IsTrail}
use Rattle.cxx_subobjects.specs.Steps.{paths_of}
use Rattle.cxx_subobjects.specs.Table.{entry_of, kept_at}
use Rattle.cxx_subobjects.proofs.Trail.{is_also, reached_all}
use Rattle.cxx_subobjects.proofs.bases.base_subobjects.Goals as goal

pub returns : goal.returns
returns c =
    let table = c.in_ok-table.table in
    let graph = c.args.graph.now in
    let entries = get nat_cmp table.known in
    let trail = subst (λ (ks : List ℕ). IsTrail graph.facts c.args.class.0 ks) (sym c.deref.ensures.value) c.in_ok-order.ensures in
    let base = ap (λ (b : ClassId). kept_at (paths_of table.steps.items) (entry_of b.0 entries c.args.class.0)) c.in_ok-table.ensures.base in
    let is = base ∙ c.in_ok-table.ensures.table c.args.class.0 ∙ reached_all c.args.types.now graph c.args.class.0 c.args.base.0 c.deref.result.now trail in
    is_also c.found.result (kept_at (paths_of table.steps.items) (entry_of table.base.0 entries c.args.class.0)) (subobjects (graph_at c.args.types.now graph) c.args.class.0 c.args.base.0) is c.found.ensures
