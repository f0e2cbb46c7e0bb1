use Rattle.std.proofs.Common.{◌∙◌, ap, length, subst, sym}
use Rattle.std.specs.BTreeMap.{get}
use Rattle.std.specs.Ordering.{nat_cmp}
use Rattle.cxx_subobjects.specs.declared.table.Kept.{Kept}
use Rattle.cxx_subobjects.specs.Steps.{paths_of}
use Rattle.cxx_subobjects.specs.Table.{IsKnown, behind, joined, kept_at}
use Rattle.cxx_subobjects.proofs.Joining.{entry_known, known_more, known_stays, table_more}
use Rattle.cxx_subobjects.proofs.table.Table.add.Goals as goal

pub returns-clause-known : goal.returns-clause-known
returns-clause-known c =
    let old = c.args.self.now in
    let steps = c.through.new.steps.items in
    let before = entry_known old.steps.items (get nat_cmp old.known) old.base.0 c.args.direct.class.0 c.requires in
    let own = subst (λ (k : Kept). IsKnown (length old.steps.items) k) (sym c.entry-own.ensures) before in
    let first = known_stays (length old.steps.items) (length steps) c.entry-own.result c.in_ok-more.ensures.grows.more own in
    known_more old.steps.items steps (get nat_cmp old.known) (get nat_cmp c.insert.new.self) c.args.direct.class.0 c.join.result c.requires c.in_ok-more.ensures.grows c.in_ok-more.ensures.earlier c.in_ok-insert.ensures.updates.0 (c.join.ensures.known (length steps) first c.in_ok-more.ensures.known)

pub returns-clause-table : goal.returns-clause-table
returns-clause-table c = λ paths table.
    let old = c.args.self.now in
    let steps = c.through.new.steps.items in
    let direct = c.args.direct in
    let through = c.in_ok-more.ensures.is ∙ ap (λ (k : Kept). behind direct.index (kept_at (paths_of old.steps.items) k)) c.entry-base.ensures in
    let join = c.join.ensures.is (paths_of steps) ∙ ap (λ (k : Kept). joined (kept_at (paths_of steps) k) (kept_at (paths_of steps) c.in_ok-more.more)) c.entry-own.ensures in
    table_more old.base.0 old.steps.items steps (get nat_cmp old.known) (get nat_cmp c.insert.new.self) direct c.in_ok-more.more c.join.result paths c.requires c.in_ok-more.ensures.grows c.in_ok-insert.ensures.updates.0 through join table
