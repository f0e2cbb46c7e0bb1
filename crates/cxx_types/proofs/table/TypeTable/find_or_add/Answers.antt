use Rattle.std.proofs.Common.{ap, sym, subst, ◌∙◌, length, List, [], ◌∷◌, ◌++◌, ◌≡◌, ℕ}
use Rattle.cxx_model.specs.declared.types.TypeNode.{TypeNode}
use Rattle.cxx_model.specs.Types.Trees.{CxxType, IsNormal}
use Rattle.cxx_model.specs.Types.Proper.{IsProper}
use Rattle.cxx_model.specs.Types.Numbers.{type_over, IsNodeBelow}
use Rattle.cxx_model.proofs.Equal.{same_node}
use Rattle.indexmap.specs.IndexSet.{insert_key}
use Rattle.cxx_types.specs.Levels.{level_count}
use Rattle.cxx_types.specs.Table.{types_of, AreNormal, AreProper, IsTable}
use Rattle.cxx_types.proofs.Nodes.{table-stays, table-grows, made-by-insert}
use Rattle.cxx_types.proofs.table.TypeTable.find_or_add.Goals as goal

grown : (c : goal.In_ok-push) → IsTable c.insert_full.new.self.keys c.push.new.self.items
grown c =
    let below : IsNodeBelow (length (types_of c.self.inside.nodes.keys)) c.args.node = subst (λ (ts : List CxxType). IsNodeBelow (length ts) c.args.node) (sym c.self.view_is) c.requires.below in
    let normal : IsNormal (type_over (types_of c.self.inside.nodes.keys) c.args.node) = subst (λ (ts : List CxxType). IsNormal (type_over ts c.args.node)) (sym c.self.view_is) (c.requires.normal (subst AreNormal c.self.view_is c.self.invariant.normal)) in
    let proper : IsProper (type_over (types_of c.self.inside.nodes.keys) c.args.node) = subst (λ (ts : List CxxType). IsProper (type_over ts c.args.node)) (sym c.self.view_is) (c.requires.proper (subst AreProper c.self.view_is c.self.invariant.proper)) in
    let counts : c.push.new.self.items ≡ c.self.inside.level_counts.items ++ level_count (type_over (types_of c.self.inside.nodes.keys) c.args.node) ∷ [] =
    c.in_ok-push.ensures.items ∙ ap (λ (cs : List ℕ). cs ++ c.levels_over-levels.result ∷ []) c.reserve.ensures.items ∙ ap (λ (n : ℕ). c.self.inside.level_counts.items ++ n ∷ []) (c.levels_over-levels.ensures ∙ sym (ap (λ (ts : List CxxType). level_count (type_over ts c.args.node)) c.self.view_is)) in
    subst (λ (keys : List TypeNode). IsTable keys c.push.new.self.items) (sym c.in_ok-index.ensures.keys)
    (subst (λ (cs : List ℕ). IsTable (insert_key same_node c.self.inside.nodes.keys c.args.node) cs) (sym counts)
    (table-grows c.self.inside.nodes.keys c.self.inside.level_counts.items c.args.node c.in_ok-index.is_new c.self.invariant below normal proper c.in_ok-index.ensures.added c.if-is_new.true))

pub invariant_of-self-in-Continue-branch-3 : goal.invariant_of-self-in-Continue-branch-3
invariant_of-self-in-Continue-branch-3 c = grown c

pub returns-in_ok-push : goal.returns-in_ok-push
returns-in_ok-push c =
    let stored = c.in_ok-index.ensures.stored in
    made-by-insert c.args.self.now c.self.inside.nodes.keys c.insert_full.new.self.keys c.push.new.self.items c.args.node stored.0 c.in_ok-index.index c.self.view_is c.in_ok-index.ensures.keys (grown c) c.requires.below stored.1 stored.2 c.in_ok-index.ensures.within

pub returns-else-is_new : goal.returns-else-is_new
returns-else-is_new c =
    let stored = c.in_ok-index.ensures.stored in
    let table : IsTable c.insert_full.new.self.keys c.self.inside.level_counts.items =
    subst (λ (keys : List TypeNode). IsTable keys c.self.inside.level_counts.items) (sym c.in_ok-index.ensures.keys)
    (table-stays c.self.inside.nodes.keys c.self.inside.level_counts.items c.args.node c.in_ok-index.is_new c.self.invariant c.in_ok-index.ensures.added c.if-is_new.false) in
    made-by-insert c.args.self.now c.self.inside.nodes.keys c.insert_full.new.self.keys c.self.inside.level_counts.items c.args.node stored.0 c.in_ok-index.index c.self.view_is c.in_ok-index.ensures.keys table c.requires.below stored.1 stored.2 c.in_ok-index.ensures.within
