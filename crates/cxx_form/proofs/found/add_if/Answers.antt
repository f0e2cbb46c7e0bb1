use Rattle.std.proofs.Common.{List, subst, sym}
use Rattle.std.specs.Prelude.{OnOk}
use Rattle.cxx_reading.specs.Trees.{CxxTree}
use Rattle.cxx_tree.specs.Held.{tree, trees}
use Rattle.cxx_form.specs.Found.{AddsTrees}
use Rattle.cxx_form.proofs.InTrees.{it_wanted, none_added, not_wanted}
use Rattle.cxx_form.proofs.found.add_if.Goals as goal

pub returns-then-node-wanted : goal.returns-then-node-wanted
returns-then-node-wanted c =
    let held = c.args.state.now in
    subst (λ (ts : List CxxTree). OnOk c.add.result (AddsTrees (trees held) c.args.found.now.items c.add.new.found.items ts))
    (sym (it_wanted held.types (trees held) c.node.result.now (tree held c.args.number) c.node.ensures.tree c.args.wanted 0 c.if-node-wanted.true)) c.add.ensures

pub returns : goal.returns
returns c =
    let held = c.args.state.now in
    subst (λ (ts : List CxxTree). AddsTrees (trees held) c.args.found.now.items c.args.found.now.items ts)
    (sym (not_wanted held.types (trees held) c.node.result.now (tree held c.args.number) c.node.ensures.tree c.args.wanted 0 c.if-node-wanted.false)) (none_added (trees held) c.args.found.now.items)
