use Rattle.std.proofs.Common.{◌≡◌, length, true, false, arith}
use Rattle.std.specs.Prelude.{nat_eq}
use Rattle.std.proofs.lemmas.Bool.Decides.{nat_tests}
use Rattle.cxx_tree.specs.Held.{trees}
use Rattle.cxx_expr.specs.declared.production.TheConstants as production
use Rattle.cxx_answers.proofs.Opened.{bare_found, goes_in, none_found, part_there}
use Rattle.cxx_answers.proofs.measured.bare.Goals as goal

pub returns-then-node-ne-PARENTHESIS-clause-is : goal.returns-then-node-ne-PARENTHESIS-clause-is
returns-then-node-ne-PARENTHESIS-clause-is c =
    let bare : nat_eq c.node-node.result.now.production production.PARENTHESIS ≡ false = grind (arith, nat_tests) in
    bare_found c.args.state.now c.args.number c.loop-node.number c.node-node.result.now c.loop-node.invariant.same c.node-node.ensures.tree bare

pub returns-in_default-clause-is : goal.returns-in_default-clause-is
returns-in_default-clause-is c =
    let opens : nat_eq c.node-node.result.now.production production.PARENTHESIS ≡ true = grind (arith, nat_tests) in
    none_found c.args.state.now c.args.number c.loop-node.number c.node-node.result.now c.as_slice.result.now c.loop-node.invariant.same c.node-node.ensures.tree opens c.as_slice.ensures (omega arith)

pub loop-node-preserved : goal.loop-node-preserved
loop-node-preserved c =
    let opens : nat_eq c.node-node.result.now.production production.PARENTHESIS ≡ true = grind (arith, nat_tests) in
    record {
      known = part_there (length (trees c.args.state.now)) c.loop-node.number _ c.as_slice.result.now c.node-node.result.now.children c.loop-node.invariant.known c.node-node.ensures.children c.as_slice.ensures (omega arith);
      same = goes_in c.args.state.now c.args.number c.loop-node.number _ c.node-node.result.now c.as_slice.result.now c.loop-node.invariant.same c.node-node.ensures.tree opens c.as_slice.ensures (omega arith);
    }
