use Rattle.std.proofs.Common.{◌≡◌, subst, Bool}
use Rattle.std.specs.Prelude.{IfOk}
use Rattle.cxx_statement_text.proofs.Parts.{block_asked}
use Rattle.cxx_statement_text.proofs.standing.is_block.Goals as goal

pub returns : goal.returns
returns c =
    subst (λ (b : Bool). IfOk c.is_block_by.result (λ one. one ≡ b))
    (block_asked c.args.state.now c.node-node.result.now c.args.number c.form_of.result c.as_slice.result.now c.node-node.ensures.tree c.form_of.ensures c.as_slice.ensures) c.is_block_by.ensures
