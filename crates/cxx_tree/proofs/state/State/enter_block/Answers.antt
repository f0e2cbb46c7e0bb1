use Rattle.std.proofs.lemmas.Result.{err_from_is_err_and}
use Rattle.cxx_tree.proofs.Wholes.{block_entered, block_not_entered, kind_of_function}
use Rattle.cxx_tree.proofs.state.State.enter_block.Goals as goal

pub enter_scope-requires : goal.enter_scope-requires
enter_scope-requires c = record { kind = kind_of_function c.args.self.now.graph c.args.function c.requires.function }

pub returns-in_err-enter_scope : goal.returns-in_err-enter_scope
returns-in_err-enter_scope c =
    let p = err_from_is_err_and c.from_residual.result c.from_residual.ensures.1 in
    rw (p.1, p.2) (block_not_entered _ _ c.args.function c.in_err-enter_scope.field-0.0 c.in_err-enter_scope.ensures)

pub returns : goal.returns
returns c = block_entered _ _ c.args.function c.in_ok-enter_scope.field-0 c.in_ok-enter_scope.ensures
