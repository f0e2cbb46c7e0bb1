use Rattle.cxx_model.proofs.Copied.{boxed, copied-cast, copied-unary, copied-binary, copied-conditional}
use Rattle.cxx_model.proofs.copies.+copy_formula.Goals as goal

pub returns-in_ok-operand-in-Cast : goal.returns-in_ok-operand-in-Cast
returns-in_ok-operand-in-Cast t c =
    copied-cast _ _ c.in-Cast.operand c.in_ok-operand-in-Cast.operand c.in-Cast.is (boxed _ _ c.in-Cast.operand c.in_ok-operand-in-Cast.operand c.in_ok-copy_formula-in-Cast.ensures c.deref.ensures c.in_ok-operand-in-Cast.ensures.ok)

pub returns-in_ok-operand-in-Unary : goal.returns-in_ok-operand-in-Unary
returns-in_ok-operand-in-Unary t c =
    copied-unary _ _ c.in-Unary.operand c.in_ok-operand-in-Unary.operand c.in-Unary.is (boxed _ _ c.in-Unary.operand c.in_ok-operand-in-Unary.operand c.in_ok-copy_formula-in-Unary.ensures c.deref-in-Unary.ensures c.in_ok-operand-in-Unary.ensures.ok)

pub returns-in_ok-right-in-Binary : goal.returns-in_ok-right-in-Binary
returns-in_ok-right-in-Binary t c =
    copied-binary _ _ c.in-Binary.left c.in_ok-left-in-Binary.left c.in-Binary.right c.in_ok-right-in-Binary.right c.in-Binary.is
    (boxed _ _ c.in-Binary.left c.in_ok-left-in-Binary.left c.in_ok-copy_formula-in-Binary.ensures c.deref-in-Binary.ensures c.in_ok-left-in-Binary.ensures.ok)
    (boxed _ _ c.in-Binary.right c.in_ok-right-in-Binary.right c.in_ok-copy_formula-in-Binary-2.ensures c.deref-in-Binary-2.ensures c.in_ok-right-in-Binary.ensures.ok)

pub returns-in_ok-right-in-Conditional : goal.returns-in_ok-right-in-Conditional
returns-in_ok-right-in-Conditional t c =
    copied-conditional _ c.in-Conditional.test c.in_ok-test-in-Conditional.test c.in-Conditional.left c.in_ok-left-in-Conditional.left c.in-Conditional.right c.in_ok-right-in-Conditional.right c.in-Conditional.is
    (boxed _ _ c.in-Conditional.test c.in_ok-test-in-Conditional.test c.in_ok-copy_formula-in-Conditional.ensures c.deref-in-Conditional.ensures c.in_ok-test-in-Conditional.ensures.ok)
    (boxed _ _ c.in-Conditional.left c.in_ok-left-in-Conditional.left c.in_ok-copy_formula-in-Conditional-2.ensures c.deref-in-Conditional-2.ensures c.in_ok-left-in-Conditional.ensures.ok)
    (boxed _ _ c.in-Conditional.right c.in_ok-right-in-Conditional.right c.in_ok-copy_formula-in-Conditional-3.ensures c.deref-in-Conditional-3.ensures c.in_ok-right-in-Conditional.ensures.ok)
