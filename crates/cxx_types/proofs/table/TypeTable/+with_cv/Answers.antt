use Rattle.std.proofs.Common.{refl}
use Rattle.cxx_model.specs.Types.Trees.{with_cv}
use Rattle.cxx_types.proofs.Steps.{made-array, bound-inside}
use Rattle.cxx_types.proofs.table.TypeTable.+with_cv.Goals as goal

pub array_of-requires-clause-below : goal.array_of-requires-clause-below
array_of-requires-clause-below t c =
    bound-inside c.args.self.now c.with_cv.new.self c.args.number.0 c.node.result.now c.in-Array.element c.in-Array.bound c.in_ok-bound-in-Array.bound c.in-Array.is c.requires c.node.ensures.below c.in_ok-bound-in-Array.ensures c.in_ok-element-in-Array.ensures.keeps

pub returns-in_ok-element-in-Array : goal.returns-in_ok-element-in-Array
returns-in_ok-element-in-Array t c =
    made-array (with_cv c.args.cv) (λ t b. refl) c.args.self.now c.with_cv.new.self c.array_of.new.self c.args.number.0 c.node.result.now c.in-Array.element c.in_ok-element-in-Array.element c.in-Array.bound c.in_ok-bound-in-Array.bound c.array_of.result c.node.ensures.is c.in-Array.is c.requires c.node.ensures.below c.in_ok-bound-in-Array.ensures c.in_ok-element-in-Array.ensures c.array_of.ensures
