use Rattle.std.proofs.Common.{ap, sym, subst, ◌∙◌, length, ◌≡◌, ◌<◌, ◌+◌, ◌*◌, slice_index_or, arith}
use Rattle.cxx_model.specs.declared.types.Signature.{Signature}
use Rattle.cxx_model.specs.declared.types.TypeTree.{TypeTree}
use Rattle.cxx_model.specs.Types.Numbers.{tree_at, types_at, IsTreeBelow}
use Rattle.cxx_types.specs.Trees.{trees_at, AreTreesBelow}
use Rattle.cxx_types.proofs.Reading.{bound-within, arguments-within, signature-at, number-inside, next-read}
use Rattle.cxx_types.proofs.Rows.{below-function}
use Rattle.cxx_types.proofs.table.TypeTable.+tree_of.Goals as goal

pub tree_of-returns-in_ok-bound-in-Array-clause-below : goal.tree_of-returns-in_ok-bound-in-Array-clause-below
tree_of-returns-in_ok-bound-in-Array-clause-below t c = (
  subst (λ (x : TypeTree). IsTreeBelow (length c.args.self.now) x) (sym c.in_ok-element-in-Array.ensures.ok) c.in_ok-tree_of-in-Array.ensures.below,
  c.in_ok-bound-in-Array.ensures.below (length c.args.self.now) (bound-within (length c.args.self.now) c.args.number.0 c.node.result.now c.in-Array.element c.in-Array.bound c.in-Array.is c.requires c.node.ensures.below),
)

pub tree_of-returns-in_ok-arguments-in-Special-clause-below : goal.tree_of-returns-in_ok-arguments-in-Special-clause-below
tree_of-returns-in_ok-arguments-in-Special-clause-below t c =
    c.in_ok-arguments-in-Special.ensures.below (length c.args.self.now) (arguments-within (length c.args.self.now) c.args.number.0 c.node.result.now c.in-Special.template c.in-Special.arguments c.as_slice-in-Special.result.now c.in-Special.is c.as_slice-in-Special.ensures c.requires c.node.ensures.below)

pub tree_of-returns-in_ok-signature-in-Function-clause-is : goal.tree_of-returns-in_ok-signature-in-Function-clause-is
tree_of-returns-in_ok-signature-in-Function-clause-is t c =
    let made = c.in_ok-signature-in-Function.ensures.ok in
    signature-at c.args.self.now c.args.number.0 c.node.result.now c.in-Function.result c.in-Function.parameters c.in-Function.ellipsis c.in-Function.cv c.in_ok-signature-in-Function.signature c.node.ensures.is c.in-Function.is
    (ap (λ (x : Signature). tree_at c.args.self.now x.result) made ∙ c.in_ok-result-in-Function.ensures.is)
    (ap (λ (x : Signature). trees_at c.args.self.now x.parameters.items) made ∙ c.in_ok-parameters-in-Function.ensures.is ∙ ap (types_at c.args.self.now) c.as_slice.ensures)
    (ap (λ (x : Signature). x.ellipsis) made)
    (ap (λ (x : Signature). x.cv) made)

pub tree_of-returns-in_ok-signature-in-Function-clause-below : goal.tree_of-returns-in_ok-signature-in-Function-clause-below
tree_of-returns-in_ok-signature-in-Function-clause-below t c =
    let made = c.in_ok-signature-in-Function.ensures.ok in
    below-function (length c.args.self.now) c.in_ok-signature-in-Function.signature
    (subst (λ (x : Signature). IsTreeBelow (length c.args.self.now) x.result) (sym made) c.in_ok-result-in-Function.ensures.below)
    (subst (λ (x : Signature). AreTreesBelow (length c.args.self.now) x.parameters.items) (sym made) c.in_ok-parameters-in-Function.ensures.below)

pub trees_of-tree_of-requires : goal.trees_of-tree_of-requires
trees_of-tree_of-requires t c =
    let within : (slice_index_or c.args.numbers.now c.loop-number.number-index (record { 0 = 0 })).0 < c.args.end.0 = number-inside c.args.end.0 c.args.numbers.now c.loop-number.number-index (record { 0 = 0 }) c.loop-number-test.true c.requires.below in
    let whole : t ≡ 2 * c.args.end.0 = sym c.decreases in
    let small : 2 * (slice_index_or c.args.numbers.now c.loop-number.number-index (record { 0 = 0 })).0 + 1 < t = omega arith in
    let known : c.args.end.0 < length c.args.self.now = c.requires.known in
    (small, omega arith)

pub trees_of-loop-number-preserved : goal.trees_of-loop-number-preserved
trees_of-loop-number-preserved t c =
    next-read c.args.self.now c.args.numbers.now c.loop-number.number-index (record { 0 = 0 }) c.loop-number.trees.items c.push.new.self.items c.in_ok-tree_of.field-0 c.loop-number-test.true c.loop-number.invariant c.in_ok-tree_of.ensures.is c.in_ok-tree_of.ensures.below c.in_ok-push.ensures.items
