use Rattle.std.proofs.Common.{ap, sym, ◌∙◌, ◌≡◌}
use Rattle.cxx_model.specs.Types.Trees.{normal}
use Rattle.cxx_model.specs.Types.Numbers.{type_at}
use Rattle.cxx_types.proofs.TypeForm.{normal_fixed}
use Rattle.cxx_types.proofs.laws.interned_again.Goals as goal

pub returns : goal.returns
returns c =
    let before : type_at c.intern.new.self c.args.number.0 ≡ type_at c.args.table.now c.args.number.0 = c.in_ok-again.ensures.keeps.same c.args.number.0 c.requires in
    let now : type_at c.intern.new.self c.in_ok-again.again.0 ≡ type_at c.args.table.now c.args.number.0 = c.in_ok-again.ensures.made.1 ∙ ap normal c.in_ok-tree.ensures.is ∙ normal_fixed (type_at c.args.table.now c.args.number.0) c.node.ensures.form.layers in
    c.same.ensures.numbers.0 (c.same.ensures.types.1 (now ∙ sym before))
