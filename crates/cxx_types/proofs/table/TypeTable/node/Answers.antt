use Rattle.std.proofs.Common.{sym, ◌∙◌, subst, length, List, ◌≡◌, ◌<◌, arith, ap, Some}
use Rattle.std.specs.List.{slice_get}
use Rattle.std.specs.Option.{option_copied}
use Rattle.cxx_model.specs.Types.Trees.{CxxType}
use Rattle.cxx_model.specs.Types.Numbers.{type_at, type_over}
use Rattle.cxx_types.specs.Table.{types_of}
use Rattle.cxx_types.proofs.Nodes.{type-of-node, length-types}
use Rattle.cxx_types.proofs.table.TypeTable.node.Goals as goal

pub unwrap-requires : goal.unwrap-requires
unwrap-requires c =
    let count : length (types_of c.self.inside.nodes.keys) ≡ length c.args.self.now = ap length c.self.view_is in
    let within : c.args.number.0 < length c.self.inside.nodes.keys = omega (arith, length-types c.self.inside.nodes.keys, c.requires) in
    c.get_index.ensures.found.1 within

pub returns-clause-is : goal.returns-clause-is
returns-clause-is c =
    let there : slice_get c.self.inside.nodes.keys c.args.number.0 ≡ Some c.unwrap.result.now = sym c.get_index.ensures.key ∙ ap option_copied c.unwrap.ensures in
    subst (λ (ts : List CxxType). type_over ts c.unwrap.result.now ≡ type_at ts c.args.number.0) c.self.view_is (sym (type-of-node c.self.inside.nodes.keys c.self.inside.level_counts.items c.args.number.0 c.unwrap.result.now c.self.invariant there))
