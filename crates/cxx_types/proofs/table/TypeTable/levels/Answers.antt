use Rattle.std.proofs.Common.{◌≤◌, ◌≡◌, ◌<◌, length, arith, ap, ◌∙◌}
use Rattle.std.proofs.Math.ListN.{length-map}
use Rattle.cxx_model.specs.Types.Numbers.{type_at}
use Rattle.cxx_types.specs.Levels.{level_count}
use Rattle.cxx_types.specs.Table.{types_of}
use Rattle.cxx_types.proofs.Depths.{level-stored}
use Rattle.cxx_types.proofs.table.TypeTable.levels.Goals as goal

pub returns-clause-small : goal.returns-clause-small
returns-clause-small c =
    let within : c.args.number.0 < length (types_of c.self.inside.nodes.keys) = omega (arith, ap length c.self.view_is, c.requires) in
    let count : length c.self.inside.level_counts.items ≡ length (types_of c.self.inside.nodes.keys) = ap length c.self.invariant.leveled ∙ length-map (types_of c.self.inside.nodes.keys) level_count in
    let is : c.index.result.now ≡ level_count (type_at (types_of c.self.inside.nodes.keys) c.args.number.0) = c.index.ensures ∙ level-stored (types_of c.self.inside.nodes.keys) c.self.inside.level_counts.items c.args.number.0 c.index.result.now c.self.invariant.leveled within in
    let small : level_count (type_at (types_of c.self.inside.nodes.keys) c.args.number.0) ≤ c.args.number.0 = c.self.invariant.shallow c.args.number.0 within in
    omega (arith, c.len.ensures)
