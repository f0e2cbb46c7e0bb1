use Rattle.std.proofs.Common.{◌<◌, arith, length, map, subst}
use Rattle.cxx_model.specs.Types.Numbers.{types_at}
use Rattle.cxx_meaning.specs.Lookups.Associated.{each_of, with_parts}
use Rattle.cxx_adl.specs.Views.{Becomes, graph_of, part_at}
use Rattle.cxx_adl.proofs.Turns.{way_begins, way_goes_on}
use Rattle.cxx_adl.proofs.asking.Asking.parts.Goals as goal

pub loop-place-init : goal.loop-place-init
loop-place-init c =
    let types = c.args.self.now.types.now in
    let new = c.add_types.new.parts.items in
    let more = each_of (types_at types c.args.of.now) in
    way_begins (graph_of c.args.self.now) types c.args.of.now new (subst (λ xs. Becomes types xs new (with_parts (map (part_at types) xs) more)) c.new-found.ensures.items c.in_ok-add_types.ensures)

pub loop-place-preserved : goal.loop-place-preserved
loop-place-preserved c =
    let found = c.loop-place.found.items in
    let lt : c.loop-place.place < length found = omega (arith, c.len.ensures, c.loop-place.found.ok.0) in
    way_goes_on (graph_of c.args.self.now) c.args.self.now.types.now c.args.of.now c.loop-place.place found c.add_next.new.parts.items c.index-part.result.now c.loop-place.invariant lt c.index-part.ensures c.in_ok-add_next.ensures
