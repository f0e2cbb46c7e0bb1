use Rattle.std.proofs.Common.{◌∙◌, ◌+◌, ◌<◌, arith, drop, get_or, length, sym}
use Rattle.std.proofs.lemmas.List.{at_drop_more}
use Rattle.cxx_model.specs.Facts.Declarations.{name_at}
use Rattle.cxx_meaning.specs.Lookups.Associated.{standing_in_each}
use Rattle.cxx_meaning.specs.Lookups.Gathered.{with_facts}
use Rattle.cxx_adl.specs.Functions.{firsts}
use Rattle.cxx_adl.specs.Views.{graph_of}
use Rattle.cxx_adl.proofs.Standing.{spaces_more}
use Rattle.cxx_adl.proofs.asking.Asking.add_in_spaces.Goals as goal

pub loop-space-preserved : goal.loop-space-preserved
loop-space-preserved g c =
    let graph = graph_of c.args.self.now in
    let name = name_at c.args.self.now.types.now c.args.name.now in
    let xs = c.args.spaces.now in
    let i = c.loop-space.space-index in
    let found = c.loop-space.found.items in
    let lt : i < length xs = omega (arith, c.loop-space-test.true) in
    spaces_more graph c.args.cut.0 name found c.add_standing.new.found.items (get_or xs i 0) (drop (i + 1) xs) c.in_ok-add_standing.ensures ∙ (sym (at_drop_more (λ ys. with_facts found (firsts graph (standing_in_each graph c.args.cut.0 name ys))) xs i 0 lt) ∙ c.loop-space.invariant)
