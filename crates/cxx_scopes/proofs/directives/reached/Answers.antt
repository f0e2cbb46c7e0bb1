use Rattle.std.proofs.Common.{◌≡◌, ◌∙◌, ◌+◌, ◌-◌, ◌<◌, Some, length, ap, sym, arith}
use Rattle.std.specs.List.{slice_get}
use Rattle.cxx_meaning.specs.Lookups.Directives.{nominated}
use Rattle.cxx_meaning.specs.Lookups.Gathered.{spread}
use Rattle.cxx_members.specs.Views.{facts_of}
use Rattle.cxx_scopes.proofs.Spreading.{turn_more}
use Rattle.cxx_scopes.proofs.directives.reached.Goals as goal

pub loop-place-preserved : goal.loop-place-preserved
loop-place-preserved g c =
    let looking = c.args.looking.now in
    let place = c.loop-place.place in
    let next = nominated (facts_of looking) c.args.cut in
    let lt : place < length looking.graph.now.facts = omega (arith, c.length-place-end.ensures.count) in
    let at : slice_get c.loop-place.found.items place ≡ Some c.in-Some.space = ap (λ xs. slice_get xs place) (sym c.deref-in-loop-place.ensures.value) ∙ sym c.in-Some.ensures in
    ap (λ xs. spread next (length (facts_of looking) - (place + 1)) (place + 1) xs) c.in_ok-add_nominated-in-Some.ensures ∙ (sym (turn_more next looking.types.now looking.graph.now.facts place c.loop-place.found.items c.in-Some.space lt at) ∙ c.loop-place.invariant)
