use Rattle.std.proofs.Common.{◌≡◌, ◌∙◌, ◌+◌, ◌-◌, ◌<◌, Some, length, ap, sym, arith}
use Rattle.std.specs.List.{slice_get}
use Rattle.cxx_meaning.specs.Lookups.Directives.{nominated}
use Rattle.cxx_meaning.specs.Lookups.Gathered.{spread, with_scopes}
use Rattle.cxx_scopes.proofs.Spreading.{turn_more}
use Rattle.cxx_found.specs.Views.{cut_of, facts_of, types_of}
use Rattle.cxx_found.proofs.seeking.Seeking.reached.Goals as goal

pub loop-place-preserved : goal.loop-place-preserved
loop-place-preserved c =
    let self = c.args.self.now in
    let place = c.loop-place.place in
    let next = nominated (facts_of self) (cut_of self) in
    let lt : place < length self.looking.graph.now.facts = omega (arith, c.length-place-end.ensures.count) in
    let at : slice_get c.loop-place.found.keys place ≡ Some c.in-Some.space = sym c.in-Some.ensures in
    let more = c.in_ok-add_scopes-in-Some.ensures ∙ ap (with_scopes c.loop-place.found.keys) c.nominated-in-Some.ensures in
    ap (λ xs. spread next (length (facts_of self) - (place + 1)) (place + 1) xs) more ∙ (sym (turn_more next (types_of self) self.looking.graph.now.facts place c.loop-place.found.keys c.in-Some.space lt at) ∙ c.loop-place.invariant)
