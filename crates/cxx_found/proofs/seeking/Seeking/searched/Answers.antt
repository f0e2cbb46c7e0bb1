use Rattle.std.proofs.Common.{◌≡◌, ◌∙◌, ◌+◌, ◌-◌, ◌<◌, Some, length, ap, sym, arith}
use Rattle.std.specs.List.{slice_get}
use Rattle.cxx_meaning.specs.Lookups.Gathered.{spread}
use Rattle.cxx_meaning.specs.Lookups.Qualified.{leads_to}
use Rattle.cxx_scopes.proofs.Spreading.{turn_more}
use Rattle.cxx_found.specs.Views.{cut_of, facts_of, graph_of, name_of, types_of, wanted_of}
use Rattle.cxx_found.proofs.seeking.Seeking.searched.Goals as goal

pub loop-place-preserved : goal.loop-place-preserved
loop-place-preserved c =
    let self = c.args.self.now in
    let place = c.loop-place.place in
    let next = leads_to (graph_of self) (cut_of self) (wanted_of self) (name_of self) in
    let lt : place < length self.looking.graph.now.facts = omega (arith, c.length-place-end.ensures.count) in
    let at : slice_get c.loop-place.found.keys place ≡ Some c.in-Some.one = sym c.in-Some.ensures in
    ap (λ xs. spread next (length (facts_of self) - (place + 1)) (place + 1) xs) c.in_ok-add_leads-in-Some.ensures ∙ (sym (turn_more next (types_of self) self.looking.graph.now.facts place c.loop-place.found.keys c.in-Some.one lt at) ∙ c.loop-place.invariant)
