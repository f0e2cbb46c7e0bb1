use Rattle.std.proofs.Common.{◌≡◌, ◌∙◌, length, ap, sym, subst, eqb, true}
use Rattle.cxx_meaning.specs.Lookups.Sightings.{standing}
use Rattle.cxx_members.specs.Sighted.{Adds}
use Rattle.cxx_model.specs.Facts.Declarations.{name_at}
use Rattle.cxx_members.specs.Views.{graph_of, wanted_at}
use Rattle.cxx_scopes.proofs.Searching.{leads_on}
use Rattle.cxx_scopes.proofs.qualified.add_leads.Goals as goal

pub returns : goal.returns
returns g c =
    let looking = c.args.looking.now in
    let own = c.add_standing.new.found.items in
    let none : eqb (length own) 0 ≡ true = ap (λ xs. eqb (length xs) 0) (sym c.deref.ensures.value) ∙ (sym c.is_none.ensures ∙ c.if-not-is_none.false) in
    leads_on looking.types.now (graph_of looking) c.args.cut (wanted_at c.args.sought.now.wanted) (name_at looking.types.now c.args.sought.now.name.now) c.args.space own c.args.spaces.now.items c.add_nominated.new.found.items (subst (λ xs. Adds looking.types.now xs own (standing (graph_of looking) c.args.cut (wanted_at c.args.sought.now.wanted) (name_at looking.types.now c.args.sought.now.name.now) c.args.space)) c.new-own.ensures.items c.in_ok-add_standing.ensures) none c.in_ok-add_nominated.ensures
