-- The scopes outward, one after another.
use Rattle.std.proofs.Common.{◌≡◌, ℕ, zero, suc, ◌+◌, ◌-◌, ◌<◌, ◌≤◌, true, false, List, [], ◌∷◌, ◌++◌, Option, Some, None, Ok, Err, length, refl, ap, sym, ◌∙◌}
use Rattle.cxx_model.specs.declared.lookup.Found.{Found}
use Rattle.cxx_model.specs.declared.types.ScopeId.{ScopeId}
use Rattle.cxx_model.specs.Facts.Declarations.{CxxGraph, CxxName}
use Rattle.cxx_meaning.specs.Lookups.Directives.{Shown, shows}
use Rattle.cxx_meaning.specs.Lookups.Ordinary.{found_in_scope, ordinary, ordinary_in}
use Rattle.cxx_meaning.specs.Lookups.Pending.{Asked}
use Rattle.cxx_meaning.specs.Lookups.Scopes.{parent_of, up}
use Rattle.cxx_meaning.specs.Lookups.Wanted.{Wanted}
use Rattle.cxx_reading.specs.Seen.{found_or_none, sought_from}
use Rattle.cxx_members.proofs.Kept.{up_last, up_more, up_unit}
use Rattle.cxx_scopes.proofs.Outward.{found_there, goes_out}
use Rattle.cxx_found.specs.Here.{is_missing, or_nowhere}

module _ (graph : CxxGraph) (wanted : Wanted) (name : CxxName) (cut : ℕ) (shown : List Shown) (scope : ScopeId) where
  -- what is found in the scope itself, with what shows there
  abbrev IsHere : Asked (Option Found) → Type 0
  IsHere of = found_in_scope graph wanted name cut (shown ++ shows graph.facts cut scope) scope ≡ of

  alone_in : (of : Asked (Option Found)) → IsHere of → ordinary_in graph wanted name cut shown (scope ∷ []) ≡ or_nowhere of
  unfolding ordinary_in
  alone_in (Err class) e = rw e refl
  alone_in (Ok None) e = rw e refl
  alone_in (Ok (Some of)) e = rw e refl

  there : (outer : List ScopeId) (of : Asked (Option Found)) → IsHere of → is_missing of ≡ false → ordinary_in graph wanted name cut shown (scope ∷ outer) ≡ or_nowhere of
  unfolding ordinary_in
  there outer (Err class) e some = rw e refl
  there outer (Ok None) e some = absurd cc
  there outer (Ok (Some of)) e some = found_there graph wanted name cut shown scope outer of e

  -- something is found
  pub found_here : (room : ℕ) (of : Asked (Option Found)) → IsHere of → is_missing of ≡ false → ordinary_in graph wanted name cut shown (up graph.facts room scope) ≡ or_nowhere of
  unfolding up
  found_here zero of e some = there [] of e some
  found_here (suc room) of e some = there _ of e some

  -- the scope is the last one
  pub found_at_unit : (room done : ℕ) (of : Asked (Option Found)) → done < room → scope.0 ≡ 0 → IsHere of → ordinary_in graph wanted name cut shown (up graph.facts (room - done) scope) ≡ or_nowhere of
  found_at_unit room done of lt unit e = ap (ordinary_in graph wanted name cut shown) (up_unit graph.facts room done scope lt unit) ∙ alone_in of e

  pub found_at_last : (room done : ℕ) (of : Asked (Option Found)) → room ≤ done → IsHere of → ordinary_in graph wanted name cut shown (up graph.facts (room - done) scope) ≡ or_nowhere of
  found_at_last room done of le e = ap (ordinary_in graph wanted name cut shown) (up_last graph.facts room done scope le) ∙ alone_in of e

  out_by : (outer : List ScopeId) (now : List Shown) (of : Asked (Option Found)) → IsHere of → is_missing of ≡ true → now ≡ shown ++ shows graph.facts cut scope → ordinary_in graph wanted name cut shown (scope ∷ outer) ≡ ordinary_in graph wanted name cut now outer
  out_by outer now (Err class) e none is = absurd cc
  out_by outer now (Ok None) e none is = goes_out graph wanted name cut shown now scope outer e is
  out_by outer now (Ok (Some of)) e none is = absurd cc

  -- nothing is found, and there is a scope further out
  pub further_out : (room done : ℕ) (now : List Shown) (of : Asked (Option Found)) → done < room → (scope.0 ≡ 0 → ⊥) → IsHere of → is_missing of ≡ true → now ≡ shown ++ shows graph.facts cut scope → ordinary_in graph wanted name cut now (up graph.facts (room - (done + 1)) (parent_of graph.facts scope)) ≡ ordinary_in graph wanted name cut shown (up graph.facts (room - done) scope)
  further_out room done now of lt outer e none is =
      sym (ap (ordinary_in graph wanted name cut shown) (up_more graph.facts room done scope lt outer) ∙ out_by (up graph.facts (room - (done + 1)) (parent_of graph.facts scope)) now of e none is)

pub sought_is : (graph : CxxGraph) (wanted : Wanted) (scope : ScopeId) (name : CxxName) (found : Found) (of : Asked Found) → found ≡ found_or_none of → ordinary graph wanted scope name (length graph.facts) ≡ of → found ≡ sought_from graph wanted scope.0 name
unfolding sought_from
sought_is graph wanted scope name found of is e = is ∙ sym (ap found_or_none e)
