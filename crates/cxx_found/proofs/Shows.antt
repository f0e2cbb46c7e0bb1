-- What shows in a scope.
use Rattle.std.proofs.Common.{◌≡◌, ℕ, zero, suc, List, [], ◌++◌, length, map, refl, ap, sym, ◌∙◌}
use Rattle.std.proofs.lemmas.List.{append-nil}
use Rattle.cxx_model.specs.declared.types.ScopeId.{ScopeId}
use Rattle.cxx_model.specs.Facts.Declarations.{CxxFact}
use Rattle.cxx_meaning.specs.Lookups.Directives.{Shown, nominated, reached, shown_from, shows}
use Rattle.cxx_meaning.specs.Lookups.Gathered.{spread, with_scopes}
use Rattle.cxx_meaning.specs.Lookups.Scopes.{chain}

spread_nothing : (next : ScopeId → List ScopeId) (room place : ℕ) → spread next room place [] ≡ []
unfolding spread
spread_nothing next zero place = refl
spread_nothing next (suc room) place = refl

reached_nothing : (all : List CxxFact) (cut : ℕ) (scope : ScopeId) → nominated all cut scope ≡ [] → reached all cut scope ≡ []
unfolding reached with_scopes
reached_nothing all cut scope none = ap (λ found. spread (nominated all cut) (length all) 0 (with_scopes [] found)) none ∙ spread_nothing (nominated all cut) (length all) 0

-- a scope without directives shows nothing
pub shows_nothing : (all : List CxxFact) (cut : ℕ) (scope : ScopeId) (shown : List Shown) → nominated all cut scope ≡ [] → shown ≡ shown ++ shows all cut scope
unfolding shows
shows_nothing all cut scope shown none = sym (append-nil shown) ∙ ap (λ more. shown ++ map (shown_from all (chain all scope)) more) (sym (reached_nothing all cut scope none))
