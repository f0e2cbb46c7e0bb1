-- Scopes, each by its number, and how they stand in one another (3.3).
use Rattle.std.specs.Prelude.{ℕ, zero, suc, nat_eq, if◌then◌else◌, List, [], ◌∷◌, Option, Some, None, ◌&&◌, find}
use Rattle.std.specs.List.{slice_get}
use Rattle.cxx_model.specs.declared.facts.ScopeKind.{ScopeKind}
use Rattle.cxx_model.specs.declared.types.ScopeId.{ScopeId}
use Rattle.cxx_model.specs.Facts.Conflicts.{scope_facts}
use Rattle.cxx_model.specs.Facts.Entities.{scope_kinds, is_space}
use Rattle.cxx_model.specs.Facts.Declarations.{CxxFact}
use Rattle.cxx_meaning.specs.Lookups.Gathered.{holds_scope}

-- the scope of the unit (3.3.5)
abbrev pub unit_scope : ScopeId
unit_scope = record { 0 = 0 }

abbrev pub kind_of : List CxxFact → ScopeId → Option ScopeKind
kind_of all scope = slice_get (scope_kinds all) scope.0

-- the scope that holds a scope; that of the unit holds itself
abbrev pub parent_of : List CxxFact → ScopeId → ScopeId
parent_of all scope = by (slice_get (scope_facts all) scope.0)
  where
    by : Option CxxFact → ScopeId
    by None = unit_scope
    by (Some fact) = record { 0 = fact.scope }

-- A scope and those around it, to that of the unit. A scope is declared after the one that holds it, so its number is
-- the greater.
unfoldable pub up : List CxxFact → ℕ → ScopeId → List ScopeId
up all zero scope = scope ∷ []
up all (suc room) scope = scope ∷ (if nat_eq scope.0 0 then [] else up all room (parent_of all scope))

-- 3.4.1: the scopes in which a name is looked up, in turn
abbrev pub chain : List CxxFact → ScopeId → List ScopeId
chain all scope = up all scope.0 scope

-- the first namespace of some scopes, or the unit's scope
unfoldable pub first_space : List CxxFact → List ScopeId → ScopeId
first_space all scopes = by (find (λ one. is_space (kind_of all one)) scopes)
  where
    by : Option ScopeId → ScopeId
    by None = unit_scope
    by (Some one) = one

-- 7.3.1: the innermost namespace
abbrev pub home : List CxxFact → ScopeId → ScopeId
home all scope = first_space all (chain all scope)

-- the first namespace of some scopes that stands among others, or the unit's scope
unfoldable pub first_common : List CxxFact → List ScopeId → List ScopeId → ScopeId
first_common all ones others = by (find (λ one. is_space (kind_of all one) && holds_scope others one) ones)
  where
    by : Option ScopeId → ScopeId
    by None = unit_scope
    by (Some one) = one
