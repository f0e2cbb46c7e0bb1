-- Using-directives (7.3.4).
use Rattle.std.specs.Prelude.{ℕ, ◌&&◌, nat_eq, if◌then◌else◌, List, [], length, map, Option, Some, None}
use Rattle.std.specs.List.{Contains}
use Rattle.cxx_model.specs.declared.types.ScopeId.{ScopeId}
use Rattle.cxx_model.specs.Facts.Entities.{is_seen}
use Rattle.cxx_model.specs.Facts.Declarations as facts
use Rattle.cxx_model.specs.Facts.Declarations.{CxxFact, Declares}
use Rattle.cxx_meaning.specs.Lookups.Gathered.{gathered, spread, with_scopes}
use Rattle.cxx_meaning.specs.Lookups.Scopes.{chain, first_common}

-- the namespace that a fact nominates, where it is a directive of a scope that is seen at a cut
unfoldable pub nominates : List CxxFact → ℕ → ScopeId → ℕ → CxxFact → Option ScopeId
nominates all cut scope number fact = by fact.what
  where
    by : Declares → Option ScopeId
    by (facts.directive nominated) = if nat_eq fact.scope scope.0 && is_seen all cut number fact then Some nominated else None
    by _ = None

-- the namespaces that the directives of a scope nominate
abbrev pub nominated : List CxxFact → ℕ → ScopeId → List ScopeId
nominated all cut scope = gathered (nominates all cut scope) 0 all

-- The namespaces that are reached from a scope: those that its directives nominate, and those that the directives of
-- these nominate, and so on. Each comes once, and there are no more namespaces than facts.
unfoldable pub reached : List CxxFact → ℕ → ScopeId → List ScopeId
reached all cut scope = spread (nominated all cut) (length all) 0 (with_scopes [] (nominated all cut scope))

-- a namespace, and the one in which its names show as if they were declared there
pub record Shown : Type 0 where
  pub there : ScopeId
  pub space : ScopeId

-- a namespace, seen from a scope by its chain
abbrev pub shown_from : List CxxFact → List ScopeId → ScopeId → Shown
shown_from all scopes space = record { there = first_common all scopes (chain all space); space = space }

-- 7.3.4: What is reached from a scope shows in the nearest namespace that encloses the scope and what is reached,
-- whatever stands between the two.
unfoldable pub shows : List CxxFact → ℕ → ScopeId → List Shown
shows all cut scope = map (shown_from all (chain all scope)) (reached all cut scope)

-- ---- in words

-- 7.3.4: a directive of the scope nominates the namespace, or one of a namespace that is reached does
pub data IsReached (all : List CxxFact) (cut : ℕ) (from : ScopeId) : ScopeId → Type 0 where
  Directly : (n : ScopeId) → Contains (nominated all cut from) n → IsReached all cut from n
  Further : (m n : ScopeId) → IsReached all cut from m → Contains (nominated all cut m) n → IsReached all cut from n

-- Whatever is counted as reached is reached by directives.
abbrev pub EachIsReached : Type 0
EachIsReached = (all : List CxxFact) (cut : ℕ) (from n : ScopeId) → Contains (reached all cut from) n → IsReached all cut from n
