-- Namespaces that begin, in the terms of the definitions (7.3.1).
use Rattle.std.specs.Prelude.{ℕ, ◌≡◌, ◌<◌, List, Ok}
use Rattle.cxx_model.specs.declared.facts.Entity.TheVariants as entity
use Rattle.cxx_model.specs.declared.facts.Fact.{Fact}
use Rattle.cxx_model.specs.declared.place.Place.{Place}
use Rattle.cxx_model.specs.declared.types.ScopeId.{ScopeId}
use Rattle.cxx_model.specs.Facts.Declarations.{CxxFact}
use Rattle.cxx_model.specs.Facts.Graph.{scopes}
use Rattle.cxx_model.specs.Stops.{Answer, ◌>>=◌}
use Rattle.cxx_names.specs.Clashes.{IsPlainName}
use Rattle.cxx_reading.specs.Declaring.{added, declare, free}
use Rattle.cxx_reading.specs.Spaces.{new_space, told, within}
use Rattle.cxx_reading.specs.State.{CxxState}
use Rattle.cxx_tree.specs.Held.{Held}

-- The first declaration of a namespace, whose scope will have a number.
pub record IsFirst (held : Held) (inner : ScopeId) (fact : Fact) : Type 0 where
  pub scope : fact.scope ≡ held.scope
  pub what : fact.what ≡ entity.Namespace inner
  pub plain : IsPlainName fact.name
  pub there : held.scope.0 < scopes held.graph.facts
  pub next : inner.0 ≡ scopes held.graph.facts

-- a fact is added, and the reader stands in a scope then
abbrev pub added_within : ℕ → CxxFact → CxxState → Answer (Unit {0} × CxxState)
added_within scope fact state = added fact state >>= λ answer. Ok (within scope answer)

-- 3.3: the conflict before
abbrev pub declared_within : ℕ → CxxFact → List ℕ → CxxState → Answer (Unit {0} × CxxState)
declared_within scope fact word state = free state fact word >>= λ is_free. added_within scope fact state

-- the scope is added before
abbrev pub space_added : Place → ℕ → CxxFact → CxxState → Answer (Unit {0} × CxxState)
space_added place scope fact state = added (new_space state place) state >>= λ opened. added_within scope fact opened.1

abbrev pub opened_first : Place → ℕ → CxxFact → List ℕ → CxxState → Answer (Unit {0} × CxxState)
opened_first place scope fact word state = free state fact word >>= λ is_free. space_added place scope fact state

-- a name is declared, and its number is not asked
abbrev pub told_declared : CxxFact → List ℕ → CxxState → Answer (Unit {0} × CxxState)
told_declared fact word state = declare fact word state >>= λ answer. Ok (told answer)
