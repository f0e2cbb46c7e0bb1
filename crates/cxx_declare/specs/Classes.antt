-- Classes that are declared, in the terms of the definitions (9.1).
use Rattle.std.specs.Prelude.{ℕ, ◌≡◌, ◌<◌, Bool, List, length, Ok}
use Rattle.cxx_model.specs.declared.facts.Entity.TheVariants as entity
use Rattle.cxx_model.specs.declared.facts.Fact.{Fact}
use Rattle.cxx_model.specs.declared.types.ClassId.{ClassId}
use Rattle.cxx_model.specs.declared.types.ScopeId.{ScopeId}
use Rattle.cxx_model.specs.Facts.Declarations.{CxxFact}
use Rattle.cxx_model.specs.Facts.Graph.{scopes}
use Rattle.cxx_model.specs.Stops.{Answer, ◌>>=◌}
use Rattle.cxx_model.specs.Types.Trees.{CxxType}
use Rattle.cxx_names.specs.Clashes.{IsPlainName}
use Rattle.cxx_reading.specs.Classes.{class_as, reserved}
use Rattle.cxx_reading.specs.Declaring.{added, declare, free}
use Rattle.cxx_reading.specs.State.{CxxState}
use Rattle.cxx_tree.specs.Held.{Held}

-- A fact declares a class in a scope.
pub record IsClassFact (scope : ScopeId) (class : ClassId) (is_union : Bool) (fact : Fact) : Type 0 where
  pub scope_is : fact.scope ≡ scope
  pub what_is : fact.what ≡ entity.Class class is_union
  pub plain : IsPlainName fact.name

-- The first declaration of a class, which will have a number.
pub record IsNextClass (held : Held) (class : ClassId) (fact : Fact) : Type 0 where
  pub is_union : Bool
  pub what_is : fact.what ≡ entity.Class class is_union
  pub plain : IsPlainName fact.name
  pub there : fact.scope.0 < scopes held.graph.facts
  pub next : class.0 ≡ length held.graph.classes

-- 3.3: a class is declared
abbrev pub declared_as : ℕ → CxxFact → List ℕ → CxxState → Answer (CxxType × CxxState)
declared_as n fact word state = declare fact word state >>= λ answer. Ok (class_as n answer)

-- a class was reserved, and its first declaration is added
abbrev pub next_added : ℕ → CxxFact → CxxState → Answer (CxxType × CxxState)
next_added n fact state = added fact state >>= λ last. Ok (class_as n last)

-- what conflicts comes before the limit
abbrev pub next_declared : ℕ → CxxFact → List ℕ → CxxState → Answer (CxxType × CxxState)
next_declared n fact word state = free state fact word >>= λ is_free. reserved state >>= λ answer. next_added n fact answer.1
