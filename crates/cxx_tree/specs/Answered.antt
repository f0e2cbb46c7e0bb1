-- What a call of the state does, in the terms of the definitions.
use Rattle.std.specs.Prelude.{ℕ, ◌≡◌, ◌<◌, length, Option, Some, None, Result, Ok, Err}
use Rattle.cxx_model.specs.declared.stop.Stop.{Stop}
use Rattle.cxx_model.specs.declared.types.ClassId.{ClassId}
use Rattle.cxx_model.specs.declared.types.FactId.{FactId}
use Rattle.cxx_model.specs.declared.types.ScopeId.{ScopeId}
use Rattle.cxx_model.specs.Facts.Graph.{scopes}
use Rattle.cxx_model.specs.Stops.{Answer, Stops}
use Rattle.cxx_reading.specs.State.{CxxState}
use Rattle.cxx_tree.specs.Held.{Held, meaning}
use Rattle.cxx_tree.specs.Later.{Later}

abbrev pub Replies : {X A : Type 0} → (Held → X → A) → (Held → X → Type 0) → Held → Result X Stop → Answer (A × CxxState) → Type 0
Replies view known new (Ok x) reply = (reply ≡ Ok (view new x, meaning new)) × known new x
Replies view known new (Err stop) reply = Stops stop reply

-- A definition over the state was followed: what was answered, seen by `view`, is the reply, and is known to the state
-- after it.
pub record IsAnswered {X A : Type 0} (view : Held → X → A) (known : Held → X → Type 0) (old new : Held) (result : Result X Stop) (reply : Answer (A × CxxState)) : Type 0 where
  pub is : Replies view known new result reply
  pub later : Later old new

-- what holds no number
abbrev pub itself : {A : Type 0} → Held → A → A
itself held x = x

abbrev pub AnyKnown : {A : Type 0} → Held → A → Type 0
AnyKnown held x = Unit {0}

abbrev pub fact_number : Held → FactId → ℕ
fact_number held number = number.0

abbrev pub scope_number : Held → ScopeId → ℕ
scope_number held scope = scope.0

abbrev pub class_number : Held → ClassId → ℕ
class_number held class = class.0

-- the number of a scope, where there is one
abbrev pub scope_of_option : Option ScopeId → Option ℕ
scope_of_option None = None
scope_of_option (Some scope) = Some scope.0

abbrev pub IsFactKnown : Held → FactId → Type 0
IsFactKnown held number = number.0 < length held.graph.facts

abbrev pub IsClassKnown : Held → ClassId → Type 0
IsClassKnown held class = class.0 < length held.graph.classes

abbrev pub IsScopeKnown : Held → ScopeId → Type 0
IsScopeKnown held scope = scope.0 < scopes held.graph.facts
