-- What the user of the readers answers, in the terms of the definitions.
use Rattle.std.specs.Prelude.{ℕ, ℤ, ◌≡◌, ◌<◌, length, Result, Ok, Err}
use Rattle.cxx_model.specs.declared.stop.Stop.{Stop}
use Rattle.cxx_model.specs.declared.types.EnumId.{EnumId}
use Rattle.cxx_model.specs.declared.types.TreeId.{TreeId}
use Rattle.cxx_model.specs.declared.types.TypeId.{TypeId}
use Rattle.cxx_model.specs.Stops.{Answer, Stops}
use Rattle.cxx_model.specs.Types.Trees.{enumeration}
use Rattle.cxx_model.specs.Types.Numbers.{type_at}
use Rattle.cxx_reading.specs.State.{CxxState}
use Rattle.cxx_model.specs.declared.types.ScopeId.{ScopeId}
use Rattle.cxx_cursor.specs.Views.{IsConstant}
use Rattle.cxx_tree.specs.Held.{Held, meaning, trees}
use Rattle.cxx_tree.specs.Later.{Later}

abbrev pub Replies : {X A : Type 0} → (Held → X → A) → (Held → X → Type 0) → Held → Result X Stop → Answer (A × CxxState) → Type 0
Replies view known new (Ok x) reply = (reply ≡ Ok (view new x, meaning new)) × known new x
Replies view known new (Err stop) reply = Stops stop reply

-- A question was answered: what was answered, seen by `view`, is the reply, and is known to the state after it.
pub record IsAsked {X A : Type 0} (view : Held → X → A) (known : Held → X → Type 0) (old new : Held) (result : Result X Stop) (reply : Answer (A × CxxState)) : Type 0 where
  pub is : Replies view known new result reply
  pub later : Later old new

-- ---- answers that hold numbers

abbrev pub IsTypeKnown : Held → TypeId → Type 0
IsTypeKnown held number = number.0 < length held.types

abbrev pub enumeration_number : Held → EnumId × TypeId → ℕ
enumeration_number held both = both.0.0

-- an enumeration, and the number of its type
pub record IsEnumeration (held : Held) (both : EnumId × TypeId) : Type 0 where
  pub known : both.1.0 < length held.types
  pub is : type_at held.types both.1.0 ≡ enumeration both.0.0

-- what holds no number
abbrev pub itself : {A : Type 0} → Held → A → A
itself held x = x

abbrev pub AnyKnown : {A : Type 0} → Held → A → Type 0
AnyKnown held x = Unit {0}

abbrev pub scope_number : Held → ScopeId → ℕ
scope_number held scope = scope.0

abbrev pub IsConstantKnown : Held → ℤ → Type 0
IsConstantKnown held value = IsConstant value

abbrev pub IsTreeKnown : Held → TreeId → Type 0
IsTreeKnown held number = number.0 < length (trees held)
