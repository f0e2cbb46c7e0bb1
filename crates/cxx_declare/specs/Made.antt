-- Declarations that are made, in the terms of the definitions.
use Rattle.std.specs.Prelude.{ℕ, ℤ, ◌≡◌, ◌<◌, ◌++◌, Bool, false, List, [], ◌∷◌, length, Option, Some, None, Result, Ok, Err}
use Rattle.cxx_model.specs.declared.facts.Access.TheVariants.{Public}
use Rattle.cxx_model.specs.declared.facts.Entity.{Entity}
use Rattle.cxx_model.specs.declared.facts.Entity.TheVariants as entity
use Rattle.cxx_model.specs.declared.facts.Fact.{Fact}
use Rattle.cxx_model.specs.declared.facts.MemberKind.{MemberKind}
use Rattle.cxx_model.specs.declared.facts.MemberKind.TheVariants.{Free}
use Rattle.cxx_model.specs.declared.facts.Name.{Name}
use Rattle.cxx_model.specs.declared.facts.Name.TheVariants as name
use Rattle.cxx_model.specs.declared.place.Place.{Place}
use Rattle.cxx_model.specs.declared.token.TokenKind.{TokenKind}
use Rattle.cxx_model.specs.declared.types.FactId.{FactId}
use Rattle.cxx_model.specs.declared.types.EnumId.{EnumId}
use Rattle.cxx_model.specs.declared.types.ScopeId.{ScopeId}
use Rattle.cxx_model.specs.declared.types.TypeId.{TypeId}
use Rattle.cxx_model.specs.Facts.Fitted.{IsFactBelow}
use Rattle.cxx_model.specs.Facts.Graph.{IsEntityInRange, MayFollow, enumerations}
use Rattle.cxx_model.specs.Text.Lexemes.{Lexeme, nowhere}
use Rattle.cxx_names.specs.Clashes.{IsPlain}
use Rattle.cxx_model.specs.Facts.Declarations.{CxxFact, declares_at}
use Rattle.cxx_model.specs.Stops.{Answer, ◌>>=◌}
use Rattle.cxx_meaning.specs.Conversions.Enumerations.{values_in}
use Rattle.cxx_model.specs.Types.Integral.{one_holds}
use Rattle.cxx_model.specs.Types.Trees.{CxxType}
use Rattle.cxx_reading.specs.Declaring as declaring
use Rattle.cxx_reading.specs.Declaring.{added, defined_as, free, free_linked, free_object, linked_as, no_flags, undefined}
use Rattle.cxx_reading.specs.Linked.{is_an_object}
use Rattle.cxx_reading.specs.State.{CxxState}
use Rattle.cxx_tree.specs.Held.{Held}

-- the bytes of a name
abbrev pub word_in : Name → List ℕ
word_in (name.Spelled word) = word
word_in _ = []

-- a token that is a name
abbrev pub token : TokenKind → Place → List ℕ → Lexeme
token kind place word = record { kind = kind; place = place; spelling = word }

-- a name is that of a token, where there is one
abbrev pub IsNameOf : Option Lexeme → Name → Type 0
IsNameOf None name.Unnamed = Unit {0}
IsNameOf (Some one) (name.Spelled word) = one.spelling ≡ word
IsNameOf _ _ = ⊥

-- A declaration that may be added to a state.
pub record IsReady (held : Held) (fact : Fact) : Type 0 where
  pub follows : MayFollow held.graph fact
  pub below : IsFactBelow (length held.types) fact
  pub plain : IsPlain fact

-- an object, a function or a template
abbrev pub IsNoClass : Entity → Type 0
IsNoClass (entity.Object of member is_mutable value first) = Unit {0}
IsNoClass (entity.Function of member flags defaults first) = Unit {0}
IsNoClass (entity.Template template member defaults is_explicit first) = Unit {0}
IsNoClass _ = ⊥

-- a declaration outside classes
abbrev pub made : ScopeId → Place → Name → Entity → Fact
made scope place name what = record { place = place; scope = scope; name = name; access = Public; what = what }

-- the same fact in another scope
abbrev pub moved : ScopeId → Fact → Fact
moved scope fact = record fact { scope = scope }

-- 3: whether a fact is there that declares an object
abbrev pub is_object_there : List CxxType → Option Fact → Bool
is_object_there types None = false
is_object_there types (Some fact) = is_an_object (declares_at types fact.what)

-- ---- first declarations

-- a type of which nothing is asked
abbrev pub a_type : TypeId
a_type = record { 0 = 0 }

-- a fact of which its name alone is asked
abbrev pub named : List ℕ → Entity → Fact
named word what = made (record { 0 = 0 }) nowhere (name.Spelled word) what

abbrev pub object_first : TypeId → MemberKind → Option FactId → Entity
object_first of kind first = entity.Object of kind false None first

abbrev pub function_first : TypeId → ℕ → Option FactId → Entity
function_first of defaults first = entity.Function of Free no_flags defaults first

-- 3: an object with a name may have this first declaration
abbrev pub IsEarlierObject : Held → List ℕ → Option FactId → Type 0
IsEarlierObject held word first = IsEntityInRange held.graph (named word (object_first a_type Free first)) (object_first a_type Free first)

-- 13.1: the same of a function
abbrev pub IsEarlierFunction : Held → List ℕ → Option FactId → Type 0
IsEarlierFunction held word first = IsEntityInRange held.graph (named word (function_first a_type 0 first)) (function_first a_type 0 first)

-- 9.3: a function with a name that is declared again has a type of the table, and an earlier declaration
abbrev pub IsAgain : Held → List ℕ → Entity → Type 0
IsAgain held word (entity.Function of member flags defaults first) = (of.0 < length held.types) × IsEarlierFunction held word first
IsAgain held word _ = ⊥

-- ---- what is declared

-- what was declared has an answer that is not asked
abbrev pub unit_of : {X E : Type 0} → Result X E → Result (Unit {0}) E
unit_of (Ok x) = Ok tt
unit_of (Err e) = Err e

-- 3.2, 3.3: nothing stands in the way of a definition
abbrev pub definable_by : CxxState → Place → List ℕ → CxxFact → Answer (Unit {0})
definable_by state place word fact = free state fact word >>= λ is_free. undefined state place word (length state.graph.facts) fact.what

-- 9.4.2: the same of an object, which may be a static member that its class declares
abbrev pub definable_object_by : CxxState → Place → List ℕ → CxxFact → Answer (Unit {0})
definable_object_by state place word fact = free_object state fact word >>= λ is_free. undefined state place word (length state.graph.facts) fact.what

-- an object is declared
abbrev pub object_added : CxxFact → List ℕ → CxxState → Answer (ℕ × CxxState)
object_added fact word state = free_object state fact word >>= λ is_free. added fact state

-- a fact is added and noted as a definition
abbrev pub added_defined : CxxFact → CxxState → Answer (ℕ × CxxState)
added_defined fact state = added fact state >>= λ answer. Ok (defined_as answer)

abbrev pub defined_by : Place → List ℕ → CxxFact → CxxState → Answer (ℕ × CxxState)
defined_by place word fact state = definable_by state place word fact >>= λ is_first. added_defined fact state

abbrev pub object_defined_by : Place → List ℕ → CxxFact → CxxState → Answer (ℕ × CxxState)
object_defined_by place word fact state = definable_object_by state place word fact >>= λ is_first. added_defined fact state

-- 3.5: what was declared is linked
abbrev pub linking : Answer (ℕ × CxxState) → Answer (ℕ × CxxState)
linking reply = reply >>= λ answer. Ok (linked_as answer)

abbrev pub linked_by : CxxFact → List ℕ → CxxState → Answer (ℕ × CxxState)
linked_by fact word state = free_linked state fact word >>= λ is_free. linking (added fact state)

-- ---- enumerations

abbrev pub enumeration_number : Held → EnumId → ℕ
enumeration_number held number = number.0

abbrev pub IsEnumerationThere : Held → EnumId → Type 0
IsEnumerationThere held number = number.0 < enumerations held.graph.facts

-- 7.2: the conflict, then one type for all values
abbrev pub value_checked : CxxState → CxxFact → List ℕ → ℕ → ℤ → Answer (Unit {0})
value_checked state fact word number value = free state fact word >>= λ is_free. declaring.held fact.place (one_holds (values_in number state.graph.facts ++ value ∷ []))

-- a fact is added, and its number is not asked
abbrev pub told_added : CxxFact → CxxState → Answer (Unit {0} × CxxState)
told_added fact state = added fact state >>= λ answer. Ok (tt, answer.1)

-- ---- types and namespaces

abbrev pub IsTypeThere : Held → TypeId → Type 0
IsTypeThere held number = number.0 < length held.types
