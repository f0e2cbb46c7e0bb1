-- Classes that begin and end, in the terms of the definitions (9.2).
use Rattle.std.specs.Prelude.{ℕ, Bool, true, false, List, length, None, Ok}
use Rattle.cxx_model.specs.declared.facts.Entity.{Entity}
use Rattle.cxx_model.specs.declared.facts.Entity.TheVariants as entity
use Rattle.cxx_model.specs.declared.facts.Fact.{Fact}
use Rattle.cxx_model.specs.declared.place.Place.{Place}
use Rattle.cxx_model.specs.declared.types.TypeId.{TypeId}
use Rattle.cxx_model.specs.Facts.Declarations.{CxxFact}
use Rattle.cxx_model.specs.Facts.Fitted.{IsFactBelow}
use Rattle.cxx_model.specs.Facts.Graph.{MayFollow}
use Rattle.cxx_model.specs.Stops.{Answer, ◌>>=◌}
use Rattle.cxx_model.specs.Text.Lexemes.{Lexeme}
use Rattle.cxx_names.specs.Plain.{IsPlainFact}
use Rattle.cxx_reading.specs.Classes.{reserved}
use Rattle.cxx_reading.specs.Declaring.{added, free}
use Rattle.cxx_reading.specs.State.{CxxState}
use Rattle.cxx_declare.specs.ClassDefinitions.{added_each, begun_as, class_end, ended_as, enter_class, enter_unnamed, flags_of, member_kind}
use Rattle.cxx_declare.specs.declared.class_definitions.MemberWords.{MemberWords}
use Rattle.cxx_declare.specs.Made.{added_defined, definable_by}
use Rattle.cxx_tree.specs.Held.{Held}

-- A fact that may be added to a state, and that is tested for no conflict.
pub record IsAddable (held : Held) (fact : Fact) : Type 0 where
  pub follows : MayFollow held.graph fact
  pub below : IsFactBelow (length held.types) fact
  pub plain : IsPlainFact fact.what

-- a fact is added, and the reader stands in the scope of a class then
abbrev pub named_within : ℕ → ℕ → CxxFact → CxxState → Answer (ℕ × CxxState)
named_within scope n fact state = added fact state >>= λ named. Ok (begun_as n scope named)

-- 3.2: the declaration of a class is added, which is a definition, and its scope begins
abbrev pub class_added : Lexeme → ℕ → CxxFact → CxxState → Answer (ℕ × CxxState)
class_added name n fact state = added_defined fact state >>= λ answer. enter_class name n answer.1

-- where nothing stands in the way of it
abbrev pub class_known : Lexeme → ℕ → Place → List ℕ → CxxFact → CxxState → Answer (ℕ × CxxState)
class_known name n place word fact state = definable_by state place word fact >>= λ is_first. class_added name n fact state

-- the same of one that is reserved first
abbrev pub class_reserved : Lexeme → ℕ → CxxFact → CxxState → Answer (ℕ × CxxState)
class_reserved name n fact state = reserved state >>= λ answer. class_added name n fact answer.1

-- what conflicts comes before the limit
abbrev pub next_class_defined : Lexeme → ℕ → List ℕ → CxxFact → CxxState → Answer (ℕ × CxxState)
next_class_defined name n word fact state = free state fact word >>= λ is_free. class_reserved name n fact state

-- the same of one without a name
abbrev pub unnamed_added : Place → ℕ → CxxFact → CxxState → Answer (ℕ × CxxState)
unnamed_added place n fact state = added_defined fact state >>= λ answer. enter_unnamed place n answer.1

abbrev pub unnamed_reserved : Place → ℕ → CxxFact → CxxState → Answer (ℕ × CxxState)
unnamed_reserved place n fact state = reserved state >>= λ answer. unnamed_added place n fact answer.1

-- it is complete, and the reader stands in the scope that holds it
abbrev pub class_completed : ℕ → Place → CxxState → Answer (Unit {0} × CxxState)
class_completed n place state = added (class_end state place n) state >>= λ answer. Ok (ended_as answer)

-- facts are added before
abbrev pub ended_with : List CxxFact → ℕ → Place → CxxState → Answer (Unit {0} × CxxState)
ended_with all n place state = added_each all state >>= λ implied. class_completed n place implied.1

-- ---- its members

-- 9.2, 9.3: a function, where it is one, or else a data member
abbrev pub member_entity : Bool → MemberWords → TypeId → ℕ → Entity
member_entity true words of defaults = entity.Function of (member_kind words.is_static) (flags_of words) defaults None
member_entity false words of defaults = entity.Object of (member_kind words.is_static) words.is_mutable None None
