-- What each declaration gives to the plain form.
use Rattle.std.specs.Prelude.{ℕ, Bool, true, false, zero, suc, ◌+◌, ◌≡◌, List, [], ◌++◌, length, Option, Some, None, nat_eq, if◌then◌else◌}
use Rattle.cxx_model.specs.declared.facts.MemberKind.TheVariants.{Free}
use Rattle.cxx_model.specs.declared.types.FactId.{FactId}
use Rattle.cxx_model.specs.Facts.Declarations as facts
use Rattle.cxx_model.specs.Facts.Declarations.{CxxFact, Declares}
use Rattle.cxx_meaning.specs.Lookups.Gathered.{before, gathered}
use Rattle.cxx_reading.specs.Plain.{number_of_enumeration}
use Rattle.cxx_form.specs.Order.{Line, class_definition, ended_class, enumeration_line, function_line, is_part, named_or, number_of_class}
use Rattle.cxx_form.specs.Rows.{row_at}
use Rattle.cxx_form.specs.Slots.{slot_at}

-- what a function of a declaration and its number gives where there is one
abbrev pub given_at : {A : Type 0} → (ℕ → CxxFact → Option A) → ℕ → Option CxxFact → List A
given_at give number None = []
given_at give number (Some fact) = before (give number fact) []

-- ---- lines

abbrev pub enumeration_by : ℕ → Declares → Option Line
enumeration_by number (facts.enumeration n) = Some (enumeration_line n number)
enumeration_by number _ = None

abbrev pub class_definition_by : List CxxFact → ℕ → Option ℕ → Option Line
class_definition_by all scope None = None
class_definition_by all scope (Some n) = Some (class_definition (number_of_class n 0 all) scope)

abbrev pub function_by : ℕ → Declares → Option Line
function_by number (facts.function of Free flags defaults None) = Some (function_line number)
function_by number _ = None

abbrev pub enumeration_given : ℕ → CxxFact → Option Line
enumeration_given number fact = enumeration_by number fact.what

abbrev pub class_definition_given : List CxxFact → ℕ → CxxFact → Option Line
class_definition_given all number fact = class_definition_by all fact.scope (ended_class fact.what)

abbrev pub function_given : ℕ → CxxFact → Option Line
function_given number fact = function_by number fact.what

-- ---- enumerations and their enumerators (7.2)

-- the enumeration that is declared
abbrev pub named_by : Declares → Option ℕ
named_by (facts.enumeration n) = Some n
named_by _ = None

-- the enumeration of which an enumerator is declared
abbrev pub holder_by : Declares → Option ℕ
holder_by (facts.enumerator n value) = Some n
holder_by _ = None

abbrev pub if_held : ℕ → ℕ → Option ℕ → Option FactId
if_held n number None = None
if_held n number (Some m) = if nat_eq m n then Some (record { 0 = number }) else None

-- ---- declarations that are held under numbers

-- those under a number, where each is held under one or under none
abbrev pub held_given : (CxxFact → Option ℕ) → ℕ → ℕ → CxxFact → Option FactId
held_given holder n number fact = if_held n number (holder fact)

-- rows that hold each under its number
abbrev pub AreHeld : (CxxFact → Option ℕ) → List CxxFact → List (List FactId) → Type 0
AreHeld holder all rows = (n : ℕ) → row_at rows n ≡ gathered (held_given holder n) 0 all

-- rows with one more, where it is held
abbrev pub HasHeld : List (List FactId) → List (List FactId) → ℕ → Option ℕ → Type 0
HasHeld old new number holder = (n : ℕ) → row_at new n ≡ row_at old n ++ before (if_held n number holder) []

-- rows with what the declaration with a number gives
abbrev pub HasGiven : (CxxFact → Option ℕ) → List (List FactId) → List (List FactId) → ℕ → Option CxxFact → Type 0
HasGiven holder old new number fact = (n : ℕ) → row_at new n ≡ row_at old n ++ given_at (held_given holder n) number fact

-- an enumerator is held under its enumeration
abbrev pub enumeration_of_fact : CxxFact → Option ℕ
enumeration_of_fact fact = holder_by fact.what

abbrev pub AreEnumerators : List CxxFact → List (List FactId) → Type 0
AreEnumerators all rows = AreHeld enumeration_of_fact all rows

abbrev pub enumerator_given : ℕ → ℕ → CxxFact → Option FactId
enumerator_given n number fact = held_given enumeration_of_fact n number fact

-- an object and a function of a class are held under their scope
abbrev pub scope_if : ℕ → Bool → Option ℕ
scope_if scope true = Some scope
scope_if scope false = None

abbrev pub scope_of_part : CxxFact → Option ℕ
scope_of_part fact = scope_if fact.scope (is_part fact.what)

abbrev pub AreParts : List CxxFact → List (List FactId) → Type 0
AreParts all rows = AreHeld scope_of_part all rows

-- ---- where enumerations are declared

-- a number that was set to one more than where an enumeration or a class is declared, or else what follows
abbrev pub declared_or : ℕ → ℕ → ℕ
declared_or zero later = later
declared_or (suc number) later = number

-- numbers that say where each enumeration is declared
abbrev pub AreDeclared : List CxxFact → List ℕ → Type 0
AreDeclared all slots = (n : ℕ) → declared_or (slot_at slots n) (length all) ≡ number_of_enumeration n 0 all

-- numbers that say where each class is declared first
abbrev pub AreFirst : List CxxFact → List ℕ → Type 0
AreFirst all slots = (n : ℕ) → declared_or (slot_at slots n) (length all) ≡ number_of_class n 0 all

-- numbers once the declaration with a number was looked at for a class: before it these are left, and behind it those
abbrev pub HasFirst : List ℕ → List ℕ → ℕ → List CxxFact → List CxxFact → Type 0
HasFirst old new number before behind = (n : ℕ) → declared_or (slot_at new n) (number_of_class n (number + 1) behind) ≡ declared_or (slot_at old n) (number_of_class n number before)

-- numbers with one enumeration or class more, where there is one
abbrev pub HasNamed : List ℕ → List ℕ → ℕ → Option ℕ → Type 0
HasNamed old new number named = (n later : ℕ) → declared_or (slot_at new n) later ≡ declared_or (slot_at old n) (named_or n number named later)

-- numbers once the declaration with a number was looked at: before it these are left, and behind it those
abbrev pub HasDeclared : List ℕ → List ℕ → ℕ → List CxxFact → List CxxFact → Type 0
HasDeclared old new number before behind = (n : ℕ) → declared_or (slot_at new n) (number_of_enumeration n (number + 1) behind) ≡ declared_or (slot_at old n) (number_of_enumeration n number before)
