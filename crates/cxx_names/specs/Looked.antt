-- Declarations that are named by their numbers.
use Rattle.std.specs.Prelude.{ℕ, Bool, true, false, List, [], ◌∷◌, Option, Some, None, option_map}
use Rattle.std.specs.List.{slice_get}
use Rattle.cxx_model.specs.declared.facts.Fact.{Fact}
use Rattle.cxx_model.specs.declared.types.EnumId.{EnumId}
use Rattle.cxx_model.specs.declared.types.FactId.{FactId}
use Rattle.cxx_model.specs.declared.types.ScopeId.{ScopeId}
use Rattle.cxx_model.specs.Facts.Declarations.{CxxFact, CxxGraph, fact_at}
use Rattle.cxx_model.specs.Facts.Entities.{is_space, scope_kinds}
use Rattle.cxx_model.specs.Types.Trees.{CxxType}
use Rattle.cxx_reading.specs.Seen.{Numbered}
use Rattle.cxx_reading.specs.Classes.{ClassNamed, is_open}
use Rattle.cxx_names.specs.declared.entry.Noted.{Noted}
use Rattle.cxx_names.specs.declared.looked.NamedClass.{NamedClass}

abbrev pub seen_by : List CxxType → FactId → List Numbered → Option Fact → List Numbered
seen_by types number later None = later
seen_by types number later (Some fact) = record { number = number.0; fact = fact_at types fact } ∷ later

-- the declarations with these numbers
abbrev pub looked_up : List CxxType → List Fact → List FactId → List Numbered
looked_up types facts [] = []
looked_up types facts (number ∷ numbers) = seen_by types number (looked_up types facts numbers) (slice_get facts number.0)

-- 3.3: the scope that holds a scope, where there is one
abbrev pub holder_in : ScopeId → Option Noted → ScopeId
holder_in scope None = scope
holder_in scope (Some noted) = noted.parent

abbrev pub enumeration_number : EnumId → ℕ
enumeration_number number = number.0

-- a class that a declaration declares
abbrev pub class_named_at : NamedClass → ClassNamed
class_named_at one = record { number = one.class.0; is_union = one.is_union }

abbrev pub scope_number : ScopeId → ℕ
scope_number scope = scope.0

-- 7.3.1: the scope that holds a scope, or that of the unit
abbrev pub outer_in : Option Noted → ℕ
outer_in None = 0
outer_in (Some noted) = noted.parent.0

abbrev pub is_space_in : Option Noted → Bool
is_space_in None = false
is_space_in (Some noted) = is_space (Some noted.kind)

abbrev pub is_open_in : Option Noted → Bool
is_open_in None = true
is_open_in (Some noted) = is_open (Some noted.kind)

abbrev pub is_open_at : CxxGraph → ℕ → Bool
is_open_at graph scope = is_open (slice_get (scope_kinds graph.facts) scope)

-- the declaration with a number, if there is one
abbrev pub first_at : List CxxType → List Fact → Option FactId → Option CxxFact
first_at types facts None = None
first_at types facts (Some number) = option_map (fact_at types) (slice_get facts number.0)
