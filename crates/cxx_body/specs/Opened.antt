-- The statements of a body where there is room for them, what a type says that a function returns, and incomplete classes.
use Rattle.std.specs.Prelude.{ℕ, ◌≡◌, ◌<◌, if◌then◌else◌, length, List, [], ◌∷◌, Option, Some, None}
use Rattle.std.specs.List.{slice_get}
use Rattle.cxx_model.specs.declared.base.Base.TheVariants.{Void}
use Rattle.cxx_model.specs.declared.facts.Fact.{Fact}
use Rattle.cxx_model.specs.declared.place.Place.{Place}
use Rattle.cxx_model.specs.declared.types.FactId.{FactId}
use Rattle.cxx_model.specs.declared.types.TypeId.{TypeId}
use Rattle.cxx_model.specs.Facts.Declarations.{declares_at, graph_at}
use Rattle.cxx_model.specs.Facts.Graph.{Graph}
use Rattle.cxx_model.specs.Types.Numbers.{type_at}
use Rattle.cxx_model.specs.Types.Trees.{CxxType, fundamental}
use Rattle.cxx_reading.specs.Declaring.{begin_body, end_body}
use Rattle.cxx_reading.specs.Reads.{Reads, ◌>>=◌, give, ask, taken}
use Rattle.cxx_reading.specs.State.{CxxState}
use Rattle.cxx_reading.specs.Trees.{CxxTree}
use Rattle.cxx_language.specs.Bodies.{is_incomplete_object, result_of, standing}
use Rattle.cxx_language.specs.Statements.{parts_at}
use Rattle.cxx_statements.specs.Statements.{body_at}

-- 8.4: from the `{` on, with room for so many brackets behind it
abbrev pub statements_opened : ℕ → ℕ → ℕ → CxxType → Reads CxxState (List CxxTree)
statements_opened room list number result = standing >>= λ outside. ask (begin_body list number result) >>= λ begun. taken >>= λ opened. body_at parts_at room >>= λ statements. ask (end_body outside) >>= λ ended. give statements

-- 8.3.5: what a type says that a function returns, where it is one of a function
abbrev pub IsReturned : List CxxType → Option TypeId → CxxType → Type 0
IsReturned types None of = result_of of ≡ fundamental Void
IsReturned types (Some number) of = (number.0 < length types) × (result_of of ≡ type_at types number.0)

-- 9.2: the place of a declaration, where it is one of an object whose class is incomplete
abbrev pub incomplete_by : Graph → List CxxType → Option Fact → Option Place
incomplete_by graph types None = None
incomplete_by graph types (Some fact) = if is_incomplete_object (graph_at types graph) (declares_at types fact.what) then Some fact.place else None

abbrev pub place_or : Option Place → Option Place → Option Place
place_or None later = later
place_or (Some place) later = Some place

-- that of the first of some declarations, given their numbers
abbrev pub first_incomplete : Graph → List CxxType → List Fact → List FactId → Option Place
first_incomplete graph types facts [] = None
first_incomplete graph types facts (number ∷ others) = place_or (incomplete_by graph types (slice_get facts number.0)) (first_incomplete graph types facts others)
