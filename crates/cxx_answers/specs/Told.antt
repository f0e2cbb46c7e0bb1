-- Declarations that were found, by their numbers, and those that tell default arguments (8.3.6).
use Rattle.std.specs.Prelude.{ℕ, ◌≡◌, ◌<◌, Bool, true, false, List, [], ◌∷◌, length, Option, Some, None}
use Rattle.std.specs.List.{slice_get}
use Rattle.cxx_model.specs.declared.facts.Fact.{Fact}
use Rattle.cxx_model.specs.declared.types.FactId.{FactId}
use Rattle.cxx_model.specs.declared.types.ScopeId.{ScopeId}
use Rattle.cxx_model.specs.Facts.Declarations.{CxxGraph, CxxName, fact_at, graph_at}
use Rattle.cxx_model.specs.Facts.Fitted.{IsGraphBelow}
use Rattle.cxx_model.specs.Types.Trees.{CxxType}
use Rattle.cxx_reading.specs.Seen.{Numbered}
use Rattle.cxx_names.specs.Index.{Notes}
use Rattle.cxx_names.specs.Looked.{looked_up}
use Rattle.cxx_names.specs.Named.{named_among}
use Rattle.cxx_answers.specs.declared.givers.Telling.{Telling}

-- ---- by their numbers

abbrev pub told_by : List CxxType → FactId → Option Fact → Option Numbered
told_by types number None = None
told_by types number (Some fact) = Some (record { number = number.0; fact = fact_at types fact })

-- the declaration with a number, where there is one
abbrev pub told : List CxxType → List Fact → Option FactId → Option Numbered
told types facts None = None
told types facts (Some number) = told_by types number (slice_get facts number.0)

-- the scope of a declaration, where there is one
abbrev pub IsScopeOf : Option Numbered → ScopeId → Type 0
IsScopeOf None scope = ⊥
IsScopeOf (Some one) scope = scope.0 ≡ one.fact.scope

abbrev pub AreNumbersBelow : ℕ → List FactId → Type 0
AreNumbersBelow count [] = Unit {0}
AreNumbersBelow count (n ∷ numbers) = (n.0 < count) × AreNumbersBelow count numbers

abbrev pub are_some : List Numbered → Bool
are_some [] = false
are_some (one ∷ others) = true

abbrev pub one_number : Option FactId → List FactId
one_number None = []
one_number (Some number) = number ∷ []

-- ---- what is read

-- The index is that of the graph, and the types that the graph names are in the table.
pub record IsTelling (telling : Telling) : Type 0 where
  pub noted : Notes telling.names.now telling.graph.now.facts
  pub below : IsGraphBelow (length telling.types.now) telling.graph.now

abbrev pub graph_of : Telling → CxxGraph
graph_of telling = graph_at telling.types.now telling.graph.now

abbrev pub told_in : Telling → Option FactId → Option Numbered
told_in telling number = told telling.types.now telling.graph.now.facts number

-- the declarations with some numbers
abbrev pub those_in : Telling → List FactId → List Numbered
those_in telling numbers = looked_up telling.types.now telling.graph.now.facts numbers

-- those of them that have a name
abbrev pub named_in : Telling → CxxName → List FactId → List FactId
named_in telling name numbers = named_among telling.types.now telling.graph.now.facts name numbers

abbrev pub count_in : Telling → ℕ
count_in telling = length telling.graph.now.facts
