-- What a using-declaration brings, in the terms of the definitions (7.3.3).
use Rattle.std.specs.Prelude.{ℕ, ◌<◌, List, [], ◌∷◌, length, Option, Some, None}
use Rattle.cxx_model.specs.declared.lookup.Found.{Found}
use Rattle.cxx_model.specs.declared.lookup.Found.TheVariants as found
use Rattle.cxx_model.specs.declared.place.Place.{Place}
use Rattle.cxx_model.specs.declared.types.FactId.{FactId}
use Rattle.cxx_reading.specs.Seen.{Numbered}
use Rattle.cxx_tree.specs.Held.{Held}

-- each number is that of a declaration
abbrev pub AreThere : ℕ → List FactId → Type 0
AreThere count [] = Unit {0}
AreThere count (n ∷ others) = (n.0 < count) × AreThere count others

abbrev pub IsFoundThere : ℕ → Found → Type 0
IsFoundThere count (found.Set facts) = AreThere count facts
IsFoundThere count _ = Unit {0}

abbrev pub AreFoundThere : Held → Found → Type 0
AreFoundThere held one = IsFoundThere (length held.graph.facts) one

-- where a declaration stands, where there is one
abbrev pub place_of_space : Option Numbered → Option Place
place_of_space None = None
place_of_space (Some one) = Some one.fact.place
