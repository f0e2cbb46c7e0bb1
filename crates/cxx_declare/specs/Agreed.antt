-- Members that are declared outside of their namespace, in the terms of the definitions (8.3).
use Rattle.std.specs.Prelude.{ℕ, List, Option, Some, None}
use Rattle.cxx_model.specs.declared.facts.Fact.{Fact}
use Rattle.cxx_model.specs.declared.place.Place.{Place}
use Rattle.cxx_model.specs.Facts.Declarations.{fact_at}
use Rattle.cxx_model.specs.Stops.{Stopped}
use Rattle.cxx_model.specs.Types.Trees.{CxxType}
use Rattle.cxx_reading.specs.Declaring.{conflicting_at}
use Rattle.cxx_reading.specs.Seen.{Numbered}

-- no member agrees, given where the first of the entities stands that the name means
abbrev pub disagreeing : Place → List ℕ → Option Place → Stopped
disagreeing place word None = conflicting_at place word place
disagreeing place word (Some other) = conflicting_at place word other

-- a fact with its number
abbrev pub seen_as : List CxxType → ℕ → Fact → Numbered
seen_as types number fact = record { number = number; fact = fact_at types fact }
