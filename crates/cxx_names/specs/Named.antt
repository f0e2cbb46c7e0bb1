-- Declarations that have a name, whatever name that is.
use Rattle.std.specs.Prelude.{Bool, false, ◌&&◌, if◌then◌else◌, List, [], ◌∷◌, Option, Some, None}
use Rattle.std.specs.List.{slice_get}
use Rattle.cxx_model.specs.declared.facts.Fact.{Fact}
use Rattle.cxx_model.specs.declared.types.FactId.{FactId}
use Rattle.cxx_model.specs.Facts.Conflicts.{declares_name, has_name, same_name}
use Rattle.cxx_model.specs.Facts.Declarations.{CxxName, declares_at, name_at}
use Rattle.cxx_model.specs.Types.Trees.{CxxType}

-- whether a fact is there and declares the name
abbrev pub has_the_name : List CxxType → CxxName → Option Fact → Bool
has_the_name types name None = false
has_the_name types name (Some fact) = declares_name (declares_at types fact.what) && (has_name name && same_name (name_at types fact.name) name)

-- those of some numbers whose facts declare the name
abbrev pub named_among : List CxxType → List Fact → CxxName → List FactId → List FactId
named_among types facts name [] = []
named_among types facts name (number ∷ numbers) = if has_the_name types name (slice_get facts number.0) then number ∷ named_among types facts name numbers else named_among types facts name numbers
