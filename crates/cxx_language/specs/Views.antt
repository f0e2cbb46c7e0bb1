-- What the values of readers stand for.
use Rattle.std.specs.Prelude.{◌<◌}
use Rattle.cxx_model.specs.Facts.Graph.{scopes}
use Rattle.cxx_language.specs.declared.spaces.NamedSpace.{NamedSpace}
use Rattle.cxx_language.specs.Spaces as definition
use Rattle.cxx_tree.specs.Held.{Held}

-- a namespace that is named
abbrev pub space_of : Held → NamedSpace → definition.NamedSpace
space_of held one = record { place = one.place; inner = one.inner.0 }

abbrev pub IsSpaceKnown : Held → NamedSpace → Type 0
IsSpaceKnown held one = one.inner.0 < scopes held.graph.facts
