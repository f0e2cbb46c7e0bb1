-- The types that declarations name.
use Rattle.std.specs.Prelude.{ℕ, ◌<◌, List, [], ◌∷◌, Option, Some, None}
use Rattle.cxx_model.specs.declared.base.Base.TheVariants.{Void}
use Rattle.cxx_model.specs.Types.Numbers.{type_at}
use Rattle.cxx_model.specs.Types.Trees.{CxxType, fundamental, class_type, enumeration}
use Rattle.cxx_reading.specs.Seen.{Numbered, type_named_by}
use Rattle.cxx_names.specs.declared.named.NamedType.{NamedType}
use Rattle.cxx_names.specs.declared.named.NamedType.TheVariants as named

abbrev pub named_at : List CxxType → NamedType → CxxType
named_at types (named.Class class) = class_type class.0
named_at types (named.Enumeration number) = enumeration number.0
named_at types (named.Other of) = type_at types of.0

abbrev pub IsNamedBelow : ℕ → NamedType → Type 0
IsNamedBelow count (named.Other of) = of.0 < count
IsNamedBelow count _ = Unit {0}

abbrev pub or_void : Option CxxType → CxxType
or_void None = fundamental Void
or_void (Some of) = of

abbrev pub first_or : Option CxxType → Option CxxType → Option CxxType
first_or None later = later
first_or (Some of) later = Some of

-- the first type that some declarations name
abbrev pub first_named : List Numbered → Option CxxType
first_named [] = None
first_named (one ∷ others) = first_or (type_named_by one.fact.what) (first_named others)
