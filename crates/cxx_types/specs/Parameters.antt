-- The types of a list, each in the one form, and as parameters.
use Rattle.cxx_model.specs.Types.Trees.{CxxTypes, no_types, type_then, adjusted, normal}

-- 8.3.5: each type as that of a parameter
abbrev pub adjusted_types : CxxTypes → CxxTypes
adjusted_types no_types = no_types
adjusted_types (type_then t ts) = type_then (adjusted t) (adjusted_types ts)

abbrev pub normal_types : CxxTypes → CxxTypes
normal_types no_types = no_types
normal_types (type_then t ts) = type_then (normal t) (normal_types ts)
