-- Types that lead to no class and to no enumeration (3.4.2), told apart without a look at what is declared. Of functions
-- those alone count whose result and parameters are made of fundamental types, without functions in them.
use Rattle.std.specs.Prelude.{Bool, true, false, ◌&&◌, List, [], ◌∷◌}
use Rattle.cxx_model.specs.Types.Trees.{CxxType, CxxTypes, fundamental, pointer_to, reference_to, array_of, function_of, qualified, no_types, type_then}

-- a fundamental type, under pointers, references, arrays and cv words
abbrev pub is_simple : CxxType → Bool
is_simple (fundamental base) = true
is_simple (pointer_to t) = is_simple t
is_simple (reference_to t) = is_simple t
is_simple (array_of t bound) = is_simple t
is_simple (qualified cv t) = is_simple t
is_simple _ = false

abbrev pub are_simple : CxxTypes → Bool
are_simple no_types = true
are_simple (type_then t ts) = is_simple t && are_simple ts

-- such a type, or a function of such types, under pointers, references, arrays and cv words
abbrev pub leads_nowhere : CxxType → Bool
leads_nowhere (fundamental base) = true
leads_nowhere (pointer_to t) = leads_nowhere t
leads_nowhere (reference_to t) = leads_nowhere t
leads_nowhere (array_of t bound) = leads_nowhere t
leads_nowhere (qualified cv t) = leads_nowhere t
leads_nowhere (function_of r ts ellipsis cv) = is_simple r && are_simple ts
leads_nowhere _ = false

abbrev pub lead_nowhere : List CxxType → Bool
lead_nowhere [] = true
lead_nowhere (t ∷ ts) = leads_nowhere t && lead_nowhere ts
