-- How deep a type is.
use Rattle.std.specs.Prelude.{ℕ, ◌+◌, max}
use Rattle.cxx_model.specs.Types.Trees.{CxxType, fundamental, class_type, enumeration, pointer_to, reference_to, array_of, function_of, qualified, type_parameter, specialisation, nested_in, CxxTypes, no_types, type_then}

-- The pointers, references, arrays, functions and nested names (8.3.1, 8.3.2, 8.3.4, 8.3.5, 14.6) on the longest way down a
-- type. Cv adds none, and neither does what stands in the arguments of a specialisation.
abbrev mutual
  pub level_count : CxxType → ℕ
  level_count (fundamental base) = 0
  level_count (class_type n) = 0
  level_count (enumeration n) = 0
  level_count (pointer_to t) = level_count t + 1
  level_count (reference_to t) = level_count t + 1
  level_count (array_of t bound) = level_count t + 1
  level_count (function_of r ts ellipsis cv) = max (level_count r) (level_counts ts) + 1
  level_count (qualified cv t) = level_count t
  level_count (type_parameter depth index) = 0
  level_count (specialisation n given) = 0
  level_count (nested_in t word) = level_count t + 1

  pub level_counts : CxxTypes → ℕ
  level_counts no_types = 0
  level_counts (type_then t ts) = max (level_count t) (level_counts ts)
