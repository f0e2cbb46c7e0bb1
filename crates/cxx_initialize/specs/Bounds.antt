-- Arrays and their bounds, as the code comes to them by the numbers of types (8.3.4).
use Rattle.std.specs.Prelude.{ℕ, ◌≡◌, Bool, true, false, Option, Some, None}
use Rattle.cxx_model.specs.declared.types.TypeId.{TypeId}
use Rattle.cxx_model.specs.Types.Trees.{CxxBound, CxxType, array_of, number_bound, unknown_bound}
use Rattle.cxx_tree.specs.Held.{Held, type_of}

-- the bound of an array
abbrev pub bound_in : CxxType → CxxBound
bound_in (array_of of bound) = bound
bound_in _ = unknown_bound

abbrev pub is_unknown_bound : CxxBound → Bool
is_unknown_bound unknown_bound = true
is_unknown_bound _ = false

-- how many elements there is room for, where a number says it
abbrev pub room_in : CxxBound → Option ℕ
room_in (number_bound n) = Some n
room_in _ = None

-- a type is that of an array of elements of another type
abbrev pub IsArrayOf : Held → TypeId → TypeId → Type 0
IsArrayOf held of element = type_of held of ≡ array_of (type_of held element) (bound_in (type_of held of))
