-- How the declarations that have one number are found.
use Rattle.std.specs.Prelude.{ℕ, ◌≡◌, ◌<◌, ◌+◌, ◌*◌, Bool, true, false, ◌&&◌, nat_eq, if◌then◌else◌, List, [], ◌∷◌, length, Option, Some, None, slice_index_or}
use Rattle.std.specs.Cmp.Lexicographic.{pointwise}
use Rattle.std.specs.Global.{Vec}
use Rattle.std.specs.List.{list_any, slice_get}
use Rattle.cxx_model.specs.declared.types.FactId.{FactId}
use Rattle.cxx_model.specs.Facts.Declarations.{CxxFact, CxxName}
use Rattle.cxx_model.specs.Types.Trees.{array_of, class_type, enumeration, function_of, no_types, pointer_to, qualified, reference_to, type_then, CxxType, CxxTypes}
use Rattle.cxx_reading.specs.TextOrder.{name_stem}
use Rattle.cxx_form.specs.declared.mark.Mark.{Mark}
use Rattle.cxx_form.specs.Lines.{numbers_in}
use Rattle.cxx_form.specs.Marked.{row_by}
use Rattle.cxx_form.specs.Shared.{has_same, representative, signature_of, signature_with, CxxSignature}

-- ---- signatures

abbrev pub signature_typed : CxxName → Option CxxType → Option CxxSignature
signature_typed name None = None
signature_typed name (Some of) = signature_with name of

abbrev pub same_if : Option CxxSignature → Option CxxSignature → Bool
same_if None other = false
same_if (Some one) other = has_same one other

-- the first among some declarations that has a signature
abbrev pub first_among : List CxxFact → Option CxxSignature → List ℕ → Option ℕ
first_among all signature [] = None
first_among all signature (number ∷ others) = if same_if signature (signature_of (slice_get all number)) then Some number else first_among all signature others

-- ---- marks

-- What stands at the end of a type behind its pointers, references, arrays and cv words (8.3): a class or an enumeration, by
-- its number, or something else.
abbrev pub end_of : CxxType → ℕ
end_of (class_type n) = 2 * n + 1
end_of (enumeration n) = 2 * n + 2
end_of (pointer_to of) = end_of of
end_of (reference_to of) = end_of of
end_of (array_of of bound) = end_of of
end_of (qualified cv of) = end_of of
end_of _ = 0

abbrev pub ends_of : CxxTypes → List ℕ
ends_of no_types = []
ends_of (type_then of others) = end_of of ∷ ends_of others

abbrev pub ends_by : CxxType → List ℕ
ends_by (function_of result parameters ellipsis cv) = ends_of parameters
ends_by _ = []

-- the mark of a function with a name and a type
abbrev pub mark_by : CxxName → CxxType → Mark
mark_by name of = record { stem = name_stem name; ends = ends_by of }

abbrev pub mark_of : CxxSignature → Mark
mark_of signature = record { stem = name_stem signature.name; ends = ends_of signature.parameters }

abbrev pub same_mark : Mark → Mark → Bool
same_mark one two = pointwise nat_eq one.stem two.stem && pointwise nat_eq one.ends two.ends

abbrev pub marked : List (Mark × Vec FactId) → Mark → List ℕ
marked entries mark = numbers_in (row_by same_mark entries mark)

-- Of the declarations before a number, those whose number is their own stand under their marks, and no others do.
pub record AreMarked (all : List CxxFact) (count : ℕ) (entries : List (Mark × Vec FactId)) : Type 0 where
  pub own : (mark : Mark) (n : ℕ) → list_any (nat_eq n) (marked entries mark) ≡ true → representative all n ≡ n
  pub each : (n : ℕ) (signature : CxxSignature) → n < count → signature_of (slice_get all n) ≡ Some signature → representative all n ≡ n → list_any (nat_eq n) (marked entries (mark_of signature)) ≡ true

-- ---- those whose number a declaration has

abbrev pub first_at : List FactId → ℕ → ℕ
first_at firsts n = (slice_index_or firsts n (record { 0 = n })).0

-- Each declaration stands beside the one whose number it has.
abbrev pub AreShared : List CxxFact → List FactId → Type 0
AreShared all firsts = (n : ℕ) → first_at firsts n ≡ representative all n

-- The same of those before a number.
pub record AreSharedBefore (all : List CxxFact) (count : ℕ) (firsts : List FactId) : Type 0 where
  pub many : length firsts ≡ count
  pub each : (n : ℕ) → n < count → first_at firsts n ≡ representative all n
