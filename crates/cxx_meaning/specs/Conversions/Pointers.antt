-- The common type of two pointers (5.9), and pointers to complete objects (5.7).
use Rattle.std.specs.Prelude.{ℕ, Bool, true, false, ◌&&◌, ◌||◌, not, nat_eq, nat_lt, if◌then◌else◌, List, [], ◌∷◌, Option, Some, None, Ok, Err}
use Rattle.std.specs.List.{list_any}
use Rattle.cxx_model.specs.declared.types.Cv.{Cv}
use Rattle.cxx_model.specs.Facts.Declarations as facts
use Rattle.cxx_model.specs.Facts.Declarations.{CxxGraph, Declares}
use Rattle.cxx_model.specs.Types.Same.{same_cv}
use Rattle.cxx_model.specs.Types.Trees.{CxxType, pointer_to, array_of, qualified, CxxBound, number_bound, merged, with_cv, unqualified}
use Rattle.cxx_meaning.specs.Conversions.Asking.{Asked, ◌>>=◌}
use Rattle.cxx_meaning.specs.Conversions.Derived.{is_derived}
use Rattle.cxx_meaning.specs.Conversions.Kinds.{CxxKind, no_value, arithmetic, enumerated, pointing, of_class, kind_of, cv_of, signature, is_similar, is_function}
use Rattle.cxx_model.specs.Facts.Pending.{is_pending}

-- ---- complete objects

abbrev pub ends : ℕ → Declares → Bool
ends class (facts.complete number) = nat_eq number.0 class
ends class _ = false

-- 9.2: whether the end of a class was read
abbrev pub is_complete : CxxGraph → ℕ → Bool
is_complete graph class = list_any (λ fact. ends class fact.what) graph.facts

-- whether a class is complete, which one that is pending must be first
unfoldable pub is_complete_class : CxxGraph → ℕ → Asked Bool
is_complete_class graph class = if is_pending graph class then Err (record { 0 = class }) else Ok (is_complete graph class)

abbrev pub is_known : CxxBound → Bool
is_known (number_bound n) = true
is_known _ = false

-- 3.9: a type of objects whose size is known: no `void`, no function, no array without a bound, no class that is not
-- complete
abbrev pub is_complete_kind : CxxGraph → CxxKind → Asked Bool
is_complete_kind graph (arithmetic of) = Ok true
is_complete_kind graph (enumerated n) = Ok true
is_complete_kind graph (pointing t) = Ok true
is_complete_kind graph (of_class n) = is_complete_class graph n
is_complete_kind graph _ = Ok false

unfoldable pub is_complete_object : CxxGraph → CxxType → Asked Bool
is_complete_object graph (array_of t bound) = if is_known bound then is_complete_object graph t else Ok false
is_complete_object graph t = is_complete_kind graph (kind_of t)

-- ---- common pointer types

abbrev pub is_void : CxxKind → Bool
is_void no_value = true
is_void _ = false

-- 5.9: a pointer to `void` with the words of both
abbrev pub common_void : CxxType → CxxType → Option CxxType
common_void one two =
    if is_function one || is_function two then None else (
    if is_void (kind_of one) then Some (pointer_to (with_cv (cv_of two) one)) else
    Some (pointer_to (with_cv (cv_of one) two)))

-- of two classes, the least that must be complete first
unfoldable pub both_ready : CxxGraph → ℕ → ℕ → Asked Unit
both_ready graph one two =
    if is_pending graph one && (not (is_pending graph two) || nat_lt one two) then Err (record { 0 = one }) else (
    if is_pending graph two then Err (record { 0 = two }) else Ok tt)

-- 5.9, 4.10: a pointer to the one of two classes that is a base of the other, with the words of both
unfoldable pub common_class : CxxGraph → CxxType → CxxType → ℕ → ℕ → Asked (Option CxxType)
common_class graph one two m n = do
  ready ← both_ready graph m n
  Ok (if is_derived graph m n then Some (pointer_to (with_cv (cv_of one) two)) else (
      if is_derived graph n m then Some (pointer_to (with_cv (cv_of two) one)) else None))

-- 4.4: the words of both behind each `*`, and `const` behind each `*` before one where a word is added to either
pub record CxxJoined : Type 0 where
  pub levels : List Cv
  -- whether a word is added behind a `*`
  pub adds : Bool

abbrev pub const_if : Bool → Cv → Cv
const_if adds cv = record { is_const = cv.is_const || adds; is_volatile = cv.is_volatile }

abbrev pub joined_level : Cv → Cv → CxxJoined → CxxJoined
joined_level one two inner = record { levels = const_if inner.adds (merged one two) ∷ inner.levels; adds = inner.adds || not (same_cv one two) }

abbrev pub joined : List Cv → List Cv → CxxJoined
joined (one ∷ ones) (two ∷ twos) = joined_level one two (joined ones twos)
joined _ _ = record { levels = []; adds = false }

-- a type with other words: its own, and those behind each `*`
abbrev pub leveled : List Cv → CxxType → CxxType
leveled [] t = t
leveled (cv ∷ cvs) (pointer_to t) = with_cv cv (pointer_to (leveled cvs t))
leveled (cv ∷ cvs) (qualified own t) = leveled (cv ∷ cvs) t
leveled (cv ∷ cvs) t = with_cv cv (unqualified t)

-- 5.9: the pointer to which two similar pointers are converted
abbrev pub common_similar : CxxType → CxxType → CxxType
common_similar one two = pointer_to (leveled ((joined (cv_of one ∷ signature one) (cv_of two ∷ signature two)).levels) one)

unfoldable pub common_other : CxxGraph → CxxType → CxxType → CxxKind → CxxKind → Asked (Option CxxType)
common_other graph one two (of_class m) (of_class n) = common_class graph one two m n
common_other graph one two no_value _ = Ok (common_void one two)
common_other graph one two _ no_value = Ok (common_void one two)
common_other graph one two _ _ = Ok None

-- 5.9: the common type of a pointer to one type and a pointer to the other, where there is one
unfoldable pub common_pointer : CxxGraph → CxxType → CxxType → Asked (Option CxxType)
common_pointer graph one two = if is_similar one two then Ok (Some (common_similar one two)) else common_other graph one two (kind_of one) (kind_of two)
