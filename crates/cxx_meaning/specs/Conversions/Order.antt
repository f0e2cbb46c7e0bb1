-- The order of two standard conversion sequences (13.3.3.2).
use Rattle.std.specs.Prelude.{ℕ, Bool, true, false, ◌&&◌, ◌||◌, not, nat_eq, nat_lt, List, [], ◌∷◌, map, Option, Some, None}
use Rattle.cxx_model.specs.declared.sequence.First.{First}
use Rattle.cxx_model.specs.declared.sequence.First.TheVariants as first
use Rattle.cxx_model.specs.declared.sequence.Order.{Order}
use Rattle.cxx_model.specs.declared.sequence.Order.TheVariants.{Better, Worse, Same}
use Rattle.cxx_model.specs.declared.sequence.Second.{Second}
use Rattle.cxx_model.specs.declared.sequence.Second.TheVariants as second
use Rattle.cxx_model.specs.declared.types.Cv.{Cv}
use Rattle.cxx_model.specs.Facts.Declarations.{CxxGraph}
use Rattle.cxx_model.specs.Choice.StandardOrder.{number_of_rank, same_step}
use Rattle.cxx_model.specs.Types.Trees.{CxxType, reference_to}
use Rattle.cxx_meaning.specs.Conversions.Derived.{is_derived}
use Rattle.cxx_meaning.specs.Conversions.Kinds.{CxxKind, no_value, pointing, of_class, kind_of, value_kind, cv_of, signature, is_cv_within, is_similar, is_same_unqualified}
use Rattle.cxx_meaning.specs.Conversions.Standard.{CxxStandard, rank}

-- 8.3.2: what a reference refers to, and else the type itself
abbrev pub target : CxxType → CxxType
target (reference_to t) = t
target t = t

-- ---- a proper subsequence

abbrev pub is_step_within : Option Second → Option Second → Bool
is_step_within None _ = true
is_step_within (Some one) None = false
is_step_within (Some one) (Some two) = same_step one two

-- each promotion, conversion and qualification of the first stands in the second
abbrev pub is_part : CxxStandard → CxxStandard → Bool
is_part one two = is_step_within one.second two.second && (not one.third || two.third)

abbrev pub is_identity : CxxStandard → Bool
is_identity one = is_step_within one.second None && not one.third

-- 13.3.3.2: the first is a proper subsequence of the second, lvalue transformations aside. Steps of one kind are the
-- same where they give similar types, and the identity is a subsequence of all.
unfoldable pub is_proper_part : CxxStandard → CxxStandard → Bool
is_proper_part one two = (is_part one two && not (is_part two one)) && (is_identity one || is_similar (target one.to) (target two.to))

-- ---- ranks

abbrev pub has_better_rank : CxxStandard → CxxStandard → Bool
has_better_rank one two = nat_lt (number_of_rank (rank one)) (number_of_rank (rank two))

-- ---- pointers to `bool`

abbrev pub is_boolean : Option Second → Bool
is_boolean (Some second.Boolean) = true
is_boolean _ = false

abbrev pub is_pointing : CxxKind → Bool
is_pointing (pointing t) = true
is_pointing _ = false

abbrev pub is_pointer_to_bool : CxxStandard → Bool
is_pointer_to_bool one = is_boolean one.second && is_pointing (value_kind one.from.of)

-- 13.3.3.2: the first is no conversion of a pointer to `bool`, and the second is one
unfoldable pub is_no_pointer_to_bool : CxxStandard → CxxStandard → Bool
is_no_pointer_to_bool one two = not (is_pointer_to_bool one) && is_pointer_to_bool two

-- ---- classes

-- which classes a conversion of a pointer, or of an object, leads between
pub data CxxWay : Type 0 where
  between_pointers : ℕ → ℕ → CxxWay
  to_void : ℕ → CxxWay
  between_classes : ℕ → ℕ → CxxWay
  no_way : CxxWay

abbrev pub way_of_pointees : CxxKind → CxxKind → CxxWay
way_of_pointees (of_class m) (of_class n) = between_pointers m n
way_of_pointees (of_class m) no_value = to_void m
way_of_pointees _ _ = no_way

unfoldable pub way_of_pointers : CxxKind → CxxKind → CxxWay
way_of_pointers (pointing one) (pointing two) = way_of_pointees (kind_of one) (kind_of two)
way_of_pointers _ _ = no_way

unfoldable pub way_of_classes : CxxKind → CxxKind → CxxWay
way_of_classes (of_class m) (of_class n) = between_classes m n
way_of_classes _ _ = no_way

unfoldable pub way_of : CxxStandard → CxxWay
way_of one = by one.second
  where
    by : Option Second → CxxWay
    by (Some second.Pointer) = way_of_pointers (value_kind one.from.of) (kind_of (target one.to))
    by (Some second.DerivedToBase) = way_of_classes (kind_of one.from.of) (kind_of (target one.to))
    by _ = no_way

-- From one class to two, the derived one of the two is nearer; to one class from two, the base of the two is nearer.
unfoldable pub is_shorter : CxxGraph → ℕ → ℕ → ℕ → ℕ → Bool
is_shorter graph a b c d = (nat_eq a c && is_derived graph b d) || (nat_eq b d && is_derived graph c a)

-- 13.3.3.2
unfoldable pub is_nearer : CxxGraph → CxxWay → CxxWay → Bool
is_nearer graph (between_pointers a b) (to_void c) = nat_eq a c
is_nearer graph (to_void a) (to_void c) = is_derived graph c a
is_nearer graph (between_pointers a b) (between_pointers c d) = is_shorter graph a b c d
is_nearer graph (between_classes a b) (between_classes c d) = is_shorter graph a b c d
is_nearer graph _ _ = false

unfoldable pub has_nearer_class : CxxGraph → CxxStandard → CxxStandard → Bool
has_nearer_class graph one two = is_nearer graph (way_of one) (way_of two)

-- ---- qualifications

abbrev pub are_within : List Cv → List Cv → Bool
are_within [] [] = true
are_within (one ∷ ones) (two ∷ twos) = is_cv_within one two && are_within ones twos
are_within _ _ = false

abbrev pub same_first : Option First → Option First → Bool
same_first None None = true
same_first (Some first.LvalueToRvalue) (Some first.LvalueToRvalue) = true
same_first (Some first.ArrayToPointer) (Some first.ArrayToPointer) = true
same_first (Some first.FunctionToPointer) (Some first.FunctionToPointer) = true
same_first _ _ = false

-- both end in a qualification and else have the same steps
abbrev pub differ_at_end : CxxStandard → CxxStandard → Bool
differ_at_end one two = (one.third && two.third) && (same_first one.first two.first && (is_step_within one.second two.second && is_step_within two.second one.second))

-- 4.4: two similar types, the first with fewer words behind its `*`s
abbrev pub has_fewer_words : CxxType → CxxType → Bool
has_fewer_words one two = is_similar one two && (are_within (signature one) (signature two) && not (are_within (signature two) (signature one)))

-- 13.3.3.2: the two differ in their qualification alone, and the first adds fewer words
unfoldable pub is_less_qualified : CxxStandard → CxxStandard → Bool
is_less_qualified one two = differ_at_end one two && has_fewer_words (target one.to) (target two.to)

-- ---- references

-- 3.9.3: the same type but for its own cv words, of which the first has fewer
abbrev pub refers_to_fewer : CxxType → CxxType → Bool
refers_to_fewer one two = is_same_unqualified one two && (is_cv_within (cv_of one) (cv_of two) && not (is_cv_within (cv_of two) (cv_of one)))

unfoldable pub refers_to_less : CxxType → CxxType → Bool
refers_to_less (reference_to one) (reference_to two) = refers_to_fewer one two
refers_to_less _ _ = false

-- 13.3.3.2: both are bound to references, the first to the less qualified type
unfoldable pub is_bound_to_less : CxxStandard → CxxStandard → Bool
is_bound_to_less one two = refers_to_less one.to two.to

-- ---- the order

-- what tells two sequences apart, the first first
abbrev pub criteria : CxxGraph → List (CxxStandard → CxxStandard → Bool)
criteria graph = is_proper_part ∷ has_better_rank ∷ is_no_pointer_to_bool ∷ has_nearer_class graph ∷ is_less_qualified ∷ is_bound_to_less ∷ []

-- how two stand by a test that says of each whether it is the better one
abbrev pub told : Bool → Bool → Order
told true false = Better
told false true = Worse
told _ _ = Same

-- how the second stands to the first
abbrev pub turned : Order → Order
turned Better = Worse
turned Worse = Better
turned Same = Same

abbrev pub told_by : (CxxStandard → CxxStandard → Bool) → CxxStandard → CxxStandard → Order
told_by better one two = told (better one two) (better two one)

abbrev pub else_by : Order → Order → Order
else_by Same later = later
else_by order later = order

abbrev pub first_told : List Order → Order
first_told [] = Same
first_told (order ∷ later) = else_by order (first_told later)

-- 13.3.3.2: the first criterion that tells the two apart decides
unfoldable pub order_of : CxxGraph → CxxStandard → CxxStandard → Order
order_of graph one two = first_told (map (λ better. told_by better one two) (criteria graph))
