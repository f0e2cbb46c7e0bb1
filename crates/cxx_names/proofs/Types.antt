-- Types of functions and arrays, classes and enumerations.
use Rattle.std.proofs.Common.{◌≡◌, ℕ, ◌<◌, ◌≤◌, Bool, true, false, ◌&&◌, ◌||◌, List, [], ◌∷◌, length, Option, Some, None, refl, ap, ◌∙◌, sym, subst, arith, eqb, eq-eqb}
use Rattle.std.proofs.Math.Dec.{eqb-suc-zero}
use Rattle.std.proofs.lemmas.Bool.{eqb-true, false≢true}
use Rattle.cxx_model.specs.declared.types.Bound.{Bound}
use Rattle.cxx_model.specs.declared.types.ClassId.{ClassId}
use Rattle.cxx_model.specs.declared.types.Cv.{Cv}
use Rattle.cxx_model.specs.declared.types.EnumId.{EnumId}
use Rattle.cxx_model.specs.declared.types.TypeId.{TypeId}
use Rattle.cxx_model.specs.declared.types.TypeNode.{TypeNode}
use Rattle.cxx_model.specs.declared.types.TypeNode.TheVariants as node
use Rattle.cxx_model.specs.Facts.Conflicts.{are_parameters_same, array_parts, is_unknown, same_but_bound, same_parameters, function_parts, FunctionParts}
use Rattle.cxx_model.specs.Types.Numbers.{bound_at, type_at, type_over, types_at, AreTypesBelow, IsNodeBelow}
use Rattle.cxx_model.specs.Types.Same.{same_bool, same_cv, same_type, same_types}
use Rattle.cxx_model.specs.Types.Trees.{CxxType, CxxBound, class_type, enumeration}

more_below : (least count : ℕ) (numbers : List TypeId) → least ≤ count → AreTypesBelow least numbers → AreTypesBelow count numbers
more_below least count [] le below = tt
more_below least count (n ∷ others) le below = (omega (arith, below.0), more_below least count others le below.1)

pub below_first : (count : ℕ) (one : TypeId) (others : List TypeId) → AreTypesBelow count (one ∷ others) → (one.0 < count) × AreTypesBelow count others
below_first count one others below = (below.0, below.1)

pub parameters_below : (number count : ℕ) (r : TypeId) (parameters : List TypeId) (ellipsis : Bool) (cv : Cv) → IsNodeBelow number (node.Function r parameters ellipsis cv) → number < count → AreTypesBelow count parameters
parameters_below number count r parameters ellipsis cv below lt = more_below number count parameters (omega arith) below.1

-- both are functions
pub are_functions : (types : List CxxType) (any : Bool) (one two : CxxType) (r r' : TypeId) (ones twos : List TypeId) (first second : Bool) (cv cv' : Cv) → type_over types (node.Function r ones first cv) ≡ one → type_over types (node.Function r' twos second cv') ≡ two → same_parameters any one two ≡ (same_types (types_at types ones) (types_at types twos) && (same_bool first second && (any || same_cv cv cv')))
are_functions types any one two r r' ones twos first second cv cv' e f = ap (λ t. same_parameters any t two) (sym e) ∙ ap (λ t. same_parameters any (type_over types (node.Function r ones first cv)) t) (sym f)

no_parts : (types : List CxxType) (n : TypeNode) → ((r : TypeId) (ts : List TypeId) (e : Bool) (cv : Cv) → n ≡ node.Function r ts e cv → ⊥) → function_parts (type_over types n) ≡ None
no_parts types (node.Function r ts e cv) h = absurd (h r ts e cv refl)
no_parts types _ h = refl

pub one_is_none : (types : List CxxType) (any : Bool) (n : TypeNode) (one two : CxxType) → type_over types n ≡ one → ((r : TypeId) (ts : List TypeId) (e : Bool) (cv : Cv) → n ≡ node.Function r ts e cv → ⊥) → same_parameters any one two ≡ false
one_is_none types any n one two e h = ap (λ p. are_parameters_same any p (function_parts two)) (ap function_parts (sym e) ∙ no_parts types n h)

pub two_is_none : (types : List CxxType) (any : Bool) (n : TypeNode) (one two : CxxType) → type_over types n ≡ two → ((r : TypeId) (ts : List TypeId) (e : Bool) (cv : Cv) → n ≡ node.Function r ts e cv → ⊥) → same_parameters any one two ≡ false
two_is_none types any n one two e h = ap (λ p. are_parameters_same any (function_parts one) p) (ap function_parts (sym e) ∙ no_parts types n h) ∙ by (function_parts one)
  where
    by : (o : Option FunctionParts) → are_parameters_same any o None ≡ false
    by None = refl
    by (Some parts) = refl

-- no types are the same as none
pub none_left : (types : List CxxType) (ones twos : List TypeId) → length ones < 1 → same_types (types_at types ones) (types_at types twos) ≡ eqb (length twos) 0
none_left types [] [] lt = refl
none_left types [] (two ∷ twos) lt = sym (eqb-suc-zero (length twos))
none_left types (one ∷ ones) twos lt = absurd (omega arith)

-- ---- arrays

pub are_arrays : (types : List CxxType) (one two : CxxType) (e e' : TypeId) (b b' : Bound) → type_over types (node.Array e b) ≡ one → type_over types (node.Array e' b') ≡ two → same_but_bound (array_parts one) (array_parts two) ≡ (same_type (type_at types e.0) (type_at types e'.0) && (is_unknown (bound_at types b) || is_unknown (bound_at types b')))
are_arrays types one two e e' b b' p q = ap (λ t. same_but_bound (array_parts t) (array_parts two)) (sym p) ∙ ap (λ t. same_but_bound (array_parts (type_over types (node.Array e b))) (array_parts t)) (sym q)

no_array : (types : List CxxType) (n : TypeNode) → ((e : TypeId) (b : Bound) → n ≡ node.Array e b → ⊥) → array_parts (type_over types n) ≡ None
no_array types (node.Array e b) h = absurd (h e b refl)
no_array types _ h = refl

pub one_no_array : (types : List CxxType) (n : TypeNode) (one two : CxxType) → type_over types n ≡ one → ((e : TypeId) (b : Bound) → n ≡ node.Array e b → ⊥) → same_but_bound (array_parts one) (array_parts two) ≡ false
one_no_array types n one two e h = ap (λ p. same_but_bound p (array_parts two)) (ap array_parts (sym e) ∙ no_array types n h)

pub two_no_array : (types : List CxxType) (n : TypeNode) (one two : CxxType) → type_over types n ≡ two → ((e : TypeId) (b : Bound) → n ≡ node.Array e b → ⊥) → same_but_bound (array_parts one) (array_parts two) ≡ false
two_no_array types n one two e h = ap (λ p. same_but_bound (array_parts one) p) (ap array_parts (sym e) ∙ no_array types n h) ∙ by (array_parts one)
  where
    by : (o : Option (CxxType × CxxBound)) → same_but_bound o None ≡ false
    by None = refl
    by (Some parts) = refl

-- ---- classes and enumerations

no_class : (types : List CxxType) (n : TypeNode) (class : ℕ) → ((other : ClassId) → n ≡ node.Class other → ⊥) → (same_type (type_over types n) (class_type class) ≡ false) × (same_type (class_type class) (type_over types n) ≡ false)
no_class types (node.Class other) class h = absurd (h other refl)
no_class types _ class h = (refl, refl)

pub is_no_class : (types : List CxxType) (n : TypeNode) (t : CxxType) (class : ℕ) → type_over types n ≡ t → ((other : ClassId) → n ≡ node.Class other → ⊥) → (same_type t (class_type class) ≡ false) × (same_type (class_type class) t ≡ false)
is_no_class types n t class e h = subst (λ u. (same_type u (class_type class) ≡ false) × (same_type (class_type class) u ≡ false)) e (no_class types n class h)

no_enumeration : (types : List CxxType) (n : TypeNode) (number : ℕ) → ((other : EnumId) → n ≡ node.Enum other → ⊥) → (same_type (type_over types n) (enumeration number) ≡ false) × (same_type (enumeration number) (type_over types n) ≡ false)
no_enumeration types (node.Enum other) number h = absurd (h other refl)
no_enumeration types _ number h = (refl, refl)

pub is_no_enumeration : (types : List CxxType) (n : TypeNode) (t : CxxType) (number : ℕ) → type_over types n ≡ t → ((other : EnumId) → n ≡ node.Enum other → ⊥) → (same_type t (enumeration number) ≡ false) × (same_type (enumeration number) t ≡ false)
is_no_enumeration types n t number e h = subst (λ u. (same_type u (enumeration number) ≡ false) × (same_type (enumeration number) u ≡ false)) e (no_enumeration types n number h)

eqb_turned : (m n : ℕ) → eqb m n ≡ eqb n m
eqb_turned m n = by (eqb m n) (eqb n m) refl refl
  where
    by : (t u : Bool) → eqb m n ≡ t → eqb n m ≡ u → t ≡ u
    by true true e f = refl
    by true false e f = absurd (false≢true (sym f ∙ eq-eqb n m (sym (eqb-true m n e))))
    by false true e f = absurd (false≢true (sym e ∙ eq-eqb m n (sym (eqb-true n m f))))
    by false false e f = refl

pub is_the_class : (types : List CxxType) (other class : ClassId) (t : CxxType) → type_over types (node.Class other) ≡ t → (same_type t (class_type class.0) ≡ eqb other.0 class.0) × (same_type (class_type class.0) t ≡ eqb other.0 class.0)
is_the_class types other class t e = subst (λ u. (same_type u (class_type class.0) ≡ eqb other.0 class.0) × (same_type (class_type class.0) u ≡ eqb other.0 class.0)) e (refl, eqb_turned class.0 other.0)

pub is_the_enumeration : (types : List CxxType) (other number : EnumId) (t : CxxType) → type_over types (node.Enum other) ≡ t → (same_type t (enumeration number.0) ≡ eqb other.0 number.0) × (same_type (enumeration number.0) t ≡ eqb other.0 number.0)
is_the_enumeration types other number t e = subst (λ u. (same_type u (enumeration number.0) ≡ eqb other.0 number.0) × (same_type (enumeration number.0) u ≡ eqb other.0 number.0)) e (refl, eqb_turned number.0 other.0)
