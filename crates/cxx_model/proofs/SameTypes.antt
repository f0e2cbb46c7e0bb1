-- The test of types tells types apart.
use Rattle.std.specs.Prelude.{◌≡◌, Bool, true, false, ◌&&◌, nat_eq, refl}
use Rattle.std.specs.Ordering.{int_eq}
use Rattle.std.proofs.Common.{ap, sym, ◌∙◌}
use Rattle.std.proofs.lemmas.Bool.{eqb-true, eq-eqb}
use Rattle.cxx_model.specs.declared.base.Base.{Base}
use Rattle.cxx_model.specs.declared.base.Base.TheVariants as plain
use Rattle.cxx_model.specs.declared.types.Cv.{Cv}
use Rattle.cxx_model.specs.Types.Same.{same_bool, same_cv, same_word, same_type, same_types, same_bound, same_argument, same_arguments, same_formula}
use Rattle.cxx_model.specs.Choice.Standard.{same_base}
use Rattle.cxx_model.specs.Types.Trees.{CxxType, fundamental, class_type, enumeration, pointer_to, reference_to, array_of, function_of, qualified, type_parameter, specialisation, nested_in, CxxTypes, no_types, type_then, CxxBound, unknown_bound, number_bound, formula_bound, CxxArgument, type_argument, value_argument, formula_argument, CxxArguments, no_arguments, argument_then, CxxFormula, value_of, value_parameter, member_of, size_of, cast_to, unary, binary, conditional}
use Rattle.cxx_model.proofs.Equal.{both, join, int_told, int_tells, word_told, word_tells}

pub bool_told : (a b : Bool) → same_bool a b ≡ true → a ≡ b
bool_told true true e = refl
bool_told true false e = cc
bool_told false true e = cc
bool_told false false e = refl

pub bool_itself : (a : Bool) → same_bool a a ≡ true
bool_itself true = refl
bool_itself false = refl

pub cv_told : (a b : Cv) → same_cv a b ≡ true → a ≡ b
cv_told a b e =
    let one : Bool → Cv = λ x. record { is_const = x; is_volatile = a.is_volatile } in
    let two : Bool → Cv = λ x. record { is_const = b.is_const; is_volatile = x } in
    let parts : (same_bool a.is_const b.is_const ≡ true) × (same_bool a.is_volatile b.is_volatile ≡ true) = both _ _ e in
    ap one (bool_told _ _ parts.0) ∙ ap two (bool_told _ _ parts.1)

pub cv_itself : (a : Cv) → same_cv a a ≡ true
cv_itself a = join _ _ (bool_itself a.is_const) (bool_itself a.is_volatile)

base_told : (a b : Base) → same_base a b ≡ true → a ≡ b
base_told plain.Bool plain.Bool e = refl
base_told plain.Bool _ e = cc
base_told plain.Char plain.Char e = refl
base_told plain.Char _ e = cc
base_told plain.SignedChar plain.SignedChar e = refl
base_told plain.SignedChar _ e = cc
base_told plain.UnsignedChar plain.UnsignedChar e = refl
base_told plain.UnsignedChar _ e = cc
base_told plain.Short plain.Short e = refl
base_told plain.Short _ e = cc
base_told plain.UnsignedShort plain.UnsignedShort e = refl
base_told plain.UnsignedShort _ e = cc
base_told plain.Int plain.Int e = refl
base_told plain.Int _ e = cc
base_told plain.Unsigned plain.Unsigned e = refl
base_told plain.Unsigned _ e = cc
base_told plain.Long plain.Long e = refl
base_told plain.Long _ e = cc
base_told plain.UnsignedLong plain.UnsignedLong e = refl
base_told plain.UnsignedLong _ e = cc
base_told plain.WideChar plain.WideChar e = refl
base_told plain.WideChar _ e = cc
base_told plain.Float plain.Float e = refl
base_told plain.Float _ e = cc
base_told plain.Double plain.Double e = refl
base_told plain.Double _ e = cc
base_told plain.LongDouble plain.LongDouble e = refl
base_told plain.LongDouble _ e = cc
base_told plain.Void plain.Void e = refl
base_told plain.Void _ e = cc

base_itself : (a : Base) → same_base a a ≡ true
base_itself plain.Bool = refl
base_itself plain.Char = refl
base_itself plain.SignedChar = refl
base_itself plain.UnsignedChar = refl
base_itself plain.Short = refl
base_itself plain.UnsignedShort = refl
base_itself plain.Int = refl
base_itself plain.Unsigned = refl
base_itself plain.Long = refl
base_itself plain.UnsignedLong = refl
base_itself plain.WideChar = refl
base_itself plain.Float = refl
base_itself plain.Double = refl
base_itself plain.LongDouble = refl
base_itself plain.Void = refl

mutual
  pub type_told : (x y : CxxType) → same_type x y ≡ true → x ≡ y
  type_told (fundamental b) (fundamental b') e =
      let same-b : b ≡ b' = base_told b b' e in
      cc
  type_told (fundamental _) _ e = cc
  type_told (class_type n) (class_type n') e =
      let same-n : n ≡ n' = eqb-true n n' e in
      cc
  type_told (class_type _) _ e = cc
  type_told (enumeration n) (enumeration n') e =
      let same-n : n ≡ n' = eqb-true n n' e in
      cc
  type_told (enumeration _) _ e = cc
  type_told (pointer_to t) (pointer_to t') e =
      let same-t : t ≡ t' = type_told t t' e in
      cc
  type_told (pointer_to _) _ e = cc
  type_told (reference_to t) (reference_to t') e =
      let same-t : t ≡ t' = type_told t t' e in
      cc
  type_told (reference_to _) _ e = cc
  type_told (array_of t bound) (array_of t' bound') e =
      let p0 : (same_type t t' ≡ true) × (same_bound bound bound' ≡ true) = both _ _ e in
      let same-t : t ≡ t' = type_told t t' p0.0 in
      let same-bound : bound ≡ bound' = bound_told bound bound' p0.1 in
      cc
  type_told (array_of _ _) _ e = cc
  type_told (function_of r ts ellipsis cv) (function_of r' ts' ellipsis' cv') e =
      let p0 : (same_type r r' ≡ true) × ((same_types ts ts' && (same_bool ellipsis ellipsis' && same_cv cv cv')) ≡ true) = both _ _ e in
      let same-r : r ≡ r' = type_told r r' p0.0 in
      let p1 : (same_types ts ts' ≡ true) × ((same_bool ellipsis ellipsis' && same_cv cv cv') ≡ true) = both _ _ p0.1 in
      let same-ts : ts ≡ ts' = types_told ts ts' p1.0 in
      let p2 : (same_bool ellipsis ellipsis' ≡ true) × (same_cv cv cv' ≡ true) = both _ _ p1.1 in
      let same-ellipsis : ellipsis ≡ ellipsis' = bool_told ellipsis ellipsis' p2.0 in
      let same-cv : cv ≡ cv' = cv_told cv cv' p2.1 in
      cc
  type_told (function_of _ _ _ _) _ e = cc
  type_told (qualified cv t) (qualified cv' t') e =
      let p0 : (same_cv cv cv' ≡ true) × (same_type t t' ≡ true) = both _ _ e in
      let same-cv : cv ≡ cv' = cv_told cv cv' p0.0 in
      let same-t : t ≡ t' = type_told t t' p0.1 in
      cc
  type_told (qualified _ _) _ e = cc
  type_told (type_parameter depth index) (type_parameter depth' index') e =
      let p0 : (nat_eq depth depth' ≡ true) × (nat_eq index index' ≡ true) = both _ _ e in
      let same-depth : depth ≡ depth' = eqb-true depth depth' p0.0 in
      let same-index : index ≡ index' = eqb-true index index' p0.1 in
      cc
  type_told (type_parameter _ _) _ e = cc
  type_told (specialisation n given) (specialisation n' given') e =
      let p0 : (nat_eq n n' ≡ true) × (same_arguments given given' ≡ true) = both _ _ e in
      let same-n : n ≡ n' = eqb-true n n' p0.0 in
      let same-given : given ≡ given' = arguments_told given given' p0.1 in
      cc
  type_told (specialisation _ _) _ e = cc
  type_told (nested_in t word) (nested_in t' word') e =
      let p0 : (same_type t t' ≡ true) × (same_word word word' ≡ true) = both _ _ e in
      let same-t : t ≡ t' = type_told t t' p0.0 in
      let same-word : word ≡ word' = word_told word word' p0.1 in
      cc
  type_told (nested_in _ _) _ e = cc

  pub types_told : (x y : CxxTypes) → same_types x y ≡ true → x ≡ y
  types_told no_types no_types e = refl
  types_told no_types _ e = cc
  types_told (type_then t ts) (type_then t' ts') e =
      let p0 : (same_type t t' ≡ true) × (same_types ts ts' ≡ true) = both _ _ e in
      let same-t : t ≡ t' = type_told t t' p0.0 in
      let same-ts : ts ≡ ts' = types_told ts ts' p0.1 in
      cc
  types_told (type_then _ _) _ e = cc

  pub bound_told : (x y : CxxBound) → same_bound x y ≡ true → x ≡ y
  bound_told unknown_bound unknown_bound e = refl
  bound_told unknown_bound _ e = cc
  bound_told (number_bound n) (number_bound n') e =
      let same-n : n ≡ n' = eqb-true n n' e in
      cc
  bound_told (number_bound _) _ e = cc
  bound_told (formula_bound f) (formula_bound f') e =
      let same-f : f ≡ f' = formula_told f f' e in
      cc
  bound_told (formula_bound _) _ e = cc

  pub argument_told : (x y : CxxArgument) → same_argument x y ≡ true → x ≡ y
  argument_told (type_argument t) (type_argument t') e =
      let same-t : t ≡ t' = type_told t t' e in
      cc
  argument_told (type_argument _) _ e = cc
  argument_told (value_argument value t) (value_argument value' t') e =
      let p0 : (int_eq value value' ≡ true) × (same_type t t' ≡ true) = both _ _ e in
      let same-value : value ≡ value' = int_told value value' p0.0 in
      let same-t : t ≡ t' = type_told t t' p0.1 in
      cc
  argument_told (value_argument _ _) _ e = cc
  argument_told (formula_argument f) (formula_argument f') e =
      let same-f : f ≡ f' = formula_told f f' e in
      cc
  argument_told (formula_argument _) _ e = cc

  pub arguments_told : (x y : CxxArguments) → same_arguments x y ≡ true → x ≡ y
  arguments_told no_arguments no_arguments e = refl
  arguments_told no_arguments _ e = cc
  arguments_told (argument_then a others) (argument_then a' others') e =
      let p0 : (same_argument a a' ≡ true) × (same_arguments others others' ≡ true) = both _ _ e in
      let same-a : a ≡ a' = argument_told a a' p0.0 in
      let same-others : others ≡ others' = arguments_told others others' p0.1 in
      cc
  arguments_told (argument_then _ _) _ e = cc

  pub formula_told : (x y : CxxFormula) → same_formula x y ≡ true → x ≡ y
  formula_told (value_of value t) (value_of value' t') e =
      let p0 : (int_eq value value' ≡ true) × (same_type t t' ≡ true) = both _ _ e in
      let same-value : value ≡ value' = int_told value value' p0.0 in
      let same-t : t ≡ t' = type_told t t' p0.1 in
      cc
  formula_told (value_of _ _) _ e = cc
  formula_told (value_parameter depth index) (value_parameter depth' index') e =
      let p0 : (nat_eq depth depth' ≡ true) × (nat_eq index index' ≡ true) = both _ _ e in
      let same-depth : depth ≡ depth' = eqb-true depth depth' p0.0 in
      let same-index : index ≡ index' = eqb-true index index' p0.1 in
      cc
  formula_told (value_parameter _ _) _ e = cc
  formula_told (member_of t word) (member_of t' word') e =
      let p0 : (same_type t t' ≡ true) × (same_word word word' ≡ true) = both _ _ e in
      let same-t : t ≡ t' = type_told t t' p0.0 in
      let same-word : word ≡ word' = word_told word word' p0.1 in
      cc
  formula_told (member_of _ _) _ e = cc
  formula_told (size_of t) (size_of t') e =
      let same-t : t ≡ t' = type_told t t' e in
      cc
  formula_told (size_of _) _ e = cc
  formula_told (cast_to t f) (cast_to t' f') e =
      let p0 : (same_type t t' ≡ true) × (same_formula f f' ≡ true) = both _ _ e in
      let same-t : t ≡ t' = type_told t t' p0.0 in
      let same-f : f ≡ f' = formula_told f f' p0.1 in
      cc
  formula_told (cast_to _ _) _ e = cc
  formula_told (unary operator f) (unary operator' f') e =
      let p0 : (nat_eq operator operator' ≡ true) × (same_formula f f' ≡ true) = both _ _ e in
      let same-operator : operator ≡ operator' = eqb-true operator operator' p0.0 in
      let same-f : f ≡ f' = formula_told f f' p0.1 in
      cc
  formula_told (unary _ _) _ e = cc
  formula_told (binary operator f g) (binary operator' f' g') e =
      let p0 : (nat_eq operator operator' ≡ true) × ((same_formula f f' && same_formula g g') ≡ true) = both _ _ e in
      let same-operator : operator ≡ operator' = eqb-true operator operator' p0.0 in
      let p1 : (same_formula f f' ≡ true) × (same_formula g g' ≡ true) = both _ _ p0.1 in
      let same-f : f ≡ f' = formula_told f f' p1.0 in
      let same-g : g ≡ g' = formula_told g g' p1.1 in
      cc
  formula_told (binary _ _ _) _ e = cc
  formula_told (conditional f g h) (conditional f' g' h') e =
      let p0 : (same_formula f f' ≡ true) × ((same_formula g g' && same_formula h h') ≡ true) = both _ _ e in
      let same-f : f ≡ f' = formula_told f f' p0.0 in
      let p1 : (same_formula g g' ≡ true) × (same_formula h h' ≡ true) = both _ _ p0.1 in
      let same-g : g ≡ g' = formula_told g g' p1.0 in
      let same-h : h ≡ h' = formula_told h h' p1.1 in
      cc
  formula_told (conditional _ _ _) _ e = cc

mutual
  pub type_itself : (x : CxxType) → same_type x x ≡ true
  type_itself (fundamental b) = base_itself b
  type_itself (class_type n) = eq-eqb n n refl
  type_itself (enumeration n) = eq-eqb n n refl
  type_itself (pointer_to t) = type_itself t
  type_itself (reference_to t) = type_itself t
  type_itself (array_of t bound) = join _ _ (type_itself t) (bound_itself bound)
  type_itself (function_of r ts ellipsis cv) = join _ _ (type_itself r) (join _ _ (types_itself ts) (join _ _ (bool_itself ellipsis) (cv_itself cv)))
  type_itself (qualified cv t) = join _ _ (cv_itself cv) (type_itself t)
  type_itself (type_parameter depth index) = join _ _ (eq-eqb depth depth refl) (eq-eqb index index refl)
  type_itself (specialisation n given) = join _ _ (eq-eqb n n refl) (arguments_itself given)
  type_itself (nested_in t word) = join _ _ (type_itself t) (word_tells word word refl)

  pub types_itself : (x : CxxTypes) → same_types x x ≡ true
  types_itself no_types = refl
  types_itself (type_then t ts) = join _ _ (type_itself t) (types_itself ts)

  pub bound_itself : (x : CxxBound) → same_bound x x ≡ true
  bound_itself unknown_bound = refl
  bound_itself (number_bound n) = eq-eqb n n refl
  bound_itself (formula_bound f) = formula_itself f

  pub argument_itself : (x : CxxArgument) → same_argument x x ≡ true
  argument_itself (type_argument t) = type_itself t
  argument_itself (value_argument value t) = join _ _ (int_tells value value refl) (type_itself t)
  argument_itself (formula_argument f) = formula_itself f

  pub arguments_itself : (x : CxxArguments) → same_arguments x x ≡ true
  arguments_itself no_arguments = refl
  arguments_itself (argument_then a others) = join _ _ (argument_itself a) (arguments_itself others)

  pub formula_itself : (x : CxxFormula) → same_formula x x ≡ true
  formula_itself (value_of value t) = join _ _ (int_tells value value refl) (type_itself t)
  formula_itself (value_parameter depth index) = join _ _ (eq-eqb depth depth refl) (eq-eqb index index refl)
  formula_itself (member_of t word) = join _ _ (type_itself t) (word_tells word word refl)
  formula_itself (size_of t) = type_itself t
  formula_itself (cast_to t f) = join _ _ (type_itself t) (formula_itself f)
  formula_itself (unary operator f) = join _ _ (eq-eqb operator operator refl) (formula_itself f)
  formula_itself (binary operator f g) = join _ _ (eq-eqb operator operator refl) (join _ _ (formula_itself f) (formula_itself g))
  formula_itself (conditional f g h) = join _ _ (formula_itself f) (join _ _ (formula_itself g) (formula_itself h))

pub type_tells : (x y : CxxType) → x ≡ y → same_type x y ≡ true
type_tells x y e = ap (same_type x) (sym e) ∙ type_itself x
