-- Types as values of ghost state, by which two types are told apart.
use Rattle.std.specs.Prelude.{Bool, ◌≡◌, refl}
use Rattle.std.proofs.Common.{ap, ◌∙◌}
use base.Stored.{Gv, gnil, gnum, gcons, Coded, coded_ℕ, coded_ℤ, coded_bool, coded_list}
use Rattle.cxx_model.specs.declared.base.Base.{Base}
use Rattle.cxx_model.specs.declared.base.Base.TheVariants as plain
use Rattle.cxx_model.specs.declared.types.Cv.{Cv}
use Rattle.cxx_model.specs.Types.Bases.{base_row}
use Rattle.cxx_model.specs.Types.Trees.{CxxType, fundamental, class_type, enumeration, pointer_to, reference_to, array_of, function_of, qualified, type_parameter, specialisation, nested_in, CxxTypes, no_types, type_then, CxxBound, unknown_bound, number_bound, formula_bound, CxxArgument, type_argument, value_argument, formula_argument, CxxArguments, no_arguments, argument_then, CxxFormula, value_of, value_parameter, member_of, size_of, cast_to, unary, binary, conditional}

base_same : (x y : Base) → gnum (base_row x).number ≡ gnum (base_row y).number → x ≡ y
base_same plain.Bool plain.Bool e = refl
base_same plain.Bool _ e = cc
base_same plain.Char plain.Char e = refl
base_same plain.Char _ e = cc
base_same plain.SignedChar plain.SignedChar e = refl
base_same plain.SignedChar _ e = cc
base_same plain.UnsignedChar plain.UnsignedChar e = refl
base_same plain.UnsignedChar _ e = cc
base_same plain.Short plain.Short e = refl
base_same plain.Short _ e = cc
base_same plain.UnsignedShort plain.UnsignedShort e = refl
base_same plain.UnsignedShort _ e = cc
base_same plain.Int plain.Int e = refl
base_same plain.Int _ e = cc
base_same plain.Unsigned plain.Unsigned e = refl
base_same plain.Unsigned _ e = cc
base_same plain.Long plain.Long e = refl
base_same plain.Long _ e = cc
base_same plain.UnsignedLong plain.UnsignedLong e = refl
base_same plain.UnsignedLong _ e = cc
base_same plain.WideChar plain.WideChar e = refl
base_same plain.WideChar _ e = cc
base_same plain.Float plain.Float e = refl
base_same plain.Float _ e = cc
base_same plain.Double plain.Double e = refl
base_same plain.Double _ e = cc
base_same plain.LongDouble plain.LongDouble e = refl
base_same plain.LongDouble _ e = cc
base_same plain.Void plain.Void e = refl
base_same plain.Void _ e = cc

abbrev cv_code : Cv → Gv
cv_code cv = gcons (coded_bool.code cv.is_const) (coded_bool.code cv.is_volatile)

cv_same : (x y : Cv) → cv_code x ≡ cv_code y → x ≡ y
cv_same x y e =
    let p : x.is_const ≡ y.is_const = coded_bool.inj x.is_const y.is_const (cc) in
    let q : x.is_volatile ≡ y.is_volatile = coded_bool.inj x.is_volatile y.is_volatile (cc) in
    let one : Bool → Cv = λ b. record { is_const = b; is_volatile = x.is_volatile } in
    let two : Bool → Cv = λ b. record { is_const = y.is_const; is_volatile = b } in
    ap one p ∙ ap two q

abbrev mutual
  pub type_code : CxxType → Gv
  type_code (fundamental base) = gcons (gnum 0) (gcons (gnum (base_row base).number) gnil)
  type_code (class_type n) = gcons (gnum 1) (gcons (gnum n) gnil)
  type_code (enumeration n) = gcons (gnum 2) (gcons (gnum n) gnil)
  type_code (pointer_to t) = gcons (gnum 3) (gcons (type_code t) gnil)
  type_code (reference_to t) = gcons (gnum 4) (gcons (type_code t) gnil)
  type_code (array_of t bound) = gcons (gnum 5) (gcons (type_code t) (gcons (bound_code bound) gnil))
  type_code (function_of r ts ellipsis cv) = gcons (gnum 6) (gcons (type_code r) (gcons (types_code ts) (gcons (coded_bool.code ellipsis) (gcons (cv_code cv) gnil))))
  type_code (qualified cv t) = gcons (gnum 7) (gcons (cv_code cv) (gcons (type_code t) gnil))
  type_code (type_parameter depth index) = gcons (gnum 8) (gcons (gnum depth) (gcons (gnum index) gnil))
  type_code (specialisation n given) = gcons (gnum 9) (gcons (gnum n) (gcons (arguments_code given) gnil))
  type_code (nested_in t word) = gcons (gnum 10) (gcons (type_code t) (gcons ((coded_list coded_ℕ).code word) gnil))

  pub types_code : CxxTypes → Gv
  types_code no_types = gcons (gnum 0) gnil
  types_code (type_then t ts) = gcons (gnum 1) (gcons (type_code t) (gcons (types_code ts) gnil))

  pub bound_code : CxxBound → Gv
  bound_code unknown_bound = gcons (gnum 0) gnil
  bound_code (number_bound n) = gcons (gnum 1) (gcons (gnum n) gnil)
  bound_code (formula_bound f) = gcons (gnum 2) (gcons (formula_code f) gnil)

  pub argument_code : CxxArgument → Gv
  argument_code (type_argument t) = gcons (gnum 0) (gcons (type_code t) gnil)
  argument_code (value_argument value t) = gcons (gnum 1) (gcons (coded_ℤ.code value) (gcons (type_code t) gnil))
  argument_code (formula_argument f) = gcons (gnum 2) (gcons (formula_code f) gnil)

  pub arguments_code : CxxArguments → Gv
  arguments_code no_arguments = gcons (gnum 0) gnil
  arguments_code (argument_then a others) = gcons (gnum 1) (gcons (argument_code a) (gcons (arguments_code others) gnil))

  pub formula_code : CxxFormula → Gv
  formula_code (value_of value t) = gcons (gnum 0) (gcons (coded_ℤ.code value) (gcons (type_code t) gnil))
  formula_code (value_parameter depth index) = gcons (gnum 1) (gcons (gnum depth) (gcons (gnum index) gnil))
  formula_code (member_of t word) = gcons (gnum 2) (gcons (type_code t) (gcons ((coded_list coded_ℕ).code word) gnil))
  formula_code (size_of t) = gcons (gnum 3) (gcons (type_code t) gnil)
  formula_code (cast_to t f) = gcons (gnum 4) (gcons (type_code t) (gcons (formula_code f) gnil))
  formula_code (unary operator f) = gcons (gnum 5) (gcons (gnum operator) (gcons (formula_code f) gnil))
  formula_code (binary operator f g) = gcons (gnum 6) (gcons (gnum operator) (gcons (formula_code f) (gcons (formula_code g) gnil)))
  formula_code (conditional f g h) = gcons (gnum 7) (gcons (formula_code f) (gcons (formula_code g) (gcons (formula_code h) gnil)))

mutual
  pub type_same : (x y : CxxType) → type_code x ≡ type_code y → x ≡ y
  type_same (fundamental base) (fundamental base') e =
      let same-base : base ≡ base' = base_same base base' (cc) in
      cc
  type_same (fundamental _) _ e = cc
  type_same (class_type n) (class_type n') e =
      cc
  type_same (class_type _) _ e = cc
  type_same (enumeration n) (enumeration n') e =
      cc
  type_same (enumeration _) _ e = cc
  type_same (pointer_to t) (pointer_to t') e =
      let same-t : t ≡ t' = type_same t t' (cc) in
      cc
  type_same (pointer_to _) _ e = cc
  type_same (reference_to t) (reference_to t') e =
      let same-t : t ≡ t' = type_same t t' (cc) in
      cc
  type_same (reference_to _) _ e = cc
  type_same (array_of t bound) (array_of t' bound') e =
      let same-t : t ≡ t' = type_same t t' (cc) in
      let same-bound : bound ≡ bound' = bound_same bound bound' (cc) in
      cc
  type_same (array_of _ _) _ e = cc
  type_same (function_of r ts ellipsis cv) (function_of r' ts' ellipsis' cv') e =
      let same-r : r ≡ r' = type_same r r' (cc) in
      let same-ts : ts ≡ ts' = types_same ts ts' (cc) in
      let same-ellipsis : ellipsis ≡ ellipsis' = coded_bool.inj ellipsis ellipsis' (cc) in
      let same-cv : cv ≡ cv' = cv_same cv cv' (cc) in
      cc
  type_same (function_of _ _ _ _) _ e = cc
  type_same (qualified cv t) (qualified cv' t') e =
      let same-cv : cv ≡ cv' = cv_same cv cv' (cc) in
      let same-t : t ≡ t' = type_same t t' (cc) in
      cc
  type_same (qualified _ _) _ e = cc
  type_same (type_parameter depth index) (type_parameter depth' index') e =
      cc
  type_same (type_parameter _ _) _ e = cc
  type_same (specialisation n given) (specialisation n' given') e =
      let same-given : given ≡ given' = arguments_same given given' (cc) in
      cc
  type_same (specialisation _ _) _ e = cc
  type_same (nested_in t word) (nested_in t' word') e =
      let same-t : t ≡ t' = type_same t t' (cc) in
      let same-word : word ≡ word' = (coded_list coded_ℕ).inj word word' (cc) in
      cc
  type_same (nested_in _ _) _ e = cc

  pub types_same : (x y : CxxTypes) → types_code x ≡ types_code y → x ≡ y
  types_same no_types no_types e = refl
  types_same no_types _ e = cc
  types_same (type_then t ts) (type_then t' ts') e =
      let same-t : t ≡ t' = type_same t t' (cc) in
      let same-ts : ts ≡ ts' = types_same ts ts' (cc) in
      cc
  types_same (type_then _ _) _ e = cc

  pub bound_same : (x y : CxxBound) → bound_code x ≡ bound_code y → x ≡ y
  bound_same unknown_bound unknown_bound e = refl
  bound_same unknown_bound _ e = cc
  bound_same (number_bound n) (number_bound n') e =
      cc
  bound_same (number_bound _) _ e = cc
  bound_same (formula_bound f) (formula_bound f') e =
      let same-f : f ≡ f' = formula_same f f' (cc) in
      cc
  bound_same (formula_bound _) _ e = cc

  pub argument_same : (x y : CxxArgument) → argument_code x ≡ argument_code y → x ≡ y
  argument_same (type_argument t) (type_argument t') e =
      let same-t : t ≡ t' = type_same t t' (cc) in
      cc
  argument_same (type_argument _) _ e = cc
  argument_same (value_argument value t) (value_argument value' t') e =
      let same-value : value ≡ value' = coded_ℤ.inj value value' (cc) in
      let same-t : t ≡ t' = type_same t t' (cc) in
      cc
  argument_same (value_argument _ _) _ e = cc
  argument_same (formula_argument f) (formula_argument f') e =
      let same-f : f ≡ f' = formula_same f f' (cc) in
      cc
  argument_same (formula_argument _) _ e = cc

  pub arguments_same : (x y : CxxArguments) → arguments_code x ≡ arguments_code y → x ≡ y
  arguments_same no_arguments no_arguments e = refl
  arguments_same no_arguments _ e = cc
  arguments_same (argument_then a others) (argument_then a' others') e =
      let same-a : a ≡ a' = argument_same a a' (cc) in
      let same-others : others ≡ others' = arguments_same others others' (cc) in
      cc
  arguments_same (argument_then _ _) _ e = cc

  pub formula_same : (x y : CxxFormula) → formula_code x ≡ formula_code y → x ≡ y
  formula_same (value_of value t) (value_of value' t') e =
      let same-value : value ≡ value' = coded_ℤ.inj value value' (cc) in
      let same-t : t ≡ t' = type_same t t' (cc) in
      cc
  formula_same (value_of _ _) _ e = cc
  formula_same (value_parameter depth index) (value_parameter depth' index') e =
      cc
  formula_same (value_parameter _ _) _ e = cc
  formula_same (member_of t word) (member_of t' word') e =
      let same-t : t ≡ t' = type_same t t' (cc) in
      let same-word : word ≡ word' = (coded_list coded_ℕ).inj word word' (cc) in
      cc
  formula_same (member_of _ _) _ e = cc
  formula_same (size_of t) (size_of t') e =
      let same-t : t ≡ t' = type_same t t' (cc) in
      cc
  formula_same (size_of _) _ e = cc
  formula_same (cast_to t f) (cast_to t' f') e =
      let same-t : t ≡ t' = type_same t t' (cc) in
      let same-f : f ≡ f' = formula_same f f' (cc) in
      cc
  formula_same (cast_to _ _) _ e = cc
  formula_same (unary operator f) (unary operator' f') e =
      let same-f : f ≡ f' = formula_same f f' (cc) in
      cc
  formula_same (unary _ _) _ e = cc
  formula_same (binary operator f g) (binary operator' f' g') e =
      let same-f : f ≡ f' = formula_same f f' (cc) in
      let same-g : g ≡ g' = formula_same g g' (cc) in
      cc
  formula_same (binary _ _ _) _ e = cc
  formula_same (conditional f g h) (conditional f' g' h') e =
      let same-f : f ≡ f' = formula_same f f' (cc) in
      let same-g : g ≡ g' = formula_same g g' (cc) in
      let same-h : h ≡ h' = formula_same h h' (cc) in
      cc
  formula_same (conditional _ _ _) _ e = cc

abbrev pub coded_type : Coded CxxType
coded_type = record { code = type_code; inj = type_same }
