-- Laws of the one form of types.
use Rattle.std.specs.Prelude.{Bool, true, false, ◌||◌, if◌then◌else◌, IsTrue, ◌≡◌, refl}
use Rattle.std.proofs.Common.{ap, ◌∙◌, sym}
use Rattle.std.proofs.Math.Bool.{or_assoc}
use Rattle.cxx_model.specs.declared.types.Cv.{Cv}
use Rattle.cxx_model.specs.Types.Trees.{CxxType, fundamental, class_type, enumeration, pointer_to, reference_to, array_of, function_of, qualified, type_parameter, specialisation, nested_in, CxxTypes, no_types, type_then, CxxBound, unknown_bound, number_bound, formula_bound, CxxArgument, type_argument, value_argument, formula_argument, CxxArguments, no_arguments, argument_then, CxxFormula, value_of, value_parameter, member_of, size_of, cast_to, unary, binary, conditional, any_cv, merged, layered, with_cv, unqualified, adjusted, takes_cv, is_adjusted, normal, normal_parameters, normal_bound, normal_argument, normal_arguments, normal_formula, IsNormal, AreParameters, IsNormalBound, IsNormalArgument, AreNormalArguments, IsNormalFormula}

-- what a type that takes cv is with cv
pub with_cv_layered : (cv : Cv) (t : CxxType) → IsTrue (takes_cv t) → with_cv cv t ≡ layered cv t
with_cv_layered cv (fundamental base) ok = refl
with_cv_layered cv (class_type n) ok = refl
with_cv_layered cv (enumeration n) ok = refl
with_cv_layered cv (pointer_to t) ok = refl
with_cv_layered cv (reference_to t) ok = absurd (cc)
with_cv_layered cv (array_of t bound) ok = absurd (cc)
with_cv_layered cv (function_of r ts ellipsis own) ok = absurd (cc)
with_cv_layered cv (qualified own t) ok = absurd (cc)
with_cv_layered cv (type_parameter depth index) ok = refl
with_cv_layered cv (specialisation n given) ok = refl
with_cv_layered cv (nested_in t word) ok = refl

layered_normal : (cv : Cv) (t : CxxType) → IsTrue (takes_cv t) → IsNormal t → IsNormal (layered cv t)
layered_normal cv t takes ok = by (any_cv cv) refl
  where
    by : (b : Bool) → any_cv cv ≡ b → IsNormal (if b then qualified cv t else t)
    by true e = (e, takes, ok)
    by false e = ok

pub with_cv_normal : (cv : Cv) (t : CxxType) → IsNormal t → IsNormal (with_cv cv t)
with_cv_normal cv (fundamental base) ok = layered_normal cv (fundamental base) refl ok
with_cv_normal cv (class_type n) ok = layered_normal cv (class_type n) refl ok
with_cv_normal cv (enumeration n) ok = layered_normal cv (enumeration n) refl ok
with_cv_normal cv (pointer_to t) ok = layered_normal cv (pointer_to t) refl ok
with_cv_normal cv (reference_to t) ok = ok
with_cv_normal cv (array_of t bound) ok = (with_cv_normal cv t ok.0, ok.1)
with_cv_normal cv (function_of r ts ellipsis own) ok = ok
with_cv_normal cv (qualified own t) ok = layered_normal (merged cv own) t ok.1 ok.2
with_cv_normal cv (type_parameter depth index) ok = layered_normal cv (type_parameter depth index) refl ok
with_cv_normal cv (specialisation n given) ok = layered_normal cv (specialisation n given) refl ok
with_cv_normal cv (nested_in t word) ok = layered_normal cv (nested_in t word) refl ok

-- a parameter in the one form
adjusts : (t : CxxType) → IsTrue (takes_cv t) → IsTrue (is_adjusted t)
adjusts (fundamental base) ok = refl
adjusts (class_type n) ok = refl
adjusts (enumeration n) ok = refl
adjusts (pointer_to t) ok = refl
adjusts (reference_to t) ok = refl
adjusts (array_of t bound) ok = absurd (cc)
adjusts (function_of r ts ellipsis cv) ok = absurd (cc)
adjusts (qualified cv t) ok = absurd (cc)
adjusts (type_parameter depth index) ok = refl
adjusts (specialisation n given) ok = refl
adjusts (nested_in t word) ok = refl

pub adjusted_normal : (t : CxxType) → IsNormal t → IsTrue (is_adjusted (adjusted t)) × IsNormal (adjusted t)
adjusted_normal (fundamental base) ok = (refl, ok)
adjusted_normal (class_type n) ok = (refl, ok)
adjusted_normal (enumeration n) ok = (refl, ok)
adjusted_normal (pointer_to t) ok = (refl, ok)
adjusted_normal (reference_to t) ok = (refl, ok)
adjusted_normal (array_of t bound) ok = (refl, ok.0)
adjusted_normal (function_of r ts ellipsis cv) ok = (refl, ok)
adjusted_normal (qualified cv t) ok = (adjusts t ok.1, ok.2)
adjusted_normal (type_parameter depth index) ok = (refl, ok)
adjusted_normal (specialisation n given) ok = (refl, ok)
adjusted_normal (nested_in t word) ok = (refl, ok)

adjusted_fixed : (t : CxxType) → IsTrue (is_adjusted t) → adjusted t ≡ t
adjusted_fixed (fundamental base) ok = refl
adjusted_fixed (class_type n) ok = refl
adjusted_fixed (enumeration n) ok = refl
adjusted_fixed (pointer_to t) ok = refl
adjusted_fixed (reference_to t) ok = refl
adjusted_fixed (array_of t bound) ok = absurd (cc)
adjusted_fixed (function_of r ts ellipsis cv) ok = absurd (cc)
adjusted_fixed (qualified cv t) ok = absurd (cc)
adjusted_fixed (type_parameter depth index) ok = refl
adjusted_fixed (specialisation n given) ok = refl
adjusted_fixed (nested_in t word) ok = refl

pub unqualified_normal : (t : CxxType) → IsNormal t → IsNormal (unqualified t)
unqualified_normal (fundamental base) ok = ok
unqualified_normal (class_type n) ok = ok
unqualified_normal (enumeration n) ok = ok
unqualified_normal (pointer_to t) ok = ok
unqualified_normal (reference_to t) ok = ok
unqualified_normal (array_of t bound) ok = (unqualified_normal t ok.0, ok.1)
unqualified_normal (function_of r ts ellipsis cv) ok = ok
unqualified_normal (qualified cv t) ok = ok.2
unqualified_normal (type_parameter depth index) ok = ok
unqualified_normal (specialisation n given) ok = ok
unqualified_normal (nested_in t word) ok = ok

-- the one form of any type is in the one form
mutual
  pub normal_is_normal : (x : CxxType) → IsNormal (normal x)
  normal_is_normal (fundamental base) = tt
  normal_is_normal (class_type n) = tt
  normal_is_normal (enumeration n) = tt
  normal_is_normal (pointer_to t) = normal_is_normal t
  normal_is_normal (reference_to t) = normal_is_normal t
  normal_is_normal (array_of t bound) = (normal_is_normal t, normal_bound_is_normal bound)
  normal_is_normal (function_of r ts ellipsis cv) = (normal_is_normal r, normal_parameters_is_normal ts)
  normal_is_normal (qualified cv t) = with_cv_normal cv (normal t) (normal_is_normal t)
  normal_is_normal (type_parameter depth index) = tt
  normal_is_normal (specialisation n given) = normal_arguments_is_normal given
  normal_is_normal (nested_in t word) = normal_is_normal t

  pub normal_parameters_is_normal : (x : CxxTypes) → AreParameters (normal_parameters x)
  normal_parameters_is_normal no_types = tt
  normal_parameters_is_normal (type_then t ts) = (let p : IsTrue (is_adjusted (adjusted (normal t))) × IsNormal (adjusted (normal t)) = adjusted_normal (normal t) (normal_is_normal t) in (p.0, p.1, normal_parameters_is_normal ts))

  pub normal_bound_is_normal : (x : CxxBound) → IsNormalBound (normal_bound x)
  normal_bound_is_normal unknown_bound = tt
  normal_bound_is_normal (number_bound n) = tt
  normal_bound_is_normal (formula_bound f) = normal_formula_is_normal f

  pub normal_argument_is_normal : (x : CxxArgument) → IsNormalArgument (normal_argument x)
  normal_argument_is_normal (type_argument t) = normal_is_normal t
  normal_argument_is_normal (value_argument value t) = normal_is_normal t
  normal_argument_is_normal (formula_argument f) = normal_formula_is_normal f

  pub normal_arguments_is_normal : (x : CxxArguments) → AreNormalArguments (normal_arguments x)
  normal_arguments_is_normal no_arguments = tt
  normal_arguments_is_normal (argument_then a others) = (normal_argument_is_normal a, normal_arguments_is_normal others)

  pub normal_formula_is_normal : (x : CxxFormula) → IsNormalFormula (normal_formula x)
  normal_formula_is_normal (value_of value t) = normal_is_normal t
  normal_formula_is_normal (value_parameter depth index) = tt
  normal_formula_is_normal (member_of t word) = normal_is_normal t
  normal_formula_is_normal (size_of t) = normal_is_normal t
  normal_formula_is_normal (cast_to t f) = (normal_is_normal t, normal_formula_is_normal f)
  normal_formula_is_normal (unary operator f) = normal_formula_is_normal f
  normal_formula_is_normal (binary operator f g) = (normal_formula_is_normal f, normal_formula_is_normal g)
  normal_formula_is_normal (conditional f g h) = (normal_formula_is_normal f, normal_formula_is_normal g, normal_formula_is_normal h)

layered_any : (cv : Cv) (t : CxxType) → IsTrue (any_cv cv) → layered cv t ≡ qualified cv t
layered_any cv t ok = by (any_cv cv) ok
  where
    by : (b : Bool) → IsTrue b → (if b then qualified cv t else t) ≡ qualified cv t
    by true ok = refl
    by false ok = absurd (cc)

-- a type in the one form is its own one form
mutual
  pub normal_fixed : (x : CxxType) → IsNormal x → normal x ≡ x
  normal_fixed (fundamental base) ok = refl
  normal_fixed (class_type n) ok = refl
  normal_fixed (enumeration n) ok = refl
  normal_fixed (pointer_to t) ok =
      let same-t : normal t ≡ t = normal_fixed t ok in
      cc
  normal_fixed (reference_to t) ok =
      let same-t : normal t ≡ t = normal_fixed t ok in
      cc
  normal_fixed (array_of t bound) ok =
      let same-t : normal t ≡ t = normal_fixed t ok.0 in
      let same-bound : normal_bound bound ≡ bound = normal_bound_fixed bound ok.1 in
      cc
  normal_fixed (function_of r ts ellipsis cv) ok =
      let same-r : normal r ≡ r = normal_fixed r ok.0 in
      let same-ts : normal_parameters ts ≡ ts = normal_parameters_fixed ts ok.1 in
      cc
  normal_fixed (qualified cv t) ok = ap (with_cv cv) (normal_fixed t ok.2) ∙ with_cv_layered cv t ok.1 ∙ layered_any cv t ok.0
  normal_fixed (type_parameter depth index) ok = refl
  normal_fixed (specialisation n given) ok =
      let same-given : normal_arguments given ≡ given = normal_arguments_fixed given ok in
      cc
  normal_fixed (nested_in t word) ok =
      let same-t : normal t ≡ t = normal_fixed t ok in
      cc

  pub normal_parameters_fixed : (x : CxxTypes) → AreParameters x → normal_parameters x ≡ x
  normal_parameters_fixed no_types ok = refl
  normal_parameters_fixed (type_then t ts) ok =
      let p : adjusted (normal t) ≡ t = ap adjusted (normal_fixed t ok.1) ∙ adjusted_fixed t ok.0 in
      let q : normal_parameters ts ≡ ts = normal_parameters_fixed ts ok.2 in
      cc

  pub normal_bound_fixed : (x : CxxBound) → IsNormalBound x → normal_bound x ≡ x
  normal_bound_fixed unknown_bound ok = refl
  normal_bound_fixed (number_bound n) ok = refl
  normal_bound_fixed (formula_bound f) ok =
      let same-f : normal_formula f ≡ f = normal_formula_fixed f ok in
      cc

  pub normal_argument_fixed : (x : CxxArgument) → IsNormalArgument x → normal_argument x ≡ x
  normal_argument_fixed (type_argument t) ok =
      let same-t : normal t ≡ t = normal_fixed t ok in
      cc
  normal_argument_fixed (value_argument value t) ok =
      let same-t : normal t ≡ t = normal_fixed t ok in
      cc
  normal_argument_fixed (formula_argument f) ok =
      let same-f : normal_formula f ≡ f = normal_formula_fixed f ok in
      cc

  pub normal_arguments_fixed : (x : CxxArguments) → AreNormalArguments x → normal_arguments x ≡ x
  normal_arguments_fixed no_arguments ok = refl
  normal_arguments_fixed (argument_then a others) ok =
      let same-a : normal_argument a ≡ a = normal_argument_fixed a ok.0 in
      let same-others : normal_arguments others ≡ others = normal_arguments_fixed others ok.1 in
      cc

  pub normal_formula_fixed : (x : CxxFormula) → IsNormalFormula x → normal_formula x ≡ x
  normal_formula_fixed (value_of value t) ok =
      let same-t : normal t ≡ t = normal_fixed t ok in
      cc
  normal_formula_fixed (value_parameter depth index) ok = refl
  normal_formula_fixed (member_of t word) ok =
      let same-t : normal t ≡ t = normal_fixed t ok in
      cc
  normal_formula_fixed (size_of t) ok =
      let same-t : normal t ≡ t = normal_fixed t ok in
      cc
  normal_formula_fixed (cast_to t f) ok =
      let same-t : normal t ≡ t = normal_fixed t ok.0 in
      let same-f : normal_formula f ≡ f = normal_formula_fixed f ok.1 in
      cc
  normal_formula_fixed (unary operator f) ok =
      let same-f : normal_formula f ≡ f = normal_formula_fixed f ok in
      cc
  normal_formula_fixed (binary operator f g) ok =
      let same-f : normal_formula f ≡ f = normal_formula_fixed f ok.0 in
      let same-g : normal_formula g ≡ g = normal_formula_fixed g ok.1 in
      cc
  normal_formula_fixed (conditional f g h) ok =
      let same-f : normal_formula f ≡ f = normal_formula_fixed f ok.0 in
      let same-g : normal_formula g ≡ g = normal_formula_fixed g ok.1 in
      let same-h : normal_formula h ≡ h = normal_formula_fixed h ok.2 in
      cc

pub normal_idempotent : (t : CxxType) → normal (normal t) ≡ normal t
normal_idempotent t = normal_fixed (normal t) (normal_is_normal t)

-- the words of two layers
same_cv : (a b : Cv) → a.is_const ≡ b.is_const → a.is_volatile ≡ b.is_volatile → a ≡ b
same_cv a b p q =
    let one : Bool → Cv = λ x. record { is_const = x; is_volatile = a.is_volatile } in
    let two : Bool → Cv = λ x. record { is_const = b.is_const; is_volatile = x } in
    ap one p ∙ ap two q

pub merged_assoc : (a b c : Cv) → merged a (merged b c) ≡ merged (merged a b) c
merged_assoc a b c = same_cv _ _ (sym (or_assoc a.is_const b.is_const c.is_const)) (sym (or_assoc a.is_volatile b.is_volatile c.is_volatile))

or_none : (x p q : Bool) → (p || q) ≡ false → ((x || p) ≡ x) × ((x || q) ≡ x)
or_none true p q e = (refl, refl)
or_none false true q e = cc
or_none false false true e = cc
or_none false false false e = (refl, refl)

merged_none : (a b : Cv) → any_cv b ≡ false → merged a b ≡ a
merged_none a b e =
    same_cv _ _ ((or_none a.is_const b.is_const b.is_volatile e).0) ((or_none a.is_volatile b.is_const b.is_volatile e).1)

layered_merges : (a b : Cv) (t : CxxType) → IsTrue (takes_cv t) → with_cv a (layered b t) ≡ layered (merged a b) t
layered_merges a b t takes = by (any_cv b) refl
  where
    by : (x : Bool) → any_cv b ≡ x → with_cv a (if x then qualified b t else t) ≡ layered (merged a b) t
    by true e = refl
    by false e = with_cv_layered a t takes ∙ ap (λ cv. layered cv t) (sym (merged_none a b e))

-- cv words upon cv words are the words of both
pub with_cv_merges : (a b : Cv) (t : CxxType) → IsNormal t → with_cv a (with_cv b t) ≡ with_cv (merged a b) t
with_cv_merges a b (fundamental base) ok = layered_merges a b (fundamental base) refl
with_cv_merges a b (class_type n) ok = layered_merges a b (class_type n) refl
with_cv_merges a b (enumeration n) ok = layered_merges a b (enumeration n) refl
with_cv_merges a b (pointer_to t) ok = layered_merges a b (pointer_to t) refl
with_cv_merges a b (reference_to t) ok = refl
with_cv_merges a b (array_of t bound) ok = ap (λ u. array_of u bound) (with_cv_merges a b t ok.0)
with_cv_merges a b (function_of r ts ellipsis cv) ok = refl
with_cv_merges a b (qualified cv t) ok = layered_merges a (merged b cv) t ok.1 ∙ ap (λ own. layered own t) (merged_assoc a b cv)
with_cv_merges a b (type_parameter depth index) ok = layered_merges a b (type_parameter depth index) refl
with_cv_merges a b (specialisation n given) ok = layered_merges a b (specialisation n given) refl
with_cv_merges a b (nested_in t word) ok = layered_merges a b (nested_in t word) refl
