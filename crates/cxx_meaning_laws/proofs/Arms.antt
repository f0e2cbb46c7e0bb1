-- The second and the third operand of `?:` are converted to one type (5.16).
use Rattle.std.specs.Prelude.{ℕ, ◌≡◌, Bool, true, false, ◌&&◌, nat_eq, if◌then◌else◌, [], ◌∷◌, Option, Some, None, Ok, Err, refl}
use Rattle.std.proofs.Common.{ap, sym, subst, ◌∙◌}
use Rattle.std.specs.Option.{option_map}
use Rattle.std.proofs.lemmas.Bool.{eqb-true, eq-eqb}
use Rattle.cxx_model.specs.declared.base.Base.{Base}
use Rattle.cxx_model.specs.declared.base.Base.TheVariants as base
use Rattle.cxx_model.specs.declared.sequence.Second.{Second}
use Rattle.cxx_model.specs.declared.sequence.Second.TheVariants as second
use Rattle.cxx_model.specs.Choice.Standard.{same_base}
use Rattle.cxx_model.specs.Facts.Declarations.{CxxGraph}
use Rattle.cxx_model.specs.Facts.Pending.{is_pending}
use Rattle.cxx_model.specs.Types.Same.{same_type}
use Rattle.cxx_model.specs.Types.Trees.{CxxType, fundamental, class_type, enumeration, pointer_to, reference_to, array_of, function_of, qualified, type_parameter, specialisation, nested_in, IsNormal, adjusted}
use Rattle.cxx_model.proofs.SameTypes.{type_told}
use Rattle.cxx_meaning.specs.declared.steps.SequenceSteps.{SequenceSteps}
use Rattle.cxx_meaning.specs.Conversions.Arithmetic.{number_of, usual}
use Rattle.cxx_meaning.specs.Conversions.Asking.{Asked, ◌>>=◌}
use Rattle.cxx_meaning.specs.Conversions.BuiltIn.{CxxBuiltIn, by_usual, gives_object, operand_kind}
use Rattle.cxx_meaning.specs.Conversions.Conditional.{arms_of, arms_of_arithmetic, arms_of_class, arms_of_enumeration, arms_of_pointer, conditional, shared, shared_common, shared_null, shared_numbers, shared_pointers}
use Rattle.cxx_meaning.specs.Conversions.Derived.{is_derived}
use Rattle.cxx_meaning.specs.Conversions.Kinds.{CxxKind, no_value, arithmetic, enumerated, pointing, of_class, other, kind_of, kind_of_base, value_kind}
use Rattle.cxx_meaning.specs.Conversions.Pointers.{common_pointer}
use Rattle.cxx_meaning.specs.Conversions.Standard.{CxxOperand, class_step, is_null, no_steps, sequence_by, standard_sequence, steps_between, steps_by, steps_by_kinds, steps_of_class, steps_of_enumeration, steps_of_kinds, steps_of_value, steps_to_class}
use Rattle.cxx_meaning_laws.specs.Converting.{AreConverted, HasCommonType, IsConverted}
use Rattle.cxx_meaning_laws.proofs.Operands.{bound_told, common_converted, converted, is_nothing, kind_adjusted, kind_told, null_common, number_converted, usual_arithmetic}

-- both become values of the type
shared_told : (graph : CxxGraph) (one two : CxxOperand) (whole : CxxBuiltIn) (t : CxxType) → shared t ≡ Some whole → AreConverted graph one two t → HasCommonType graph one two whole
shared_told graph one two whole t e both =
    let made : CxxBuiltIn = record { operands = t ∷ t ∷ []; result = t; lvalue = false } in
    let is : made ≡ whole = cc in
    (t, ap (λ (b : CxxBuiltIn). b.operands) (sym is), both)

shared_if : (graph : CxxGraph) (one two : CxxOperand) (whole : CxxBuiltIn) (t : CxxType) (b : Bool) → (if b then shared t else None) ≡ Some whole → (b ≡ true → AreConverted graph one two t) → HasCommonType graph one two whole
shared_if graph one two whole t true e both = shared_told graph one two whole t e (both refl)
shared_if graph one two whole t false e both = absurd cc

-- ---- numbers

-- `void` is no arithmetic type
plain_base : (own of : Base) → kind_of_base own ≡ arithmetic of → kind_of_base of ≡ arithmetic of
plain_base base.Void of e = absurd cc
plain_base own of e = (let is : own ≡ of = cc in subst (λ (b : Base). kind_of_base b ≡ arithmetic b) is refl)

kind_base : (t : CxxType) (of : Base) → kind_of t ≡ arithmetic of → kind_of_base of ≡ arithmetic of
kind_base (fundamental own) of e = plain_base own of e
kind_base (qualified cv t) of e = kind_base t of e
kind_base (class_type n) of e = absurd cc
kind_base (enumeration n) of e = absurd cc
kind_base (pointer_to t) of e = absurd cc
kind_base (reference_to t) of e = absurd cc
kind_base (array_of t bound) of e = absurd cc
kind_base (function_of r ts ellipsis cv) of e = absurd cc
kind_base (type_parameter depth index) of e = absurd cc
kind_base (specialisation n given) of e = absurd cc
kind_base (nested_in t word) of e = absurd cc

value_base : (t : CxxType) (of : Base) → value_kind t ≡ arithmetic of → kind_of_base of ≡ arithmetic of
value_base (array_of t bound) of e = absurd cc
value_base (function_of r ts ellipsis cv) of e = absurd cc
value_base (fundamental own) of e = kind_base (fundamental own) of e
value_base (class_type n) of e = kind_base (class_type n) of e
value_base (enumeration n) of e = kind_base (enumeration n) of e
value_base (pointer_to t) of e = kind_base (pointer_to t) of e
value_base (reference_to t) of e = kind_base (reference_to t) of e
value_base (qualified cv t) of e = kind_base (qualified cv t) of e
value_base (type_parameter depth index) of e = kind_base (type_parameter depth index) of e
value_base (specialisation n given) of e = kind_base (specialisation n given) of e
value_base (nested_in t word) of e = kind_base (nested_in t word) of e

numbers_shared : (graph : CxxGraph) (one two : CxxOperand) (k l : CxxKind) (whole : CxxBuiltIn) → operand_kind one ≡ k → operand_kind two ≡ l → shared_numbers graph k l ≡ Some whole → HasCommonType graph one two whole
numbers_shared graph one two k l whole first last = by (number_of graph k) (number_of graph l) refl refl
  where
    by : (a b : Option Base) → number_of graph k ≡ a → number_of graph l ≡ b → by_usual a b ≡ Some whole → HasCommonType graph one two whole
    by (Some a) (Some b) is-a is-b e =
        shared_told graph one two whole (fundamental (usual a b)) e (number_converted graph one a (usual a b) k first is-a (usual_arithmetic a b), number_converted graph two b (usual a b) l last is-b (usual_arithmetic a b))
    by None b is-a is-b e = absurd cc
    by (Some a) None is-a is-b e = absurd cc

null_shared : (graph : CxxGraph) (one two : CxxOperand) (s : CxxType) (of : Base) (whole : CxxBuiltIn) → operand_kind one ≡ pointing s → operand_kind two ≡ arithmetic of → shared_null one.of two.constant of ≡ Some whole → HasCommonType graph one two whole
null_shared graph one two s of whole k l e = shared_if graph one two whole (adjusted one.of) (is_null two.constant of) e (λ null. null_common graph one two s of k l null)

-- the same with the pointer behind
null_before : (graph : CxxGraph) (one two : CxxOperand) (t : CxxType) (of : Base) (whole : CxxBuiltIn) → operand_kind one ≡ arithmetic of → operand_kind two ≡ pointing t → shared_null two.of one.constant of ≡ Some whole → HasCommonType graph one two whole
null_before graph one two t of whole k l e = shared_if graph one two whole (adjusted two.of) (is_null one.constant of) e (λ null. turned (null_common graph two one t of l k null))
  where
    turned : AreConverted graph two one (adjusted two.of) → AreConverted graph one two (adjusted two.of)
    turned both = (both.1, both.0)

arithmetic_shared : (graph : CxxGraph) (one two : CxxOperand) (of beside : Base) (whole : CxxBuiltIn) → operand_kind one ≡ arithmetic of → operand_kind two ≡ arithmetic beside → arms_of_arithmetic graph one two of (arithmetic beside) ≡ Some whole → HasCommonType graph one two whole
unfolding arms_of_arithmetic
arithmetic_shared graph one two of beside whole k l = by (same_base of beside)
  where
    by : (b : Bool) → (if b then shared (fundamental of) else shared_numbers graph (arithmetic of) (arithmetic beside)) ≡ Some whole → HasCommonType graph one two whole
    by true e =
        let is : (is_nothing one ≡ false) × (value_kind one.of ≡ arithmetic of) = kind_told one (arithmetic of) k (λ e. cc) in
        let plain : kind_of (fundamental of) ≡ arithmetic of = value_base one.of of is.1 in
        shared_told graph one two whole (fundamental of) e (number_converted graph one of of (arithmetic of) k refl plain, number_converted graph two beside of (arithmetic beside) l refl plain)
    by false e = numbers_shared graph one two (arithmetic of) (arithmetic beside) whole k l e

-- ---- enumerations

enumeration_converted : (graph : CxxGraph) (from : CxxOperand) (to : CxxType) (n : ℕ) → operand_kind from ≡ enumerated n → kind_of to ≡ enumerated n → IsConverted graph from to
unfolding steps_of_enumeration steps_of_kinds
enumeration_converted graph from to n is leads =
    converted graph from to (enumerated n) (enumerated n) no_steps is (λ e. cc) leads refl (ap (λ (b : Bool). Ok (if b then Some no_steps else None)) (eq-eqb n n refl))

enumerations_shared : (graph : CxxGraph) (one two : CxxOperand) (n m : ℕ) (whole : CxxBuiltIn) → operand_kind one ≡ enumerated n → operand_kind two ≡ enumerated m → arms_of_enumeration graph one n (enumerated m) ≡ Some whole → HasCommonType graph one two whole
unfolding arms_of_enumeration
enumerations_shared graph one two n m whole k l = by (nat_eq n m) refl
  where
    by : (b : Bool) → nat_eq n m ≡ b → (if b then shared (adjusted one.of) else shared_numbers graph (enumerated n) (enumerated m)) ≡ Some whole → HasCommonType graph one two whole
    by true same e =
        let is : (is_nothing one ≡ false) × (value_kind one.of ≡ enumerated n) = kind_told one (enumerated n) k (λ e. cc) in
        let leads : kind_of (adjusted one.of) ≡ enumerated n = kind_adjusted one.of ∙ is.1 in
        let number : n ≡ m = eqb-true n m same in
        shared_told graph one two whole (adjusted one.of) e (enumeration_converted graph one (adjusted one.of) n k leads, enumeration_converted graph two (adjusted one.of) n (l ∙ ap enumerated (sym number)) leads)
    by false same e = numbers_shared graph one two (enumerated n) (enumerated m) whole k l e

-- ---- pointers

pointers_shared : (graph : CxxGraph) (one two : CxxOperand) (s t : CxxType) (whole : CxxBuiltIn) → IsNormal one.of → IsNormal two.of → operand_kind one ≡ pointing s → operand_kind two ≡ pointing t → shared_pointers graph s t ≡ Ok (Some whole) → HasCommonType graph one two whole
unfolding shared_pointers
pointers_shared graph one two s t whole first last k l e = by (bound_told (common_pointer graph s t) shared_common (Some whole) e)
  where
    by : (a : Option CxxType) × (common_pointer graph s t ≡ Ok a) × (shared_common a ≡ Some whole) → HasCommonType graph one two whole
    by found = chosen found.0 found.1 found.2
      where
        chosen : (a : Option CxxType) → common_pointer graph s t ≡ Ok a → shared_common a ≡ Some whole → HasCommonType graph one two whole
        chosen None is e = absurd cc
        chosen (Some common) is e = shared_told graph one two whole common e (common_converted graph one two s t common first last k l is)

-- ---- classes

pub class_kind : (t : CxxType) (n : ℕ) → value_kind t ≡ of_class n → kind_of t ≡ of_class n
class_kind (array_of t bound) n e = absurd cc
class_kind (function_of r ts ellipsis cv) n e = absurd cc
class_kind (fundamental of) n e = e
class_kind (class_type m) n e = e
class_kind (enumeration m) n e = e
class_kind (pointer_to t) n e = e
class_kind (reference_to t) n e = e
class_kind (qualified cv t) n e = e
class_kind (type_parameter depth index) n e = e
class_kind (specialisation m given) n e = e
class_kind (nested_in t word) n e = e

-- an expression of a class is converted to that class
class_value : (graph : CxxGraph) (from : CxxOperand) (to : CxxType) (n : ℕ) → kind_of from.of ≡ of_class n → kind_of to ≡ of_class n → steps_of_value graph from to ≡ Ok (Some (steps_by None false))
unfolding class_step steps_by_kinds steps_of_value steps_to_class
class_value graph from to n is leads =
    let further : Asked (Option (Option Second)) = if is_pending graph n then Err (record { 0 = n }) else Ok (if is_derived graph n n then Some (Some second.DerivedToBase) else None) in
    let rest : Bool → Asked (Option SequenceSteps) = λ (b : Bool). (if b then Ok (Some None) else further) >>= λ (step : Option (Option Second)). Ok (steps_of_class step) in
    ap (λ (k : CxxKind). steps_by_kinds graph from to k (kind_of to)) is ∙ ap (steps_by_kinds graph from to (of_class n)) leads ∙ ap rest (eq-eqb n n refl)

class_between : (graph : CxxGraph) (from : CxxOperand) (to : CxxType) (n : ℕ) → kind_of to ≡ of_class n → steps_between graph from to ≡ steps_of_value graph from to
unfolding steps_between
class_between graph from (reference_to t) n e = absurd cc
class_between graph from (fundamental of) n e = refl
class_between graph from (class_type m) n e = refl
class_between graph from (enumeration m) n e = refl
class_between graph from (pointer_to t) n e = refl
class_between graph from (array_of t bound) n e = refl
class_between graph from (function_of r ts ellipsis cv) n e = refl
class_between graph from (qualified cv t) n e = refl
class_between graph from (type_parameter depth index) n e = refl
class_between graph from (specialisation m given) n e = refl
class_between graph from (nested_in t word) n e = refl

pub class_sequence : (graph : CxxGraph) (from : CxxOperand) (to : CxxType) (n : ℕ) → kind_of from.of ≡ of_class n → kind_of to ≡ of_class n → standard_sequence graph from to ≡ Ok (Some (sequence_by from to (steps_by None false)))
unfolding standard_sequence
class_sequence graph from to n is leads =
    let found : steps_between graph from to ≡ Ok (Some (steps_by None false)) = class_between graph from to n leads ∙ class_value graph from to n is leads in
    ap (λ (asked : Asked (Option SequenceSteps)). asked >>= λ (steps : Option SequenceSteps). Ok (option_map (sequence_by from to) steps)) found

class_converted : (graph : CxxGraph) (from : CxxOperand) (to : CxxType) (n : ℕ) → kind_of from.of ≡ of_class n → kind_of to ≡ of_class n → IsConverted graph from to
class_converted graph from to n is leads = (sequence_by from to (steps_by None false), class_sequence graph from to n is leads)

classes_shared : (graph : CxxGraph) (one two : CxxOperand) (n : ℕ) (whole : CxxBuiltIn) → operand_kind one ≡ of_class n → arms_of_class one two ≡ Some whole → HasCommonType graph one two whole
classes_shared graph one two n whole k e = shared_if graph one two whole one.of (same_type one.of two.of) e both
  where
    both : same_type one.of two.of ≡ true → AreConverted graph one two one.of
    both same =
        let is : (is_nothing one ≡ false) × (value_kind one.of ≡ of_class n) = kind_told one (of_class n) k (λ e. cc) in
        let leads : kind_of one.of ≡ of_class n = class_kind one.of n is.1 in
        (class_converted graph one one.of n leads leads, class_converted graph two one.of n (ap kind_of (sym (type_told one.of two.of same)) ∙ leads) leads)

-- ---- any two arms

arms_shared : (graph : CxxGraph) (one two : CxxOperand) (k l : CxxKind) (whole : CxxBuiltIn) → IsNormal one.of → IsNormal two.of → (k ≡ no_value → ⊥) → operand_kind one ≡ k → operand_kind two ≡ l → arms_of graph one two k l ≡ Ok (Some whole) → HasCommonType graph one two whole
unfolding arms_of arms_of_arithmetic arms_of_enumeration arms_of_pointer
arms_shared graph one two (arithmetic of) (arithmetic beside) whole first last value k l e = arithmetic_shared graph one two of beside whole k l (let is : arms_of_arithmetic graph one two of (arithmetic beside) ≡ Some whole = cc in is)
arms_shared graph one two (arithmetic of) (pointing t) whole first last value k l e = null_before graph one two t of whole k l (let is : shared_null two.of one.constant of ≡ Some whole = cc in is)
arms_shared graph one two (arithmetic of) kind whole first last value k l e = numbers_shared graph one two (arithmetic of) kind whole k l (let is : shared_numbers graph (arithmetic of) kind ≡ Some whole = cc in is)
arms_shared graph one two (enumerated n) (enumerated m) whole first last value k l e = enumerations_shared graph one two n m whole k l (let is : arms_of_enumeration graph one n (enumerated m) ≡ Some whole = cc in is)
arms_shared graph one two (enumerated n) kind whole first last value k l e = numbers_shared graph one two (enumerated n) kind whole k l (let is : shared_numbers graph (enumerated n) kind ≡ Some whole = cc in is)
arms_shared graph one two (pointing s) (pointing t) whole first last value k l e = pointers_shared graph one two s t whole first last k l e
arms_shared graph one two (pointing s) (arithmetic of) whole first last value k l e = null_shared graph one two s of whole k l (let is : shared_null one.of two.constant of ≡ Some whole = cc in is)
arms_shared graph one two (pointing s) kind whole first last value k l e = absurd cc
arms_shared graph one two (of_class n) kind whole first last value k l e = classes_shared graph one two n whole k (let is : arms_of_class one two ≡ Some whole = cc in is)
arms_shared graph one two no_value kind whole first last value k l e = absurd (value refl)
arms_shared graph one two other kind whole first last value k l e = absurd cc

pub arms_converted : (graph : CxxGraph) (one two : CxxOperand) (whole : CxxBuiltIn) → IsNormal one.of → IsNormal two.of → (operand_kind one ≡ no_value → ⊥) → conditional graph one two ≡ Ok (Some whole) → whole.lvalue ≡ false → HasCommonType graph one two whole
unfolding conditional
arms_converted graph one two whole first last value = by ((one.lvalue && two.lvalue) && same_type one.of two.of)
  where
    by : (b : Bool) → (if b then Ok (gives_object (one.of ∷ two.of ∷ []) one.of) else arms_of graph one two (operand_kind one) (operand_kind two)) ≡ Ok (Some whole) → whole.lvalue ≡ false → HasCommonType graph one two whole
    by true e plain =
        let made : CxxBuiltIn = record { operands = one.of ∷ two.of ∷ []; result = one.of; lvalue = true } in
        let is : made ≡ whole = cc in
        let wrong : true ≡ false = ap (λ (b : CxxBuiltIn). b.lvalue) is ∙ plain in
        absurd cc
    by false e plain = arms_shared graph one two (operand_kind one) (operand_kind two) whole first last value refl refl e
