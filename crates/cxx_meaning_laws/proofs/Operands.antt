-- Operands are converted to the types that an operator gives them (5.9, 5.10, 5.16).
use Rattle.std.specs.Prelude.{◌≡◌, Bool, true, false, ◌&&◌, not, if◌then◌else◌, [], ◌∷◌, Option, Some, None, Ok, Err, refl}
use Rattle.std.proofs.Common.{ap, sym, subst, ◌∙◌}
use Rattle.std.specs.Option.{option_map}
use Rattle.cxx_model.specs.declared.base.Base.{Base}
use Rattle.cxx_model.specs.declared.base.Base.TheVariants as base
use Rattle.cxx_model.specs.declared.sequence.ConstantKind.{ConstantKind}
use Rattle.cxx_model.specs.declared.sequence.Second.TheVariants as second
use Rattle.cxx_model.specs.Choice.Standard.{second_step}
use Rattle.cxx_model.specs.Facts.Declarations.{CxxGraph}
use Rattle.cxx_model.specs.Types.Trees.{CxxType, fundamental, class_type, enumeration, pointer_to, reference_to, array_of, function_of, qualified, type_parameter, specialisation, nested_in, IsNormal, adjusted}
use Rattle.cxx_meaning.specs.declared.operator.BinaryFamily.TheVariants as family
use Rattle.cxx_meaning.specs.declared.steps.SequenceSteps.{SequenceSteps}
use Rattle.cxx_meaning.specs.Conversions.Arithmetic.{is_either, number_of, usual}
use Rattle.cxx_meaning.specs.Conversions.Asking.{Asked, ◌>>=◌}
use Rattle.cxx_meaning.specs.Conversions.BuiltIn.{CxxBuiltIn, binary_by, bool_type, compared, compared_as, compared_by, compared_numbers, compared_pointers, compared_to_null, is_condition, operand_kind}
use Rattle.cxx_meaning.specs.Conversions.Enumerations.{promoted}
use Rattle.cxx_meaning.specs.Conversions.Kinds.{CxxKind, no_value, arithmetic, enumerated, pointing, of_class, other, kind_of, kind_of_base, value_kind, is_function}
use Rattle.cxx_meaning.specs.Conversions.Pointers.{common_pointer}
use Rattle.cxx_meaning.specs.Conversions.Standard.{CxxOperand, is_null, is_text, promoted_base, sequence_by, standard_sequence, step_of_enumeration, steps_between, steps_by, steps_by_kinds, steps_of_arithmetic, steps_of_enumeration, steps_of_kinds, steps_of_pointer, steps_of_pointers, steps_of_value, steps_to_scalar, value_step, with_first}
use Rattle.cxx_meaning_laws.specs.Converting.{AreConverted, HasCommonType, IsConverted}
use Rattle.cxx_meaning_laws.proofs.Meeting.{IsStepped, Meets, itself_widened, pointers_meet, widened_stepped}

-- ---- from steps between kinds to a sequence

between_values : (graph : CxxGraph) (from : CxxOperand) (to : CxxType) → is_condition (kind_of to) ≡ true → steps_between graph from to ≡ steps_of_value graph from to
unfolding steps_between
between_values graph from (reference_to t) e = cc
between_values graph from (fundamental of) e = refl
between_values graph from (class_type n) e = refl
between_values graph from (enumeration n) e = refl
between_values graph from (pointer_to t) e = refl
between_values graph from (array_of t bound) e = refl
between_values graph from (function_of r ts ellipsis cv) e = refl
between_values graph from (qualified cv t) e = refl
between_values graph from (type_parameter depth index) e = refl
between_values graph from (specialisation n given) e = refl
between_values graph from (nested_in t word) e = refl

by_scalars : (graph : CxxGraph) (from : CxxOperand) (to : CxxType) (k l : CxxKind) → is_condition l ≡ true → steps_by_kinds graph from to k l ≡ steps_to_scalar graph from to
unfolding steps_by_kinds
by_scalars graph from to (of_class m) (of_class n) e = cc
by_scalars graph from to _ _ e = refl

-- whether the expression is no object and no value
abbrev pub is_nothing : CxxOperand → Bool
is_nothing from = is_function from.of && not from.lvalue

pub kind_told : (from : CxxOperand) (k : CxxKind) → operand_kind from ≡ k → (k ≡ other → ⊥) → (is_nothing from ≡ false) × (value_kind from.of ≡ k)
kind_told from k is some = by (is_nothing from) is
  where
    by : (b : Bool) → (if b then other else value_kind from.of) ≡ k → (b ≡ false) × (value_kind from.of ≡ k)
    by true e = absurd (some (sym e))
    by false e = (refl, e)

to_scalar : (graph : CxxGraph) (from : CxxOperand) (to : CxxType) (k l : CxxKind) (steps : SequenceSteps) → operand_kind from ≡ k → (k ≡ other → ⊥) → kind_of to ≡ l → steps_of_kinds graph from.constant k l ≡ Ok (Some steps) → steps_to_scalar graph from to ≡ Ok (Some (with_first (value_step from.of from.lvalue) steps))
unfolding steps_to_scalar
to_scalar graph from to k l steps is some leads e =
    let rest : Asked (Option SequenceSteps) → Asked (Option SequenceSteps) = λ (found : Asked (Option SequenceSteps)). found >>= λ (steps : Option SequenceSteps). Ok (option_map (with_first (value_step from.of from.lvalue)) steps) in
    let told : (is_nothing from ≡ false) × (value_kind from.of ≡ k) = kind_told from k is some in
    let found : steps_of_kinds graph from.constant (value_kind from.of) (kind_of to) ≡ Ok (Some steps) =
    ap (λ (j : CxxKind). steps_of_kinds graph from.constant j (kind_of to)) told.1 ∙ ap (steps_of_kinds graph from.constant k) leads ∙ e in
    ap (λ (b : Bool). if b then Ok None else rest (steps_of_kinds graph from.constant (value_kind from.of) (kind_of to))) told.0 ∙ ap rest found

pub sequence_converted : (graph : CxxGraph) (from : CxxOperand) (to : CxxType) (k l : CxxKind) (steps : SequenceSteps) → operand_kind from ≡ k → (k ≡ other → ⊥) → kind_of to ≡ l → is_condition l ≡ true → steps_of_kinds graph from.constant k l ≡ Ok (Some steps) → standard_sequence graph from to ≡ Ok (Some (sequence_by from to (with_first (value_step from.of from.lvalue) steps)))
unfolding standard_sequence steps_of_value
sequence_converted graph from to k l steps is some leads scalar e =
    let all : SequenceSteps = with_first (value_step from.of from.lvalue) steps in
    let plain : is_condition (kind_of to) ≡ true = ap is_condition leads ∙ scalar in
    let found : steps_between graph from to ≡ Ok (Some all) =
    between_values graph from to plain ∙ by_scalars graph from to (kind_of from.of) (kind_of to) plain ∙ to_scalar graph from to k l steps is some leads e in
    ap (λ (asked : Asked (Option SequenceSteps)). asked >>= λ (steps : Option SequenceSteps). Ok (option_map (sequence_by from to) steps)) found

pub converted : (graph : CxxGraph) (from : CxxOperand) (to : CxxType) (k l : CxxKind) (steps : SequenceSteps) → operand_kind from ≡ k → (k ≡ other → ⊥) → kind_of to ≡ l → is_condition l ≡ true → steps_of_kinds graph from.constant k l ≡ Ok (Some steps) → IsConverted graph from to
converted graph from to k l steps is some leads scalar e = (sequence_by from to (with_first (value_step from.of from.lvalue) steps), sequence_converted graph from to k l steps is some leads scalar e)

-- ---- pointers

pointer_steps : (graph : CxxGraph) (known : ConstantKind) (s p : CxxType) → IsStepped graph s p → (steps : SequenceSteps) × (steps_of_kinds graph known (pointing s) (pointing p) ≡ Ok (Some steps))
unfolding steps_of_kinds steps_of_pointer
pointer_steps graph known s p stepped = by (is_text known s p)
  where
    by : (b : Bool) → (steps : SequenceSteps) × ((if b then Ok (Some (steps_by None true)) else steps_of_pointers graph s p) ≡ Ok (Some steps))
    by true = (steps_by None true, refl)
    by false = (stepped.0, stepped.1)

pub pointer_converted : (graph : CxxGraph) (from : CxxOperand) (to s p : CxxType) → operand_kind from ≡ pointing s → kind_of to ≡ pointing p → IsStepped graph s p → IsConverted graph from to
pointer_converted graph from to s p is leads stepped =
    let found : (steps : SequenceSteps) × (steps_of_kinds graph from.constant (pointing s) (pointing p) ≡ Ok (Some steps)) = pointer_steps graph from.constant s p stepped in
    converted graph from to (pointing s) (pointing p) found.0 is (λ e. cc) leads refl found.1

null_by : (b : Bool) → b ≡ true → (if b then Some (steps_by (Some second.Pointer) false) else None) ≡ Some (steps_by (Some second.Pointer) false)
null_by true e = refl
null_by false e = cc

-- 4.10: a null pointer constant
null_converted : (graph : CxxGraph) (from : CxxOperand) (to p : CxxType) (of : Base) → operand_kind from ≡ arithmetic of → is_null from.constant of ≡ true → kind_of to ≡ pointing p → IsConverted graph from to
unfolding steps_of_arithmetic steps_of_kinds
null_converted graph from to p of is null leads =
    converted graph from to (arithmetic of) (pointing p) (steps_by (Some second.Pointer) false) is (λ e. cc) leads refl (ap Ok (null_by (is_null from.constant of) null))

kind_normal : (t s : CxxType) → IsNormal t → kind_of t ≡ pointing s → IsNormal s
kind_normal (pointer_to t) s ok e = subst IsNormal (let is : t ≡ s = cc in is) ok
kind_normal (qualified cv t) s ok e = kind_normal t s ok.2 e
kind_normal (fundamental of) s ok e = absurd (by of e)
  where
    by : (of : Base) → kind_of_base of ≡ pointing s → ⊥
    by base.Void e = cc
    by _ e = cc
kind_normal (class_type n) s ok e = absurd cc
kind_normal (enumeration n) s ok e = absurd cc
kind_normal (reference_to t) s ok e = absurd cc
kind_normal (array_of t bound) s ok e = absurd cc
kind_normal (function_of r ts ellipsis cv) s ok e = absurd cc
kind_normal (type_parameter depth index) s ok e = absurd cc
kind_normal (specialisation n given) s ok e = absurd cc
kind_normal (nested_in t word) s ok e = absurd cc

value_normal : (t s : CxxType) → IsNormal t → value_kind t ≡ pointing s → IsNormal s
value_normal (array_of t bound) s ok e = subst IsNormal (let is : t ≡ s = cc in is) ok.0
value_normal (function_of r ts ellipsis cv) s ok e = subst IsNormal (let is : function_of r ts ellipsis cv ≡ s = cc in is) ok
value_normal (fundamental of) s ok e = kind_normal (fundamental of) s ok e
value_normal (class_type n) s ok e = kind_normal (class_type n) s ok e
value_normal (enumeration n) s ok e = kind_normal (enumeration n) s ok e
value_normal (pointer_to t) s ok e = kind_normal (pointer_to t) s ok e
value_normal (reference_to t) s ok e = kind_normal (reference_to t) s ok e
value_normal (qualified cv t) s ok e = kind_normal (qualified cv t) s ok e
value_normal (type_parameter depth index) s ok e = kind_normal (type_parameter depth index) s ok e
value_normal (specialisation n given) s ok e = kind_normal (specialisation n given) s ok e
value_normal (nested_in t word) s ok e = kind_normal (nested_in t word) s ok e

-- the value of an expression is of its adjusted type
pub kind_adjusted : (t : CxxType) → kind_of (adjusted t) ≡ value_kind t
kind_adjusted (array_of t bound) = refl
kind_adjusted (function_of r ts ellipsis cv) = refl
kind_adjusted (fundamental of) = refl
kind_adjusted (class_type n) = refl
kind_adjusted (enumeration n) = refl
kind_adjusted (pointer_to t) = refl
kind_adjusted (reference_to t) = refl
kind_adjusted (qualified cv t) = refl
kind_adjusted (type_parameter depth index) = refl
kind_adjusted (specialisation n given) = refl
kind_adjusted (nested_in t word) = refl

pub common_converted : (graph : CxxGraph) (one two : CxxOperand) (s t common : CxxType) → IsNormal one.of → IsNormal two.of → operand_kind one ≡ pointing s → operand_kind two ≡ pointing t → common_pointer graph s t ≡ Ok (Some common) → AreConverted graph one two common
common_converted graph one two s t common first last k l e =
    let s-is : (is_nothing one ≡ false) × (value_kind one.of ≡ pointing s) = kind_told one (pointing s) k (λ e. cc) in
    let t-is : (is_nothing two ≡ false) × (value_kind two.of ≡ pointing t) = kind_told two (pointing t) l (λ e. cc) in
    let meets : Meets graph s t common = pointers_meet graph s t common (value_normal one.of s first s-is.1) (value_normal two.of t last t-is.1) e in
    let leads : kind_of common ≡ pointing meets.pointee = ap kind_of meets.is in
    (pointer_converted graph one common s meets.pointee k leads meets.one, pointer_converted graph two common t meets.pointee l leads meets.two)

pub null_common : (graph : CxxGraph) (one two : CxxOperand) (s : CxxType) (of : Base) → operand_kind one ≡ pointing s → operand_kind two ≡ arithmetic of → is_null two.constant of ≡ true → AreConverted graph one two (adjusted one.of)
null_common graph one two s of k l null =
    let s-is : (is_nothing one ≡ false) × (value_kind one.of ≡ pointing s) = kind_told one (pointing s) k (λ e. cc) in
    let leads : kind_of (adjusted one.of) ≡ pointing s = kind_adjusted one.of ∙ s-is.1 in
    (pointer_converted graph one (adjusted one.of) s s k leads (widened_stepped graph s s (itself_widened s)), null_converted graph two (adjusted one.of) s of l null leads)

-- ---- numbers

-- what the usual arithmetic conversions lead to is arithmetic
pub usual_arithmetic : (one two : Base) → kind_of (fundamental (usual one two)) ≡ arithmetic (usual one two)
unfolding usual
usual_arithmetic one two = by (is_either base.LongDouble one two) (is_either base.Double one two) (is_either base.Float one two) (is_either base.UnsignedLong (promoted_base one) (promoted_base two)) (is_either base.Long (promoted_base one) (promoted_base two)) (is_either base.Unsigned (promoted_base one) (promoted_base two))
  where
    chosen : Bool → Bool → Bool → Bool → Bool → Bool → Base
    chosen a b c d e f = if a then base.LongDouble else (if b then base.Double else (if c then base.Float else (if d then base.UnsignedLong else (if e then base.Long else (if f then base.Unsigned else base.Int)))))

    by : (a b c d e f : Bool) → kind_of_base (chosen a b c d e f) ≡ arithmetic (chosen a b c d e f)
    by true b c d e f = refl
    by false true c d e f = refl
    by false false true d e f = refl
    by false false false true e f = refl
    by false false false false true f = refl
    by false false false false false true = refl
    by false false false false false false = refl

pub number_converted : (graph : CxxGraph) (from : CxxOperand) (of to : Base) (k : CxxKind) → operand_kind from ≡ k → number_of graph k ≡ Some of → kind_of (fundamental to) ≡ arithmetic to → IsConverted graph from (fundamental to)
unfolding steps_of_arithmetic steps_of_enumeration steps_of_kinds
number_converted graph from of to (arithmetic own) is number leads = converted graph from (fundamental to) (arithmetic own) (arithmetic to) (steps_by (second_step own to) false) is (λ e. cc) leads refl refl
number_converted graph from of to (enumerated n) is number leads = converted graph from (fundamental to) (enumerated n) (arithmetic to) (steps_by (Some (step_of_enumeration (promoted graph n) to)) false) is (λ e. cc) leads refl refl
number_converted graph from of to no_value is number leads = absurd cc
number_converted graph from of to (pointing t) is number leads = absurd cc
number_converted graph from of to (of_class n) is number leads = absurd cc
number_converted graph from of to other is number leads = absurd cc

-- ---- comparisons

pub bound_told : {A B : Type 0} (asked : Asked A) (f : A → B) (whole : B) → (asked >>= λ (a : A). Ok (f a)) ≡ Ok whole → (a : A) × (asked ≡ Ok a) × (f a ≡ whole)
bound_told (Ok a) f whole e = (a, refl, (let is : f a ≡ whole = cc in is))
bound_told (Err class) f whole e = absurd cc

numbers_common : (graph : CxxGraph) (one two : CxxOperand) (k l : CxxKind) (whole : CxxBuiltIn) → operand_kind one ≡ k → operand_kind two ≡ l → compared_numbers graph k l ≡ Some whole → HasCommonType graph one two whole
numbers_common graph one two k l whole first last = by (number_of graph k) (number_of graph l) refl refl
  where
    by : (a b : Option Base) → number_of graph k ≡ a → number_of graph l ≡ b → compared a b ≡ Some whole → HasCommonType graph one two whole
    by (Some a) (Some b) is-a is-b e =
        let common : CxxType = fundamental (usual a b) in
        let made : CxxBuiltIn = record { operands = common ∷ common ∷ []; result = bool_type; lvalue = false } in
        let is : made ≡ whole = cc in
        (common, ap (λ (b : CxxBuiltIn). b.operands) (sym is), (number_converted graph one a (usual a b) k first is-a (usual_arithmetic a b), number_converted graph two b (usual a b) l last is-b (usual_arithmetic a b)))
    by None b is-a is-b e = absurd cc
    by (Some a) None is-a is-b e = absurd cc

null_told : (pointer : CxxType) (known : ConstantKind) (of : Base) (whole : CxxBuiltIn) → compared_to_null pointer known of ≡ Some whole → (is_null known of ≡ true) × (whole.operands ≡ adjusted pointer ∷ adjusted pointer ∷ [])
null_told pointer known of whole = by (is_null known of)
  where
    by : (b : Bool) → (if b then compared_as (Some (adjusted pointer)) else None) ≡ Some whole → (b ≡ true) × (whole.operands ≡ adjusted pointer ∷ adjusted pointer ∷ [])
    by true e =
        let made : CxxBuiltIn = record { operands = adjusted pointer ∷ adjusted pointer ∷ []; result = bool_type; lvalue = false } in
        let is : made ≡ whole = cc in
        (refl, ap (λ (b : CxxBuiltIn). b.operands) (sym is))
    by false e = absurd cc

compared_common : (graph : CxxGraph) (one two : CxxOperand) (k l : CxxKind) (whole : CxxBuiltIn) → IsNormal one.of → IsNormal two.of → operand_kind one ≡ k → operand_kind two ≡ l → compared_by graph one two k l ≡ Ok (Some whole) → HasCommonType graph one two whole
unfolding compared_by compared_pointers
compared_common graph one two (pointing s) (pointing t) whole first last k l e = by (bound_told (common_pointer graph s t) compared_as (Some whole) e)
  where
    by : (a : Option CxxType) × (common_pointer graph s t ≡ Ok a) × (compared_as a ≡ Some whole) → HasCommonType graph one two whole
    by found = chosen found.0 found.1 found.2
      where
        chosen : (a : Option CxxType) → common_pointer graph s t ≡ Ok a → compared_as a ≡ Some whole → HasCommonType graph one two whole
        chosen None is e = absurd cc
        chosen (Some common) is e =
            let made : CxxBuiltIn = record { operands = common ∷ common ∷ []; result = bool_type; lvalue = false } in
            let same : made ≡ whole = cc in
            (common, ap (λ (b : CxxBuiltIn). b.operands) (sym same), common_converted graph one two s t common first last k l is)
compared_common graph one two (pointing s) (arithmetic of) whole first last k l e =
    let told : (is_null two.constant of ≡ true) × (whole.operands ≡ adjusted one.of ∷ adjusted one.of ∷ []) = null_told one.of two.constant of whole (let is : compared_to_null one.of two.constant of ≡ Some whole = cc in is) in
    (adjusted one.of, told.1, null_common graph one two s of k l told.0)
compared_common graph one two (pointing s) no_value whole first last k l e = absurd cc
compared_common graph one two (pointing s) (enumerated n) whole first last k l e = absurd cc
compared_common graph one two (pointing s) (of_class n) whole first last k l e = absurd cc
compared_common graph one two (pointing s) other whole first last k l e = absurd cc
compared_common graph one two (arithmetic of) (pointing t) whole first last k l e =
    let told : (is_null one.constant of ≡ true) × (whole.operands ≡ adjusted two.of ∷ adjusted two.of ∷ []) = null_told two.of one.constant of whole (let is : compared_to_null two.of one.constant of ≡ Some whole = cc in is) in
    let both : AreConverted graph two one (adjusted two.of) = null_common graph two one t of l k told.0 in
    (adjusted two.of, told.1, (both.1, both.0))
compared_common graph one two (arithmetic of) l whole first last is-k is-l e = numbers_common graph one two (arithmetic of) l whole is-k is-l (let is : compared_numbers graph (arithmetic of) l ≡ Some whole = cc in is)
compared_common graph one two k l whole first last is-k is-l e = numbers_common graph one two k l whole is-k is-l (let is : compared_numbers graph k l ≡ Some whole = cc in is)

pub comparison_common : (graph : CxxGraph) (one two : CxxOperand) (whole : CxxBuiltIn) → IsNormal one.of → IsNormal two.of → binary_by graph family.Compare one two ≡ Ok (Some whole) → HasCommonType graph one two whole
unfolding binary_by
comparison_common graph one two whole first last e = compared_common graph one two (operand_kind one) (operand_kind two) whole first last refl refl e
