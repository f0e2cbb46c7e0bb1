-- The value of an expression is converted to its own type by no step (13.3.3.1).
use Rattle.std.specs.Prelude.{◌≡◌, Bool, true, false, ◌&&◌, not, if◌then◌else◌, Option, Some, None, Ok, refl}
use Rattle.std.proofs.Common.{ap, ◌∙◌}
use Rattle.std.proofs.lemmas.Bool.{eq-eqb}
use Rattle.cxx_model.specs.declared.base.Base.{Base}
use Rattle.cxx_model.specs.declared.base.Base.TheVariants as base
use Rattle.cxx_model.specs.declared.sequence.ConstantKind.{ConstantKind}
use Rattle.cxx_model.specs.declared.sequence.Second.{Second}
use Rattle.cxx_model.specs.declared.types.Cv.{Cv}
use Rattle.cxx_model.specs.Choice.Standard.{second_step}
use Rattle.cxx_model.specs.Facts.Declarations.{CxxGraph}
use Rattle.cxx_model.specs.Types.Same.{same_cv}
use Rattle.cxx_model.specs.Types.Trees.{CxxType, adjusted}
use Rattle.cxx_model.proofs.SameTypes.{type_itself}
use Rattle.cxx_meaning.specs.declared.steps.SequenceSteps.{SequenceSteps}
use Rattle.cxx_meaning.specs.Conversions.Asking.{Asked}
use Rattle.cxx_meaning.specs.Conversions.BuiltIn.{is_condition, operand_kind}
use Rattle.cxx_meaning.specs.Conversions.Kinds.{CxxKind, no_value, arithmetic, enumerated, pointing, of_class, other, kind_of, value_kind, no_cv, cv_of}
use Rattle.cxx_meaning.specs.Conversions.Standard.{CxxOperand, is_letter, is_text, no_steps, only_const, sequence_by, steps_by, steps_of_arithmetic, steps_of_enumeration, steps_of_kinds, steps_of_pointer, steps_of_pointers, value_step, with_first}
use Rattle.cxx_meaning_laws.specs.Converting.{IsUnchanged}
use Rattle.cxx_meaning_laws.proofs.Arms.{class_kind, class_sequence}
use Rattle.cxx_meaning_laws.proofs.Meeting.{itself_widened, widened_steps}
use Rattle.cxx_meaning_laws.proofs.Operands.{is_nothing, kind_adjusted, kind_told, sequence_converted}

-- what has a type, as a value
no_other : (from : CxxOperand) (k : CxxKind) → operand_kind from ≡ k → (k ≡ other → ⊥) → kind_of (adjusted from.of) ≡ k
no_other from k is some = (let told : (is_nothing from ≡ false) × (value_kind from.of ≡ k) = kind_told from k is some in kind_adjusted from.of ∙ told.1)

unchanged : (graph : CxxGraph) (from : CxxOperand) (k : CxxKind) → operand_kind from ≡ k → (k ≡ other → ⊥) → is_condition k ≡ true → steps_of_kinds graph from.constant k k ≡ Ok (Some no_steps) → IsUnchanged graph from (adjusted from.of)
unchanged graph from k is some scalar e =
    (sequence_by from (adjusted from.of) (with_first (value_step from.of from.lvalue) no_steps), sequence_converted graph from (adjusted from.of) k k no_steps is some (no_other from k is some) scalar e, refl)

no_step : (of : Base) → second_step of of ≡ None
no_step base.Void = refl
no_step of = refl

no_text : (known : ConstantKind) (s : CxxType) → is_text known s s ≡ false
unfolding is_text
no_text known s = by (is_letter known (kind_of s)) (cv_of s).is_const (cv_of s).is_volatile
  where
    words : Bool → Bool → Cv
    words a b = record { is_const = a; is_volatile = b }

    by : (letter a b : Bool) → (letter && (letter && (same_cv (words a b) only_const && same_cv (words a b) no_cv))) ≡ false
    by false a b = refl
    by true true true = refl
    by true true false = refl
    by true false b = refl

text_by : (b : Bool) (found : Asked (Option SequenceSteps)) → b ≡ false → found ≡ Ok (Some no_steps) → (if b then Ok (Some (steps_by None true)) else found) ≡ Ok (Some no_steps)
text_by true found e f = absurd cc
text_by false found e f = f

pub value_unchanged : (graph : CxxGraph) (from : CxxOperand) (k : CxxKind) → operand_kind from ≡ k → (k ≡ no_value → ⊥) → (k ≡ other → ⊥) → IsUnchanged graph from (adjusted from.of)
unfolding steps_of_arithmetic steps_of_enumeration steps_of_kinds steps_of_pointer
value_unchanged graph from (arithmetic of) is value some = unchanged graph from (arithmetic of) is some refl (ap (λ (step : Option Second). Ok (Some (steps_by step false))) (no_step of))
value_unchanged graph from (enumerated n) is value some = unchanged graph from (enumerated n) is some refl (ap (λ (b : Bool). Ok (if b then Some no_steps else None)) (eq-eqb n n refl))
value_unchanged graph from (pointing s) is value some =
    let found : steps_of_pointers graph s s ≡ Ok (Some no_steps) = widened_steps graph s s (itself_widened s) ∙ ap (λ (b : Bool). Ok (Some (steps_by None (not b)))) (type_itself s) in
    unchanged graph from (pointing s) is some refl (text_by (is_text from.constant s s) (steps_of_pointers graph s s) (no_text from.constant s) found)
value_unchanged graph from (of_class n) is value some =
    let told : (is_nothing from ≡ false) × (value_kind from.of ≡ of_class n) = kind_told from (of_class n) is some in
    (sequence_by from (adjusted from.of) (steps_by None false), class_sequence graph from (adjusted from.of) n (class_kind from.of n told.1) (no_other from (of_class n) is some), refl)
value_unchanged graph from no_value is value some = absurd (value refl)
value_unchanged graph from other is value some = absurd (some refl)
