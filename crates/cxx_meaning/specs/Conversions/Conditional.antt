-- The conditional operator, where no arm has to be converted to a class (5.16).
use Rattle.std.specs.Prelude.{ℕ, ◌&&◌, nat_eq, if◌then◌else◌, [], ◌∷◌, Option, Some, None, Ok}
use Rattle.cxx_model.specs.declared.base.Base.{Base}
use Rattle.cxx_model.specs.declared.base.Base.TheVariants as base
use Rattle.cxx_model.specs.declared.sequence.ConstantKind.{ConstantKind}
use Rattle.cxx_model.specs.Choice.Standard.{same_base}
use Rattle.cxx_model.specs.Facts.Declarations.{CxxGraph}
use Rattle.cxx_model.specs.Types.Same.{same_type}
use Rattle.cxx_model.specs.Types.Trees.{CxxType, fundamental, adjusted}
use Rattle.cxx_meaning.specs.Conversions.Arithmetic.{number_of}
use Rattle.cxx_meaning.specs.Conversions.Asking.{Asked, ◌>>=◌}
use Rattle.cxx_meaning.specs.Conversions.BuiltIn.{CxxBuiltIn, by_usual, gives_object, gives_value, operand_kind}
use Rattle.cxx_meaning.specs.Conversions.Kinds.{CxxKind, no_value, arithmetic, enumerated, pointing, of_class, other}
use Rattle.cxx_meaning.specs.Conversions.Pointers.{common_pointer}
use Rattle.cxx_meaning.specs.Conversions.Standard.{CxxOperand, is_null}

-- both arms become values of one type
abbrev pub shared : CxxType → Option CxxBuiltIn
shared t = gives_value (t ∷ t ∷ []) t

abbrev pub shared_common : Option CxxType → Option CxxBuiltIn
shared_common None = None
shared_common (Some common) = shared common

abbrev pub shared_null : CxxType → ConstantKind → Base → Option CxxBuiltIn
shared_null pointer known of = if is_null known of then shared (adjusted pointer) else None

unfoldable pub shared_pointers : CxxGraph → CxxType → CxxType → Asked (Option CxxBuiltIn)
shared_pointers graph s t = do
  common ← common_pointer graph s t
  Ok (shared_common common)

abbrev pub shared_numbers : CxxGraph → CxxKind → CxxKind → Option CxxBuiltIn
shared_numbers graph k l = by_usual (number_of graph k) (number_of graph l)

-- an arm that is a value of an arithmetic type
unfoldable pub arms_of_arithmetic : CxxGraph → CxxOperand → CxxOperand → Base → CxxKind → Option CxxBuiltIn
arms_of_arithmetic graph one two of (arithmetic beside) = if same_base of beside then shared (fundamental of) else shared_numbers graph (arithmetic of) (arithmetic beside)
arms_of_arithmetic graph one two of (pointing t) = shared_null two.of one.constant of
arms_of_arithmetic graph one two of kind = shared_numbers graph (arithmetic of) kind

-- an arm that is a value of an enumeration
unfoldable pub arms_of_enumeration : CxxGraph → CxxOperand → ℕ → CxxKind → Option CxxBuiltIn
arms_of_enumeration graph one n (enumerated m) = if nat_eq n m then shared (adjusted one.of) else shared_numbers graph (enumerated n) (enumerated m)
arms_of_enumeration graph one n kind = shared_numbers graph (enumerated n) kind

-- an arm that is a pointer
unfoldable pub arms_of_pointer : CxxGraph → CxxOperand → CxxOperand → CxxType → CxxKind → Asked (Option CxxBuiltIn)
arms_of_pointer graph one two s (pointing t) = shared_pointers graph s t
arms_of_pointer graph one two s (arithmetic of) = Ok (shared_null one.of two.constant of)
arms_of_pointer graph one two s _ = Ok None

-- an arm of class type is what it is, and the other is of the same type
abbrev pub arms_of_class : CxxOperand → CxxOperand → Option CxxBuiltIn
arms_of_class one two = if same_type one.of two.of then shared one.of else None

-- both arms give nothing
unfoldable pub arms_of_void : CxxKind → Option CxxBuiltIn
arms_of_void no_value = shared (fundamental base.Void)
arms_of_void _ = None

unfoldable pub arms_of : CxxGraph → CxxOperand → CxxOperand → CxxKind → CxxKind → Asked (Option CxxBuiltIn)
arms_of graph one two (arithmetic of) kind = Ok (arms_of_arithmetic graph one two of kind)
arms_of graph one two (enumerated n) kind = Ok (arms_of_enumeration graph one n kind)
arms_of graph one two (pointing s) kind = arms_of_pointer graph one two s kind
arms_of graph one two (of_class n) kind = Ok (arms_of_class one two)
arms_of graph one two no_value kind = Ok (arms_of_void kind)
arms_of graph one two other kind = Ok None

-- 5.16: What the second and the third operand become, and the type of the whole: two lvalues of one type stay what they
-- are. The first operand is converted to `bool`.
unfoldable pub conditional : CxxGraph → CxxOperand → CxxOperand → Asked (Option CxxBuiltIn)
conditional graph one two =
    if (one.lvalue && two.lvalue) && same_type one.of two.of then Ok (gives_object (one.of ∷ two.of ∷ []) one.of) else
    arms_of graph one two (operand_kind one) (operand_kind two)
