-- The readers of expressions over those of declarators, and inside one another.
use Rattle.std.specs.Prelude.{if◌then◌else◌, List, ◌++◌}
use Rattle.cxx_model.specs.declared.fault.FaultText.TheVariants as says
use Rattle.cxx_model.specs.declared.punct.TheConstants as punct
use Rattle.cxx_model.specs.Types.Trees.{CxxType}
use Rattle.cxx_phrases.specs.declared.shape.TypeShape.{TypeShape}
use Rattle.cxx_phrases.specs.declared.shape.TypeShape.TheVariants as type_shape
use Rattle.cxx_phrases.specs.Initializers.{expression_at}
use Rattle.cxx_phrases.specs.Operands.{sized_at}
use Rattle.cxx_phrases.specs.Phrases.{Phrases, Inner}
use Rattle.cxx_reading.specs.declared.specifier.Naming.TheVariants as naming
use Rattle.cxx_reading.specs.declared.specifier.SpecifierPlace.TheVariants as where_
use Rattle.cxx_reading.specs.Declarators.{Specifiers, Declarator, declared_type, refused_in, is_refused}
use Rattle.cxx_reading.specs.Kinds.{Kinds, Readers}
use Rattle.cxx_reading.specs.Reads.{Reads, ◌>>=◌, got, give, fault_at, kind_ahead, behind}
use Rattle.cxx_reading.specs.Shapes.{Run, no_type, a_type, surely, Outline, Fits, fits, fits_not, run_passed, prefix_passed, suffixes_by}
use Rattle.cxx_reading.specs.Specifiers.{specifiers_at}
use Rattle.cxx_reading.specs.Syntax.{declarator_at, specified_type}
use Rattle.cxx_reading.specs.Tokens.{is_punct}
use Rattle.cxx_reading.specs.Trees.{CxxTree}

-- ---- types (8.1)

-- 8.3.1, 8.3.2, 8.3.4: a type of which there is none is refused at its last token
unfoldable pub type_declared : {S : Type 0} → CxxType → Declarator → Reads S CxxType
type_declared of declarator state ahead =
    if is_refused (refused_in declarator.layers of)
    then fault_at ahead.last says.OperandsDoNotFit state ahead
    else got (declared_type declarator.layers of) state ahead

unfoldable pub type_id_fits : {S : Type 0} → Specifiers → Declarator → Reads S (CxxType × List CxxTree)
type_id_fits specifiers declarator = do
  of ← type_declared (specified_type specifiers) declarator
  give (of, specifiers.parts ++ declarator.parts)

unfoldable pub type_id_at : {S : Type 0} → Kinds S → Readers S → Reads S (CxxType × List CxxTree)
type_id_at asks inner = do
  specifiers ← specifiers_at asks inner where_.TypeId
  declarator ← declarator_at asks inner naming.Never
  type_id_fits specifiers declarator

-- ---- whether a type stands ahead (8.2)

abbrev pub closed_by : {S : Type 0} → Fits → Reads S TypeShape
closed_by fits state ahead = if is_punct punct.RIGHT_PARENTHESIS (kind_ahead ahead) then got type_shape.Closed state (behind ahead) else got type_shape.NoType state ahead
closed_by fits_not state ahead = got type_shape.NoType state ahead

-- the declarator of a type has no name
abbrev pub abstract_by : {S : Type 0} → Readers S → Outline → Reads S TypeShape
abstract_by inner outline = if outline.is_named then give type_shape.NoType else (suffixes_by inner outline >>= closed_by)

abbrev pub shape_by : {S : Type 0} → Kinds S → Readers S → Run → Reads S TypeShape
shape_by asks inner no_type = give type_shape.NoType
shape_by asks inner a_type = prefix_passed asks >>= abstract_by inner
shape_by asks inner surely = give type_shape.Surely

unfoldable pub type_passed_at : {S : Type 0} → Kinds S → Readers S → Reads S TypeShape
type_passed_at asks inner = run_passed asks >>= shape_by asks inner

-- ---- readers inside readers

abbrev pub inner_by : {S : Type 0} → Phrases S → Inner S → Kinds S → Readers S → Inner S
inner_by here inner asks behind_it = record {
  expression = expression_at here inner;
  sized = sized_at here inner;
  type_id = type_id_at asks behind_it;
  type_passed = type_passed_at asks behind_it;
}
