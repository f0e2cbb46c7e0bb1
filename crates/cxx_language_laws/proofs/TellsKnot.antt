-- What the readers of types in expressions keep of the state, and what stops them.
use Rattle.std.proofs.Common.{refl}
use Rattle.std.specs.Prelude.{◌++◌}
use Rattle.cxx_model.specs.declared.punct.TheConstants as punct
use Rattle.cxx_model.specs.Stops.{Stopped}
use Rattle.cxx_model.specs.Types.Trees.{CxxType}
use Rattle.cxx_phrases.specs.declared.shape.TypeShape.TheVariants as type_shape
use Rattle.cxx_phrases.specs.Knot.{type_declared, type_id_fits, type_id_at, closed_by, abstract_by, shape_by, type_passed_at, inner_by}
use Rattle.cxx_phrases.specs.Phrases.{Phrases, Inner}
use Rattle.cxx_reading.specs.declared.specifier.Naming.TheVariants as naming
use Rattle.cxx_reading.specs.declared.specifier.SpecifierPlace.TheVariants as where_
use Rattle.cxx_reading.specs.Declarators.{Specifiers, Declarator, declared_type, refused_in, is_refused}
use Rattle.cxx_reading.specs.Kinds.{Kinds, Readers}
use Rattle.cxx_reading.specs.Reads.{Ahead, kind_ahead}
use Rattle.cxx_reading.specs.Shapes.{Run, no_type, a_type, surely, Outline, Fits, fits, fits_not}
use Rattle.cxx_reading.specs.Syntax.{specified_type}
use Rattle.cxx_reading.specs.Tokens.{is_punct}
use Rattle.cxx_language_laws.proofs.PhrasesTell.{PhrasesTell, InnerTell}
use Rattle.cxx_language_laws.proofs.Tells.{IsTold, Tells, quiet_in, KindsTell, ReadersTell, if_in, if_reads, then_in, same_in, next_in, give_in, names_tell, lists_tell}
use Rattle.cxx_language_laws.proofs.TellsInitializers.{expression_tells}
use Rattle.cxx_language_laws.proofs.TellsOperands.{sized_tells}
use Rattle.cxx_language_laws.proofs.TellsShapes.{run_tells, prefixes_tell, suffixes_by_tells}
use Rattle.cxx_language_laws.proofs.TellsSpecifiers.{specifiers_tell}
use Rattle.cxx_language_laws.proofs.TellsSyntax.{declarator_tells}

-- ---- types

type_declared_tells : {S : Type 0} {kept : S → S → Type 0} {told : S → Ahead → Stopped → Type 0} → IsTold kept told → (of : CxxType) (declarator : Declarator) → Tells kept told (type_declared {S = S} of declarator)
unfolding type_declared
type_declared_tells is of declarator state ahead = if_in (is_refused (refused_in declarator.layers of)) (quiet_in is refl) (same_in is (declared_type declarator.layers of) state ahead)

type_fits_tells : {S : Type 0} {kept : S → S → Type 0} {told : S → Ahead → Stopped → Type 0} → IsTold kept told → (specifiers : Specifiers) (declarator : Declarator) → Tells kept told (type_id_fits {S = S} specifiers declarator)
unfolding type_id_fits
type_fits_tells is specifiers declarator state ahead = then_in is (type_declared_tells is (specified_type specifiers) declarator state ahead) (λ of. give_in is (of, specifiers.parts ++ declarator.parts))

pub type_id_tells : {S : Type 0} {kept : S → S → Type 0} {told : S → Ahead → Stopped → Type 0} → IsTold kept told → {asks : Kinds S} → KindsTell kept told asks → {inner : Readers S} → ReadersTell kept told inner → Tells kept told (type_id_at asks inner)
unfolding type_id_at
type_id_tells is asks inner state ahead = then_in is (specifiers_tell is asks inner where_.TypeId state ahead) (λ specifiers state ahead. then_in is (declarator_tells is asks inner naming.Never refl state ahead) (type_fits_tells is specifiers))

-- ---- whether a type stands ahead

closed_by_tells : {S : Type 0} {kept : S → S → Type 0} {told : S → Ahead → Stopped → Type 0} → IsTold kept told → (one : Fits) → Tells kept told (closed_by {S = S} one)
closed_by_tells is fits state ahead = if_in (is_punct punct.RIGHT_PARENTHESIS (kind_ahead ahead)) (next_in is type_shape.Closed state ahead) (same_in is type_shape.NoType state ahead)
closed_by_tells is fits_not state ahead = same_in is type_shape.NoType state ahead

abstract_by_tells : {S : Type 0} {kept : S → S → Type 0} {told : S → Ahead → Stopped → Type 0} → IsTold kept told → {inner : Readers S} → ReadersTell kept told inner → (outline : Outline) → Tells kept told (abstract_by inner outline)
abstract_by_tells is inner outline = if_reads outline.is_named (give_in is type_shape.NoType) (λ state ahead. then_in is (suffixes_by_tells is (lists_tell inner) outline state ahead) (closed_by_tells is))

shape_by_tells : {S : Type 0} {kept : S → S → Type 0} {told : S → Ahead → Stopped → Type 0} → IsTold kept told → {asks : Kinds S} → KindsTell kept told asks → {inner : Readers S} → ReadersTell kept told inner → (run : Run) → Tells kept told (shape_by asks inner run)
shape_by_tells is asks inner no_type state ahead = give_in is type_shape.NoType state ahead
shape_by_tells is asks inner a_type state ahead = then_in is (prefixes_tell is (names_tell asks) state ahead) (abstract_by_tells is inner)
shape_by_tells is asks inner surely state ahead = give_in is type_shape.Surely state ahead

pub type_passed_tells : {S : Type 0} {kept : S → S → Type 0} {told : S → Ahead → Stopped → Type 0} → IsTold kept told → {asks : Kinds S} → KindsTell kept told asks → {inner : Readers S} → ReadersTell kept told inner → Tells kept told (type_passed_at asks inner)
unfolding type_passed_at
type_passed_tells is asks inner state ahead = then_in is (run_tells is (names_tell asks) state ahead) (shape_by_tells is asks inner)

-- ---- readers inside readers

pub inner_tells : {S : Type 0} {kept : S → S → Type 0} {told : S → Ahead → Stopped → Type 0} → IsTold kept told → (here : Phrases S) (inner : Inner S) → PhrasesTell kept told here inner → InnerTell kept told inner
    → (asks : Kinds S) → KindsTell kept told asks → (types : Readers S) → ReadersTell kept told types → InnerTell kept told (inner_by here inner asks types)
inner_tells is here inner one two asks three types four = record {
  expression = expression_tells is one two;
  sized = sized_tells is one two;
  type_id = type_id_tells is three four;
  type_passed = type_passed_tells is three four;
}
