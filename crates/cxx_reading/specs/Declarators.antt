-- What specifiers and declarators say (7.1, 8.3): a type, a name, and what a declarator makes of the type.
use Rattle.std.specs.Prelude.{◌≡◌, ℕ, Bool, true, false, ◌||◌, if◌then◌else◌, ◌==◌, List, [], ◌∷◌, ◌++◌, Option, Some, None}
use Rattle.cxx_model.specs.declared.base.Base.{Base}
use Rattle.cxx_model.specs.declared.base.Base.TheVariants as base
use Rattle.cxx_model.specs.declared.evidence.SubstitutionText.{SubstitutionText}
use Rattle.cxx_model.specs.declared.evidence.SubstitutionText.TheVariants as text
use Rattle.cxx_model.specs.declared.keyword.TheConstants as keyword
use Rattle.cxx_model.specs.declared.types.Cv.{Cv}
use Rattle.cxx_model.specs.Text.Lexemes.{Lexeme}
use Rattle.cxx_model.specs.Types.Trees.{CxxType, fundamental, class_type, enumeration, pointer_to, reference_to, array_of, function_of, qualified, type_parameter, specialisation, nested_in, CxxTypes, no_types, type_then, CxxBound, number_bound, with_cv, decayed, adjusted}
use Rattle.cxx_reading.specs.declared.specifier.CoreWord.{CoreWord}
use Rattle.cxx_reading.specs.declared.specifier.CoreWord.TheVariants as core
use Rattle.cxx_reading.specs.declared.specifier.SignWord.{SignWord}
use Rattle.cxx_reading.specs.declared.specifier.SignWord.TheVariants as sign
use Rattle.cxx_reading.specs.declared.specifier.SizeWord.{SizeWord}
use Rattle.cxx_reading.specs.declared.specifier.SizeWord.TheVariants as size
use Rattle.cxx_reading.specs.declared.specifier.StorageWord.{StorageWord}
use Rattle.cxx_reading.specs.declared.specifier.TypeWords.{TypeWords}
use Rattle.cxx_reading.specs.Trees.{CxxTree}

abbrev pub no_cv : Cv
no_cv = record { is_const = false; is_volatile = false }

-- ---- the words of fundamental types (7.1.5.2)

abbrev pub no_words : TypeWords
no_words = record { core = None; sign = None; size = None }

-- Table 7: the integral types that `int` names, by its other words
abbrev pub int_by : Option SignWord → Option SizeWord → Base
int_by (Some sign.Unsigned) None = base.Unsigned
int_by (Some sign.Unsigned) (Some size.Short) = base.UnsignedShort
int_by (Some sign.Unsigned) (Some size.Long) = base.UnsignedLong
int_by _ None = base.Int
int_by _ (Some size.Short) = base.Short
int_by _ (Some size.Long) = base.Long

abbrev pub char_by : Option SignWord → Option SizeWord → Option Base
char_by None None = Some base.Char
char_by (Some sign.Signed) None = Some base.SignedChar
char_by (Some sign.Unsigned) None = Some base.UnsignedChar
char_by _ (Some size) = None

abbrev pub double_by : Option SignWord → Option SizeWord → Option Base
double_by None None = Some base.Double
double_by None (Some size.Long) = Some base.LongDouble
double_by None (Some size.Short) = None
double_by (Some sign) _ = None

-- a word that stands alone
abbrev pub alone : Base → Option SignWord → Option SizeWord → Option Base
alone of None None = Some of
alone of (Some sign) _ = None
alone of None (Some size) = None

-- without a word of a type, one of the others means `int`
abbrev pub implied : Option SignWord → Option SizeWord → Option Base
implied None None = None
implied (Some sign) size = Some (int_by (Some sign) size)
implied None (Some size) = Some (int_by None (Some size))

-- Table 7: the type that the words name, in any order, where they name one
abbrev pub base_of_words : TypeWords → Option Base
base_of_words words = by words.core
  where
    by : Option CoreWord → Option Base
    by None = implied words.sign words.size
    by (Some core.Int) = Some (int_by words.sign words.size)
    by (Some core.Char) = char_by words.sign words.size
    by (Some core.Double) = double_by words.sign words.size
    by (Some core.Bool) = alone base.Bool words.sign words.size
    by (Some core.WideChar) = alone base.WideChar words.sign words.size
    by (Some core.Float) = alone base.Float words.sign words.size
    by (Some core.Void) = alone base.Void words.sign words.size

-- a word besides those that were read; each stands once
abbrev pub add_core : CoreWord → TypeWords → Option TypeWords
add_core word words = by words.core
  where
    by : Option CoreWord → Option TypeWords
    by None = Some (record words { core = Some word })
    by (Some other) = None

abbrev pub add_sign : SignWord → TypeWords → Option TypeWords
add_sign word words = by words.sign
  where
    by : Option SignWord → Option TypeWords
    by None = Some (record words { sign = Some word })
    by (Some other) = None

abbrev pub add_size : SizeWord → TypeWords → Option TypeWords
add_size word words = by words.size
  where
    by : Option SizeWord → Option TypeWords
    by None = Some (record words { size = Some word })
    by (Some other) = None

-- what a keyword is among the words of a type
pub data TypeWord : Type 0 where
  of_core : CoreWord → TypeWord
  of_sign : SignWord → TypeWord
  of_size : SizeWord → TypeWord

abbrev pub type_word : ℕ → Option TypeWord
type_word n =
    if n == keyword.BOOL then Some (of_core core.Bool) else (
    if n == keyword.CHAR then Some (of_core core.Char) else (
    if n == keyword.INT then Some (of_core core.Int) else (
    if n == keyword.WCHAR_T then Some (of_core core.WideChar) else (
    if n == keyword.FLOAT then Some (of_core core.Float) else (
    if n == keyword.DOUBLE then Some (of_core core.Double) else (
    if n == keyword.VOID then Some (of_core core.Void) else (
    if n == keyword.SIGNED then Some (of_sign sign.Signed) else (
    if n == keyword.UNSIGNED then Some (of_sign sign.Unsigned) else (
    if n == keyword.SHORT then Some (of_size size.Short) else (
    if n == keyword.LONG then Some (of_size size.Long) else
    None))))))))))

abbrev pub is_row : Option TypeWords → Option Base → Option TypeWords
is_row words None = None
is_row words (Some of) = words

-- the words with one more, where some row of Table 7 has them all: each part of a row is a row
abbrev pub fitting : Option TypeWords → Option TypeWords
fitting None = None
fitting (Some words) = is_row (Some words) (base_of_words words)

abbrev pub with_word : TypeWord → TypeWords → Option TypeWords
with_word (of_core word) words = fitting (add_core word words)
with_word (of_sign word) words = fitting (add_sign word words)
with_word (of_size word) words = fitting (add_size word words)

-- ---- specifiers (7.1)

pub record Specifiers : Type 0 where
  pub storage : Option StorageWord
  -- 7.1.2
  pub is_inline : Bool
  -- 7.1.5.1
  pub cv : Cv
  pub words : TypeWords
  -- a type that a name or an enumeration gives
  pub named : Option CxxType
  -- clause 7: whether a declaration of them alone stands: an enumeration is defined among them, or a class is named
  pub stands_alone : Bool
  pub parts : List CxxTree

abbrev pub no_specifiers : Specifiers
no_specifiers = record { storage = None; is_inline = false; cv = no_cv; words = no_words; named = None; stands_alone = false; parts = [] }

abbrev pub of_base : Option Base → Option CxxType
of_base None = None
of_base (Some of) = Some (fundamental of)

-- the type without its cv words
abbrev pub bare_type : Specifiers → Option CxxType
bare_type specifiers = by specifiers.named
  where
    by : Option CxxType → Option CxxType
    by (Some of) = Some of
    by None = of_base (base_of_words specifiers.words)

-- 7.1.5: the type that the specifiers name; cv words that a name brings again are ignored
abbrev pub type_of_specifiers : Specifiers → Option CxxType
type_of_specifiers specifiers = by (bare_type specifiers)
  where
    by : Option CxxType → Option CxxType
    by None = None
    by (Some of) = Some (with_cv specifiers.cv of)

abbrev pub is_some_type : Option CxxType → Bool
is_some_type None = false
is_some_type (Some of) = true

-- whether a type stands among the specifiers
abbrev pub has_type : Specifiers → Bool
has_type specifiers = is_some_type (bare_type specifiers)

-- ---- declarators (8.3)

-- What a part of a declarator makes of a type.
pub data Layer : Type 0 where
  -- 8.3.1, with the words behind the `*`
  pointer_layer : Cv → Layer
  -- 8.3.2
  reference_layer : Layer
  -- 8.3.4
  array_layer : CxxBound → Layer
  -- 8.3.5: the parameters, whether an ellipsis follows them, and their scope
  function_layer : CxxTypes → Bool → ℕ → Layer

-- 8.3.1 to 8.3.5; the words behind the parameters of what is no member of a class say nothing
abbrev pub layer_on : Layer → CxxType → CxxType
layer_on (pointer_layer cv) of = with_cv cv (pointer_to of)
layer_on reference_layer of = reference_to of
layer_on (array_layer bound) of = array_of of bound
layer_on (function_layer parameters ellipsis scope) of = function_of of parameters ellipsis no_cv

-- 8.3: The type that a declarator declares, of that of the specifiers. Its layers are in the order in which it is read
-- from the name outward: `*a[3]` is an array, of three, of pointers.
unfoldable pub declared_type : List Layer → CxxType → CxxType
declared_type [] of = of
declared_type (layer ∷ layers) of = layer_on layer (declared_type layers of)

-- 8.3.5, 9.3.1: the same of a member of a class; a function has the words behind its parameters
abbrev pub member_layer_on : Cv → Layer → CxxType → CxxType
member_layer_on words (function_layer parameters ellipsis scope) of = function_of of parameters ellipsis words
member_layer_on words layer of = layer_on layer of

abbrev pub member_type : Cv → List Layer → CxxType → CxxType
member_type words [] of = of
member_type words (layer ∷ layers) of = member_layer_on words layer (declared_type layers of)

abbrev pub is_void : CxxType → Bool
is_void (fundamental base.Void) = true
is_void (qualified cv (fundamental base.Void)) = true
is_void _ = false

abbrev pub is_reference : CxxType → Bool
is_reference (reference_to of) = true
is_reference _ = false

abbrev pub is_function_type : CxxType → Bool
is_function_type (function_of result parameters ellipsis cv) = true
is_function_type _ = false

abbrev pub is_below_one : CxxBound → Bool
is_below_one (number_bound n) = n == 0
is_below_one _ = false

-- 8.3.1, 8.3.2, 8.3.4: why no such type is made of a type
abbrev pub refused_on : Layer → CxxType → Option SubstitutionText
refused_on (pointer_layer cv) of = if is_reference of then Some text.PointerToReference else None
refused_on reference_layer of = if is_reference of then Some text.ReferenceToReference else (if is_void of then Some text.ReferenceToVoid else None)
refused_on (array_layer bound) of =
    if is_void of || (is_reference of || is_function_type of) then Some text.ForbiddenElement else (
    if is_below_one bound then Some text.SizeBelowOne else
    None)
refused_on (function_layer parameters ellipsis scope) of = None

abbrev pub or_later : Option SubstitutionText → Option SubstitutionText → Option SubstitutionText
or_later (Some why) later = Some why
or_later None later = later

-- The first layer that is refused, from the type of the specifiers inward.
unfoldable pub refused_in : List Layer → CxxType → Option SubstitutionText
refused_in [] of = None
refused_in (layer ∷ layers) of = or_later (refused_in layers of) (refused_on layer (declared_type layers of))

-- Why a whole type is made of what it may not be made of: the first such part, from the type of the specifiers inward.
abbrev mutual
  pub forbidden : CxxType → Option SubstitutionText
  forbidden (fundamental base) = None
  forbidden (class_type n) = None
  forbidden (enumeration n) = None
  forbidden (pointer_to of) = or_later (forbidden of) (if is_reference of then Some text.PointerToReference else None)
  forbidden (reference_to of) = or_later (forbidden of) (if is_reference of then Some text.ReferenceToReference else (if is_void of then Some text.ReferenceToVoid else None))
  forbidden (array_of of bound) = or_later (forbidden of) (refused_on (array_layer bound) of)
  forbidden (function_of result parameters ellipsis cv) = or_later (forbidden result) (forbidden_parameters parameters)
  forbidden (qualified cv of) = forbidden of
  forbidden (type_parameter depth index) = None
  forbidden (specialisation n _) = None
  forbidden (nested_in of word) = None

  -- 8.3.5: no parameter is void
  pub forbidden_parameters : CxxTypes → Option SubstitutionText
  forbidden_parameters no_types = None
  forbidden_parameters (type_then of others) = or_later (forbidden of) (or_later (if is_void of then Some text.VoidParameter else None) (forbidden_parameters others))

-- the parameters that a layer brings are not forbidden
abbrev pub HasParts : Layer → Type 0
HasParts (function_layer parameters ellipsis scope) = forbidden_parameters parameters ≡ None
HasParts _ = Unit {0}

abbrev pub HaveParts : List Layer → Type 0
HaveParts [] = Unit {0}
HaveParts (layer ∷ layers) = HasParts layer × HaveParts layers

abbrev pub is_refused : Option SubstitutionText → Bool
is_refused None = false
is_refused (Some why) = true

pub record Declarator : Type 0 where
  pub name : Option Lexeme
  -- 8.3: whether the name has qualifiers
  pub is_qualified : Bool
  -- from the name outward
  pub layers : List Layer
  -- 8.3.5: the words behind the parameters of the function that it declares, which only those of a class heed
  pub cv : Cv
  pub parts : List CxxTree

abbrev pub no_declarator_yet : Declarator
no_declarator_yet = record { name = None; is_qualified = false; layers = []; cv = no_cv; parts = [] }

-- a part of a declarator that stands outside of what was read of it
abbrev pub outward : Layer → List CxxTree → Declarator → Declarator
outward layer parts declarator = record declarator { layers = declarator.layers ++ layer ∷ []; parts = declarator.parts ++ parts }

-- those words, where a list of parameters with words behind it stands outside of these layers
abbrev pub own_cv : List Layer → Cv → Cv → Cv
own_cv [] words before = words
own_cv (layer ∷ layers) words before = before

abbrev pub is_named : Declarator → Bool
is_named declarator = by declarator.name
  where
    by : Option Lexeme → Bool
    by None = false
    by (Some name) = true

abbrev pub scope_in : Layer → Option ℕ
scope_in (function_layer parameters ellipsis scope) = Some scope
scope_in _ = None

-- 8.3.5: the scope of the parameters, where the declarator itself declares a function
abbrev pub own_parameters : List Layer → Option ℕ
own_parameters [] = None
own_parameters (layer ∷ layers) = scope_in layer

-- 8.3.5: a parameter has the type of its declarator, but for an array and a function; that of its function adjusts it
abbrev pub parameter_type : List Layer → CxxType → CxxType
parameter_type layers of = decayed (declared_type layers of)

pub record ParameterTypes : Type 0 where
  pub types : List CxxType
  pub ellipsis : Bool
  pub scope : ℕ
  pub parts : List CxxTree

abbrev pub adjusted_types : List CxxType → CxxTypes
adjusted_types [] = no_types
adjusted_types (of ∷ others) = type_then (adjusted of) (adjusted_types others)
