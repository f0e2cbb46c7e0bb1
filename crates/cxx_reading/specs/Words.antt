-- The words of the plain form, and how they stand in a line: a word's role alone says where a space stands beside it.
use Rattle.std.specs.Prelude.{ℕ, suc, ℤ, pos, negsuc, Bool, true, false, not, ◌&&◌, ◌||◌, ◌==◌, if◌then◌else◌, nat_lt, List, [], ◌∷◌, ◌++◌, codes, decimal}
use Rattle.cxx_model.specs.declared.base.Base.{Base}
use Rattle.cxx_model.specs.declared.base.Base.TheVariants as base
use Rattle.cxx_model.specs.declared.types.Cv.{Cv}
use Rattle.cxx_model.specs.Types.Trees.{CxxType, fundamental, class_type, enumeration, pointer_to, reference_to, array_of, function_of, qualified, type_parameter, specialisation, nested_in, CxxTypes, no_types, type_then, CxxBound, number_bound, merged}
use Rattle.cxx_reading.specs.declared.role.Role.{Role}
use Rattle.cxx_reading.specs.declared.role.Role.TheVariants as role
use Rattle.cxx_reading.specs.Declarators.{no_cv}

-- ---- roles

pub record Word : Type 0 where
  pub role : Role
  pub spelling : List ℕ

abbrev pub none_behind : Role → Bool
none_behind role.Opens = true
none_behind role.Leads = true
none_behind role.Joins = true
none_behind _ = false

abbrev pub none_before : Role → Bool
none_before role.Closes = true
none_before role.Follows = true
none_before role.Joins = true
none_before _ = false

abbrev pub takes_bracket : Role → Bool
takes_bracket role.Named = true
takes_bracket role.Closes = true
takes_bracket _ = false

abbrev pub is_opening : Role → Bool
is_opening role.Opens = true
is_opening _ = false

-- whether a space stands between two words
abbrev pub has_gap : Role → Role → Bool
has_gap one two = not (none_behind one || (none_before two || (takes_bracket one && is_opening two)))

-- the text of words behind a word with a role
abbrev pub text_behind : Role → List Word → List ℕ
text_behind last [] = []
text_behind last (word ∷ others) = (if has_gap last word.role then codes " " else []) ++ (word.spelling ++ text_behind word.role others)

-- the text of a line, with the newline that ends it; no space stands before its first word
abbrev pub line_text : List Word → List ℕ
line_text words = text_behind role.Leads words ++ codes "\n"

abbrev pub keyword_word : List ℕ → Word
keyword_word spelling = record { role = role.Alone; spelling = spelling }

abbrev pub name_word : List ℕ → Word
name_word spelling = record { role = role.Named; spelling = spelling }

abbrev pub type_name_word : List ℕ → Word
type_name_word spelling = record { role = role.Alone; spelling = spelling }

abbrev pub open_word : Word
open_word = record { role = role.Opens; spelling = codes "(" }

abbrev pub close_word : Word
close_word = record { role = role.Closes; spelling = codes ")" }

abbrev pub open_bracket_word : Word
open_bracket_word = record { role = role.Opens; spelling = codes "[" }

abbrev pub close_bracket_word : Word
close_bracket_word = record { role = role.Closes; spelling = codes "]" }

abbrev pub comma_word : Word
comma_word = record { role = role.Follows; spelling = codes "," }

abbrev pub semicolon_word : Word
semicolon_word = record { role = role.Follows; spelling = codes ";" }

abbrev pub less_word : Word
less_word = record { role = role.Joins; spelling = codes "<" }

abbrev pub greater_word : Word
greater_word = record { role = role.Closes; spelling = codes ">" }

abbrev pub star_word : Word
star_word = record { role = role.Leads; spelling = codes "*" }

abbrev pub ampersand_word : Word
ampersand_word = record { role = role.Leads; spelling = codes "&" }

abbrev pub minus_word : Word
minus_word = record { role = role.Leads; spelling = codes "-" }

abbrev pub others_separated : List (List Word) → List Word
others_separated [] = []
others_separated (one ∷ others) = comma_word ∷ one ++ others_separated others

-- elements with a comma before each but the first
abbrev pub separated : List (List Word) → List Word
separated [] = []
separated (one ∷ others) = one ++ others_separated others

-- ---- values (2.13.1)

-- with the suffix of the first type that holds it
abbrev pub value_suffix : ℕ → List ℕ
value_suffix n = if nat_lt n 2147483648 then [] else (if nat_lt n 9223372036854775808 then codes "L" else codes "UL")

abbrev pub literal_word : ℕ → Word
literal_word n = record { role = role.Alone; spelling = decimal n ++ value_suffix n }

-- a value of an integer: a negative one is the negation of a literal, and the least has none
abbrev pub value_words : ℤ → List Word
value_words (pos n) = literal_word n ∷ []
value_words (negsuc n) =
    if n == 9223372036854775807 then minus_word ∷ literal_word n ∷ keyword_word (codes "-") ∷ literal_word 1 ∷ [] else
    minus_word ∷ literal_word (suc n) ∷ []

-- ---- types (7.1.5.2, 8.1, 8.3)

-- what classes and enumerations are named, by their numbers
pub record Tags : Type 0 where
  pub class_name : ℕ → List ℕ
  pub enumeration_name : ℕ → List ℕ

abbrev pub one_word : List ℕ → List Word
one_word spelling = keyword_word spelling ∷ []

abbrev pub two_words : List ℕ → List ℕ → List Word
two_words one two = keyword_word one ∷ keyword_word two ∷ []

-- Table 7, without `int` beside another word
abbrev pub base_words : Base → List Word
base_words base.Void = one_word (codes "void")
base_words base.Bool = one_word (codes "bool")
base_words base.Char = one_word (codes "char")
base_words base.SignedChar = two_words (codes "signed") (codes "char")
base_words base.UnsignedChar = two_words (codes "unsigned") (codes "char")
base_words base.Short = one_word (codes "short")
base_words base.UnsignedShort = two_words (codes "unsigned") (codes "short")
base_words base.Int = one_word (codes "int")
base_words base.Unsigned = one_word (codes "unsigned")
base_words base.Long = one_word (codes "long")
base_words base.UnsignedLong = two_words (codes "unsigned") (codes "long")
base_words base.WideChar = one_word (codes "wchar_t")
base_words base.Float = one_word (codes "float")
base_words base.Double = one_word (codes "double")
base_words base.LongDouble = two_words (codes "long") (codes "double")

abbrev pub cv_words : Cv → List Word
cv_words cv = (if cv.is_const then one_word (codes "const") else []) ++ (if cv.is_volatile then one_word (codes "volatile") else [])

abbrev pub bound_words : CxxBound → List Word
bound_words (number_bound n) = literal_word n ∷ []
bound_words _ = []

-- 8.3: behind a pointer or reference to such a type brackets stand round the declarator
abbrev pub is_bracketed : CxxType → Bool
is_bracketed (array_of of bound) = true
is_bracketed (function_of result parameters ellipsis cv) = true
is_bracketed _ = false

abbrev pub within : Bool → List Word → List Word
within true inner = open_word ∷ inner ++ close_word ∷ []
within false inner = inner

-- A declaration of what `inner` names, with a type and cv words besides; without a name a type as it is written alone.
-- What depends on parameters of templates never stands in a plain form.
abbrev mutual
  pub declared : Tags → Cv → CxxType → List Word → List Word
  declared tags cv (fundamental of) inner = cv_words cv ++ (base_words of ++ inner)
  declared tags cv (class_type n) inner = cv_words cv ++ type_name_word (tags.class_name n) ∷ inner
  declared tags cv (enumeration n) inner = cv_words cv ++ type_name_word (tags.enumeration_name n) ∷ inner
  declared tags cv (pointer_to of) inner = declared tags no_cv of (within (is_bracketed of) (star_word ∷ cv_words cv ++ inner))
  declared tags cv (reference_to of) inner = declared tags no_cv of (within (is_bracketed of) (ampersand_word ∷ inner))
  declared tags cv (array_of of bound) inner = declared tags cv of (inner ++ open_bracket_word ∷ bound_words bound ++ close_bracket_word ∷ [])
  declared tags cv (function_of result parameters ellipsis own) inner = declared tags no_cv result (inner ++ open_word ∷ separated (declared_each tags parameters ++ (if ellipsis then one_word (codes "...") ∷ [] else [])) ++ close_word ∷ cv_words own)
  declared tags cv (qualified own of) inner = declared tags (merged cv own) of inner
  declared tags cv (type_parameter depth index) inner = inner
  declared tags cv (specialisation n _) inner = inner
  declared tags cv (nested_in of word) inner = inner

  pub declared_each : Tags → CxxTypes → List (List Word)
  declared_each tags no_types = []
  declared_each tags (type_then of others) = declared tags no_cv of [] ∷ declared_each tags others
