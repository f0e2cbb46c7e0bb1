-- What is printed so that each of its words is a token: types and expressions of the language without classes, whose
-- names are names and whose values the language has.
use Rattle.std.specs.Prelude.{◌≡◌, ◌⊎◌, ◌<◌, ◌^◌, ℕ, suc, ℤ, pos, negsuc, Bool, true, false, not, ◌&&◌, nat_eq, nat_lt, List, map, length}
use Rattle.std.specs.List.{AllByRecursion}
use Rattle.cxx_model.specs.declared.token.TokenKind.TheVariants.{Integer, Character}
use Rattle.cxx_model.specs.Facts.Declarations as facts
use Rattle.cxx_model.specs.Facts.Declarations.{CxxFact, Declares}
use Rattle.cxx_model.specs.Types.Trees.{CxxType, fundamental, class_type, enumeration, pointer_to, reference_to, array_of, function_of, qualified, type_parameter, specialisation, nested_in, CxxTypes, no_types, type_then, CxxBound, number_bound}
use Rattle.cxx_reading.specs.Plain.{line_words, names_of_text, type_or_void}
use Rattle.cxx_reading.specs.Productions as production
use Rattle.cxx_reading.specs.TextOrder.{Line, enumeration_line, function_line, object_line, lines, name_stem, text_order}
use Rattle.cxx_reading.specs.Trees.{CxxTree, CxxTrees, no_trees, tree_then, Label}
use Rattle.cxx_reading.specs.Units.{CxxReading}
use Rattle.cxx_reading.specs.Words.{Word}
use Rattle.cxx_model.specs.Text.Spelling.{Good, spelling_of}
use Rattle.std.specs.Prelude.{Some}
use Rattle.cxx_written.specs.Line.{IsName}

-- ---- types

-- a bound that a literal has (2.13.1)
abbrev pub is_small : CxxBound → Bool
is_small (number_bound n) = nat_lt n 18446744073709551616
is_small _ = true

abbrev pub is_reference : CxxType → Bool
is_reference (reference_to of) = true
is_reference _ = false

-- 8.3.2, 8.3.4, 8.3.5: a type in whose declarator a reference, an array or a function stands first
abbrev pub begins_derived : CxxType → Bool
begins_derived (reference_to of) = true
begins_derived (array_of of bound) = true
begins_derived (function_of result parameters ellipsis cv) = true
begins_derived _ = false

-- There is no reference to a reference, and no cv word on a reference, an array or a function (8.3.2, 8.3.5, 3.9.3).
abbrev mutual
  pub is_printable : CxxType → Bool
  is_printable (fundamental of) = true
  is_printable (class_type n) = false
  is_printable (enumeration n) = true
  is_printable (pointer_to of) = is_printable of
  is_printable (reference_to of) = not (is_reference of) && is_printable of
  is_printable (array_of of bound) = is_small bound && is_printable of
  is_printable (function_of result parameters ellipsis cv) = is_printable result && are_printable parameters
  is_printable (qualified cv of) = not (begins_derived of) && is_printable of
  is_printable (type_parameter depth index) = false
  is_printable (specialisation n _) = false
  is_printable (nested_in of word) = false

  pub are_printable : CxxTypes → Bool
  are_printable no_types = true
  are_printable (type_then of others) = is_printable of && are_printable others

-- ---- expressions

-- the spelling is that of a number or a character (2.13.1, 2.13.2)
abbrev pub IsNumber : List ℕ → Type 0
IsNumber text = (spelling_of false text ≡ Some (Good Integer)) ⊎ (spelling_of false text ≡ Some (Good Character))

abbrev pub IsPrintableLabel : Bool → Bool → Label → Type 0
IsPrintableLabel true is_cast label = Unit {0}
IsPrintableLabel false true label = is_printable (type_or_void label.of) ≡ true
IsPrintableLabel false false label = IsNumber label.spelling

-- calls, casts to printable types, and literals
abbrev pub ArePrintableTrees : CxxTrees → Type 0
ArePrintableTrees no_trees = Unit {0}
ArePrintableTrees (tree_then label children next) = IsPrintableLabel (nat_eq label.production production.call) (nat_eq label.production production.cast) label × ArePrintableTrees children × ArePrintableTrees next

-- the initializers among the parts of a declarator
abbrev pub IsPrintableInitializer : Bool → CxxTrees → Type 0
IsPrintableInitializer true children = ArePrintableTrees children
IsPrintableInitializer false children = Unit {0}

abbrev pub HasPrintableInitializers : CxxTrees → Type 0
HasPrintableInitializers no_trees = Unit {0}
HasPrintableInitializers (tree_then label children next) = IsPrintableInitializer (nat_eq label.production production.initializer) children × HasPrintableInitializers next

-- ---- facts and lines

-- a value that a literal or its negation has
abbrev pub IsSmallValue : ℤ → Type 0
IsSmallValue (pos n) = n < 2 ^ 64
IsSmallValue (negsuc n) = suc n < 2 ^ 64

abbrev pub SaysPrintable : Declares → Type 0
SaysPrintable (facts.function of member flags defaults first) = is_printable of ≡ true
SaysPrintable (facts.enumerator n value) = IsSmallValue value
SaysPrintable _ = Unit {0}

-- its name is made of a name, and what it says can be printed
pub record IsPrintableFact (fact : CxxFact) : Type 0 where
  pub named : IsName (name_stem fact.name)
  pub says : SaysPrintable fact.what

pub record IsPrintableObject (tree : CxxTree) : Type 0 where
  pub typed : is_printable (type_or_void tree.label.of) ≡ true
  pub parts : HasPrintableInitializers tree.children

abbrev pub IsPrintableLine : Line → Type 0
IsPrintableLine (enumeration_line n number) = Unit {0}
IsPrintableLine (function_line number) = Unit {0}
IsPrintableLine (object_line tree number) = IsPrintableObject tree

-- ---- readings

pub record IsPrintable (reading : CxxReading) : Type 0 where
  -- the printed numbers are numbers of the machine
  pub few : suc (length (text_order reading.state)) < 2 ^ 64
  pub facts : AllByRecursion IsPrintableFact reading.state.graph.facts
  pub lines : AllByRecursion IsPrintableLine (lines reading.state)

-- the lines of the plain form, word by word
abbrev pub plain_lines : CxxReading → List (List Word)
plain_lines reading = map (line_words (names_of_text reading.state) reading.state.graph.facts) (lines reading.state)
