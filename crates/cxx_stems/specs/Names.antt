-- The stem of a declared name: what its printed name has before the number.
use Rattle.std.specs.Prelude.{ℕ, List, [], map, Option, Some, None, codes}
use Rattle.std.specs.List.{slice_get}
use Rattle.cxx_model.specs.Facts.Declarations.{CxxName, unnamed, spelled, operator_function, conversion_to, destructor}
use Rattle.cxx_model.specs.Printing.Names.{stem}
use Rattle.cxx_stems.specs.declared.operators.TheConstants as operators

abbrev pub text_or_none : Option (List ℕ) → List ℕ
text_or_none None = []
text_or_none (Some text) = text

-- 13.5: a name for the operator with a number; nothing for what no operator function has
unfoldable pub operator_word : ℕ → List ℕ
operator_word operator = text_or_none (slice_get (map (λ entry. entry.now) operators.WORDS) operator)

-- A word for a name that is none itself (12.1, 12.3.2, 13.5). A destructor is printed by the name of its class (12.4) and
-- has no word of its own.
abbrev pub word_of_name : CxxName → List ℕ
word_of_name unnamed = codes "unnamed"
word_of_name (spelled word) = word
word_of_name (operator_function operator) = operator_word operator
word_of_name (conversion_to t) = codes "conv"
word_of_name destructor = []

unfoldable pub stem_of_name : CxxName → List ℕ
stem_of_name name = stem (word_of_name name)
