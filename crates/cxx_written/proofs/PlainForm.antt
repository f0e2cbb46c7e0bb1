-- The words of the plain form are tokens.
use Rattle.std.proofs.Common.{◌≡◌, ◌<◌, ◌≤◌, ◌^◌, ℕ, zero, suc, Bool, true, false, ⊎_elim, List, [], ◌∷◌, ◌++◌, length, map, Some, refl, sym, ap, subst, arith, append_assoc}
use Rattle.std.specs.List.{AllByRecursion, slice_get}
use Rattle.std.specs.Prelude.{ℤ, pos, negsuc, codes, flat_map, nat_eq, if◌then◌else◌, ◌==◌}
use Rattle.cxx_model.specs.Facts.Declarations as facts
use Rattle.cxx_model.specs.Facts.Declarations.{CxxFact, Declares}
use Rattle.cxx_model.specs.Printing.Names.{printed_name, stem}
use Rattle.cxx_model.specs.Text.Spelling.{spelling_of, word_kind, keywords, operators, operator, alternatives, digraphs}
use Rattle.cxx_model.specs.Text.Tokens.{tokens_of}
use Rattle.cxx_model.specs.Types.Trees.{CxxType}
use Rattle.cxx_reading.specs.Declarators.{no_cv}
use Rattle.cxx_reading.specs.Plain.{NamesOfText, names_of_text, number_of_enumeration, type_or_void, target_or, first_words, cast_words, call_words, expression_by, expressions, value_in, values_from, enumerator_words, enumeration_words, type_of_function, function_words, initializers_in, initializer_words, is_empty, object_words, line_words, plain_text}
use Rattle.cxx_reading.specs.Productions as production
use Rattle.cxx_reading.specs.TextOrder.{Line, enumeration_line, function_line, object_line, lines, text_order, number_in, name_stem, stem_of_fact, text_name}
use Rattle.cxx_reading.specs.Trees.{CxxTree, CxxTrees, no_trees, tree_then, Label}
use Rattle.cxx_reading.specs.Units.{CxxReading}
use Rattle.cxx_reading.specs.Words.{Word, Tags, keyword_word, name_word, open_word, close_word, less_word, greater_word, minus_word, semicolon_word, separated, literal_word, value_words, declared, line_text}
use Rattle.cxx_written.specs.Line.{IsName, IsSpelled, IsWord, IsLine, MayPrecede}
use Rattle.cxx_written.specs.Ends.{word_ends_before}
use Rattle.cxx_written.specs.Printable.{is_printable, IsNumber, IsPrintableLabel, ArePrintableTrees, IsPrintableInitializer, HasPrintableInitializers, IsSmallValue, SaysPrintable, IsPrintableFact, IsPrintableObject, IsPrintableLine, IsPrintable, plain_lines}
use Rattle.cxx_written.specs.ReadsAs.{ReadsAs, text_of}
use Rattle.cxx_written.proofs.Ends.{plain_is_word, may_stand_before}
use Rattle.cxx_written.proofs.Names.{printed_is_name}
use Rattle.cxx_written.proofs.Numbers.{literal_first}
use Rattle.cxx_written.proofs.Printed.{IsGood, good_tail, good_cons, good_by, good_open, good_close, good_semicolon, good_brace, good_close_brace, good_name, good_integer, good_character, good_literal, equals_tail, is_ended, ends_at_closers}
use Rattle.cxx_written.proofs.ReadLines.{words_are_tokens}
use Rattle.cxx_written.proofs.Tails.{IsNext, IsTail, IsFree, tail_by, no_words, star_before, ampersand_before, less_before, less_is_word, touch_first}
use Rattle.cxx_written.proofs.Types.{IsInner, tail_behind, free_behind, no_inner, AreTags, IsElement, separated_tail, declared_free}

-- ---- words of their own

good_enum : IsGood (keyword_word (codes "enum"))
unfolding spelling_of word_kind keywords is_ended ends_at_closers
good_enum = good_by (keyword_word (codes "enum")) 101 (codes "num") refl refl refl refl refl refl refl

good_extern : IsGood (keyword_word (codes "extern"))
unfolding spelling_of word_kind keywords is_ended ends_at_closers
good_extern = good_by (keyword_word (codes "extern")) 101 (codes "xtern") refl refl refl refl refl refl refl

good_static_cast : IsGood (keyword_word (codes "static_cast"))
unfolding spelling_of word_kind keywords is_ended ends_at_closers
good_static_cast = good_by (keyword_word (codes "static_cast")) 115 (codes "tatic_cast") refl refl refl refl refl refl refl

-- `>` may stand before `(`
greater_spelled : IsSpelled greater_word
unfolding spelling_of word_kind keywords operators operator alternatives digraphs
greater_spelled = record { spelled = refl }

greater_is_word : IsWord greater_word
unfolding spelling_of word_kind keywords operators operator alternatives digraphs
greater_is_word = plain_is_word greater_word greater_spelled refl

greater_before_open : (rest : List Word) → MayPrecede greater_word (open_word ∷ rest)
unfolding spelling_of word_kind keywords operators operator alternatives digraphs
greater_before_open rest = λ gap. may_stand_before greater_word greater_spelled 40 refl

greater_free : (rest : List Word) → IsTail rest → IsFree (greater_word ∷ open_word ∷ rest)
greater_free rest tail = record {
  tail = tail_by greater_word (open_word ∷ rest) greater_is_word (record { first = 62; others = []; is = refl; closes = λ h. refl; opens = λ h. absurd (cc) }) (greater_before_open rest) (good_tail open_word rest good_open tail).line;
  star = star_before greater_word (open_word ∷ rest) 62 [] refl refl;
  ampersand = ampersand_before greater_word (open_word ∷ rest) 62 [] refl refl refl;
  less = less_before greater_word (open_word ∷ rest) 62 [] refl refl refl refl refl;
}

less_tail : (rest : List Word) → IsFree rest → IsTail (less_word ∷ rest)
less_tail rest free = tail_by less_word rest less_is_word (record { first = 60; others = []; is = refl; closes = λ h. refl; opens = λ h. absurd (cc) }) free.less free.tail.line

-- `-` may stand before a number
minus_spelled : IsSpelled minus_word
unfolding spelling_of word_kind keywords operators operator alternatives digraphs
minus_spelled = record { spelled = refl }

minus_is_word : IsWord minus_word
unfolding spelling_of word_kind keywords operators operator alternatives digraphs
minus_is_word = plain_is_word minus_word minus_spelled refl

minus_ends : (b : ℕ) → (b == 45) ≡ false → (b == 61) ≡ false → (b == 62) ≡ false → word_ends_before minus_word b ≡ true
unfolding spelling_of word_kind keywords operators operator alternatives digraphs
minus_ends b h k l = rw (h, k, l) refl

minus_next : IsNext minus_word
minus_next = record { first = 45; others = []; is = refl; closes = λ h. absurd (cc); opens = λ h. absurd (cc) }

minus_tail : (n : ℕ) (rest : List Word) → n < 2 ^ 64 → IsTail rest → IsTail (minus_word ∷ literal_word n ∷ rest)
minus_tail n rest h tail =
    let begins = literal_first n h in
    tail_by minus_word (literal_word n ∷ rest) minus_is_word minus_next
    (λ gap. touch_first minus_word (literal_word n).spelling begins.first begins.others begins.is (may_stand_before minus_word minus_spelled begins.first (minus_ends begins.first begins.no_minus begins.no_equals begins.no_greater)))
    (good_tail (literal_word n) rest (good_literal n h) tail).line

-- a `-` between two numbers
binary_minus_is_word : IsWord (keyword_word (codes "-"))
unfolding spelling_of word_kind keywords operators operator alternatives digraphs
binary_minus_is_word = plain_is_word (keyword_word (codes "-")) (record { spelled = refl }) refl

binary_minus_tail : (n : ℕ) (rest : List Word) → n < 2 ^ 64 → IsTail rest → IsTail (keyword_word (codes "-") ∷ literal_word n ∷ rest)
binary_minus_tail n rest h tail =
    tail_by (keyword_word (codes "-")) (literal_word n ∷ rest) binary_minus_is_word (record { first = 45; others = []; is = refl; closes = λ h. absurd (cc); opens = λ h. absurd (cc) })
    (λ gap. absurd (cc)) (good_tail (literal_word n) rest (good_literal n h) tail).line

value_tail : (value : ℤ) (rest : List Word) → IsSmallValue value → IsTail rest → IsTail (value_words value ++ rest)
value_tail (pos n) rest small tail = good_tail (literal_word n) rest (good_literal n small) tail
value_tail (negsuc n) rest small tail = by (n == 9223372036854775807)
  where
    by : (least : Bool) → IsTail ((if least then minus_word ∷ literal_word n ∷ keyword_word (codes "-") ∷ literal_word 1 ∷ [] else minus_word ∷ literal_word (suc n) ∷ []) ++ rest)
    by true = minus_tail n (keyword_word (codes "-") ∷ literal_word 1 ∷ rest) (omega (arith, small)) (binary_minus_tail 1 rest (omega arith) tail)
    by false = minus_tail (suc n) rest small tail

-- ---- names

pub record AreNames (names : NamesOfText) : Type 0 where
  pub named : (number : ℕ) → IsName (names.name_of number)
  pub tags : AreTags names.tags

name_inner : (text : List ℕ) → IsName text → IsInner IsTail (name_word text ∷ [])
name_inner text is = record {
  tail = λ rest tail. good_tail (name_word text) rest (good_name text is) tail;
  star = λ rest tail. (good_cons (name_word text) rest (good_name text is) tail).star;
}

-- a declaration of a name
declared_name : (tags : Tags) (of : CxxType) (text : List ℕ) → AreTags tags → IsName text → is_printable of ≡ true → (rest : List Word) → IsTail rest → IsFree (declared tags no_cv of (name_word text ∷ []) ++ rest)
declared_name tags of text names is h rest tail = declared_free tags of IsTail no_cv (name_word text ∷ []) names tail_behind (name_inner text is) (λ e rest tail. (good_cons (name_word text) rest (good_name text is) tail).ampersand) h rest tail

-- ---- expressions

-- words that may be printed before each tail
abbrev IsOperand : List Word → Type 0
IsOperand words = (rest : List Word) → IsTail rest → IsTail (words ++ rest)

elements_of : (all : List (List Word)) → AllByRecursion IsOperand all → AllByRecursion IsElement all
elements_of [] each = tt
elements_of (words ∷ others) each = ((λ rest free. each.0 rest free.tail), elements_of others each.1)

call_operand : (names : NamesOfText) → AreNames names → (number : ℕ) (arguments : List (List Word)) → AllByRecursion IsOperand arguments → IsOperand (call_words names number arguments)
call_operand names are number arguments each rest tail =
    subst (λ l. IsTail (name_word (names.name_of number) ∷ l)) (sym (append_assoc (open_word ∷ separated arguments) (close_word ∷ []) rest))
    (good_tail (name_word (names.name_of number)) _ (good_name (names.name_of number) (are.named number))
    (good_tail open_word _ good_open (separated_tail arguments (elements_of arguments each) (close_word ∷ rest) (good_cons close_word rest good_close tail))))

first_operand : (all : List (List Word)) → AllByRecursion IsOperand all → IsOperand (first_words all)
first_operand [] each rest tail = tail
first_operand (one ∷ others) each rest tail = each.0 rest tail

cast_operand : (names : NamesOfText) → AreNames names → (of : CxxType) (inner : List Word) → is_printable of ≡ true → IsOperand inner → IsOperand (cast_words names of inner)
cast_operand names are of inner h each rest tail =
    let behind : List Word = greater_word ∷ open_word ∷ (inner ++ (close_word ∷ rest)) in
    let free : IsFree behind = greater_free (inner ++ (close_word ∷ rest)) (each (close_word ∷ rest) (good_tail close_word rest good_close tail)) in
    let split : cast_words names of inner ++ rest ≡ keyword_word (codes "static_cast") ∷ less_word ∷ (declared names.tags no_cv of [] ++ behind) = simp append_assoc in
    subst IsTail (sym split)
    (good_tail (keyword_word (codes "static_cast")) (less_word ∷ (declared names.tags no_cv of [] ++ behind)) good_static_cast
    (less_tail (declared names.tags no_cv of [] ++ behind) (declared_free names.tags of IsFree no_cv [] are.tags free_behind no_inner (λ e rest free. free.ampersand) h behind free)))

number_operand : (text : List ℕ) → IsNumber text → IsOperand (keyword_word text ∷ [])
number_operand text is rest tail = good_tail (keyword_word text) rest (⊎_elim (good_integer text) (good_character text) is) tail

expression_operand : (names : NamesOfText) → AreNames names → (label : Label) (parts : List (List Word)) → AllByRecursion IsOperand parts → IsPrintableLabel (nat_eq label.production production.call) (nat_eq label.production production.cast) label → IsOperand (expression_by names label parts)
expression_operand names are label parts each is = by (nat_eq label.production production.call) (nat_eq label.production production.cast) is
  where
    by : (is_call is_cast : Bool) → IsPrintableLabel is_call is_cast label → IsOperand (if is_call then call_words names (target_or label.target) parts else (if is_cast then cast_words names (type_or_void label.of) (first_words parts) else keyword_word label.spelling ∷ []))
    by true is_cast is = call_operand names are (target_or label.target) parts each
    by false true is = cast_operand names are (type_or_void label.of) (first_words parts) is (first_operand parts each)
    by false false is = number_operand label.spelling is

expressions_are : (names : NamesOfText) → AreNames names → (trees : CxxTrees) → ArePrintableTrees trees → AllByRecursion IsOperand (expressions names trees)
expressions_are names are no_trees all = tt
expressions_are names are (tree_then label children next) all = (expression_operand names are label (expressions names children) (expressions_are names are children all.1) all.0, expressions_are names are next all.2)

-- ---- initializers

initializers_operand : (names : NamesOfText) → AreNames names → (trees : CxxTrees) → HasPrintableInitializers trees → IsOperand (initializer_words names (initializers_in trees))
initializers_operand names are no_trees all = λ rest tail. tail
initializers_operand names are (tree_then label children next) all = by (nat_eq label.production production.initializer) all.0 (initializers_operand names are next all.1)
  where
    by : (is : Bool) → IsPrintableInitializer is children → IsOperand (initializer_words names (initializers_in next)) → IsOperand (initializer_words names (if is then children ∷ initializers_in next else initializers_in next))
    by true is later = λ rest tail. equals_tail (first_words (expressions names children) ++ rest) (first_operand (expressions names children) (expressions_are names are children is) rest tail)
    by false is later = later

-- ---- lines

semicolon_tail : IsTail (semicolon_word ∷ [])
semicolon_tail = good_tail semicolon_word [] good_semicolon no_words

enumerator_element : (names : NamesOfText) → AreNames names → (number : ℕ) (value : ℤ) → IsSmallValue value → IsElement (enumerator_words names (number, value))
enumerator_element names are number value small rest free = good_tail (name_word (names.name_of number)) (keyword_word (codes "=") ∷ (value_words value ++ rest)) (good_name (names.name_of number) (are.named number)) (equals_tail (value_words value ++ rest) (value_tail value rest small free.tail))

-- the enumerators of an enumeration among some facts
elements_append : (names : NamesOfText) (one two : List (ℕ × ℤ)) → AllByRecursion IsElement (map (enumerator_words names) one) → AllByRecursion IsElement (map (enumerator_words names) two) → AllByRecursion IsElement (map (enumerator_words names) (one ++ two))
elements_append names [] two a b = b
elements_append names (x ∷ one) two a b = (a.0, elements_append names one two a.1 b)

one_value : (names : NamesOfText) → AreNames names → (n number : ℕ) (what : Declares) → SaysPrintable what → (fact : CxxFact) → fact.what ≡ what → AllByRecursion IsElement (map (enumerator_words names) (value_in n number fact))
one_value names are n number (facts.enumerator m value) says fact e = rw e (by (nat_eq m n))
  where
    by : (is : Bool) → AllByRecursion IsElement (map (enumerator_words names) (if is then (number, value) ∷ [] else []))
    by true = (enumerator_element names are number value says, tt)
    by false = tt
one_value names are n number _ says fact e = rw e tt

values_are : (names : NamesOfText) → AreNames names → (n number : ℕ) (all : List CxxFact) → AllByRecursion IsPrintableFact all → AllByRecursion IsElement (map (enumerator_words names) (values_from n number all))
values_are names are n number [] each = tt
values_are names are n number (fact ∷ others) each = elements_append names (value_in n number fact) (values_from n (suc number) others) (one_value names are n number fact.what each.0.says fact refl) (values_are names are n (suc number) others each.1)

enumeration_tail : (names : NamesOfText) → AreNames names → (all : List CxxFact) (n number : ℕ) → AllByRecursion IsPrintableFact all → IsTail (enumeration_words names all n number)
enumeration_tail names are all n number each =
    good_tail (keyword_word (codes "enum")) _ good_enum
    (good_tail (name_word (names.name_of number)) _ (good_name (names.name_of number) (are.named number))
    (good_tail (keyword_word (codes "{")) _ good_brace
    (separated_tail (map (enumerator_words names) (values_from n zero all)) (values_are names are n zero all each) (keyword_word (codes "}") ∷ semicolon_word ∷ [])
    (good_cons (keyword_word (codes "}")) (semicolon_word ∷ []) good_close_brace semicolon_tail))))

-- the type of a function among the facts
type_printable : (what : Declares) (fact : CxxFact) → SaysPrintable what → fact.what ≡ what → is_printable (type_of_function (Some fact)) ≡ true
type_printable (facts.function of member flags defaults first) fact says e = rw e says
type_printable _ fact says e = rw e refl

found_printable : (all : List CxxFact) (number : ℕ) → AllByRecursion IsPrintableFact all → is_printable (type_of_function (slice_get all number)) ≡ true
found_printable [] number each = refl
found_printable (fact ∷ others) zero each = type_printable fact.what fact each.0.says refl
found_printable (fact ∷ others) (suc number) each = found_printable others number each.1

function_tail : (names : NamesOfText) → AreNames names → (all : List CxxFact) (number : ℕ) → AllByRecursion IsPrintableFact all → IsTail (function_words names all number)
function_tail names are all number each = (declared_name names.tags (type_of_function (slice_get all number)) (names.name_of number) are.tags (are.named number) (found_printable all number each) (semicolon_word ∷ []) semicolon_tail).tail

extern_tail : (is : Bool) (rest : List Word) → IsTail rest → IsTail ((if is then [] else keyword_word (codes "extern") ∷ []) ++ rest)
extern_tail true rest tail = tail
extern_tail false rest tail = good_tail (keyword_word (codes "extern")) rest good_extern tail

object_tail : (names : NamesOfText) → AreNames names → (tree : CxxTree) (number : ℕ) → IsPrintableObject tree → IsTail (object_words names tree number)
object_tail names are tree number is =
    extern_tail (is_empty tree.label.spelling) _
    (declared_name names.tags (type_or_void tree.label.of) (names.name_of number) are.tags (are.named number) is.typed (initializer_words names (initializers_in tree.children) ++ (semicolon_word ∷ []))
    (initializers_operand names are tree.children is.parts (semicolon_word ∷ []) semicolon_tail)).tail

line_tail : (names : NamesOfText) → AreNames names → (all : List CxxFact) → AllByRecursion IsPrintableFact all → (line : Line) → IsPrintableLine line → IsTail (line_words names all line)
line_tail names are all each (enumeration_line n number) is = enumeration_tail names are all n number each
line_tail names are all each (function_line number) is = function_tail names are all number each
line_tail names are all each (object_line tree number) is = object_tail names are tree number is

lines_are : (names : NamesOfText) → AreNames names → (all : List CxxFact) → AllByRecursion IsPrintableFact all → (some : List Line) → AllByRecursion IsPrintableLine some → AllByRecursion IsLine (map (line_words names all) some)
lines_are names are all each [] is = tt
lines_are names are all each (line ∷ others) is = ((line_tail names are all each line is.0).line, lines_are names are all each others is.1)

-- ---- printed names

number_is_small : (order : List ℕ) (number : ℕ) → number_in order number ≤ suc (length order)
number_is_small [] number = omega arith
number_is_small (first ∷ order) number = by (nat_eq first number) (number_is_small order number)
  where
    by : (is : Bool) → number_in order number ≤ suc (length order) → (if is then suc zero else suc (number_in order number)) ≤ suc (length (first ∷ order))
    by true h = omega arith
    by false h = omega (arith, h)

n_is_name : IsName (codes "n")
unfolding spelling_of word_kind keywords operators operator alternatives digraphs
n_is_name = record { spelled = refl }

-- a name that is made of nothing is that of `n`
none_is_n : (k : ℕ) → printed_name k [] ≡ printed_name k (codes "n")
unfolding printed_name stem
none_is_n k = refl

printed_by : (all : List CxxFact) (number k : ℕ) → AllByRecursion IsPrintableFact all → k < 2 ^ 64 → IsName (printed_name k (stem_of_fact (slice_get all number)))
printed_by [] number k each h = subst IsName (sym (none_is_n k)) (printed_is_name k (codes "n") h n_is_name)
printed_by (fact ∷ others) zero k each h = printed_is_name k (name_stem fact.name) h each.0.named
printed_by (fact ∷ others) (suc number) k each h = printed_by others number k each.1 h

text_is_name : (all : List CxxFact) (order : List ℕ) (number : ℕ) → AllByRecursion IsPrintableFact all → suc (length order) < 2 ^ 64 → IsName (text_name all order number)
unfolding text_name
text_is_name all order number each few = printed_by all number (number_in order number) each (omega (arith, number_is_small order number, few))

names_are : (reading : CxxReading) → IsPrintable reading → AreNames (names_of_text reading.state)
unfolding names_of_text
names_are reading is = record {
  named = λ number. text_is_name reading.state.graph.facts (text_order reading.state) number is.facts is.few;
  tags = record { enumerations = λ n. text_is_name reading.state.graph.facts (text_order reading.state) (number_of_enumeration n zero reading.state.graph.facts) is.facts is.few };
}

-- ---- the plain form

same_text : (names : NamesOfText) (all : List CxxFact) (some : List Line) → flat_map (λ line. line_text (line_words names all line)) some ≡ text_of (map (line_words names all) some)
same_text names all [] = refl
same_text names all (line ∷ others) = ap (λ text. line_text (line_words names all line) ++ text) (same_text names all others)

pub plain_form_reads : (reading : CxxReading) → IsPrintable reading → ReadsAs (tokens_of (plain_text reading)) (plain_text reading) (plain_lines reading)
unfolding plain_text
plain_form_reads reading is =
    let names = names_of_text reading.state in
    let all = reading.state.graph.facts in
    let each = lines_are names (names_are reading is) all is.facts (lines reading.state) is.lines in
    subst (λ text. ReadsAs (tokens_of text) text (plain_lines reading)) (sym (same_text names all (lines reading.state))) (words_are_tokens (plain_lines reading) each)
