-- The printed names of enumerations and classes, and what is declared with them.
use Rattle.std.proofs.Common.{◌≡◌, ℕ, ◌+◌, ◌<◌, Bool, List, [], ◌∷◌, ◌++◌, length, drop, Some, None, option_map, refl, ap, sym, ◌∙◌}
use Rattle.std.specs.Prelude.{if◌then◌else◌, codes}
use Rattle.std.specs.List.{slice_get}
use Rattle.std.proofs.lemmas.List.{at_drop_more}
use Rattle.std.proofs.lemmas.Option.{get_or_from_slice_get, slice_get_within}
use Rattle.cxx_model.specs.declared.facts.Fact.{Fact}
use Rattle.cxx_model.specs.declared.types.Cv.{Cv}
use Rattle.cxx_model.specs.Facts.Declarations.{fact_at, name_at}
use Rattle.cxx_model.specs.Facts.Graph.{counted, enumerations, is_enumeration, Graph, IsTypeInRange, AreTypesInRange}
use Rattle.cxx_model.specs.Printing.Names.{printed_name}
use Rattle.cxx_model.specs.Types.Trees.{CxxType, CxxTypes, fundamental, class_type, enumeration, pointer_to, reference_to, array_of, function_of, qualified, type_parameter, specialisation, nested_in, no_types, type_then, merged}
use Rattle.cxx_page.specs.Views.{text_or_none}
use Rattle.cxx_reading.specs.Declarators.{no_cv}
use Rattle.cxx_reading.specs.Plain.{number_of_enumeration}
use Rattle.cxx_reading.specs.TextOrder.{name_stem, number_in, stem_of_fact, text_name}
use Rattle.cxx_form.specs.Order.{number_of_class, text_order}
use Rattle.cxx_reading.specs.Words.{Tags, Word, ampersand_word, bound_words, close_bracket_word, close_word, cv_words, declared, declared_each, is_bracketed, one_word, open_bracket_word, open_word, separated, star_word, type_name_word, within}
use Rattle.cxx_tree.specs.Held.{meaning, Held}
use Rattle.cxx_form.specs.Giving.{declared_or, AreDeclared, AreFirst}
use Rattle.cxx_form.specs.Names.{names_in}
use Rattle.cxx_form.specs.Slots.{slot_at}
use Rattle.cxx_form.specs.Views.{facts_in}
use Rattle.cxx_form.proofs.Enumerated.{length_facts}
use Rattle.cxx_form.proofs.Gathering.{fact_is}

-- ---- how many there are

pub count_at : (facts : List Fact) (number : ℕ) (fact : Fact) (t : Bool) → slice_get facts number ≡ Some fact → t ≡ is_enumeration fact.what → enumerations (drop number facts) ≡ counted t (enumerations (drop (number + 1) facts))
count_at facts number fact t at is =
    at_drop_more (λ (fs : List Fact). enumerations fs) facts number fact (slice_get_within facts number fact at)
    ∙ ap (λ (f : Fact). counted (is_enumeration f.what) (enumerations (drop (number + 1) facts))) (get_or_from_slice_get facts number fact fact at)
    ∙ ap (λ b. counted b (enumerations (drop (number + 1) facts))) (sym is)

-- ---- what a name is made of

pub stem_found : (held : Held) (number : ℕ) (fact : Fact) → Some fact ≡ slice_get held.graph.facts number → name_stem (name_at held.types fact.name) ≡ stem_of_fact (slice_get (facts_in held) number)
stem_found held number fact is = sym (ap stem_of_fact (fact_is held.types held.graph.facts number ∙ ap (option_map (fact_at held.types)) (sym is)))

pub stem_none : (held : Held) (number : ℕ) → None ≡ slice_get held.graph.facts number → [] ≡ stem_of_fact (slice_get (facts_in held) number)
stem_none held number is = sym (ap stem_of_fact (fact_is held.types held.graph.facts number ∙ ap (option_map (fact_at held.types)) (sym is)))

-- ---- the names of enumerations and classes

-- by where one is declared
text_is : (held : Held) (slots : List ℕ) (n : ℕ) (text stem : List ℕ) (number place count first : ℕ) → declared_or (slot_at slots n) (length (facts_in held)) ≡ first → count ≡ length held.graph.facts → place ≡ declared_or (slot_at slots n) count → stem ≡ stem_of_fact (slice_get (facts_in held) place) → number ≡ number_in (text_order (meaning held)) place → text ≡ printed_name number stem → text ≡ text_name (facts_in held) (text_order (meaning held)) first
unfolding text_name
text_is held slots n text stem number place count first are all is made numbered printed =
    let at : place ≡ first = is ∙ ap (declared_or (slot_at slots n)) (all ∙ sym (length_facts held.types held.graph.facts)) ∙ are in
    printed ∙ ap (λ m. printed_name m stem) numbered ∙ ap (printed_name (number_in (text_order (meaning held)) place)) made
    ∙ ap (λ m. printed_name (number_in (text_order (meaning held)) m) (stem_of_fact (slice_get (facts_in held) m))) at

pub tag_is : (held : Held) (slots : List ℕ) (n : ℕ) (text stem : List ℕ) (number place count : ℕ) → AreDeclared (facts_in held) slots → count ≡ length held.graph.facts → place ≡ declared_or (slot_at slots n) count → stem ≡ stem_of_fact (slice_get (facts_in held) place) → number ≡ number_in (text_order (meaning held)) place → text ≡ printed_name number stem → text ≡ (names_in held).tags.enumeration_name n
unfolding names_in
tag_is held slots n text stem number place count are all is made numbered printed = text_is held slots n text stem number place count (number_of_enumeration n 0 (facts_in held)) (are n) all is made numbered printed

pub class_tag_is : (held : Held) (slots : List ℕ) (n : ℕ) (text stem : List ℕ) (number place count : ℕ) → AreFirst (facts_in held) slots → count ≡ length held.graph.facts → place ≡ declared_or (slot_at slots n) count → stem ≡ stem_of_fact (slice_get (facts_in held) place) → number ≡ number_in (text_order (meaning held)) place → text ≡ printed_name number stem → text ≡ (names_in held).tags.class_name n
unfolding names_in
class_tag_is held slots n text stem number place count are all is made numbered printed = text_is held slots n text stem number place count (number_of_class n 0 (facts_in held)) (are n) all is made numbered printed

-- the names of the first few
pub record SoFar (name : ℕ → List ℕ) (texts : List (List ℕ)) (number : ℕ) : Type 0 where
  pub count : length texts ≡ number
  pub each : (n : ℕ) → n < number → text_or_none (slice_get texts n) ≡ name n

-- ---- what is declared with one naming of classes and enumerations or another

pub record AreSameTags (one two : Tags) (graph : Graph) : Type 0 where
  pub classes : (n : ℕ) → n < length graph.classes → one.class_name n ≡ two.class_name n
  pub enums : (n : ℕ) → n < enumerations graph.facts → one.enumeration_name n ≡ two.enumeration_name n

mutual
  pub same_declared : (one two : Tags) (graph : Graph) → AreSameTags one two graph → (cv : Cv) (t : CxxType) (inner : List Word) → IsTypeInRange graph t → declared one cv t inner ≡ declared two cv t inner
  same_declared one two graph same cv (fundamental of) inner range = refl
  same_declared one two graph same cv (class_type n) inner range = ap (λ (name : List ℕ). cv_words cv ++ type_name_word name ∷ inner) (same.classes n range)
  same_declared one two graph same cv (enumeration n) inner range = ap (λ (name : List ℕ). cv_words cv ++ type_name_word name ∷ inner) (same.enums n range)
  same_declared one two graph same cv (pointer_to of) inner range = same_declared one two graph same no_cv of (within (is_bracketed of) (star_word ∷ cv_words cv ++ inner)) range
  same_declared one two graph same cv (reference_to of) inner range = same_declared one two graph same no_cv of (within (is_bracketed of) (ampersand_word ∷ inner)) range
  same_declared one two graph same cv (array_of of bound) inner range = same_declared one two graph same cv of (inner ++ open_bracket_word ∷ bound_words bound ++ close_bracket_word ∷ []) range.0
  same_declared one two graph same cv (function_of result parameters ellipsis own) inner range =
      ap (λ (each : List (List Word)). declared one no_cv result (inner ++ open_word ∷ separated (each ++ (if ellipsis then one_word (codes "...") ∷ [] else [])) ++ close_word ∷ cv_words own)) (same_each one two graph same parameters range.1)
      ∙ same_declared one two graph same no_cv result (inner ++ open_word ∷ separated (declared_each two parameters ++ (if ellipsis then one_word (codes "...") ∷ [] else [])) ++ close_word ∷ cv_words own) range.0
  same_declared one two graph same cv (qualified own of) inner range = same_declared one two graph same (merged cv own) of inner range
  same_declared one two graph same cv (type_parameter depth index) inner range = refl
  same_declared one two graph same cv (specialisation n _) inner range = refl
  same_declared one two graph same cv (nested_in of word) inner range = refl

  pub same_each : (one two : Tags) (graph : Graph) → AreSameTags one two graph → (ts : CxxTypes) → AreTypesInRange graph ts → declared_each one ts ≡ declared_each two ts
  same_each one two graph same no_types range = refl
  same_each one two graph same (type_then of others) range =
      ap (λ (words : List Word). words ∷ declared_each one others) (same_declared one two graph same no_cv of [] range.0)
      ∙ ap (λ (each : List (List Word)). declared two no_cv of [] ∷ each) (same_each one two graph same others range.1)
