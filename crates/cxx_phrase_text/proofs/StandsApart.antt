-- Operands begin with no prefix operator and end with no postfix operator.
use Rattle.std.proofs.Common.{◌≡◌, ℕ, zero, suc, Bool, true, false, not, List, [], ◌∷◌, ◌++◌, Option, Some, None, refl}
use Rattle.std.specs.Prelude.{codes}
use Rattle.cxx_model.specs.Types.Trees.{CxxType, class_type}
use Rattle.cxx_reading.specs.Declarators.{no_cv}
use Rattle.cxx_reading.specs.Plain.{target_or, type_or_void}
use Rattle.cxx_reading.specs.Trees.{no_trees, tree_then, CxxTree, CxxTrees, Label}
use Rattle.cxx_reading.specs.Words.{close_bracket_word, close_word, declared, greater_word, keyword_word, less_word, name_word, open_bracket_word, open_word, within, Tags, Word}
use Rattle.cxx_phrase_text.specs.declared.form.Form.{Form}
use Rattle.cxx_phrase_text.specs.declared.form.Form.TheVariants as form
use Rattle.cxx_phrase_text.specs.Apart.{BeginsApart, EndsApart, StandsApart}
use Rattle.cxx_phrase_text.specs.Forms.{form_of}
use Rattle.cxx_phrase_text.specs.Phrases.{arguments, braced, call_words, callee_words, cast_keyword, cast_words, dot_word, elements, has_class, infix_standing, infix_word, is_braced, is_by_name, is_class, is_one_string, is_primary, last_part, member_words, named_words, operand, part, phrase_as, phrase_of, phrases, Phrase, pointed_words, prefix_word, scope_words, spells_comma, subscript_words}

-- ---- runs of words

begins_append : (ones twos : List Word) → BeginsApart ones → BeginsApart twos → BeginsApart (ones ++ twos)
begins_append [] twos one two = two
begins_append (word ∷ ones) twos one two = one

ends_append : (ones : List Word) (word : Word) (twos : List Word) → EndsApart (word ∷ twos) → EndsApart (ones ++ word ∷ twos)
ends_append [] word twos two = two
ends_append (one ∷ []) word twos two = two
ends_append (one ∷ next ∷ ones) word twos two = ends_append (next ∷ ones) word twos two

-- ---- phrases

-- where a phrase is an operand without parentheses, its words stand apart
IsApart : Phrase → Type 0
IsApart phrase = is_primary phrase.standing ≡ true → StandsApart phrase.words

AreApart : List Phrase → Type 0
AreApart [] = Unit {0}
AreApart (phrase ∷ phrases) = IsApart phrase × AreApart phrases

nothing_apart : StandsApart []
nothing_apart = record { begins = tt; ends = tt }

not_true : false ≡ true → ⊥
not_true same = cc

operand_apart : (phrase : Phrase) → IsApart phrase → StandsApart (operand phrase)
unfolding IsApart
operand_apart phrase apart = by (is_primary phrase.standing) refl
  where
    by : (alone : Bool) → is_primary phrase.standing ≡ alone → StandsApart (within (not alone) phrase.words)
    by true is = apart is
    by false is = record { begins = refl; ends = ends_append (open_word ∷ phrase.words) close_word [] refl }

part_apart : (parts : List Phrase) (n : ℕ) → AreApart parts → IsApart (part parts n)
unfolding IsApart AreApart
part_apart [] n all = λ is. nothing_apart
part_apart (phrase ∷ parts) zero all = all.0
part_apart (phrase ∷ parts) (suc n) all = part_apart parts n all.1

scope_begins : (tags : Tags) (of : CxxType) → BeginsApart (scope_words tags of (is_class of))
scope_begins tags (class_type n) = refl
scope_begins tags _ = tt

named_apart : (tags : Tags) (name : ℕ → List ℕ) (of : Option CxxType) (number : ℕ) → StandsApart (named_words tags name of number)
named_apart tags name None number = record { begins = refl; ends = refl }
named_apart tags name (Some of) number =
    let scope : List Word = scope_words tags of (is_class of) in
    record {
      begins = begins_append scope (name_word (name number) ∷ []) (scope_begins tags of) refl;
      ends = ends_append scope (name_word (name number)) [] refl;
    }

callee_apart : (tags : Tags) (name : ℕ → List ℕ) (of : Option CxxType) (number : ℕ) (by_name : Bool) (parts : List Phrase) → AreApart parts → StandsApart (callee_words tags name of number by_name parts)
callee_apart tags name of number true parts all = named_apart tags name of number
callee_apart tags name of number false parts all = operand_apart (part parts 0) (part_apart parts 0 all)

call_apart : (tags : Tags) (name : ℕ → List ℕ) (of : Option CxxType) (number : ℕ) (by_name : Bool) (parts : List Phrase) → AreApart parts → StandsApart (call_words tags name of number by_name parts)
call_apart tags name of number by_name parts all =
    let callee : List Word = callee_words tags name of number by_name parts in
    let inner : List Word = elements (arguments by_name parts) in
    record {
      begins = begins_append callee (open_word ∷ (inner ++ close_word ∷ [])) (callee_apart tags name of number by_name parts all).begins refl;
      ends = ends_append callee open_word (inner ++ close_word ∷ []) (ends_append (open_word ∷ inner) close_word [] refl);
    }

cast_apart : (tags : Tags) (keyword : List ℕ) (of : CxxType) (inner : List Word) → StandsApart (cast_words tags keyword of inner)
cast_apart tags keyword of inner = record {
  begins = refl;
  ends = ends_append (keyword_word keyword ∷ less_word ∷ declared tags no_cv of []) greater_word (open_word ∷ (inner ++ close_word ∷ [])) (ends_append (greater_word ∷ open_word ∷ inner) close_word [] refl);
}

subscript_apart : (parts : List Phrase) → AreApart parts → StandsApart (subscript_words parts)
subscript_apart parts all =
    let array : List Word = operand (part parts 0) in
    let index : List Word = (part parts 1).words in
    record {
      begins = begins_append array (open_bracket_word ∷ (index ++ close_bracket_word ∷ [])) (operand_apart (part parts 0) (part_apart parts 0 all)).begins refl;
      ends = ends_append array open_bracket_word (index ++ close_bracket_word ∷ []) (ends_append (open_bracket_word ∷ index) close_bracket_word [] refl);
    }

member_apart : (tags : Tags) (name : ℕ → List ℕ) (of : Option CxxType) (target : Option ℕ) (object : List Word) → StandsApart object → StandsApart (member_words tags name of target object)
member_apart tags name of target object apart =
    let scope : List Word = scope_words tags (type_or_void of) (has_class of) in
    record {
      begins = begins_append object (dot_word ∷ named_words tags name of (target_or target)) apart.begins refl;
      ends = ends_append object dot_word (named_words tags name of (target_or target)) (ends_append (dot_word ∷ scope) (name_word (name (target_or target))) [] refl);
    }

pointed_apart : (parts : List Phrase) → StandsApart (pointed_words parts)
unfolding pointed_words
pointed_apart parts = record { begins = refl; ends = ends_append (open_word ∷ prefix_word (codes "*") ∷ operand (part parts 0)) close_word [] refl }

braced_apart : (b : Bool) (parts : List Phrase) → AreApart parts → IsApart (braced b parts)
unfolding IsApart
braced_apart true parts all = λ is. record { begins = refl; ends = ends_append (keyword_word (codes "{") ∷ elements parts) (keyword_word (codes "}")) [] refl }
braced_apart false parts all = part_apart parts 0 all

infix_apart : (words : List Word) (spelling : List ℕ) → IsApart (record { standing = infix_standing spelling; words = words })
unfolding IsApart
infix_apart words spelling = by (spells_comma spelling) refl
  where
    by : (b : Bool) → spells_comma spelling ≡ b → is_primary (infix_standing spelling) ≡ true → StandsApart words
    by true same = rw same (λ is. absurd (not_true is))
    by false same = rw same (λ is. absurd (not_true is))

form_apart : (f : Form) (tags : Tags) (name : ℕ → List ℕ) (label : Label) (is_text : Bool) (parts : List Phrase) → AreApart parts → IsApart (phrase_as f tags name label is_text parts)
unfolding IsApart
form_apart form.Spelled tags name label is_text parts all = λ is. record { begins = refl; ends = refl }
form_apart form.Name tags name label is_text parts all = λ is. named_apart tags name label.of (target_or label.target)
form_apart form.Parenthesis tags name label is_text parts all = part_apart parts 0 all
form_apart form.Call tags name label is_text parts all = λ is. call_apart tags name label.of (target_or label.target) (is_by_name label.path) parts all
form_apart form.Zero tags name label is_text parts all = λ is. cast_apart tags (codes "static_cast") (type_or_void label.of) (keyword_word (codes "0") ∷ [])
form_apart form.Member tags name label is_text parts all = λ is. member_apart tags name label.of label.target (operand (part parts 0)) (operand_apart (part parts 0) (part_apart parts 0 all))
form_apart form.Arrow tags name label is_text parts all = λ is. member_apart tags name label.of label.target (pointed_words parts) (pointed_apart parts)
form_apart form.Subscript tags name label is_text parts all = λ is. subscript_apart parts all
form_apart form.Postfix tags name label is_text parts all = λ is. absurd (not_true is)
form_apart form.Prefix tags name label is_text parts all = λ is. absurd (not_true is)
form_apart form.Cast tags name label is_text parts all = λ is. cast_apart tags (cast_keyword label.spelling) (type_or_void label.of) (last_part parts).words
form_apart form.Infix tags name label is_text parts all = infix_apart (operand (part parts 0) ++ (infix_word label.spelling ∷ operand (part parts 1))) label.spelling
form_apart form.Conditional tags name label is_text parts all = λ is. absurd (not_true is)
form_apart form.Initial tags name label is_text parts all = braced_apart (is_braced label is_text) parts all

each_apart : (tags : Tags) (name : ℕ → List ℕ) (trees : CxxTrees) → AreApart (phrases tags name trees)
unfolding AreApart
each_apart tags name no_trees = tt
each_apart tags name (tree_then label children next) = (form_apart (form_of label.production) tags name label (is_one_string children) (phrases tags name children) (each_apart tags name children), each_apart tags name next)

pub apart : (tags : Tags) (name : ℕ → List ℕ) (tree : CxxTree) → StandsApart (operand (phrase_of tags name tree))
apart tags name tree = operand_apart (phrase_of tags name tree) (form_apart (form_of tree.label.production) tags name tree.label (is_one_string tree.children) (phrases tags name tree.children) (each_apart tags name tree.children))
