-- What a text is that spells an integer or a character, and its value.
use Rattle.std.proofs.Common.{◌≡◌, ◌<◌, ℕ, ◌^◌, min, Bool, true, false, cond, ◌==◌, ◌&&◌, ◌||◌, nat_le, List, [], ◌∷◌, Option, Some, None, IsSome, rules, refl, sym, ap, ◌∙◌, subst, ⊎_elim, arith, leb-true}
use Rattle.std.specs.Prelude.{ℤ, pos}
use Rattle.std.proofs.lemmas.Bool.{both_ways}
use Rattle.std.proofs.lemmas.Bool.Decides.{nat_tests}
use Rattle.std.specs.List.{list_all, list_any, take_while}
use Rattle.std.specs.Char.{is_ascii_digit}
use Rattle.cxx_model.specs.declared.base.Base.{Base}
use Rattle.cxx_model.specs.declared.base.Base.TheVariants as base
use Rattle.cxx_model.specs.declared.token.TokenKind.{TokenKind}
use Rattle.cxx_model.specs.declared.token.TokenKind.TheVariants.{Name, Keyword, Punct, Integer, Character, Text, End}
use Rattle.cxx_model.specs.declared.token.TokenReason.{TokenReason}
use Rattle.cxx_model.specs.declared.token.TokenReason.TheVariants as reason
use Rattle.cxx_model.specs.Text.Spelling.{Spelled, Blank, Good, Ill, Ending, Open, Closed, Past, Letter, Value, Unknown, Universal, alone, is_white, begins_word, begins_number, is_number_rest, is_quote, is_word, is_newline, is_marker_word, number_in, number_beside, keywords, alternatives, operators, digraphs, first_of, word_by, word_kind, number_kind, number_by, integer_by, integer_type, integer_types, integer_parts, IntegerParts, is_floating, first_holding, most_of, operator_by, operator, within_line, marker_by, past_blanks, hash, comment_by, comment_ending, slash, backslash, percent, literal_by, literal_ending, literal_kind, literal, wide_literal, body_of, literal_body, letters, character_by, string_by, is_bad_letter, is_universal_letter, is_wide, spelling_of, literal_type, literal_type_by, literal_value, literal_value_by, value_of_parts, value_of_letters, signed_value, type_of_parts}
use Rattle.cxx_model.proofs.Spellings.{LiteralShape, in_narrow, in_wide, literal_shape, good_is_closed, literal_is_closed, cond_is}
use Rattle.cxx_literals.specs.Integers.{capped_parts, capped_option}
use Rattle.cxx_literals.proofs.Amounts.{most_fits}

abbrev is_integer : TokenKind → Bool
is_integer Integer = true
is_integer Name = false
is_integer (Keyword n) = false
is_integer (Punct n) = false
is_integer Character = false
is_integer Text = false
is_integer End = false

abbrev gives_integer : Option Spelled → Bool
gives_integer (Some (Good kind)) = is_integer kind
gives_integer (Some Blank) = false
gives_integer (Some (Ill reason)) = false
gives_integer None = false

neither_counts : (c : Bool) (x y : Option Spelled) → gives_integer x ≡ false → gives_integer y ≡ false → gives_integer (cond c x y) ≡ false
neither_counts true x y h k = h
neither_counts false x y h k = k

alone_counts : (rest : List ℕ) (why : TokenReason) → gives_integer (alone rest (Ill why)) ≡ false
alone_counts [] why = refl
alone_counts (b ∷ rest) why = refl

blank_counts : (rest : List ℕ) → gives_integer (alone rest Blank) ≡ false
blank_counts [] = refl
blank_counts (b ∷ rest) = refl

word_counts : (text : List ℕ) → gives_integer (Some (word_kind text)) ≡ false
unfolding word_kind
word_counts text = by (number_in keywords text) (number_beside alternatives text)
  where
    by : (m n : Option ℕ) → gives_integer (Some (word_by m n)) ≡ false
    by (Some m) n = refl
    by None (Some n) = refl
    by None None = refl

operator_counts : (b : ℕ) (rest : List ℕ) → gives_integer (operator b rest) ≡ false
unfolding operator
operator_counts b rest = by (first_of (number_in operators (b ∷ rest)) (number_beside digraphs (b ∷ rest)))
  where
    by : (n : Option ℕ) → gives_integer (operator_by n rest) ≡ false
    by (Some n) = refl
    by None = alone_counts rest reason.StrayByte

line_counts : (text : List ℕ) → gives_integer (within_line text) ≡ false
line_counts text = neither_counts (list_any is_newline text) None (Some Blank) refl refl

marker_counts : (text rest : List ℕ) → gives_integer (marker_by text rest) ≡ false
marker_counts text [] = refl
marker_counts text (b ∷ rest) =
    neither_counts (is_ascii_digit b) _ _ (line_counts text)
    (neither_counts (is_marker_word (take_while is_word (b ∷ rest))) _ _ (line_counts text)
    (neither_counts (list_all is_word (b ∷ rest)) _ _ refl refl))

hash_counts : (fresh : Bool) (rest : List ℕ) → gives_integer (hash fresh rest) ≡ false
unfolding hash
hash_counts fresh rest = neither_counts fresh _ _ (marker_counts rest (past_blanks rest)) (alone_counts rest reason.Directive)

comment_counts : (ending : Ending) → gives_integer (comment_by ending) ≡ false
comment_counts Open = refl
comment_counts Closed = refl
comment_counts Past = refl

slash_counts : (rest : List ℕ) → gives_integer (slash rest) ≡ false
unfolding slash
slash_counts [] = operator_counts 47 []
slash_counts (b ∷ rest) =
    neither_counts (b == 47) _ _ (line_counts rest)
    (neither_counts (b == 42) _ _ (comment_counts (comment_ending false rest)) (operator_counts 47 (b ∷ rest)))

backslash_counts : (rest : List ℕ) → gives_integer (backslash rest) ≡ false
backslash_counts [] = refl
backslash_counts (b ∷ rest) = neither_counts (b == 117 || b == 85) _ _ (alone_counts rest reason.UniversalName) refl

percent_counts : (rest : List ℕ) → gives_integer (percent rest) ≡ false
unfolding percent
percent_counts [] = operator_counts 37 []
percent_counts (b ∷ rest) = neither_counts (b == 58) _ _ (alone_counts rest reason.Directive) (operator_counts 37 (b ∷ rest))

character_counts : (wide : Bool) (all : List Letter) → gives_integer (Some (character_by wide all)) ≡ false
character_counts wide [] = refl
character_counts wide (c ∷ []) = by (is_bad_letter wide c) (is_universal_letter c)
  where
    by : (bad universal : Bool) → gives_integer (Some (cond bad (Ill reason.BadEscape) (cond universal (Ill reason.UniversalName) (Good Character)))) ≡ false
    by true universal = refl
    by false true = refl
    by false false = refl
character_counts wide (c ∷ d ∷ all) = by (list_any (is_bad_letter wide) (c ∷ d ∷ all))
  where
    by : (bad : Bool) → gives_integer (Some (cond bad (Ill reason.BadEscape) (Ill reason.MultiCharacter))) ≡ false
    by true = refl
    by false = refl

string_counts : (wide : Bool) (all : List Letter) → gives_integer (Some (string_by wide all)) ≡ false
string_counts wide all = by (list_any (is_bad_letter wide) all) (list_any is_universal_letter all)
  where
    by : (bad universal : Bool) → gives_integer (Some (cond bad (Ill reason.BadEscape) (cond universal (Ill reason.UniversalName) (Good Text)))) ≡ false
    by true universal = refl
    by false true = refl
    by false false = refl

literal_counts : (wide : Bool) (quote : ℕ) (rest : List ℕ) → gives_integer (literal wide quote rest) ≡ false
unfolding literal
literal_counts wide quote rest = by (literal_ending quote false rest)
  where
    kind : (single : Bool) → gives_integer (Some (cond single (character_by wide (letters 0 (body_of rest))) (string_by wide (letters 0 (body_of rest))))) ≡ false
    kind true = character_counts wide (letters 0 (body_of rest))
    kind false = string_counts wide (letters 0 (body_of rest))

    by : (ending : Ending) → gives_integer (literal_by wide quote rest ending) ≡ false
    by Open = refl
    by Closed = kind (quote == 39)
    by Past = refl

wide_counts : (b : ℕ) (rest : List ℕ) → gives_integer (wide_literal b rest) ≡ false
wide_counts b [] = refl
wide_counts b (quote ∷ rest) = neither_counts (b == 76 && is_quote quote) _ _ (literal_counts true quote rest) refl

not_counted : (o : Option Spelled) {C : Type 0} → gives_integer o ≡ false → o ≡ Some (Good Integer) → C
not_counted o none e = absurd (both_ways (gives_integer o) none (ap gives_integer e))

rest_of_text : Bool → ℕ → List ℕ → Option Spelled
rest_of_text fresh b rest = cond (is_quote b) (literal false b rest) (cond (b == 35) (hash fresh rest) (cond (b == 47) (slash rest) (cond (b == 92) (backslash rest) (cond (b == 37) (percent rest) (operator b rest)))))

rest_counts : (fresh : Bool) (b : ℕ) (rest : List ℕ) → gives_integer (rest_of_text fresh b rest) ≡ false
unfolding rest_of_text
rest_counts fresh b rest =
    neither_counts (is_quote b) _ _ (literal_counts false b rest)
    (neither_counts (b == 35) _ _ (hash_counts fresh rest)
    (neither_counts (b == 47) _ _ (slash_counts rest)
    (neither_counts (b == 92) _ _ (backslash_counts rest)
    (neither_counts (b == 37) _ _ (percent_counts rest) (operator_counts b rest)))))

number_of : (fresh : Bool) (b : ℕ) (rest : List ℕ) → cond (begins_number b rest) (cond (is_number_rest b rest) (Some (number_kind (b ∷ rest))) None) (rest_of_text fresh b rest) ≡ Some (Good Integer) → number_kind (b ∷ rest) ≡ Good Integer
number_of fresh b rest e =
    ⊎_elim
    (λ (p : (begins_number b rest ≡ true) × (cond (is_number_rest b rest) (Some (number_kind (b ∷ rest))) None ≡ Some (Good Integer))). inner p.1)
    (λ (p : (begins_number b rest ≡ false) × (rest_of_text fresh b rest ≡ Some (Good Integer))). not_counted _ (rest_counts fresh b rest) p.1)
    (cond_is (begins_number b rest) _ _ (Some (Good Integer)) e)
  where
    inner : cond (is_number_rest b rest) (Some (number_kind (b ∷ rest))) None ≡ Some (Good Integer) → number_kind (b ∷ rest) ≡ Good Integer
    inner e = by (is_number_rest b rest) e
      where
        by : (c : Bool) → cond c (Some (number_kind (b ∷ rest))) None ≡ Some (Good Integer) → number_kind (b ∷ rest) ≡ Good Integer
        by true e = cc
        by false e = absurd cc

integer_number : (fresh : Bool) (text : List ℕ) → spelling_of fresh text ≡ Some (Good Integer) → number_kind text ≡ Good Integer
unfolding spelling_of rest_of_text
integer_number fresh [] e = absurd cc
integer_number fresh (b ∷ rest) e =
    ⊎_elim
    (λ (p : (is_white b ≡ true) × (alone rest Blank ≡ Some (Good Integer))). not_counted _ (blank_counts rest) p.1)
    (λ (p : (is_white b ≡ false) × (cond (begins_word b) (cond (list_all is_word rest) (Some (word_kind (b ∷ rest))) (wide_literal b rest)) (cond (begins_number b rest) (cond (is_number_rest b rest) (Some (number_kind (b ∷ rest))) None) (rest_of_text fresh b rest)) ≡ Some (Good Integer))).
    ⊎_elim
    (λ (q : (begins_word b ≡ true) × (cond (list_all is_word rest) (Some (word_kind (b ∷ rest))) (wide_literal b rest) ≡ Some (Good Integer))). not_counted _ (neither_counts (list_all is_word rest) _ _ (word_counts (b ∷ rest)) (wide_counts b rest)) q.1)
    (λ (q : (begins_word b ≡ false) × (cond (begins_number b rest) (cond (is_number_rest b rest) (Some (number_kind (b ∷ rest))) None) (rest_of_text fresh b rest) ≡ Some (Good Integer))). number_of fresh b rest q.1)
    (cond_is (begins_word b) _ _ (Some (Good Integer)) p.1))
    (cond_is (is_white b) _ _ (Some (Good Integer)) e)

parts_by : (o : Option IntegerParts) (floats : Bool) → number_by o floats ≡ Good Integer → (parts : IntegerParts) × (o ≡ Some parts) × ((t : Base) × (integer_type parts ≡ Some t))
parts_by None true e = absurd cc
parts_by None false e = absurd cc
parts_by (Some parts) floats e = (parts, refl, by (integer_type parts) e)
  where
    by : (o : Option Base) → integer_by o ≡ Good Integer → (t : Base) × (o ≡ Some t)
    by (Some t) e = (t, refl)
    by None e = absurd cc

integer_has : (text : List ℕ) → number_kind text ≡ Good Integer → (parts : IntegerParts) × (integer_parts text ≡ Some parts) × ((t : Base) × (integer_type parts ≡ Some t))
unfolding number_kind
integer_has text e = parts_by (integer_parts text) (is_floating text) e

holding_bound : (value : ℕ) (types : List Base) (t : Base) → first_holding value types ≡ Some t → value < 2 ^ 64
holding_bound value [] t e = absurd cc
holding_bound value (type ∷ types) t e =
    ⊎_elim
    (λ (p : (nat_le value (most_of type) ≡ true) × (Some type ≡ Some t)). let fits = leb-true value (most_of type) p.0 in omega (arith, fits, most_fits type))
    (λ (p : (nat_le value (most_of type) ≡ false) × (first_holding value types ≡ Some t)). holding_bound value types t p.1)
    (cond_is (nat_le value (most_of type)) (Some type) (first_holding value types) (Some t) e)

pub integer_value_is : (text : List ℕ) (p : IntegerParts) (z : Option ℤ) → spelling_of false text ≡ Some (Good Integer) → Some p ≡ capped_option (integer_parts text) → z ≡ Some (pos p.value) → z ≡ value_of_parts (integer_parts text)
integer_value_is text p z e f g =
    let has = integer_has text (integer_number false text e) in
    let bound = holding_bound has.0.value (integer_types has.0) has.2.0 has.2.1 in
    let is : Some p ≡ Some (capped_parts has.0) = f ∙ ap capped_option has.1 in
    let same : p ≡ capped_parts has.0 = cc in
    let value : min has.0.value (2 ^ 64) ≡ has.0.value = omega arith in
    g ∙ ap (λ q. Some (pos q.value)) same ∙ ap (λ n. Some (pos n)) value ∙ sym (ap value_of_parts has.1)

has_some : {A : Type 0} (o : Option A) (x : A) → o ≡ Some x → IsSome o
has_some o x e = subst (λ o. IsSome o) (sym e) (search rules)

pub integer_law : (text : List ℕ) → spelling_of false text ≡ Some (Good Integer) → IsSome (literal_value text) × IsSome (literal_type text)
unfolding literal_value literal_type
integer_law text e =
    let has = integer_has text (integer_number false text e) in
    (has_some (literal_value text) (pos has.0.value) (ap (literal_value_by text) e ∙ ap value_of_parts has.1), has_some (literal_type text) has.2.0 (ap (literal_type_by text) e ∙ ap type_of_parts has.1 ∙ has.2.1))

-- ---- characters

spells_character : Spelled → Bool
spells_character (Good Character) = true
spells_character _ = false

string_is_none : (wide : Bool) (all : List Letter) → spells_character (string_by wide all) ≡ false
unfolding spells_character
string_is_none wide all = by (list_any (is_bad_letter wide) all) (list_any is_universal_letter all)
  where
    by : (bad universal : Bool) → spells_character (cond bad (Ill reason.BadEscape) (cond universal (Ill reason.UniversalName) (Good Text))) ≡ false
    by true universal = refl
    by false true = refl
    by false false = refl

-- the one letter of a character has a value that it holds
empty_spells : spelling_of false [] ≡ Some (Good Character) → ⊥
unfolding spelling_of
empty_spells e = cc

HasLetter : Bool → List Letter → Type 0
HasLetter wide all = (list_any (is_bad_letter wide) all ≡ false) × ((n : ℕ) × (all ≡ Value n ∷ []))

one_letter : (wide : Bool) (all : List Letter) → character_by wide all ≡ Good Character → HasLetter wide all
unfolding HasLetter
one_letter wide [] e = absurd cc
one_letter wide (Value n ∷ []) e = (by (is_bad_letter wide (Value n)) e, (n, refl))
  where
    by : (bad : Bool) → cond bad (Ill reason.BadEscape) (Good Character) ≡ Good Character → (bad || false) ≡ false
    by true e = absurd cc
    by false e = refl
one_letter wide (Unknown ∷ []) e = absurd cc
one_letter wide (Universal ∷ []) e = absurd cc
one_letter wide (c ∷ d ∷ all) e = absurd (by (list_any (is_bad_letter wide) (c ∷ d ∷ all)) e)
  where
    by : (bad : Bool) → cond bad (Ill reason.BadEscape) (Ill reason.MultiCharacter) ≡ Good Character → ⊥
    by true e = cc
    by false e = cc

kind_letter : (wide : Bool) (quote : ℕ) (body : List ℕ) → literal_kind wide quote body ≡ Good Character → HasLetter wide (letters 0 body)
unfolding spells_character
kind_letter wide quote body e =
    ⊎_elim
    (λ (p : ((quote == 39) ≡ true) × (character_by wide (letters 0 body) ≡ Good Character)). one_letter wide (letters 0 body) p.1)
    (λ (p : ((quote == 39) ≡ false) × (string_by wide (letters 0 body) ≡ Good Character)). absurd (both_ways (spells_character (string_by wide (letters 0 body))) (string_is_none wide (letters 0 body)) (ap spells_character p.1)))
    (cond_is (quote == 39) (character_by wide (letters 0 body)) (string_by wide (letters 0 body)) (Good Character) e)

literal_letter : (wide : Bool) (quote : ℕ) (rest : List ℕ) → literal wide quote rest ≡ Some (Good Character) → HasLetter wide (letters 0 (body_of rest))
literal_letter wide quote rest e =
    let closed = literal_is_closed wide quote rest (good_is_closed wide quote rest Character e) in
    let kind : literal_kind wide quote (body_of rest) ≡ Good Character = cc (closed, e) in
    kind_letter wide quote (body_of rest) kind

no_wide_quote : (b : ℕ) → is_quote b ≡ true → (b == 76) ≡ false
no_wide_quote b h = grind (arith, nat_tests)

shape_letter : (b : ℕ) (rest : List ℕ) → LiteralShape (Good Character) b rest → HasLetter (is_wide (b ∷ rest)) (letters 0 (literal_body (b ∷ rest)))
shape_letter b rest (in_narrow h e) = rw (no_wide_quote b h) (literal_letter false b rest e)
shape_letter b rest (in_wide quote behind l h is e) = rw (l, is) (literal_letter true quote behind e)

text_letter : (text : List ℕ) → spelling_of false text ≡ Some (Good Character) → HasLetter (is_wide text) (letters 0 (literal_body text))
text_letter [] e = absurd (nothing e)
  where
    nothing : spelling_of false [] ≡ Some (Good Character) → ⊥
    nothing e = empty_spells e
text_letter (b ∷ rest) e = shape_letter b rest (literal_shape false Character b rest refl e)

pub character_sound : (text : List ℕ) → spelling_of false text ≡ Some (Good Character) → list_any (is_bad_letter (is_wide text)) (letters 0 (literal_body text)) ≡ false
unfolding HasLetter
character_sound text e = (text_letter text e).0

has_type : (wide : Bool) → IsSome (cond wide (Some base.WideChar) (Some base.Char))
has_type true = search rules
has_type false = search rules

pub character_law : (text : List ℕ) → spelling_of false text ≡ Some (Good Character) → IsSome (literal_value text) × IsSome (literal_type text)
unfolding literal_value literal_type HasLetter
character_law text e =
    let has = text_letter text e in
    (has_some (literal_value text) (signed_value (cond (is_wide text) 2147483648 128) has.1.0) (ap (literal_value_by text) e ∙ ap (value_of_letters (is_wide text)) has.1.1), subst (λ o. IsSome o) (sym (ap (literal_type_by text) e)) (has_type (is_wide text)))
