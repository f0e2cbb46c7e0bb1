-- What a text that spells a token looks like, by its first byte.
use Rattle.std.proofs.Common.{◌≡◌, ℕ, Bool, true, false, cond, ◌⊎◌, inl, inr, ⊎_elim, ◌&&◌, ◌||◌, ◌==◌, List, [], ◌∷◌, Option, Some, None, refl, ap, ◌∙◌, eqb-true}
use Rattle.std.proofs.lemmas.Bool.{and_parts}
use Rattle.std.specs.Char.{is_ascii_digit}
use Rattle.std.specs.Prelude.{take_while}
use Rattle.std.specs.List.{list_all, list_any}
use Rattle.cxx_model.specs.declared.base.Base.{Base}
use Rattle.cxx_model.specs.declared.token.TokenKind.{TokenKind}
use Rattle.cxx_model.specs.declared.token.TokenKind.TheVariants.{Name, Keyword, Punct, Integer, Character, Text}
use Rattle.cxx_model.specs.declared.token.TokenReason.{TokenReason}
use Rattle.cxx_model.specs.declared.token.TokenReason.TheVariants as reason
use Rattle.cxx_model.specs.Text.Spelling.{Blank, Good, Ill, is_white, is_word, begins_word, begins_number, is_number_rest, is_quote, word_by, word_kind, IntegerParts, integer_by, integer_type, number_by, number_kind, integer_parts, is_floating, Ending, Open, Closed, Past, Letter, letters, is_bad_letter, is_universal_letter, character_by, string_by, literal_ending, body_of, literal_kind, literal_by, literal, wide_literal, comment_by, comment_ending, within_line, is_newline, past_blanks, is_marker_word, marker_by, hash, alone, number_in, number_beside, first_of, keywords, alternatives, operators, digraphs, operator_by, operator, slash, backslash, percent, spelling_of}

-- a token by its first byte
pub data Shape (b : ℕ) (rest : List ℕ) (kind : TokenKind) : Type 0 where
  wordy : begins_word b ≡ true → list_all is_word rest ≡ true → word_kind (b ∷ rest) ≡ Good kind → Shape b rest kind
  wide : (quote : ℕ) (tail : List ℕ) → b ≡ 76 → rest ≡ quote ∷ tail → is_quote quote ≡ true → literal true quote tail ≡ Some (Good kind) → Shape b rest kind
  number : begins_number b rest ≡ true → is_number_rest b rest ≡ true → number_kind (b ∷ rest) ≡ Good kind → Shape b rest kind
  quoted : is_quote b ≡ true → literal false b rest ≡ Some (Good kind) → Shape b rest kind
  operated : operator b rest ≡ Some (Good kind) → Shape b rest kind

pub pick : {A : Type 0} (c : Bool) (x y z : A) → cond c x y ≡ z → ((c ≡ true) × (x ≡ z)) ⊎ ((c ≡ false) × (y ≡ z))
pick true x y z e = inl (refl, e)
pick false x y z e = inr (refl, e)

-- ---- what spells no token

no_blank : (rest : List ℕ) (kind : TokenKind) → alone rest Blank ≡ Some (Good kind) → ⊥
no_blank [] kind e = cc
no_blank (b ∷ rest) kind e = cc

no_ill : (rest : List ℕ) (why : TokenReason) (kind : TokenKind) → alone rest (Ill why) ≡ Some (Good kind) → ⊥
no_ill [] why kind e = cc
no_ill (b ∷ rest) why kind e = cc

no_ill_if : (c : Bool) (why : TokenReason) (kind : TokenKind) → cond c (Some (Ill why)) None ≡ Some (Good kind) → ⊥
no_ill_if true why kind e = cc
no_ill_if false why kind e = cc

no_line : (text : List ℕ) (kind : TokenKind) → within_line text ≡ Some (Good kind) → ⊥
no_line text kind e = ⊎_elim (λ h. cc h.1) (λ h. cc h.1) (pick (list_any is_newline text) _ _ _ e)

no_marker : (text behind : List ℕ) (kind : TokenKind) → marker_by text behind ≡ Some (Good kind) → ⊥
no_marker text [] kind e = cc
no_marker text (b ∷ rest) kind e =
    ⊎_elim
    (λ h. no_line text kind h.1)
    (λ h. ⊎_elim
    (λ k. no_line text kind k.1)
    (λ k. no_ill_if (list_all is_word (b ∷ rest)) reason.Directive kind k.1)
    (pick (is_marker_word (take_while is_word (b ∷ rest))) _ _ _ h.1))
    (pick (is_ascii_digit b) _ _ _ e)

pub no_hash : (fresh : Bool) (rest : List ℕ) (kind : TokenKind) → hash fresh rest ≡ Some (Good kind) → ⊥
unfolding hash
no_hash true rest kind e = no_marker rest (past_blanks rest) kind e
no_hash false rest kind e = no_ill rest reason.Directive kind e

no_comment : (ending : Ending) (kind : TokenKind) → comment_by ending ≡ Some (Good kind) → ⊥
no_comment Open kind e = cc
no_comment Closed kind e = cc
no_comment Past kind e = cc

operator_of_slash : (rest : List ℕ) (kind : TokenKind) → slash rest ≡ Some (Good kind) → operator 47 rest ≡ Some (Good kind)
unfolding slash
operator_of_slash [] kind e = e
operator_of_slash (b ∷ rest) kind e =
    ⊎_elim
    (λ h. absurd (no_line rest kind h.1))
    (λ h. ⊎_elim (λ k. absurd (no_comment (comment_ending false rest) kind k.1)) (λ k. k.1) (pick (b == 42) _ _ _ h.1))
    (pick (b == 47) _ _ _ e)

no_backslash : (rest : List ℕ) (kind : TokenKind) → backslash rest ≡ Some (Good kind) → ⊥
no_backslash [] kind e = cc
no_backslash (b ∷ rest) kind e =
    ⊎_elim (λ h. no_ill rest reason.UniversalName kind h.1) (λ h. cc h.1) (pick (b == 117 || b == 85) _ _ _ e)

operator_of_percent : (rest : List ℕ) (kind : TokenKind) → percent rest ≡ Some (Good kind) → operator 37 rest ≡ Some (Good kind)
unfolding percent
operator_of_percent [] kind e = e
operator_of_percent (b ∷ rest) kind e =
    ⊎_elim (λ h. absurd (no_ill rest reason.Directive kind h.1)) (λ h. h.1) (pick (b == 58) _ _ _ e)

-- ---- by the first byte

shape_wide : (b : ℕ) (rest : List ℕ) (kind : TokenKind) → wide_literal b rest ≡ Some (Good kind) → Shape b rest kind
shape_wide b [] kind e = absurd cc
shape_wide b (quote ∷ rest) kind e =
    ⊎_elim
    (λ h. let parts = and_parts (b == 76) (is_quote quote) h.0 in wide quote rest (eqb-true b 76 parts.0) refl parts.1 h.1)
    (λ h. absurd (cc h.1))
    (pick (b == 76 && is_quote quote) _ _ _ e)

shape_word : (b : ℕ) (rest : List ℕ) (kind : TokenKind) → begins_word b ≡ true → cond (list_all is_word rest) (Some (word_kind (b ∷ rest))) (wide_literal b rest) ≡ Some (Good kind) → Shape b rest kind
shape_word b rest kind begins e =
    ⊎_elim
    (λ h. wordy begins h.0 (cc h.1))
    (λ h. shape_wide b rest kind h.1)
    (pick (list_all is_word rest) _ _ _ e)

shape_number : (b : ℕ) (rest : List ℕ) (kind : TokenKind) → begins_number b rest ≡ true → cond (is_number_rest b rest) (Some (number_kind (b ∷ rest))) None ≡ Some (Good kind) → Shape b rest kind
shape_number b rest kind begins e =
    ⊎_elim
    (λ h. number begins h.0 (cc h.1))
    (λ h. absurd (cc h.1))
    (pick (is_number_rest b rest) _ _ _ e)

shape_mark : (fresh : Bool) (b : ℕ) (rest : List ℕ) (kind : TokenKind) → cond (b == 35) (hash fresh rest) (cond (b == 47) (slash rest) (cond (b == 92) (backslash rest) (cond (b == 37) (percent rest) (operator b rest)))) ≡ Some (Good kind) → Shape b rest kind
shape_mark fresh b rest kind e =
    ⊎_elim
    (λ h. absurd (no_hash fresh rest kind h.1))
    (λ h. ⊎_elim
    (λ k. operated (ap (λ x. operator x rest) (eqb-true b 47 k.0) ∙ operator_of_slash rest kind k.1))
    (λ k. ⊎_elim
    (λ l. absurd (no_backslash rest kind l.1))
    (λ l. ⊎_elim
    (λ m. operated (ap (λ x. operator x rest) (eqb-true b 37 m.0) ∙ operator_of_percent rest kind m.1))
    (λ m. operated m.1)
    (pick (b == 37) _ _ _ l.1))
    (pick (b == 92) _ _ _ k.1))
    (pick (b == 47) _ _ _ h.1))
    (pick (b == 35) _ _ _ e)

pub shape : (fresh : Bool) (b : ℕ) (rest : List ℕ) (kind : TokenKind) → spelling_of fresh (b ∷ rest) ≡ Some (Good kind) → Shape b rest kind
unfolding spelling_of
shape fresh b rest kind e =
    ⊎_elim
    (λ h. absurd (no_blank rest kind h.1))
    (λ h. ⊎_elim
    (λ k. shape_word b rest kind k.0 k.1)
    (λ k. ⊎_elim
    (λ l. shape_number b rest kind l.0 l.1)
    (λ l. ⊎_elim
    (λ q. quoted q.0 q.1)
    (λ q. shape_mark fresh b rest kind q.1)
    (pick (is_quote b) _ _ _ l.1))
    (pick (begins_number b rest) _ _ _ k.1))
    (pick (begins_word b) _ _ _ h.1))
    (pick (is_white b) _ _ _ e)

pub no_empty : (fresh : Bool) (kind : TokenKind) → spelling_of fresh [] ≡ Some (Good kind) → ⊥
unfolding spelling_of
no_empty fresh kind e = cc

-- a token is a token wherever it stands on its line
pub spells_anywhere : (fresh other : Bool) (text : List ℕ) (kind : TokenKind) → spelling_of fresh text ≡ Some (Good kind) → spelling_of other text ≡ Some (Good kind)
unfolding spelling_of
spells_anywhere fresh other [] kind e = absurd cc
spells_anywhere fresh other (b ∷ rest) kind e = by (b == 35) refl
  where
    by : (is : Bool) → (b == 35) ≡ is → spelling_of other (b ∷ rest) ≡ Some (Good kind)
    by false h = rw h (rw h at e)
    by true h = absurd (no_hash fresh rest kind (rw (eqb-true b 35 h) at e))

-- ---- the kinds of each shape

word_by_is : (o p : Option ℕ) (kind : TokenKind) → word_by o p ≡ Good kind → (kind ≡ Name) ⊎ (((n : ℕ) × (kind ≡ Keyword n) × (o ≡ Some n)) ⊎ ((n : ℕ) × (kind ≡ Punct n) × (p ≡ Some n)))
word_by_is (Some n) p kind e = inr (inl (n, cc, refl))
word_by_is None (Some n) kind e = inr (inr (n, cc, refl))
word_by_is None None kind e = inl cc

pub word_kind_is : (text : List ℕ) (kind : TokenKind) → word_kind text ≡ Good kind → (kind ≡ Name) ⊎ (((n : ℕ) × (kind ≡ Keyword n) × (number_in keywords text ≡ Some n)) ⊎ ((n : ℕ) × (kind ≡ Punct n) × (number_beside alternatives text ≡ Some n)))
unfolding word_kind
word_kind_is text kind e = word_by_is (number_in keywords text) (number_beside alternatives text) kind e

integer_by_is : (type : Option Base) (kind : TokenKind) → integer_by type ≡ Good kind → kind ≡ Integer
integer_by_is (Some type) kind e = cc
integer_by_is None kind e = absurd cc

number_by_is : (parts : Option IntegerParts) (floats : Bool) (kind : TokenKind) → number_by parts floats ≡ Good kind → kind ≡ Integer
number_by_is (Some parts) floats kind e = integer_by_is (integer_type parts) kind e
number_by_is None true kind e = absurd cc
number_by_is None false kind e = absurd cc

pub number_kind_is : (text : List ℕ) (kind : TokenKind) → number_kind text ≡ Good kind → kind ≡ Integer
unfolding number_kind
number_kind_is text kind e = number_by_is (integer_parts text) (is_floating text) kind e

-- what is a literal is closed by its last byte
literal_by_is : (is_wide : Bool) (quote : ℕ) (rest : List ℕ) (ending : Ending) (kind : TokenKind) → literal_by is_wide quote rest ending ≡ Some (Good kind) → (ending ≡ Closed) × (literal_kind is_wide quote (body_of rest) ≡ Good kind)
literal_by_is is_wide quote rest Open kind e = absurd cc
literal_by_is is_wide quote rest Closed kind e = (refl, cc)
literal_by_is is_wide quote rest Past kind e = absurd cc

pub literal_is_closed : (is_wide : Bool) (quote : ℕ) (rest : List ℕ) (kind : TokenKind) → literal is_wide quote rest ≡ Some (Good kind) → (literal_ending quote false rest ≡ Closed) × (literal_kind is_wide quote (body_of rest) ≡ Good kind)
unfolding literal
literal_is_closed is_wide quote rest kind e = literal_by_is is_wide quote rest (literal_ending quote false rest) kind e

character_by_is : (is_wide : Bool) (all : List Letter) (kind : TokenKind) → character_by is_wide all ≡ Good kind → kind ≡ Character
character_by_is is_wide [] kind e = absurd cc
character_by_is is_wide (c ∷ []) kind e =
    ⊎_elim
    (λ h. absurd (cc h.1))
    (λ h. ⊎_elim (λ k. absurd (cc k.1)) (λ k. cc k.1) (pick (is_universal_letter c) _ _ _ h.1))
    (pick (is_bad_letter is_wide c) _ _ _ e)
character_by_is is_wide (c ∷ d ∷ others) kind e = ⊎_elim (λ h. absurd (cc h.1)) (λ h. absurd (cc h.1)) (pick (list_any (is_bad_letter is_wide) (c ∷ d ∷ others)) _ _ _ e)

string_by_is : (is_wide : Bool) (all : List Letter) (kind : TokenKind) → string_by is_wide all ≡ Good kind → kind ≡ Text
string_by_is is_wide all kind e =
    ⊎_elim
    (λ h. absurd (cc h.1))
    (λ h. ⊎_elim (λ k. absurd (cc k.1)) (λ k. cc k.1) (pick (list_any is_universal_letter all) _ _ _ h.1))
    (pick (list_any (is_bad_letter is_wide) all) _ _ _ e)

pub literal_kind_is : (is_wide : Bool) (quote : ℕ) (body : List ℕ) (kind : TokenKind) → literal_kind is_wide quote body ≡ Good kind → (kind ≡ Character) ⊎ (kind ≡ Text)
literal_kind_is is_wide quote body kind e =
    ⊎_elim
    (λ h. inl (character_by_is is_wide (letters 0 body) kind h.1))
    (λ h. inr (string_by_is is_wide (letters 0 body) kind h.1))
    (pick (quote == 39) _ _ _ e)

-- a literal is a character or a string
pub literal_is : (is_wide : Bool) (quote : ℕ) (rest : List ℕ) (kind : TokenKind) → literal is_wide quote rest ≡ Some (Good kind) → (kind ≡ Character) ⊎ (kind ≡ Text)
literal_is is_wide quote rest kind e = literal_kind_is is_wide quote (body_of rest) kind (literal_is_closed is_wide quote rest kind e).1

first_of_is : (o p : Option ℕ) (n : ℕ) → first_of o p ≡ Some n → (o ≡ Some n) ⊎ (p ≡ Some n)
first_of_is (Some m) p n e = inl e
first_of_is None p n e = inr e

operator_by_is : (o : Option ℕ) (rest : List ℕ) (kind : TokenKind) → operator_by o rest ≡ Some (Good kind) → (n : ℕ) × (kind ≡ Punct n) × (o ≡ Some n)
operator_by_is (Some n) rest kind e = (n, cc, refl)
operator_by_is None rest kind e = absurd (no_ill rest reason.StrayByte kind e)

pub operator_is : (b : ℕ) (rest : List ℕ) (kind : TokenKind) → operator b rest ≡ Some (Good kind) → (n : ℕ) × (kind ≡ Punct n) × ((number_in operators (b ∷ rest) ≡ Some n) ⊎ (number_beside digraphs (b ∷ rest) ≡ Some n))
unfolding operator
operator_is b rest kind e =
    let by = operator_by_is (first_of (number_in operators (b ∷ rest)) (number_beside digraphs (b ∷ rest))) rest kind e in
    (by.0, by.1, first_of_is (number_in operators (b ∷ rest)) (number_beside digraphs (b ∷ rest)) by.0 by.2)
