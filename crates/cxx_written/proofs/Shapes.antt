-- What the text of a word looks like.
use Rattle.std.proofs.Common.{◌≡◌, ℕ, Bool, true, false, ◌⊎◌, inl, inr, ⊎_elim, List, ◌∷◌, Some, refl}
use Rattle.std.specs.List.{list_all}
use Rattle.cxx_model.specs.declared.token.TokenKind.{TokenKind}
use Rattle.cxx_model.specs.declared.token.TokenKind.TheVariants.{Name, Keyword, Integer, Character, Text}
use Rattle.cxx_model.specs.Text.Spelling.{Good, is_word, begins_word, begins_number, is_number_rest, is_quote, word_kind, number_kind, literal, spelling_of}
use Rattle.cxx_model.proofs.Shapes.{Shape, wordy, wide, number, quoted, operated, word_kind_is, number_kind_is, literal_is, operator_is}

abbrev pub Spells : List ℕ → TokenKind → Type 0
Spells text kind = spelling_of false text ≡ Some (Good kind)

-- ---- words

abbrev pub is_word_kind : TokenKind → Bool
is_word_kind Name = true
is_word_kind (Keyword n) = true
is_word_kind _ = false

pub record IsWordText (b : ℕ) (rest : List ℕ) (kind : TokenKind) : Type 0 where
  pub begins : begins_word b ≡ true
  pub all : list_all is_word rest ≡ true
  pub is : word_kind (b ∷ rest) ≡ Good kind

no_literal : (kind : TokenKind) → is_word_kind kind ≡ true → (kind ≡ Character) ⊎ (kind ≡ Text) → ⊥
no_literal kind h is = ⊎_elim (λ e. let f : is_word_kind kind ≡ false = rw e refl in cc) (λ e. let f : is_word_kind kind ≡ false = rw e refl in cc) is

-- names and keywords
pub word_text : (b : ℕ) (rest : List ℕ) (kind : TokenKind) → is_word_kind kind ≡ true → Shape b rest kind → IsWordText b rest kind
word_text b rest kind h (wordy begins all is) = record { begins = begins; all = all; is = is }
word_text b rest kind h (wide quote tail first second is_quote is) = absurd (no_literal kind h (literal_is true quote tail kind is))
word_text b rest kind h (number begins all is) = let f : is_word_kind kind ≡ false = rw (number_kind_is (b ∷ rest) kind is) refl in absurd (cc)
word_text b rest kind h (quoted is_quote is) = absurd (no_literal kind h (literal_is false b rest kind is))
word_text b rest kind h (operated is) = let f : is_word_kind kind ≡ false = rw (operator_is b rest kind is).1 refl in absurd (cc)

-- ---- integers

pub record IsIntegerText (b : ℕ) (rest : List ℕ) : Type 0 where
  pub begins : begins_number b rest ≡ true
  pub all : is_number_rest b rest ≡ true
  pub is : number_kind (b ∷ rest) ≡ Good Integer

pub integer_text : (b : ℕ) (rest : List ℕ) → Shape b rest Integer → IsIntegerText b rest
integer_text b rest (wordy begins all is) = absurd (⊎_elim (λ e. cc) (λ h. ⊎_elim (λ k. cc k.1) (λ k. cc k.1) h) (word_kind_is (b ∷ rest) Integer is))
integer_text b rest (wide quote tail first second is_quote is) = absurd (⊎_elim (λ e. cc) (λ e. cc) (literal_is true quote tail Integer is))
integer_text b rest (number begins all is) = record { begins = begins; all = all; is = is }
integer_text b rest (quoted is_quote is) = absurd (⊎_elim (λ e. cc) (λ e. cc) (literal_is false b rest Integer is))
integer_text b rest (operated is) = absurd (cc (operator_is b rest Integer is).1)

-- ---- characters

pub record IsNarrowText (b : ℕ) (rest : List ℕ) : Type 0 where
  pub begins : is_quote b ≡ true
  pub is : literal false b rest ≡ Some (Good Character)

pub record IsWideText (b : ℕ) (rest : List ℕ) : Type 0 where
  pub quote : ℕ
  pub tail : List ℕ
  pub text : b ∷ rest ≡ 76 ∷ quote ∷ tail
  pub begins : is_quote quote ≡ true
  pub is : literal true quote tail ≡ Some (Good Character)

pub character_text : (b : ℕ) (rest : List ℕ) → Shape b rest Character → IsNarrowText b rest ⊎ IsWideText b rest
character_text b rest (wordy begins all is) = absurd (⊎_elim (λ e. cc) (λ h. ⊎_elim (λ k. cc k.1) (λ k. cc k.1) h) (word_kind_is (b ∷ rest) Character is))
character_text b rest (wide quote tail first second is_quote is) = inr (record { quote = quote; tail = tail; text = cc; begins = is_quote; is = is })
character_text b rest (number begins all is) = absurd (cc (number_kind_is (b ∷ rest) Character is))
character_text b rest (quoted is_quote is) = inl (record { begins = is_quote; is = is })
character_text b rest (operated is) = absurd (cc (operator_is b rest Character is).1)
