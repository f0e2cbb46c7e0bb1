-- What a text is that spells a keyword or a punctuator.
use Rattle.std.proofs.Common.{◌≡◌, ◌⊎◌, inl, inr, ⊎_elim, ℕ, Bool, true, false, List, [], ◌∷◌, Some, sym, subst}
use Rattle.cxx_model.specs.declared.token.TokenKind.{TokenKind}
use Rattle.cxx_model.specs.declared.token.TokenKind.TheVariants.{Name, Keyword, Punct, Integer, Character, Text, End}
use Rattle.cxx_model.specs.Text.Spelling.{Good, number_in, number_beside, keywords, alternatives, operators, digraphs, spelling_of}
use Rattle.cxx_model.proofs.Shapes.{Shape, wordy, wide, number, quoted, operated, no_empty, shape, word_kind_is, number_kind_is, literal_is, operator_is}

-- the text is the primary spelling of a punctuator, a word for it or its digraph
abbrev pub SpellsPunct : ℕ → List ℕ → Type 0
SpellsPunct n text = (number_in operators text ≡ Some n) ⊎ ((number_beside alternatives text ≡ Some n) ⊎ (number_beside digraphs text ≡ Some n))

-- what the text of a token of this kind is
abbrev pub KindSpells : TokenKind → List ℕ → Type 0
KindSpells (Keyword n) text = number_in keywords text ≡ Some n
KindSpells (Punct n) text = SpellsPunct n text
KindSpells Name text = Unit {0}
KindSpells Integer text = Unit {0}
KindSpells Character text = Unit {0}
KindSpells Text text = Unit {0}
KindSpells End text = Unit {0}

kind_is : (text : List ℕ) (one two : TokenKind) → one ≡ two → KindSpells two text → KindSpells one text
kind_is text one two e h = subst (λ k. KindSpells k text) (sym e) h

literal_good : (text : List ℕ) (kind : TokenKind) → (kind ≡ Character) ⊎ (kind ≡ Text) → KindSpells kind text
literal_good text kind h = ⊎_elim (λ e. kind_is text kind Character e tt) (λ e. kind_is text kind Text e tt) h

of_shape : (b : ℕ) (rest : List ℕ) (kind : TokenKind) → Shape b rest kind → KindSpells kind (b ∷ rest)
of_shape b rest kind (wordy begins all is) =
    ⊎_elim
    (λ e. kind_is (b ∷ rest) kind Name e tt)
    (λ h. ⊎_elim
    (λ k. kind_is (b ∷ rest) kind (Keyword k.0) k.1 k.2)
    (λ k. kind_is (b ∷ rest) kind (Punct k.0) k.1 (inr (inl k.2)))
    h)
    (word_kind_is (b ∷ rest) kind is)
of_shape b rest kind (wide quote tail first second is_quote is) = literal_good (b ∷ rest) kind (literal_is true quote tail kind is)
of_shape b rest kind (number begins all is) = kind_is (b ∷ rest) kind Integer (number_kind_is (b ∷ rest) kind is) tt
of_shape b rest kind (quoted is_quote is) = literal_good (b ∷ rest) kind (literal_is false b rest kind is)
of_shape b rest kind (operated is) =
    let by = operator_is b rest kind is in
    kind_is (b ∷ rest) kind (Punct by.0) by.1 (⊎_elim (λ h. inl h) (λ h. inr (inr h)) by.2)

pub kind_spells : (fresh : Bool) (text : List ℕ) (kind : TokenKind) → spelling_of fresh text ≡ Some (Good kind) → KindSpells kind text
kind_spells fresh [] kind e = absurd (no_empty fresh kind e)
kind_spells fresh (b ∷ rest) kind e = of_shape b rest kind (shape fresh b rest kind e)
