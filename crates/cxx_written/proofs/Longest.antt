-- Words before a byte that does not go on with them: each is the longest front there.
use Rattle.std.proofs.Common.{◌≡◌, ℕ, Bool, true, false, ◌&&◌, ◌||◌, ◌==◌, List, [], ◌∷◌, ◌++◌, length, Some, refl, subst}
use Rattle.std.proofs.lemmas.Bool.{and_right, and_parts}
use Rattle.std.specs.List.{list_all}
use Rattle.cxx_model.specs.declared.token.TokenKind.{TokenKind}
use Rattle.cxx_model.specs.declared.token.TokenKind.TheVariants.{Punct, Integer, Character}
use Rattle.cxx_model.specs.Text.Continuing.{starts, number_goes_on, last_of, operator_goes_on}
use Rattle.cxx_model.specs.Text.Spelling.{Good, is_word, begins_word, begins_number, is_number_rest, is_sign, is_exponent, is_quote, word_kind, number_kind, number_in, operators, spelling_of}
use Rattle.cxx_model.specs.Text.Tokens.{IsLongest}
use Rattle.cxx_model.proofs.Shapes.{spells_anywhere}
use Rattle.cxx_model.proofs.Spellings.{word_is_no_quote, word_longest, number_front, character_front, punct_front}
use Rattle.cxx_written.specs.Ends.{ends_in_exponent}

-- wherever it stands, and whatever comes behind this byte, the text is the longest front
abbrev pub Ends : List ℕ → TokenKind → ℕ → Type 0
Ends text kind c = (fresh : Bool) (rest : List ℕ) → IsLongest fresh (text ++ c ∷ rest) (record { len = length text; spells = Good kind })

narrow : (b : ℕ) (w : List ℕ) (c : ℕ) (rest : List ℕ) → list_all is_word w ≡ true → (w ≡ [] → (b == 76 && is_quote c) ≡ false) → (b == 76 && starts is_quote (w ++ c ∷ rest)) ≡ false
narrow b [] c rest all h = h refl
narrow b (x ∷ w) c rest all h = and_right (b == 76) (is_quote x) (word_is_no_quote x (and_parts _ _ all).0)

-- a word, where it does not begin a wide literal
pub word_ends : (b : ℕ) (w : List ℕ) (kind : TokenKind) (c : ℕ) → begins_word b ≡ true → list_all is_word w ≡ true → word_kind (b ∷ w) ≡ Good kind → is_word c ≡ false → (w ≡ [] → (b == 76 && is_quote c) ≡ false) → Ends (b ∷ w) kind c
word_ends b w kind c begins all is other no_wide fresh rest = rw is at (word_longest fresh b w (c ∷ rest) begins all other (narrow b w c rest all no_wide))

last_exponent : (first : ℕ) (w : List ℕ) → ends_in_exponent (first ∷ w) ≡ is_exponent (last_of first w)
last_exponent first [] = refl
last_exponent first (b ∷ w) = last_exponent b w

pub number_ends : (b : ℕ) (w : List ℕ) (c : ℕ) → begins_number b w ≡ true → is_number_rest b w ≡ true → number_kind (b ∷ w) ≡ Good Integer → (is_word c || c == 46 || (is_sign c && ends_in_exponent (b ∷ w))) ≡ false → Ends (b ∷ w) Integer c
number_ends b w c begins all is ends fresh rest =
    let stops : number_goes_on (last_of b w) c ≡ false = subst (λ e. (is_word c || c == 46 || (is_sign c && e)) ≡ false) (last_exponent b w) ends in
    rw is at (number_front fresh b w (c ∷ rest) begins all stops)

pub character_ends : (text : List ℕ) (c : ℕ) → spelling_of false text ≡ Some (Good Character) → Ends text Character c
character_ends text c spelled fresh rest = character_front fresh text (c ∷ rest) (spells_anywhere false fresh text Character spelled)

pub punct_ends : (text : List ℕ) (n c : ℕ) → number_in operators text ≡ Some n → operator_goes_on text c ≡ false → Ends text (Punct n) c
punct_ends text n c is stops fresh rest = punct_front fresh text (c ∷ rest) n is stops
