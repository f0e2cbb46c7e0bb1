-- A text that begins neither as white space nor as a string, and what its front spells.
use Rattle.std.proofs.Common.{◌≡◌, ◌<◌, ℕ, zero, suc, Bool, true, false, cond, ◌==◌, ◌&&◌, ◌||◌, List, [], ◌∷◌, take, Option, Some, None, refl, sym, ap, ◌∙◌, subst, ⊎_elim, arith, eqb-true}
use Rattle.std.proofs.lemmas.Bool.{both_ways, cases_Bool, or_parts}
use Rattle.std.specs.List.{list_all, list_any}
use Rattle.cxx_model.specs.declared.base.Base.{Base}
use Rattle.cxx_model.specs.declared.token.TokenReason.{TokenReason}
use Rattle.cxx_model.specs.declared.token.TokenReason.TheVariants as reason
use Rattle.cxx_model.specs.declared.token.TokenKind.TheVariants.{Character}
use Rattle.cxx_model.specs.Text.Continuing.{starts, begins_comment}
use Rattle.cxx_model.specs.Text.Spelling.{Spelled, Good, Ill, Ending, Open, Closed, Past, IntegerParts, Letter, alone, is_white, is_word, begins_word, begins_number, is_number_rest, is_quote, word_by, word_kind, keywords, alternatives, number_in, number_beside, first_of, operators, digraphs, integer_by, integer_parts, integer_type, is_floating, number_by, number_kind, operator_by, operator, character_by, is_bad_letter, is_universal_letter, letters, body_of, literal_by, literal_ending, literal, wide_literal, slash, backslash, percent, spelling_of}
use Rattle.cxx_model.proofs.Fronts.{begins}
use Rattle.cxx_strings.specs.Pieces.{is_other, BeginsOther, begins_wide}

-- what is neither white space nor a string, or nothing
abbrev is_strange : Option Spelled → Bool
is_strange None = true
is_strange (Some spells) = is_other spells

either : (c : Bool) (x y : Option Spelled) → (c ≡ true → is_strange x ≡ true) → (c ≡ false → is_strange y ≡ true) → is_strange (cond c x y) ≡ true
either true x y h k = h refl
either false x y h k = k refl

both : (c : Bool) (x y : Option Spelled) → is_strange x ≡ true → is_strange y ≡ true → is_strange (cond c x y) ≡ true
both c x y h k = either c x y (λ e. h) (λ e. k)

alone_strange : (rest : List ℕ) (why : TokenReason) → is_strange (alone rest (Ill why)) ≡ true
alone_strange [] why = refl
alone_strange (b ∷ rest) why = refl

word_strange : (text : List ℕ) → is_strange (Some (word_kind text)) ≡ true
unfolding word_kind
word_strange text = by (number_in keywords text) (number_beside alternatives text)
  where
    by : (m n : Option ℕ) → is_strange (Some (word_by m n)) ≡ true
    by (Some m) n = refl
    by None (Some n) = refl
    by None None = refl

number_strange : (text : List ℕ) → is_strange (Some (number_kind text)) ≡ true
unfolding number_kind
number_strange text = by (integer_parts text) (is_floating text)
  where
    typed : (type : Option Base) → is_strange (Some (integer_by type)) ≡ true
    typed (Some type) = refl
    typed None = refl

    by : (parts : Option IntegerParts) (floats : Bool) → is_strange (Some (number_by parts floats)) ≡ true
    by (Some parts) floats = typed (integer_type parts)
    by None true = refl
    by None false = refl

operator_strange : (b : ℕ) (rest : List ℕ) → is_strange (operator b rest) ≡ true
unfolding operator
operator_strange b rest = by (first_of (number_in operators (b ∷ rest)) (number_beside digraphs (b ∷ rest)))
  where
    by : (n : Option ℕ) → is_strange (operator_by n rest) ≡ true
    by (Some n) = refl
    by None = alone_strange rest reason.StrayByte

character_strange : (wide : Bool) (all : List Letter) → is_strange (Some (character_by wide all)) ≡ true
character_strange wide [] = refl
character_strange wide (c ∷ []) = by (is_bad_letter wide c) (is_universal_letter c)
  where
    by : (bad universal : Bool) → is_strange (Some (cond bad (Ill reason.BadEscape) (cond universal (Ill reason.UniversalName) (Good Character)))) ≡ true
    by true universal = refl
    by false true = refl
    by false false = refl
character_strange wide (c ∷ d ∷ others) = by (list_any (is_bad_letter wide) (c ∷ d ∷ others))
  where
    by : (bad : Bool) → is_strange (Some (cond bad (Ill reason.BadEscape) (Ill reason.MultiCharacter))) ≡ true
    by true = refl
    by false = refl

-- a literal between single quotes
literal_strange : (wide : Bool) (rest : List ℕ) → is_strange (literal wide 39 rest) ≡ true
unfolding literal
literal_strange wide rest = by (literal_ending 39 false rest)
  where
    by : (ending : Ending) → is_strange (literal_by wide 39 rest ending) ≡ true
    by Open = refl
    by Closed = character_strange wide (letters 0 (body_of rest))
    by Past = refl

single : (quote : ℕ) → is_quote quote ≡ true → (quote == 34) ≡ false → quote ≡ 39
single quote h other =
    ⊎_elim
    (λ (is : (quote == 39) ≡ true). eqb-true quote 39 is)
    (λ (is_not : (quote == 39) ≡ false). absurd (both_ways (is_quote quote) (ap (λ c. c || quote == 34) is_not ∙ other) h))
    (cases_Bool (quote == 39))

quote_strange : (wide : Bool) (quote : ℕ) (rest : List ℕ) → is_quote quote ≡ true → (quote == 34) ≡ false → is_strange (literal wide quote rest) ≡ true
quote_strange wide quote rest h other = let e = single quote h other in subst (λ q. is_strange (literal wide q rest) ≡ true) (sym e) (literal_strange wide rest)

second : (p q : Bool) → (p && q) ≡ false → p ≡ true → q ≡ false
second true q h e = h
second false q h e = absurd cc

wide_strange : (b : ℕ) (rest : List ℕ) → begins_wide (b ∷ rest) ≡ false → is_strange (wide_literal b rest) ≡ true
wide_strange b [] narrow = refl
wide_strange b (quote ∷ rest) narrow =
    either (b == 76 && is_quote quote) _ _
    (λ h. let p = both_true (b == 76) (is_quote quote) h in quote_strange true quote rest p.1 (second (b == 76) (quote == 34) narrow p.0))
    (λ h. refl)
  where
    both_true : (p q : Bool) → (p && q) ≡ true → (p ≡ true) × (q ≡ true)
    both_true true q h = (refl, h)
    both_true false q h = absurd cc

slash_strange : (rest : List ℕ) → starts begins_comment rest ≡ false → is_strange (slash rest) ≡ true
unfolding slash
slash_strange [] h = operator_strange 47 []
slash_strange (c ∷ rest) h = let p = or_parts (c == 47) (c == 42) h in rw (p.0, p.1) (operator_strange 47 (c ∷ rest))

backslash_strange : (rest : List ℕ) → is_strange (backslash rest) ≡ true
backslash_strange [] = refl
backslash_strange (b ∷ rest) = both (b == 117 || b == 85) _ _ (alone_strange rest reason.UniversalName) refl

percent_strange : (rest : List ℕ) → is_strange (percent rest) ≡ true
unfolding percent
percent_strange [] = operator_strange 37 []
percent_strange (b ∷ rest) = both (b == 58) _ _ (alone_strange rest reason.Directive) (operator_strange 37 (b ∷ rest))

-- the first byte begins neither white space nor a string, a marker line or a comment
pub record IsStrange (b : ℕ) (rest : List ℕ) : Type 0 where
  pub black : is_white b ≡ false
  pub no_quote : (b == 34) ≡ false
  pub no_wide : begins_wide (b ∷ rest) ≡ false
  pub no_hash : (b == 35) ≡ false
  pub no_comment : (b == 47 && starts begins_comment rest) ≡ false

spells_strange : (fresh : Bool) (b : ℕ) (rest : List ℕ) → IsStrange b rest → is_strange (spelling_of fresh (b ∷ rest)) ≡ true
unfolding spelling_of
spells_strange fresh b rest is =
    rw (is.black, is.no_hash)
    (both (begins_word b) _ _ (both (list_all is_word rest) _ _ (word_strange (b ∷ rest)) (wide_strange b rest is.no_wide))
    (both (begins_number b rest) _ _ (both (is_number_rest b rest) _ _ (number_strange (b ∷ rest)) refl)
    (either (is_quote b) _ _ (λ h. quote_strange false b rest h is.no_quote) (λ h.
    either (b == 47) _ _ (λ e. slash_strange rest (second (b == 47) (starts begins_comment rest) is.no_comment e)) (λ e.
    both (b == 92) _ _ (backslash_strange rest)
    (both (b == 37) _ _ (percent_strange rest) (operator_strange b rest)))))))

-- ---- the longest front

starts_take : (test : ℕ → Bool) (rest : List ℕ) (m : ℕ) → starts test rest ≡ false → starts test (take m rest) ≡ false
starts_take test rest zero h = refl
starts_take test [] (suc m) h = refl
starts_take test (c ∷ rest) (suc m) h = h

and_take : (p : Bool) (test : ℕ → Bool) (rest : List ℕ) (m : ℕ) → (p && starts test rest) ≡ false → (p && starts test (take m rest)) ≡ false
and_take false test rest m h = refl
and_take true test rest m h = starts_take test rest m h

strange_take : (b : ℕ) (rest : List ℕ) (m : ℕ) → IsStrange b rest → IsStrange b (take m rest)
strange_take b rest m is = record {
  black = is.black;
  no_quote = is.no_quote;
  no_wide = and_take (b == 76) (λ c. c == 34) rest m is.no_wide;
  no_hash = is.no_hash;
  no_comment = and_take (b == 47) begins_comment rest m is.no_comment;
}

front_strange : (fresh : Bool) (b : ℕ) (rest : List ℕ) (len : ℕ) (spells : Spelled) → IsStrange b rest → 0 < len → spelling_of fresh (take len (b ∷ rest)) ≡ Some spells → is_other spells ≡ true
front_strange fresh b rest zero spells is some e = absurd (omega arith)
front_strange fresh b rest (suc n) spells is some e = ap is_strange (sym e) ∙ spells_strange fresh b (take n rest) (strange_take b rest n is)

pub strange : (fresh : Bool) (b : ℕ) (rest : List ℕ) → IsStrange b rest → BeginsOther fresh (b ∷ rest)
strange fresh b rest is =
    let first = begins fresh (b ∷ rest) (omega arith) in record {
      piece = first.0;
      longest = first.1;
      other = front_strange fresh b rest first.0.len first.0.spells is first.1.some first.1.spelled;
    }
