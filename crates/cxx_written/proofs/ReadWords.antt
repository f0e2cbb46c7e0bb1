-- What is read is spelled as what it is.
use Rattle.std.proofs.Common.{◌≡◌, ℕ, ◌+◌, ◌-◌, Bool, true, false, inl, inr, List, [], ◌∷◌, take, drop, map, Option, Ok, refl, ap, ◌∙◌, arith}
use Rattle.std.specs.List.{AllByRecursion}
use Rattle.std.specs.Prelude.{◌&&◌, if◌then◌else◌}
use Rattle.cxx_model.specs.declared.token.Token.{Token}
use Rattle.cxx_model.specs.declared.token.TokenKind.{TokenKind}
use Rattle.cxx_model.specs.declared.token.TokenKind.TheVariants.{Text}
use Rattle.cxx_model.specs.Text.Lexemes.{lexeme_of, lexemes}
use Rattle.cxx_model.specs.Text.Spelling.{spelling_of}
use Rattle.cxx_model.specs.Text.Tokens.{Width, is_fresh, is_text, join_list, tokens_of, IsTokenList, at_end, after_blank, after_token}
use Rattle.cxx_model.specs.Printing.Written.{written}
use Rattle.cxx_model.proofs.Readings.{means_at}
use Rattle.cxx_model.proofs.Shapes.{spells_anywhere}
use Rattle.cxx_written.specs.ReadsAs.{end_word, IsReadWord}

-- each token is spelled as what it is, or is a string or the end
record AreRead (bytes : List ℕ) (tokens : List Token) : Type 0 where
  pub each : AllByRecursion IsReadWord (map written (lexemes bytes tokens))

is_the_text : (kind : TokenKind) → is_text kind ≡ true → kind ≡ Text
is_the_text Text h = refl
is_the_text _ h = absurd cc

-- what is joined is a string
join_read : (bytes : List ℕ) (token : Token) (tokens : List Token) → IsReadWord (written (lexeme_of bytes token)) → AreRead bytes tokens → AreRead bytes (join_list token tokens)
join_read bytes token [] here rest = record { each = (here, tt) }
join_read bytes token (next ∷ tokens) here rest = by (is_text token.kind) (is_text next.kind) refl
  where
    by : (one two : Bool) → is_text token.kind ≡ one → AreRead bytes (if one && two then record { kind = token.kind; place = token.place; from = token.from; to = next.to } ∷ tokens else token ∷ next ∷ tokens)
    by true true h = record { each = (inr (inl (is_the_text token.kind h)), rest.each.1) }
    by true false h = record { each = (here, rest.each) }
    by false two h = record { each = (here, rest.each) }

list_is_read : (bytes : List ℕ) {at : ℕ} {before : Option Width} {tokens : List Token} → IsTokenList bytes at before tokens → AreRead bytes tokens
list_is_read bytes (at_end at before e) =
    let n : at - at ≡ 0 = omega arith in
    let nothing : take (at - at) (drop at bytes) ≡ [] = rw n refl in
    record { each = (inr (inr (λ i. record { kind = end_word.kind; spelling = nothing i })), tt) }
list_is_read bytes (after_blank at len before tokens longest rest) = list_is_read bytes rest
list_is_read bytes (after_token at len before kind tokens longest sound rest) =
    let n : at + len - at ≡ len = omega arith in
    let spelled = spells_anywhere (is_fresh (take at bytes)) false (take len (drop at bytes)) kind longest.spelled in
    join_read bytes _ tokens (inl (record { spelled = ap (λ k. spelling_of false (take k (drop at bytes))) n ∙ spelled })) (list_is_read bytes rest)

pub read_is_spelled : (bytes : List ℕ) (tokens : List Token) → tokens_of bytes ≡ Ok tokens → AllByRecursion IsReadWord (map written (lexemes bytes tokens))
read_is_spelled bytes tokens e = (list_is_read bytes (means_at bytes (Ok tokens) e).0).each
