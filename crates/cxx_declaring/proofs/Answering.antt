-- What follows a definition over the state is what a reader asks for.
use Rattle.std.specs.Prelude.{ℕ, ◌≡◌, List, [], ◌∷◌, Result, Ok, Err, refl, true}
use Rattle.std.proofs.Common.{subst, sym, ◌∙◌}
use Rattle.cxx_model.specs.declared.place.Place.{Place}
use Rattle.cxx_model.specs.declared.stop.Stop.{Stop}
use Rattle.cxx_model.specs.declared.token.TokenKind.{TokenKind}
use Rattle.cxx_model.specs.Stops.{Answer, Stops}
use Rattle.cxx_model.specs.Text.Lexemes.{Lexeme, spelling_ahead}
use Rattle.cxx_declare.specs.Made.{token}
use Rattle.cxx_reading.specs.Reads.{Ahead, word_ahead}
use Rattle.cxx_reading.specs.Specifiers.{path_of}
use Rattle.cxx_reading.specs.State.{CxxState}
use Rattle.cxx_reading.specs.Tokens.{is_plain_name, path_ahead, token_in}
use Rattle.cxx_reading.specs.Trees.{CxxPath}
use Rattle.cxx_cursor.specs.Asking.{AnyKnown, IsAsked}
use Rattle.cxx_cursor.proofs.Names.{plain_path}
use Rattle.cxx_tree.specs.Answered.{IsAnswered}
use Rattle.cxx_tree.specs.Held.{Held, meaning}

pub asked : {X A : Type 0} (view : Held → X → A) (known : Held → X → Type 0) (old new : Held) (result : Result X Stop) (reply : Answer (A × CxxState)) → IsAnswered view known old new result reply → IsAsked view known old new result reply
asked view known old new (Ok x) reply answered = record { is = answered.is; later = answered.later }
asked view known old new (Err stop) reply answered = record { is = answered.is; later = answered.later }

word_is : (tokens : List Lexeme) → spelling_ahead tokens ≡ (token_in tokens).spelling
word_is [] = refl
word_is (token ∷ tokens) = refl

-- a name without qualifiers, whose spelling is handed over
pub plain_asked : {X A : Type 0} (view : Held → X → A) (known : Held → X → Type 0) (old new : Held) (result : Result X Stop) (question : CxxPath → Answer (A × CxxState)) (ahead : Ahead) (word : List ℕ) → is_plain_name ahead ≡ true → word ≡ word_ahead ahead → ((kind : TokenKind) (place : Place) → IsAnswered view known old new result (question (path_of (token kind place word)))) → IsAsked view known old new result (question (path_ahead ahead))
plain_asked view known old new result question ahead word plain same answered =
    let name : Lexeme = token_in ahead.tokens in
    let spelled : word ≡ name.spelling = same ∙ word_is ahead.tokens in
    subst (λ (path : CxxPath). IsAsked view known old new result (question path)) (sym (plain_path ahead plain))
    (subst (λ (spelling : List ℕ). IsAsked view known old new result (question (path_of (token name.kind name.place spelling)))) spelled
    (asked view known old new result (question (path_of (token name.kind name.place word))) (answered name.kind name.place)))

-- a name that is handed over by its place and its spelling, where what is answered is known
pub named_known : {X A : Type 0} (view : Held → X → A) (known : Held → X → Type 0) (old new : Held) (result : Result X Stop) (question : Lexeme → Answer (A × CxxState)) (name : Lexeme) (word : List ℕ) → word ≡ name.spelling → ((kind : TokenKind) → IsAnswered view known old new result (question (token kind name.place word))) → IsAsked view known old new result (question name)
named_known view known old new result question name word same answered =
    subst (λ (spelling : List ℕ). IsAsked view known old new result (question (token name.kind name.place spelling))) same
    (asked view known old new result (question (token name.kind name.place word)) (answered name.kind))

-- the same where only that is asked
pub named_asked : {X A : Type 0} (view : Held → X → A) (known : Held → X → Type 0) (old new : Held) (result : Result X Stop) (question : Lexeme → Answer (A × CxxState)) (name : Lexeme) (word : List ℕ) → word ≡ name.spelling → ((kind : TokenKind) → IsAnswered view known old new result (question (token kind name.place word))) → IsAsked view AnyKnown old new result (question name)
named_asked view known old new (Ok x) question name word same answered =
    let found = answered name.kind in
    record { is = (subst (λ (spelling : List ℕ). question (token name.kind name.place spelling) ≡ Ok (view new x, meaning new)) same found.is.0, tt); later = found.later }
named_asked view known old new (Err stop) question name word same answered =
    let found = answered name.kind in
    record { is = subst (λ (spelling : List ℕ). Stops stop (question (token name.kind name.place spelling))) same found.is; later = found.later }
