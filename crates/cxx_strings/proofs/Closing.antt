-- A string that is closed, by whether its characters are sound.
use Rattle.std.proofs.Common.{◌≡◌, ◌<◌, ◌≤◌, ◌+◌, ℕ, Bool, true, false, not, ◌==◌, ◌&&◌, cond, List, length, get_or, take, Option, Some, None, refl, sym, ap, ◌∙◌, subst, length-take-le, arith}
use Rattle.std.specs.List.{list_any}
use Rattle.cxx_model.specs.declared.token.TokenReason.TheVariants as reason
use Rattle.cxx_model.specs.declared.token.TokenKind.TheVariants.{Text}
use Rattle.cxx_model.specs.Text.Continuing.{IsLongestBy, Goes}
use Rattle.cxx_model.specs.Text.Spelling.{Spelled, Good, Ill, literal, literal_ending, is_bad_letter, is_universal_letter, letters}
use Rattle.cxx_tokens.proofs.Scans.{literal_ends_at, literal_breaks, literal_runs_out}
use Rattle.cxx_strings.specs.Pieces.{Finds, FindsOther, closed_len}

by_characters : (bad universal : Bool) (rule : List ℕ → Option Spelled) (text : List ℕ) (len n : ℕ) (found : Option ℕ) → len + 1 ≡ n
    → IsLongestBy rule text n (cond bad (Ill reason.BadEscape) (cond universal (Ill reason.UniversalName) (Good Text)))
    → found ≡ cond (not bad && not universal) (Some (len + 1)) None → Finds rule text (Good Text) found
by_characters true universal rule text len n found e h is = subst (λ f. Finds rule text (Good Text) f) (sym is) (record { len = n; spells = Ill reason.BadEscape; longest = h; other = refl })
by_characters false true rule text len n found e h is = subst (λ f. Finds rule text (Good Text) f) (sym is) (record { len = n; spells = Ill reason.UniversalName; longest = h; other = refl })
by_characters false false rule text len n found e h is = subst (λ f. Finds rule text (Good Text) f) (sym (is ∙ ap (λ k. Some k) e)) h

pub closes : (wide : Bool) (rest : List ℕ) (i : ℕ) (escaped : Bool) (found : Option ℕ) → i < length rest → Goes (literal_ending 34 false) (literal_ending 34 escaped) (take i rest) → (not escaped && get_or rest i 0 == 34) ≡ true → found ≡ closed_len wide (take i rest) → Finds (literal wide 34) rest (Good Text) found
closes wide rest i escaped found inside goes ends is =
    let body = take i rest in
    let e : length body + 1 ≡ i + 1 = omega (arith, length-take-le i rest (omega arith)) in
    by_characters (list_any (is_bad_letter wide) (letters 0 body)) (list_any is_universal_letter (letters 0 body)) (literal wide 34) rest (length body) (i + 1) found e
    (literal_ends_at wide 34 rest i escaped _ refl inside goes ends refl) is

pub breaks : (wide : Bool) (rest : List ℕ) (i : ℕ) (escaped : Bool) → i < length rest → Goes (literal_ending 34 false) (literal_ending 34 escaped) (take i rest) → (get_or rest i 0 == 10) ≡ true → FindsOther (literal wide 34) rest
breaks wide rest i escaped inside goes h = record { len = i; spells = Ill reason.UnfinishedLiteral; longest = literal_breaks wide 34 rest i escaped inside goes h; other = refl }

pub runs_out : (wide : Bool) (rest : List ℕ) (i : ℕ) (escaped : Bool) → length rest ≤ i → Goes (literal_ending 34 false) (literal_ending 34 escaped) (take i rest) → FindsOther (literal wide 34) rest
runs_out wide rest i escaped end goes = record { len = length rest; spells = Ill reason.UnfinishedLiteral; longest = literal_runs_out wide 34 rest i escaped end goes; other = refl }
