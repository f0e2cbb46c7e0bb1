-- Scans of comments, lines and literals, a byte at a time.
use Rattle.std.proofs.Common.{◌≡◌, ◌≤◌, ◌<◌, ℕ, suc, ◌+◌, Bool, true, false, not, ◌==◌, ◌&&◌, ◌||◌, List, [], ◌∷◌, ◌++◌, length, get_or, take, drop, Option, refl, sym, ap, ◌∙◌, subst, arith, take-append-drop, length-take-le, inl, inr, eqb-true, take_all, append-nil}
use Rattle.std.proofs.Math.Seq.{drop-cons}
use Rattle.std.proofs.lemmas.List.{take_more}
use Rattle.std.proofs.lemmas.Bool.{or_from}
use Rattle.std.specs.List.{list_any}
use Rattle.cxx_model.specs.declared.token.TokenReason.TheVariants as reason
use Rattle.cxx_model.specs.Text.Spelling.{Spelled, Blank, Ill, Ending, is_quote, is_newline, within_line, comment_ending, literal_ending, literal_kind, literal}
use Rattle.cxx_model.specs.Text.Continuing.{IsLongestBy, Goes, comment}
use Rattle.cxx_model.proofs.Spellings.{goes_more, comment_closed, comment_open, literal_closed, literal_open, line_longest}

pub goes_at : (f g h : List ℕ → Ending) (rest : List ℕ) (i : ℕ) → i < length rest → Goes f g (take i rest) → ((text : List ℕ) → g (get_or rest i 0 ∷ text) ≡ h text) → Goes f h (take (i + 1) rest)
goes_at f g h rest i inside goes next = subst (λ done. Goes f h done) (sym (take_more rest i 0 inside)) (goes_more f g h (take i rest) (get_or rest i 0) goes next)

-- the text by the bytes before one, it, and the bytes behind it
pub split_at : (rest : List ℕ) (i : ℕ) → i < length rest → take i rest ++ get_or rest i 0 ∷ drop (suc i) rest ≡ rest
split_at rest i inside = ap (λ t. take i rest ++ t) (sym (drop-cons rest i 0 inside)) ∙ take-append-drop i rest

pub same_by : (rule : List ℕ → Option Spelled) (one two : List ℕ) (len n : ℕ) (spells : Spelled) → one ≡ two → len ≡ n → IsLongestBy rule one len spells → IsLongestBy rule two n spells
same_by rule one two len n spells e f h = subst (λ t. IsLongestBy rule t n spells) e (subst (λ k. IsLongestBy rule one k spells) f h)

-- ---- comments

comment_next : (star : Bool) (b : ℕ) → (star && b == 47) ≡ false → (text : List ℕ) → comment_ending star (b ∷ text) ≡ comment_ending (b == 42) text
comment_next star b h text = rw h refl

pub comment_more : (rest : List ℕ) (i : ℕ) (star next : Bool) → i < length rest → Goes (comment_ending false) (comment_ending star) (take i rest) → (star && get_or rest i 0 == 47) ≡ false → next ≡ (get_or rest i 0 == 42) → Goes (comment_ending false) (comment_ending next) (take (i + 1) rest)
comment_more rest i star next inside goes h e = subst (λ s. Goes (comment_ending false) (comment_ending s) (take (i + 1) rest)) (sym e) (goes_at (comment_ending false) (comment_ending star) (comment_ending (get_or rest i 0 == 42)) rest i inside goes (comment_next star (get_or rest i 0) h))

star_parts : (star : Bool) (b : ℕ) → (star && b == 47) ≡ true → (star ≡ true) × (b ≡ 47)
star_parts true b h = (refl, eqb-true b 47 h)
star_parts false b h = absurd cc

pub comment_ends : (rest : List ℕ) (i : ℕ) (star : Bool) → i < length rest → Goes (comment_ending false) (comment_ending star) (take i rest) → (star && get_or rest i 0 == 47) ≡ true → IsLongestBy comment rest (i + 1) Blank
comment_ends rest i star inside goes h =
    let p = star_parts star (get_or rest i 0) h in
    let lengths : suc (length (take i rest)) ≡ i + 1 = omega (arith, length-take-le i rest (omega arith)) in
    same_by comment (take i rest ++ 47 ∷ drop (suc i) rest) rest (suc (length (take i rest))) (i + 1) Blank (subst (λ b. take i rest ++ b ∷ drop (suc i) rest ≡ rest) p.1 (split_at rest i inside)) lengths
    (comment_closed (take i rest) (drop (suc i) rest) (subst (λ s. Goes (comment_ending false) (comment_ending s) (take i rest)) p.0 goes))

pub comment_runs_out : (rest : List ℕ) (i : ℕ) (star : Bool) → length rest ≤ i → Goes (comment_ending false) (comment_ending star) (take i rest) → IsLongestBy comment rest (length rest) (Ill reason.UnfinishedComment)
comment_runs_out rest i star end goes = comment_open rest star (subst (λ t. Goes (comment_ending false) (comment_ending star) t) (take_all i rest end) goes)

-- ---- lines

no_newline_more : (text : List ℕ) (b : ℕ) → list_any is_newline text ≡ false → is_newline b ≡ false → list_any is_newline (text ++ b ∷ []) ≡ false
no_newline_more [] b h k = or_from _ _ k refl
no_newline_more (c ∷ text) b h k = by (is_newline c) h (no_newline_more text b)
  where
    by : (p : Bool) → (p || list_any is_newline text) ≡ false → (list_any is_newline text ≡ false → is_newline b ≡ false → list_any is_newline (text ++ b ∷ []) ≡ false) → (p || list_any is_newline (text ++ b ∷ [])) ≡ false
    by true h go = cc
    by false h go = go h k

pub line_more : (rest : List ℕ) (i : ℕ) → i < length rest → list_any is_newline (take i rest) ≡ false → is_newline (get_or rest i 0) ≡ false → list_any is_newline (take (i + 1) rest) ≡ false
line_more rest i inside h k = rw (take_more rest i 0 inside) (no_newline_more (take i rest) (get_or rest i 0) h k)

pub line_ends : (rest : List ℕ) (i : ℕ) → i < length rest → list_any is_newline (take i rest) ≡ false → is_newline (get_or rest i 0) ≡ true → IsLongestBy within_line rest i Blank
line_ends rest i inside line h =
    let e : get_or rest i 0 ≡ 10 = eqb-true (get_or rest i 0) 10 h in
    same_by within_line (take i rest ++ 10 ∷ drop (suc i) rest) rest (length (take i rest)) i Blank (subst (λ b. take i rest ++ b ∷ drop (suc i) rest ≡ rest) e (split_at rest i inside)) (length-take-le i rest (omega arith))
    (line_longest (take i rest) (10 ∷ drop (suc i) rest) line (inr (drop (suc i) rest, refl)))

pub line_runs_out : (rest : List ℕ) (i : ℕ) → length rest ≤ i → list_any is_newline (take i rest) ≡ false → IsLongestBy within_line rest (length rest) Blank
line_runs_out rest i end line =
    same_by within_line (rest ++ []) rest (length rest) (length rest) Blank (append-nil rest) refl
    (line_longest rest [] (ap (list_any is_newline) (sym (take_all i rest end)) ∙ line) (inl refl))

-- ---- literals

literal_next : (quote : ℕ) (escaped : Bool) (b : ℕ) → (b == 10) ≡ false → (not escaped && b == quote) ≡ false → (text : List ℕ) → literal_ending quote escaped (b ∷ text) ≡ literal_ending quote (not escaped && b == 92) text
literal_next quote true b black other text = rw black refl
literal_next quote false b black other text = rw (black, other) refl

pub literal_more : (quote : ℕ) (rest : List ℕ) (i : ℕ) (escaped next : Bool) → i < length rest → Goes (literal_ending quote false) (literal_ending quote escaped) (take i rest) → (get_or rest i 0 == 10) ≡ false → (not escaped && get_or rest i 0 == quote) ≡ false → next ≡ (not escaped && get_or rest i 0 == 92) → Goes (literal_ending quote false) (literal_ending quote next) (take (i + 1) rest)
literal_more quote rest i escaped next inside goes black other e =
    subst (λ s. Goes (literal_ending quote false) (literal_ending quote s) (take (i + 1) rest)) (sym e)
    (goes_at (literal_ending quote false) (literal_ending quote escaped) (literal_ending quote (not escaped && get_or rest i 0 == 92)) rest i inside goes (literal_next quote escaped (get_or rest i 0) black other))

end_parts : (escaped : Bool) (b quote : ℕ) → (not escaped && b == quote) ≡ true → (escaped ≡ false) × (b ≡ quote)
end_parts true b quote h = absurd cc
end_parts false b quote h = (refl, eqb-true b quote h)

pub literal_ends_at : (wide : Bool) (quote : ℕ) (rest : List ℕ) (i : ℕ) (escaped : Bool) (spells : Spelled) → is_quote quote ≡ true → i < length rest → Goes (literal_ending quote false) (literal_ending quote escaped) (take i rest) → (not escaped && get_or rest i 0 == quote) ≡ true → spells ≡ literal_kind wide quote (take i rest) → IsLongestBy (literal wide quote) rest (i + 1) spells
literal_ends_at wide quote rest i escaped spells q inside goes h e =
    let p = end_parts escaped (get_or rest i 0) quote h in
    let lengths : suc (length (take i rest)) ≡ i + 1 = omega (arith, length-take-le i rest (omega arith)) in
    subst (λ s. IsLongestBy (literal wide quote) rest (i + 1) s) (sym e)
    (same_by (literal wide quote) (take i rest ++ quote ∷ drop (suc i) rest) rest (suc (length (take i rest))) (i + 1) (literal_kind wide quote (take i rest)) (subst (λ b. take i rest ++ b ∷ drop (suc i) rest ≡ rest) p.1 (split_at rest i inside)) lengths
    (literal_closed wide quote (take i rest) (drop (suc i) rest) q (subst (λ s. Goes (literal_ending quote false) (literal_ending quote s) (take i rest)) p.0 goes)))

pub literal_breaks : (wide : Bool) (quote : ℕ) (rest : List ℕ) (i : ℕ) (escaped : Bool) → i < length rest → Goes (literal_ending quote false) (literal_ending quote escaped) (take i rest) → (get_or rest i 0 == 10) ≡ true → IsLongestBy (literal wide quote) rest i (Ill reason.UnfinishedLiteral)
literal_breaks wide quote rest i escaped inside goes h =
    let e : get_or rest i 0 ≡ 10 = eqb-true (get_or rest i 0) 10 h in
    same_by (literal wide quote) (take i rest ++ 10 ∷ drop (suc i) rest) rest (length (take i rest)) i (Ill reason.UnfinishedLiteral) (subst (λ b. take i rest ++ b ∷ drop (suc i) rest ≡ rest) e (split_at rest i inside)) (length-take-le i rest (omega arith))
    (literal_open wide quote escaped (take i rest) (10 ∷ drop (suc i) rest) goes (inr (drop (suc i) rest, refl)))

pub literal_runs_out : (wide : Bool) (quote : ℕ) (rest : List ℕ) (i : ℕ) (escaped : Bool) → length rest ≤ i → Goes (literal_ending quote false) (literal_ending quote escaped) (take i rest) → IsLongestBy (literal wide quote) rest (length rest) (Ill reason.UnfinishedLiteral)
literal_runs_out wide quote rest i escaped end goes =
    same_by (literal wide quote) (rest ++ []) rest (length rest) (length rest) (Ill reason.UnfinishedLiteral) (append-nil rest) refl
    (literal_open wide quote escaped rest [] (subst (λ t. Goes (literal_ending quote false) (literal_ending quote escaped) t) (take_all i rest end) goes) (inl refl))
