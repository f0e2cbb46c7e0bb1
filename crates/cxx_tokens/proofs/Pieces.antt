-- The longest front of a text by its slices, as the code finds it.
use Rattle.std.proofs.Common.{◌≡◌, ◌≤◌, ◌<◌, ℕ, zero, suc, ◌+◌, ◌-◌, Bool, true, false, ◌&&◌, ◌||◌, ◌==◌, cond, List, [], ◌∷◌, length, get_or, take, drop, Option, Some, None, unwrap_or, refl, sym, ap, ◌∙◌, subst, ⊎_elim, arith, take-append-drop, length-take-le, eqb-true, le-leb}
use Rattle.std.proofs.lemmas.List.{take_rest}
use Rattle.std.proofs.lemmas.Bool.{or_cases, or_left, or_parts, and_parts, and_right, both_ways, cases_lt}
use Rattle.std.proofs.lemmas.Bool.Decides.{nat_tests}
use Rattle.std.proofs.lemmas.List.Sums.{prefix_len-le-length}
use Rattle.std.specs.List.{list_all, prefix_len}
use Rattle.std.specs.Char.{is_ascii_digit}
use Rattle.cxx_model.specs.declared.token.TokenReason.TheVariants as reason
use Rattle.cxx_model.specs.Text.Spelling.{Spelled, Blank, Ill, alone, is_white, is_word, begins_word, begins_number, is_number_rest, is_quote, word_kind, number_kind, operator, literal, within_line, hash, slash, backslash, percent, spelling_of}
use Rattle.cxx_model.specs.Text.Continuing.{starts, number_goes_on, last_of, comment, BeginsOperator, IsLongestBy}
use Rattle.cxx_model.specs.Text.Tokens.{IsLongest}
use Rattle.cxx_model.proofs.Fronts.{IsSpelled, operator_alone}
use Rattle.cxx_model.proofs.Spellings.{blank_front, word_longest, number_front, operator_front, longest_under, longest_of, longest_from, spells_narrow, spells_word, spells_hash, spells_slash, spells_backslash, spells_percent, quote_is_no_word}
use Rattle.cxx_tokens.specs.declared.piece.Spelled as code
use Rattle.cxx_tokens.specs.Pieces.{spelled, spelled_option, operator_of, operator_at, begins_numeral, begins_wide, begins_with, IsOperatorText}

-- what stands behind the first bytes, as the code cuts it
abbrev pub behind_first : List ℕ → List ℕ
behind_first text = take (length text - 1) (drop 1 text)

abbrev pub behind_two : List ℕ → List ℕ
behind_two text = take (length text - 2) (drop 2 text)

behind : (b : ℕ) (rest : List ℕ) → behind_first (b ∷ rest) ≡ rest
behind b rest = take_rest (b ∷ rest) 1

behind_both : (b c : ℕ) (rest : List ℕ) → behind_two (b ∷ c ∷ rest) ≡ rest
behind_both b c rest = take_rest (b ∷ c ∷ rest) 2

same_longest : (fresh : Bool) (one two : List ℕ) (len n : ℕ) (spells kind : Spelled) → one ≡ two → len ≡ n → spells ≡ kind → IsLongest fresh one (record { len = len; spells = spells }) → IsLongest fresh two (record { len = n; spells = kind })
same_longest fresh one two len n spells kind e f g h =
    subst (λ s. IsLongest fresh two (record { len = n; spells = s })) g
    (subst (λ k. IsLongest fresh two (record { len = k; spells = spells })) f
    (subst (λ t. IsLongest fresh t (record { len = len; spells = spells })) e h))

-- one byte, and what a rule finds behind it
under_one : (fresh : Bool) (b : ℕ) (rest : List ℕ) (rule : List ℕ → Option Spelled) (n : ℕ) (spells : Spelled) → ((t : List ℕ) → spelling_of fresh (b ∷ t) ≡ rule t) → IsLongestBy rule (behind_first (b ∷ rest)) n spells → IsLongest fresh (b ∷ rest) (record { len = 1 + n; spells = spells })
under_one fresh b rest rule n spells same h =
    let inner : IsLongestBy rule rest n spells = subst (λ t. IsLongestBy rule t n spells) (behind b rest) h in
    longest_of fresh (b ∷ rest) (1 + n) spells (omega arith) (longest_under (spelling_of fresh) rule (b ∷ []) rest n spells (λ k low high. same (take k rest)) inner)

under_two : (fresh : Bool) (b c : ℕ) (rest : List ℕ) (rule : List ℕ → Option Spelled) (n : ℕ) (spells : Spelled) → ((t : List ℕ) → spelling_of fresh (b ∷ c ∷ t) ≡ rule t) → IsLongestBy rule (behind_two (b ∷ c ∷ rest)) n spells → IsLongest fresh (b ∷ c ∷ rest) (record { len = 2 + n; spells = spells })
under_two fresh b c rest rule n spells same h =
    let inner : IsLongestBy rule rest n spells = subst (λ t. IsLongestBy rule t n spells) (behind_both b c rest) h in
    longest_of fresh (b ∷ c ∷ rest) (2 + n) spells (omega arith) (longest_under (spelling_of fresh) rule (b ∷ c ∷ []) rest n spells (λ k low high. same (take k rest)) inner)

-- ---- white space

pub blank_at : (fresh : Bool) (text : List ℕ) → 0 < length text → is_white (get_or text 0 0) ≡ true → IsLongest fresh text (record { len = 1; spells = Blank })
blank_at fresh [] some white = absurd (omega arith)
blank_at fresh (b ∷ rest) some white = blank_front fresh b rest white

-- ---- words

run_step : (test : ℕ → Bool) (b : ℕ) (text : List ℕ) (p : Bool) → test b ≡ p → list_all test (take (prefix_len test text) text) ≡ true → list_all test (take (cond p (1 + prefix_len test text) 0) (b ∷ text)) ≡ true
run_step test b text true e all = let n : 1 + prefix_len test text ≡ suc (prefix_len test text) = omega arith in ap (λ k. list_all test (take k (b ∷ text))) n ∙ rw e all
run_step test b text false e all = refl

pub run_all : (test : ℕ → Bool) (text : List ℕ) → list_all test (take (prefix_len test text) text) ≡ true
run_all test [] = refl
run_all test (b ∷ text) = run_step test b text (test b) refl (run_all test text)

end_step : (test : ℕ → Bool) (b : ℕ) (text : List ℕ) (p : Bool) → test b ≡ p → starts test (drop (prefix_len test text) text) ≡ false → starts test (drop (cond p (1 + prefix_len test text) 0) (b ∷ text)) ≡ false
end_step test b text true e ends = let n : 1 + prefix_len test text ≡ suc (prefix_len test text) = omega arith in ap (λ k. starts test (drop k (b ∷ text))) n ∙ ends
end_step test b text false e ends = e

pub run_ends : (test : ℕ → Bool) (text : List ℕ) → starts test (drop (prefix_len test text) text) ≡ false
run_ends test [] = refl
run_ends test (b ∷ text) = end_step test b text (test b) refl (run_ends test text)

word_in : (fresh : Bool) (b : ℕ) (rest : List ℕ) (n : ℕ) (kind : Spelled) → begins_word b ≡ true → (b == 76 && starts is_quote rest) ≡ false → n ≤ length rest → list_all is_word (take n rest) ≡ true → starts is_word (drop n rest) ≡ false → kind ≡ word_kind (take (1 + n) (b ∷ rest)) → IsLongest fresh (b ∷ rest) (record { len = 1 + n; spells = kind })
word_in fresh b rest n kind word narrow short all ends e =
    let whole = take-append-drop n rest in
    let lengths : suc (length (take n rest)) ≡ 1 + n = omega (arith, length-take-le n rest short) in
    let more : 1 + n ≡ suc n = omega arith in
    same_longest fresh _ _ _ _ _ _ (ap (λ t. b ∷ t) whole) lengths (sym (e ∙ ap (λ k. word_kind (take k (b ∷ rest))) more))
    (word_longest fresh b (take n rest) (drop n rest) word all ends (ap (λ t. b == 76 && starts is_quote t) whole ∙ narrow))

pub word_at : (fresh : Bool) (text : List ℕ) (n : ℕ) (kind : Spelled) → starts begins_word text ≡ true → begins_wide text ≡ false → n ≡ prefix_len is_word (behind_first text) → kind ≡ word_kind (take (1 + n) text) → IsLongest fresh text (record { len = 1 + n; spells = kind })
word_at fresh [] n kind word narrow run e = absurd cc
word_at fresh (b ∷ rest) n kind word narrow run e =
    let t = behind b rest in
    let is : n ≡ prefix_len is_word rest = run ∙ ap (prefix_len is_word) t in
    word_in fresh b rest n kind word narrow (omega (arith, prefix_len-le-length is_word rest)) (subst (λ k. list_all is_word (take k rest) ≡ true) (sym is) (run_all is_word rest)) (subst (λ k. starts is_word (drop k rest) ≡ false) (sym is) (run_ends is_word rest)) e

-- ---- numbers

digit_is_word : (b : ℕ) → is_ascii_digit b ≡ true → is_word b ≡ true
digit_is_word b h = grind (arith, nat_tests)

number_kept : (b : ℕ) (rest : List ℕ) (n : ℕ) → begins_number b rest ≡ true → starts (number_goes_on (last_of b (take n rest))) (drop n rest) ≡ false → begins_number b (take n rest) ≡ true
number_kept b [] zero number ends = number
number_kept b (c ∷ rest) zero number ends =
    ⊎_elim
    (λ p. or_left (is_ascii_digit b) _ p)
    (λ p. absurd (both_ways (is_word c) (or_parts (is_word c) (c == 46) (or_parts (is_word c || c == 46) _ ends).0).0 (digit_is_word c (and_parts (b == 46) (is_ascii_digit c) p).1)))
    (or_cases (is_ascii_digit b) (b == 46 && is_ascii_digit c) number)
number_kept b [] (suc n) number ends = number
number_kept b (c ∷ rest) (suc n) number ends = number

number_within : (fresh : Bool) (b : ℕ) (rest : List ℕ) (n : ℕ) (kind : Spelled) → begins_number b rest ≡ true → n ≤ length rest → is_number_rest b (take n rest) ≡ true → starts (number_goes_on (last_of b (take n rest))) (drop n rest) ≡ false → kind ≡ number_kind (take (1 + n) (b ∷ rest)) → IsLongest fresh (b ∷ rest) (record { len = 1 + n; spells = kind })
number_within fresh b rest n kind number short all ends e =
    let whole = take-append-drop n rest in
    let lengths : suc (length (take n rest)) ≡ 1 + n = omega (arith, length-take-le n rest short) in
    let more : 1 + n ≡ suc n = omega arith in
    same_longest fresh _ _ _ _ _ _ (ap (λ t. b ∷ t) whole) lengths (sym (e ∙ ap (λ k. number_kind (take k (b ∷ rest))) more))
    (number_front fresh b (take n rest) (drop n rest) (number_kept b rest n number ends) all ends)

pub number_at : (fresh : Bool) (text : List ℕ) (n : ℕ) (kind : Spelled) → begins_numeral text ≡ true → n ≤ length (behind_first text) → is_number_rest (get_or text 0 0) (take n (behind_first text)) ≡ true → starts (number_goes_on (last_of (get_or text 0 0) (take n (behind_first text)))) (drop n (behind_first text)) ≡ false → kind ≡ number_kind (take (1 + n) text) → IsLongest fresh text (record { len = 1 + n; spells = kind })
number_at fresh [] n kind number short all ends e = absurd cc
number_at fresh (b ∷ rest) n kind number short all ends e =
    let t = behind b rest in
    number_within fresh b rest n kind number (subst (λ r. n ≤ length r) t short) (ap (λ r. is_number_rest b (take n r)) (sym t) ∙ all) (ap (λ r. starts (number_goes_on (last_of b (take n r))) (drop n r)) (sym t) ∙ ends) e

-- ---- literals

pub quoted_at : (fresh : Bool) (text : List ℕ) (n : ℕ) (kind : Spelled) → starts is_quote text ≡ true → IsLongestBy (literal false (get_or text 0 0)) (behind_first text) n kind → IsLongest fresh text (record { len = 1 + n; spells = kind })
quoted_at fresh [] n kind quote h = absurd cc
quoted_at fresh (b ∷ rest) n kind quote h = under_one fresh b rest (literal false b) n kind (λ t. spells_narrow fresh b t quote) h

wide_spells : (fresh : Bool) (b c : ℕ) (t : List ℕ) → (b == 76 && is_quote c) ≡ true → spelling_of fresh (b ∷ c ∷ t) ≡ literal true c t
wide_spells fresh b c t h =
    let p = and_parts (b == 76) (is_quote c) h in
    let e : b ≡ 76 = eqb-true b 76 p.0 in
    let other : is_word c ≡ false = quote_is_no_word c p.1 in
    spells_word fresh b (c ∷ t) (ap begins_word e) ∙ rw (other, h) refl

pub wide_at : (fresh : Bool) (text : List ℕ) (n : ℕ) (kind : Spelled) → begins_wide text ≡ true → IsLongestBy (literal true (get_or text 1 0)) (behind_two text) n kind → IsLongest fresh text (record { len = 2 + n; spells = kind })
wide_at fresh [] n kind h found = absurd cc
wide_at fresh (b ∷ []) n kind h found = absurd (both_ways _ (and_right (b == 76) false refl) h)
wide_at fresh (b ∷ c ∷ rest) n kind h found = under_two fresh b c rest (literal true c) n kind (λ t. wide_spells fresh b c t h) found

pub wide_quote : (text : List ℕ) → begins_wide text ≡ true → is_quote (get_or text 1 0) ≡ true
wide_quote [] h = absurd cc
wide_quote (b ∷ []) h = absurd (both_ways _ (and_right (b == 76) false refl) h)
wide_quote (b ∷ c ∷ rest) h = (and_parts (b == 76) (is_quote c) h).1

-- ---- comments and lines

slash_of_line : (t : List ℕ) → slash (47 ∷ t) ≡ within_line t
unfolding slash
slash_of_line t = refl

slash_line : (fresh : Bool) (t : List ℕ) → spelling_of fresh (47 ∷ 47 ∷ t) ≡ within_line t
slash_line fresh t = spells_slash fresh (47 ∷ t) ∙ slash_of_line t

slash_of_comment : (t : List ℕ) → slash (42 ∷ t) ≡ comment t
unfolding slash
slash_of_comment t = refl

slash_comment : (fresh : Bool) (t : List ℕ) → spelling_of fresh (47 ∷ 42 ∷ t) ≡ comment t
slash_comment fresh t = spells_slash fresh (42 ∷ t) ∙ slash_of_comment t

pub line_comment_at : (fresh : Bool) (text : List ℕ) (n : ℕ) → begins_with 47 text ≡ true → 2 ≤ length text → get_or text 1 0 ≡ 47 → IsLongestBy within_line (behind_two text) n Blank → IsLongest fresh text (record { len = 2 + n; spells = Blank })
line_comment_at fresh [] n h long e found = absurd cc
line_comment_at fresh (b ∷ []) n h long e found = absurd (omega arith)
line_comment_at fresh (b ∷ c ∷ rest) n h long e found = let first : b ≡ 47 = eqb-true b 47 h in under_two fresh b c rest within_line n Blank (λ t. ap (λ x. spelling_of fresh (x ∷ c ∷ t)) first ∙ ap (λ x. spelling_of fresh (47 ∷ x ∷ t)) e ∙ slash_line fresh t) found

pub comment_at : (fresh : Bool) (text : List ℕ) (n : ℕ) (kind : Spelled) → begins_with 47 text ≡ true → 2 ≤ length text → get_or text 1 0 ≡ 42 → IsLongestBy comment (behind_two text) n kind → IsLongest fresh text (record { len = 2 + n; spells = kind })
comment_at fresh [] n kind h long e found = absurd cc
comment_at fresh (b ∷ []) n kind h long e found = absurd (omega arith)
comment_at fresh (b ∷ c ∷ rest) n kind h long e found = let first : b ≡ 47 = eqb-true b 47 h in under_two fresh b c rest comment n kind (λ t. ap (λ x. spelling_of fresh (x ∷ c ∷ t)) first ∙ ap (λ x. spelling_of fresh (47 ∷ x ∷ t)) e ∙ slash_comment fresh t) found

-- ---- what is alone

alone_more : (rest : List ℕ) (spells : Spelled) → IsLongestBy (λ t. alone t spells) rest 0 spells
alone_more rest spells = record { fits = omega arith; spelled = refl; longest = λ m low high. none rest m low high }
  where
    none : (rest : List ℕ) (m : ℕ) → 0 < m → m ≤ length rest → alone (take m rest) spells ≡ None
    none rest zero low high = absurd (omega arith)
    none [] (suc m) low high = absurd (omega arith)
    none (c ∷ rest) (suc m) low high = refl

alone_one : (fresh : Bool) (b : ℕ) (rest : List ℕ) (spells : Spelled) → ((t : List ℕ) → spelling_of fresh (b ∷ t) ≡ alone t spells) → IsLongest fresh (b ∷ rest) (record { len = 1; spells = spells })
alone_one fresh b rest spells same = longest_of fresh (b ∷ rest) 1 spells (omega arith) (longest_under (spelling_of fresh) (λ t. alone t spells) (b ∷ []) rest 0 spells (λ k low high. same (take k rest)) (alone_more rest spells))

alone_two : (fresh : Bool) (b c : ℕ) (rest : List ℕ) (spells : Spelled) → ((t : List ℕ) → spelling_of fresh (b ∷ c ∷ t) ≡ alone t spells) → IsLongest fresh (b ∷ c ∷ rest) (record { len = 2; spells = spells })
alone_two fresh b c rest spells same = longest_of fresh (b ∷ c ∷ rest) 2 spells (omega arith) (longest_under (spelling_of fresh) (λ t. alone t spells) (b ∷ c ∷ []) rest 0 spells (λ k low high. same (take k rest)) (alone_more rest spells))

-- ---- `#`

hash_stale : (t : List ℕ) → hash false t ≡ alone t (Ill reason.Directive)
unfolding hash
hash_stale t = refl

pub stale_hash_at : (fresh : Bool) (text : List ℕ) → begins_with 35 text ≡ true → fresh ≡ false → IsLongest fresh text (record { len = 1; spells = Ill reason.Directive })
stale_hash_at fresh [] h e = absurd cc
stale_hash_at fresh (b ∷ rest) h e =
    let first : b ≡ 35 = eqb-true b 35 h in
    alone_one fresh b rest (Ill reason.Directive) (λ t. ap (λ x. spelling_of fresh (x ∷ t)) first ∙ spells_hash fresh t ∙ ap (λ f. hash f t) e ∙ hash_stale t)

pub hash_at : (fresh : Bool) (text : List ℕ) (n : ℕ) (kind : Spelled) → begins_with 35 text ≡ true → fresh ≡ true → IsLongestBy (hash true) (behind_first text) n kind → IsLongest fresh text (record { len = 1 + n; spells = kind })
hash_at fresh [] n kind h e found = absurd cc
hash_at fresh (b ∷ rest) n kind h e found =
    let first : b ≡ 35 = eqb-true b 35 h in
    under_one fresh b rest (hash true) n kind (λ t. ap (λ x. spelling_of fresh (x ∷ t)) first ∙ spells_hash fresh t ∙ ap (λ f. hash f t) e) found

-- ---- a backslash

backslash_more : (c : ℕ) (t : List ℕ) → (c == 117 || c == 85) ≡ true → backslash (c ∷ t) ≡ alone t (Ill reason.UniversalName)
backslash_more c t h = rw h refl

pub universal_at : (fresh : Bool) (text : List ℕ) → begins_with 92 text ≡ true → 2 ≤ length text → (get_or text 1 0 == 117 || get_or text 1 0 == 85) ≡ true → IsLongest fresh text (record { len = 2; spells = Ill reason.UniversalName })
universal_at fresh [] h long e = absurd cc
universal_at fresh (b ∷ []) h long e = absurd (omega arith)
universal_at fresh (b ∷ c ∷ rest) h long e =
    let first : b ≡ 92 = eqb-true b 92 h in
    alone_two fresh b c rest (Ill reason.UniversalName) (λ t. ap (λ x. spelling_of fresh (x ∷ c ∷ t)) first ∙ spells_backslash fresh (c ∷ t) ∙ backslash_more c t e)

none_stray : (rest : List ℕ) → starts (λ c. c == 117 || c == 85) rest ≡ false → (m : ℕ) → 0 < m → m ≤ length rest → backslash (take m rest) ≡ None
none_stray rest h zero low high = absurd (omega arith)
none_stray [] h (suc m) low high = absurd (omega arith)
none_stray (c ∷ rest) h (suc m) low high = rw h refl

pub stray_at : (fresh : Bool) (text : List ℕ) → begins_with 92 text ≡ true → (2 ≤ length text → (get_or text 1 0 == 117 || get_or text 1 0 == 85) ≡ false) → IsLongest fresh text (record { len = 1; spells = Ill reason.StrayByte })
stray_at fresh [] h other = absurd cc
stray_at fresh (b ∷ rest) h other =
    let first : b ≡ 92 = eqb-true b 92 h in
    longest_from fresh b [] rest (Ill reason.StrayByte) (ap (λ x. spelling_of fresh (x ∷ [])) first ∙ spells_backslash fresh [])
    (λ m low high. ap (λ x. spelling_of fresh (x ∷ take m rest)) first ∙ spells_backslash fresh (take m rest) ∙ none_stray rest (next_is b rest other) m low high)
  where
    next_is : (b : ℕ) (rest : List ℕ) → (2 ≤ length (b ∷ rest) → (get_or (b ∷ rest) 1 0 == 117 || get_or (b ∷ rest) 1 0 == 85) ≡ false) → starts (λ c. c == 117 || c == 85) rest ≡ false
    next_is b [] other = refl
    next_is b (c ∷ rest) other = other (omega arith)

-- ---- `%:`

percent_more : (t : List ℕ) → percent (58 ∷ t) ≡ alone t (Ill reason.Directive)
unfolding percent
percent_more t = refl

pub directive_at : (fresh : Bool) (text : List ℕ) → begins_with 37 text ≡ true → 2 ≤ length text → get_or text 1 0 ≡ 58 → IsLongest fresh text (record { len = 2; spells = Ill reason.Directive })
directive_at fresh [] h long e = absurd cc
directive_at fresh (b ∷ []) h long e = absurd (omega arith)
directive_at fresh (b ∷ c ∷ rest) h long e =
    let first : b ≡ 37 = eqb-true b 37 h in
    alone_two fresh b c rest (Ill reason.Directive) (λ t. ap (λ x. spelling_of fresh (x ∷ c ∷ t)) first ∙ spells_percent fresh (c ∷ t) ∙ ap (λ x. percent (x ∷ t)) e ∙ percent_more t)

-- ---- operators
operator_at_is : (text : List ℕ) (len : ℕ) → len ≤ length text → operator_at text len ≡ operator_of (take len text)
operator_at_is text len fits = rw (le-leb len (length text) fits) refl

three_in : (fresh : Bool) (b c d : ℕ) (rest : List ℕ) (spells : Spelled) → BeginsOperator b (c ∷ d ∷ rest) → operator b (c ∷ d ∷ []) ≡ Some spells → IsLongest fresh (b ∷ c ∷ d ∷ rest) (record { len = 3; spells = spells })
three_in fresh b c d rest spells begins is = operator_front fresh b (c ∷ d ∷ []) rest spells begins is (λ m low short high. absurd (omega arith))

pub three_at : (fresh : Bool) (text : List ℕ) (spells : Spelled) → IsOperatorText text → Some spells ≡ operator_at text 3 → IsLongest fresh text (record { len = 3; spells = spells })
three_at fresh [] spells begins is = cc
three_at fresh (b ∷ []) spells begins is = cc
three_at fresh (b ∷ c ∷ []) spells begins is = cc
three_at fresh (b ∷ c ∷ d ∷ rest) spells begins is = three_in fresh b c d rest spells begins (sym (is ∙ operator_at_is (b ∷ c ∷ d ∷ rest) 3 (omega arith)))

no_three : (b : ℕ) (rest : List ℕ) → None ≡ operator_at (b ∷ rest) 3 → 2 ≤ length rest → operator b (take 2 rest) ≡ None
no_three b rest none long = sym (none ∙ operator_at_is (b ∷ rest) 3 (omega arith))

no_two : (b : ℕ) (rest : List ℕ) → None ≡ operator_at (b ∷ rest) 2 → 1 ≤ length rest → operator b (take 1 rest) ≡ None
no_two b rest none long = sym (none ∙ operator_at_is (b ∷ rest) 2 (omega arith))

at_two : (b : ℕ) (rest : List ℕ) (m : ℕ) → None ≡ operator_at (b ∷ rest) 3 → 1 < m → m ≤ 2 → m ≤ length rest → operator b (take m rest) ≡ None
at_two b rest m none low short high = let e : m ≡ 2 = omega arith in subst (λ k. operator b (take k rest) ≡ None) (sym e) (no_three b rest none (omega arith))

at_one : (b : ℕ) (rest : List ℕ) (m : ℕ) → None ≡ operator_at (b ∷ rest) 3 → None ≡ operator_at (b ∷ rest) 2 → 0 < m → m ≤ 2 → m ≤ length rest → operator b (take m rest) ≡ None
at_one b rest m none third low short high =
    ⊎_elim
    (λ (more : 1 < m). at_two b rest m none more short high)
    (λ (one : m ≤ 1). let e : m ≡ 1 = omega arith in subst (λ k. operator b (take k rest) ≡ None) (sym e) (no_two b rest third (omega arith)))
    (cases_lt 1 m)

pub two_at : (fresh : Bool) (text : List ℕ) (spells : Spelled) → IsOperatorText text → None ≡ operator_at text 3 → Some spells ≡ operator_at text 2 → IsLongest fresh text (record { len = 2; spells = spells })
two_at fresh [] spells begins none is = cc
two_at fresh (b ∷ []) spells begins none is = cc
two_at fresh (b ∷ c ∷ rest) spells begins none is =
    operator_front fresh b (c ∷ []) rest spells begins (sym (is ∙ operator_at_is (b ∷ c ∷ rest) 2 (omega arith))) (λ m low short high. at_two b (c ∷ rest) m none low short high)

one_in : (fresh : Bool) (b : ℕ) (rest : List ℕ) (spells : Spelled) → BeginsOperator b rest → None ≡ operator_at (b ∷ rest) 3 → None ≡ operator_at (b ∷ rest) 2 → Some spells ≡ operator_at (b ∷ rest) 1 → IsLongest fresh (b ∷ rest) (record { len = 1; spells = spells })
one_in fresh b rest spells begins none third is =
    operator_front fresh b [] rest spells begins (sym (is ∙ operator_at_is (b ∷ rest) 1 (omega arith))) (λ m low short high. at_one b rest m none third low short high)

always_one : (b : ℕ) (rest : List ℕ) → IsSpelled (operator_at (b ∷ rest) 1)
always_one b rest = let one = operator_alone b in (one.0, operator_at_is (b ∷ rest) 1 (omega arith) ∙ one.1)

pub one_at : (fresh : Bool) (text : List ℕ) (answer : Option code.Spelled) (otherwise : code.Spelled) → IsOperatorText text → None ≡ operator_at text 3 → None ≡ operator_at text 2 → spelled_option answer ≡ operator_at text 1 → IsLongest fresh text (record { len = 1; spells = spelled (unwrap_or answer otherwise) })
one_at fresh [] answer otherwise begins none third is = absurd begins
one_at fresh (b ∷ rest) (Some spells) otherwise begins none third is = one_in fresh b rest (spelled spells) begins none third is
one_at fresh (b ∷ rest) None otherwise begins none third is = let one = always_one b rest in absurd (cc (is, one.1))

-- ---- what a whole text spells

pub nothing_spells : (fresh : Bool) (text : List ℕ) → length text ≡ 0 → None ≡ spelling_of fresh text
unfolding spelling_of
nothing_spells fresh [] e = refl
nothing_spells fresh (b ∷ rest) e = absurd (omega arith)
