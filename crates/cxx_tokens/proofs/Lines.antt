-- Marker lines and directives.
use Rattle.std.proofs.Common.{◌≡◌, ◌≤◌, ◌<◌, ℕ, zero, suc, ◌+◌, ◌-◌, Bool, true, false, cond, List, [], ◌∷◌, ◌++◌, length, take, drop, Some, None, refl, sym, ap, ◌∙◌, subst, ⊎_elim, arith, take-append-drop, length-take-le, length-append, append-nil}
use Rattle.std.proofs.lemmas.List.{take_rest}
use Rattle.std.proofs.lemmas.Bool.{or_cases, or_parts, or_from, and_parts, and_left, and_right, both_ways}
use Rattle.std.proofs.lemmas.Bool.Decides.{nat_tests}
use Rattle.std.proofs.lemmas.List.Sums.{prefix_len-le-length}
use Rattle.std.specs.List.{list_all, list_any, prefix_len, take_while}
use Rattle.std.specs.Char.{is_ascii_digit}
use Rattle.cxx_model.specs.declared.token.TokenReason.TheVariants as reason
use Rattle.cxx_model.specs.Text.Spelling.{Blank, Ill, is_blank, is_word, is_newline, within_line, marker_by, is_marker_word, past_blanks, hash}
use Rattle.cxx_model.specs.Text.Continuing.{starts, IsLongestBy}
use Rattle.cxx_model.proofs.Spellings.{longest_under, within_line_append, take_from}
use Rattle.cxx_tokens.specs.MarkerWords.{makes_marker}
use Rattle.cxx_tokens.proofs.Scans.{same_by}
use Rattle.cxx_tokens.proofs.Pieces.{run_all, run_ends}

blank_no_newline : (b : ℕ) → is_blank b ≡ true → is_newline b ≡ false
blank_no_newline b h = grind (arith, nat_tests)

word_no_newline : (b : ℕ) → is_word b ≡ true → is_newline b ≡ false
word_no_newline b h = grind (arith, nat_tests)

none_of : (test : ℕ → Bool) → ((b : ℕ) → test b ≡ true → is_newline b ≡ false) → (text : List ℕ) → list_all test text ≡ true → list_any is_newline text ≡ false
none_of test never [] all = refl
none_of test never (b ∷ text) all = let p = and_parts (test b) (list_all test text) all in or_from _ _ (never b p.0) (none_of test never text p.1)

-- how long a run is that ends where another text begins
run_append : (test : ℕ → Bool) (w tail : List ℕ) → list_all test w ≡ true → starts test tail ≡ false → prefix_len test (w ++ tail) ≡ length w
run_append test [] [] all ends = refl
run_append test [] (c ∷ tail) all ends = rw ends refl
run_append test (b ∷ w) tail all ends = let p = and_parts (test b) (list_all test w) all in rw p.0 (let rec : prefix_len test (w ++ tail) ≡ length w = run_append test w tail p.1 ends in omega arith)

take_seam : (w tail : List ℕ) → take (length w) (w ++ tail) ≡ w
take_seam [] tail = refl
take_seam (b ∷ w) tail = ap (λ t. b ∷ t) (take_seam w tail)

drop_seam : (w tail : List ℕ) → drop (length w) (w ++ tail) ≡ tail
drop_seam [] tail = refl
drop_seam (b ∷ w) tail = drop_seam w tail

blanks_passed : (blanks tail : List ℕ) → list_all is_blank blanks ≡ true → starts is_blank tail ≡ false → past_blanks (blanks ++ tail) ≡ tail
blanks_passed blanks tail all ends = ap (λ n. drop n (blanks ++ tail)) (run_append is_blank blanks tail all ends) ∙ drop_seam blanks tail

word_taken : (word tail : List ℕ) → list_all is_word word ≡ true → starts is_word tail ≡ false → take_while is_word (word ++ tail) ≡ word
word_taken word tail all ends = ap (λ n. take n (word ++ tail)) (run_append is_word word tail all ends) ∙ take_seam word tail

no_blank : (word tail : List ℕ) → list_all is_word word ≡ true → starts is_blank (word ++ tail) ≡ false → (k : ℕ) → starts is_blank (word ++ take k tail) ≡ false
no_blank [] tail all ends zero = refl
no_blank [] [] all ends (suc k) = refl
no_blank [] (c ∷ tail) all ends (suc k) = ends
no_blank (b ∷ word) tail all ends k = ends

word_ends : (tail : List ℕ) (k : ℕ) → starts is_word tail ≡ false → starts is_word (take k tail) ≡ false
word_ends tail zero h = refl
word_ends [] (suc k) h = refl
word_ends (c ∷ tail) (suc k) h = h

-- a marker's rest is what stands behind its blanks, judged by its word
hash_is : (blanks word tail : List ℕ) → list_all is_blank blanks ≡ true → starts is_blank (word ++ tail) ≡ false → hash true (blanks ++ (word ++ tail)) ≡ marker_by (blanks ++ (word ++ tail)) (word ++ tail)
unfolding hash
hash_is blanks word tail all ends = ap (marker_by (blanks ++ (word ++ tail))) (blanks_passed blanks (word ++ tail) all ends)

not_all : (word : List ℕ) (c : ℕ) (tail : List ℕ) → is_word c ≡ false → list_all is_word (word ++ c ∷ tail) ≡ false
not_all [] c tail h = and_left _ _ h
not_all (b ∷ word) c tail h = and_right _ _ (not_all word c tail h)

-- a marker line
marker_is_line : (text word tail : List ℕ) → list_all is_word word ≡ true → starts is_word tail ≡ false → makes_marker word ≡ true → marker_by text (word ++ tail) ≡ within_line text
marker_is_line text [] tail all ends marks = absurd (both_ways (makes_marker []) no_marker marks)
  where
    no_marker : makes_marker [] ≡ false
    no_marker = refl
marker_is_line text (b ∷ word) tail all ends marks =
    ⊎_elim
    (λ (digit : is_ascii_digit b ≡ true). rw digit refl)
    (λ (named : is_marker_word (b ∷ word) ≡ true).
    let is : is_marker_word (take_while is_word (b ∷ (word ++ tail))) ≡ true = ap is_marker_word (word_taken (b ∷ word) tail all ends) ∙ named in
    by (is_ascii_digit b) (is_marker_word (take_while is_word (b ∷ (word ++ tail)))) is)
    (or_cases (is_ascii_digit b) (is_marker_word (b ∷ word)) marks)
  where
    by : (digit named : Bool) → named ≡ true → cond digit (within_line text) (cond named (within_line text) (cond (list_all is_word (b ∷ (word ++ tail))) (Some (Ill reason.Directive)) None)) ≡ within_line text
    by true named e = refl
    by false true e = refl
    by false false e = absurd cc

-- a directive, at the end of its word
marker_is_directive : (text word : List ℕ) → list_all is_word word ≡ true → makes_marker word ≡ false → marker_by text (word ++ []) ≡ Some (Ill reason.Directive)
marker_is_directive text [] all marks = refl
marker_is_directive text (b ∷ word) all marks =
    let p = or_parts (is_ascii_digit b) (is_marker_word (b ∷ word)) marks in
    let taken : is_marker_word (take_while is_word (b ∷ (word ++ []))) ≡ false = ap is_marker_word (word_taken (b ∷ word) [] all refl) ∙ p.1 in
    let whole : list_all is_word (b ∷ (word ++ [])) ≡ true = ap (λ w. list_all is_word (b ∷ w)) (append-nil word) ∙ all in
    by (is_ascii_digit b) (is_marker_word (take_while is_word (b ∷ (word ++ [])))) (list_all is_word (b ∷ (word ++ []))) p.0 taken whole
  where
    by : (digit named whole : Bool) → digit ≡ false → named ≡ false → whole ≡ true → cond digit (within_line text) (cond named (within_line text) (cond whole (Some (Ill reason.Directive)) None)) ≡ Some (Ill reason.Directive)
    by false false true d n w = refl
    by true named whole d n w = absurd cc
    by false true whole d n w = absurd cc
    by false false false d n w = absurd cc

-- and nothing behind it
marker_is_none : (text word : List ℕ) (c : ℕ) (tail : List ℕ) → list_all is_word word ≡ true → is_word c ≡ false → makes_marker word ≡ false → marker_by text (word ++ c ∷ tail) ≡ None
marker_is_none text word c tail all other marks = rest word all marks refl
  where
    by : (digit named whole : Bool) → digit ≡ false → named ≡ false → whole ≡ false → cond digit (within_line text) (cond named (within_line text) (cond whole (Some (Ill reason.Directive)) None)) ≡ None
    by false false false d n w = refl
    by true named whole d n w = absurd cc
    by false true whole d n w = absurd cc
    by false false true d n w = absurd cc

    no_digit : (c : ℕ) → is_word c ≡ false → is_ascii_digit c ≡ false
    no_digit c h = grind (arith, nat_tests)

    rest : (w : List ℕ) → list_all is_word w ≡ true → makes_marker w ≡ false → w ≡ word → marker_by text (w ++ c ∷ tail) ≡ None
    rest [] all marks e = by (is_ascii_digit c) (is_marker_word (take_while is_word (c ∷ tail))) (list_all is_word (c ∷ tail)) (no_digit c other) (ap is_marker_word (word_taken [] (c ∷ tail) refl other)) (and_left _ _ other)
    rest (b ∷ w) all marks e =
        let p = or_parts (is_ascii_digit b) (is_marker_word (b ∷ w)) marks in
        by (is_ascii_digit b) (is_marker_word (take_while is_word (b ∷ (w ++ c ∷ tail)))) (list_all is_word (b ∷ (w ++ c ∷ tail))) p.0 (ap is_marker_word (word_taken (b ∷ w) (c ∷ tail) all other) ∙ p.1) (not_all (b ∷ w) c tail other)

line_behind : (blanks word tail : List ℕ) (n : ℕ) → list_all is_blank blanks ≡ true → list_all is_word word ≡ true → starts is_word tail ≡ false → starts is_blank (word ++ tail) ≡ false → makes_marker word ≡ true → IsLongestBy within_line tail n Blank → IsLongestBy (hash true) (blanks ++ (word ++ tail)) (length blanks + (length word + n)) Blank
line_behind blanks word tail n white all ends black marks h =
    longest_under (hash true) (λ t. within_line t) blanks (word ++ tail) (length word + n) Blank
    (λ k low high.
    let j : ℕ = k - length word in
    let e : k ≡ length word + j = omega arith in
    let cut : take k (word ++ tail) ≡ word ++ take j tail = ap (λ m. take m (word ++ tail)) e ∙ take_from word tail j in
    ap (λ t. hash true (blanks ++ t)) cut ∙ hash_is blanks word (take j tail) white (no_blank word tail all black j) ∙ marker_is_line (blanks ++ (word ++ take j tail)) word (take j tail) all (word_ends tail j ends) marks
    ∙ within_line_append blanks (word ++ take j tail) (none_of is_blank blank_no_newline blanks white) ∙ ap within_line (sym cut))
    (longest_under within_line within_line word tail n Blank (λ k low high. within_line_append word (take k tail) (none_of is_word word_no_newline word all)) h)

directive_behind : (blanks word tail : List ℕ) → list_all is_blank blanks ≡ true → list_all is_word word ≡ true → starts is_word tail ≡ false → starts is_blank (word ++ tail) ≡ false → makes_marker word ≡ false → IsLongestBy (hash true) (blanks ++ (word ++ tail)) (length blanks + length word) (Ill reason.Directive)
directive_behind blanks word tail white all ends black marks = record {
  fits = omega (arith, length-append blanks (word ++ tail), length-append word tail);
  spelled =
      ap (hash true) (take_from blanks (word ++ tail) (length word)) ∙ ap (λ t. hash true (blanks ++ t)) (take_seam word tail ∙ sym (append-nil word))
      ∙ hash_is blanks word [] white (no_blank word tail all black 0) ∙ marker_is_directive (blanks ++ (word ++ [])) word all marks;
  longest = λ m low high.
      let j : ℕ = m - length blanks - length word in
      let e : m ≡ length blanks + (length word + j) = omega arith in
      let fits : j ≤ length tail = omega (arith, length-append blanks (word ++ tail), length-append word tail) in
      ap (λ n. hash true (take n (blanks ++ (word ++ tail)))) e ∙ ap (hash true) (take_from blanks (word ++ tail) (length word + j)) ∙ ap (λ t. hash true (blanks ++ t)) (take_from word tail j)
      ∙ hash_is blanks word (take j tail) white (no_blank word tail all black j) ∙ nothing (blanks ++ (word ++ take j tail)) tail j ends (omega arith) fits;
}
  where
    nothing : (text tail : List ℕ) (j : ℕ) → starts is_word tail ≡ false → 0 < j → j ≤ length tail → marker_by text (word ++ take j tail) ≡ None
    nothing text tail zero ends low high = absurd (omega arith)
    nothing text [] (suc j) ends low high = absurd (omega arith)
    nothing text (c ∷ tail) (suc j) ends low high = marker_is_none text word c (take j tail) all ends marks

-- ---- as the code cuts it

abbrev behind_blanks : List ℕ → List ℕ
behind_blanks rest = drop (prefix_len is_blank rest) rest

abbrev word_of : List ℕ → List ℕ
word_of behind = take (prefix_len is_word behind) behind

abbrev behind_word : List ℕ → List ℕ
behind_word behind = drop (prefix_len is_word behind) behind

whole : (rest : List ℕ) → take (prefix_len is_blank rest) rest ++ (word_of (behind_blanks rest) ++ behind_word (behind_blanks rest)) ≡ rest
whole rest = ap (λ t. take (prefix_len is_blank rest) rest ++ t) (take-append-drop (prefix_len is_word (behind_blanks rest)) (behind_blanks rest)) ∙ take-append-drop (prefix_len is_blank rest) rest

black_again : (rest : List ℕ) → starts is_blank (word_of (behind_blanks rest) ++ behind_word (behind_blanks rest)) ≡ false
black_again rest = ap (starts is_blank) (take-append-drop (prefix_len is_word (behind_blanks rest)) (behind_blanks rest)) ∙ run_ends is_blank rest

pub marker_at : (rest : List ℕ) (n : ℕ) → makes_marker (word_of (behind_blanks rest)) ≡ true → IsLongestBy within_line (behind_word (behind_blanks rest)) n Blank → IsLongestBy (hash true) rest (prefix_len is_blank rest + prefix_len is_word (behind_blanks rest) + n) Blank
marker_at rest n marks h =
    let one = length-take-le (prefix_len is_blank rest) rest (prefix_len-le-length is_blank rest) in
    let two = length-take-le (prefix_len is_word (behind_blanks rest)) (behind_blanks rest) (prefix_len-le-length is_word (behind_blanks rest)) in
    same_by (hash true) _ rest _ (prefix_len is_blank rest + prefix_len is_word (behind_blanks rest) + n) Blank (whole rest) (omega (arith, one, two))
    (line_behind (take (prefix_len is_blank rest) rest) (word_of (behind_blanks rest)) (behind_word (behind_blanks rest)) n (run_all is_blank rest) (run_all is_word (behind_blanks rest)) (run_ends is_word (behind_blanks rest)) (black_again rest) marks h)

pub directive_behind_at : (rest : List ℕ) → makes_marker (word_of (behind_blanks rest)) ≡ false → IsLongestBy (hash true) rest (prefix_len is_blank rest + prefix_len is_word (behind_blanks rest)) (Ill reason.Directive)
directive_behind_at rest marks =
    let one = length-take-le (prefix_len is_blank rest) rest (prefix_len-le-length is_blank rest) in
    let two = length-take-le (prefix_len is_word (behind_blanks rest)) (behind_blanks rest) (prefix_len-le-length is_word (behind_blanks rest)) in
    same_by (hash true) _ rest _ (prefix_len is_blank rest + prefix_len is_word (behind_blanks rest)) (Ill reason.Directive) (whole rest) (omega (arith, one, two))
    (directive_behind (take (prefix_len is_blank rest) rest) (word_of (behind_blanks rest)) (behind_word (behind_blanks rest)) (run_all is_blank rest) (run_all is_word (behind_blanks rest)) (run_ends is_word (behind_blanks rest)) (black_again rest) marks)

abbrev cut : ℕ → List ℕ → List ℕ
cut n text = take (length text - n) (drop n text)

behind_cut : (rest : List ℕ) (blanks : ℕ) → blanks ≡ prefix_len is_blank rest → cut blanks rest ≡ behind_blanks rest
behind_cut rest blanks b = take_rest rest blanks ∙ ap (λ k. drop k rest) b

word_cut : (rest : List ℕ) (blanks word : ℕ) → blanks ≡ prefix_len is_blank rest → word ≡ prefix_len is_word (cut blanks rest) → word ≡ prefix_len is_word (behind_blanks rest)
word_cut rest blanks word b w = w ∙ ap (prefix_len is_word) (behind_cut rest blanks b)

same_marker : (rest : List ℕ) (blanks word : ℕ) (marks : Bool) → blanks ≡ prefix_len is_blank rest → word ≡ prefix_len is_word (cut blanks rest) → makes_marker (take word (cut blanks rest)) ≡ marks → makes_marker (word_of (behind_blanks rest)) ≡ marks
same_marker rest blanks word marks b w h =
    ap makes_marker (ap (take (prefix_len is_word (behind_blanks rest))) (sym (behind_cut rest blanks b)) ∙ ap (λ k. take k (cut blanks rest)) (sym (word_cut rest blanks word b w))) ∙ h

pub code_marker : (rest : List ℕ) (blanks word n : ℕ) → blanks ≡ prefix_len is_blank rest → word ≡ prefix_len is_word (cut blanks rest) → makes_marker (take word (cut blanks rest)) ≡ true → IsLongestBy within_line (cut word (cut blanks rest)) n Blank → IsLongestBy (hash true) rest (blanks + word + n) Blank
code_marker rest blanks word n b w marks h =
    let f = word_cut rest blanks word b w in
    let tail : cut word (cut blanks rest) ≡ behind_word (behind_blanks rest) = take_rest (cut blanks rest) word ∙ ap (drop word) (behind_cut rest blanks b) ∙ ap (λ k. drop k (behind_blanks rest)) f in
    same_by (hash true) rest rest (prefix_len is_blank rest + prefix_len is_word (behind_blanks rest) + n) (blanks + word + n) Blank refl (omega (arith, b, f))
    (marker_at rest n (same_marker rest blanks word true b w marks) (subst (λ t. IsLongestBy within_line t n Blank) tail h))

pub code_directive : (rest : List ℕ) (blanks word : ℕ) → blanks ≡ prefix_len is_blank rest → word ≡ prefix_len is_word (cut blanks rest) → makes_marker (take word (cut blanks rest)) ≡ false → IsLongestBy (hash true) rest (blanks + word) (Ill reason.Directive)
code_directive rest blanks word b w marks =
    let f = word_cut rest blanks word b w in
    same_by (hash true) rest rest (prefix_len is_blank rest + prefix_len is_word (behind_blanks rest)) (blanks + word) (Ill reason.Directive) refl (omega (arith, b, f))
    (directive_behind_at rest (same_marker rest blanks word false b w marks))
