-- What reading a plain form again shows, in words.
use Rattle.std.proofs.Common.{◌≡◌, ◌⊎◌, inl, inr, ◌∙◌, ℕ, Bool, true, false, cond, List, [], ◌∷◌, refl, sym, ap}
use Rattle.std.proofs.lemmas.Bool.{eq-eqb, eqb-true}
use Rattle.std.specs.Prelude.{Option, Some, None, nat_eq}
use Rattle.cxx_form.specs.Called.{functions_text, is_past_output}
use Rattle.cxx_model.specs.declared.options.Options.{Options}
use Rattle.cxx_form.specs.Text.{plain_text}
use Rattle.cxx_reading.specs.Units.{CxxReading}
use Rattle.cxx_command.specs.Again.{Difference, IsTooLarge, ReadsBack, between, by_calls, by_lines, difference_from, difference_of, next_line, prints_past, read_again, reads_past, shown_by}
use Rattle.cxx_command.specs.Outcome.{UnitOutcome, Whole, Broken, PastLimit, outcome_of}

none_some : {A : Type 0} (x : A) → None ≡ Some x → ⊥
none_some x e = cc

-- ---- two texts

same_heads : (b : Bool) (x y line : ℕ) (xs ys : List ℕ) → nat_eq x y ≡ b → ((next : ℕ) → difference_from next xs ys ≡ None → xs ≡ ys) → cond b (difference_from (next_line line x) xs ys) (Some line) ≡ None → x ∷ xs ≡ y ∷ ys
same_heads true x y line xs ys e later none = ap (λ n. n ∷ xs) (eqb-true x y e) ∙ ap (λ (ns : List ℕ). y ∷ ns) (later (next_line line x) none)
same_heads false x y line xs ys e later none = absurd (none_some line (sym none))

same_texts : (xs ys : List ℕ) (line : ℕ) → difference_from line xs ys ≡ None → xs ≡ ys
same_texts [] [] line none = refl
same_texts [] (y ∷ ys) line none = absurd (none_some line (sym none))
same_texts (x ∷ xs) [] line none = absurd (none_some line (sym none))
same_texts (x ∷ xs) (y ∷ ys) line none = same_heads (nat_eq x y) x y line xs ys refl (same_texts xs ys) none

no_difference : (xs : List ℕ) (line : ℕ) → difference_from line xs xs ≡ None
no_difference [] line = refl
no_difference (x ∷ xs) line = ap (λ b. cond b (difference_from (next_line line x) xs xs) (Some line)) (eq-eqb x x refl) ∙ no_difference xs (next_line line x)

-- ---- two readings

no_line : (found : Option ℕ) (later : Option Difference) → by_lines found later ≡ None → (found ≡ None) × (later ≡ None)
no_line None later none = (refl, none)
no_line (Some number) later none = absurd (cc)

no_call : (found : Option ℕ) → by_calls found ≡ None → found ≡ None
no_call None none = refl
no_call (Some number) none = absurd (cc)

record AreAlike (one two : CxxReading) : Type 0 where
  text : plain_text one ≡ plain_text two
  functions : functions_text one ≡ functions_text two

alike : (one two : CxxReading) → between one two ≡ None → AreAlike one two
alike one two none =
    let found = no_line (difference_of (plain_text one) (plain_text two)) (by_calls (difference_of (functions_text one) (functions_text two))) none in
    record {
      text = same_texts (plain_text one) (plain_text two) 1 found.0;
      functions = same_texts (functions_text one) (functions_text two) 1 (no_call (difference_of (functions_text one) (functions_text two)) found.1);
    }

unlike : (one two : CxxReading) → AreAlike one two → between one two ≡ None
unlike one two are =
    ap (λ (text : List ℕ). by_lines (difference_of (plain_text one) text) (by_calls (difference_of (functions_text one) (functions_text two)))) (sym are.text)
    ∙ ap (λ (text : List ℕ). by_lines (difference_of (plain_text one) (plain_text one)) (by_calls (difference_of (functions_text one) text))) (sym are.functions)
    ∙ ap (λ found. by_lines found (by_calls (difference_of (functions_text one) (functions_text one)))) (no_difference (plain_text one) 1)
    ∙ ap by_calls (no_difference (functions_text one) 1)

-- ---- nothing is shown

whole_back : (options : Options) (reading two : CxxReading) (b : Bool) → outcome_of options (plain_text reading) ≡ Whole two → is_past_output two ≡ b → cond b None (between reading two) ≡ None → ReadsBack options (plain_text reading) reading ⊎ IsTooLarge options (plain_text reading)
whole_back options reading two true is past none = inr (prints_past two is past)
whole_back options reading two false is past none =
    let are = alike reading two none in
    inl (record { again = two; whole = is; within = past; same_text = sym are.text; same_functions = sym are.functions })

shown_back : (options : Options) (reading : CxxReading) (o : UnitOutcome) → outcome_of options (plain_text reading) ≡ o → shown_by reading o ≡ None → ReadsBack options (plain_text reading) reading ⊎ IsTooLarge options (plain_text reading)
shown_back options reading (Whole two) is none = whole_back options reading two (is_past_output two) is refl none
shown_back options reading (Broken fault) is none = absurd (cc)
shown_back options reading (PastLimit limit) is none = inr (reads_past limit is)

pub reads_back : (options : Options) (reading : CxxReading) → read_again options reading ≡ None → ReadsBack options (plain_text reading) reading ⊎ IsTooLarge options (plain_text reading)
unfolding read_again
reads_back options reading none = shown_back options reading (outcome_of options (plain_text reading)) refl none

-- ---- something is shown

shown_of_back : (options : Options) (reading : CxxReading) → ReadsBack options (plain_text reading) reading → shown_by reading (outcome_of options (plain_text reading)) ≡ None
shown_of_back options reading back =
    ap (shown_by reading) back.whole
    ∙ ap (λ b. cond b None (between reading back.again)) back.within
    ∙ unlike reading back.again (record { text = sym back.same_text; functions = sym back.same_functions })

shown_of_large : (options : Options) (reading : CxxReading) → IsTooLarge options (plain_text reading) → shown_by reading (outcome_of options (plain_text reading)) ≡ None
shown_of_large options reading (reads_past limit is) = ap (shown_by reading) is
shown_of_large options reading (prints_past again is past) = ap (shown_by reading) is ∙ ap (λ b. cond b None (between reading again)) past

pub not_read_back : (options : Options) (reading : CxxReading) (difference : Difference) → read_again options reading ≡ Some difference → ¬ (ReadsBack options (plain_text reading) reading) × ¬ (IsTooLarge options (plain_text reading))
unfolding read_again
not_read_back options reading difference shown =
    (λ back. none_some difference (sym (shown_of_back options reading back) ∙ shown), λ large. none_some difference (sym (shown_of_large options reading large) ∙ shown))
