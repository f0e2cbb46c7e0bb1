-- The lines of calls, as they are written one after another.
use Rattle.std.proofs.Common.{◌≡◌, ◌∙◌, ◌<◌, ◌≤◌, ◌+◌, ◌-◌, ◌++◌, ℕ, zero, suc, true, false, eqb, List, [], ◌∷◌, length, drop, get_or, map, Option, Some, None, option_map, refl, ap, sym, append-nil, append_assoc, arith, eq-eqb}
use Rattle.std.specs.Prelude.{flat_map}
use Rattle.std.specs.List.{slice_get}
use Rattle.std.proofs.lemmas.List.{at_drop_more, at_drop_all}
use Rattle.std.proofs.lemmas.Grind.{flat_map-append}
use Rattle.cxx_form.specs.Text.{printed_calls}
use Rattle.cxx_form.specs.Views.{facts_in}
use Rattle.cxx_form.proofs.Gathering.{fact_is}
use Rattle.cxx_form.proofs.InTrees.{not_it}
use Rattle.cxx_meaning.specs.Lookups.Gathered.{before}
use Rattle.cxx_model.specs.declared.evidence.Shown.TheVariants.{Declared}
use Rattle.cxx_model.specs.declared.facts.Fact.{Fact}
use Rattle.cxx_model.specs.declared.overload.Outcome.{Outcome}
use Rattle.cxx_model.specs.declared.place.Place.{Place}
use Rattle.cxx_model.specs.declared.types.FactId.{FactId}
use Rattle.cxx_model.specs.Facts.Declarations.{fact_at, facts_at, CxxFact}
use Rattle.cxx_model.specs.Text.Lexemes.{nowhere}
use Rattle.cxx_model.specs.Types.Trees.{CxxType}
use Rattle.cxx_phrase_text.specs.declared.calls.ListedCall.{ListedCall}
use Rattle.cxx_phrase_text.specs.Calls.{CallOfText}
use Rattle.cxx_phrase_text.specs.Listing.{call_of}
use Rattle.cxx_reading.specs.State.{CxxCall}
use Rattle.cxx_tree.specs.declared.kept.Decided.{Decided}
use Rattle.cxx_tree.specs.Arena.{number_of_option}
use Rattle.cxx_tree.specs.Held.{call_at, calls_at, meaning, numbers_at, Held}
use Rattle.cxx_model.specs.declared.options.Options.{Options}
use Rattle.cxx_listing.specs.Calls.{listed, records_of}
use Rattle.cxx_listing.specs.Lines.{call_text, calls_text, line_text, others_from, chosen_line, chosen_of, other_line, place_of, place_of_fact, CallLine}
use Rattle.cxx_listing.specs.Views.{listed_at, other_lines, text_from}

-- ---- candidates

pub fact_found : (types : List CxxType) (facts : List Fact) (number : ℕ) (fact : Fact) → Some fact ≡ slice_get facts number → fact.place ≡ place_of_fact (slice_get (facts_at types facts) number)
fact_found types facts number fact is = sym (ap place_of_fact (fact_is types facts number ∙ ap (option_map (fact_at types)) (sym is)))

pub fact_missing : (types : List CxxType) (facts : List Fact) (number : ℕ) → None ≡ slice_get facts number → nowhere ≡ place_of_fact (slice_get (facts_at types facts) number)
fact_missing types facts number is = sym (ap place_of_fact (fact_is types facts number ∙ ap (option_map (fact_at types)) (sym is)))

pub number_found : (numbers : List FactId) (i : ℕ) → slice_get (numbers_at numbers) i ≡ number_of_option (slice_get numbers i)
number_found [] i = refl
number_found (n ∷ numbers) zero = refl
number_found (n ∷ numbers) (suc i) = number_found numbers i

-- ---- the lines of a call

pub first_written : (all : List CxxFact) (call : CxxCall) (place : Place) (old new : List ℕ) → place ≡ place_of all (slice_get call.candidates (call.chosen - 1)) → new ≡ old ++ line_text (chosen_line call.place (Declared call.chosen place)) → new ≡ old ++ line_text (chosen_line call.place (chosen_of all call))
first_written all call place old new at more = more ∙ ap (λ (p : Place). old ++ line_text (chosen_line call.place (Declared call.chosen p))) at

pub chosen_left_out : (all : List CxxFact) (chosen position number : ℕ) (outcome : Outcome) (old : List ℕ) → position ≡ chosen → old ≡ old ++ flat_map line_text (other_lines all chosen position number outcome)
chosen_left_out all chosen position number outcome old same = sym ((let is : eqb position chosen ≡ true = eq-eqb position chosen same in rw is refl) ∙ append-nil old)

pub other_written : (all : List CxxFact) (chosen position number : ℕ) (outcome : Outcome) (place : Place) (old new : List ℕ) → (position ≡ chosen → ⊥) → place ≡ place_of_fact (slice_get all number) → new ≡ old ++ line_text (other_line (Declared position place) outcome) → new ≡ old ++ flat_map line_text (other_lines all chosen position number outcome)
other_written all chosen position number outcome place old new other at more =
    more ∙ ap (λ (p : Place). old ++ line_text (other_line (Declared position p) outcome)) at
    ∙ ap (λ (xs : List ℕ). old ++ xs) (sym (append-nil (line_text (other_line (Declared position (place_of_fact (slice_get all number))) outcome))))
    ∙ sym (let is : eqb position chosen ≡ false = not_it position chosen other in rw is refl)

pub others_end : (all : List CxxFact) (chosen position : ℕ) (outcomes : List Outcome) (old whole : List ℕ) → old ++ flat_map line_text (others_from all chosen position [] outcomes) ≡ whole → old ≡ whole
others_end all chosen position outcomes old whole so = sym (append-nil old) ∙ so

pub outcomes_end : (all : List CxxFact) (chosen position number : ℕ) (numbers : List ℕ) (old whole : List ℕ) → old ++ flat_map line_text (others_from all chosen position (number ∷ numbers) []) ≡ whole → old ≡ whole
outcomes_end all chosen position number numbers old whole so = sym (append-nil old) ∙ so

pub other_more : (all : List CxxFact) (chosen position number : ℕ) (outcome : Outcome) (numbers : List ℕ) (outcomes : List Outcome) (old new whole : List ℕ) → new ≡ old ++ flat_map line_text (other_lines all chosen position number outcome)
    → old ++ flat_map line_text (others_from all chosen position (number ∷ numbers) (outcome ∷ outcomes)) ≡ whole → new ++ flat_map line_text (others_from all chosen (position + 1) numbers outcomes) ≡ whole
other_more all chosen position number outcome numbers outcomes old new whole more so =
    let here : List CallLine = other_lines all chosen position number outcome in
    let left : List CallLine = others_from all chosen (suc position) numbers outcomes in
    let next : position + 1 ≡ suc position = omega arith in
    ap (λ (n : ℕ). new ++ flat_map line_text (others_from all chosen n numbers outcomes)) next
    ∙ ap (λ (xs : List ℕ). xs ++ flat_map line_text left) more ∙ append_assoc old (flat_map line_text here) (flat_map line_text left)
    ∙ ap (λ (xs : List ℕ). old ++ xs) (sym (flat_map-append line_text here left)) ∙ so

-- ---- the calls

pub call_found : (types : List CxxType) (calls : List Decided) (n : ℕ) → slice_get (calls_at types calls) n ≡ option_map (call_at types) (slice_get calls n)
call_found types [] n = refl
call_found types (call ∷ calls) zero = refl
call_found types (call ∷ calls) (suc n) = call_found types calls n

pub call_more : (held : Held) (one : ListedCall) (call : Decided) (old new : List ℕ) → Some call ≡ slice_get held.calls one.number → new ≡ old ++ call_text (facts_in held) (call_at held.types call) → new ≡ old ++ flat_map (call_text (facts_in held)) (listed_at held one)
call_more held one call old new is more =
    let found : slice_get (calls_at held.types held.calls) one.number ≡ Some (call_at held.types call) = call_found held.types held.calls one.number ∙ ap (option_map (call_at held.types)) (sym is) in
    more ∙ ap (λ (xs : List ℕ). old ++ xs) (sym (append-nil (call_text (facts_in held) (call_at held.types call))))
    ∙ ap (λ (c : Option CxxCall). old ++ flat_map (call_text (facts_in held)) (before c [])) (sym found)

pub call_missing : (held : Held) (one : ListedCall) (old : List ℕ) → None ≡ slice_get held.calls one.number → old ≡ old ++ flat_map (call_text (facts_in held)) (listed_at held one)
call_missing held one old is =
    let found : slice_get (calls_at held.types held.calls) one.number ≡ None = call_found held.types held.calls one.number ∙ ap (option_map (call_at held.types)) (sym is) in
    sym (append-nil old) ∙ ap (λ (c : Option CxxCall). old ++ flat_map (call_text (facts_in held)) (before c [])) (sym found)

before_more : (f : CxxCall → List ℕ) (found : Option CxxCall) (others : List CxxCall) → flat_map f (before found others) ≡ flat_map f (before found []) ++ flat_map f others
before_more f None others = refl
before_more f (Some call) others = ap (λ (xs : List ℕ). xs ++ flat_map f others) (sym (append-nil (f call)))

one_more : (held : Held) (one : ListedCall) (others : List ListedCall) → text_from held (one ∷ others) ≡ flat_map (call_text (facts_in held)) (listed_at held one) ++ text_from held others
one_more held one others = before_more (call_text (facts_in held)) (slice_get (calls_at held.types held.calls) one.number) (records_of (calls_at held.types held.calls) (map call_of others))

pub listed_more : (held : Held) (calls : List ListedCall) (i : ℕ) (d : ListedCall) (old new whole : List ℕ) → i < length calls → new ≡ old ++ flat_map (call_text (facts_in held)) (listed_at held (get_or calls i d)) → old ++ text_from held (drop i calls) ≡ whole → new ++ text_from held (drop (i + 1) calls) ≡ whole
listed_more held calls i d old new whole within more so =
    let here : List ℕ = flat_map (call_text (facts_in held)) (listed_at held (get_or calls i d)) in
    let left : List ℕ = text_from held (drop (i + 1) calls) in
    ap (λ xs. xs ++ left) more ∙ append_assoc old here left
    ∙ ap (λ xs. old ++ xs) (sym (at_drop_more (text_from held) calls i d within ∙ one_more held (get_or calls i d) (drop (i + 1) calls))) ∙ so

pub listed_all : (held : Held) (calls : List ListedCall) (i : ℕ) (now whole : List ℕ) → length calls ≤ i → now ++ text_from held (drop i calls) ≡ whole → now ≡ whole
listed_all held calls i now whole past so = sym (append-nil now) ∙ ap (λ xs. now ++ xs) (sym (at_drop_all (text_from held) calls i past)) ∙ so

pub whole_text : (options : Options) (held : Held) (calls : List ListedCall) → map call_of calls ≡ printed_calls (meaning held) → text_from held calls ≡ calls_text (record { options = options; state = meaning held })
unfolding calls_text listed meaning
whole_text options held calls are = ap (λ (cs : List CallOfText). flat_map (call_text (facts_in held)) (records_of (calls_at held.types held.calls) cs)) are
