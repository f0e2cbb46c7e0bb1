-- The lines of a call speak of each of its candidates once.
use Rattle.std.proofs.Common.{◌≡◌, ◌≢◌, ◌≤◌, ◌<◌, ℕ, zero, suc, ◌+◌, ◌-◌, Bool, true, false, cond, eqb, get_or, List, [], ◌∷◌, ◌++◌, length, Some, refl, ap, sym, subst, ◌∙◌, arith, eq-eqb, eqb-true}
use Rattle.std.specs.Prelude.{nat_eq, if◌then◌else◌}
use Rattle.std.specs.List.{slice_get}
use Rattle.std.proofs.lemmas.List.Elements.{filter-append}
use Rattle.std.proofs.lemmas.Option.{slice_get-get_or}
use Rattle.cxx_model.specs.declared.overload.Outcome.{Outcome}
use Rattle.cxx_model.specs.Facts.Declarations.{CxxFact}
use Rattle.cxx_reading.specs.State.{CxxCall}
use Rattle.cxx_listing.specs.Lines.{CallLine, chosen_line, other_line, candidate_shown, lines_of, others_from}
use Rattle.cxx_listing.specs.Listing.{IsListed, IsWellKept, lines_for, position_on}

unequal : (n m : ℕ) → n ≢ m → eqb n m ≡ false
unequal n m other = by (eqb n m) refl
  where
    by : (t : Bool) → eqb n m ≡ t → eqb n m ≡ false
    by true e = absurd (other (eqb-true n m e))
    by false e = e

-- the line of a candidate, given whether it is the chosen one
abbrev line_unless : List CxxFact → Bool → ℕ → ℕ → Outcome → List CallLine
line_unless all is_chosen position number outcome = if is_chosen then [] else other_line (candidate_shown all position (Some number)) outcome ∷ []

one_for : (all : List CxxFact) (wanted position number : ℕ) (outcome : Outcome) (same : Bool) → eqb position wanted ≡ same → lines_for wanted (other_line (candidate_shown all position (Some number)) outcome ∷ []) ≡ cond same (other_line (candidate_shown all position (Some number)) outcome ∷ []) []
one_for all wanted position number outcome true e = rw e refl
one_for all wanted position number outcome false e = rw e refl

-- none speaks of another candidate
none_for : (all : List CxxFact) (is_chosen : Bool) (wanted position number : ℕ) (outcome : Outcome) → position ≢ wanted → lines_for wanted (line_unless all is_chosen position number outcome) ≡ []
none_for all true wanted position number outcome other = refl
none_for all false wanted position number outcome other = one_for all wanted position number outcome false (unequal position wanted other)

-- none speaks of the chosen one
none_chosen : (all : List CxxFact) (is_chosen : Bool) (chosen position number : ℕ) (outcome : Outcome) → eqb position chosen ≡ is_chosen → lines_for chosen (line_unless all is_chosen position number outcome) ≡ []
none_chosen all true chosen position number outcome e = refl
none_chosen all false chosen position number outcome e = one_for all chosen position number outcome false e

cut : (wanted : ℕ) (one others : List CallLine) → lines_for wanted (one ++ others) ≡ lines_for wanted one ++ lines_for wanted others
cut wanted one others = filter-append (λ line. nat_eq (position_on line) wanted) one others

-- ---- candidates from a position on

none_below : (all : List CxxFact) (chosen position wanted : ℕ) (numbers : List ℕ) (outcomes : List Outcome) → wanted < position → lines_for wanted (others_from all chosen position numbers outcomes) ≡ []
none_below all chosen position wanted [] outcomes below = refl
none_below all chosen position wanted (number ∷ numbers) [] below = refl
none_below all chosen position wanted (number ∷ numbers) (outcome ∷ outcomes) below =
    cut wanted (line_unless all (nat_eq position chosen) position number outcome) (others_from all chosen (suc position) numbers outcomes)
    ∙ ap (λ (ls : List CallLine). ls ++ lines_for wanted (others_from all chosen (suc position) numbers outcomes)) (none_for all (nat_eq position chosen) wanted position number outcome (λ e. omega (arith, below, e)))
    ∙ none_below all chosen (suc position) wanted numbers outcomes (omega (arith, below))

none_of_chosen : (all : List CxxFact) (chosen position : ℕ) (numbers : List ℕ) (outcomes : List Outcome) → lines_for chosen (others_from all chosen position numbers outcomes) ≡ []
none_of_chosen all chosen position [] outcomes = refl
none_of_chosen all chosen position (number ∷ numbers) [] = refl
none_of_chosen all chosen position (number ∷ numbers) (outcome ∷ outcomes) =
    cut chosen (line_unless all (nat_eq position chosen) position number outcome) (others_from all chosen (suc position) numbers outcomes)
    ∙ ap (λ (ls : List CallLine). ls ++ lines_for chosen (others_from all chosen (suc position) numbers outcomes)) (none_chosen all (nat_eq position chosen) chosen position number outcome refl)
    ∙ none_of_chosen all chosen (suc position) numbers outcomes

none_past : (all : List CxxFact) (chosen position wanted : ℕ) (numbers : List ℕ) (outcomes : List Outcome) → position + length numbers ≤ wanted → lines_for wanted (others_from all chosen position numbers outcomes) ≡ []
none_past all chosen position wanted [] outcomes past = refl
none_past all chosen position wanted (number ∷ numbers) [] past = refl
none_past all chosen position wanted (number ∷ numbers) (outcome ∷ outcomes) past =
    cut wanted (line_unless all (nat_eq position chosen) position number outcome) (others_from all chosen (suc position) numbers outcomes)
    ∙ ap (λ (ls : List CallLine). ls ++ lines_for wanted (others_from all chosen (suc position) numbers outcomes)) (none_for all (nat_eq position chosen) wanted position number outcome (λ e. omega (arith, past, e)))
    ∙ none_past all chosen (suc position) wanted numbers outcomes (omega (arith, past))

-- the line of a candidate that is not the chosen one
abbrev line_of : List CxxFact → ℕ → ℕ → Outcome → CallLine
line_of all position number outcome = other_line (candidate_shown all position (Some number)) outcome

one_here : (all : List CxxFact) (chosen position number : ℕ) (outcome : Outcome) (rest : List CallLine) → position ≢ chosen → lines_for position rest ≡ [] → lines_for position (line_unless all (nat_eq position chosen) position number outcome ++ rest) ≡ line_of all position number outcome ∷ []
one_here all chosen position number outcome rest other none =
    cut position (line_unless all (nat_eq position chosen) position number outcome) rest
    ∙ ap (λ (b : Bool). lines_for position (line_unless all b position number outcome) ++ lines_for position rest) (unequal position chosen other)
    ∙ ap (λ (ls : List CallLine). ls ++ lines_for position rest) (one_for all position position number outcome true (eq-eqb position position refl))
    ∙ ap (λ (ls : List CallLine). line_of all position number outcome ∷ ls) none

one_at : (all : List CxxFact) (chosen position k wanted : ℕ) (numbers : List ℕ) (outcomes : List Outcome) (number : ℕ) (outcome : Outcome) → wanted ≡ position + k → wanted ≢ chosen → slice_get numbers k ≡ Some number → slice_get outcomes k ≡ Some outcome
    → lines_for wanted (others_from all chosen position numbers outcomes) ≡ line_of all wanted number outcome ∷ []
one_at all chosen position k wanted [] outcomes number outcome at other is says = absurd cc
one_at all chosen position k wanted (first ∷ numbers) [] number outcome at other is says = absurd cc
one_at all chosen position zero wanted (first ∷ numbers) (one ∷ outcomes) number outcome at other is says =
    let here : position ≡ wanted = omega (arith, at) in
    let same : first ≡ number = cc in
    let told : one ≡ outcome = cc in
    let away : position ≢ chosen = λ e. other (sym here ∙ e) in
    subst (λ (w : ℕ). lines_for w (others_from all chosen position (first ∷ numbers) (one ∷ outcomes)) ≡ line_of all w number outcome ∷ []) here
    (one_here all chosen position first one (others_from all chosen (suc position) numbers outcomes) away (none_below all chosen (suc position) position numbers outcomes (omega arith))
    ∙ ap (λ (n : ℕ). line_of all position n one ∷ []) same ∙ ap (λ (o : Outcome). line_of all position number o ∷ []) told)
one_at all chosen position (suc k) wanted (first ∷ numbers) (one ∷ outcomes) number outcome at other is says =
    cut wanted (line_unless all (nat_eq position chosen) position first one) (others_from all chosen (suc position) numbers outcomes)
    ∙ ap (λ (ls : List CallLine). ls ++ lines_for wanted (others_from all chosen (suc position) numbers outcomes)) (none_for all (nat_eq position chosen) wanted position first one (λ e. omega (arith, at, e)))
    ∙ one_at all chosen (suc position) k wanted numbers outcomes number outcome (omega (arith, at)) other is says

-- ---- a call

drops_first : (wanted : ℕ) (first : CallLine) (others : List CallLine) → position_on first ≢ wanted → lines_for wanted (first ∷ others) ≡ lines_for wanted others
drops_first wanted first others other = rw (unequal (position_on first) wanted other) refl

keeps_first : (wanted : ℕ) (first : CallLine) (others : List CallLine) → position_on first ≡ wanted → lines_for wanted (first ∷ others) ≡ first ∷ lines_for wanted others
keeps_first wanted first others same = rw (eq-eqb (position_on first) wanted same) refl

pub listed_so : (all : List CxxFact) (call : CxxCall) → IsWellKept call → IsListed all call
listed_so all call kept =
    let number : ℕ = get_or call.candidates (call.chosen - 1) 0 in
    let is : slice_get call.candidates (call.chosen - 1) ≡ Some number = slice_get-get_or call.candidates (call.chosen - 1) 0 (omega (arith, kept.chosen, kept.within)) in
    let others : List CallLine = others_from all call.chosen 1 call.candidates call.outcomes in
    let first : lines_of all call ≡ chosen_line call.place (candidate_shown all call.chosen (Some number)) ∷ others = ap (λ n. chosen_line call.place (candidate_shown all call.chosen n) ∷ others) is in
    record {
      number = number;
      others = others;
      chosen = is;
      first = first;
      each = λ position n outcome at says other.
          drops_first (position + 1) (chosen_line call.place (candidate_shown all call.chosen (slice_get call.candidates (call.chosen - 1)))) others (λ e. other (sym e))
          ∙ one_at all call.chosen 1 position (position + 1) call.candidates call.outcomes n outcome (omega arith) other at says;
      only =
          ap (lines_for call.chosen) first
          ∙ keeps_first call.chosen (chosen_line call.place (candidate_shown all call.chosen (Some number))) others refl
          ∙ ap (λ (ls : List CallLine). chosen_line call.place (candidate_shown all call.chosen (Some number)) ∷ ls) (none_of_chosen all call.chosen 1 call.candidates call.outcomes);
      none = λ position past.
          drops_first (position + 1) (chosen_line call.place (candidate_shown all call.chosen (slice_get call.candidates (call.chosen - 1)))) others (λ e. omega (arith, e, past, kept.within))
          ∙ none_past all call.chosen 1 (position + 1) call.candidates call.outcomes (omega (arith, past));
    }
