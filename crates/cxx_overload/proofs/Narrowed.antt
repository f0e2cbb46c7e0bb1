-- Functions that have neither an ellipsis nor default arguments.
use Rattle.std.proofs.Common.{◌≡◌, ℕ, suc, ◌≤◌, Bool, true, false, not, cond, nat_lt, ◌&&◌, ◌||◌, eqb, List, [], ◌∷◌, length, map, Option, Some, None, Ok, Err, refl, sym, ◌∙◌, ap, arith}
use Rattle.std.specs.List.{find, filter_map, cons_option, list_all, list_any}
use Rattle.std.specs.Option.{option_map}
use Rattle.cxx_model.specs.declared.evidence.Evidence.TheVariants.{DoesNotBeat}
use Rattle.cxx_model.specs.declared.evidence.Reason.TheVariants.{TooFewArguments, TooManyArguments}
use Rattle.cxx_model.specs.declared.overload.Outcome.{Outcome}
use Rattle.cxx_model.specs.declared.overload.Outcome.TheVariants.{Viable, NotViable}
use Rattle.cxx_model.specs.declared.facts.MemberKind.{MemberKind}
use Rattle.cxx_model.specs.declared.place.Place.{Place}
use Rattle.cxx_model.specs.declared.types.Cv.{Cv}
use Rattle.cxx_model.specs.Choice.Better.{beats_if_other, compared, counter, is_better, is_better_order, is_worse_order}
use Rattle.cxx_model.specs.Facts.Declarations as declares
use Rattle.cxx_model.specs.Facts.Declarations.{CxxGraph, Declares}
use Rattle.cxx_model.specs.Types.Trees.{CxxType, CxxTypes, fundamental, function_of, no_types, type_then}
use Rattle.cxx_meaning.specs.Conversions.Asking.{Asked, ◌>>=◌}
use Rattle.cxx_meaning.specs.Conversions.Standard.{CxxOperand, CxxStandard, standard_sequence}
use Rattle.cxx_reading.specs.Choosing as narrow
use Rattle.cxx_reading.specs.Seen.{Numbered}
use Rattle.cxx_overload.specs.Candidates.{CxxCandidate, candidate_by, candidate_by_what, candidate_of, candidates, candidates_from, defaults_behind, each_type, put}
use Rattle.cxx_overload.specs.Choices.{beats, choice, choice_by, chosen, none_viable, ambiguous, position_of, refusal, refusal_by, refusals, shown, tie, ties}
use Rattle.cxx_overload.specs.Narrow.{IsPlain, ArePlain, Membership, narrowed, widened, widened_choice, widened_rating, widened_viable}
use Rattle.cxx_overload.specs.Sequences.{found_sequence, order_between, sequences_of}
use Rattle.cxx_overload.specs.Viability.{Rated, by_count, by_sequences, first_without, is_viable, least_arguments, rated, rated_one, viable}
use Rattle.cxx_overload.specs.Views.{kept_where}

-- ---- candidates

types_same : (ts : CxxTypes) → each_type ts ≡ narrow.each_type ts
types_same no_types = refl
types_same (type_then t ts) = ap (λ xs. t ∷ xs) (types_same ts)

by_same : (position number : ℕ) (place : Place) (member : MemberKind) (defaults : ℕ) (of : CxxType) → option_map narrowed (candidate_by position number place member defaults of) ≡ narrow.candidate_by position number place of
by_same position number place member defaults (function_of result parameters ellipsis cv) =
    let make : List CxxType → narrow.CxxCandidate = λ ps. record { position = position; number = number; place = place; result = result; parameters = ps; ellipsis = ellipsis } in
    ap (λ ps. Some (make ps)) (types_same parameters)
by_same position number place member defaults (fundamental of) = refl
by_same position number place member defaults _ = refl

what_same : (position number : ℕ) (place : Place) (what : Declares) (others : List Numbered) → option_map narrowed (candidate_by_what position number place what others) ≡ narrow.candidate_by_what position number place what
what_same position number place (declares.function of kind flags defaults None) others = by_same position number place kind (defaults_behind number defaults others) of
what_same position number place (declares.function of kind flags defaults (Some first)) others = refl
what_same position number place _ others = refl

put_same : (o : Option CxxCandidate) (position : ℕ) (later : ℕ → List CxxCandidate) (same : ℕ → List narrow.CxxCandidate) → ((k : ℕ) → map narrowed (later k) ≡ same k) → map narrowed (put o later position) ≡ narrow.put (option_map narrowed o) same position
put_same None position later same h = h position
put_same (Some one) position later same h = ap (λ xs. narrowed one ∷ xs) (h (suc position))

from_same : (all : List Numbered) (position : ℕ) → map narrowed (candidates_from all position) ≡ narrow.candidates_from all position
from_same [] position = refl
from_same (one ∷ others) position =
    put_same (candidate_of position one others) position (candidates_from others) (narrow.candidates_from others) (from_same others)
    ∙ ap (λ o. narrow.put o (narrow.candidates_from others) position) (what_same position one.number one.fact.place one.fact.what others)

pub candidates_same : (all : List Numbered) → map narrowed (candidates all) ≡ narrow.candidates all
unfolding candidates narrow.candidates
candidates_same all = from_same all 1

-- ---- sequences

pub record IsJoined {A : Type 0} (first : Asked A) (rest : Asked (List A)) (all : List A) : Type 0 where
  pub one : A
  pub others : List A
  pub first_is : first ≡ Ok one
  pub rest_is : rest ≡ Ok others
  pub all_is : (one ∷ others) ≡ all

joined_ok : {A : Type 0} (first : Asked A) (rest : Asked (List A)) (all : List A) → (first >>= λ one. rest >>= λ others. Ok (one ∷ others)) ≡ Ok all → IsJoined first rest all
joined_ok (Ok one) (Ok others) all e = record { one = one; others = others; first_is = refl; rest_is = refl; all_is = cc }
joined_ok (Ok one) (Err class) all e = absurd cc
joined_ok (Err class) rest all e = absurd cc

sequences_same : (graph : CxxGraph) (operands : List CxxOperand) (parameters : List CxxType) (ellipsis : Bool) (found : List (Option CxxStandard)) → length operands ≤ length parameters → narrow.sequences_of graph operands parameters ≡ Ok found → sequences_of graph operands parameters ellipsis ≡ Ok (map found_sequence found)
sequences_same graph [] parameters ellipsis found few e = let same : [] ≡ found = cc in ap (λ xs. Ok (map found_sequence xs)) same
sequences_same graph (o ∷ operands) [] ellipsis found few e = absurd (omega (arith, few))
sequences_same graph (o ∷ operands) (p ∷ parameters) ellipsis found few e =
    let h = joined_ok (standard_sequence graph o p) (narrow.sequences_of graph operands parameters) found e in
    let rest = sequences_same graph operands parameters ellipsis h.others (omega (arith, few)) h.rest_is in
    ap (λ asked. (asked >>= λ found. Ok (found_sequence found)) >>= λ first. sequences_of graph operands parameters ellipsis >>= λ others. Ok (first ∷ others)) h.first_is
    ∙ ap (λ asked. asked >>= λ others. Ok (found_sequence h.one ∷ others)) rest
    ∙ ap (λ xs. Ok (map found_sequence xs)) h.all_is

without_same : (position : ℕ) (found : List (Option CxxStandard)) → first_without position (map found_sequence found) ≡ narrow.first_without position found
without_same position [] = refl
without_same position (None ∷ found) = refl
without_same position (Some one ∷ found) = without_same (suc position) found

-- ---- viable candidates

few_same : (members : ℕ → Membership) (arguments : ℕ) (one : CxxCandidate) → IsPlain members one → nat_lt arguments (least_arguments one) ≡ nat_lt arguments (length one.parameters)
few_same members arguments one plain = ap (nat_lt arguments) (let none = plain.no_defaults in omega (arith, none))

rebuilt : (members : ℕ → Membership) (one : CxxCandidate) → IsPlain members one → widened members (narrowed one) ≡ one
rebuilt members one plain =
    let make : ℕ → MemberKind → Cv → CxxCandidate = λ n member cv. record { position = one.position; number = one.number; place = one.place; member = member; cv = cv; result = one.result; parameters = one.parameters; ellipsis = one.ellipsis; defaults = n } in
    ap (λ n. make n (members one.position).member (members one.position).cv) (sym plain.no_defaults)
    ∙ ap (λ m. make one.defaults m (members one.position).cv) (sym plain.member)
    ∙ ap (λ cv. make one.defaults one.member cv) (sym plain.cv)

by_same_sequences : (one : CxxCandidate) (found : List (Option CxxStandard)) (o : Option ℕ) → by_sequences one None (map found_sequence found) o ≡ record { candidate = one; outcome = narrow.by_sequences o; sequences = kept_where (narrow.by_sequences o) (map found_sequence found) }
by_same_sequences one found None = refl
by_same_sequences one found (Some position) = refl

rated_as : (graph : CxxGraph) (operands : List CxxOperand) (one : CxxCandidate) (found : List (Option CxxStandard)) (few many : Bool) → nat_lt (length operands) (length one.parameters) ≡ few → (not one.ellipsis && nat_lt (length one.parameters) (length operands)) ≡ many → one.ellipsis ≡ false → narrow.sequences_of graph operands one.parameters ≡ Ok found → by_count graph None operands one (cond few (Some TooFewArguments) (cond many (Some TooManyArguments) None)) ≡ Ok (record { candidate = one; outcome = cond few (NotViable TooFewArguments) (cond many (NotViable TooManyArguments) (narrow.by_sequences (narrow.first_without 1 found))); sequences = kept_where (cond few (NotViable TooFewArguments) (cond many (NotViable TooManyArguments) (narrow.by_sequences (narrow.first_without 1 found)))) (map found_sequence found) })
rated_as graph operands one found true many is_few is_many closed e = refl
rated_as graph operands one found false true is_few is_many closed e = refl
rated_as graph operands one found false false is_few is_many closed e =
    let most : length operands ≤ length one.parameters = no_more one.ellipsis (nat_lt (length one.parameters) (length operands)) is_many closed in
    ap (λ asked. asked >>= λ sequences. Ok (by_sequences one None sequences (first_without 1 sequences))) (sequences_same graph operands one.parameters one.ellipsis found most e)
    ∙ ap (λ o. Ok (by_sequences one None (map found_sequence found) o)) (without_same 1 found)
    ∙ ap (λ r. Ok r) (by_same_sequences one found (narrow.first_without 1 found))
  where
    said : (ellipsis more : Bool) → (not ellipsis && more) ≡ false → ellipsis ≡ false → more ≡ false
    said true more e f = absurd cc
    said false more e f = e

    no_more : (ellipsis more : Bool) → (not ellipsis && nat_lt (length one.parameters) (length operands)) ≡ false → ellipsis ≡ false → length operands ≤ length one.parameters
    no_more ellipsis more e f = let h = said ellipsis (nat_lt (length one.parameters) (length operands)) e f in grind (arith, h)

one_same : (members : ℕ → Membership) (graph : CxxGraph) (operands : List CxxOperand) (one : CxxCandidate) (found : List (Option CxxStandard)) → IsPlain members one → narrow.sequences_of graph operands one.parameters ≡ Ok found → rated_one graph None operands one ≡ Ok (widened_rating members (narrow.rated_by operands (narrowed one) found))
unfolding rated_one
one_same members graph operands one found plain e =
    ap (λ few. by_count graph None operands one (cond few (Some TooFewArguments) (cond (not one.ellipsis && nat_lt (length one.parameters) (length operands)) (Some TooManyArguments) None))) (few_same members (length operands) one plain)
    ∙ rated_as graph operands one found (nat_lt (length operands) (length one.parameters)) (not one.ellipsis && nat_lt (length one.parameters) (length operands)) refl refl plain.closed e
    ∙ ap (λ c. Ok (make c)) (sym (rebuilt members one plain))
  where
    make : CxxCandidate → Rated
    make c = record { candidate = c; outcome = narrow.outcome_by (length operands) (narrowed one) found; sequences = kept_where (narrow.outcome_by (length operands) (narrowed one) found) (map found_sequence found) }

pub record IsRated (graph : CxxGraph) (operands : List CxxOperand) (one : narrow.CxxCandidate) (rest : Asked (List narrow.Rated)) (all : List narrow.Rated) : Type 0 where
  pub found : List (Option CxxStandard)
  pub others : List narrow.Rated
  pub first_is : narrow.sequences_of graph operands one.parameters ≡ Ok found
  pub rest_is : rest ≡ Ok others
  pub all_is : (narrow.rated_by operands one found ∷ others) ≡ all

rated_ok : (graph : CxxGraph) (operands : List CxxOperand) (one : narrow.CxxCandidate) (first : Asked (List (Option CxxStandard))) (rest : Asked (List narrow.Rated)) (all : List narrow.Rated) → narrow.sequences_of graph operands one.parameters ≡ first → (first >>= λ sequences. rest >>= λ others. Ok (narrow.rated_by operands one sequences ∷ others)) ≡ Ok all → IsRated graph operands one rest all
rated_ok graph operands one (Ok found) (Ok others) all is e = record { found = found; others = others; first_is = is; rest_is = refl; all_is = cc }
rated_ok graph operands one (Ok found) (Err class) all is e = absurd cc
rated_ok graph operands one (Err class) rest all is e = absurd cc

pub rated_same : (members : ℕ → Membership) (graph : CxxGraph) (operands : List CxxOperand) (all : List CxxCandidate) (found : List narrow.Rated) → ArePlain members all → narrow.rated graph operands (map narrowed all) ≡ Ok found → rated graph None operands all ≡ Ok (map (widened_rating members) found)
unfolding rated narrow.rated
rated_same members graph operands [] found plain e = let same : [] ≡ found = cc in ap (λ xs. Ok (map (widened_rating members) xs)) same
rated_same members graph operands (one ∷ all) found plain e =
    let h = rated_ok graph operands (narrowed one) (narrow.sequences_of graph operands one.parameters) (narrow.rated graph operands (map narrowed all)) found refl e in
    ap (λ asked. asked >>= λ first. rated graph None operands all >>= λ others. Ok (first ∷ others)) (one_same members graph operands one h.found plain.0 h.first_is)
    ∙ ap (λ asked. asked >>= λ others. Ok (widened_rating members (narrow.rated_by operands (narrowed one) h.found) ∷ others)) (rated_same members graph operands all h.others plain.1 h.rest_is)
    ∙ ap (λ xs. Ok (map (widened_rating members) xs)) h.all_is

-- ---- the better of two

order_same : (graph : CxxGraph) (one two : Option CxxStandard) → order_between graph (found_sequence one) (found_sequence two) ≡ narrow.order_between graph one two
order_same graph (Some one) (Some two) = refl
order_same graph (Some one) None = refl
order_same graph None (Some two) = refl
order_same graph None None = refl

compared_same : (graph : CxxGraph) (ones twos : List (Option CxxStandard)) → compared (order_between graph) (map found_sequence ones) (map found_sequence twos) ≡ compared (narrow.order_between graph) ones twos
compared_same graph [] twos = refl
compared_same graph (one ∷ ones) [] = refl
compared_same graph (one ∷ ones) (two ∷ twos) =
    ap (λ o. o ∷ compared (order_between graph) (map found_sequence ones) (map found_sequence twos)) (order_same graph one two)
    ∙ ap (λ os. narrow.order_between graph one two ∷ os) (compared_same graph ones twos)

beats_same : (members : ℕ → Membership) (graph : CxxGraph) (one two : narrow.Rated) → beats graph (widened_viable members one) (widened_viable members two) ≡ narrow.beats graph one two
unfolding is_better
beats_same members graph one two = ap (λ os. not (list_any is_worse_order os) && list_any is_better_order os) (compared_same graph one.sequences two.sequences)

viable_step : (members : ℕ → Membership) (one : narrow.Rated) (outcome : Outcome) (rest : List Rated) (others : List narrow.Rated) → one.outcome ≡ outcome → rest ≡ map (widened_viable members) others → cond (is_viable outcome) (widened_rating members one ∷ rest) rest ≡ map (widened_viable members) (cond (narrow.is_viable outcome) (one ∷ others) others)
viable_step members one Viable rest others is same =
    let make : Outcome → Rated = λ o. record { candidate = widened members one.candidate; outcome = one.outcome; sequences = kept_where o (map found_sequence one.sequences) } in
    ap (λ o. make o ∷ rest) is ∙ ap (λ xs. make Viable ∷ xs) same
viable_step members one (NotViable reason) rest others is same = same

viable_same : (members : ℕ → Membership) (all : List narrow.Rated) → viable (map (widened_rating members) all) ≡ map (widened_viable members) (narrow.viable all)
viable_same members [] = refl
viable_same members (one ∷ others) = viable_step members one one.outcome (viable (map (widened_rating members) others)) (narrow.viable others) refl (viable_same members others)

-- ---- the best

all_mapped : {A B : Type 0} (f : A → B) (p : B → Bool) (q : A → Bool) (xs : List A) → ((x : A) → p (f x) ≡ q x) → list_all p (map f xs) ≡ list_all q xs
all_mapped f p q [] same = refl
all_mapped f p q (x ∷ xs) same = ap (λ b. b && list_all p (map f xs)) (same x) ∙ ap (λ b. q x && b) (all_mapped f p q xs same)

found_step : {A B : Type 0} (f : A → B) (x : A) (b : Bool) (o : Option B) (m : Option A) → o ≡ option_map f m → cond b (Some (f x)) o ≡ option_map f (cond b (Some x) m)
found_step f x true o m same = refl
found_step f x false o m same = same

found_mapped : {A B : Type 0} (f : A → B) (p : B → Bool) (q : A → Bool) (xs : List A) → ((x : A) → p (f x) ≡ q x) → find p (map f xs) ≡ option_map f (find q xs)
found_mapped f p q [] same = refl
found_mapped f p q (x ∷ xs) same = ap (λ b. cond b (Some (f x)) (find p (map f xs))) (same x) ∙ found_step f x (q x) (find p (map f xs)) (find q xs) (found_mapped f p q xs same)

other_same : (members : ℕ → Membership) (graph : CxxGraph) (one two : narrow.Rated) → beats_if_other position_of (beats graph) (widened_viable members one) (widened_viable members two) ≡ beats_if_other narrow.position_of (narrow.beats graph) one two
other_same members graph one two = by
  where
    positions : position_of (widened_viable members two) ≡ narrow.position_of two
    positions = refl

    other_positions : position_of (widened_viable members one) ≡ narrow.position_of one
    other_positions = refl

    by : (eqb (position_of (widened_viable members two)) (position_of (widened_viable members one)) || beats graph (widened_viable members one) (widened_viable members two)) ≡ (eqb (narrow.position_of two) (narrow.position_of one) || narrow.beats graph one two)
    by = ap (λ n. eqb n (position_of (widened_viable members one)) || beats graph (widened_viable members one) (widened_viable members two)) positions
        ∙ ap (λ n. eqb (narrow.position_of two) n || beats graph (widened_viable members one) (widened_viable members two)) other_positions
        ∙ ap (λ b. eqb (narrow.position_of two) (narrow.position_of one) || b) (beats_same members graph one two)

chosen_same : (members : ℕ → Membership) (graph : CxxGraph) (contenders : List narrow.Rated) → chosen graph (map (widened_viable members) contenders) ≡ option_map (widened_viable members) (narrow.chosen graph contenders)
unfolding chosen narrow.chosen
chosen_same members graph contenders =
    found_mapped (widened_viable members) (λ f. list_all (beats_if_other position_of (beats graph) f) (map (widened_viable members) contenders)) (λ f. list_all (beats_if_other narrow.position_of (narrow.beats graph) f) contenders) contenders
    (λ one. all_mapped (widened_viable members) (beats_if_other position_of (beats graph) (widened_viable members one)) (beats_if_other narrow.position_of (narrow.beats graph) one) contenders (λ two. other_same members graph one two))

-- ---- evidence

refusal_of_parts : (members : ℕ → Membership) (candidate : narrow.CxxCandidate) (sequences : List (Option CxxStandard)) (outcome : Outcome) → refusal_by (widened members candidate) outcome ≡ narrow.refusal (record { candidate = candidate; sequences = sequences; outcome = outcome })
refusal_of_parts members candidate sequences Viable = refl
refusal_of_parts members candidate sequences (NotViable reason) = refl

refusals_same : (members : ℕ → Membership) (all : List narrow.Rated) → filter_map refusal (map (widened_rating members) all) ≡ filter_map narrow.refusal all
refusals_same members [] = refl
refusals_same members (one ∷ others) =
    ap (λ o. cons_option o (filter_map refusal (map (widened_rating members) others))) (refusal_of_parts members one.candidate one.sequences one.outcome)
    ∙ ap (cons_option (narrow.refusal one)) (refusals_same members others)

counter_same : (members : ℕ → Membership) (graph : CxxGraph) (contenders : List narrow.Rated) (one : narrow.Rated) → counter position_of (beats graph) (map (widened_viable members) contenders) (widened_viable members one) ≡ option_map (widened_viable members) (counter narrow.position_of (narrow.beats graph) contenders one)
counter_same members graph contenders one =
    found_mapped (widened_viable members) (λ g. not (beats_if_other position_of (beats graph) (widened_viable members one) g)) (λ g. not (beats_if_other narrow.position_of (narrow.beats graph) one g)) contenders
    (λ two. ap not (other_same members graph one two))

line_same : (members : ℕ → Membership) (one : narrow.Rated) (o : Option narrow.Rated) → option_map (λ (other : Rated). DoesNotBeat (shown (widened members one.candidate)) (shown other.candidate)) (option_map (widened_viable members) o) ≡ option_map (λ (other : narrow.Rated). DoesNotBeat (narrow.shown one.candidate) (narrow.shown other.candidate)) o
line_same members one None = refl
line_same members one (Some other) = refl

tie_same : (members : ℕ → Membership) (graph : CxxGraph) (contenders : List narrow.Rated) (one : narrow.Rated) → tie graph (map (widened_viable members) contenders) (widened_viable members one) ≡ narrow.tie graph contenders one
tie_same members graph contenders one =
    ap (option_map (λ (other : Rated). DoesNotBeat (shown (widened members one.candidate)) (shown other.candidate))) (counter_same members graph contenders one)
    ∙ line_same members one (counter narrow.position_of (narrow.beats graph) contenders one)

ties_same : (members : ℕ → Membership) (graph : CxxGraph) (contenders rest : List narrow.Rated) → filter_map (tie graph (map (widened_viable members) contenders)) (map (widened_viable members) rest) ≡ filter_map (narrow.tie graph contenders) rest
ties_same members graph contenders [] = refl
ties_same members graph contenders (one ∷ rest) =
    ap (λ o. cons_option o (filter_map (tie graph (map (widened_viable members) contenders)) (map (widened_viable members) rest))) (tie_same members graph contenders one)
    ∙ ap (cons_option (narrow.tie graph contenders one)) (ties_same members graph contenders rest)

-- ---- the answer

choice_by_same : (members : ℕ → Membership) (graph : CxxGraph) (all contenders : List narrow.Rated) (o : Option narrow.Rated) → choice_by graph (map (widened_rating members) all) (map (widened_viable members) contenders) (option_map (widened_viable members) o) ≡ widened_choice members (narrow.choice_by graph all contenders o)
unfolding refusals narrow.refusals ties narrow.ties
choice_by_same members graph all [] (Some one) = refl
choice_by_same members graph all (x ∷ xs) (Some one) = refl
choice_by_same members graph all [] None = ap none_viable (refusals_same members all)
choice_by_same members graph all (x ∷ xs) None = ap ambiguous (ties_same members graph (x ∷ xs) (x ∷ xs))

pub choice_same : (members : ℕ → Membership) (graph : CxxGraph) (all : List narrow.Rated) → choice graph (map (widened_rating members) all) ≡ widened_choice members (narrow.choice graph all)
unfolding choice narrow.choice
choice_same members graph all =
    ap (λ contenders. choice_by graph (map (widened_rating members) all) contenders (chosen graph contenders)) (viable_same members all)
    ∙ ap (choice_by graph (map (widened_rating members) all) (map (widened_viable members) (narrow.viable all))) (chosen_same members graph (narrow.viable all))
    ∙ choice_by_same members graph all (narrow.viable all) (narrow.chosen graph (narrow.viable all))
