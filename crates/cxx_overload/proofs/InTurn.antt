-- How candidates are rated, one after another, where the conversions of all stand in one list.
use Rattle.std.proofs.Common.{◌≡◌, ℕ, zero, suc, ◌+◌, ◌<◌, ◌≤◌, Bool, true, false, List, [], ◌∷◌, ◌++◌, length, map, Option, Some, None, Ok, Err, refl, sym, ap, ◌∙◌, subst, arith, append_assoc, get_or, drop, drop-cons, add-one, length-append}
use Rattle.std.specs.List.{All, cons_option}
use Rattle.std.specs.Option.{option_map}
use Rattle.std.proofs.lemmas.List.{append-nil, drop-append-le}
use Rattle.std.proofs.lemmas.List.Elements.{All-append}
use Rattle.std.proofs.Math.Seq.{drop-append_seam}
use Rattle.cxx_model.specs.declared.evidence.Reason.{Reason}
use Rattle.cxx_model.specs.declared.evidence.Reason.TheVariants.{NoConversion, ObjectNoConversion}
use Rattle.cxx_model.specs.declared.overload.Outcome.{Outcome}
use Rattle.cxx_model.specs.declared.overload.Outcome.TheVariants.{Viable, NotViable}
use Rattle.cxx_model.specs.declared.sequence.Operand.{Operand}
use Rattle.cxx_model.specs.declared.stop.Wait.{Wait}
use Rattle.cxx_model.specs.declared.stop.Wait.TheVariants as wait
use Rattle.cxx_model.specs.declared.types.TypeId.{TypeId}
use Rattle.cxx_model.specs.Facts.Declarations.{CxxGraph}
use Rattle.cxx_model.specs.Types.Numbers.{type_at}
use Rattle.cxx_model.specs.Types.Trees.{CxxType}
use Rattle.cxx_meaning.specs.Conversions.Asking.{Asked, ◌>>=◌, Waits}
use Rattle.cxx_meaning.specs.declared.steps.SequenceSteps.{SequenceSteps}
use Rattle.cxx_meaning.specs.Conversions.Standard.{CxxOperand, CxxStandard, sequence_by, standard_sequence, steps_between}
use Rattle.cxx_standard.specs.Views.{operand_at}
use Rattle.cxx_overload.specs.declared.candidate.Candidate.{Candidate}
use Rattle.cxx_overload.specs.declared.conversion.Conversion.{Conversion}
use Rattle.cxx_overload.specs.declared.conversion.Conversion.TheVariants.{Standard, Ellipsis, Missing}
use Rattle.cxx_overload.specs.declared.object.Object.{Object}
use Rattle.cxx_overload.specs.declared.rating.Rated.{Rated}
use Rattle.cxx_overload.specs.Asking.{after, first_missing, joined}
use Rattle.cxx_overload.specs.Candidates.{CxxCandidate}
use Rattle.cxx_overload.specs.Choices.{position_of}
use Rattle.cxx_overload.specs.Gathering.{AreNumbered, place_among}
use Rattle.cxx_overload.specs.Objects.{is_nonstatic, object_parameter}
use Rattle.cxx_overload.specs.Sequences.{CxxSequence, by_standard, no_sequence, behind, sequences_of}
use Rattle.cxx_overload.specs.Viability.{by_arguments, by_call, by_count, by_found, by_object, by_sequences, first_without, misfit, put_aside, rated, rated_one, Rated as RatedMeant}
use Rattle.cxx_overload.specs.Views.{candidate_at, first_at, kept_where, listed_at, met, object_at, operands_at, parameter_for, passed, rated_at, row_at, sequence_at, with_option, FitsObject, Grows, IsCandidateBelow, IsRatedBelow}
use Rattle.cxx_overload.proofs.Converting.{after_step, after_stop, count_operands}

-- ---- rows in one list

row_kept : (types : List CxxType) (operands : List Operand) (parameters : List TypeId) (xs ys : List Conversion) → length operands ≤ length xs → row_at types operands parameters (xs ++ ys) ≡ row_at types operands parameters xs
row_kept types [] parameters xs ys enough = refl
row_kept types (x ∷ operands) parameters [] ys enough = absurd (omega (arith, enough))
row_kept types (x ∷ operands) parameters (c ∷ xs) ys enough = ap (λ r. sequence_at types x c parameters ∷ r) (row_kept types operands (behind parameters) xs ys (omega (arith, enough)))

length_dropped : {A : Type 0} (n : ℕ) (xs : List A) (k : ℕ) → n + k ≤ length xs → k ≤ length (drop n xs)
length_dropped zero xs k enough = omega (arith, enough)
length_dropped (suc n) [] k enough = absurd (omega (arith, enough))
length_dropped (suc n) (x ∷ xs) k enough = length_dropped n xs k (omega (arith, enough))

at_row : (types : List CxxType) (operands : List Operand) (parameters : List TypeId) (row : ℕ) (xs ys : List Conversion) → row + length operands ≤ length xs → row_at types operands parameters (drop row (xs ++ ys)) ≡ row_at types operands parameters (drop row xs)
at_row types operands parameters row xs ys enough =
    ap (row_at types operands parameters) (drop-append-le row xs ys (omega (arith, enough)))
    ∙ row_kept types operands parameters (drop row xs) ys (length_dropped row xs (length operands) enough)

kept_by : (types : List CxxType) (operands : List Operand) (outcome : Outcome) (parameters : List TypeId) (row : ℕ) (xs ys : List Conversion) → (outcome ≡ Viable → row + length operands ≤ length xs) → kept_where outcome (row_at types operands parameters (drop row (xs ++ ys))) ≡ kept_where outcome (row_at types operands parameters (drop row xs))
kept_by types operands Viable parameters row xs ys enough = at_row types operands parameters row xs ys (enough refl)
kept_by types operands (NotViable reason) parameters row xs ys enough = refl

rated_kept : (types : List CxxType) (object : Option Object) (operands : List Operand) (xs ys : List Conversion) (one : Rated) (count : ℕ) → IsRatedBelow count (length (passed object operands)) (length xs) one → rated_at types object operands (xs ++ ys) one ≡ rated_at types object operands xs one
rated_kept types object operands xs ys one count below =
    let make : List CxxSequence → RatedMeant = λ sequences. record { candidate = candidate_at types one.candidate; outcome = one.outcome; sequences = sequences } in
    ap make (kept_by types (passed object operands) one.outcome (met object one.candidate) one.row xs ys below.row)

first_of_all : {A : Type 0} (P : A → Type 0) (x : A) (xs : List A) → All P (x ∷ xs) → P x
first_of_all P x xs each = each 0 x (omega arith)

others_of_all : {A : Type 0} (P : A → Type 0) (x : A) (xs : List A) → All P (x ∷ xs) → All P xs
others_of_all P x xs each = λ k d below. each (suc k) d (omega (arith, below))

all_kept : (types : List CxxType) (object : Option Object) (operands : List Operand) (xs ys : List Conversion) (all : List Rated) (count : ℕ) → All (IsRatedBelow count (length (passed object operands)) (length xs)) all → map (rated_at types object operands (xs ++ ys)) all ≡ map (rated_at types object operands xs) all
all_kept types object operands xs ys [] count below = refl
all_kept types object operands xs ys (one ∷ others) count below =
    ap (λ r. r ∷ map (rated_at types object operands (xs ++ ys)) others) (rated_kept types object operands xs ys one count (first_of_all (IsRatedBelow count (length (passed object operands)) (length xs)) one others below))
    ∙ ap (λ rs. rated_at types object operands xs one ∷ rs) (all_kept types object operands xs ys others count (others_of_all (IsRatedBelow count (length (passed object operands)) (length xs)) one others below))

below_later : (count arguments old new : ℕ) (one : Rated) → old ≤ new → IsRatedBelow count arguments old one → IsRatedBelow count arguments new one
below_later count arguments old new one more below = record { candidate = below.candidate; row = λ is. (let h = below.row is in omega (arith, h, more)) }

grown : {A : Type 0} (old new : List A) → Grows old new → length old ≤ length new
grown old new grows = let h : length new ≡ length old + length grows.0 = ap length grows.1 ∙ length-append old grows.0 in omega (arith, h)

one_of_all : {A : Type 0} (P : A → Type 0) (x : A) → P x → All P (x ∷ [])
one_of_all P x is zero d inside = is
one_of_all P x is (suc k) d inside = absurd (omega (arith, inside))

each_later : (count arguments old new : ℕ) (found : List Rated) → old ≤ new → All (IsRatedBelow count arguments old) found → All (IsRatedBelow count arguments new) found
each_later count arguments old new found more below = λ k d inside. below_later count arguments old new (get_or found k d) more (below k d inside)

pub all_below : (count arguments : ℕ) (old new : List Conversion) (found : List Rated) (this : Rated) → Grows old new → All (IsRatedBelow count arguments (length old)) found → IsRatedBelow count arguments (length new) this → All (IsRatedBelow count arguments (length new)) (found ++ this ∷ [])
all_below count arguments old new found this grows below last =
    All-append (IsRatedBelow count arguments (length new)) found (this ∷ [])
    (each_later count arguments (length old) (length new) found (grown old new grows) below)
    (one_of_all (IsRatedBelow count arguments (length new)) this last)

-- ---- one candidate

-- a conversion is missing where there is no sequence
pub missing_same : (types : List CxxType) (operands : List Operand) (parameters : List TypeId) (found : List Conversion) (position : ℕ) → length found ≡ length operands → first_without position (row_at types operands parameters found) ≡ first_missing position found
missing_same types [] parameters [] position same = refl
missing_same types [] parameters (c ∷ found) position same = absurd (omega (arith, same))
missing_same types (x ∷ operands) parameters [] position same = absurd (omega (arith, same))
missing_same types (x ∷ operands) [] (Standard steps ∷ found) position same = missing_same types operands [] found (suc position) (omega (arith, same))
missing_same types (x ∷ operands) (p ∷ parameters) (Standard steps ∷ found) position same = missing_same types operands parameters found (suc position) (omega (arith, same))
missing_same types (x ∷ operands) parameters (Ellipsis ∷ found) position same = missing_same types operands (behind parameters) found (suc position) (omega (arith, same))
missing_same types (x ∷ operands) parameters (Missing ∷ found) position same = refl

-- a row with the conversion of the object in front
row_of_all : (types : List CxxType) (object : Option Object) (first : Option Conversion) (operands : List Operand) (candidate : Candidate) (found : List Conversion) → FitsObject object first → row_at types (passed object operands) (met object candidate) (cons_option first found) ≡ cons_option (first_at types object candidate first) (row_at types operands candidate.parameters.now found)
row_of_all types None None operands candidate found fits = refl
row_of_all types None (Some one) operands candidate found fits = absurd fits
row_of_all types (Some object) None operands candidate found fits = absurd fits
row_of_all types (Some object) (Some one) operands candidate found fits = refl

row_counted : (object : Option Object) (first : Option Conversion) (operands : List Operand) (found : List Conversion) → FitsObject object first → length found ≡ length operands → length (cons_option first found) ≡ length (passed object operands)
row_counted None None operands found fits same = same
row_counted None (Some one) operands found fits same = absurd fits
row_counted (Some object) None operands found fits same = absurd fits
row_counted (Some object) (Some one) operands found fits same = omega (arith, same)

-- what is pushed and what stands behind it
pub kept_behind : {A : Type 0} (old : List A) (first : Option A) (found : List A) → with_option old first ++ found ≡ old ++ cons_option first found
kept_behind old None found = refl
kept_behind old (Some one) found = append_assoc old (one ∷ []) found

pub kept_below : (count : ℕ) (object : Option Object) (first : Option Conversion) (operands : List Operand) (candidate : Candidate) (found again old new : List Conversion) (one : Rated) → FitsObject object first → length found ≡ length operands → again ≡ found → IsCandidateBelow count candidate → one ≡ record { candidate = candidate; outcome = Viable; row = length old } → new ≡ old ++ cons_option first again → IsRatedBelow count (length (passed object operands)) (length new) one
kept_below count object first operands candidate found again old new one fits counted second below made grows =
    let a : length (cons_option first again) ≡ length (passed object operands) = ap (λ xs. length (cons_option first xs)) second ∙ row_counted object first operands found fits counted in
    let b : length new ≡ length old + length (cons_option first again) = ap length grows ∙ length-append old (cons_option first again) in
    subst (IsRatedBelow count (length (passed object operands)) (length new)) (sym made) (record { candidate = below; row = λ is. omega (arith, a, b) })

converted_one : (graph : CxxGraph) (types : List CxxType) (operands : List Operand) (candidate : Candidate) (first : Option CxxSequence) (found given : List Conversion) (o : Option ℕ) → sequences_of graph (operands_at types operands) (listed_at types candidate.parameters.now) candidate.ellipsis ≡ Ok (row_at types operands candidate.parameters.now found) → length found ≡ length operands → given ≡ found → o ≡ first_missing 1 given → by_arguments graph (operands_at types operands) (candidate_at types candidate) first ≡ Ok (by_sequences (candidate_at types candidate) first (row_at types operands candidate.parameters.now found) o)
converted_one graph types operands candidate first found given o is counted same missing =
    ap (λ asked. asked >>= λ sequences. Ok (by_sequences (candidate_at types candidate) first sequences (first_without 1 sequences))) is
    ∙ ap (λ m. Ok (by_sequences (candidate_at types candidate) first (row_at types operands candidate.parameters.now found) m)) (missing_same types operands candidate.parameters.now found 1 counted ∙ ap (first_missing 1) (sym same) ∙ sym missing)

pub kept_means : (graph : CxxGraph) (types : List CxxType) (object : Option Object) (first : Option Conversion) (operands : List Operand) (candidate : Candidate) (found given again old new : List Conversion) (one : Rated) → FitsObject object first → sequences_of graph (operands_at types operands) (listed_at types candidate.parameters.now) candidate.ellipsis ≡ Ok (row_at types operands candidate.parameters.now found) → length found ≡ length operands → given ≡ found → None ≡ first_missing 1 given → again ≡ found → one ≡ record { candidate = candidate; outcome = Viable; row = length old } → new ≡ old ++ cons_option first again → by_arguments graph (operands_at types operands) (candidate_at types candidate) (first_at types object candidate first) ≡ Ok (rated_at types object operands new one)
kept_means graph types object first operands candidate found given again old new one fits is counted same missing second made grows =
    let make : List CxxSequence → RatedMeant = λ sequences. record { candidate = candidate_at types candidate; outcome = Viable; sequences = sequences } in
    let there : drop (length old) new ≡ cons_option first found = ap (drop (length old)) grows ∙ drop-append_seam old (cons_option first again) ∙ ap (cons_option first) second in
    converted_one graph types operands candidate (first_at types object candidate first) found given None is counted same missing
    ∙ ap (λ xs. Ok (make xs)) (sym (row_of_all types object first operands candidate found fits))
    ∙ ap (λ xs. Ok (make (row_at types (passed object operands) (met object candidate) xs))) (sym there)
    ∙ ap (λ r. Ok (rated_at types object operands new r)) (sym made)

pub aside_means : (graph : CxxGraph) (types : List CxxType) (object : Option Object) (operands : List Operand) (candidate : Candidate) (first : Option CxxSequence) (found given conversions : List Conversion) (argument : ℕ) (one : Rated) → sequences_of graph (operands_at types operands) (listed_at types candidate.parameters.now) candidate.ellipsis ≡ Ok (row_at types operands candidate.parameters.now found) → length found ≡ length operands → given ≡ found → Some argument ≡ first_missing 1 given → one ≡ record { candidate = candidate; outcome = NotViable (NoConversion argument); row = 0 } → by_arguments graph (operands_at types operands) (candidate_at types candidate) first ≡ Ok (rated_at types object operands conversions one)
aside_means graph types object operands candidate first found given conversions argument one is counted same missing made =
    converted_one graph types operands candidate first found given (Some argument) is counted same missing
    ∙ ap (λ r. Ok (rated_at types object operands conversions r)) (sym made)

-- ---- the object

by_steps : (graph : CxxGraph) (object : CxxOperand) (operands : List CxxOperand) (candidate : CxxCandidate) (parameter : CxxType) (asked : Asked (Option SequenceSteps)) (member : Bool) → member ≡ true → parameter ≡ object_parameter object candidate.cv → steps_between graph object parameter ≡ asked → by_object graph object operands candidate member ≡ ((asked >>= λ steps. Ok (option_map (sequence_by object parameter) steps)) >>= by_found graph operands candidate)
unfolding standard_sequence
by_steps graph object operands candidate parameter asked true is leads steps =
    ap (λ to. standard_sequence graph object to >>= by_found graph operands candidate) (sym leads)
    ∙ ap (λ a. (a >>= λ found. Ok (option_map (sequence_by object parameter) found)) >>= by_found graph operands candidate) steps
by_steps graph object operands candidate parameter asked false is leads steps = absurd cc

pub object_waits : (graph : CxxGraph) (object : CxxOperand) (operands : List CxxOperand) (candidate : CxxCandidate) (parameter : CxxType) (why : Wait) (member : Bool) → member ≡ true → parameter ≡ object_parameter object candidate.cv → Waits why (steps_between graph object parameter) → Waits why (by_object graph object operands candidate member)
object_waits graph object operands candidate parameter wait.OutOfMemory member is leads waits = tt
object_waits graph object operands candidate parameter (wait.Needs class) member is leads waits = by_steps graph object operands candidate parameter (Err class) member is leads waits

pub object_refused : (graph : CxxGraph) (types : List CxxType) (object : Object) (operands : List Operand) (candidate : Candidate) (conversions : List Conversion) (parameter : CxxType) (member : Bool) (one : Rated) → member ≡ true → parameter ≡ object_parameter (operand_at types object.operand) candidate.cv → steps_between graph (operand_at types object.operand) parameter ≡ Ok None → one ≡ record { candidate = candidate; outcome = NotViable ObjectNoConversion; row = 0 } → by_object graph (operand_at types object.operand) (operands_at types operands) (candidate_at types candidate) member ≡ Ok (rated_at types (Some object) operands conversions one)
object_refused graph types object operands candidate conversions parameter member one is leads none made =
    by_steps graph (operand_at types object.operand) (operands_at types operands) (candidate_at types candidate) parameter (Ok None) member is leads none
    ∙ ap (λ r. Ok (rated_at types (Some object) operands conversions r)) (sym made)

pub object_taken : (graph : CxxGraph) (types : List CxxType) (object : Object) (operands : List Operand) (candidate : Candidate) (number : TypeId) (steps : SequenceSteps) (member : Bool) → member ≡ true → number ≡ parameter_for object candidate.cv → type_at types number.0 ≡ object_parameter (operand_at types object.operand) candidate.cv → steps_between graph (operand_at types object.operand) (type_at types number.0) ≡ Ok (Some steps) → by_arguments graph (operands_at types operands) (candidate_at types candidate) (first_at types (Some object) candidate (Some (Standard steps))) ≡ by_object graph (operand_at types object.operand) (operands_at types operands) (candidate_at types candidate) member
object_taken graph types object operands candidate number steps member is same leads found =
    ap (λ (n : TypeId). by_arguments graph (operands_at types operands) (candidate_at types candidate) (Some (by_standard (sequence_by (operand_at types object.operand) (type_at types n.0) steps)))) (sym same)
    ∙ sym (by_steps graph (operand_at types object.operand) (operands_at types operands) (candidate_at types candidate) (type_at types number.0) (Ok (Some steps)) member is leads found)

-- ---- one candidate

fit_same : (graph : CxxGraph) (types : List CxxType) (object : Option CxxOperand) (operands : List Operand) (candidate : Candidate) (o : Option Reason) → o ≡ misfit (length operands) (candidate_at types candidate) → rated_one graph object (operands_at types operands) (candidate_at types candidate) ≡ by_count graph object (operands_at types operands) (candidate_at types candidate) o
unfolding rated_one
fit_same graph types object operands candidate o is =
    ap (λ n. by_count graph object (operands_at types operands) (candidate_at types candidate) (misfit n (candidate_at types candidate))) (count_operands types operands)
    ∙ ap (by_count graph object (operands_at types operands) (candidate_at types candidate)) (sym is)

pub fits_same : (graph : CxxGraph) (types : List CxxType) (object : Option CxxOperand) (operands : List Operand) (candidate : Candidate) → None ≡ misfit (length operands) (candidate_at types candidate) → by_call graph object (operands_at types operands) (candidate_at types candidate) ≡ rated_one graph object (operands_at types operands) (candidate_at types candidate)
fits_same graph types object operands candidate is = sym (fit_same graph types object operands candidate None is)

pub misfit_means : (graph : CxxGraph) (types : List CxxType) (object : Option Object) (operands : List Operand) (candidate : Candidate) (conversions : List Conversion) (reason : Reason) (one : Rated) → Some reason ≡ misfit (length operands) (candidate_at types candidate) → one ≡ record { candidate = candidate; outcome = NotViable reason; row = 0 } → rated_one graph (object_at types object) (operands_at types operands) (candidate_at types candidate) ≡ Ok (rated_at types object operands conversions one)
misfit_means graph types object operands candidate conversions reason one is made =
    fit_same graph types (object_at types object) operands candidate (Some reason) is ∙ ap (λ r. Ok (rated_at types object operands conversions r)) (sym made)

-- ---- all candidates

pub rated_first : (graph : CxxGraph) (object : Option CxxOperand) (operands : List CxxOperand) (candidate : CxxCandidate) (others : List CxxCandidate) → rated graph object operands (candidate ∷ others) ≡ joined (rated_one graph object operands candidate) (rated graph object operands others)
unfolding rated
rated_first graph object operands candidate others = refl

next : (types : List CxxType) (all : List Candidate) (i : ℕ) (one d : Candidate) → i < length all → one ≡ get_or all i d → map (candidate_at types) (drop i all) ≡ candidate_at types one ∷ map (candidate_at types) (drop (i + 1) all)
next types all i one d below is =
    ap (map (candidate_at types)) (drop-cons all i d below)
    ∙ ap (λ c. candidate_at types c ∷ map (candidate_at types) (drop (suc i) all)) (sym is)
    ∙ ap (λ k. candidate_at types one ∷ map (candidate_at types) (drop k all)) (sym (add-one i))

map_more : {A B : Type 0} (f : A → B) (xs : List A) (y : A) → map f (xs ++ y ∷ []) ≡ map f xs ++ f y ∷ []
map_more f [] y = refl
map_more f (x ∷ xs) y = ap (λ ys. f x ∷ ys) (map_more f xs y)

pub rated_step : (types : List CxxType) (graph : CxxGraph) (object : Option Object) (operands : List Operand) (all : List Candidate) (found : List Rated) (old new : List Conversion) (i : ℕ) (one d : Candidate) (this : Rated) → i < length all → one ≡ get_or all i d → rated_one graph (object_at types object) (operands_at types operands) (candidate_at types one) ≡ Ok (rated_at types object operands new this) → All (IsRatedBelow (length types) (length (passed object operands)) (length old)) found → Grows old new → after (map (rated_at types object operands old) found) (rated graph (object_at types object) (operands_at types operands) (map (candidate_at types) (drop i all))) ≡ after (map (rated_at types object operands new) (found ++ this ∷ [])) (rated graph (object_at types object) (operands_at types operands) (map (candidate_at types) (drop (i + 1) all)))
rated_step types graph object operands all found old new i one d this inside is gives below grows =
    let rest : Asked (List RatedMeant) = rated graph (object_at types object) (operands_at types operands) (map (candidate_at types) (drop (i + 1) all)) in
    let seen : map (rated_at types object operands old) found ≡ map (rated_at types object operands new) found = sym (all_kept types object operands old grows.0 found (length types) below) ∙ ap (λ xs. map (rated_at types object operands xs) found) (sym grows.1) in
    ap (λ xs. after (map (rated_at types object operands old) found) (rated graph (object_at types object) (operands_at types operands) xs)) (next types all i one d inside is)
    ∙ ap (after (map (rated_at types object operands old) found)) (rated_first graph (object_at types object) (operands_at types operands) (candidate_at types one) (map (candidate_at types) (drop (i + 1) all)))
    ∙ after_step (map (rated_at types object operands old) found) (rated_one graph (object_at types object) (operands_at types operands) (candidate_at types one)) rest (rated_at types object operands new this) gives
    ∙ ap (λ xs. after (xs ++ rated_at types object operands new this ∷ []) rest) seen
    ∙ ap (λ xs. after xs rest) (sym (map_more (rated_at types object operands new) found this))

pub rated_stop : (types : List CxxType) (graph : CxxGraph) (object : Option CxxOperand) (operands : List CxxOperand) (all : List Candidate) (found : List RatedMeant) (i : ℕ) (one d : Candidate) (why : Wait) (total : Asked (List RatedMeant)) → i < length all → one ≡ get_or all i d → after found (rated graph object operands (map (candidate_at types) (drop i all))) ≡ total → Waits why (rated_one graph object operands (candidate_at types one)) → Waits why total
rated_stop types graph object operands all found i one d why total inside is same waits =
    after_stop found (rated_one graph object operands (candidate_at types one)) (rated graph object operands (map (candidate_at types) (drop (i + 1) all))) total why
    (sym (ap (λ xs. after found (rated graph object operands xs)) (next types all i one d inside is) ∙ ap (after found) (rated_first graph object operands (candidate_at types one) (map (candidate_at types) (drop (i + 1) all)))) ∙ same)
    waits

pub rated_end : (graph : CxxGraph) (object : Option CxxOperand) (operands : List CxxOperand) (found : List RatedMeant) (left : List CxxCandidate) (total : Asked (List RatedMeant)) → left ≡ [] → after found (rated graph object operands left) ≡ total → total ≡ Ok found
unfolding rated
rated_end graph object operands found left total none same = sym same ∙ ap (λ xs. after found (rated graph object operands xs)) none ∙ ap (λ xs. Ok xs) (append-nil found)

-- ---- positions

same_candidate_by : (candidate : CxxCandidate) (first : Option CxxSequence) (sequences : List CxxSequence) (o : Option ℕ) → (by_sequences candidate first sequences o).candidate ≡ candidate
same_candidate_by candidate first sequences None = refl
same_candidate_by candidate first sequences (Some position) = refl

same_bound : (candidate : CxxCandidate) (first : Option CxxSequence) (asked : Asked (List CxxSequence)) (one : RatedMeant) → (asked >>= λ sequences. Ok (by_sequences candidate first sequences (first_without 1 sequences))) ≡ Ok one → one.candidate ≡ candidate
same_bound candidate first (Ok sequences) one e =
    let same : by_sequences candidate first sequences (first_without 1 sequences) ≡ one = cc in
    ap (λ (r : RatedMeant). r.candidate) (sym same) ∙ same_candidate_by candidate first sequences (first_without 1 sequences)
same_bound candidate first (Err class) one e = absurd cc

same_aside : (candidate : CxxCandidate) (reason : Reason) (one : RatedMeant) → ◌≡◌ {A = Asked RatedMeant} (Ok (put_aside candidate reason)) (Ok one) → one.candidate ≡ candidate
same_aside candidate reason one e =
    let same : put_aside candidate reason ≡ one = cc in
    ap (λ (r : RatedMeant). r.candidate) (sym same)

same_found : (graph : CxxGraph) (operands : List CxxOperand) (candidate : CxxCandidate) (asked : Asked (Option CxxStandard)) (one : RatedMeant) → (asked >>= by_found graph operands candidate) ≡ Ok one → one.candidate ≡ candidate
same_found graph operands candidate (Ok None) one e = same_aside candidate ObjectNoConversion one e
same_found graph operands candidate (Ok (Some sequence)) one e = same_bound candidate (Some (by_standard sequence)) (sequences_of graph operands candidate.parameters candidate.ellipsis) one e
same_found graph operands candidate (Err class) one e = absurd cc

same_of_object : (graph : CxxGraph) (object : CxxOperand) (operands : List CxxOperand) (candidate : CxxCandidate) (member : Bool) (one : RatedMeant) → by_object graph object operands candidate member ≡ Ok one → one.candidate ≡ candidate
same_of_object graph object operands candidate true one e = same_found graph operands candidate (standard_sequence graph object (object_parameter object candidate.cv)) one e
same_of_object graph object operands candidate false one e = same_bound candidate (Some no_sequence) (sequences_of graph operands candidate.parameters candidate.ellipsis) one e

same_counted : (graph : CxxGraph) (object : Option CxxOperand) (operands : List CxxOperand) (candidate : CxxCandidate) (o : Option Reason) (one : RatedMeant) → by_count graph object operands candidate o ≡ Ok one → one.candidate ≡ candidate
same_counted graph object operands candidate (Some reason) one e = same_aside candidate reason one e
same_counted graph None operands candidate None one e = same_bound candidate None (sequences_of graph operands candidate.parameters candidate.ellipsis) one e
same_counted graph (Some object) operands candidate None one e = same_of_object graph object operands candidate (is_nonstatic candidate.member) one e

pub same_candidate : (graph : CxxGraph) (object : Option CxxOperand) (operands : List CxxOperand) (candidate : CxxCandidate) (one : RatedMeant) → rated_one graph object operands candidate ≡ Ok one → one.candidate ≡ candidate
unfolding rated_one
same_candidate graph object operands candidate one e = same_counted graph object operands candidate (misfit (length operands) candidate) one e

numbered_joined : (first : Asked RatedMeant) (rest : Asked (List RatedMeant)) (all : List RatedMeant) (least position : ℕ) → joined first rest ≡ Ok all → ((one : RatedMeant) → first ≡ Ok one → position_of one ≡ position) → least ≤ position → ((others : List RatedMeant) → rest ≡ Ok others → AreNumbered position_of (position + 1) others) → AreNumbered position_of least all
numbered_joined (Ok one) (Ok others) all least position e at h later =
    let same : (one ∷ others) ≡ all = cc in
    let is : position_of one ≡ position = at one refl in
    subst (AreNumbered position_of least) same (omega (arith, h, is), subst (λ k. AreNumbered position_of (k + 1) others) (sym is) (later others refl))
numbered_joined (Ok one) (Err class) all least position e at h later = absurd cc
numbered_joined (Err class) rest all least position e at h later = absurd cc

pub rated_numbered : (graph : CxxGraph) (object : Option CxxOperand) (operands : List CxxOperand) (candidates : List CxxCandidate) (all : List RatedMeant) (least : ℕ) → rated graph object operands candidates ≡ Ok all → AreNumbered place_among least candidates → AreNumbered position_of least all
unfolding rated
rated_numbered graph object operands [] all least e n = let same : [] ≡ all = cc in subst (AreNumbered position_of least) same tt
rated_numbered graph object operands (one ∷ others) all least e n =
    numbered_joined (rated_one graph object operands one) (rated graph object operands others) all least one.position e
    (λ r is. ap (λ (c : CxxCandidate). c.position) (same_candidate graph object operands one r is))
    n.0
    (λ later is. rated_numbered graph object operands others later (one.position + 1) is n.1)
