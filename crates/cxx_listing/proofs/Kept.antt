-- What a reading keeps of a call: each candidate has an outcome, and the chosen one is a candidate.
use Rattle.std.proofs.Common.{◌≡◌, ◌≤◌, ◌<◌, inl, inr, ℕ, zero, suc, ◌+◌, Bool, true, false, cond, List, [], ◌∷◌, length, Option, Some, None, Ok, Err, refl, ap, sym, subst, ◌∙◌, arith}
use Rattle.std.specs.List.{AllByRecursion, Contains, filter, slice_get}
use Rattle.std.proofs.lemmas.List.{length-map}
use Rattle.cxx_form.specs.Text.{printed_calls}
use Rattle.cxx_language_laws.specs.Best.{EachCallIsBest, IsBestCall}
use Rattle.cxx_meaning.specs.Conversions.Asking.{Asked, ◌>>=◌}
use Rattle.cxx_meaning.specs.Conversions.Standard.{CxxOperand}
use Rattle.cxx_meaning.specs.Lookups.Gathered.{before}
use Rattle.cxx_model.proofs.Champion.{first_of, later_of, first_or_later}
use Rattle.cxx_model.specs.declared.facts.MemberKind.{MemberKind}
use Rattle.cxx_model.specs.declared.place.Place.{Place}
use Rattle.cxx_model.specs.Facts.Declarations as facts
use Rattle.cxx_model.specs.Facts.Declarations.{CxxGraph, Declares}
use Rattle.cxx_model.specs.Types.Trees.{CxxType, function_of}
use Rattle.cxx_phrase_text.specs.Calls.{CallOfText}
use Rattle.cxx_overload.specs.Calls.{number_of, outcome_of}
use Rattle.cxx_overload.specs.Candidates.{CxxCandidate, candidate_by, candidate_by_what, candidate_of, candidates, candidates_from, defaults_behind, put}
use Rattle.cxx_overload.specs.Choices.{position_of}
use Rattle.cxx_overload.specs.Viability.{Rated, is_viable, rated, rated_one}
use Rattle.cxx_overload.proofs.InTurn.{same_candidate}
use Rattle.cxx_reading.specs.Seen.{Numbered}
use Rattle.cxx_reading.specs.State.{CxxCall, CxxState}
use Rattle.cxx_reading.specs.Units.{CxxReading}
use Rattle.cxx_listing.specs.Listing.{AreListed, IsListed, IsWellKept}
use Rattle.cxx_listing.specs.Calls.{listed, records_of}
use Rattle.cxx_listing.proofs.Lined.{listed_so}

-- ---- the positions of candidates

abbrev AreCounted : ℕ → List CxxCandidate → Type 0
AreCounted from [] = Unit {0}
AreCounted from (one ∷ others) = (one.position ≡ from) × AreCounted (suc from) others

put_counted : (one : Option CxxCandidate) (later : ℕ → List CxxCandidate) (position : ℕ) → ((candidate : CxxCandidate) → one ≡ Some candidate → candidate.position ≡ position) → ((from : ℕ) → AreCounted from (later from)) → AreCounted position (put one later position)
put_counted None later position at counted = counted position
put_counted (Some candidate) later position at counted = (at candidate refl, counted (suc position))

placed_by : (position number : ℕ) (place : Place) (member : MemberKind) (defaults : ℕ) (of : CxxType) (candidate : CxxCandidate) → candidate_by position number place member defaults of ≡ Some candidate → candidate.position ≡ position
placed_by position number place member defaults (function_of result parameters ellipsis cv) candidate e = cc
placed_by position number place member defaults _ candidate e = absurd cc

placed : (position number : ℕ) (place : Place) (what : Declares) (others : List Numbered) (candidate : CxxCandidate) → candidate_by_what position number place what others ≡ Some candidate → candidate.position ≡ position
placed position number place (facts.function of kind flags defaults None) others candidate e = placed_by position number place kind (defaults_behind number defaults others) of candidate e
placed position number place _ others candidate e = absurd cc

candidates_counted : (all : List Numbered) (from : ℕ) → AreCounted from (candidates_from all from)
candidates_counted [] from = tt
candidates_counted (one ∷ others) from = put_counted (candidate_of from one others) (candidates_from others) from (placed from one.number one.fact.place one.fact.what others) (candidates_counted others)

-- ---- those of rated ones

abbrev AreInOrder : ℕ → List Rated → Type 0
AreInOrder from [] = Unit {0}
AreInOrder from (one ∷ others) = (position_of one ≡ from) × AreInOrder (suc from) others

abbrev AskedAre : {A : Type 0} → Asked A → Asked A → Type 0
AskedAre one two = one ≡ two

ok_is : {A : Type 0} (x y : A) → AskedAre (Ok x) (Ok y) → x ≡ y
ok_is x y e = cc

others_in_order : (one : Rated) (from : ℕ) (all : List Rated) (later : Asked (List Rated)) → position_of one ≡ from → ((rest : List Rated) → later ≡ Ok rest → AreInOrder (suc from) rest) → AskedAre (later >>= λ others. Ok (one ∷ others)) (Ok all) → AreInOrder from all
others_in_order one from all (Err class) at ordered e = absurd cc
others_in_order one from all (Ok rest) at ordered e = subst (λ (rs : List Rated). AreInOrder from rs) (ok_is (one ∷ rest) all e) (at, ordered rest refl)

first_in_order : (from : ℕ) (all : List Rated) (first : Asked Rated) (later : Asked (List Rated)) → ((one : Rated) → first ≡ Ok one → position_of one ≡ from) → ((rest : List Rated) → later ≡ Ok rest → AreInOrder (suc from) rest) → AskedAre (first >>= λ one. later >>= λ others. Ok (one ∷ others)) (Ok all) → AreInOrder from all
first_in_order from all (Err class) later at ordered e = absurd cc
first_in_order from all (Ok one) later at ordered e = others_in_order one from all later (at one refl) ordered e

rated_in_order : (graph : CxxGraph) (object : Option CxxOperand) (operands : List CxxOperand) (some : List CxxCandidate) (from : ℕ) (all : List Rated) → AreCounted from some → rated graph object operands some ≡ Ok all → AreInOrder from all
unfolding rated
rated_in_order graph object operands [] from all counted e = subst (λ (rs : List Rated). AreInOrder from rs) (ok_is [] all e) tt
rated_in_order graph object operands (candidate ∷ others) from all counted e =
    first_in_order from all (rated_one graph object operands candidate) (rated graph object operands others)
    (λ one is. ap (λ (c : CxxCandidate). c.position) (same_candidate graph object operands candidate one is) ∙ counted.0)
    (λ rest is. rated_in_order graph object operands others (suc from) rest counted.1 is) e

all_in_order : (graph : CxxGraph) (object : Option CxxOperand) (operands : List CxxOperand) (declared : List Numbered) (all : List Rated) → rated graph object operands (candidates declared) ≡ Ok all → AreInOrder 1 all
unfolding candidates
all_in_order graph object operands declared all e = rated_in_order graph object operands (candidates_from declared 1) 1 all (candidates_counted declared 1) e

-- ---- one of them

within : (from : ℕ) (all : List Rated) → AreInOrder from all → (one : Rated) → Contains all one → (from ≤ position_of one) × (position_of one < from + length all)
within from [] ordered one m = absurd (omega (arith, m.1))
within from (first ∷ others) ordered one m =
    elim (first_or_later first others one m) [
      | inl here ↦ let at : position_of one ≡ from = ap position_of (sym here) ∙ ordered.0 in (omega (arith, at), omega (arith, at))
      | inr there ↦ let is = within (suc from) others ordered.1 one there in (omega (arith, is.0), omega (arith, is.1))
    ]

kept_of : (b : Bool) (first : Rated) (kept others : List Rated) (one : Rated) → ((x : Rated) → Contains kept x → Contains others x) → Contains (cond b (first ∷ kept) kept) one → Contains (first ∷ others) one
kept_of true first kept others one all m =
    elim (first_or_later first kept one m) [
      | inl here ↦ subst (λ (x : Rated). Contains (first ∷ others) x) here (first_of first others)
      | inr there ↦ later_of first others one (all one there)
    ]
kept_of false first kept others one all m = later_of first others one (all one m)

of_filter : (test : Rated → Bool) (all : List Rated) (one : Rated) → Contains (filter test all) one → Contains all one
of_filter test [] one m = m
of_filter test (first ∷ others) one m = kept_of (test first) first (filter test others) others one (λ x. of_filter test others x) m

-- ---- calls

well_kept : (state : CxxState) (call : CxxCall) → IsBestCall state call → IsWellKept call
well_kept state call is =
    let ordered : AreInOrder 1 is.all = all_in_order is.before is.object is.operands is.functions is.all is.rated_so in
    let at = within 1 is.all ordered is.meant (of_filter (λ one. is_viable one.outcome) is.all is.meant is.best.member) in
    let count : length call.candidates ≡ length is.all = ap (λ (c : CxxCall). length c.candidates) is.keeps ∙ length-map is.all number_of in
    let told : length call.outcomes ≡ length is.all = ap (λ (c : CxxCall). length c.outcomes) is.keeps ∙ length-map is.all outcome_of in
    let chosen : call.chosen ≡ position_of is.meant = ap (λ (c : CxxCall). c.chosen) is.keeps in
    record {
      outcomes = told ∙ sym count;
      chosen = omega (arith, chosen, at.0);
      within = omega (arith, chosen, at.1, count);
    }

each_at : {X : Type 0} (P : X → Type 0) (xs : List X) (n : ℕ) (x : X) → AllByRecursion P xs → slice_get xs n ≡ Some x → P x
each_at P [] n x all is = absurd cc
each_at P (y ∷ xs) zero x all is = let same : y ≡ x = cc in subst P same all.0
each_at P (y ∷ xs) (suc n) x all is = each_at P xs n x all.1 is

added_before : {X : Type 0} (P : X → Type 0) (found : Option X) (others : List X) → ((x : X) → found ≡ Some x → P x) → AllByRecursion P others → AllByRecursion P (before found others)
added_before P None others each all = all
added_before P (Some x) others each all = (each x refl, all)

all_listed : (state : CxxState) → AllByRecursion (IsBestCall state) state.calls → (calls : List CallOfText) → AllByRecursion (IsListed state.graph.facts) (records_of state.calls calls)
all_listed state best [] = tt
all_listed state best (one ∷ others) =
    added_before (IsListed state.graph.facts) (slice_get state.calls one.number) (records_of state.calls others)
    (λ call is. listed_so state.graph.facts call (well_kept state call (each_at (IsBestCall state) state.calls one.number call best is)))
    (all_listed state best others)

pub each_listed : (reading : CxxReading) → EachCallIsBest reading → AreListed reading.state
unfolding listed
each_listed reading best = all_listed reading.state best (printed_calls reading.state)
