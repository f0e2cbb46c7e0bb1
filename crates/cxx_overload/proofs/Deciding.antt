-- The answer to the question of a call, in words.
use Rattle.std.proofs.Common.{◌≡◌, Bool, true, false, cond, nat_lt, List, length, Option, Result, Ok, Err, refl, ap, inl, inr}
use Rattle.std.proofs.lemmas.Bool.{ltb-true}
use Rattle.cxx_model.specs.declared.limits.TheConstants as limits
use Rattle.cxx_model.specs.declared.place.Place.{Place}
use Rattle.cxx_model.specs.declared.stop.LimitKind.TheVariants as kind
use Rattle.cxx_model.specs.declared.types.ClassId.{ClassId}
use Rattle.cxx_model.specs.Facts.Declarations.{CxxGraph}
use Rattle.cxx_model.specs.Stops.{Answer, Stopped, Limited, ◌>>=◌}
use Rattle.cxx_meaning.specs.Conversions.Standard.{CxxOperand}
use Rattle.cxx_reading.specs.Seen.{Numbered}
use Rattle.cxx_overload.specs.Calls.{CxxDecision, call_of, decided, decided_among, decided_by, decided_rated}
use Rattle.cxx_overload.specs.Candidates.{candidates, candidates_within}
use Rattle.cxx_overload.specs.Choices.{CxxChoice, chosen_one, none_viable, ambiguous, choice}
use Rattle.cxx_overload.specs.Decided.{IsDecided, IsUndecided}
use Rattle.cxx_overload.specs.Gathering.{AreNumbered, place_among}
use Rattle.cxx_overload.specs.Viability.{Rated, rated}
use Rattle.cxx_overload.proofs.Gathering.{candidates_numbered}
use Rattle.cxx_overload.proofs.InTurn.{rated_numbered}
use Rattle.cxx_overload.proofs.InWords.{ambiguous_tied, chosen_best, none_refused}

numbered : (declared : List Numbered) → AreNumbered place_among 1 (candidates declared)
unfolding candidates
numbered declared = candidates_numbered declared 1

ok_same : (answer : Answer CxxDecision) (x y : CxxDecision) → answer ≡ Ok x → answer ≡ Ok y → y ≡ x
ok_same answer x y e f = cc

by_choice : (place : Place) (object : Option CxxOperand) (operands : List CxxOperand) (graph : CxxGraph) (declared : List Numbered) (all : List Rated) (decision : CxxDecision) (answer : CxxChoice) → rated graph object operands (candidates declared) ≡ Ok all → choice graph all ≡ answer → decided_by place object operands all answer ≡ Ok decision → IsDecided place object operands graph declared decision
by_choice place object operands graph declared all decision (chosen_one one) is e h =
    let same : decision ≡ record { meant = one.candidate; call = call_of place object operands one.candidate.position all } = ok_same (decided_by place object operands all (chosen_one one)) (record { meant = one.candidate; call = call_of place object operands one.candidate.position all }) decision refl h in
    record { all = all; rated_so = is; meant = one; best = chosen_best graph all one e; means = ap (λ (d : CxxDecision). d.meant) same; keeps = ap (λ (d : CxxDecision). d.call) same }
by_choice place object operands graph declared all decision (none_viable lines) is e h = absurd cc
by_choice place object operands graph declared all decision (ambiguous lines) is e h = absurd cc

by_rated : (place : Place) (object : Option CxxOperand) (operands : List CxxOperand) (graph : CxxGraph) (declared : List Numbered) (asked : Result (List Rated) ClassId) (decision : CxxDecision) → rated graph object operands (candidates declared) ≡ asked → decided_rated place object operands graph asked ≡ Ok decision → IsDecided place object operands graph declared decision
by_rated place object operands graph declared (Ok all) decision is h = by_choice place object operands graph declared all decision (choice graph all) is refl h
by_rated place object operands graph declared (Err class) decision is h = absurd cc

pub decision_best : (place : Place) (object : Option CxxOperand) (operands : List CxxOperand) (graph : CxxGraph) (declared : List Numbered) (decision : CxxDecision) → decided place object operands graph declared ≡ Ok decision → IsDecided place object operands graph declared decision
unfolding decided candidates_within
decision_best place object operands graph declared decision = by (nat_lt limits.MOST_CANDIDATES (length (candidates declared)))
  where
    by : (many : Bool) → (cond many (Err (Limited kind.Candidates)) (Ok (candidates declared)) >>= decided_among place object operands graph) ≡ Ok decision → IsDecided place object operands graph declared decision
    by true h = absurd cc
    by false h = by_rated place object operands graph declared (rated graph object operands (candidates declared)) decision refl h

why_by_choice : (place : Place) (object : Option CxxOperand) (operands : List CxxOperand) (graph : CxxGraph) (declared : List Numbered) (all : List Rated) (why : Stopped) (answer : CxxChoice) → rated graph object operands (candidates declared) ≡ Ok all → choice graph all ≡ answer → decided_by place object operands all answer ≡ Err why → IsUndecided place object operands graph declared why
why_by_choice place object operands graph declared all why (chosen_one one) is e h = absurd cc
why_by_choice place object operands graph declared all why (none_viable lines) is e h = inr (inr (inl (record { all = all; rated_so = is; lines = lines; refused = none_refused graph all lines e; why_is = cc })))
why_by_choice place object operands graph declared all why (ambiguous lines) is e h = inr (inr (inr (record { all = all; rated_so = is; lines = lines; tied = ambiguous_tied graph all lines (rated_numbered graph object operands (candidates declared) all 1 is (numbered declared)) e; why_is = cc })))

why_by_rated : (place : Place) (object : Option CxxOperand) (operands : List CxxOperand) (graph : CxxGraph) (declared : List Numbered) (asked : Result (List Rated) ClassId) (why : Stopped) → rated graph object operands (candidates declared) ≡ asked → decided_rated place object operands graph asked ≡ Err why → IsUndecided place object operands graph declared why
why_by_rated place object operands graph declared (Ok all) why is h = why_by_choice place object operands graph declared all why (choice graph all) is refl h
why_by_rated place object operands graph declared (Err class) why is h = inr (inl (record { class = class; needed = is; why_is = cc }))

pub undecided_why : (place : Place) (object : Option CxxOperand) (operands : List CxxOperand) (graph : CxxGraph) (declared : List Numbered) (why : Stopped) → decided place object operands graph declared ≡ Err why → IsUndecided place object operands graph declared why
unfolding decided candidates_within
undecided_why place object operands graph declared why = by (nat_lt limits.MOST_CANDIDATES (length (candidates declared))) refl
  where
    by : (many : Bool) → nat_lt limits.MOST_CANDIDATES (length (candidates declared)) ≡ many → (cond many (Err (Limited kind.Candidates)) (Ok (candidates declared)) >>= decided_among place object operands graph) ≡ Err why → IsUndecided place object operands graph declared why
    by true is h = inl (record { many = ltb-true limits.MOST_CANDIDATES (length (candidates declared)) is; why_is = cc })
    by false is h = why_by_rated place object operands graph declared (rated graph object operands (candidates declared)) why refl h
