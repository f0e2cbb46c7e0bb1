-- A list of parameters stands in a scope of its own (3.3.2), and what follows it in the scope round that.
use Rattle.std.proofs.Common.{arith, ◌≡◌, ◌<◌, ◌∙◌, ◌+◌, ℕ, Bool, true, false, List, [], ◌∷◌, ◌++◌, length, Some, Ok, Err, refl, ap, inr}
use Rattle.std.specs.Prelude.{if◌then◌else◌, nat_eq}
use Rattle.std.specs.List.{slice_get}
use Rattle.std.proofs.lemmas.List.{length-append}
use Rattle.cxx_model.specs.declared.facts.ScopeKind.{ScopeKind}
use Rattle.cxx_model.specs.declared.facts.ScopeKind.TheVariants as scope_kind
use Rattle.cxx_model.specs.declared.stop.LimitKind.TheVariants.{Facts}
use Rattle.cxx_model.specs.Facts.Conflicts.{scope_facts}
use Rattle.cxx_model.specs.Facts.Declarations.{CxxFact}
use Rattle.cxx_model.specs.Facts.Entities.{scope_kinds}
use Rattle.cxx_model.specs.Stops.{Answer, Stopped, Limited, ◌>>=◌}
use Rattle.cxx_reading.specs.Declarators.{ParameterTypes}
use Rattle.cxx_reading.specs.Declaring.{added, at_scope, enter_parameters, entered_as, leave_parameters, most_facts, parameters_scope, scope_count, with_fact}
use Rattle.cxx_reading.specs.Reads.{Ahead, Got, Reads, ask, answered, give, then_read}
use Rattle.cxx_reading.specs.Seen.{parent_of, scope_of_option}
use Rattle.cxx_reading.specs.State.{CxxState}
use Rattle.cxx_language_laws.specs.Told.{IsGrown}
use Rattle.cxx_language_laws.proofs.Later.{IsLater, grown_by, grown_later, grown_same, same_calls}
use Rattle.cxx_language_laws.proofs.Reached.{IsBehind, IsReached, behind_by, count_more, Told, later_is_told, told_sooner}
use Rattle.cxx_language_laws.proofs.Scopes.{entered, scope_within, scopes_beside, scopes_counted, scopes_entered, scopes_left}
use Rattle.cxx_language_laws.proofs.Tells.{ToldIn, tells_read, tells_stop, Tells, quiet_in, whole_stands}

-- ---- a scope that begins

at_length : (xs ys : List CxxFact) (fact : CxxFact) → slice_get ((xs ++ fact ∷ []) ++ ys) (length xs) ≡ Some fact
at_length [] ys fact = refl
at_length (x ∷ xs) ys fact = at_length xs ys fact

-- the scope round one that began
round_it : (kind : ScopeKind) (state : CxxState) (own : List CxxFact) → slice_get (scope_facts ((state.graph.facts ++ scope_within kind state ∷ []) ++ own)) (scope_count state.graph) ≡ Some (scope_within kind state)
round_it kind state own =
    let all = state.graph.facts in
    let last = scope_within kind state in
    let beside : scope_facts ((all ++ last ∷ []) ++ own) ≡ (scope_facts all ++ last ∷ []) ++ scope_facts own = scopes_beside (all ++ last ∷ []) own ∙ ap (λ (fs : List CxxFact). fs ++ scope_facts own) (scopes_beside all (last ∷ [])) in
    ap (λ (fs : List CxxFact). slice_get fs (length (scope_kinds all))) beside
    ∙ (ap (slice_get ((scope_facts all ++ last ∷ []) ++ scope_facts own)) (scopes_counted all) ∙ at_length (scope_facts all) (scope_facts own) last)

parent_is : (kind : ScopeKind) (state t : CxxState) → IsGrown (entered kind state) t → t.here.scope ≡ scope_count state.graph → parent_of t.graph t.here.scope ≡ state.here.scope
parent_is kind state t grown here =
    let by_graph : parent_of t.graph t.here.scope ≡ scope_of_option t.here.scope (slice_get (scope_facts ((state.graph.facts ++ scope_within kind state ∷ []) ++ grown.own)) t.here.scope) = ap (λ (fs : List CxxFact). scope_of_option t.here.scope (slice_get (scope_facts fs) t.here.scope)) grown.declared in
    let by_scope : slice_get (scope_facts ((state.graph.facts ++ scope_within kind state ∷ []) ++ grown.own)) t.here.scope ≡ Some (scope_within kind state) = ap (slice_get (scope_facts ((state.graph.facts ++ scope_within kind state ∷ []) ++ grown.own))) here ∙ round_it kind state grown.own in
    by_graph ∙ ap (scope_of_option t.here.scope) by_scope

-- ---- a scope of parameters, or a block

pub entered_grown : (kind : ScopeKind) (state : CxxState) → IsGrown state (entered kind state)
entered_grown kind state = grown_by state (entered kind state) (scope_within kind state ∷ []) refl

pub entered_reached : (kind : ScopeKind) (state : CxxState) → IsReached state (entered kind state)
entered_reached kind state = record { grown = entered_grown kind state; scopes = scopes_entered kind state; scope = λ is. inr (omega arith) }

pub entered_behind : (kind : ScopeKind) (state : CxxState) → IsBehind state (entered kind state)
entered_behind kind state = behind_by state (entered kind state) (entered_reached kind state)

abbrev pub left : CxxState → CxxState
left state = at_scope (parent_of state.graph state.here.scope) state

pub left_later : (kind : ScopeKind) (state t : CxxState) → IsLater (entered kind state) t → IsLater state (left t)
left_later kind state t later = record {
  grown = grown_later state (entered kind state) (left t) (entered_grown kind state) (grown_later (entered kind state) t (left t) later.grown (grown_same t (left t) refl));
  scopes = λ is. scopes_left t (later.scopes (scopes_entered kind state is));
  best = λ is. same_calls t (left t) (grown_same t (left t) refl) refl (later.best (same_calls state (entered kind state) (entered_grown kind state) refl is));
  here = λ is. parent_is kind state t later.grown (later.here (scopes_entered kind state is));
}

-- ---- a list

-- behind a list, and round one
abbrev ended : ParameterTypes → Reads CxxState ParameterTypes
ended list state ahead = then_read (ask leave_parameters state ahead) (λ gone. give list)

abbrev begun : (ℕ → Reads CxxState ParameterTypes) → ℕ → Reads CxxState ParameterTypes
begun list scope state ahead = then_read (list scope state ahead) ended

abbrev in_scope : (ℕ → Reads CxxState ParameterTypes) → Reads CxxState ParameterTypes
in_scope list state ahead = then_read (ask enter_parameters state ahead) (begun list)

ended_tells : (state : CxxState) (ahead : Ahead) {r : Answer (Got CxxState ParameterTypes)} → ToldIn IsLater Told (entered scope_kind.Parameters state) ahead r → ToldIn IsLater Told state ahead (then_read r ended)
unfolding leave_parameters
ended_tells state ahead (tells_read one later stands) = tells_read (record { value = one.value; state = left one.state; rest = one.rest }) (left_later scope_kind.Parameters state one.state later) stands
ended_tells state ahead (tells_stop why told) = tells_stop why (told_sooner state (entered scope_kind.Parameters state) ahead ahead why (entered_reached scope_kind.Parameters state) (whole_stands ahead.tokens) told)

pub listed_tells : (list : ℕ → Reads CxxState ParameterTypes) → ((scope : ℕ) → Tells IsLater Told (list scope)) → Tells IsLater Told (in_scope list)
unfolding enter_parameters added
listed_tells list tells state ahead = by (nat_eq (length state.graph.facts + length state.graph.classes) most_facts)
  where
    by : (b : Bool) → ToldIn IsLater Told state ahead (then_read (answered ((if b then Err (Limited Facts) else Ok (length state.graph.facts, with_fact (parameters_scope state) state)) >>= λ answer. Ok (entered_as (scope_count state.graph) answer)) ahead) (begun list))
    by true = quiet_in later_is_told refl
    by false = ended_tells state ahead (tells (scope_count state.graph) (entered scope_kind.Parameters state) ahead)

-- ---- the scope of a list that was read

pub data ListIn (state : CxxState) : Answer (Got CxxState ParameterTypes) → Type 0 where
  list_in : (one : Got CxxState ParameterTypes) → IsLater state one.state → one.value.scope < scope_count one.state.graph → ListIn state (Ok one)
  no_list : (why : Stopped) → ListIn state (Err why)

begun_count : (state t : CxxState) → IsLater (entered scope_kind.Parameters state) t → scope_count state.graph < scope_count t.graph
begun_count state t later =
    let more = count_more (entered scope_kind.Parameters state) t later.grown in
    let one : scope_facts (state.graph.facts ++ scope_within scope_kind.Parameters state ∷ []) ≡ scope_facts state.graph.facts ++ scope_within scope_kind.Parameters state ∷ [] = scopes_beside state.graph.facts (scope_within scope_kind.Parameters state ∷ []) in
    let counted = scopes_counted (state.graph.facts ++ scope_within scope_kind.Parameters state ∷ []) in
    let before = scopes_counted state.graph.facts in
    let count = length-append (scope_facts state.graph.facts) (scope_within scope_kind.Parameters state ∷ []) in
    let same = ap (λ (fs : List CxxFact). length fs) one in
    omega (arith, more, counted, before, count, same)

ended_begun : (state : CxxState) (ahead : Ahead) {r : Answer (Got CxxState ParameterTypes)} → ToldIn IsLater Told (entered scope_kind.Parameters state) ahead r → ((one : Got CxxState ParameterTypes) → r ≡ Ok one → one.value.scope ≡ scope_count state.graph) → ListIn state (then_read r ended)
unfolding leave_parameters
ended_begun state ahead (tells_read one later stands) of = let count = begun_count state one.state later in let is = of one refl in list_in (record { value = one.value; state = left one.state; rest = one.rest }) (left_later scope_kind.Parameters state one.state later) (omega (arith, count, is))
ended_begun state ahead (tells_stop why told) of = no_list why

-- it has begun, and the list has its number
pub list_begins : (list : ℕ → Reads CxxState ParameterTypes) → ((scope : ℕ) → Tells IsLater Told (list scope)) → ((scope : ℕ) (s : CxxState) (ahead : Ahead) (one : Got CxxState ParameterTypes) → list scope s ahead ≡ Ok one → one.value.scope ≡ scope) → (state : CxxState) (ahead : Ahead) → ListIn state (in_scope list state ahead)
unfolding enter_parameters added
list_begins list tells of state ahead = by (nat_eq (length state.graph.facts + length state.graph.classes) most_facts)
  where
    by : (b : Bool) → ListIn state (then_read (answered ((if b then Err (Limited Facts) else Ok (length state.graph.facts, with_fact (parameters_scope state) state)) >>= λ answer. Ok (entered_as (scope_count state.graph) answer)) ahead) (begun list))
    by true = no_list _
    by false = ended_begun state ahead (tells (scope_count state.graph) (entered scope_kind.Parameters state) ahead) (of (scope_count state.graph) (entered scope_kind.Parameters state) ahead)
