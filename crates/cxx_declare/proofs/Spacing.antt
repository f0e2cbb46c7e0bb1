-- Namespaces.
use Rattle.std.specs.Prelude.{ℕ, zero, ◌≡◌, ◌<◌, ◌++◌, Bool, true, false, if◌then◌else◌, not, ◌&&◌, nat_eq, List, [], ◌∷◌, length, Option, Some, None, option_map, Result, Ok, Err, IfSome, refl}
use Rattle.std.proofs.Common.{ap, sym, subst, ◌∙◌}
use Rattle.cxx_model.specs.declared.facts.Entity.TheVariants as entity
use Rattle.cxx_model.specs.declared.facts.Fact.{Fact}
use Rattle.cxx_model.specs.declared.facts.Name.{Name}
use Rattle.cxx_model.specs.declared.facts.Name.TheVariants as name
use Rattle.cxx_model.specs.declared.facts.ScopeKind.TheVariants.{Space}
use Rattle.cxx_model.specs.declared.place.Place.{Place}
use Rattle.cxx_model.specs.declared.stop.Stop.{Stop}
use Rattle.cxx_model.specs.declared.token.TokenKind.{TokenKind}
use Rattle.cxx_model.specs.declared.types.FactId.{FactId}
use Rattle.cxx_model.specs.declared.types.ScopeId.{ScopeId}
use Rattle.cxx_model.specs.Facts.Conflicts.{has_name}
use Rattle.cxx_model.specs.Facts.Declarations as facts
use Rattle.cxx_model.specs.Facts.Declarations.{CxxFact, CxxGraph, CxxName, fact_at, facts_at, graph_at, spelled, unnamed}
use Rattle.cxx_model.specs.Facts.Fitted.{IsEntityBelow, IsFactBelow, IsNameBelow}
use Rattle.cxx_model.specs.Facts.Graph.{Graph, InRange, IsEntityInRange, appended, scopes}
use Rattle.cxx_model.specs.declared.stop.Stop.TheVariants as stop
use Rattle.cxx_model.specs.Stops.{Answer, Stops, ◌>>=◌}
use Rattle.cxx_names.specs.Clashes.{IsPlain, IsPlainEntity, IsPlainName}
use Rattle.cxx_names.specs.Looked.{scope_number as number_of_scope}
use Rattle.cxx_reading.specs.Declaring.{added, scope_count}
use Rattle.cxx_reading.specs.Seen.{Numbered, declared_from, declared_in}
use Rattle.cxx_reading.specs.Paths.{or_later, space_in}
use Rattle.cxx_reading.specs.Spaces.{declare_alias, declare_directive, declare_unnamed, directive_fact, first_opening, is_original_by, new_space, new_unnamed, open_again, open_by, open_new, open_space, open_unnamed, opened_among, opened_before, original_by, space_fact, told, unnamed_among, unnamed_before, unnamed_opened, within}
use Rattle.cxx_reading.specs.State.{CxxState}
use Rattle.cxx_declare.specs.Made.{IsReady, made, token, word_in}
use Rattle.cxx_declare.specs.Opened.{IsFirst, added_within, declared_within, opened_first, space_added, told_declared}
use Rattle.cxx_paths.proofs.Spaced.{AreFactsSpaced, AreSpaced, IsBelow, declared_spaced, held_spaced, later_below, some_below}
use Rattle.cxx_paths.proofs.Stopping.{stopped_on}
use Rattle.cxx_tree.specs.Answered.{AnyKnown, IsAnswered, IsFactKnown, IsScopeKnown, fact_number, itself, scope_number}
use Rattle.cxx_tree.specs.Held.{Held, meaning}
use Rattle.cxx_tree.specs.Later.{Later}
use Rattle.cxx_tree.specs.Whole.{added_space, scope_fact}
use Rattle.cxx_tree.proofs.Graphs.{scope_next, scopes_later}
use Rattle.cxx_tree.proofs.Steps.{Later_trans}
use Rattle.cxx_tree.proofs.Wholes.{may_follow}

-- ---- what is found is there

original_below : (count : ℕ) (graph : CxxGraph) (scope : ℕ) (word : CxxName) (one later : Option ℕ) → IsBelow count one → IsBelow count later → IsBelow count (original_by graph scope word one later)
original_below count graph scope word None later p q = q
original_below count graph scope word (Some n) later p q = by (is_original_by scope word (first_opening n graph.facts))
  where
    by : (b : Bool) → IsBelow count (if b then Some n else later)
    by true = p
    by false = q

opened_below : (count : ℕ) (graph : CxxGraph) (scope : ℕ) (word : CxxName) (all : List Numbered) → AreSpaced count all → IsBelow count (opened_among graph scope word all)
opened_below count graph scope word [] ok = tt
opened_below count graph scope word (one ∷ others) ok = original_below count graph scope word (space_in one.fact.what) (opened_among graph scope word others) ok.0 (opened_below count graph scope word others ok.1)

unnamed_below : (count scope : ℕ) (facts : List CxxFact) → AreFactsSpaced count facts → IsBelow count (unnamed_among scope facts)
unnamed_below count scope [] ok = tt
unnamed_below count scope (one ∷ others) ok = by (nat_eq one.scope scope && not (has_name one.name)) (unnamed_below count scope others ok.1)
  where
    by : (b : Bool) → IsBelow count (unnamed_among scope others) → IsBelow count (if b then or_later (space_in one.what) (unnamed_among scope others) else unnamed_among scope others)
    by true later = later_below count (space_in one.what) (unnamed_among scope others) ok.0 later
    by false later = later

pub opened_there : (held : Held) (graph : Graph) (word : List ℕ) (r : Option ScopeId) → graph ≡ held.graph → InRange graph → option_map number_of_scope r ≡ opened_before (meaning held).graph (meaning held).here.scope (spelled word) → IfSome r (λ inner. inner.0 < scopes held.graph.facts)
unfolding meaning opened_before declared_in
opened_there held graph word r same ok is =
    some_below (scopes held.graph.facts) r (opened_among (graph_at held.types held.graph) held.scope.0 (spelled word) (declared_from held.scope.0 (spelled word) zero (facts_at held.types held.graph.facts))) is
    (opened_below (scopes held.graph.facts) (graph_at held.types held.graph) held.scope.0 (spelled word) (declared_from held.scope.0 (spelled word) zero (facts_at held.types held.graph.facts)) (declared_spaced (scopes held.graph.facts) held.scope.0 (spelled word) zero (facts_at held.types held.graph.facts) (held_spaced held graph same ok)))

pub unnamed_there : (held : Held) (graph : Graph) (r : Option ScopeId) → graph ≡ held.graph → InRange graph → option_map number_of_scope r ≡ unnamed_before (meaning held).graph (meaning held).here.scope → IfSome r (λ inner. inner.0 < scopes held.graph.facts)
unfolding meaning unnamed_before
unnamed_there held graph r same ok is = some_below (scopes held.graph.facts) r (unnamed_among held.scope.0 (facts_at held.types held.graph.facts)) is (unnamed_below (scopes held.graph.facts) held.scope.0 (facts_at held.types held.graph.facts) (held_spaced held graph same ok))

-- ---- declarations of namespaces

name_below : (count : ℕ) (n : Name) → IsPlainName n → IsNameBelow count n
name_below count name.Unnamed ok = tt
name_below count (name.Spelled word) ok = tt
name_below count (name.Operator o) ok = tt
name_below count (name.Conversion of) ok = absurd ok
name_below count name.Destructor ok = tt

pub directive_ready : (held : Held) (place : Place) (inner : ScopeId) (scope : ScopeId) (fact : Fact) → scope.0 < scopes held.graph.facts → inner.0 < scopes held.graph.facts → fact ≡ made scope place name.Unnamed (entity.Directive inner) → IsReady held fact
directive_ready held place inner scope fact there within is = subst (λ (f : Fact). IsReady held f) (sym is) (record { follows = may_follow held.graph (made scope place name.Unnamed (entity.Directive inner)) there within; below = record { name = tt; what = tt }; plain = record { name = tt; what = tt } })

-- one more fact leaves the scopes there
pub scope_still : (old new : Held) (fact : Fact) (n : ℕ) → new ≡ record old { graph = appended old.graph fact } → n < scopes old.graph.facts → n < scopes new.graph.facts
scope_still old new fact n is there = subst (λ (h : Held). n < scopes h.graph.facts) (sym is) (scopes_later old.graph.facts (fact ∷ []) n there)

pub first_plain : (held : Held) (inner : ScopeId) (fact : Fact) → IsFirst held inner fact → IsPlain fact
first_plain held inner fact first = record { name = first.plain; what = subst (λ w. IsPlainEntity w) (sym first.what) tt }

pub first_below_types : (held : Held) (inner : ScopeId) (fact : Fact) → IsFirst held inner fact → IsFactBelow (length held.types) fact
first_below_types held inner fact first = record { name = name_below (length held.types) fact.name first.plain; what = subst (λ w. IsEntityBelow (length held.types) w) (sym first.what) tt }

next_there : (old new : Held) (place : Place) (n : ℕ) → new ≡ record old { graph = appended old.graph (scope_fact Space place old.scope) } → n ≡ scopes old.graph.facts → n < scopes new.graph.facts
next_there old new place n is next = subst (λ (h : Held). n < scopes h.graph.facts) (sym is) (subst (λ m. m < scopes (old.graph.facts ++ scope_fact Space place old.scope ∷ [])) (sym next) (scope_next old.graph.facts (scope_fact Space place old.scope) (Some old.scope) Space refl))

pub first_there : (old new : Held) (place : Place) (inner : ScopeId) (fact : Fact) → IsFirst old inner fact → new ≡ record old { graph = appended old.graph (scope_fact Space place old.scope) } → inner.0 < scopes new.graph.facts
first_there old new place inner fact first is = next_there old new place inner.0 is first.next

pub first_ready : (old new : Held) (place : Place) (inner : ScopeId) (fact : Fact) → IsFirst old inner fact → new ≡ record old { graph = appended old.graph (scope_fact Space place old.scope) } → IsReady new fact
first_ready old new place inner fact first is = record {
  follows = may_follow new.graph fact
      (scope_still old new (scope_fact Space place old.scope) fact.scope.0 is (subst (λ (s : ScopeId). s.0 < scopes old.graph.facts) (sym first.scope) first.there))
      (subst (λ w. IsEntityInRange new.graph fact w) (sym first.what) (first_there old new place inner fact first is));
  below = subst (λ (h : Held). IsFactBelow (length h.types) fact) (sym is) (first_below_types old inner fact first);
  plain = first_plain old inner fact first;
}

-- ---- the answers

pub opened_again : (old new : Held) (kind : TokenKind) (place : Place) (word : List ℕ) (inner : ScopeId) (fact : Fact) (r : Result (Unit {0}) Stop) → fact ≡ made old.scope place (name.Spelled word) (entity.Namespace inner) → IsAnswered itself AnyKnown old new r (declared_within inner.0 (fact_at old.types fact) (word_in fact.name) (meaning old)) → IsAnswered itself AnyKnown old new r (open_again (token kind place word) inner.0 (meaning old))
unfolding open_again meaning
opened_again old new kind place word inner fact r is answered = subst (λ (f : Fact). IsAnswered itself AnyKnown old new r (declared_within inner.0 (fact_at old.types f) (word_in f.name) (meaning old))) is answered

-- the scope is added first
abbrev counted : CxxState → Answer (ℕ × CxxState) → Answer (ℕ × CxxState)
counted state reply = reply >>= λ answer. Ok (scope_count state.graph, answer.1)

abbrev state_or : CxxState → Answer (ℕ × CxxState) → CxxState
state_or other (Ok both) = both.1
state_or other (Err why) = other

abbrev number_or : ℕ → Answer (ℕ × CxxState) → ℕ
number_or n (Ok both) = both.0
number_or n (Err why) = n

space_then : {B : Type 0} (state : CxxState) (place : Place) (n : ℕ) (s : CxxState) (go : CxxState → Answer B) → added_space place state ≡ Ok (n, s) → (added (new_space state place) state >>= λ opened. go opened.1) ≡ go s
space_then state place n s go e = by (added (new_space state place) state) e
  where
    by : (a : Answer (ℕ × CxxState)) → counted state a ≡ Ok (n, s) → (a >>= λ opened. go opened.1) ≡ go s
    by (Err why) f = absurd (cc)
    by (Ok both) f = ap go (ap (state_or both.1) f)

space_stops : {B : Type 0} (state : CxxState) (place : Place) (why : Stop) (go : ℕ × CxxState → Answer B) → Stops why (added_space place state) → Stops why (added (new_space state place) state >>= go)
space_stops state place why go e = stopped_on why (added (new_space state place) state) go (before why (added (new_space state place) state) e)
  where
    before : (w : Stop) (a : Answer (ℕ × CxxState)) → Stops w (counted state a) → Stops w a
    before w (Err x) f = f
    before stop.OutOfMemory (Ok both) f = tt
    before (stop.Fault g) (Ok both) f = absurd (cc)
    before (stop.Limit k) (Ok both) f = absurd (cc)

longer : (old middle new : Held) (r : Result (Unit {0}) Stop) (reply : Answer (Unit {0} × CxxState)) → Later old middle → IsAnswered itself AnyKnown middle new r reply → IsAnswered itself AnyKnown old new r reply
longer old middle new (Ok u) reply later answered = record { is = answered.is; later = Later_trans old middle new later answered.later }
longer old middle new (Err why) reply later answered = record { is = answered.is; later = Later_trans old middle new later answered.later }

pub space_answered : (old middle new : Held) (place : Place) (scope : ScopeId) (r : Result (Unit {0}) Stop) (go : CxxState → Answer (Unit {0} × CxxState)) → IsAnswered scope_number IsScopeKnown old middle (Ok scope) (added_space place (meaning old)) → IsAnswered itself AnyKnown middle new r (go (meaning middle)) → IsAnswered itself AnyKnown old new r (added (new_space (meaning old) place) (meaning old) >>= λ opened. go opened.1)
space_answered old middle new place scope r go one two =
    subst (λ reply. IsAnswered itself AnyKnown old new r reply) (sym (space_then (meaning old) place scope.0 (meaning middle) go one.is.0)) (longer old middle new r (go (meaning middle)) one.later two)

pub space_stopped : (old new : Held) (place : Place) (why : Stop) (go : ℕ × CxxState → Answer (Unit {0} × CxxState)) → IsAnswered scope_number IsScopeKnown old new (Err why) (added_space place (meaning old)) → IsAnswered itself AnyKnown old new (Err why) (added (new_space (meaning old) place) (meaning old) >>= go)
space_stopped old new place why go one = record { is = space_stops (meaning old) place why go one.is; later = one.later }

pub first_added : (old middle new : Held) (place : Place) (inner scope : ScopeId) (fact : Fact) (r : Result (Unit {0}) Stop) → middle ≡ record old { graph = appended old.graph (scope_fact Space place old.scope) } → IsAnswered scope_number IsScopeKnown old middle (Ok scope) (added_space place (meaning old))
    → IsAnswered itself AnyKnown middle new r (added_within inner.0 (fact_at middle.types fact) (meaning middle)) → IsAnswered itself AnyKnown old new r (space_added place inner.0 (fact_at old.types fact) (meaning old))
first_added old middle new place inner scope fact r is one two =
    space_answered old middle new place scope r (added_within inner.0 (fact_at old.types fact)) one
    (subst (λ (h : Held). IsAnswered itself AnyKnown middle new r (added_within inner.0 (fact_at h.types fact) (meaning middle))) is two)

pub first_not_added : (old new : Held) (place : Place) (inner : ScopeId) (fact : CxxFact) (why : Stop) → IsAnswered scope_number IsScopeKnown old new (Err why) (added_space place (meaning old)) → IsAnswered itself AnyKnown old new (Err why) (space_added place inner.0 fact (meaning old))
first_not_added old new place inner fact why one = space_stopped old new place why (λ opened. added_within inner.0 fact opened.1) one

pub opened_newly : (old new : Held) (kind : TokenKind) (place : Place) (word : List ℕ) (inner : ScopeId) (fact : Fact) (r : Result (Unit {0}) Stop) → inner.0 ≡ scope_count (graph_at old.types old.graph) → fact ≡ made old.scope place (name.Spelled word) (entity.Namespace inner)
    → IsAnswered itself AnyKnown old new r (opened_first place inner.0 (fact_at old.types fact) (word_in fact.name) (meaning old)) → IsAnswered itself AnyKnown old new r (open_new (token kind place word) (meaning old))
unfolding open_new meaning
opened_newly old new kind place word inner fact r count is answered =
    subst (λ n. IsAnswered itself AnyKnown old new r (opened_first place n (space_fact (meaning old) (spelled word) place n) word (meaning old))) count
    (subst (λ (f : Fact). IsAnswered itself AnyKnown old new r (opened_first place inner.0 (fact_at old.types f) (word_in f.name) (meaning old))) is answered)

pub space_opened : (old new : Held) (kind : TokenKind) (place : Place) (word : List ℕ) (inner : Option ℕ) (r : Result (Unit {0}) Stop) → inner ≡ opened_before (meaning old).graph (meaning old).here.scope (spelled word) → IsAnswered itself AnyKnown old new r (open_by (token kind place word) inner (meaning old)) → IsAnswered itself AnyKnown old new r (open_space (token kind place word) (meaning old))
unfolding open_space
space_opened old new kind place word inner r is answered = subst (λ o. IsAnswered itself AnyKnown old new r (open_by (token kind place word) o (meaning old))) is answered

-- ---- an unnamed one

fact_then : (old middle new : Held) (number : FactId) (r : Result (Unit {0}) Stop) (reply : Answer (ℕ × CxxState)) (go : CxxState → Answer (Unit {0} × CxxState)) → IsAnswered fact_number IsFactKnown old middle (Ok number) reply → IsAnswered itself AnyKnown middle new r (go (meaning middle)) → IsAnswered itself AnyKnown old new r (reply >>= λ answer. go answer.1)
fact_then old middle new number r reply go one two =
    subst (λ a. IsAnswered itself AnyKnown old new r a) (sym (ap (λ (a : Answer (ℕ × CxxState)). a >>= λ answer. go answer.1) one.is.0)) (longer old middle new r (go (meaning middle)) one.later two)

pub unnamed_declared : (old middle new : Held) (place : Place) (inner scope : ScopeId) (number : FactId) (one two : Fact) (r : Result (Unit {0}) Stop) → scope ≡ old.scope → one ≡ made scope place name.Unnamed (entity.Namespace inner) → two ≡ made scope place name.Unnamed (entity.Directive inner) → middle ≡ record old { graph = appended old.graph one }
    → IsAnswered fact_number IsFactKnown old middle (Ok number) (added (fact_at old.types one) (meaning old)) → IsAnswered itself AnyKnown middle new r (added_within inner.0 (fact_at middle.types two) (meaning middle)) → IsAnswered itself AnyKnown old new r (declare_unnamed place inner.0 (meaning old))
unfolding declare_unnamed meaning
unnamed_declared old middle new place inner scope number one two r here one_is two_is is first second =
    fact_then old middle new number r (added (space_fact (meaning old) unnamed place inner.0) (meaning old)) (added_within inner.0 (directive_fact (meaning old) place inner.0))
    (subst (λ (s : ScopeId). IsAnswered fact_number IsFactKnown old middle (Ok number) (added (fact_at old.types (made s place name.Unnamed (entity.Namespace inner))) (meaning old))) here
    (subst (λ (f : Fact). IsAnswered fact_number IsFactKnown old middle (Ok number) (added (fact_at old.types f) (meaning old))) one_is first))
    (subst (λ (s : ScopeId). IsAnswered itself AnyKnown middle new r (added_within inner.0 (fact_at old.types (made s place name.Unnamed (entity.Directive inner))) (meaning middle))) here
    (subst (λ (f : Fact). IsAnswered itself AnyKnown middle new r (added_within inner.0 (fact_at old.types f) (meaning middle))) two_is
    (subst (λ (h : Held). IsAnswered itself AnyKnown middle new r (added_within inner.0 (fact_at h.types two) (meaning middle))) is second)))

pub unnamed_not_declared : (old new : Held) (place : Place) (inner scope : ScopeId) (one : Fact) (why : Stop) → scope ≡ old.scope → one ≡ made scope place name.Unnamed (entity.Namespace inner) → IsAnswered fact_number IsFactKnown old new (Err why) (added (fact_at old.types one) (meaning old)) → IsAnswered itself AnyKnown old new (Err why) (declare_unnamed place inner.0 (meaning old))
unfolding declare_unnamed meaning
unnamed_not_declared old new place inner scope one why here one_is answered =
    let first = subst (λ (s : ScopeId). IsAnswered fact_number IsFactKnown old new (Err why) (added (fact_at old.types (made s place name.Unnamed (entity.Namespace inner))) (meaning old))) here
    (subst (λ (f : Fact). IsAnswered fact_number IsFactKnown old new (Err why) (added (fact_at old.types f) (meaning old))) one_is answered) in
    record { is = stopped_on why (added (space_fact (meaning old) unnamed place inner.0) (meaning old)) (λ named. added_within inner.0 (directive_fact (meaning old) place inner.0) named.1) first.is; later = first.later }

space_number : (state : CxxState) (place : Place) (n : ℕ) (s : CxxState) → added_space place state ≡ Ok (n, s) → n ≡ scope_count state.graph
space_number state place n s e = by (added (new_space state place) state) e
  where
    by : (a : Answer (ℕ × CxxState)) → counted state a ≡ Ok (n, s) → n ≡ scope_count state.graph
    by (Err why) f = absurd (cc)
    by (Ok both) f = sym (ap (number_or n) f)

pub unnamed_newly : (old middle new : Held) (place : Place) (scope : ScopeId) (r : Result (Unit {0}) Stop) → IsAnswered scope_number IsScopeKnown old middle (Ok scope) (added_space place (meaning old)) → IsAnswered itself AnyKnown middle new r (declare_unnamed place scope.0 (meaning middle)) → IsAnswered itself AnyKnown old new r (new_unnamed place (meaning old))
unfolding new_unnamed
unnamed_newly old middle new place scope r one two =
    space_answered old middle new place scope r (declare_unnamed place (scope_count (meaning old).graph)) one
    (subst (λ n. IsAnswered itself AnyKnown middle new r (declare_unnamed place n (meaning middle))) (space_number (meaning old) place scope.0 (meaning middle) one.is.0) two)

pub unnamed_not_newly : (old new : Held) (place : Place) (why : Stop) → IsAnswered scope_number IsScopeKnown old new (Err why) (added_space place (meaning old)) → IsAnswered itself AnyKnown old new (Err why) (new_unnamed place (meaning old))
unfolding new_unnamed
unnamed_not_newly old new place why one = space_stopped old new place why (λ opened. declare_unnamed place (scope_count (meaning old).graph) opened.1) one

pub unnamed_answered : (old new : Held) (place : Place) (inner : Option ℕ) (r : Result (Unit {0}) Stop) → inner ≡ unnamed_before (meaning old).graph (meaning old).here.scope → IsAnswered itself AnyKnown old new r (unnamed_opened place inner (meaning old)) → IsAnswered itself AnyKnown old new r (open_unnamed place (meaning old))
unfolding open_unnamed
unnamed_answered old new place inner r is answered = subst (λ o. IsAnswered itself AnyKnown old new r (unnamed_opened place o (meaning old))) is answered

-- ---- other names and directives

pub alias_declared : (old new : Held) (kind : TokenKind) (place : Place) (word : List ℕ) (inner : ScopeId) (fact : Fact) (r : Result (Unit {0}) Stop) → fact ≡ made old.scope place (name.Spelled word) (entity.Namespace inner) → IsAnswered itself AnyKnown old new r (told_declared (fact_at old.types fact) (word_in fact.name) (meaning old)) → IsAnswered itself AnyKnown old new r (declare_alias (token kind place word) inner.0 (meaning old))
unfolding declare_alias meaning
alias_declared old new kind place word inner fact r is answered = subst (λ (f : Fact). IsAnswered itself AnyKnown old new r (told_declared (fact_at old.types f) (word_in f.name) (meaning old))) is answered

directive_is : (held : Held) (place : Place) (inner scope : ScopeId) (fact : Fact) → scope ≡ held.scope → fact ≡ made scope place name.Unnamed (entity.Directive inner) → fact_at held.types fact ≡ directive_fact (meaning held) place inner.0
unfolding meaning
directive_is held place inner scope fact here is = ap (fact_at held.types) is ∙ ap (λ (s : ScopeId). fact_at held.types (made s place name.Unnamed (entity.Directive inner))) here

pub directive_declared : (old new : Held) (place : Place) (inner scope : ScopeId) (fact : Fact) (number : FactId) → scope ≡ old.scope → fact ≡ made scope place name.Unnamed (entity.Directive inner) → IsAnswered fact_number IsFactKnown old new (Ok number) (added (fact_at old.types fact) (meaning old)) → IsAnswered itself AnyKnown old new (Ok tt) (declare_directive place inner.0 (meaning old))
unfolding declare_directive
directive_declared old new place inner scope fact number here is answered = record {
  is = (ap (λ (f : CxxFact). added f (meaning old) >>= λ answer. Ok (told answer)) (sym (directive_is old place inner scope fact here is)) ∙ ap (λ (a : Answer (ℕ × CxxState)). a >>= λ answer. Ok (told answer)) answered.is.0, tt);
  later = answered.later;
}

pub directive_not_declared : (old new : Held) (place : Place) (inner scope : ScopeId) (fact : Fact) (why : Stop) → scope ≡ old.scope → fact ≡ made scope place name.Unnamed (entity.Directive inner) → IsAnswered fact_number IsFactKnown old new (Err why) (added (fact_at old.types fact) (meaning old)) → IsAnswered itself AnyKnown old new (Err why) (declare_directive place inner.0 (meaning old))
unfolding declare_directive
directive_not_declared old new place inner scope fact why here is answered = record {
  is = subst (λ (f : CxxFact). Stops why (added f (meaning old) >>= λ answer. Ok (told answer))) (directive_is old place inner scope fact here is) (stopped_on why (added (fact_at old.types fact) (meaning old)) (λ answer. Ok (told answer)) answered.is);
  later = answered.later;
}
