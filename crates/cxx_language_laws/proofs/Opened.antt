-- How namespaces begin and end (7.3.1): the reader stands in their scope, and behind them in the one that holds it.
use Rattle.std.proofs.Common.{arith, ◌≡◌, inl, ◌∙◌, ◌<◌, ◌+◌, refl, sym, ap, subst}
use Rattle.std.specs.Prelude.{ℕ, suc, Bool, true, false, not, ◌&&◌, nat_eq, if◌then◌else◌, length, List, [], ◌∷◌, ◌++◌, Option, Some, None, Ok, Err}
use Rattle.std.specs.List.{slice_get}
use Rattle.std.proofs.lemmas.Bool.{eqb-true}
use Rattle.std.proofs.lemmas.List.{length-append}
use Rattle.std.proofs.lemmas.Option.{same_Some}
use Rattle.cxx_model.specs.declared.facts.ScopeKind.{ScopeKind}
use Rattle.cxx_model.specs.declared.facts.ScopeKind.TheVariants as scope_kind
use Rattle.cxx_model.specs.declared.place.Place.{Place}
use Rattle.cxx_model.specs.declared.stop.LimitKind.TheVariants.{Facts}
use Rattle.cxx_model.specs.Facts.Conflicts.{has_name, same_name, scope_facts}
use Rattle.cxx_model.specs.Facts.Declarations as facts
use Rattle.cxx_model.specs.Facts.Declarations.{CxxFact, CxxGraph, CxxName, spelled, unnamed}
use Rattle.cxx_model.specs.Stops.{Answer, Limited, ◌>>=◌}
use Rattle.cxx_model.specs.Text.Lexemes.{Lexeme}
use Rattle.cxx_reading.specs.Declaring.{added, at_scope, fact_here, most_facts, scope_count, with_fact}
use Rattle.cxx_reading.specs.Linked.{scope_id}
use Rattle.cxx_reading.specs.Paths.{or_later, space_in}
use Rattle.cxx_reading.specs.Reads.{Ahead}
use Rattle.cxx_reading.specs.Seen.{Numbered, declared_in, scope_of_option}
use Rattle.cxx_reading.specs.Spaces.{declare_unnamed, directive_fact, first_opening, is_original_by, new_space, new_unnamed, open_again, open_by, open_new, open_space, open_unnamed, opened_among, opened_before, original_by, space_fact, unnamed_among, unnamed_before, unnamed_opened, within}
use Rattle.cxx_reading.specs.State.{CxxState}
use Rattle.cxx_language_laws.specs.Best.{AreBestCalls}
use Rattle.cxx_language_laws.specs.Told.{IsGrown}
use Rattle.cxx_language_laws.proofs.Later.{IsLater, MayBeAdded, QuietBy, quiet_answer, quiet_refusal, added_tells, free_quiet, grown_later, grown_same, later_is_kept, may_be_added, same_calls}
use Rattle.cxx_language_laws.proofs.Lists.{left}
use Rattle.cxx_language_laws.proofs.Scopes.{InScopes, opened_within, round_of, round_still, scopes_at, scopes_beside, scopes_counted, scopes_left, space_within}
use Rattle.cxx_language_laws.proofs.Tells.{Quietly, ToldBy, tells_answer, tells_refusal}

-- ---- how a namespace begins

-- a scope that there is, held by another
pub record IsRound (scope : ℕ) (graph : CxxGraph) (inner : ℕ) : Type 0 where
  pub within : inner < length (scope_facts graph.facts)
  pub round : round_of graph.facts inner ≡ scope

pub round_grown : (scope : ℕ) (s t : CxxState) (inner : ℕ) → IsGrown s t → IsRound scope s.graph inner → IsRound scope t.graph inner
round_grown scope s t inner grown is =
    let more = ap (λ (fs : List CxxFact). length fs) (scopes_beside s.graph.facts grown.own) in
    let count = length-append (scope_facts s.graph.facts) (scope_facts grown.own) in
    let there = is.within in
    record {
      within = subst (λ (fs : List CxxFact). inner < length (scope_facts fs)) (sym grown.declared) (omega (arith, more, count, there));
      round = subst (λ (fs : List CxxFact). round_of fs inner ≡ scope) (sym grown.declared) (round_still s.graph.facts grown.own inner is.within ∙ is.round);
    }

-- 7.3.1: the reader stands in a namespace, of the scope where it stood
pub record InSpace (old new : CxxState) : Type 0 where
  pub grown : IsGrown old new
  pub scopes : InScopes old → InScopes new
  pub round : InScopes old → IsRound old.here.scope new.graph new.here.scope
  pub best : AreBestCalls old → AreBestCalls new

pub stands_in : (old between : CxxState) (inner : ℕ) → IsLater old between → (InScopes old → IsRound old.here.scope between.graph inner) → InSpace old (at_scope inner between)
stands_in old between inner later round = record {
  grown = grown_later old between (at_scope inner between) later.grown (grown_same between (at_scope inner between) refl);
  scopes = λ is. let counted = scopes_counted between.graph.facts in let there = (round is).within in scopes_at inner between (omega (arith, counted, there)) (later.scopes is);
  round = round;
  best = λ all. same_calls between (at_scope inner between) (grown_same between (at_scope inner between) refl) refl (later.best all);
}

-- its end
pub space_closed : (old new last : CxxState) → InSpace old new → IsLater new last → IsLater old (left last)
space_closed old new last opened later = record {
  grown = grown_later old new (left last) opened.grown (grown_later new last (left last) later.grown (grown_same last (left last) refl));
  scopes = λ is. scopes_left last (later.scopes (opened.scopes is));
  best = λ all. same_calls last (left last) (grown_same last (left last) refl) refl (later.best (opened.best all));
  here = λ is. let round = round_grown old.here.scope new last new.here.scope later.grown (opened.round is) in ap (round_of last.graph.facts) (later.here (opened.scopes is)) ∙ round.round;
}

-- an answer that comes behind others
pub quiet_then : {A B : Type 0} {kept : CxxState → CxxState → Type 0} (state : CxxState) (ahead : Ahead) {first : Answer A} (go : A → Answer (B × CxxState)) → QuietBy first → ((x : A) → ToldBy kept Quietly state ahead (go x)) → ToldBy kept Quietly state ahead (first >>= go)
quiet_then state ahead go (quiet_answer one) more = more one
quiet_then state ahead go (quiet_refusal why quiet) more = tells_refusal why quiet

pub then_answer : {A B : Type 0} {kept : CxxState → CxxState → Type 0} (state : CxxState) (t : CxxState) (ahead : Ahead) {first : Answer (A × CxxState)} (go : A × CxxState → Answer (B × CxxState)) → ToldBy IsLater Quietly t ahead first → ((x : A × CxxState) → first ≡ Ok x → IsLater t x.1 → ToldBy kept Quietly state ahead (go x)) → ToldBy kept Quietly state ahead (first >>= go)
then_answer state t ahead go (tells_answer one later) more = more one refl later
then_answer state t ahead go (tells_refusal why quiet) more = tells_refusal why quiet

abbrev AreAdded : Answer (ℕ × CxxState) → Answer (ℕ × CxxState) → Type 0
AreAdded one two = one ≡ two

pub added_is : (fact : CxxFact) (state : CxxState) (answer : ℕ × CxxState) → added fact state ≡ Ok answer → answer.1 ≡ with_fact fact state
unfolding added
added_is fact state answer e = by (nat_eq (length state.graph.facts + length state.graph.classes) most_facts) e
  where
    by : (b : Bool) → AreAdded (if b then Err (Limited Facts) else Ok (length state.graph.facts, with_fact fact state)) (Ok answer) → answer.1 ≡ with_fact fact state
    by true e = absurd cc
    by false e = sym (ap (λ (a : ℕ × CxxState). a.1) (same e))
      where
        same : AreAdded (Ok (length state.graph.facts, with_fact fact state)) (Ok answer) → (length state.graph.facts, with_fact fact state) ≡ answer
        same e = cc

-- a declaration of a namespace in the scope that holds it
space_may : (state : CxxState) (name : CxxName) (place : Place) (inner : ℕ) → (InScopes state → IsRound state.here.scope state.graph inner) → MayBeAdded state (space_fact state name place inner)
space_may state name place inner round is = record {
  sound = (round is).within;
  placed = λ other e. inl (ap (round_of state.graph.facts) (sym (same_Some inner other e)) ∙ (round is).round);
}

-- ---- by a name

-- the namespace that is opened again stands where the reader does
original_round : (state : CxxState) (name : CxxName) (all : List Numbered) (inner : ℕ) → opened_among state.graph state.here.scope name all ≡ Some inner → InScopes state → IsRound state.here.scope state.graph inner
original_round state name [] inner e is = absurd cc
original_round state name (one ∷ others) inner e is = by (space_in one.fact.what) e (λ later. original_round state name others inner later is)
  where
    both : (a b : Bool) → (a && b) ≡ true → a ≡ true
    both true b e = refl
    both false b e = absurd cc

    held : (n : ℕ) (first : CxxFact) → first_opening n state.graph.facts ≡ Some first → is_original_by state.here.scope name (Some first) ≡ true → IsRound state.here.scope state.graph n
    held n first opened original = record {
      within = opened_within state.graph.facts n first is.sound opened;
      round = is.opened n first opened ∙ eqb-true first.scope state.here.scope (both (nat_eq first.scope state.here.scope) (same_name first.name name) original);
    }

    first_of : (n : ℕ) (o : Option CxxFact) → first_opening n state.graph.facts ≡ o → is_original_by state.here.scope name o ≡ true → IsRound state.here.scope state.graph n
    first_of n None opened original = absurd cc
    first_of n (Some first) opened original = held n first opened original

    chosen : (n : ℕ) (b : Bool) → is_original_by state.here.scope name (first_opening n state.graph.facts) ≡ b → (if b then Some n else opened_among state.graph state.here.scope name others) ≡ Some inner → (opened_among state.graph state.here.scope name others ≡ Some inner → IsRound state.here.scope state.graph inner) → IsRound state.here.scope state.graph inner
    chosen n true original e later = subst (IsRound state.here.scope state.graph) (same_Some n inner e) (first_of n (first_opening n state.graph.facts) refl original)
    chosen n false original e later = later e

    by : (o : Option ℕ) → original_by state.graph state.here.scope name o (opened_among state.graph state.here.scope name others) ≡ Some inner → (opened_among state.graph state.here.scope name others ≡ Some inner → IsRound state.here.scope state.graph inner) → IsRound state.here.scope state.graph inner
    by None e later = later e
    by (Some n) e later = chosen n (is_original_by state.here.scope name (first_opening n state.graph.facts)) refl e later

-- a new one, of any kind
abbrev pub scope_here : ScopeKind → CxxState → Place → CxxFact
scope_here kind state place = fact_here state unnamed place (facts.scope (Some (scope_id state.here.scope)) kind)

pub scope_round : (kind : ScopeKind) (state : CxxState) (place : Place) → IsRound state.here.scope (with_fact (scope_here kind state place) state).graph (scope_count state.graph)
scope_round kind state place =
    let all = state.graph.facts in
    let last = scope_here kind state place in
    let beside = scopes_beside all (last ∷ []) in
    let counted = scopes_counted all in
    let more = ap (λ (fs : List CxxFact). length fs) beside in
    let count = length-append (scope_facts all) (last ∷ []) in
    record {
      within = omega (arith, more, count, counted);
      round = ap (scope_of_option (scope_count state.graph)) (ap (λ (fs : List CxxFact). slice_get fs (scope_count state.graph)) beside ∙ (ap (slice_get (scope_facts all ++ last ∷ [])) counted ∙ last_there (scope_facts all) last));
    }
  where
    last_there : (xs : List CxxFact) (x : CxxFact) → slice_get (xs ++ x ∷ []) (length xs) ≡ Some x
    last_there [] x = refl
    last_there (y ∷ ys) x = last_there ys x

new_round : (state : CxxState) (place : Place) → IsRound state.here.scope (with_fact (new_space state place) state).graph (scope_count state.graph)
new_round state place = scope_round scope_kind.Space state place

new_later : (state : CxxState) (place : Place) (ahead : Ahead) → ToldBy IsLater Quietly state ahead (added (new_space state place) state)
new_later state place ahead = added_tells (new_space state place) state ahead refl (may_be_added state (new_space state place) refl tt)

open_again_tells : (name : Lexeme) (inner : ℕ) (state : CxxState) (ahead : Ahead) → (InScopes state → IsRound state.here.scope state.graph inner) → ToldBy InSpace Quietly state ahead (open_again name inner state)
unfolding open_again
open_again_tells name inner state ahead round =
    let fact = space_fact state (spelled name.spelling) name.place inner in
    quiet_then state ahead _ (free_quiet state fact name.spelling) (λ is_free.
    then_answer state state ahead _ (added_tells fact state ahead refl (space_may state (spelled name.spelling) name.place inner round)) (λ answer is later.
    tells_answer (within inner answer) (stands_in state answer.1 inner later (λ is. round_grown state.here.scope state answer.1 inner later.grown (round is)))))

-- behind a new scope
behind_new : (state : CxxState) (ahead : Ahead) (name : CxxName) (place : Place) → IsLater state (with_fact (new_space state place) state)
    → ToldBy InSpace Quietly state ahead (added (space_fact state name place (scope_count state.graph)) (with_fact (new_space state place) state) >>= λ answer. Ok (within (scope_count state.graph) answer))
behind_new state ahead name place first =
    let between = with_fact (new_space state place) state in
    let inner = scope_count state.graph in
    then_answer state between ahead _ (added_tells (space_fact state name place inner) between ahead refl (space_may between name place inner (λ is. new_round state place))) (λ answer is later.
    tells_answer (within inner answer) (stands_in state answer.1 inner (later_is_kept.later state between answer.1 first later) (λ is. round_grown state.here.scope between answer.1 inner later.grown (new_round state place))))

open_new_tells : (name : Lexeme) (state : CxxState) (ahead : Ahead) → ToldBy InSpace Quietly state ahead (open_new name state)
unfolding open_new
open_new_tells name state ahead =
    quiet_then state ahead _ (free_quiet state (space_fact state (spelled name.spelling) name.place (scope_count state.graph)) name.spelling) (λ is_free.
    then_answer state state ahead _ (new_later state name.place ahead) (λ opened is later.
    let same = added_is (new_space state name.place) state opened is in
    subst (λ (t : CxxState). ToldBy InSpace Quietly state ahead (added (space_fact state (spelled name.spelling) name.place (scope_count state.graph)) t >>= λ answer. Ok (within (scope_count state.graph) answer))) (sym same)
    (behind_new state ahead (spelled name.spelling) name.place (subst (IsLater state) same later))))

pub open_space_tells : (name : Lexeme) (state : CxxState) (ahead : Ahead) → ToldBy InSpace Quietly state ahead (open_space name state)
unfolding open_space opened_before
open_space_tells name state ahead = by (opened_among state.graph state.here.scope (spelled name.spelling) (declared_in state.graph state.here.scope (spelled name.spelling))) refl
  where
    by : (o : Option ℕ) → opened_among state.graph state.here.scope (spelled name.spelling) (declared_in state.graph state.here.scope (spelled name.spelling)) ≡ o → ToldBy InSpace Quietly state ahead (open_by name o state)
    by None is = open_new_tells name state ahead
    by (Some inner) is = open_again_tells name inner state ahead (original_round state (spelled name.spelling) (declared_in state.graph state.here.scope (spelled name.spelling)) inner is)

-- ---- without a name (7.3.1.1)

record IsUnnamed (scope : ℕ) (all : List CxxFact) (inner : ℕ) : Type 0 where
  number : ℕ
  fact : CxxFact
  stands : slice_get all number ≡ Some fact
  scope_is : fact.scope ≡ scope
  no_name : has_name fact.name ≡ false
  space : space_in fact.what ≡ Some inner

unnamed_found : (scope : ℕ) (all : List CxxFact) (inner : ℕ) → unnamed_among scope all ≡ Some inner → IsUnnamed scope all inner
unnamed_found scope [] inner e = absurd cc
unnamed_found scope (fact ∷ others) inner e = by (nat_eq fact.scope scope) refl (has_name fact.name) refl (space_in fact.what) refl e (λ later. further (unnamed_found scope others inner later))
  where
    further : IsUnnamed scope others inner → IsUnnamed scope (fact ∷ others) inner
    further one = record { number = suc one.number; fact = one.fact; stands = one.stands; scope_is = one.scope_is; no_name = one.no_name; space = one.space }

    by : (here : Bool) → nat_eq fact.scope scope ≡ here → (named : Bool) → has_name fact.name ≡ named → (o : Option ℕ) → space_in fact.what ≡ o → (if here && not named then or_later o (unnamed_among scope others) else unnamed_among scope others) ≡ Some inner → (unnamed_among scope others ≡ Some inner → IsUnnamed scope (fact ∷ others) inner) → IsUnnamed scope (fact ∷ others) inner
    by true here false named (Some n) space e later = record { number = 0; fact = fact; stands = refl; scope_is = eqb-true fact.scope scope here; no_name = named; space = space ∙ e }
    by true here false named None space e later = later e
    by true here true named o space e later = later e
    by false here named is o space e later = later e

unnamed_round : (state : CxxState) (inner : ℕ) → unnamed_among state.here.scope state.graph.facts ≡ Some inner → InScopes state → IsRound state.here.scope state.graph inner
unnamed_round state inner e is =
    let one = unnamed_found state.here.scope state.graph.facts inner e in
    record {
      within = space_within state.graph.facts one.fact.what inner (is.sound one.number one.fact one.stands) one.space;
      round = is.unnamed one.number inner one.fact one.stands one.no_name one.space ∙ one.scope_is;
    }

-- in a state that has its scope
declared_unnamed : (old state : CxxState) (ahead : Ahead) (place : Place) (inner : ℕ) → IsLater old state → state.here.scope ≡ old.here.scope → (InScopes state → IsRound state.here.scope state.graph inner) → ToldBy InSpace Quietly old ahead (declare_unnamed place inner state)
unfolding declare_unnamed
declared_unnamed old state ahead place inner before here round =
    then_answer old state ahead _ (added_tells (space_fact state unnamed place inner) state ahead refl (space_may state unnamed place inner round)) (λ named is first.
    let same = added_is (space_fact state unnamed place inner) state named is in
    then_answer old named.1 ahead _ (added_tells (directive_fact state place inner) named.1 ahead (sym (ap (λ (t : CxxState). t.here.scope) same)) (may_be_added named.1 (directive_fact state place inner) refl tt)) (λ nominated is second.
    let later = later_is_kept.later state named.1 nominated.1 first second in
    tells_answer (within inner nominated) (stands_in old nominated.1 inner (later_is_kept.later old state nominated.1 before later) (λ is. round_grown old.here.scope state nominated.1 inner later.grown (subst (λ (n : ℕ). IsRound n state.graph inner) here (round (before.scopes is)))))))

new_unnamed_tells : (place : Place) (state : CxxState) (ahead : Ahead) → ToldBy InSpace Quietly state ahead (new_unnamed place state)
unfolding new_unnamed
new_unnamed_tells place state ahead =
    then_answer state state ahead _ (new_later state place ahead) (λ opened is later.
    let same = added_is (new_space state place) state opened is in
    subst (λ (t : CxxState). ToldBy InSpace Quietly state ahead (declare_unnamed place (scope_count state.graph) t)) (sym same)
    (declared_unnamed state (with_fact (new_space state place) state) ahead place (scope_count state.graph) (subst (IsLater state) same later) refl (λ is. new_round state place)))

pub open_unnamed_tells : (place : Place) (state : CxxState) (ahead : Ahead) → ToldBy InSpace Quietly state ahead (open_unnamed place state)
unfolding open_unnamed unnamed_before
open_unnamed_tells place state ahead = by (unnamed_among state.here.scope state.graph.facts) refl
  where
    by : (o : Option ℕ) → unnamed_among state.here.scope state.graph.facts ≡ o → ToldBy InSpace Quietly state ahead (unnamed_opened place o state)
    by None is = new_unnamed_tells place state ahead
    by (Some inner) is = declared_unnamed state state ahead place inner (later_is_kept.same state) refl (unnamed_round state inner is)
