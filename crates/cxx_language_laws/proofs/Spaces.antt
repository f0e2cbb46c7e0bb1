-- What namespaces' other names, using-declarations and directives keep of the state, and what stops them (7.3.2, 7.3.3,
-- 7.3.4, 3.4.6).
use Rattle.std.proofs.Common.{arith, ◌≡◌, inr, ◌∙◌, refl, sym, ap, subst}
use Rattle.std.specs.Prelude.{ℕ, ◌<◌, length, Bool, true, false, if◌then◌else◌, List, [], ◌∷◌, Option, Some, None, Ok, Err}
use Rattle.std.specs.List.{AllByRecursion}
use Rattle.std.proofs.lemmas.List.{length-append}
use Rattle.std.proofs.lemmas.Option.{same_Some}
use Rattle.cxx_model.specs.declared.keyword.TheConstants as keyword
use Rattle.cxx_model.specs.declared.lookup.Found.{Found}
use Rattle.cxx_model.specs.declared.lookup.Found.TheVariants as sought
use Rattle.cxx_model.specs.declared.place.Place.{Place}
use Rattle.cxx_model.specs.declared.punct.TheConstants as punct
use Rattle.cxx_model.specs.declared.types.FactId.{FactId}
use Rattle.cxx_model.specs.declared.types.ScopeId.{ScopeId}
use Rattle.cxx_model.specs.Facts.Conflicts.{scope_facts}
use Rattle.cxx_model.specs.Facts.Declarations.{CxxFact, spelled}
use Rattle.cxx_model.specs.Stops.{Answer, Stopped, ◌>>=◌ as then_answer}
use Rattle.cxx_model.specs.Text.Lexemes.{Lexeme}
use Rattle.cxx_meaning.specs.Lookups.Qualified.{brought_by, sightings_of}
use Rattle.cxx_meaning.specs.Lookups.Sightings.{Sighting, entities}
use Rattle.cxx_meaning.specs.Lookups.Wanted.{any_name, namespaces_only}
use Rattle.cxx_reading.specs.declared.region.Region.{Region}
use Rattle.cxx_reading.specs.declared.region.Region.TheVariants as region
use Rattle.cxx_reading.specs.Declaring.{added, declare}
use Rattle.cxx_reading.specs.Paths.{first_space, name_in, sought_in, space_region_of, using_region_of}
use Rattle.cxx_reading.specs.Productions as production
use Rattle.cxx_reading.specs.Reads.{Ahead, Got, Reads, ◌>>=◌, then_read, answered, ask, give, got, tokens, kind_ahead, behind}
use Rattle.cxx_reading.specs.Seen.{Numbered, fact_numbers, numbered_at, set_in}
use Rattle.cxx_reading.specs.Spaces.{declare_alias, declare_directive, directive_fact, first_opening, space_by, space_fact, space_found, space_here, told}
use Rattle.cxx_reading.specs.State.{CxxState}
use Rattle.cxx_reading.specs.Tokens.{begins_name, behind_name, is_keyword, is_plain_name, is_punct, is_unbuilt_part, lacks_first_part, is_whole_name, no_part_there, not_built, path_ahead, path_taken, punct_taken, refused}
use Rattle.cxx_reading.specs.Trees.{CxxPath, CxxPathPart, CxxTree}
use Rattle.cxx_reading.specs.Usings.{bring_all, bring_each, bring_found, bring_here, brought_in, space_among, using_fact}
use Rattle.cxx_language.specs.Spaces.{NamedSpace, alias_at, alias_or_not, brought_name_at, directive_at, give_part, named_space, part_tree, space_name_at, using_at, using_declaration_at}
use Rattle.cxx_language_laws.specs.Best.{IsClear}
use Rattle.cxx_language_laws.specs.Stopping.{Leads, Part, a_using, an_alias}
use Rattle.cxx_language_laws.specs.Told.{EndsIn, IsGrown}
use Rattle.cxx_language_laws.proofs.Later.{IsLater, MayBeAdded, added_behind, added_tells, by_answer, by_then, calm_by, declare_tells, free_quiet, later_is_quiet, may_be_added}
use Rattle.cxx_language_laws.proofs.Outward.{OfNumber}
use Rattle.cxx_language_laws.proofs.Reached.{Told, later_is_told}
use Rattle.cxx_language_laws.proofs.Regions.{ClearOr, IsLastIn, IsOfSpace, IsSpaceOf, by_space_region, by_using_region, clear_or, is_clear, is_twain, last_ahead, last_there, nothing_last, set_space, space_region_told, two_found, twofold_in, unknown_in, using_region_inside, using_region_told}
use Rattle.cxx_language_laws.proofs.Scopes.{InScopes, MayStand, may_stand, opened_within}
use Rattle.cxx_language_laws.proofs.Sought.{IsThere, brought_there, no_member_inside, fitting, no_space_sought}
use Rattle.cxx_language_laws.proofs.Stopping.{Inside, Stops, calm, innermost_stops, leads_in, later_here, which_in}
use Rattle.cxx_language_laws.proofs.Tells.{IsTold, Quietly, ToldBy, tells_answer, tells_refusal, ToldIn, tells_stop, Tells, ask_from, ask_in, behind_stands, ends_later, from_in, give_in, if_in, looked_in, name_stands, path_then, punct_in, quiet_in, taken_in, then_in, tokens_in, unit_is_told}

-- ---- the names of namespaces (3.4.6)

-- what is answered to the question of a namespace, in the state in which it is asked
data SpaceAnswered (state : CxxState) (ahead : Ahead) : Answer (ℕ × CxxState) → Type 0 where
  space_answered : (inner : ℕ) → IsSpaceOf state.graph inner → SpaceAnswered state ahead (Ok (inner, state))
  space_refused : (why : Stopped) → Told state ahead why → SpaceAnswered state ahead (Err why)

space_unknown : (state : CxxState) (ahead : Ahead) → begins_name ahead ≡ true → is_whole_name ahead ≡ true → (where_ : Region) → space_region_of state.graph state.here.scope (path_ahead ahead) ≡ Ok where_ → (x : Found) → sought_in state.graph namespaces_only where_ (name_in (path_ahead ahead)) ≡ x → IsClear x → (o : Option ℕ) → first_space (set_in state.graph x) ≡ o
    → SpaceAnswered state ahead (space_by (last_ahead ahead) o state)
space_unknown state ahead begins whole where_ means x is clear (Some inner) e = space_answered inner (set_space state.graph x inner e)
space_unknown state ahead begins whole where_ means x is clear None e = space_refused _ (unknown_in namespaces_only tt state ahead begins whole where_ last (λ scopes. no_space_sought state.graph where_ (name_in (path_ahead ahead)) (fitting state scopes) (last_there state (path_ahead ahead) where_ scopes last) x is clear e))
  where
    last : IsLastIn state.graph state.here.scope (path_ahead ahead) where_
    last = by_space_region state.graph state.here.scope (path_ahead ahead) where_ means

space_found_so : (state : CxxState) (ahead : Ahead) → begins_name ahead ≡ true → is_whole_name ahead ≡ true → (where_ : Region) → space_region_of state.graph state.here.scope (path_ahead ahead) ≡ Ok where_ → (x : Found) → sought_in state.graph namespaces_only where_ (name_in (path_ahead ahead)) ≡ x → SpaceAnswered state ahead (space_found (last_ahead ahead) x state)
space_found_so state ahead begins whole where_ means x is = by (clear_or state.graph (last_ahead ahead) x)
  where
    by : {r : Answer (Unit {0})} → ClearOr state.graph (last_ahead ahead) x r → SpaceAnswered state ahead (then_answer r (λ clear. space_by (last_ahead ahead) (first_space (set_in state.graph x)) state))
    by (is_clear clear) = space_unknown state ahead begins whole where_ means x is clear (first_space (set_in state.graph x)) refl
    by (is_twain why two) = space_refused why (twofold_in namespaces_only tt state ahead begins whole where_ (by_space_region state.graph state.here.scope (path_ahead ahead) where_ means) x why two is)

space_here_so : (state : CxxState) (ahead : Ahead) → begins_name ahead ≡ true → is_whole_name ahead ≡ true → SpaceAnswered state ahead (space_here (path_ahead ahead) state)
unfolding space_here
space_here_so state ahead begins whole = by (space_region_of state.graph state.here.scope (path_ahead ahead)) refl
  where
    by : (o : Answer Region) → space_region_of state.graph state.here.scope (path_ahead ahead) ≡ o → SpaceAnswered state ahead (then_answer o (λ where_. space_found (last_ahead ahead) (sought_in state.graph namespaces_only where_ (name_in (path_ahead ahead))) state))
    by (Ok where_) means = space_found_so state ahead begins whole where_ means (sought_in state.graph namespaces_only where_ (name_in (path_ahead ahead))) refl
    by (Err why) e = space_refused why (space_region_told state ahead begins whole why e)

-- ---- a name that is read

data SpaceRead (state : CxxState) (ahead : Ahead) : Answer (Got CxxState NamedSpace) → Type 0 where
  space_read : (one : Got CxxState NamedSpace) → IsLater state one.state → EndsIn ahead.tokens one.rest.tokens → IsSpaceOf one.state.graph one.value.inner → SpaceRead state ahead (Ok one)
  space_stops : (why : Stopped) → Told state ahead why → SpaceRead state ahead (Err why)

named_space_read : (state : CxxState) (ahead rest : Ahead) (place : Place) → EndsIn ahead.tokens rest.tokens → {r : Answer (ℕ × CxxState)} → SpaceAnswered state ahead r → SpaceRead state ahead (then_read (answered r rest) (λ inner. give (record { place = place; inner = inner })))
named_space_read state ahead rest place stands (space_answered inner is) = space_read (record { value = record { place = place; inner = inner }; state = state; rest = rest }) (later_here state) stands is
named_space_read state ahead rest place stands (space_refused why told) = space_stops why told

space_quiet : {state : CxxState} {ahead : Ahead} (why : Stopped) → Quietly {S = CxxState} state ahead why → SpaceRead state ahead (Err why)
space_quiet {state = state} {ahead = ahead} why quiet = space_stops why (later_is_told.quiet state ahead why quiet)

space_name_read : (state : CxxState) (ahead : Ahead) → SpaceRead state ahead (space_name_at state ahead)
unfolding space_name_at path_taken no_part_there
space_name_read state ahead = by (begins_name ahead) refl
  where
    no_part : (b : Bool) → SpaceRead state ahead (then_read (if b then not_built state (behind_name ahead) else refused state (behind_name ahead)) named_space)
    no_part true = space_quiet _ refl
    no_part false = space_quiet _ refl

    whole : (b : Bool) → is_whole_name ahead ≡ b → begins_name ahead ≡ true → SpaceRead state ahead (then_read (if b then got (path_ahead ahead) state (behind_name ahead) else no_part_there (lacks_first_part ahead) state (behind_name ahead)) named_space)
    whole true is begins = named_space_read state ahead (behind_name ahead) (last_ahead ahead).place (name_stands ahead) (space_here_so state ahead begins is)
    whole false is begins = no_part (is_unbuilt_part (lacks_first_part ahead) (kind_ahead (behind_name ahead)))

    by : (b : Bool) → begins_name ahead ≡ b → SpaceRead state ahead (if b then (path_taken >>= named_space) state ahead else refused state ahead)
    by true begins = whole (is_whole_name ahead) refl begins
    by false begins = space_quiet _ refl

-- what follows it
then_space : {B : Type 0} {state : CxxState} {ahead : Ahead} {r : Answer (Got CxxState NamedSpace)} {go : NamedSpace → Reads CxxState B} → SpaceRead state ahead r
    → ((space : NamedSpace) (t : CxxState) (rest : Ahead) → IsSpaceOf t.graph space.inner → ToldIn IsLater Told t rest (go space t rest)) → ToldIn IsLater Told state ahead (then_read r go)
then_space {state = state} {ahead = ahead} (space_read one later stands is) second = from_in later_is_told state one.state ahead one.rest later stands (second one.value one.state one.rest is)
then_space (space_stops why told) second = tells_stop why told

-- ---- aliases and directives

alias_may : (state : CxxState) (name : Lexeme) (inner : ℕ) → IsSpaceOf state.graph inner → MayBeAdded state (space_fact state (spelled name.spelling) name.place inner)
alias_may state name inner is scopes = record {
  sound = opened_within state.graph.facts inner is.0 scopes.sound is.1;
  placed = λ other e. inr (record { named = refl; first = is.0; opened = ap (λ (n : ℕ). first_opening n state.graph.facts) (sym (same_Some inner other e)) ∙ is.1 });
}

alias_answer_tells : (name : Lexeme) (inner : ℕ) (state : CxxState) (ahead : Ahead) → IsSpaceOf state.graph inner → ToldBy IsLater Quietly state ahead (declare_alias name inner state)
unfolding declare_alias
alias_answer_tells name inner state ahead is = by_answer state ahead _ (declare_tells (space_fact state (spelled name.spelling) name.place inner) name.spelling state ahead refl (alias_may state name inner is)) (λ answer later. tells_answer (told answer) later)

directive_answer_tells : (place : Place) (inner : ℕ) (state : CxxState) (ahead : Ahead) → ToldBy IsLater Quietly state ahead (declare_directive place inner state)
unfolding declare_directive
directive_answer_tells place inner state ahead = by_answer state ahead _ (added_tells (directive_fact state place inner) state ahead refl (may_be_added state (directive_fact state place inner) refl tt)) (λ answer later. tells_answer (told answer) later)

give_part_tells : (number : ℕ) (from : Ahead) (inside : List CxxTree) → Tells IsLater Told (give_part number from inside)
give_part_tells number from inside state ahead = then_in later_is_told (looked_in later_is_told state ahead) (λ to. give_in later_is_told (part_tree number inside from to))

alias_tells : (from : Ahead) (name : Lexeme) → Tells IsLater Told (alias_at from name)
unfolding alias_at
alias_tells from name state ahead =
    then_in later_is_told (taken_in later_is_told state ahead) (λ equals state ahead.
    then_space {go = λ space. ask (declare_alias name space.inner) >>= λ declared. tokens (punct_taken punct.SEMICOLON) >>= λ ended. give_part production.namespace_alias from []} (space_name_read state ahead) (λ space state ahead is.
    then_in later_is_told (ask_in ahead (calm_by later_is_told (alias_answer_tells name space.inner state ahead is))) (λ declared state ahead.
    then_in later_is_told (tokens_in later_is_told (punct_in unit_is_told punct.SEMICOLON) state ahead) (λ ended. give_part_tells production.namespace_alias from []))))

directive_tells : Tells IsLater Told directive_at
unfolding directive_at
directive_tells state ahead =
    then_in later_is_told (looked_in later_is_told state ahead) (λ from state ahead.
    then_in later_is_told (taken_in later_is_told state ahead) (λ using state ahead.
    then_in later_is_told (taken_in later_is_told state ahead) (λ word state ahead.
    then_space {go = λ space. ask (declare_directive space.place space.inner) >>= λ declared. tokens (punct_taken punct.SEMICOLON) >>= λ ended. give_part production.using_directive from []} (space_name_read state ahead) (λ space state ahead is.
    then_in later_is_told (ask_in ahead (calm_by later_is_told (directive_answer_tells space.place space.inner state ahead))) (λ declared state ahead.
    then_in later_is_told (tokens_in later_is_told (punct_in unit_is_told punct.SEMICOLON) state ahead) (λ ended. give_part_tells production.using_directive from []))))))

-- ---- using-declarations (7.3.3)

-- what is declared behind a state, in which the targets are declared
pub declared_behind : (s t : CxxState) (ahead : Ahead) (fact : CxxFact) (word : List ℕ) → IsLater s t → fact.scope ≡ t.here.scope → (InScopes s → MayStand t.graph.facts fact) → ToldBy IsLater Quietly s ahead (declare fact word t)
unfolding declare
declared_behind s t ahead fact word later here may = by_then s ahead (λ is_free. added fact t) (free_quiet t fact word) (λ is_free. added_behind s t ahead fact later (λ is. subst (λ (n : ℕ). n < length (scope_facts t.graph.facts)) (sym here) (later.scopes is).within) may)

-- what there is among some facts, there is among more
pub still_there : (s t : CxxState) (number : ℕ) → IsGrown s t → IsThere s.graph number → IsThere t.graph number
still_there s t number grown there =
    let all = ap (λ (fs : List CxxFact). length fs) grown.declared in
    let more = length-append s.graph.facts grown.own in
    omega (arith, all, more, there)

bring_each_tells : (s t : CxxState) (ahead : Ahead) (part : CxxPathPart) (targets : List FactId) → IsLater s t → (InScopes s → AllByRecursion (OfNumber (IsThere s.graph)) targets) → ToldBy IsLater Quietly s ahead (bring_each part targets t)
unfolding bring_each
bring_each_tells s t ahead part [] later there = tells_answer (tt, t) later
bring_each_tells s t ahead part (target ∷ others) later there =
    by_answer s ahead _ (declared_behind s t ahead (using_fact t part target) part.word later refl (λ is. may_stand t.graph.facts (using_fact t part target) refl (still_there s t target.0 later.grown (there is).0)))
    (λ answer more. bring_each_tells s answer.1 ahead part others more (λ is. (there is).1))

bring_all_tells : (state : CxxState) (ahead : Ahead) (part : CxxPathPart) (targets : List FactId) → (InScopes state → AllByRecursion (OfNumber (IsThere state.graph)) targets) → (space : Option Numbered) → ToldBy IsLater Quietly state ahead (bring_all part targets space state)
bring_all_tells state ahead part targets there (Some one) = tells_refusal _ refl
bring_all_tells state ahead part targets there None = bring_each_tells state state ahead part targets (later_here state) there

-- in a namespace
brought_tells : (state : CxxState) (ahead : Ahead) → begins_name ahead ≡ true → is_whole_name ahead ≡ true → (space : ScopeId) → using_region_of state.graph state.here.scope (path_ahead ahead) ≡ Ok (region.Inside space)
    → ToldBy IsLater Told state ahead (bring_found (last_ahead ahead) (brought_in state.graph (region.Inside space) (name_in (path_ahead ahead))) state)
unfolding brought_in sought_in
brought_tells state ahead begins whole space means = by (sought_in state.graph any_name (region.Inside space) (name_in (path_ahead ahead))) refl
  where
    last : IsLastIn state.graph state.here.scope (path_ahead ahead) (region.Inside space)
    last = by_using_region state.graph state.here.scope (path_ahead ahead) (region.Inside space) means

    sightings : List Sighting
    sightings = sightings_of state.graph (length state.graph.facts) any_name (name_in (path_ahead ahead)) space

    by : (x : Found) → sought_in state.graph any_name (region.Inside space) (name_in (path_ahead ahead)) ≡ x → ToldBy IsLater Told state ahead (bring_found (last_ahead ahead) (brought_by x sightings) state)
    by (sought.Ambiguous one two) is = tells_refusal _ (twofold_in any_name tt state ahead begins whole (region.Inside space) last (sought.Ambiguous one two) _ (two_found one two) is)
    by (sought.Set all) is = calm_by later_is_told (bring_all_tells state ahead (last_ahead ahead) (entities sightings) (λ scopes. brought_there state.graph space (name_in (path_ahead ahead)) (fitting state scopes)) (space_among (numbered_at state.graph (fact_numbers (entities sightings)))))
    by (sought.Member class found) is = absurd (no_member_inside state.graph any_name space (name_in (path_ahead ahead)) class found is)
    by sought.Empty is = tells_refusal _ (nothing_last any_name tt state ahead begins whole (region.Inside space) last sought.Empty is tt refl)

bring_tells : (state : CxxState) (ahead : Ahead) → begins_name ahead ≡ true → is_whole_name ahead ≡ true → is_plain_name ahead ≡ false → ToldBy IsLater Told state ahead (bring_here (path_ahead ahead) state)
unfolding bring_here
bring_tells state ahead begins whole plain = by (using_region_of state.graph state.here.scope (path_ahead ahead)) refl
  where
    inside : (where_ : Region) → IsOfSpace where_ → using_region_of state.graph state.here.scope (path_ahead ahead) ≡ Ok where_ → ToldBy IsLater Told state ahead (bring_found (last_ahead ahead) (brought_in state.graph where_ (name_in (path_ahead ahead))) state)
    inside (region.Inside space) is means = brought_tells state ahead begins whole space means
    inside (region.Outward scope) is means = absurd is
    inside (region.Class class) is means = absurd is

    by : (o : Answer Region) → using_region_of state.graph state.here.scope (path_ahead ahead) ≡ o → ToldBy IsLater Told state ahead (then_answer o (λ where_. bring_found (last_ahead ahead) (brought_in state.graph where_ (name_in (path_ahead ahead))) state))
    by (Ok where_) means = inside where_ (using_region_inside state.graph state.here.scope ahead where_ begins whole plain means) means
    by (Err why) e = tells_refusal why (using_region_told state ahead begins whole why e)

-- what follows its name
pub brought_then : {B : Type 0} {told : CxxState → Ahead → Stopped → Type 0} → IsTold IsLater told → (go : CxxPath → Reads CxxState B) (state : CxxState) (ahead : Ahead) → (begins_name ahead ≡ true → is_whole_name ahead ≡ true → is_plain_name ahead ≡ false → ToldIn IsLater told state ahead (go (path_ahead ahead) state (behind_name ahead)))
    → ToldIn IsLater told state ahead (then_read (brought_name_at state ahead) go)
unfolding brought_name_at
brought_then {told = told} is go state ahead tells = by (begins_name ahead) refl (is_plain_name ahead) refl (is_keyword keyword.TYPENAME (kind_ahead ahead))
  where
    by : (b : Bool) → begins_name ahead ≡ b → (c : Bool) → is_plain_name ahead ≡ c → (d : Bool) → ToldIn IsLater told state ahead (then_read (if b then (if c then refused state (behind ahead) else path_taken state ahead) else (if d then not_built state ahead else refused state ahead)) go)
    by true begins true plain d = quiet_in is refl
    by true begins false plain d = path_then is go state ahead (λ whole. tells begins whole plain)
    by false begins c plain true = quiet_in is refl
    by false begins c plain false = quiet_in is refl

using_declaration_tells : Tells IsLater Told using_declaration_at
unfolding using_declaration_at
using_declaration_tells state ahead =
    then_in later_is_told (looked_in later_is_told state ahead) (λ from state ahead.
    then_in later_is_told (taken_in later_is_told state ahead) (λ using state ahead.
    brought_then later_is_told (λ path. ask (bring_here path) >>= λ declared. tokens (punct_taken punct.SEMICOLON) >>= λ ended. give_part production.using_declaration from []) state ahead (λ begins whole plain.
    then_in later_is_told (ask_from (behind_name ahead) (name_stands ahead) (bring_tells state ahead begins whole plain)) (λ declared state ahead.
    then_in later_is_told (tokens_in later_is_told (punct_in unit_is_told punct.SEMICOLON) state ahead) (λ ended. give_part_tells production.using_declaration from [])))))

using_tells : Tells IsLater Told using_at
unfolding using_at
using_tells state ahead = if_in (is_keyword keyword.NAMESPACE (kind_ahead (behind ahead))) (directive_tells state ahead) (using_declaration_tells state ahead)

pub using_stops : (state : CxxState) (ahead : Ahead) → Stops a_using state ahead (using_at state ahead)
using_stops state ahead = innermost_stops tt (λ fault is. is) (using_tells state ahead)

alias_stops : (from : Ahead) (name : Lexeme) (state : CxxState) (ahead : Ahead) → Stops (an_alias from name) state ahead (alias_at from name state ahead)
alias_stops from name state ahead = innermost_stops tt (λ fault is. is) (alias_tells from name state ahead)

-- behind the name
pub alias_or_not_stops : {part : Part} (state : CxxState) (ahead rest from : Ahead) (name : Lexeme) → EndsIn ahead.tokens rest.tokens → (is_punct punct.EQUALS (kind_ahead (behind rest)) ≡ true → Leads part state ahead (an_alias from name) state (behind rest)) → Inside part state ahead (alias_or_not from name state (behind rest))
alias_or_not_stops state ahead rest from name stands leads =
    which_in (is_punct punct.EQUALS (kind_ahead (behind rest))) (λ equals. leads_in (leads equals) (later_here state) (ends_later ahead.tokens rest.tokens (behind rest).tokens stands (behind_stands rest)) (alias_stops from name state (behind rest))) (λ none. calm (quiet_in later_is_quiet refl))
