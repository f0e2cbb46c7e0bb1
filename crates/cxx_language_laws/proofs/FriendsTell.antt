-- What friends of a class keep of the state, and what stops them (11.4): the reader stands in the scope of the class again.
use Rattle.std.proofs.Common.{arith, ◌≡◌, refl}
use Rattle.std.specs.Prelude.{ℕ, ◌<◌, Bool, true, not, ◌||◌, length, List, [], ◌∷◌, Option, Some, None, Ok, Err}
use Rattle.std.specs.List.{find}
use Rattle.cxx_model.specs.declared.lookup.Found.{Found}
use Rattle.cxx_model.specs.declared.place.Place.{Place}
use Rattle.cxx_model.specs.declared.types.ClassId.{ClassId}
use Rattle.cxx_model.specs.declared.types.Cv.{Cv}
use Rattle.cxx_model.specs.declared.types.ScopeId.{ScopeId}
use Rattle.cxx_model.specs.Facts.Conflicts.{scope_facts}
use Rattle.cxx_model.specs.Facts.Declarations.{CxxFact, spelled}
use Rattle.cxx_model.specs.Facts.Entities.{is_space}
use Rattle.cxx_model.specs.Stops.{Answer, ◌>>=◌, undeclared_at}
use Rattle.cxx_model.specs.Text.Lexemes.{Lexeme}
use Rattle.cxx_model.specs.Types.Trees.{CxxType}
use Rattle.cxx_meaning.specs.Lookups.Scopes.{chain, first_space, home, kind_of}
use Rattle.cxx_meaning.specs.Lookups.Wanted.{types_only}
use Rattle.cxx_reading.specs.declared.region.Region.{Region}
use Rattle.cxx_reading.specs.Classes.{ClassNamed, class_count, class_fact, first_class, is_of_key}
use Rattle.cxx_reading.specs.Declaring.{at_scope, class_of_here}
use Rattle.cxx_reading.specs.Linked.{home_of, scope_id}
use Rattle.cxx_reading.specs.Paths.{name_in, region_of, sought_in}
use Rattle.cxx_reading.specs.Reads.{Ahead}
use Rattle.cxx_reading.specs.Seen.{Numbered, declared_in, set_in}
use Rattle.cxx_reading.specs.State.{CxxState}
use Rattle.cxx_reading.specs.Tokens.{begins_name, is_whole_name, path_ahead}
use Rattle.cxx_reading.specs.Trees.{CxxPathPart, is_plain_path}
use Rattle.cxx_declare.specs.Friends.{befriend, befriend_again, befriend_by, befriend_class, befriend_found, befriend_function, befriend_home, befriend_named, befriend_new, befriend_set, befriend_there, befriended, befriended_all, befriended_as, class_number, friend_fact, is_near, numbered_as}
use Rattle.cxx_language_laws.proofs.Bases.{told_then}
use Rattle.cxx_language_laws.proofs.Classed.{reserved_tells, still_within, up_below}
use Rattle.cxx_language_laws.proofs.Later.{IsLater, added_behind, added_tells, again_tells, by_answer, by_then, calm_by, free_quiet, grown_later, grown_same, later_is_kept, later_is_quiet, may_be_added, same_calls, unread_tells}
use Rattle.cxx_language_laws.proofs.Opened.{then_answer}
use Rattle.cxx_language_laws.proofs.QuestionsTell.{from_by, if_by, quiet_by, same_by}
use Rattle.cxx_language_laws.proofs.Reached.{IsElsewhere, Told, elsewhere_later, later_is_told, returns_later}
use Rattle.cxx_language_laws.proofs.Regions.{last_ahead, nothing_ahead, region_told, unambiguous_tells}
use Rattle.cxx_language_laws.proofs.Scopes.{AreHeld, InScopes, may_stand, scopes_at, scopes_counted}
use Rattle.cxx_language_laws.proofs.Shown.{find_in}
use Rattle.cxx_language_laws.proofs.Tells.{Answers, Quietly, ToldBy, tells_answer, tells_refusal}

-- ---- the innermost namespace round a class (7.3.1)

-- it is a scope that there is
home_below : (all : List CxxFact) (scope : ScopeId) → AreHeld (scope_facts all) → scope.0 < length (scope_facts all) → (home all scope).0 < length (scope_facts all)
unfolding first_space
home_below all scope held within = by (find (λ (one : ScopeId). is_space (kind_of all one)) (chain all scope)) refl
  where
    by : (o : Option ScopeId) → find (λ (one : ScopeId). is_space (kind_of all one)) (chain all scope) ≡ o → (home all scope).0 < length (scope_facts all)
    by None e = rw e (omega (arith, within))
    by (Some one) e = rw e (up_below all held scope.0 scope one within (find_in (λ (one : ScopeId). is_space (kind_of all one)) (chain all scope) one e))

home_within : (state : CxxState) → InScopes state → home_of state.graph state.here.scope < length (scope_facts state.graph.facts)
unfolding home_of
home_within state is = home_below state.graph.facts (scope_id state.here.scope) is.held is.within

-- the reader stands there
at_home : (s state : CxxState) → IsElsewhere s state → IsElsewhere s (at_scope (home_of state.graph state.here.scope) state)
at_home s state elsewhere =
    let home = at_scope (home_of state.graph state.here.scope) state in
    record {
      grown = grown_later s state home elsewhere.grown (grown_same state home refl);
      scopes = λ is. let scopes = elsewhere.scopes is in let counted = scopes_counted state.graph.facts in let within = home_within state scopes in scopes_at (home_of state.graph state.here.scope) state (omega (arith, counted, within)) scopes;
      best = λ all. same_calls state home (grown_same state home refl) refl (elsewhere.best all);
    }

-- ---- what is befriended is noted

befriend_tells : (place : Place) (target : ℕ) → Answers IsLater Quietly (befriend place target)
unfolding befriend
befriend_tells place target state ahead = by (class_of_here state)
  where
    by : (class : Option ClassId) → ToldBy IsLater Quietly state ahead (befriend_by place target class state)
    by None = tells_answer (tt, state) (later_is_kept.same state)
    by (Some class) = let fact = friend_fact state place class target in by_answer state ahead _ (added_tells fact state ahead refl (may_be_added state fact refl tt)) (λ answer later. tells_answer (tt, answer.1) later)

-- where the reader stood when the class was read
noted_tells : (s : CxxState) (ahead : Ahead) (place : Place) (one : ℕ × CxxState) → IsElsewhere s one.1 → ToldBy IsLater Quietly s ahead (befriended s.here.scope place one)
noted_tells s ahead place one elsewhere =
    let back = at_scope s.here.scope one.1 in
    then_answer s back ahead _ (befriend_tells place one.0 back ahead) (λ noted is later. tells_answer (numbered_as one.0 noted) (later_is_kept.later s back noted.1 (returns_later s one.1 elsewhere) later))

-- what is declared elsewhere
declared_befriended : (s t : CxxState) (ahead : Ahead) (place : Place) {first : Answer (ℕ × CxxState)} → IsElsewhere s t → ToldBy IsLater Quietly t ahead first → ToldBy IsLater Quietly s ahead (first >>= befriended s.here.scope place)
declared_befriended s t ahead place elsewhere tells = then_answer s t ahead (befriended s.here.scope place) tells (λ one is later. noted_tells s ahead place one (elsewhere_later s t one.1 elsewhere later))

-- ---- functions

-- 7.3.1.2 p3: one of the innermost namespace
pub function_befriended : (s state : CxxState) (ahead : Ahead) (list : Option ℕ) (name : Lexeme) (of : CxxType) → IsElsewhere s state → ToldBy IsLater Quietly s ahead (befriend_function s.here.scope list name of state)
unfolding befriend_function
function_befriended s state ahead list name of elsewhere =
    let home = at_scope (home_of state.graph state.here.scope) state in
    declared_befriended s home ahead name.place (at_home s state elsewhere) (unread_tells list name of home ahead)

-- 8.3: one that is declared again
pub again_befriended : (s state : CxxState) (ahead : Ahead) (name : Lexeme) (cv : Cv) (of : CxxType) → IsElsewhere s state → ToldBy IsLater Quietly s ahead (befriend_again s.here.scope name cv of state)
unfolding befriend_again
again_befriended s state ahead name cv of elsewhere = declared_befriended s state ahead name.place elsewhere (again_tells name cv of state ahead)

-- ---- classes

as_tells : (part : CxxPathPart) (other : Place) (is_union : Bool) (number : ℕ) (state : CxxState) (ahead : Ahead) (named : Option ClassNamed) → ToldBy IsLater Told state ahead (befriended_as part other is_union number named state)
as_tells part other is_union number state ahead None = quiet_by later_is_told refl
as_tells part other is_union number state ahead (Some class) = if_by (is_of_key class.is_union is_union) (same_by later_is_told number state ahead) (quiet_by later_is_told refl)

-- the name means something
all_tells : (part : CxxPathPart) (is_union : Bool) (state : CxxState) (ahead : Ahead) (all : List Numbered) → (all ≡ [] → Told state ahead (undeclared_at part.place part.word)) → ToldBy IsLater Told state ahead (befriended_all part is_union all state)
all_tells part is_union state ahead [] unknown = tells_refusal _ (unknown refl)
all_tells part is_union state ahead (one ∷ others) unknown = as_tells part _ is_union one.number state ahead (first_class (one ∷ others))

-- 11.4 p9: it declares a class of the innermost namespace
new_tells : (part : CxxPathPart) (is_union : Bool) (home : ℕ) (state : CxxState) (ahead : Ahead) → (InScopes state → home < length (scope_facts state.graph.facts)) → ToldBy IsLater Quietly state ahead (befriend_new part is_union home state)
new_tells part is_union home state ahead there =
    let fact = class_fact home part (class_count state.graph) is_union in
    by_then state ahead _ (free_quiet state fact part.word) (λ is_free.
    by_answer state ahead _ (reserved_tells state ahead) (λ answer later.
    added_behind state answer.1 ahead fact later (λ is. still_within state answer.1 home later.grown (there is)) (λ is. may_stand answer.1.graph.facts fact refl tt)))

there_tells : (part : CxxPathPart) (is_union : Bool) (home : ℕ) (state : CxxState) (ahead : Ahead) → (InScopes state → home < length (scope_facts state.graph.facts)) → (named : Option ClassNamed) (number : Option ℕ) → ToldBy IsLater Told state ahead (befriend_there part is_union home named number state)
there_tells part is_union home state ahead there named None = calm_by later_is_told (new_tells part is_union home state ahead there)
there_tells part is_union home state ahead there named (Some number) = as_tells part _ is_union number state ahead named

home_tells : (part : CxxPathPart) (is_union : Bool) (home : ℕ) (state : CxxState) (ahead : Ahead) → (InScopes state → home < length (scope_facts state.graph.facts)) → ToldBy IsLater Told state ahead (befriend_home part is_union home state)
home_tells part is_union home state ahead there =
    let all = declared_in state.graph home (spelled part.word) in
    there_tells part is_union home state ahead there (first_class all) (class_number all)

found_tells : (is_union : Bool) (state : CxxState) (ahead : Ahead) → begins_name ahead ≡ true → is_whole_name ahead ≡ true → (where_ : Region) → region_of state.graph state.here.scope (path_ahead ahead) ≡ Ok where_ → (x : Found) → sought_in state.graph types_only where_ (name_in (path_ahead ahead)) ≡ x
    → ToldBy IsLater Told state ahead (befriend_found (path_ahead ahead) is_union x state)
found_tells is_union state ahead begins whole where_ means x is =
    let home = home_of state.graph state.here.scope in
    unambiguous_tells types_only tt state ahead begins whole where_ means x is (befriend_set (last_ahead ahead) is_union (is_plain_path (path_ahead ahead)) x state) (λ clear.
    if_by (not (is_plain_path (path_ahead ahead)) || is_near state.graph home (last_ahead ahead).word x)
    (all_tells (last_ahead ahead) is_union state ahead (set_in state.graph x) (nothing_ahead types_only tt state ahead begins whole where_ means x is clear))
    (home_tells (last_ahead ahead) is_union home state ahead (home_within state)))

named_tells : (is_union : Bool) (state : CxxState) (ahead : Ahead) → begins_name ahead ≡ true → is_whole_name ahead ≡ true → ToldBy IsLater Told state ahead (befriend_named (path_ahead ahead) is_union state)
unfolding befriend_named
named_tells is_union state ahead begins whole = by (region_of state.graph state.here.scope (path_ahead ahead)) refl
  where
    by : (o : Answer Region) → region_of state.graph state.here.scope (path_ahead ahead) ≡ o → ToldBy IsLater Told state ahead (o >>= λ where_. befriend_found (path_ahead ahead) is_union (sought_in state.graph types_only where_ (name_in (path_ahead ahead))) state)
    by (Ok where_) means = found_tells is_union state ahead begins whole where_ means (sought_in state.graph types_only where_ (name_in (path_ahead ahead))) refl
    by (Err why) e = tells_refusal why (region_told state ahead begins whole why e)

-- 11.4: a class is a friend
pub class_befriended : (is_union : Bool) (state : CxxState) (ahead : Ahead) → begins_name ahead ≡ true → is_whole_name ahead ≡ true → ToldBy IsLater Told state ahead (befriend_class is_union (path_ahead ahead) state)
unfolding befriend_class
class_befriended is_union state ahead begins whole =
    told_then _ (named_tells is_union state ahead begins whole) (λ one later. calm_by later_is_told (from_by later_is_quiet state one.1 ahead later (befriend_tells (last_ahead ahead).place one.0 one.1 ahead)))
