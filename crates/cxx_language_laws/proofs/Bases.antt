-- What stops the bases of a class (clause 10): a name that is not declared where the class is, or that is ambiguous there.
use Rattle.std.proofs.Common.{◌≡◌, refl}
use Rattle.std.specs.Prelude.{ℕ, true, List, [], ◌∷◌, ◌++◌, Option, Some, None, Ok, Err}
use Rattle.cxx_model.specs.declared.facts.Access.{Access}
use Rattle.cxx_model.specs.declared.keyword.TheConstants as keyword
use Rattle.cxx_model.specs.declared.lookup.Found.{Found}
use Rattle.cxx_model.specs.declared.place.Place.{Place}
use Rattle.cxx_model.specs.declared.punct.TheConstants as punct
use Rattle.cxx_model.specs.Facts.Entities.{has_end}
use Rattle.cxx_model.specs.Stops.{Answer, ◌>>=◌, undeclared_at}
use Rattle.cxx_meaning.specs.Lookups.Wanted.{types_only}
use Rattle.cxx_reading.specs.declared.region.Region.{Region}
use Rattle.cxx_reading.specs.Paths.{name_in, region_of, sought_in}
use Rattle.cxx_reading.specs.Reads.{Ahead, More, Done, count_ahead, give, kind_ahead}
use Rattle.cxx_reading.specs.Seen.{Numbered, set_in, type_in}
use Rattle.cxx_reading.specs.State.{CxxState}
use Rattle.cxx_reading.specs.Tokens.{begins_name, behind_name, is_keyword, is_punct, is_whole_name, path_ahead}
use Rattle.cxx_reading.specs.Trees.{CxxPathPart, CxxTree}
use Rattle.cxx_declare.specs.Bases.{BaseOf, base_among, base_by, base_fact, base_found, base_named, class_under, declare_base, declare_known}
use Rattle.cxx_language.specs.Classes.{BaseList, access_at, access_by, access_word, base_access, base_at, base_ended, base_list, base_name_at, base_step, base_taken, base_tree, no_virtual, one_of}
use Rattle.cxx_language_laws.specs.Stopping.{some_bases}
use Rattle.cxx_language_laws.proofs.Later.{IsLater, added_beside, by_answer, calm_by}
use Rattle.cxx_language_laws.proofs.QuestionsTell.{if_by, quiet_by, same_by}
use Rattle.cxx_language_laws.proofs.Reached.{Told, later_is_told}
use Rattle.cxx_language_laws.proofs.Regions.{last_ahead, nothing_ahead, region_told, unambiguous_tells}
use Rattle.cxx_language_laws.proofs.Scopes.{may_stand}
use Rattle.cxx_language_laws.proofs.Stopping.{Stops, innermost_stops}
use Rattle.cxx_language_laws.proofs.Tells.{Quietly, Tells, ToldBy, ToldIn, ask_from, give_in, if_in, looked_in, name_stands, next_in, path_then, quiet_in, repeat_tells, same_in, tells_answer, tells_refusal, then_in, when_in}

-- ---- what a name means as that of a base

base_by_tells : (state : CxxState) (ahead : Ahead) (part : CxxPathPart) (all : List Numbered) → (all ≡ [] → Told state ahead (undeclared_at part.place part.word)) → (number : Option ℕ) → ToldBy IsLater Told state ahead (base_by part all number state)
base_by_tells state ahead part all unknown (Some n) = same_by later_is_told n state ahead
base_by_tells state ahead part [] unknown None = tells_refusal _ (unknown refl)
base_by_tells state ahead part (one ∷ others) unknown None = quiet_by later_is_told refl

base_found_tells : (state : CxxState) (ahead : Ahead) → begins_name ahead ≡ true → is_whole_name ahead ≡ true → (where_ : Region) → region_of state.graph state.here.scope (path_ahead ahead) ≡ Ok where_ → (x : Found) → sought_in state.graph types_only where_ (name_in (path_ahead ahead)) ≡ x
    → ToldBy IsLater Told state ahead (base_found (last_ahead ahead) x state)
base_found_tells state ahead begins whole where_ means x is =
    unambiguous_tells types_only tt state ahead begins whole where_ means x is (base_among (last_ahead ahead) (set_in state.graph x) state) (λ clear.
    base_by_tells state ahead (last_ahead ahead) (set_in state.graph x) (nothing_ahead types_only tt state ahead begins whole where_ means x is clear) (class_under (type_in (set_in state.graph x))))

base_named_tells : (state : CxxState) (ahead : Ahead) → begins_name ahead ≡ true → is_whole_name ahead ≡ true → ToldBy IsLater Told state ahead (base_named (path_ahead ahead) state)
unfolding base_named
base_named_tells state ahead begins whole = by (region_of state.graph state.here.scope (path_ahead ahead)) refl
  where
    by : (o : Answer Region) → region_of state.graph state.here.scope (path_ahead ahead) ≡ o → ToldBy IsLater Told state ahead (o >>= λ where_. base_found (last_ahead ahead) (sought_in state.graph types_only where_ (name_in (path_ahead ahead))) state)
    by (Ok where_) means = base_found_tells state ahead begins whole where_ means (sought_in state.graph types_only where_ (name_in (path_ahead ahead))) refl
    by (Err why) e = tells_refusal why (region_told state ahead begins whole why e)

-- ---- it is declared, in a scope that is not the reader's

known_tells : (of : BaseOf) (place : Place) (n : ℕ) (old state : CxxState) (ahead : Ahead) → IsLater old state → ToldBy IsLater Quietly old ahead (declare_known of place n state)
unfolding declare_known
known_tells of place n old state ahead later =
    if_by (has_end n state.graph.facts)
    (by_answer old ahead _ (added_beside old state ahead (base_fact of place n) later refl (λ is. may_stand state.graph.facts (base_fact of place n) refl tt)) (λ answer more. tells_answer (tt, answer.1) more))
    (tells_refusal _ refl)

pub told_then : {A B : Type 0} {state : CxxState} {ahead : Ahead} {first : Answer (A × CxxState)} (go : A × CxxState → Answer (B × CxxState)) → ToldBy IsLater Told state ahead first → ((x : A × CxxState) → IsLater state x.1 → ToldBy IsLater Told state ahead (go x)) → ToldBy IsLater Told state ahead (first >>= go)
told_then go (tells_answer one later) tells = tells one later
told_then go (tells_refusal why told) tells = tells_refusal why told

base_tells : (of : BaseOf) (state : CxxState) (ahead : Ahead) → begins_name ahead ≡ true → is_whole_name ahead ≡ true → ToldBy IsLater Told state ahead (declare_base of (path_ahead ahead) state)
unfolding declare_base
base_tells of state ahead begins whole = told_then _ (base_named_tells state ahead begins whole) (λ base later. calm_by later_is_told (known_tells of (last_ahead ahead).place base.0 state base.1 ahead later))

-- ---- they are read

no_virtual_tells : (label : Access) → Tells IsLater Told (no_virtual label)
unfolding no_virtual
no_virtual_tells label state ahead = if_in (is_keyword keyword.VIRTUAL (kind_ahead ahead)) (quiet_in later_is_told refl) (same_in later_is_told label state ahead)

access_tells : (label : Access) → Tells IsLater Told (access_at label)
access_tells label state ahead = if_in (access_word (kind_ahead ahead)) (next_in later_is_told (access_by (kind_ahead ahead)) state ahead) (same_in later_is_told label state ahead)

base_access_tells : (otherwise : Access) → Tells IsLater Told (base_access otherwise)
unfolding base_access
base_access_tells otherwise state ahead = then_in later_is_told (then_in later_is_told (no_virtual_tells otherwise state ahead) access_tells) no_virtual_tells

base_taken_tells : (one : BaseOf) (from : Ahead) (state : CxxState) (ahead : Ahead) → begins_name ahead ≡ true → ToldIn IsLater Told state ahead (base_taken one from state ahead)
unfolding base_taken
base_taken_tells one from state ahead begins =
    path_then later_is_told _ state ahead (λ whole.
    then_in later_is_told (ask_from (behind_name ahead) (name_stands ahead) (base_tells one state ahead begins whole)) (λ declared state rest.
    then_in later_is_told (looked_in later_is_told state rest) (λ to. give_in later_is_told (base_tree (path_ahead ahead) from to))))

base_name_tells : (one : BaseOf) (from : Ahead) → Tells IsLater Told (base_name_at one from)
base_name_tells one from state ahead = when_in (begins_name ahead) (λ begins. base_taken_tells one from state ahead begins) (quiet_in later_is_told refl)

base_at_tells : (of : BaseList) (so_far : List CxxTree) → Tells IsLater Told (base_at of so_far)
unfolding base_at
base_at_tells of so_far state ahead =
    then_in later_is_told (looked_in later_is_told state ahead) (λ from state ahead.
    then_in later_is_told (base_access_tells of.access state ahead) (λ label. base_name_tells (one_of of so_far label) from))

base_ended_tells : (so_far : List CxxTree) (tree : CxxTree) → Tells IsLater Told (base_ended so_far tree)
unfolding base_ended
base_ended_tells so_far tree state ahead =
    if_in (is_punct punct.COMMA (kind_ahead ahead)) (next_in later_is_told (More (so_far ++ tree ∷ [])) state ahead) (
    if_in (is_punct punct.LEFT_BRACE (kind_ahead ahead)) (same_in later_is_told (Done (so_far ++ tree ∷ [])) state ahead)
    (quiet_in later_is_told refl))

base_step_tells : (of : BaseList) (so_far : List CxxTree) → Tells IsLater Told (base_step of so_far)
unfolding base_step
base_step_tells of so_far state ahead = then_in later_is_told (base_at_tells of so_far state ahead) (base_ended_tells so_far)

base_list_tells : (of : BaseList) → Tells IsLater Told (base_list of)
unfolding base_list
base_list_tells of state ahead = repeat_tells later_is_told (base_step of) give (base_step_tells of) (λ so_far. give_in later_is_told so_far) (count_ahead ahead) [] state ahead

pub bases_stop : (of : BaseList) (state : CxxState) (ahead : Ahead) → Stops (some_bases of) state ahead (base_list of state ahead)
bases_stop of state ahead = innermost_stops tt (λ fault is. is) (base_list_tells of state ahead)
