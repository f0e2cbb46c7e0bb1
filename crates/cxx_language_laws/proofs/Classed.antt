-- Where a class is declared that is only named (3.3.1, 9.1), and what its name makes known.
use Rattle.std.proofs.Common.{arith, ◌≡◌, ℕ, zero, suc, ◌+◌, ◌<◌, inl, inr, Bool, true, false, cond, nat_eq, List, [], ◌∷◌, length, Option, Some, None, Ok, Err, refl, sym, ap, subst}
use Rattle.std.proofs.lemmas.List.{append-nil, length-append}
use Rattle.std.specs.List.{Contains, find}
use Rattle.cxx_model.specs.declared.lookup.Found.{Found}
use Rattle.cxx_model.specs.declared.stop.LimitKind.TheVariants.{Facts}
use Rattle.cxx_model.specs.declared.types.ScopeId.{ScopeId}
use Rattle.cxx_model.specs.Facts.Conflicts.{scope_facts}
use Rattle.cxx_model.specs.Facts.Declarations.{CxxFact}
use Rattle.cxx_model.specs.Stops.{Answer, Limited, ◌>>=◌, undeclared_at}
use Rattle.cxx_model.proofs.Champion.{first_or_later}
use Rattle.cxx_meaning.specs.Lookups.Scopes.{chain, kind_of, parent_of as parent_in, up}
use Rattle.cxx_meaning.specs.Lookups.Wanted.{types_only}
use Rattle.cxx_reading.specs.declared.region.Region.{Region}
use Rattle.cxx_reading.specs.Classes.{ClassNamed, class_among, class_as, class_count, class_fact, class_found, class_here, class_missing, class_named, class_seen, declare_again, declare_by, declare_class, declare_new, first_class, first_open, is_of_key, is_open, open_of, reserved, scope_or_unit, with_class}
use Rattle.cxx_reading.specs.Declaring.{declare, most_facts}
use Rattle.cxx_reading.specs.Linked.{scope_id}
use Rattle.cxx_reading.specs.Paths.{name_in, region_of, sought_in}
use Rattle.cxx_reading.specs.Reads.{Ahead}
use Rattle.cxx_reading.specs.Seen.{Numbered, place_of_first, set_in}
use Rattle.cxx_reading.specs.State.{CxxState}
use Rattle.cxx_reading.specs.Tokens.{begins_name, is_whole_name, path_ahead}
use Rattle.cxx_reading.specs.Trees.{CxxPath, CxxPathPart, is_plain_path, last_part}
use Rattle.cxx_language_laws.specs.Told.{IsGrown}
use Rattle.cxx_language_laws.proofs.Later.{IsLater, added_behind, by_answer, by_then, calm_by, free_quiet, later_by, later_same}
use Rattle.cxx_language_laws.proofs.QuestionsTell.{if_by, quiet_by, same_by}
use Rattle.cxx_language_laws.proofs.Reached.{Told, later_is_told}
use Rattle.cxx_language_laws.proofs.Regions.{last_ahead, nothing_ahead, region_told, unambiguous_tells}
use Rattle.cxx_language_laws.proofs.Scopes.{AreHeld, InScopes, may_stand, scopes_beside}
use Rattle.cxx_language_laws.proofs.Shown.{find_in, parent_in_below}
use Rattle.cxx_language_laws.proofs.Tells.{Quietly, ToldBy, tells_answer, tells_refusal}

-- ---- the innermost scope that is that of no class and of no parameters (3.3.1)

-- what stands round a scope is one that there is
pub up_below : (all : List CxxFact) → AreHeld (scope_facts all) → (room : ℕ) (scope one : ScopeId) → scope.0 < length (scope_facts all) → Contains (up all room scope) one → one.0 < length (scope_facts all)
unfolding up
up_below all held zero scope one within m = elim (first_or_later scope [] one m) [
  | inl here ↦ subst (λ (x : ScopeId). x.0 < length (scope_facts all)) here within
  | inr there ↦ absurd (omega (arith, there.1))
]
up_below all held (suc room) scope one within m = elim (first_or_later scope (cond (nat_eq scope.0 0) [] (up all room (parent_in all scope))) one m) [
  | inl here ↦ subst (λ (x : ScopeId). x.0 < length (scope_facts all)) here within
  | inr there ↦ by (nat_eq scope.0 0) there (up_below all held room (parent_in all scope) one)
]
  where
    by : (b : Bool) → Contains (cond b [] (up all room (parent_in all scope))) one → ((parent_in all scope).0 < length (scope_facts all) → Contains (up all room (parent_in all scope)) one → one.0 < length (scope_facts all)) → one.0 < length (scope_facts all)
    by true m further = absurd (omega (arith, m.1))
    by false m further = further (elim (parent_in_below all scope within held) [
      | inl none ↦ omega (arith, none, within)
      | inr below ↦ omega (arith, below, within)
    ]) m

open_below : (all : List CxxFact) (scope : ScopeId) → AreHeld (scope_facts all) → scope.0 < length (scope_facts all) → (first_open all (chain all scope)).0 < length (scope_facts all)
unfolding first_open
open_below all scope held within = by (find test (chain all scope)) refl
  where
    test : ScopeId → Bool
    test one = is_open (kind_of all one)

    by : (o : Option ScopeId) → find test (chain all scope) ≡ o → (scope_or_unit o).0 < length (scope_facts all)
    by None e = omega (arith, within)
    by (Some one) e = up_below all held scope.0 scope one within (find_in test (chain all scope) one e)

open_within : (state : CxxState) → InScopes state → open_of state.graph state.here.scope < length (scope_facts state.graph.facts)
unfolding open_of
open_within state is = open_below state.graph.facts (scope_id state.here.scope) is.held is.within

-- a scope that there is stays one
pub still_within : (s t : CxxState) (scope : ℕ) → IsGrown s t → scope < length (scope_facts s.graph.facts) → scope < length (scope_facts t.graph.facts)
still_within s t scope grown there =
    let more = ap (λ (fs : List CxxFact). length fs) (scopes_beside s.graph.facts grown.own) in
    let count = length-append (scope_facts s.graph.facts) (scope_facts grown.own) in
    subst (λ (fs : List CxxFact). scope < length (scope_facts fs)) (sym grown.declared) (omega (arith, more, count, there))

-- ---- a class is declared

reserved_later : (state : CxxState) → IsLater state (with_class state)
reserved_later state = later_by state (with_class state) (record { own = []; reserved = None ∷ []; declared = sym (append-nil state.graph.facts); classes = refl; patterns = refl }) (λ is. record { within = is.within; held = is.held; sound = is.sound; opened = is.opened; unnamed = is.unnamed; unit = is.unit; patterns = is.patterns }) refl refl

pub reserved_tells : (state : CxxState) (ahead : Ahead) → ToldBy IsLater Quietly state ahead (reserved state)
unfolding reserved
reserved_tells state ahead = if_by (nat_eq (length state.graph.facts + length state.graph.classes) most_facts) (tells_refusal (Limited Facts) refl) (tells_answer (class_count state.graph, with_class state) (reserved_later state))

again_tells : (scope : ℕ) (part : CxxPathPart) (is_union : Bool) (n : ℕ) (state : CxxState) (ahead : Ahead) → (InScopes state → scope < length (scope_facts state.graph.facts)) → ToldBy IsLater Quietly state ahead (declare_again scope part is_union n state)
unfolding declare_again declare
again_tells scope part is_union n state ahead there =
    by_answer state ahead _ (by_then state ahead _ (free_quiet state (class_fact scope part n is_union) part.word) (λ is_free. added_behind state state ahead (class_fact scope part n is_union) (later_same state state refl refl refl) there (λ is. may_stand state.graph.facts (class_fact scope part n is_union) refl tt)))
    (λ answer later. tells_answer (class_as n answer) later)

new_tells : (scope : ℕ) (part : CxxPathPart) (is_union : Bool) (state : CxxState) (ahead : Ahead) → (InScopes state → scope < length (scope_facts state.graph.facts)) → ToldBy IsLater Quietly state ahead (declare_new scope part is_union state)
unfolding declare_new
new_tells scope part is_union state ahead there =
    by_then state ahead _ (free_quiet state (class_fact scope part (class_count state.graph) is_union) part.word) (λ is_free.
    by_answer state ahead _ (reserved_tells state ahead) (λ answer later.
    by_answer state ahead _ (added_behind state answer.1 ahead (class_fact scope part (class_count state.graph) is_union) later (λ is. still_within state answer.1 scope later.grown (there is)) (λ is. may_stand answer.1.graph.facts (class_fact scope part (class_count state.graph) is_union) refl tt))
    (λ last more. tells_answer (class_as (class_count state.graph) last) more)))

declare_by_tells : (scope : ℕ) (part : CxxPathPart) (is_union : Bool) (state : CxxState) (ahead : Ahead) → (InScopes state → scope < length (scope_facts state.graph.facts)) → (named : Option ClassNamed) → ToldBy IsLater Quietly state ahead (declare_by scope part is_union named state)
declare_by_tells scope part is_union state ahead there (Some one) = again_tells scope part is_union one.number state ahead there
declare_by_tells scope part is_union state ahead there None = new_tells scope part is_union state ahead there

declare_class_tells : (scope : ℕ) (part : CxxPathPart) (is_union : Bool) (state : CxxState) (ahead : Ahead) → (InScopes state → scope < length (scope_facts state.graph.facts)) → ToldBy IsLater Quietly state ahead (declare_class scope part is_union state)
unfolding declare_class
declare_class_tells scope part is_union state ahead there = declare_by_tells scope part is_union state ahead there _

-- ---- a class is named

missing_tells : (path : CxxPath) (is_union : Bool) (state : CxxState) (ahead : Ahead) → Told state ahead (undeclared_at (last_part path.parts).place (last_part path.parts).word) → ToldBy IsLater Told state ahead (class_missing path is_union state)
missing_tells path is_union state ahead unknown = if_by (is_plain_path path) (calm_by later_is_told (declare_class_tells (open_of state.graph state.here.scope) (last_part path.parts) is_union state ahead (open_within state))) (tells_refusal _ unknown)

seen_tells : (path : CxxPath) (is_union : Bool) (state : CxxState) (ahead : Ahead) (all : List Numbered) → (all ≡ [] → Told state ahead (undeclared_at (last_part path.parts).place (last_part path.parts).word)) → (named : Option ClassNamed) → ToldBy IsLater Told state ahead (class_seen path is_union named (place_of_first all) state)
seen_tells path is_union state ahead [] unknown named = missing_tells path is_union state ahead (unknown refl)
seen_tells path is_union state ahead (one ∷ others) unknown None = quiet_by later_is_told refl
seen_tells path is_union state ahead (one ∷ others) unknown (Some class) = if_by (is_of_key class.is_union is_union) (same_by later_is_told _ state ahead) (quiet_by later_is_told refl)

found_tells : (is_union : Bool) (state : CxxState) (ahead : Ahead) → begins_name ahead ≡ true → is_whole_name ahead ≡ true → (where_ : Region) → region_of state.graph state.here.scope (path_ahead ahead) ≡ Ok where_ → (x : Found) → sought_in state.graph types_only where_ (name_in (path_ahead ahead)) ≡ x
    → ToldBy IsLater Told state ahead (class_found (path_ahead ahead) is_union x state)
found_tells is_union state ahead begins whole where_ means x is =
    unambiguous_tells types_only tt state ahead begins whole where_ means x is (class_among (path_ahead ahead) is_union (set_in state.graph x) state) (λ clear.
    seen_tells (path_ahead ahead) is_union state ahead (set_in state.graph x) (nothing_ahead types_only tt state ahead begins whole where_ means x is clear) (first_class (set_in state.graph x)))

named_tells : (is_union : Bool) (state : CxxState) (ahead : Ahead) → begins_name ahead ≡ true → is_whole_name ahead ≡ true → ToldBy IsLater Told state ahead (class_named (path_ahead ahead) is_union state)
unfolding class_named
named_tells is_union state ahead begins whole = by (region_of state.graph state.here.scope (path_ahead ahead)) refl
  where
    by : (o : Answer Region) → region_of state.graph state.here.scope (path_ahead ahead) ≡ o → ToldBy IsLater Told state ahead (o >>= λ where_. class_found (path_ahead ahead) is_union (sought_in state.graph types_only where_ (name_in (path_ahead ahead))) state)
    by (Ok where_) means = found_tells is_union state ahead begins whole where_ means (sought_in state.graph types_only where_ (name_in (path_ahead ahead))) refl
    by (Err why) e = tells_refusal why (region_told state ahead begins whole why e)

pub class_tells : (is_union is_all : Bool) (state : CxxState) (ahead : Ahead) → begins_name ahead ≡ true → is_whole_name ahead ≡ true → ToldBy IsLater Told state ahead (class_here is_union is_all (path_ahead ahead) state)
unfolding class_here
class_tells is_union true state ahead begins whole = calm_by later_is_told (declare_class_tells state.here.scope (last_ahead ahead) is_union state ahead (λ is. is.within))
class_tells is_union false state ahead begins whole = named_tells is_union state ahead begins whole
