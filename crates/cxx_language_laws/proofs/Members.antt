-- Where the reader stands behind a declarator whose name may have qualifiers, and what stops it (8.3, 3.4.1).
use Rattle.std.proofs.Common.{arith, ◌≡◌, inr, refl, subst}
use Rattle.std.specs.Prelude.{ℕ, zero, suc, ◌+◌, ◌<◌, Bool, true, false, if◌then◌else◌, List, [], ◌∷◌, length, Option, Some, None, Ok, Err}
use Rattle.cxx_model.specs.declared.lookup.Found.{Found}
use Rattle.cxx_model.specs.declared.lookup.Found.TheVariants as sought
use Rattle.cxx_model.specs.declared.facts.ScopeKind.{ScopeKind}
use Rattle.cxx_model.specs.declared.lookup.MemberFound.{MemberFound}
use Rattle.cxx_model.specs.declared.lookup.MemberFound.TheVariants as member_found
use Rattle.cxx_model.specs.declared.punct.TheConstants as punct
use Rattle.cxx_model.specs.declared.types.ClassId.{ClassId}
use Rattle.cxx_model.specs.declared.types.ScopeId.{ScopeId}
use Rattle.cxx_model.specs.Facts.Declarations.{CxxGraph, CxxName}
use Rattle.cxx_model.specs.Facts.Entities.{scope_kinds}
use Rattle.cxx_model.specs.Stops.{Answer, Stopped, ◌>>=◌}
use Rattle.cxx_meaning.specs.Lookups.Member.{member}
use Rattle.cxx_meaning.specs.Lookups.Pending.{Asked}
use Rattle.cxx_meaning.specs.Lookups.Wanted.{Wanted, any_name}
use Rattle.cxx_reading.specs.declared.region.Region.{Region}
use Rattle.cxx_reading.specs.declared.region.Region.TheVariants as region
use Rattle.cxx_reading.specs.declared.specifier.Naming.TheVariants as naming
use Rattle.cxx_reading.specs.Declarators.{Declarator, outward, pointer_layer, reference_layer}
use Rattle.cxx_reading.specs.Declaring.{at_scope, scope_count}
use Rattle.cxx_reading.specs.Kinds.{Kinds, Readers}
use Rattle.cxx_declare.specs.Outside.{enter_member, entered_found, first_scope, holds_class, scope_of_class, scope_or, scope_or_unit}
use Rattle.cxx_reading.specs.Linked.{scope_id}
use Rattle.cxx_reading.specs.Paths.{member_or_none, name_in, region_of, sought_in}
use Rattle.cxx_reading.specs.Reads.{Ahead, Got, Reads, answered, ask, got, kind_ahead, behind, beside, then_read, tokens}
use Rattle.cxx_reading.specs.State.{CxxState}
use Rattle.cxx_reading.specs.Syntax.{ampersand_part, bracket_part, declarator_at, grouped_at, grouped_part, member_read, name_part, name_read, pointed_at, qualified_part, referred_at, star_part, suffixes_at}
use Rattle.cxx_reading.specs.Tokens.{begins_name, behind_name, is_plain_name, is_punct, is_unbuilt_part, lacks_first_part, is_whole_name, no_declarator, no_part_there, not_built, path_ahead, path_taken, refused, token_taken, points_to_member}
use Rattle.cxx_reading.specs.Trees.{CxxPath, last_part}
use Rattle.cxx_knot.specs.Readers.{both}
use Rattle.cxx_language.specs.Answers.{asking}
use Rattle.cxx_language.specs.Asked.{asked, inner_at}
use Rattle.cxx_language_laws.specs.Stopping.{declarator_of}
use Rattle.cxx_language_laws.specs.Told.{EndsIn}
use Rattle.cxx_language_laws.proofs.Both.{both_tell}
use Rattle.cxx_language_laws.proofs.Later.{IsLater, grown_same, same_calls}
use Rattle.cxx_language_laws.proofs.Reached.{ArrivedAt, IsPlaced, Told, arrived, arrived_here, arrived_sooner, later_is_told, placed_here, placed_later, placed_sooner}
use Rattle.cxx_language_laws.proofs.Regions.{IsQualifier, last_ahead, members_found, nothing_ahead, region_inside, region_told, region_within, two_found, twofold_ahead}
use Rattle.cxx_language_laws.proofs.Scopes.{scopes_at, scopes_counted}
use Rattle.cxx_language_laws.proofs.Sought.{IsOfClass, member_inside, no_member_inside}
use Rattle.cxx_language_laws.proofs.Tells.{Always, Quietly, ReadersTell, Tells, ToldIn, behind_stands, ends_later, give_in, name_stands, punct_in, tells_read, tells_stop, then_in, token_told, tokens_in, unit_is_told, whole_stands}
use Rattle.cxx_language_laws.proofs.TellsSyntax.{cv_tells, no_declarator_tells, suffixes_tell}

-- ---- the name

-- what is answered where it is entered
pub data EntersBy (state : CxxState) (ahead : Ahead) : Answer (Unit {0} × CxxState) → Type 0 where
  enters_answer : (one : Unit {0} × CxxState) → IsPlaced state ahead one.1 → EntersBy state ahead (Ok one)
  enters_refusal : (why : Stopped) → Told state ahead why → EntersBy state ahead (Err why)

pub member_placed : (state : CxxState) (ahead : Ahead) (space : ScopeId) → begins_name ahead ≡ true → region_of state.graph state.here.scope (path_ahead ahead) ≡ Ok (region.Inside space) → IsPlaced state ahead (at_scope space.0 state)
member_placed state ahead space begins means = record {
  elsewhere = record {
    grown = grown_same state (at_scope space.0 state) refl;
    scopes = λ is. let counted = scopes_counted state.graph.facts in let within = region_within state (path_ahead ahead) (region.Inside space) is means in scopes_at space.0 state (omega (arith, counted, within)) is;
    best = same_calls state (at_scope space.0 state) (grown_same state (at_scope space.0 state) refl) refl;
  };
  place = λ is. inr (record { named = ahead; stands = whole_stands ahead.tokens; begins = begins; where_ = region.Inside space; qualifies = tt; means = means; inside = refl });
}

space_found : (state : CxxState) (ahead : Ahead) (space : ScopeId) → begins_name ahead ≡ true → is_whole_name ahead ≡ true → region_of state.graph state.here.scope (path_ahead ahead) ≡ Ok (region.Inside space) → (x : Found) → sought_in state.graph any_name (region.Inside space) (name_in (path_ahead ahead)) ≡ x
    → EntersBy state ahead (entered_found (last_ahead ahead) (region.Inside space) x state)
space_found state ahead space begins whole means (sought.Ambiguous one two) is = enters_refusal _ (twofold_ahead any_name tt state ahead begins whole (region.Inside space) means (sought.Ambiguous one two) _ (two_found one two) is)
space_found state ahead space begins whole means (sought.Set targets) is = enters_answer (tt, at_scope space.0 state) (member_placed state ahead space begins means)
space_found state ahead space begins whole means (sought.Member class of) is = absurd (no_member_inside state.graph any_name space (name_in (path_ahead ahead)) class of is)
space_found state ahead space begins whole means sought.Empty is = enters_refusal _ (nothing_ahead any_name tt state ahead begins whole (region.Inside space) means sought.Empty is tt refl)

-- 9.2: the scope of a class is there
or_there : (count : ℕ) (o : Option ScopeId) → 0 < count → ((s : ScopeId) → o ≡ Some s → s.0 < count) → (scope_or_unit o).0 < count
or_there count None some all = some
or_there count (Some s) some all = all s refl

first_there : (class : ClassId) (number : ℕ) (kinds : List ScopeKind) (s : ScopeId) → first_scope class number kinds ≡ Some s → s.0 < number + length kinds
first_there class number [] s e = absurd cc
first_there class number (kind ∷ kinds) s e = by (holds_class class kind) e (first_there class (suc number) kinds s)
  where
    same : (m : ℕ) → Some (scope_id m) ≡ Some s → m ≡ s.0
    same m e = cc

    by : (b : Bool) → scope_or number b (first_scope class (suc number) kinds) ≡ Some s → (first_scope class (suc number) kinds ≡ Some s → s.0 < suc number + length kinds) → s.0 < number + length (kind ∷ kinds)
    by true e rest = let at : number ≡ s.0 = same number e in omega (arith, at)
    by false e rest = let later : s.0 < suc number + length kinds = rest e in omega (arith, later)

class_within : (graph : CxxGraph) (class : ClassId) → 0 < scope_count graph → scope_of_class graph class < scope_count graph
unfolding scope_of_class
class_within graph class some = or_there (scope_count graph) (first_scope class zero (scope_kinds graph.facts)) some (λ s e. let there = first_there class zero (scope_kinds graph.facts) s e in omega (arith, there))

pub class_placed : (state : CxxState) (ahead : Ahead) (class : ClassId) → begins_name ahead ≡ true → region_of state.graph state.here.scope (path_ahead ahead) ≡ Ok (region.Class class) → IsPlaced state ahead (at_scope (scope_of_class state.graph class) state)
class_placed state ahead class begins means = record {
  elsewhere = record {
    grown = grown_same state (at_scope (scope_of_class state.graph class) state) refl;
    scopes = λ is. let counted = scopes_counted state.graph.facts in let stands = is.within in scopes_at (scope_of_class state.graph class) state (class_within state.graph class (omega (arith, counted, stands))) is;
    best = same_calls state (at_scope (scope_of_class state.graph class) state) (grown_same state (at_scope (scope_of_class state.graph class) state) refl) refl;
  };
  place = λ is. inr (record { named = ahead; stands = whole_stands ahead.tokens; begins = begins; where_ = region.Class class; qualifies = tt; means = means; inside = refl });
}

-- what is found behind a class is a member of that class
is_of_it : (graph : CxxGraph) (wanted : Wanted) (class one : ClassId) (name : CxxName) (of : MemberFound) → sought_in graph wanted (region.Class class) name ≡ sought.Member one of → class ≡ one
unfolding sought_in
is_of_it graph wanted class one name of e = by (member graph wanted class name) e
  where
    by : (o : Asked MemberFound) → member_or_none class o ≡ sought.Member one of → class ≡ one
    by (Ok other) e = cc
    by (Err needed) e = absurd cc

entered_there : (state : CxxState) (ahead : Ahead) (class one : ClassId) → class ≡ one → begins_name ahead ≡ true → region_of state.graph state.here.scope (path_ahead ahead) ≡ Ok (region.Class class) → EntersBy state ahead (Ok (tt, at_scope (scope_of_class state.graph one) state))
entered_there state ahead class one same begins means = subst (λ (c : ClassId). EntersBy state ahead (Ok (tt, at_scope (scope_of_class state.graph c) state))) same (enters_answer (tt, at_scope (scope_of_class state.graph class) state) (class_placed state ahead class begins means))

-- 9.4.2: in a class
static_found : (state : CxxState) (ahead : Ahead) (class : ClassId) → begins_name ahead ≡ true → is_whole_name ahead ≡ true → region_of state.graph state.here.scope (path_ahead ahead) ≡ Ok (region.Class class) → (x : Found) → IsOfClass x → sought_in state.graph any_name (region.Class class) (name_in (path_ahead ahead)) ≡ x
    → EntersBy state ahead (entered_found (last_ahead ahead) (region.Class class) x state)
static_found state ahead class begins whole means (sought.Ambiguous one two) of is = absurd of
static_found state ahead class begins whole means (sought.Set targets) of is = absurd of
static_found state ahead class begins whole means (sought.Member one member_found.Empty) of is = enters_refusal _ (nothing_ahead any_name tt state ahead begins whole (region.Class class) means (sought.Member one member_found.Empty) is tt refl)
static_found state ahead class begins whole means (sought.Member one (member_found.Set targets path)) of is = entered_there state ahead class one (is_of_it state.graph any_name class one (name_in (path_ahead ahead)) (member_found.Set targets path) is) begins means
static_found state ahead class begins whole means (sought.Member one (member_found.Ambiguous first second)) of is = enters_refusal _ (twofold_ahead any_name tt state ahead begins whole (region.Class class) means (sought.Member one (member_found.Ambiguous first second)) _ (members_found one first second) is)
static_found state ahead class begins whole means sought.Empty of is = enters_refusal _ (nothing_ahead any_name tt state ahead begins whole (region.Class class) means sought.Empty is tt refl)

member_enters : (state : CxxState) (ahead : Ahead) → begins_name ahead ≡ true → is_whole_name ahead ≡ true → is_plain_name ahead ≡ false → EntersBy state ahead (enter_member (path_ahead ahead) state)
unfolding enter_member
member_enters state ahead begins whole plain = by (region_of state.graph state.here.scope (path_ahead ahead)) refl
  where
    inside : (where_ : Region) → IsQualifier where_ → region_of state.graph state.here.scope (path_ahead ahead) ≡ Ok where_ → EntersBy state ahead (entered_found (last_ahead ahead) where_ (sought_in state.graph any_name where_ (name_in (path_ahead ahead))) state)
    inside (region.Inside space) is means = space_found state ahead space begins whole means (sought_in state.graph any_name (region.Inside space) (name_in (path_ahead ahead))) refl
    inside (region.Outward scope) is means = absurd is
    inside (region.Class class) is means = static_found state ahead class begins whole means (sought_in state.graph any_name (region.Class class) (name_in (path_ahead ahead))) (member_inside state.graph any_name class (name_in (path_ahead ahead))) refl

    by : (o : Answer Region) → region_of state.graph state.here.scope (path_ahead ahead) ≡ o → EntersBy state ahead (o >>= λ where_. entered_found (last_ahead ahead) where_ (sought_in state.graph any_name where_ (name_in (path_ahead ahead))) state)
    by (Ok where_) means = inside where_ (region_inside state.graph state.here.scope ahead where_ begins whole plain means) means
    by (Err why) e = enters_refusal why (region_told state ahead begins whole why e)

record KindsEnter (asks : Kinds CxxState) : Type 0 where
  entered : (state : CxxState) (ahead : Ahead) → begins_name ahead ≡ true → is_whole_name ahead ≡ true → is_plain_name ahead ≡ false → EntersBy state ahead (asks.entered (path_ahead ahead) state)

-- ---- what is read, and where the reader stands then

pub data EntersIn {A : Type 0} (state : CxxState) (ahead : Ahead) : Answer (Got CxxState A) → Type 0 where
  enters_read : (one : Got CxxState A) → IsPlaced state ahead one.state → EndsIn ahead.tokens one.rest.tokens → EntersIn state ahead (Ok one)
  enters_stop : (why : Stopped) → ArrivedAt state ahead why → EntersIn state ahead (Err why)

enters_sooner : {A : Type 0} {state : CxxState} {r : Answer (Got CxxState A)} (ahead middle : Ahead) → EndsIn ahead.tokens middle.tokens → EntersIn state middle r → EntersIn state ahead r
enters_sooner {state = state} ahead middle stands (enters_read one placed ends) = enters_read one (placed_sooner state one.state ahead middle stands placed) (ends_later ahead.tokens middle.tokens one.rest.tokens stands ends)
enters_sooner {state = state} ahead middle stands (enters_stop why told) = enters_stop why (arrived_sooner state ahead middle why stands told)

enters_after : {A : Type 0} {s t : CxxState} {ahead rest : Ahead} {r : Answer (Got CxxState A)} → IsPlaced s ahead t → EndsIn ahead.tokens rest.tokens → ToldIn IsLater Told t rest r → EntersIn s ahead r
enters_after {s = s} {t = t} {ahead = ahead} {rest = rest} placed stands (tells_read one later ends) = enters_read one (placed_later s t one.state ahead placed later) (ends_later ahead.tokens rest.tokens one.rest.tokens stands ends)
enters_after {s = s} {t = t} {ahead = ahead} {rest = rest} placed stands (tells_stop why told) = enters_stop why (arrived s t ahead rest why placed stands told)

enters_told : {A : Type 0} {state : CxxState} {ahead : Ahead} {r : Answer (Got CxxState A)} → ToldIn IsLater Told state ahead r → EntersIn state ahead r
enters_told {state = state} {ahead = ahead} tells = enters_after (placed_here state ahead) (whole_stands ahead.tokens) tells

enters_then : {A B : Type 0} {state : CxxState} {ahead : Ahead} {r : Answer (Got CxxState A)} {go : A → Reads CxxState B} → EntersIn state ahead r → ((x : A) (t : CxxState) (rest : Ahead) → IsPlaced state ahead t → EndsIn ahead.tokens rest.tokens → EntersIn state ahead (go x t rest)) → EntersIn state ahead (then_read r go)
enters_then (enters_read one placed stands) next = next one.value one.state one.rest placed stands
enters_then (enters_stop why told) next = enters_stop why told

-- behind tokens alone the state is the same
tokens_then : {A B : Type 0} {read : Reads (Unit {0}) A} → Tells Always Quietly read → (go : A → Reads CxxState B) (state : CxxState) (ahead : Ahead) → ((x : A) (rest : Ahead) → EndsIn ahead.tokens rest.tokens → EntersIn state ahead (go x state rest)) → EntersIn state ahead (then_read (tokens read state ahead) go)
tokens_then {A = A} tells go state ahead next = by (tells tt ahead)
  where
    by : {r : Answer (Got (Unit {0}) A)} → ToldIn Always Quietly tt ahead r → EntersIn state ahead (then_read (beside state r) go)
    by (tells_read one keeps stands) = next one.value one.rest stands
    by (tells_stop why quiet) = enters_stop why (arrived_here state ahead why (later_is_told.quiet state ahead why quiet))

if_enters : {A : Type 0} {state : CxxState} {ahead : Ahead} (b : Bool) {x y : Answer (Got CxxState A)} → EntersIn state ahead x → EntersIn state ahead y → EntersIn state ahead (if b then x else y)
if_enters true x y = x
if_enters false x y = y

-- ---- declarators

abbrev pub EachEnters : {A : Type 0} → Reads CxxState A → Type 0
EachEnters read = (state : CxxState) (ahead : Ahead) → EntersIn state ahead (read state ahead)

record ReadersEnter (inner : Readers CxxState) : Type 0 where
  tells : ReadersTell IsLater Told inner
  pointed : EachEnters (inner.pointed naming.Qualified)
  referred : EachEnters (inner.referred naming.Qualified)
  grouped : EachEnters (inner.grouped naming.Qualified)

qualified_enters : {asks : Kinds CxxState} → KindsEnter asks → {inner : Readers CxxState} → ReadersEnter inner → (state : CxxState) (ahead : Ahead) → begins_name ahead ≡ true → is_plain_name ahead ≡ false → EntersIn state ahead (qualified_part asks inner state ahead)
unfolding qualified_part path_taken no_part_there
qualified_enters {asks = a} asks {inner = i} inner state ahead begins plain = by (is_whole_name ahead) refl
  where
    go : CxxPath → Reads CxxState Declarator
    go path state ahead = then_read (ask (a.entered path) state ahead) (λ entered. suffixes_at i (member_read (last_part path.parts)))

    behind_it : {r : Answer (Unit {0} × CxxState)} → EntersBy state ahead r → EntersIn state ahead (then_read (answered r (behind_name ahead)) (λ entered. suffixes_at i (member_read (last_ahead ahead))))
    behind_it (enters_answer one placed) = enters_after placed (name_stands ahead) (suffixes_tell later_is_told inner.tells (member_read (last_ahead ahead)) one.1 (behind_name ahead))
    behind_it (enters_refusal why told) = enters_stop why (arrived_here state ahead why told)

    no_part : (b : Bool) → EntersIn state ahead (then_read (if b then not_built state (behind_name ahead) else refused state (behind_name ahead)) go)
    no_part true = enters_stop _ tt
    no_part false = enters_stop _ tt

    by : (b : Bool) → is_whole_name ahead ≡ b → EntersIn state ahead (then_read (if b then got (path_ahead ahead) state (behind_name ahead) else no_part_there (lacks_first_part ahead) state (behind_name ahead)) go)
    by true whole = behind_it (asks.entered state ahead begins whole plain)
    by false whole = no_part (is_unbuilt_part (lacks_first_part ahead) (kind_ahead (behind_name ahead)))

name_enters : {asks : Kinds CxxState} → KindsEnter asks → {inner : Readers CxxState} → ReadersEnter inner → EachEnters (name_part asks inner naming.Qualified)
unfolding name_part
name_enters {asks = a} asks {inner = i} inner state ahead = by (is_plain_name ahead) refl (begins_name ahead) refl
  where
    by : (b : Bool) → is_plain_name ahead ≡ b → (c : Bool) → begins_name ahead ≡ c → EntersIn state ahead (if b then then_read (token_taken state ahead) (λ token. suffixes_at i (name_read token)) else (if c then qualified_part a i state ahead else no_declarator state ahead))
    by true plain c begins = enters_told (then_in later_is_told (token_told later_is_told state ahead) (λ token. suffixes_tell later_is_told inner.tells (name_read token)))
    by false plain true begins = qualified_enters asks inner state ahead begins plain
    by false plain false begins = enters_told (no_declarator_tells later_is_told state ahead)

grouped_part_enters : {inner : Readers CxxState} → ReadersEnter inner → EachEnters (grouped_part inner naming.Qualified)
unfolding grouped_part
grouped_part_enters {inner = i} inner state ahead =
    enters_then {go = λ inside. suffixes_at i inside} (enters_sooner ahead (behind ahead) (behind_stands ahead) (inner.grouped state (behind ahead))) (λ inside t rest placed stands. enters_after placed stands (suffixes_tell later_is_told inner.tells inside t rest))

declarator_enters : {asks : Kinds CxxState} → KindsEnter asks → {inner : Readers CxxState} → ReadersEnter inner → EachEnters (declarator_at asks inner naming.Qualified)
unfolding declarator_at star_part ampersand_part bracket_part
declarator_enters asks inner state ahead =
    if_enters (is_punct punct.STAR (kind_ahead ahead)) (enters_sooner ahead (behind ahead) (behind_stands ahead) (inner.pointed state (behind ahead))) (
    if_enters (is_punct punct.AMPERSAND (kind_ahead ahead)) (enters_sooner ahead (behind ahead) (behind_stands ahead) (inner.referred state (behind ahead))) (
    if_enters (is_punct punct.LEFT_PARENTHESIS (kind_ahead ahead)) (grouped_part_enters inner state ahead) (
    if_enters (points_to_member ahead) (enters_stop _ tt) (name_enters asks inner state ahead))))

pointed_enters : {asks : Kinds CxxState} → KindsEnter asks → {inner : Readers CxxState} → ReadersEnter inner → EachEnters (pointed_at asks inner naming.Qualified)
unfolding pointed_at
pointed_enters asks inner state ahead =
    tokens_then (cv_tells unit_is_told) _ state ahead (λ cv rest stands.
    enters_then (enters_sooner ahead rest stands (declarator_enters asks inner state rest)) (λ inside t last placed ends. enters_after placed ends (give_in later_is_told (outward (pointer_layer cv) [] inside) t last)))

referred_enters : {asks : Kinds CxxState} → KindsEnter asks → {inner : Readers CxxState} → ReadersEnter inner → EachEnters (referred_at asks inner naming.Qualified)
unfolding referred_at
referred_enters asks inner state ahead = enters_then (declarator_enters asks inner state ahead) (λ inside t rest placed stands. enters_after placed stands (give_in later_is_told (outward reference_layer [] inside) t rest))

grouped_enters : {asks : Kinds CxxState} → KindsEnter asks → {inner : Readers CxxState} → ReadersEnter inner → EachEnters (grouped_at asks inner naming.Qualified)
unfolding grouped_at
grouped_enters asks inner state ahead =
    enters_then (declarator_enters asks inner state ahead) (λ inside t rest placed stands. enters_after placed stands (
    then_in later_is_told (tokens_in later_is_told (punct_in unit_is_told punct.RIGHT_PARENTHESIS) t rest) (λ closed. give_in later_is_told inside)))

-- ---- the knot

kinds_enter : (room : ℕ) → KindsEnter (asked room).kinds
unfolding asking
kinds_enter room = record { entered = member_enters }

enters_at : (room : ℕ) → ReadersEnter (inner_at room).types
unfolding both
enters_at zero = record {
  tells = (both_tell zero).types;
  pointed = λ state ahead. enters_stop _ tt;
  referred = λ state ahead. enters_stop _ tt;
  grouped = λ state ahead. enters_stop _ tt;
}
enters_at (suc room) = record {
  tells = (both_tell (suc room)).types;
  pointed = pointed_enters (kinds_enter room) (enters_at room);
  referred = referred_enters (kinds_enter room) (enters_at room);
  grouped = grouped_enters (kinds_enter room) (enters_at room);
}

-- 8.3: a declarator of a declaration of a namespace
pub member_is_entered : (room : ℕ) (state : CxxState) (ahead : Ahead) → EntersIn state ahead (declarator_of room naming.Qualified state ahead)
member_is_entered room state ahead = declarator_enters (kinds_enter room) (enters_at room) state ahead
