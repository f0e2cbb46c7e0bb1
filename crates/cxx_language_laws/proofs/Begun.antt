-- The scope of a list of parameters has begun where its declarator was read (3.3.2, 8.3.5).
use Rattle.std.proofs.Common.{arith, ◌≡◌, ◌<◌, refl, subst}
use Rattle.std.proofs.lemmas.Option.{same_Some}
use Rattle.std.specs.Prelude.{ℕ, zero, suc, Bool, true, false, not, if◌then◌else◌, ◌||◌, length, List, [], ◌∷◌, ◌++◌, Some, Ok, Err}
use Rattle.cxx_model.specs.declared.keyword.TheConstants as keyword
use Rattle.cxx_model.specs.declared.limits.TheConstants as limits
use Rattle.cxx_model.specs.declared.lookup.Found.{Found}
use Rattle.cxx_model.specs.declared.lookup.Found.TheVariants as sought
use Rattle.cxx_model.specs.declared.lookup.MemberFound.{MemberFound}
use Rattle.cxx_model.specs.declared.lookup.MemberFound.TheVariants as member_found
use Rattle.cxx_model.specs.declared.punct.TheConstants as punct
use Rattle.cxx_model.specs.Stops.{Answer, Stopped, ◌>>=◌}
use Rattle.cxx_meaning.specs.Lookups.Wanted.{any_name}
use Rattle.cxx_reading.specs.declared.region.Region.{Region}
use Rattle.cxx_reading.specs.declared.specifier.Naming.{Naming}
use Rattle.cxx_reading.specs.declared.specifier.Naming.TheVariants as naming
use Rattle.cxx_reading.specs.declared.specifier.SpecifierPlace.TheVariants as where_
use Rattle.cxx_reading.specs.Declarators.{Declarator, Layer, pointer_layer, reference_layer, array_layer, function_layer, ParameterTypes, adjusted_types, no_declarator_yet, is_named, own_parameters, parameter_type}
use Rattle.cxx_reading.specs.Declaring.{at_scope, scope_count}
use Rattle.cxx_reading.specs.Kinds.{Fallback, Kinds, Readers}
use Rattle.cxx_declare.specs.Outside.{enter_member, entered_found, entered_member, scope_of_class}
use Rattle.cxx_reading.specs.Paths.{name_in, region_of, scope_of_region, sought_in}
use Rattle.cxx_reading.specs.Reads.{Ahead, Got, Reads, Turn, More, Done, then_read, answered, ask, tokens, go_on, repeat, kind_ahead, count_ahead, behind}
use Rattle.cxx_reading.specs.Shapes.{begins_type}
use Rattle.cxx_reading.specs.Specifiers.{specifiers_at}
use Rattle.cxx_reading.specs.State.{CxxState}
use Rattle.cxx_reading.specs.Syntax.{Suffixed, is_required, is_never, may_qualify, member_read, qualified_part, bound_by, array_suffix, function_suffix, function_by, bracket_suffix, suffix_at, give_declarator, suffixes_at, name_read, name_part, grouped_part, grouped_by, bracket_part, star_part, ampersand_part, declarator_at, pointed_at, referred_at, grouped_at, specified_type, place_of_declarator, parameter_fits, parameter_tree, default_at, with_parameter, with_ellipsis, list_ended, comma_passed, parameter_ended, parameter_at, parameter_step, past_most, parameters_over, no_parameters, some_parameters, turn_result, is_void_list, list_at, parameters_at}
use Rattle.cxx_reading.specs.Tokens.{begins_name, is_punct, is_keyword, is_plain_name, no_declarator, punct_taken, is_name, points_to_member}
use Rattle.cxx_reading.specs.Trees.{CxxPath, last_part}
use Rattle.cxx_knot.specs.Readers.{both}
use Rattle.cxx_language.specs.Answers.{asking}
use Rattle.cxx_language.specs.Asked.{asked, inner_at}
use Rattle.cxx_language_laws.specs.Told.{IsGrown}
use Rattle.cxx_language_laws.proofs.Asked.{kinds_tell, offers_tell, phrases_tell}
use Rattle.cxx_language_laws.proofs.Both.{both_tell}
use Rattle.cxx_language_laws.proofs.Later.{IsLater, grown_later, grown_same}
use Rattle.cxx_language_laws.proofs.Lists.{ListIn, list_in, no_list, list_begins}
use Rattle.cxx_language_laws.proofs.Reached.{Told, later_is_told, count_more}
use Rattle.cxx_language_laws.proofs.Tells.{KindsTell, ReadersTell, ToldIn, tells_read, tells_stop, punct_in, tokens_in, token_told, unit_is_told, returned_in, past_in, names_tell, path_told}
use Rattle.cxx_language_laws.proofs.TellsDefaults.{fallback_at_tells}
use Rattle.cxx_language_laws.proofs.TellsShapes.{abstract_tells}
use Rattle.cxx_language_laws.proofs.TellsSyntax.{FallbackTells, cv_tells, exceptions_tell, parameter_list_tells}

-- ---- what is read, with what holds of it behind it

pub data Brings {A : Type 0} (P : CxxState → A → Type 0) (state : CxxState) : Answer (Got CxxState A) → Type 0 where
  brings : (one : Got CxxState A) → IsGrown state one.state → P one.state one.value → Brings P state (Ok one)
  brings_none : (why : Stopped) → Brings P state (Err why)

abbrev pub EachBrings : {A : Type 0} → (CxxState → A → Type 0) → Reads CxxState A → Type 0
EachBrings P read = (state : CxxState) (ahead : Ahead) → Brings P state (read state ahead)

abbrev Anything : {A : Type 0} → CxxState → A → Type 0
Anything state value = Unit {0}

brings_here : {A : Type 0} {P : CxxState → A → Type 0} (value : A) (state : CxxState) (rest : Ahead) → P state value → Brings P state (Ok (record { value = value; state = state; rest = rest }))
brings_here value state rest is = brings (record { value = value; state = state; rest = rest }) (grown_same state state refl) is

brings_from : {A : Type 0} {P : CxxState → A → Type 0} (s t : CxxState) → IsGrown s t → {r : Answer (Got CxxState A)} → Brings P t r → Brings P s r
brings_from s t grown (brings one more is) = brings one (grown_later s t one.state grown more) is
brings_from s t grown (brings_none why) = brings_none why

brings_then : {A B : Type 0} {P : CxxState → A → Type 0} {Q : CxxState → B → Type 0} {s : CxxState} {r : Answer (Got CxxState A)} {go : A → Reads CxxState B} → Brings P s r
    → ((x : A) (t : CxxState) (rest : Ahead) → IsGrown s t → P t x → Brings Q t (go x t rest)) → Brings Q s (then_read r go)
brings_then {s = s} (brings one grown is) next = brings_from s one.state grown (next one.value one.state one.rest grown is)
brings_then (brings_none why) next = brings_none why

told_brings : {A : Type 0} {state : CxxState} {ahead : Ahead} {r : Answer (Got CxxState A)} → ToldIn IsLater Told state ahead r → Brings Anything state r
told_brings (tells_read one later stands) = brings one later.grown tt
told_brings (tells_stop why told) = brings_none why

if_brings : {A : Type 0} {P : CxxState → A → Type 0} {state : CxxState} (b : Bool) {x y : Answer (Got CxxState A)} → Brings P state x → Brings P state y → Brings P state (if b then x else y)
if_brings true x y = x
if_brings false x y = y

-- of what a turn of a loop leads to
abbrev OfTurn : {A B : Type 0} → (CxxState → A → Type 0) → (CxxState → B → Type 0) → CxxState → Turn A B → Type 0
OfTurn P Q state (More so_far) = P state so_far
OfTurn P Q state (Done result) = Q state result

turn_brings : {A B : Type 0} {P : CxxState → A → Type 0} {Q : CxxState → B → Type 0} (again : A → Reads CxxState B) → ((so_far : A) (s : CxxState) (ahead : Ahead) → P s so_far → Brings Q s (again so_far s ahead))
    → (turn : Turn A B) (t : CxxState) (rest : Ahead) → OfTurn P Q t turn → Brings Q t (go_on again turn t rest)
turn_brings again goes (More more) t rest is = goes more t rest is
turn_brings again goes (Done result) t rest is = brings_here result t rest is

repeat_brings : {A B : Type 0} {P : CxxState → A → Type 0} {Q : CxxState → B → Type 0} (step : A → Reads CxxState (Turn A B)) (over : A → Reads CxxState B)
    → ((so_far : A) (s : CxxState) (ahead : Ahead) → P s so_far → Brings (OfTurn P Q) s (step so_far s ahead)) → ((so_far : A) (s : CxxState) (ahead : Ahead) → P s so_far → Brings Q s (over so_far s ahead))
    → (n : ℕ) (so_far : A) (s : CxxState) (ahead : Ahead) → P s so_far → Brings Q s (repeat step over n so_far s ahead)
unfolding repeat
repeat_brings step over steps overs zero so_far s ahead is = overs so_far s ahead is
repeat_brings step over steps overs (suc n) so_far s ahead is = brings_then (steps so_far s ahead is) (λ turn t rest later is. turn_brings (repeat step over n) (repeat_brings step over steps overs n) turn t rest is)

-- ---- scopes that have begun

abbrev pub HasBegun : CxxState → Layer → Type 0
HasBegun state (function_layer parameters ellipsis scope) = scope < scope_count state.graph
HasBegun state _ = Unit {0}

abbrev pub HaveBegun : CxxState → List Layer → Type 0
HaveBegun state [] = Unit {0}
HaveBegun state (layer ∷ layers) = HasBegun state layer × HaveBegun state layers

has_later : (s t : CxxState) → IsGrown s t → (layer : Layer) → HasBegun s layer → HasBegun t layer
has_later s t grown (function_layer parameters ellipsis scope) is = let more = count_more s t grown in omega (arith, more, is)
has_later s t grown (pointer_layer cv) is = tt
has_later s t grown reference_layer is = tt
has_later s t grown (array_layer bound) is = tt

have_later : (s t : CxxState) → IsGrown s t → (layers : List Layer) → HaveBegun s layers → HaveBegun t layers
have_later s t grown [] are = tt
have_later s t grown (layer ∷ layers) are = (has_later s t grown layer are.0, have_later s t grown layers are.1)

have_outward : (state : CxxState) (layers : List Layer) (layer : Layer) → HaveBegun state layers → HasBegun state layer → HaveBegun state (layers ++ layer ∷ [])
have_outward state [] layer are is = (is, tt)
have_outward state (first ∷ layers) layer are is = (are.0, have_outward state layers layer are.1 is)

-- the scope of the parameters of the function that a declarator itself declares
pub own_has_begun : (state : CxxState) (layers : List Layer) (list : ℕ) → HaveBegun state layers → own_parameters layers ≡ Some list → list < scope_count state.graph
own_has_begun state [] list are own = absurd cc
own_has_begun state (function_layer parameters ellipsis scope ∷ layers) list are own = subst (λ (n : ℕ). n < scope_count state.graph) (same_Some scope list own) are.0
own_has_begun state (pointer_layer cv ∷ layers) list are own = absurd cc
own_has_begun state (reference_layer ∷ layers) list are own = absurd cc
own_has_begun state (array_layer bound ∷ layers) list are own = absurd cc

abbrev pub Begun : CxxState → Declarator → Type 0
Begun state declarator = HaveBegun state declarator.layers

abbrev SuffixBegun : CxxState → Suffixed → Type 0
SuffixBegun state so_far = Begun state so_far.declarator

abbrev pub ListBegun : CxxState → ParameterTypes → Type 0
ListBegun state list = list.scope < scope_count state.graph

-- ---- declarators

pub record ReadersBegin (inner : Readers CxxState) : Type 0 where
  pub tells : ReadersTell IsLater Told inner
  pub pointed : (naming : Naming) → EachBrings Begun (inner.pointed naming)
  pub referred : (naming : Naming) → EachBrings Begun (inner.referred naming)
  pub grouped : (naming : Naming) → EachBrings Begun (inner.grouped naming)
  pub parameters : EachBrings ListBegun inner.parameters

abbrev TurnBegun : CxxState → Turn Suffixed Declarator → Type 0
TurnBegun = OfTurn SuffixBegun Begun

array_begins : {inner : Readers CxxState} → ReadersBegin inner → (so_far : Suffixed) (state : CxxState) (ahead : Ahead) → SuffixBegun state so_far → Brings TurnBegun state (array_suffix inner so_far state ahead)
unfolding array_suffix
array_begins inner so_far state ahead are =
    brings_then (told_brings (inner.tells.bound (not so_far.in_row) state (behind ahead))) (λ bound t rest later none.
    brings_here _ t rest (have_outward t so_far.declarator.layers (array_layer (bound_by bound.0)) (have_later state t later so_far.declarator.layers are) tt))

function_begins : {inner : Readers CxxState} → ReadersBegin inner → (so_far : Suffixed) (state : CxxState) (ahead : Ahead) → SuffixBegun state so_far → Brings TurnBegun state (function_suffix inner so_far state ahead)
unfolding function_suffix
function_begins inner so_far state ahead are =
    brings_then (inner.parameters state (behind ahead)) (λ list t rest later begun.
    brings_then (told_brings (tokens_in later_is_told (cv_tells unit_is_told) t rest)) (λ cv u rest more none.
    brings_then (told_brings (tokens_in later_is_told (exceptions_tell unit_is_told) u rest)) (λ exceptions v rest most none.
    let last = grown_later t u v more most in
    let layer = function_layer (adjusted_types list.types) list.ellipsis list.scope in
    brings_here _ v rest (have_outward v so_far.declarator.layers layer (have_later state v (grown_later state t v later last) so_far.declarator.layers are) (has_later t v last layer begun)))))

function_by_begins : {inner : Readers CxxState} → ReadersBegin inner → (so_far : Suffixed) (is_list : Bool) (state : CxxState) (ahead : Ahead) → SuffixBegun state so_far → Brings TurnBegun state (function_by inner so_far is_list state ahead)
function_by_begins inner so_far true state ahead are = function_begins inner so_far state ahead are
function_by_begins inner so_far false state ahead are = brings_here (Done so_far.declarator) state ahead are

bracket_begins : {inner : Readers CxxState} → ReadersBegin inner → (so_far : Suffixed) (state : CxxState) (ahead : Ahead) → SuffixBegun state so_far → Brings TurnBegun state (bracket_suffix inner so_far state ahead)
unfolding bracket_suffix
bracket_begins inner so_far state ahead are =
    if_brings (is_named so_far.declarator) (brings_then (told_brings (returned_in ahead (past_in later_is_told (inner.tells.holds_parameters state (behind ahead))))) (λ is_list t rest later none. function_by_begins inner so_far is_list t rest (have_later state t later so_far.declarator.layers are)))
    (function_begins inner so_far state ahead are)

suffix_begins : {inner : Readers CxxState} → ReadersBegin inner → (so_far : Suffixed) (state : CxxState) (ahead : Ahead) → SuffixBegun state so_far → Brings TurnBegun state (suffix_at inner so_far state ahead)
unfolding suffix_at
suffix_begins inner so_far state ahead are =
    if_brings (is_punct punct.LEFT_PARENTHESIS (kind_ahead ahead)) (bracket_begins inner so_far state ahead are) (
    if_brings (is_punct punct.LEFT_BRACKET (kind_ahead ahead)) (array_begins inner so_far state ahead are) (brings_here (Done so_far.declarator) state ahead are))

suffixes_begin : {inner : Readers CxxState} → ReadersBegin inner → (declarator : Declarator) (state : CxxState) (ahead : Ahead) → Begun state declarator → Brings Begun state (suffixes_at inner declarator state ahead)
unfolding suffixes_at
suffixes_begin {inner = i} inner declarator state ahead are = repeat_brings (suffix_at i) give_declarator (suffix_begins inner) (λ so_far s ahead are. brings_here so_far.declarator s ahead are) (count_ahead ahead) (record { declarator = declarator; in_row = false }) state ahead are

-- 8.3: where the name of a member is entered, nothing is declared
data Grows (state : CxxState) : Answer (Unit {0} × CxxState) → Type 0 where
  it_grows : (one : Unit {0} × CxxState) → IsGrown state one.1 → Grows state (Ok one)
  no_growth : (why : Stopped) → Grows state (Err why)

record EachGrows (asks : Kinds CxxState) : Type 0 where
  entered : (path : CxxPath) (state : CxxState) → Grows state (asks.entered path state)

grown_brings : {state : CxxState} {r : Answer (Unit {0} × CxxState)} (rest : Ahead) → Grows state r → Brings Anything state (answered r rest)
grown_brings rest (it_grows one grown) = brings (record { value = one.0; state = one.1; rest = rest }) grown tt
grown_brings rest (no_growth why) = brings_none why

qualified_begins : {asks : Kinds CxxState} → EachGrows asks → {inner : Readers CxxState} → ReadersBegin inner → EachBrings Begun (qualified_part asks inner)
unfolding qualified_part
qualified_begins asks inner state ahead =
    brings_then (told_brings (path_told later_is_told state ahead)) (λ path t rest later none.
    brings_then (grown_brings rest (asks.entered path t)) (λ entered u rest more none. suffixes_begin inner (member_read (last_part path.parts)) u rest tt))

name_begins : {asks : Kinds CxxState} → EachGrows asks → {inner : Readers CxxState} → ReadersBegin inner → (naming : Naming) → EachBrings Begun (name_part asks inner naming)
unfolding name_part no_declarator
name_begins asks inner naming state ahead =
    if_brings (is_never naming) (suffixes_begin inner no_declarator_yet state ahead tt) (
    if_brings (is_plain_name ahead) (brings_then (told_brings (token_told later_is_told state ahead)) (λ token t rest later none. suffixes_begin inner (name_read token) t rest tt)) (
    if_brings (begins_name ahead) (if_brings (may_qualify naming) (qualified_begins asks inner state ahead) (if_brings (is_name (kind_ahead ahead)) (brings_none _) (brings_none _))) (
    if_brings (is_required naming) (if_brings (is_keyword keyword.OPERATOR (kind_ahead ahead)) (brings_none _) (brings_none _)) (suffixes_begin inner no_declarator_yet state ahead tt))))

grouped_part_begins : {inner : Readers CxxState} → ReadersBegin inner → (naming : Naming) → EachBrings Begun (grouped_part inner naming)
unfolding grouped_part
grouped_part_begins inner naming state ahead = brings_then (inner.grouped naming state (behind ahead)) (λ inside t rest later are. suffixes_begin inner inside t rest are)

grouped_by_begins : {inner : Readers CxxState} → ReadersBegin inner → (naming : Naming) (is_list : Bool) → EachBrings Begun (grouped_by inner naming is_list)
grouped_by_begins inner naming true state ahead = suffixes_begin inner no_declarator_yet state ahead tt
grouped_by_begins inner naming false state ahead = grouped_part_begins inner naming state ahead

bracket_part_begins : {asks : Kinds CxxState} → KindsTell IsLater Told asks → {inner : Readers CxxState} → ReadersBegin inner → (naming : Naming) → EachBrings Begun (bracket_part asks inner naming)
unfolding bracket_part
bracket_part_begins asks inner naming state ahead =
    if_brings (is_required naming) (grouped_part_begins inner naming state ahead)
    (brings_then (told_brings (abstract_tells later_is_told (names_tell asks) state ahead)) (λ is_list t rest later none. grouped_by_begins inner naming is_list t rest))

declarator_begins : {asks : Kinds CxxState} → KindsTell IsLater Told asks → EachGrows asks → {inner : Readers CxxState} → ReadersBegin inner → (naming : Naming) → EachBrings Begun (declarator_at asks inner naming)
unfolding declarator_at star_part ampersand_part
declarator_begins asks grows inner naming state ahead =
    if_brings (is_punct punct.STAR (kind_ahead ahead)) (inner.pointed naming state (behind ahead)) (
    if_brings (is_punct punct.AMPERSAND (kind_ahead ahead)) (inner.referred naming state (behind ahead)) (
    if_brings (is_punct punct.LEFT_PARENTHESIS (kind_ahead ahead)) (bracket_part_begins asks inner naming state ahead) (
    if_brings (points_to_member ahead) (brings_none _) (name_begins grows inner naming state ahead))))

pointed_begins : {asks : Kinds CxxState} → KindsTell IsLater Told asks → EachGrows asks → {inner : Readers CxxState} → ReadersBegin inner → (naming : Naming) → EachBrings Begun (pointed_at asks inner naming)
unfolding pointed_at
pointed_begins asks grows inner naming state ahead =
    brings_then (told_brings (tokens_in later_is_told (cv_tells unit_is_told) state ahead)) (λ cv t rest later none.
    brings_then (declarator_begins asks grows inner naming t rest) (λ inside u rest later are. brings_here _ u rest (have_outward u inside.layers (pointer_layer cv) are tt)))

referred_begins : {asks : Kinds CxxState} → KindsTell IsLater Told asks → EachGrows asks → {inner : Readers CxxState} → ReadersBegin inner → (naming : Naming) → EachBrings Begun (referred_at asks inner naming)
unfolding referred_at
referred_begins asks grows inner naming state ahead = brings_then (declarator_begins asks grows inner naming state ahead) (λ inside t rest later are. brings_here _ t rest (have_outward t inside.layers reference_layer are tt))

grouped_begins : {asks : Kinds CxxState} → KindsTell IsLater Told asks → EachGrows asks → {inner : Readers CxxState} → ReadersBegin inner → (naming : Naming) → EachBrings Begun (grouped_at asks inner naming)
unfolding grouped_at
grouped_begins asks grows inner naming state ahead =
    brings_then (declarator_begins asks grows inner naming state ahead) (λ inside t rest later are.
    brings_then (told_brings (tokens_in later_is_told (punct_in unit_is_told punct.RIGHT_PARENTHESIS) t rest)) (λ closed u rest more none. brings_here inside u rest (have_later t u more inside.layers are)))

-- ---- lists of parameters

-- of what is read, whatever the state
data Reading {A : Type 0} (P : A → Type 0) : Answer (Got CxxState A) → Type 0 where
  reading : (one : Got CxxState A) → P one.value → Reading P (Ok one)
  no_reading : (why : Stopped) → Reading P (Err why)

reading_then : {A B : Type 0} {P : A → Type 0} {Q : B → Type 0} {r : Answer (Got CxxState A)} {go : A → Reads CxxState B} → Reading P r → ((x : A) (t : CxxState) (rest : Ahead) → P x → Reading Q (go x t rest)) → Reading Q (then_read r go)
reading_then (reading one is) next = next one.value one.state one.rest is
reading_then (no_reading why) next = no_reading why

-- whatever was read before
reading_behind : {A B : Type 0} {Q : B → Type 0} (r : Answer (Got CxxState A)) (go : A → Reads CxxState B) → ((x : A) (t : CxxState) (rest : Ahead) → Reading Q (go x t rest)) → Reading Q (then_read r go)
reading_behind (Ok one) go next = next one.value one.state one.rest
reading_behind (Err why) go next = no_reading why

if_reading : {A : Type 0} {P : A → Type 0} (b : Bool) {x y : Answer (Got CxxState A)} → Reading P x → Reading P y → Reading P (if b then x else y)
if_reading true x y = x
if_reading false x y = y

-- a list has this scope
abbrev OfScope : ℕ → ParameterTypes → Type 0
OfScope scope list = list.scope ≡ scope

abbrev TurnOfScope : ℕ → Turn ParameterTypes ParameterTypes → Type 0
TurnOfScope scope (More list) = list.scope ≡ scope
TurnOfScope scope (Done list) = list.scope ≡ scope

list_ended_of : (scope : ℕ) (so_far : ParameterTypes) → so_far.scope ≡ scope → (state : CxxState) (ahead : Ahead) → Reading (TurnOfScope scope) (list_ended so_far state ahead)
unfolding list_ended
list_ended_of scope so_far is state ahead = reading_behind (tokens (punct_taken punct.RIGHT_PARENTHESIS) state (behind ahead)) _ (λ closed t rest. reading (record { value = Done (with_ellipsis so_far); state = t; rest = rest }) is)

parameter_ended_of : (scope : ℕ) (so_far : ParameterTypes) → so_far.scope ≡ scope → (state : CxxState) (ahead : Ahead) → Reading (TurnOfScope scope) (parameter_ended so_far state ahead)
unfolding parameter_ended comma_passed
parameter_ended_of scope so_far is state ahead =
    if_reading (is_punct punct.COMMA (kind_ahead ahead)) (if_reading (is_punct punct.ELLIPSIS (kind_ahead (behind ahead))) (list_ended_of scope so_far is state (behind ahead)) (reading (record { value = More so_far; state = state; rest = behind ahead }) is)) (
    if_reading (is_punct punct.RIGHT_PARENTHESIS (kind_ahead ahead)) (reading (record { value = Done so_far; state = state; rest = behind ahead }) is) (
    if_reading (is_punct punct.ELLIPSIS (kind_ahead ahead)) (list_ended_of scope so_far is state ahead) (no_reading _)))

parameter_of : (asks : Kinds CxxState) (fallback : Fallback CxxState) (inner : Readers CxxState) (scope : ℕ) (so_far : ParameterTypes) → so_far.scope ≡ scope → (state : CxxState) (ahead : Ahead) → Reading (OfScope scope) (parameter_at asks fallback inner so_far state ahead)
unfolding parameter_at
parameter_of asks fallback inner scope so_far is state ahead =
    reading_behind (specifiers_at asks inner where_.Parameter state ahead) _ (λ specifiers t rest.
    reading_behind (declarator_at asks inner naming.Either t rest) _ (λ declarator t rest.
    reading_behind (parameter_fits specifiers declarator t rest) _ (λ fits t rest.
    let of = parameter_type declarator.layers (specified_type specifiers) in
    reading_behind (ask (asks.parameter declarator.name (place_of_declarator declarator rest) of) t rest) _ (λ declared t end.
    reading_behind (default_at fallback (length so_far.types) of t end) _ (λ default t last. reading (record { value = with_parameter of (parameter_tree specifiers declarator of default ahead rest last) so_far; state = t; rest = last }) is)))))

parameter_step_of : (asks : Kinds CxxState) (fallback : Fallback CxxState) (inner : Readers CxxState) (scope : ℕ) (so_far : ParameterTypes) → so_far.scope ≡ scope → (state : CxxState) (ahead : Ahead) → Reading (TurnOfScope scope) (parameter_step asks fallback inner so_far state ahead)
unfolding parameter_step
parameter_step_of asks fallback inner scope so_far is state ahead = reading_then (parameter_of asks fallback inner scope so_far is state ahead) (λ list t rest is. parameter_ended_of scope list is t rest)

past_most_of : (scope : ℕ) (is_more : Bool) (state : CxxState) (ahead : Ahead) → Reading (OfScope scope) (past_most is_more state ahead)
past_most_of scope true state ahead = no_reading _
past_most_of scope false state ahead = no_reading _

over_of : (asks : Kinds CxxState) (scope : ℕ) (so_far : ParameterTypes) (state : CxxState) (ahead : Ahead) → Reading (OfScope scope) (parameters_over asks so_far state ahead)
unfolding parameters_over
over_of asks scope so_far state ahead = if_reading (is_keyword keyword.AUTO (kind_ahead ahead) || is_keyword keyword.REGISTER (kind_ahead ahead)) (past_most_of scope true state ahead) (reading_behind (begins_type asks state ahead) _ (past_most_of scope))

turn_of : (scope : ℕ) (again : ParameterTypes → Reads CxxState ParameterTypes) → ((so_far : ParameterTypes) → so_far.scope ≡ scope → (state : CxxState) (ahead : Ahead) → Reading (OfScope scope) (again so_far state ahead))
    → (turn : Turn ParameterTypes ParameterTypes) (t : CxxState) (rest : Ahead) → TurnOfScope scope turn → Reading (OfScope scope) (go_on again turn t rest)
turn_of scope again goes (More list) t rest is = goes list is t rest
turn_of scope again goes (Done list) t rest is = reading (record { value = list; state = t; rest = rest }) is

some_of : (asks : Kinds CxxState) (fallback : Fallback CxxState) (inner : Readers CxxState) (scope n : ℕ) (so_far : ParameterTypes) → so_far.scope ≡ scope → (state : CxxState) (ahead : Ahead) → Reading (OfScope scope) (repeat (parameter_step asks fallback inner) (parameters_over asks) n so_far state ahead)
unfolding repeat
some_of asks fallback inner scope zero so_far is state ahead = over_of asks scope so_far state ahead
some_of asks fallback inner scope (suc n) so_far is state ahead = reading_then (parameter_step_of asks fallback inner scope so_far is state ahead) (turn_of scope (repeat (parameter_step asks fallback inner) (parameters_over asks) n) (some_of asks fallback inner scope n))

turn_result_of : (scope : ℕ) (turn : Turn ParameterTypes ParameterTypes) (state : CxxState) (ahead : Ahead) → TurnOfScope scope turn → Reading (OfScope scope) (turn_result turn state ahead)
turn_result_of scope (More list) state ahead is = reading (record { value = list; state = state; rest = ahead }) is
turn_result_of scope (Done list) state ahead is = reading (record { value = list; state = state; rest = ahead }) is

list_of : (asks : Kinds CxxState) (fallback : Fallback CxxState) (inner : Readers CxxState) (scope : ℕ) (state : CxxState) (ahead : Ahead) → Reading (OfScope scope) (list_at asks fallback inner scope state ahead)
unfolding list_at some_parameters
list_of asks fallback inner scope state ahead =
    if_reading (is_punct punct.RIGHT_PARENTHESIS (kind_ahead ahead)) (reading (record { value = no_parameters scope; state = state; rest = behind ahead }) refl) (
    if_reading (is_void_list ahead) (reading (record { value = no_parameters scope; state = state; rest = behind (behind ahead) }) refl) (
    if_reading (is_punct punct.ELLIPSIS (kind_ahead ahead)) (reading_then (list_ended_of scope (no_parameters scope) refl state ahead) (turn_result_of scope))
    (some_of asks fallback inner scope limits.MOST_ARGUMENTS (no_parameters scope) refl state ahead)))

reading_is : (scope : ℕ) {r : Answer (Got CxxState ParameterTypes)} (one : Got CxxState ParameterTypes) → Reading (OfScope scope) r → r ≡ Ok one → one.value.scope ≡ scope
reading_is scope one (reading other is) e = subst (λ (g : Got CxxState ParameterTypes). g.value.scope ≡ scope) (by e) is
  where
    same : Answer (Got CxxState ParameterTypes) → Answer (Got CxxState ParameterTypes) → Type 0
    same x y = x ≡ y

    by : same (Ok other) (Ok one) → other ≡ one
    by e = cc
reading_is scope one (no_reading why) e = absurd cc

-- in the scope of the unit's own readers
parameters_begin : (room : ℕ) {fallback : Fallback CxxState} → FallbackTells IsLater Told fallback → {inner : Readers CxxState} → ReadersTell IsLater Told inner → EachBrings ListBegun (parameters_at (asked room).kinds fallback inner)
unfolding parameters_at asking
parameters_begin room {fallback = f} fallback {inner = i} inner state ahead =
    brings_list (list_begins (list_at (asked room).kinds f i) (parameter_list_tells later_is_told (kinds_tell room) fallback inner) (λ scope s ahead one e. reading_is scope one (list_of (asked room).kinds f i scope s ahead) e) state ahead)
  where
    brings_list : {r : Answer (Got CxxState ParameterTypes)} → ListIn state r → Brings ListBegun state r
    brings_list (list_in one later begun) = brings one later.grown begun
    brings_list (no_list why) = brings_none why

-- ---- the knot

member_grows : (path : CxxPath) (state : CxxState) → Grows state (enter_member path state)
unfolding enter_member
member_grows path state = by (region_of state.graph state.here.scope path)
  where
    found : (where_ : Region) (x : Found) → Grows state (entered_found (last_part path.parts) where_ x state)
    found where_ (sought.Ambiguous one two) = no_growth _
    found where_ (sought.Set targets) = it_grows (tt, at_scope (scope_of_region where_) state) (grown_same state (at_scope (scope_of_region where_) state) refl)
    found where_ (sought.Member class of) = entered of
      where
        entered : (of : MemberFound) → Grows state (entered_member (last_part path.parts) class of state)
        entered member_found.Empty = no_growth _
        entered (member_found.Set targets bases) = it_grows (tt, at_scope (scope_of_class state.graph class) state) (grown_same state (at_scope (scope_of_class state.graph class) state) refl)
        entered (member_found.Ambiguous one two) = no_growth _
    found where_ sought.Empty = no_growth _

    by : (o : Answer Region) → Grows state (o >>= λ where_. entered_found (last_part path.parts) where_ (sought_in state.graph any_name where_ (name_in path)) state)
    by (Ok where_) = found where_ (sought_in state.graph any_name where_ (name_in path))
    by (Err why) = no_growth why

each_grows : (room : ℕ) → EachGrows (asked room).kinds
unfolding asking
each_grows room = record { entered = member_grows }

begins_at : (room : ℕ) → ReadersBegin (inner_at room).types
unfolding both
begins_at zero = record {
  tells = (both_tell zero).types;
  pointed = λ naming state ahead. brings_none _;
  referred = λ naming state ahead. brings_none _;
  grouped = λ naming state ahead. brings_none _;
  parameters = λ state ahead. brings_none _;
}
begins_at (suc room) =
    let kinds = kinds_tell room in
    let inside = begins_at room in
    let at = phrases_tell room inside.tells in
    record {
      tells = (both_tell (suc room)).types;
      pointed = pointed_begins kinds (each_grows room) inside;
      referred = referred_begins kinds (each_grows room) inside;
      grouped = grouped_begins kinds (each_grows room) inside;
      parameters = parameters_begin room (fallback_at_tells later_is_told (asked room) (offers_tell room) at (both_tell room).phrases) inside.tells;
    }

-- clause 8: each list that a declarator brings has begun
pub declarator_has_begun : (room : ℕ) (naming : Naming) → EachBrings Begun (declarator_at (asked room).kinds (inner_at room).types naming)
declarator_has_begun room naming = declarator_begins (kinds_tell room) (each_grows room) (begins_at room) naming
