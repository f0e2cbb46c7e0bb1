-- The type of an object, by its declarations one after another (3.5, 8.3.4).
use Rattle.std.proofs.Common.{◌≡◌, ℕ, zero, suc, ◌+◌, ◌<◌, ◌≤◌, ℤ, Bool, true, false, ◌&&◌, List, [], ◌∷◌, ◌++◌, length, drop, get_or, Option, Some, None, option_map, refl, ap, subst, sym, ◌∙◌, arith}
use Rattle.std.specs.Prelude.{if◌then◌else◌, nat_eq, nat_lt}
use Rattle.std.specs.List.{slice_get}
use Rattle.std.proofs.lemmas.Bool.Decides.{nat_tests}
use Rattle.cxx_model.specs.declared.facts.Access.{Access}
use Rattle.cxx_model.specs.declared.facts.Entity.{Entity}
use Rattle.cxx_model.specs.declared.facts.Entity.TheVariants as entity
use Rattle.cxx_model.specs.declared.facts.Fact.{Fact}
use Rattle.cxx_model.specs.declared.facts.Name.{Name}
use Rattle.cxx_model.specs.declared.facts.ScopeKind.TheVariants as kind
use Rattle.cxx_model.specs.declared.place.Place.{Place}
use Rattle.cxx_model.specs.declared.types.ScopeId.{ScopeId}
use Rattle.cxx_model.specs.Facts.Declarations as facts
use Rattle.cxx_model.specs.Facts.Declarations.{CxxFact, CxxName, Declares, declares_at, fact_at, facts_at}
use Rattle.cxx_model.specs.Facts.Graph.{EachMayFollow, Graph, InRange, MayFollow}
use Rattle.cxx_model.specs.Facts.Entities.{first_or, has_no_bound, is_seen, object_said, object_type, type_said, ObjectSaid}
use Rattle.cxx_model.specs.Facts.Fitted.{AreFactsBelow, IsEntityBelow, IsFactBelow}
use Rattle.cxx_model.specs.Types.Trees.{CxxType}
use Rattle.cxx_model.specs.Types.Numbers.{type_at}
use Rattle.cxx_constant.proofs.Scanned.{fact_is}
use Rattle.cxx_reading.specs.Declaring.{declares_by}
use Rattle.cxx_reading.specs.State.{CxxState}
use Rattle.cxx_tree.specs.Held.{Held, meaning}
use Rattle.cxx_answers.specs.Typed.{bounded, entity_in, entity_number, first_of, first_said, or_later, typed, typed_bounded}

-- ---- the entity of a declaration

entity_there : (types : List CxxType) (one : Option Fact) (number : ℕ) (state : CxxState) → slice_get state.graph.facts number ≡ option_map (fact_at types) one → entity_number state number ≡ entity_in types number one
entity_there types None number state is = ap (λ o. first_of number (declares_by o)) is
entity_there types (Some fact) number state is = ap (λ o. first_of number (declares_by o)) is

pub entity_is : (held : Held) (number : ℕ) → entity_number (meaning held) number ≡ entity_in held.types number (slice_get held.graph.facts number)
unfolding meaning
entity_is held number = entity_there held.types (slice_get held.graph.facts number) number (meaning held) (fact_is held.types held.graph.facts number)

-- ---- what is said of an object

-- the first of these types
abbrev first_in : List ObjectSaid → Option CxxType
first_in [] = None
first_in (said ∷ others) = Some said.of

abbrev bounded_in : List ObjectSaid → Option CxxType
bounded_in [] = None
bounded_in (said ∷ others) = or_later (bounded (Some said.of)) (bounded_in others)

-- behind one without a bound
behind_by : (said next : ObjectSaid) (others : List ObjectSaid) (b : Bool) → has_no_bound said.of ≡ true → type_said (said ∷ others) ≡ or_later (bounded_in others) (Some said.of) → has_no_bound next.of ≡ b → type_said (said ∷ next ∷ others) ≡ or_later (bounded_in (next ∷ others)) (Some said.of)
behind_by said next others true e rest f = rw (e, f) (rw e at rest)
behind_by said next others false e rest f = rw (e, f) refl

behind_open : (said : ObjectSaid) (others : List ObjectSaid) → has_no_bound said.of ≡ true → type_said (said ∷ others) ≡ or_later (bounded_in others) (Some said.of)
behind_open said [] e = rw e refl
behind_open said (next ∷ others) e = behind_by said next others (has_no_bound next.of) e (behind_open said others e) refl

said_is : (all : List ObjectSaid) → type_said all ≡ or_later (bounded_in all) (first_in all)
said_is [] = refl
said_is (said ∷ others) = by (has_no_bound said.of) refl
  where
    by : (b : Bool) → has_no_bound said.of ≡ b → type_said (said ∷ others) ≡ or_later (bounded_in (said ∷ others)) (Some said.of)
    by true e = behind_open said others e ∙ sym (rw e refl)
    by false e = rw e refl

seen : (all : List CxxFact) (cut number : ℕ) (fact : CxxFact) → number < cut → is_seen all cut number fact ≡ true
seen all cut number fact within = let e : nat_lt number cut ≡ true = grind (arith, nat_tests) in rw e refl

one_first : (t s : Bool) (of : CxxType) (value : Option ℤ) (later : List ObjectSaid) → s ≡ true → first_in (if t && s then record { of = of; value = value } ∷ later else later) ≡ or_later (if t then Some of else None) (first_in later)
one_first true s of value later e = rw e refl
one_first false s of value later e = refl

one_bounded : (t s : Bool) (of : CxxType) (value : Option ℤ) (later : List ObjectSaid) → s ≡ true → bounded_in (if t && s then record { of = of; value = value } ∷ later else later) ≡ or_later (bounded (if t then Some of else None)) (bounded_in later)
one_bounded true s of value later e = rw e refl
one_bounded false s of value later e = refl

scanned_first : (all : List CxxFact) (entity number : ℕ) (left : List CxxFact) → number + length left ≤ length all → first_in (object_said all (length all) entity number left) ≡ first_said (typed entity) number left
scanned_first all entity number [] within = refl
scanned_first all entity number (fact ∷ others) within =
    by fact.place fact.scope fact.name fact.access fact.what (let e : number + suc (length others) ≤ length all = within in let f : number < length all = omega arith in f) (scanned_first all entity (suc number) others (omega arith))
  where
    by : (place : Place) (scope : ℕ) (name : CxxName) (rights : Access) (what : Declares) → number < length all → first_in (object_said all (length all) entity (suc number) others) ≡ first_said (typed entity) (suc number) others → first_in (object_said all (length all) entity number (record { place = place; scope = scope; name = name; access = rights; what = what } ∷ others)) ≡ first_said (typed entity) number (record { place = place; scope = scope; name = name; access = rights; what = what } ∷ others)
    by place scope name rights (facts.object of member is_mutable value first) here rest =
        one_first (nat_eq (first_or number first) entity) (is_seen all (length all) number (record { place = place; scope = scope; name = name; access = rights; what = facts.object of member is_mutable value first })) of value (object_said all (length all) entity (suc number) others) (seen all (length all) number (record { place = place; scope = scope; name = name; access = rights; what = facts.object of member is_mutable value first }) here)
        ∙ ap (or_later (typed entity number (facts.object of member is_mutable value first))) rest
    by place scope name rights (facts.scope parent kind) here rest = rest
    by place scope name rights (facts.function of member flags defaults first) here rest = rest
    by place scope name rights (facts.template template member defaults is_explicit first) here rest = rest
    by place scope name rights (facts.value_parameter depth index of) here rest = rest
    by place scope name rights (facts.injected class) here rest = rest
    by place scope name rights (facts.class class is_union) here rest = rest
    by place scope name rights (facts.complete class) here rest = rest
    by place scope name rights (facts.passed class) here rest = rest
    by place scope name rights (facts.ancestor class parent index access) here rest = rest
    by place scope name rights (facts.enumeration m) here rest = rest
    by place scope name rights (facts.enumerator m value) here rest = rest
    by place scope name rights (facts.synonym of) here rest = rest
    by place scope name rights (facts.namespace inner) here rest = rest
    by place scope name rights (facts.directive nominated) here rest = rest
    by place scope name rights (facts.using target) here rest = rest
    by place scope name rights (facts.friend class target) here rest = rest

scanned_bounded : (all : List CxxFact) (entity number : ℕ) (left : List CxxFact) → number + length left ≤ length all → bounded_in (object_said all (length all) entity number left) ≡ first_said (typed_bounded entity) number left
scanned_bounded all entity number [] within = refl
scanned_bounded all entity number (fact ∷ others) within =
    by fact.place fact.scope fact.name fact.access fact.what (let e : number + suc (length others) ≤ length all = within in let f : number < length all = omega arith in f) (scanned_bounded all entity (suc number) others (omega arith))
  where
    by : (place : Place) (scope : ℕ) (name : CxxName) (rights : Access) (what : Declares) → number < length all → bounded_in (object_said all (length all) entity (suc number) others) ≡ first_said (typed_bounded entity) (suc number) others → bounded_in (object_said all (length all) entity number (record { place = place; scope = scope; name = name; access = rights; what = what } ∷ others)) ≡ first_said (typed_bounded entity) number (record { place = place; scope = scope; name = name; access = rights; what = what } ∷ others)
    by place scope name rights (facts.object of member is_mutable value first) here rest =
        one_bounded (nat_eq (first_or number first) entity) (is_seen all (length all) number (record { place = place; scope = scope; name = name; access = rights; what = facts.object of member is_mutable value first })) of value (object_said all (length all) entity (suc number) others) (seen all (length all) number (record { place = place; scope = scope; name = name; access = rights; what = facts.object of member is_mutable value first }) here)
        ∙ ap (or_later (typed_bounded entity number (facts.object of member is_mutable value first))) rest
    by place scope name rights (facts.scope parent kind) here rest = rest
    by place scope name rights (facts.function of member flags defaults first) here rest = rest
    by place scope name rights (facts.template template member defaults is_explicit first) here rest = rest
    by place scope name rights (facts.value_parameter depth index of) here rest = rest
    by place scope name rights (facts.injected class) here rest = rest
    by place scope name rights (facts.class class is_union) here rest = rest
    by place scope name rights (facts.complete class) here rest = rest
    by place scope name rights (facts.passed class) here rest = rest
    by place scope name rights (facts.ancestor class parent index access) here rest = rest
    by place scope name rights (facts.enumeration m) here rest = rest
    by place scope name rights (facts.enumerator m value) here rest = rest
    by place scope name rights (facts.synonym of) here rest = rest
    by place scope name rights (facts.namespace inner) here rest = rest
    by place scope name rights (facts.directive nominated) here rest = rest
    by place scope name rights (facts.using target) here rest = rest
    by place scope name rights (facts.friend class target) here rest = rest

-- the type of an object once all facts are seen
pub object_type_is : (all : List CxxFact) (entity : ℕ) → object_type all entity (length all) ≡ or_later (first_said (typed_bounded entity) 0 all) (first_said (typed entity) 0 all)
object_type_is all entity =
    said_is (object_said all (length all) entity 0 all)
    ∙ (ap (λ one. or_later one (first_in (object_said all (length all) entity 0 all))) (scanned_bounded all entity 0 all (omega arith))
    ∙ ap (or_later (first_said (typed_bounded entity) 0 all)) (scanned_first all entity 0 all (omega arith)))

-- ---- before the first declaration of an object

within : {A : Type 0} (xs : List A) (i : ℕ) (x : A) → slice_get xs i ≡ Some x → i < length xs
within [] i x e = absurd (cc)
within (y ∷ ys) zero x e = omega arith
within (y ∷ ys) (suc i) x e = let less = within ys i x e in omega (arith, less)

other : (entity number : ℕ) (of : CxxType) → number < entity → (if nat_eq number entity then Some of else None) ≡ None
other entity number of less = let e : nat_eq number entity ≡ false = grind (arith, nat_tests) in rw e refl

last_length : {A : Type 0} (xs : List A) (x : A) → length (xs ++ x ∷ []) ≡ suc (length xs)
last_length [] x = refl
last_length (y ∷ ys) x = ap suc (last_length ys x)

-- what stands before an object declares it not: it names none that is later
earlier : (types : List CxxType) (graph : Graph) (number : ℕ) (before : List Fact) (place : Place) (scope : ScopeId) (name : Name) (rights : Access) (what : Entity) → length before < number → MayFollow (record graph { facts = before }) (record { place = place; scope = scope; name = name; access = rights; what = what }) → typed number (length before) (declares_at types what) ≡ None
earlier types graph number [] place scope name rights (entity.Object of member is_mutable value first) less h = (let no : entity.Object of member is_mutable value first ≡ entity.Scope None kind.Space = h.0 in absurd cc)
earlier types graph number (x ∷ xs) place scope name rights (entity.Object of member is_mutable value None) less h = other number (length (x ∷ xs)) (type_at types of.0) less
earlier types graph number (x ∷ xs) place scope name rights (entity.Object of member is_mutable value (Some first)) less h = (let below = within (x ∷ xs) first.0 h.1.0 h.1.1 in other number first.0 (type_at types of.0) (omega (arith, below, less)))
earlier types graph number before place scope name rights _ less h = refl

abbrev IsSilent : (ℕ → Declares → Option CxxType) → ℕ → List CxxType → Graph → Type 0
IsSilent says number types graph = (before : List Fact) (fact : Fact) → length before < number → MayFollow (record graph { facts = before }) fact → says (length before) (declares_at types fact.what) ≡ None

from_first : (says : ℕ → Declares → Option CxxType) (types : List CxxType) (graph : Graph) (number k : ℕ) (before later : List Fact) → IsSilent says number types graph → EachMayFollow graph before later → length before + k ≡ number → first_said says (length before) (facts_at types later) ≡ first_said says number (facts_at types (drop k later))
from_first says types graph number zero before later silent follows e = (let same : length before ≡ number = omega (arith, e) in ap (λ n. first_said says n (facts_at types later)) same)
from_first says types graph number (suc k) before [] silent follows e = refl
from_first says types graph number (suc k) before (fact ∷ later) silent follows e =
    let longer = last_length before fact in
    let next : length (before ++ fact ∷ []) + k ≡ number = omega (arith, e, longer) in
    ap (λ own. or_later own (first_said says (suc (length before)) (facts_at types later))) (silent before fact (omega (arith, e)) follows.0)
    ∙ (ap (λ n. first_said says n (facts_at types later)) (sym longer)
    ∙ from_first says types graph number k (before ++ fact ∷ []) later silent follows.1 next)

pub typed_skipped : (types : List CxxType) (graph : Graph) (number : ℕ) → InRange graph → first_said (typed number) number (facts_at types (drop number graph.facts)) ≡ first_said (typed number) 0 (facts_at types graph.facts)
typed_skipped types graph number range = sym (from_first (typed number) types graph number number [] graph.facts (λ before fact less follows. earlier types graph number before fact.place fact.scope fact.name fact.access fact.what less follows) range.facts (omega arith))

pub bounded_skipped : (types : List CxxType) (graph : Graph) (number : ℕ) → InRange graph → first_said (typed_bounded number) number (facts_at types (drop number graph.facts)) ≡ first_said (typed_bounded number) 0 (facts_at types graph.facts)
bounded_skipped types graph number range = sym (from_first (typed_bounded number) types graph number number [] graph.facts (λ before fact less follows. ap bounded (earlier types graph number before fact.place fact.scope fact.name fact.access fact.what less follows)) range.facts (omega arith))

-- ---- the facts of a graph name types that are there

below_at : (count : ℕ) (all : List Fact) (n : ℕ) (fact : Fact) → AreFactsBelow count all → n < length all → fact ≡ get_or all n fact → IsFactBelow count fact
below_at count [] n fact below within is = absurd (omega arith)
below_at count (first ∷ all) zero fact below within is = subst (λ (f : Fact). IsFactBelow count f) (sym is) below.0
below_at count (first ∷ all) (suc n) fact below within is = below_at count all n fact below.1 (omega arith) is

pub fact_below : (count : ℕ) (seen all : List Fact) (n : ℕ) (fact : Fact) → AreFactsBelow count all → seen ≡ all → n < length all → fact ≡ get_or seen n fact → IsEntityBelow count fact.what
fact_below count seen all n fact below same within is = (below_at count all n fact below within (is ∙ ap (λ (xs : List Fact). get_or xs n fact) same)).what
