-- The value of an object, by its declarations one after another.
use Rattle.std.proofs.Common.{◌≡◌, ℕ, zero, suc, ◌+◌, ◌<◌, ◌≤◌, ℤ, Bool, true, false, ◌&&◌, List, [], ◌∷◌, ◌++◌, length, drop, Option, Some, None, option_map, refl, ap, sym, ◌∙◌, arith}
use Rattle.std.specs.Prelude.{if◌then◌else◌, nat_eq, nat_lt}
use Rattle.std.specs.List.{slice_get}
use Rattle.std.proofs.lemmas.Bool.Decides.{nat_tests}
use Rattle.cxx_model.specs.declared.facts.Access.{Access}
use Rattle.cxx_model.specs.declared.facts.Entity.{Entity}
use Rattle.cxx_model.specs.declared.facts.Entity.TheVariants as entity
use Rattle.cxx_model.specs.declared.facts.Fact.{Fact}
use Rattle.cxx_model.specs.declared.facts.Name.{Name}
use Rattle.cxx_model.specs.declared.facts.ScopeKind.TheVariants as kind
use Rattle.cxx_model.specs.declared.place.Place.{Place}
use Rattle.cxx_model.specs.declared.types.ScopeId.{ScopeId}
use Rattle.cxx_model.specs.Facts.Declarations as facts
use Rattle.cxx_model.specs.Facts.Declarations.{CxxFact, CxxName, Declares, declares_at, fact_at, facts_at}
use Rattle.cxx_model.specs.Facts.Graph.{EachMayFollow, Graph, InRange, MayFollow}
use Rattle.cxx_model.specs.Facts.Entities.{first_or, is_seen, object_said, object_value, value_said, ObjectSaid}
use Rattle.cxx_model.specs.Types.Trees.{CxxType}
use Rattle.cxx_constant.specs.Given.{first_given, given, or_given}

seen : (all : List CxxFact) (cut number : ℕ) (fact : CxxFact) → number < cut → is_seen all cut number fact ≡ true
seen all cut number fact within = let e : nat_lt number cut ≡ true = grind (arith, nat_tests) in rw e refl

one : (t s : Bool) (of : CxxType) (value : Option ℤ) (later : List ObjectSaid) → s ≡ true → value_said (if t && s then record { of = of; value = value } ∷ later else later) ≡ or_given (if t then value else None) (value_said later)
one true s of (Some value) later e = rw e refl
one true s of None later e = rw e refl
one false s of value later e = refl

scanned : (all : List CxxFact) (entity number : ℕ) (left : List CxxFact) → number + length left ≤ length all → value_said (object_said all (length all) entity number left) ≡ first_given entity number left
scanned all entity number [] within = refl
scanned all entity number (fact ∷ others) within =
    by fact.place fact.scope fact.name fact.access fact.what (let e : number + suc (length others) ≤ length all = within in let f : number < length all = omega arith in f) (scanned all entity (suc number) others (omega arith))
  where
    by : (place : Place) (scope : ℕ) (name : CxxName) (rights : Access) (what : Declares) → number < length all → value_said (object_said all (length all) entity (suc number) others) ≡ first_given entity (suc number) others → value_said (object_said all (length all) entity number (record { place = place; scope = scope; name = name; access = rights; what = what } ∷ others)) ≡ first_given entity number (record { place = place; scope = scope; name = name; access = rights; what = what } ∷ others)
    by place scope name rights (facts.object of member is_mutable value first) here rest =
        one (nat_eq (first_or number first) entity) (is_seen all (length all) number (record { place = place; scope = scope; name = name; access = rights; what = facts.object of member is_mutable value first })) of value (object_said all (length all) entity (suc number) others) (seen all (length all) number (record { place = place; scope = scope; name = name; access = rights; what = facts.object of member is_mutable value first }) here)
        ∙ ap (or_given (if nat_eq (first_or number first) entity then value else None)) rest
    by place scope name rights (facts.scope parent kind) here rest = rest
    by place scope name rights (facts.function of member flags defaults first) here rest = rest
    by place scope name rights (facts.template template member defaults is_explicit first) here rest = rest
    by place scope name rights (facts.value_parameter depth index of) here rest = rest
    by place scope name rights (facts.injected class) here rest = rest
    by place scope name rights (facts.class class is_union) here rest = rest
    by place scope name rights (facts.complete class) here rest = rest
    by place scope name rights (facts.passed class) here rest = rest
    by place scope name rights (facts.ancestor class parent index access) here rest = rest
    by place scope name rights (facts.enumeration m) here rest = rest
    by place scope name rights (facts.enumerator m value) here rest = rest
    by place scope name rights (facts.synonym of) here rest = rest
    by place scope name rights (facts.namespace inner) here rest = rest
    by place scope name rights (facts.directive nominated) here rest = rest
    by place scope name rights (facts.using target) here rest = rest
    by place scope name rights (facts.friend class target) here rest = rest

-- what is known of an object once all facts are seen
pub value_is : (all : List CxxFact) (entity : ℕ) → object_value all entity (length all) ≡ first_given entity 0 all
value_is all entity = scanned all entity 0 all (omega arith)

pub fact_is : (types : List CxxType) (all : List Fact) (n : ℕ) → slice_get (facts_at types all) n ≡ option_map (fact_at types) (slice_get all n)
fact_is types [] n = refl
fact_is types (fact ∷ all) zero = refl
fact_is types (fact ∷ all) (suc n) = fact_is types all n

-- ---- before the first declaration of an object

within : {A : Type 0} (xs : List A) (i : ℕ) (x : A) → slice_get xs i ≡ Some x → i < length xs
within [] i x e = absurd (cc)
within (y ∷ ys) zero x e = omega arith
within (y ∷ ys) (suc i) x e = let less = within ys i x e in omega (arith, less)

other : (entity number : ℕ) (value : Option ℤ) → number < entity → (if nat_eq number entity then value else None) ≡ None
other entity number value less = let e : nat_eq number entity ≡ false = grind (arith, nat_tests) in rw e refl

last_length : {A : Type 0} (xs : List A) (x : A) → length (xs ++ x ∷ []) ≡ suc (length xs)
last_length [] x = refl
last_length (y ∷ ys) x = ap suc (last_length ys x)

-- what stands before an object declares it not: it names none that is later
earlier : (types : List CxxType) (graph : Graph) (number : ℕ) (before : List Fact) (place : Place) (scope : ScopeId) (name : Name) (rights : Access) (what : Entity) → length before < number → MayFollow (record graph { facts = before }) (record { place = place; scope = scope; name = name; access = rights; what = what }) → given number (length before) (declares_at types what) ≡ None
earlier types graph number [] place scope name rights (entity.Object of member is_mutable value first) less h = (let no : entity.Object of member is_mutable value first ≡ entity.Scope None kind.Space = h.0 in absurd cc)
earlier types graph number (x ∷ xs) place scope name rights (entity.Object of member is_mutable value None) less h = other number (length (x ∷ xs)) value less
earlier types graph number (x ∷ xs) place scope name rights (entity.Object of member is_mutable value (Some first)) less h = (let below = within (x ∷ xs) first.0 h.1.0 h.1.1 in other number first.0 value (omega (arith, below, less)))
earlier types graph number before place scope name rights _ less h = refl

from_first : (types : List CxxType) (graph : Graph) (number k : ℕ) (before later : List Fact) → EachMayFollow graph before later → length before + k ≡ number → first_given number (length before) (facts_at types later) ≡ first_given number number (facts_at types (drop k later))
from_first types graph number zero before later follows e = (let same : length before ≡ number = omega (arith, e) in ap (λ n. first_given number n (facts_at types later)) same)
from_first types graph number (suc k) before [] follows e = refl
from_first types graph number (suc k) before (fact ∷ later) follows e =
    let longer = last_length before fact in
    let next : length (before ++ fact ∷ []) + k ≡ number = omega (arith, e, longer) in
    ap (λ own. or_given own (first_given number (suc (length before)) (facts_at types later))) (earlier types graph number before fact.place fact.scope fact.name fact.access fact.what (omega (arith, e)) follows.0)
    ∙ ap (λ n. first_given number n (facts_at types later)) (sym longer)
    ∙ from_first types graph number k (before ++ fact ∷ []) later follows.1 next

pub skipped : (types : List CxxType) (graph : Graph) (number : ℕ) → InRange graph → first_given number number (facts_at types (drop number graph.facts)) ≡ first_given number 0 (facts_at types graph.facts)
skipped types graph number range = sym (from_first types graph number number [] graph.facts range.facts (omega arith))
