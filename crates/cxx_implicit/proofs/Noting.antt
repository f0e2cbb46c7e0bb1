-- What one more fact changes.
use Rattle.std.specs.Prelude.{ℕ, zero, suc, ◌≡◌, ◌+◌, ◌<◌, ◌≤◌, ◌||◌, Bool, true, false, if◌then◌else◌, List, [], ◌∷◌, ◌++◌, filter, length, nat_eq, take, Option, Some, None, Result, Ok, Err, OnOk, OnErr, refl}
use Rattle.std.specs.List.{list_any, slice_get}
use Rattle.std.specs.Option.{option_map}
use Rattle.std.proofs.Common.{ap, sym, subst, ◌∙◌, arith, append_assoc, append-nil, length-append}
use Rattle.std.proofs.lemmas.Bool.{eqb-true, eq-eqb}
use Rattle.std.proofs.lemmas.List.Elements.{filter-append, filter_map-append}
use Rattle.std.proofs.lemmas.List.Folds.{list_any-append}
use Rattle.cxx_model.specs.declared.facts.Entity.{Entity}
use Rattle.cxx_model.specs.declared.facts.Entity.TheVariants as entity
use Rattle.cxx_model.specs.declared.facts.Fact.{Fact}
use Rattle.cxx_model.specs.declared.facts.ScopeKind.{ScopeKind}
use Rattle.cxx_model.specs.declared.facts.ScopeKind.TheVariants as kind
use Rattle.cxx_model.specs.declared.types.ClassId.{ClassId}
use Rattle.cxx_model.specs.declared.types.ScopeId.{ScopeId}
use Rattle.cxx_model.specs.Facts.Declarations as facts
use Rattle.cxx_model.specs.Facts.Declarations.{CxxFact, CxxGraph, Declares, fact_at, facts_at}
use Rattle.cxx_model.specs.Facts.Entities.{scope_kinds}
use Rattle.cxx_model.specs.Facts.Fitted.{AreFactsBelow, IsEntityBelow}
use Rattle.cxx_model.specs.Facts.Graph.{EachMayFollow, Graph, InRange, MayFollow, IsUnitScope, count, counted, scopes}
use Rattle.cxx_model.specs.Types.Trees.{CxxType}
use Rattle.cxx_meaning.specs.Lookups.Member.{class_of_scope, is_of_class}
use Rattle.cxx_implicit.specs.declared.index.SpecialMembers.{SpecialMembers}
use Rattle.cxx_implicit.specs.declared.specials.Special.{Special}
use Rattle.cxx_implicit.specs.Members.{concerned, declarations_of, is_constructor, is_copy_assignment, is_copy_assignment_of_const, is_copy_constructor, is_copy_constructor_of_const, is_said_of, part_in}
use Rattle.cxx_implicit.specs.Noted.{AreSameKept, AreScoped, ArePartsNoted, IsNoted, Notes, class_in_kind, kinds_in, parts_in, said_class, special_in, special_of, with_fact}
use Rattle.cxx_implicit.specs.Rows.{row_at}

-- ---- tests

or_false : (b : Bool) → (b || false) ≡ b
or_false true = refl
or_false false = refl

any_last : {X : Type 0} (test : X → Bool) (xs : List X) (x : X) → list_any test (xs ++ x ∷ []) ≡ (list_any test xs || test x)
any_last test xs x = list_any-append test xs (x ∷ []) ∙ ap (λ b. list_any test xs || b) (or_false (test x))

abbrev one_special : Bool → Bool → Bool → Bool → Bool → Special
one_special a b c d e = record { constructor = a; copy_constructor = b; copies_const = c; copy_assignment = d; assigns_const = e }

same_specials : (a b c d e v w x y z : Bool) → a ≡ v → b ≡ w → c ≡ x → d ≡ y → e ≡ z → one_special a b c d e ≡ one_special v w x y z
same_specials a b c d e v w x y z one two three four five =
    ap (λ q. one_special q b c d e) one ∙ ap (λ q. one_special v q c d e) two ∙ ap (λ q. one_special v w q d e) three ∙ ap (λ q. one_special v w x q e) four ∙ ap (one_special v w x y) five

-- a scope says nothing of a class
scope_says : (class : ℕ) (fact : CxxFact) (parent : Option ScopeId) (k : ScopeKind) (special : Special) → with_fact class (record fact { what = facts.scope parent k }) special ≡ special
scope_says class fact parent k s =
    same_specials (s.constructor || false) (s.copy_constructor || false) (s.copies_const || false) (s.copy_assignment || false) (s.assigns_const || false) s.constructor s.copy_constructor s.copies_const s.copy_assignment s.assigns_const
    (or_false s.constructor) (or_false s.copy_constructor) (or_false s.copies_const) (or_false s.copy_assignment) (or_false s.assigns_const)

pub nothing_said : (b : Bool) (class : ℕ) (fact : CxxFact) (parent : Option ScopeId) (k : ScopeKind) (special : Special) → fact.what ≡ facts.scope parent k → (if b then with_fact class fact special else special) ≡ special
nothing_said false class fact parent k special is = refl
nothing_said true class fact parent k special is = ap (λ what. with_fact class (record fact { what = what }) special) is ∙ scope_says class fact parent k special

-- what some declarations are, with one more
special_more : (class : ℕ) (xs : List CxxFact) (fact : CxxFact) → special_of class (xs ++ fact ∷ []) ≡ with_fact class fact (special_of class xs)
special_more class xs fact =
    let s : Special = special_of class (xs ++ fact ∷ []) in
    let t : Special = with_fact class fact (special_of class xs) in
    same_specials s.constructor s.copy_constructor s.copies_const s.copy_assignment s.assigns_const t.constructor t.copy_constructor t.copies_const t.copy_assignment t.assigns_const
    (any_last (λ (f : CxxFact). is_constructor f.what) xs fact) (any_last (is_copy_constructor class) xs fact) (any_last (is_copy_constructor_of_const class) xs fact) (any_last (is_copy_assignment class) xs fact) (any_last (is_copy_assignment_of_const class) xs fact)

abbrev pub one_part : Option ClassId → List ClassId
one_part None = []
one_part (Some part) = part ∷ []

parts_more : (xs : List CxxFact) (fact : CxxFact) → parts_in (xs ++ fact ∷ []) ≡ parts_in xs ++ one_part (part_in fact.what)
parts_more xs fact = filter_map-append (λ (f : CxxFact). part_in f.what) xs (fact ∷ []) ∙ ap (λ (ps : List ClassId). parts_in xs ++ ps) (by (part_in fact.what) refl)
  where
    by : (o : Option ClassId) → part_in fact.what ≡ o → parts_in (fact ∷ []) ≡ one_part (part_in fact.what)
    by None is = rw is refl
    by (Some part) is = rw is refl

-- ---- scopes

kinds_last : (all : List CxxFact) (fact : CxxFact) → scope_kinds (all ++ fact ∷ []) ≡ scope_kinds all ++ kinds_in fact.what
kinds_last [] fact = by fact.what
  where
    by : (what : Declares) → scope_kinds (record fact { what = what } ∷ []) ≡ kinds_in what
    by (facts.scope parent kind) = refl
    by _ = refl
kinds_last (x ∷ xs) fact = by x.what (kinds_last xs fact)
  where
    by : (what : Declares) → scope_kinds (xs ++ fact ∷ []) ≡ scope_kinds xs ++ kinds_in fact.what → scope_kinds (record x { what = what } ∷ (xs ++ fact ∷ [])) ≡ scope_kinds (record x { what = what } ∷ xs) ++ kinds_in fact.what
    by (facts.scope parent kind) rest = ap (λ (kinds : List ScopeKind). kind ∷ kinds) rest
    by _ rest = rest

-- the kinds of scopes that are there stay
get_front : {X : Type 0} (xs ys : List X) (n : ℕ) → n < length xs → slice_get (xs ++ ys) n ≡ slice_get xs n
get_front [] ys n less = absurd (omega (arith, less))
get_front (x ∷ xs) ys zero less = refl
get_front (x ∷ xs) ys (suc n) less = get_front xs ys n (omega (arith, less))

class_by_kind : (all : List CxxFact) (scope : ScopeId) → class_of_scope all scope ≡ class_in_kind (slice_get (scope_kinds all) scope.0)
class_by_kind all scope = by (slice_get (scope_kinds all) scope.0) refl
  where
    by : (o : Option ScopeKind) → slice_get (scope_kinds all) scope.0 ≡ o → class_of_scope all scope ≡ class_in_kind (slice_get (scope_kinds all) scope.0)
    by None is = rw is refl
    by (Some (kind.Class class)) is = rw is refl
    by (Some kind.Space) is = rw is refl
    by (Some (kind.Block function)) is = rw is refl
    by (Some kind.Parameters) is = rw is refl

scoped_more : (count more : ℕ) (xs : List CxxFact) → count ≤ more → AreScoped count xs → AreScoped more xs
scoped_more count more [] le ok = tt
scoped_more count more (x ∷ xs) le ok = (omega (arith, ok.0), scoped_more count more xs le ok.1)

scoped_last : (count : ℕ) (xs : List CxxFact) (fact : CxxFact) → AreScoped count xs → fact.scope < count → AreScoped count (xs ++ fact ∷ [])
scoped_last count [] fact ok less = (less, tt)
scoped_last count (x ∷ xs) fact ok less = (ok.0, scoped_last count xs fact ok.1 less)

-- ---- what is said of a class

filter_same : (p q : CxxFact → Bool) (count : ℕ) (xs : List CxxFact) → ((fact : CxxFact) → fact.scope < count → p fact ≡ q fact) → AreScoped count xs → filter p xs ≡ filter q xs
filter_same p q count [] same ok = refl
filter_same p q count (x ∷ xs) same ok = by (filter_same p q count xs same ok.1) (q x) refl
  where
    by : filter p xs ≡ filter q xs → (b : Bool) → q x ≡ b → filter p (x ∷ xs) ≡ filter q (x ∷ xs)
    by rest true is = (let also : p x ≡ true = same x ok.0 ∙ is in rw (also, is) (ap (λ (ys : List CxxFact). x ∷ ys) rest))
    by rest false is = (let also : p x ≡ false = same x ok.0 ∙ is in rw (also, is) rest)

abbrev one_if : CxxFact → Bool → List CxxFact
one_if fact true = fact ∷ []
one_if fact false = []

module _ (before : List CxxFact) (fact : CxxFact) (scoped : AreScoped (length (scope_kinds before)) before) where
  abbrev whole : List CxxFact
  whole = before ++ fact ∷ []

  same_holder : (scope : ScopeId) → scope.0 < length (scope_kinds before) → class_of_scope whole scope ≡ class_of_scope before scope
  same_holder scope less =
      class_by_kind whole scope ∙ ap (λ (ks : List ScopeKind). class_in_kind (slice_get ks scope.0)) (kinds_last before fact) ∙ ap class_in_kind (get_front (scope_kinds before) (kinds_in fact.what) scope.0 less) ∙ sym (class_by_kind before scope)

  said_same : (class : ℕ) (one : CxxFact) → one.scope < length (scope_kinds before) → is_said_of whole class one ≡ is_said_of before class one
  said_same class one less = ap (λ (o : Option ClassId). is_of_class (record { 0 = class }) (concerned o one.what)) (same_holder (record { 0 = one.scope }) less)

  filter_one : (p : CxxFact → Bool) → filter p (fact ∷ []) ≡ one_if fact (p fact)
  filter_one p = by (p fact) refl
    where
      by : (b : Bool) → p fact ≡ b → filter p (fact ∷ []) ≡ one_if fact (p fact)
      by true is = rw is refl
      by false is = rw is refl

  declarations_more : (class : ℕ) → declarations_of whole class ≡ declarations_of before class ++ one_if fact (is_said_of whole class fact)
  declarations_more class =
      filter-append (is_said_of whole class) before (fact ∷ [])
      ∙ ap (λ (xs : List CxxFact). xs ++ filter (is_said_of whole class) (fact ∷ [])) (filter_same (is_said_of whole class) (is_said_of before class) (length (scope_kinds before)) before (said_same class) scoped)
      ∙ ap (λ (xs : List CxxFact). declarations_of before class ++ xs) (filter_one (is_said_of whole class))

-- ---- scopes that are there

scopes_counted : (types : List CxxType) (raw : List Fact) → length (scope_kinds (facts_at types raw)) ≡ scopes raw
scopes_counted types [] = refl
scopes_counted types (fact ∷ raw) = by fact.what (scopes_counted types raw)
  where
    by : (what : Entity) → length (scope_kinds (facts_at types raw)) ≡ scopes raw → length (scope_kinds (facts_at types (record fact { what = what } ∷ raw))) ≡ scopes (record fact { what = what } ∷ raw)
    by (entity.Scope parent k) rest = omega (arith, rest)
    by _ rest = rest

counted_plus : (b : Bool) (m n : ℕ) → counted b (m + n) ≡ counted b m + n
counted_plus true m n = omega arith
counted_plus false m n = refl

count_append : (test : Entity → Bool) (one two : List Fact) → count test (one ++ two) ≡ count test one + count test two
count_append test [] two = (let e : count test two ≡ 0 + count test two = omega arith in e)
count_append test (x ∷ xs) two = ap (counted (test x.what)) (count_append test xs two) ∙ counted_plus (test x.what) (count test xs) (count test two)

pub scopes_append : (one two : List Fact) → scopes (one ++ two) ≡ scopes one + scopes two
scopes_append one two = count_append _ one two

-- a fact stands in a scope that is there
fact_there : (graph : Graph) (before others : List Fact) (fact : Fact) → MayFollow (record graph { facts = before }) fact → fact.scope.0 < scopes (before ++ fact ∷ others)
fact_there graph [] others fact ok =
    let unit : IsUnitScope fact = ok in
    let first : fact.scope.0 ≡ 0 = ap (λ (s : ScopeId). s.0) unit.1 in
    let whole : scopes (fact ∷ others) ≡ scopes (fact ∷ []) + scopes others = scopes_append (fact ∷ []) others in
    let one : scopes (fact ∷ []) ≡ 1 = rw unit.0 (refl) in
    omega arith
fact_there graph (one ∷ before) others fact ok =
    let whole : scopes ((one ∷ before) ++ fact ∷ others) ≡ scopes (one ∷ before) + scopes (fact ∷ others) = scopes_append (one ∷ before) (fact ∷ others) in
    let at : fact.scope.0 < scopes (one ∷ before) = ok.0 in
    omega arith

all_there : (graph : Graph) (before facts : List Fact) (n : ℕ) (fact : Fact) → EachMayFollow graph before facts → slice_get facts n ≡ Some fact → fact.scope.0 < scopes (before ++ facts)
all_there graph before [] n fact each is = absurd cc
all_there graph before (x ∷ xs) zero fact each is = (let same : x ≡ fact = cc in subst (λ (f : Fact). f.scope.0 < scopes (before ++ x ∷ xs)) same (fact_there graph before xs x each.0))
all_there graph before (x ∷ xs) (suc n) fact each is = subst (λ (fs : List Fact). fact.scope.0 < scopes fs) (append_assoc before (x ∷ []) xs) (all_there graph (before ++ x ∷ []) xs n fact each.1 is)

-- ---- the last of some facts

last_taken : (all : List CxxFact) (n : ℕ) (fact : CxxFact) → n + 1 ≡ length all → slice_get all n ≡ Some fact → all ≡ take n all ++ fact ∷ []
last_taken [] n fact last there = absurd (omega (arith, last))
last_taken (x ∷ []) zero fact last there = (let same : x ≡ fact = cc in ap (λ (y : CxxFact). y ∷ []) same)
last_taken (x ∷ y ∷ ys) zero fact last there = absurd (omega (arith, last))
last_taken (x ∷ xs) (suc n) fact last there = (let less : n + 1 ≡ length xs = omega (arith, last) in ap (λ (ys : List CxxFact). x ∷ ys) (last_taken xs n fact less there))

get-at : (types : List CxxType) (all : List Fact) (n : ℕ) → slice_get (facts_at types all) n ≡ option_map (fact_at types) (slice_get all n)
get-at types [] n = refl
get-at types (fact ∷ all) zero = refl
get-at types (fact ∷ all) (suc n) = get-at types all n

length-kept : (types : List CxxType) (all : List Fact) → length (facts_at types all) ≡ length all
length-kept types [] = refl
length-kept types (fact ∷ all) = ap suc (length-kept types all)

pub entity_below : (count : ℕ) (all : List Fact) (number : ℕ) (fact : Fact) → AreFactsBelow count all → slice_get all number ≡ Some fact → IsEntityBelow count fact.what
entity_below count [] number fact below there = absurd (cc)
entity_below count (x ∷ xs) zero fact below there = (let same : x ≡ fact = cc in subst (λ (f : Fact). IsEntityBelow count f.what) same below.0.what)
entity_below count (x ∷ xs) (suc number) fact below there = entity_below count xs number fact below.1 there

-- ---- what is kept

module _ (fact : CxxFact) (n : ℕ) (xs : List CxxFact) where
  specials_by : (b : Bool) (old new : Special) → new ≡ (if b then with_fact n fact old else old) → old ≡ special_of n xs → new ≡ special_of n (xs ++ one_if fact b)
  specials_by true old new is same = is ∙ ap (with_fact n fact) same ∙ sym (special_more n xs fact)
  specials_by false old new is same = is ∙ same ∙ ap (special_of n) (sym (append-nil xs))

  abbrev part_if : Bool → Option ClassId → List ClassId
  part_if true part = one_part part
  part_if false part = []

  parts_if : (b : Bool) → parts_in xs ++ part_if b (part_in fact.what) ≡ parts_in (xs ++ one_if fact b)
  parts_if true = sym (parts_more xs fact)
  parts_if false = append-nil (parts_in xs) ∙ ap parts_in (sym (append-nil xs))

  no_part : (b : Bool) → part_if b None ≡ []
  no_part true = refl
  no_part false = refl

  with_none : (old new tail : List ClassId) → new ≡ old → old ≡ parts_in xs → tail ≡ [] → new ≡ parts_in xs ++ tail
  with_none old new tail is same none = is ∙ same ∙ sym (append-nil (parts_in xs)) ∙ ap (λ (ps : List ClassId). parts_in xs ++ ps) (sym none)

  parts_by : (part class : Option ClassId) (old new : List (List ClassId)) → ArePartsNoted part class old new → row_at old n ≡ parts_in xs → row_at new n ≡ parts_in xs ++ part_if (is_of_class (record { 0 = n }) class) part
  parts_by None class old new is same = with_none (row_at old n) (row_at new n) (part_if (is_of_class (record { 0 = n }) class) None) (is n) same (no_part (is_of_class (record { 0 = n }) class))
  parts_by (Some part) None old new is same = with_none (row_at old n) (row_at new n) [] (is n) same refl
  parts_by (Some part) (Some class) old new is same = by (nat_eq class.0 n) refl
    where
      by : (b : Bool) → nat_eq class.0 n ≡ b → row_at new n ≡ parts_in xs ++ part_if (nat_eq class.0 n) (Some part)
      by true e =
          let equal : class.0 ≡ n = eqb-true class.0 n e in
          let here : row_at new n ≡ row_at old n ++ part ∷ [] = subst (λ (m : ℕ). row_at new m ≡ row_at old m ++ part ∷ []) equal is.here in
          rw e (here ∙ ap (λ (ps : List ClassId). ps ++ part ∷ []) same)
      by false e =
          let apart : n ≡ class.0 → ⊥ = λ equal. (let wrong : true ≡ false = sym (eq-eqb class.0 n (sym equal)) ∙ e in cc) in
          rw e (is.others n apart ∙ same ∙ sym (append-nil (parts_in xs)))

-- given the facts before, and that the scope of one more is there behind it
kept_more : (before : List CxxFact) (fact : CxxFact) (old new : SpecialMembers) → Notes old before → IsNoted fact old new → fact.scope < length (scope_kinds (before ++ fact ∷ [])) → Notes new (before ++ fact ∷ [])
kept_more before fact old new noted is there = record {
  scopes = kinds;
  scoped = scoped_last (length (scope_kinds (before ++ fact ∷ []))) before fact (scoped_more (length (scope_kinds before)) (length (scope_kinds (before ++ fact ∷ []))) before more noted.scoped) there;
  specials = specials;
  parts = parts;
}
  where
    kinds : new.scopes.items ≡ scope_kinds (before ++ fact ∷ [])
    kinds = is.scopes ∙ ap (λ (ks : List ScopeKind). ks ++ kinds_in fact.what) noted.scopes ∙ sym (kinds_last before fact)

    more : length (scope_kinds before) ≤ length (scope_kinds (before ++ fact ∷ []))
    more = (let e : length (scope_kinds (before ++ fact ∷ [])) ≡ length (scope_kinds before ++ kinds_in fact.what) = ap (λ (ks : List ScopeKind). length ks) (kinds_last before fact) in omega (arith, length-append (scope_kinds before) (kinds_in fact.what)))

    class : said_class new.scopes.items fact ≡ concerned (class_of_scope (before ++ fact ∷ []) (record { 0 = fact.scope })) fact.what
    class = ap (λ (ks : List ScopeKind). said_class ks fact) kinds ∙ ap (λ (o : Option ClassId). concerned o fact.what) (sym (class_by_kind (before ++ fact ∷ []) (record { 0 = fact.scope })))

    said : (n : ℕ) → is_of_class (record { 0 = n }) (said_class new.scopes.items fact) ≡ is_said_of (before ++ fact ∷ []) n fact
    said n = ap (λ (o : Option ClassId). is_of_class (record { 0 = n }) o) class

    same : (n : ℕ) → declarations_of before n ++ one_if fact (is_of_class (record { 0 = n }) (said_class new.scopes.items fact)) ≡ declarations_of (before ++ fact ∷ []) n
    same n = ap (λ (b : Bool). declarations_of before n ++ one_if fact b) (said n) ∙ sym (declarations_more before fact noted.scoped n)

    specials : (n : ℕ) → special_in new.specials.items n ≡ special_of n (declarations_of (before ++ fact ∷ []) n)
    specials n =
        specials_by fact n (declarations_of before n) (is_of_class (record { 0 = n }) (said_class new.scopes.items fact)) (special_in old.specials.items n) (special_in new.specials.items n) (is.said.specials n) (noted.specials n)
        ∙ ap (special_of n) (same n)

    parts : (n : ℕ) → row_at new.parts n ≡ parts_in (declarations_of (before ++ fact ∷ []) n)
    parts n =
        parts_by fact n (declarations_of before n) (part_in fact.what) (said_class new.scopes.items fact) old.parts new.parts is.said.parts (noted.parts n)
        ∙ parts_if fact n (declarations_of before n) (is_of_class (record { 0 = n }) (said_class new.scopes.items fact))
        ∙ ap parts_in (same n)

noted_more : (types : List CxxType) (graph : Graph) (n : ℕ) (fact : Fact) (old new : SpecialMembers) → InRange graph → n + 1 ≡ length graph.facts → slice_get graph.facts n ≡ Some fact → Notes old (take n (facts_at types graph.facts)) → IsNoted (fact_at types fact) old new → Notes new (facts_at types graph.facts)
noted_more types graph n fact old new range last there before is =
    let raw : List Fact = graph.facts in
    let ends : facts_at types raw ≡ take n (facts_at types raw) ++ fact_at types fact ∷ [] = last_taken (facts_at types raw) n (fact_at types fact) (last ∙ sym (length-kept types raw)) (get-at types raw n ∙ ap (option_map (fact_at types)) there) in
    let stands : fact.scope.0 < scopes raw = all_there graph [] raw n fact range.facts there in
    let counted : fact.scope.0 < length (scope_kinds (facts_at types raw)) = subst (λ (m : ℕ). fact.scope.0 < m) (sym (scopes_counted types raw)) stands in
    let inside : fact.scope.0 < length (scope_kinds (take n (facts_at types raw) ++ fact_at types fact ∷ [])) = subst (λ (fs : List CxxFact). fact.scope.0 < length (scope_kinds fs)) ends counted in
    subst (λ (fs : List CxxFact). Notes new fs) (sym ends) (kept_more (take n (facts_at types raw)) (fact_at types fact) old new before is inside)

noted_same : (all : List CxxFact) (old new : SpecialMembers) → Notes old all → AreSameKept old new → Notes new all
noted_same all old new before same = record { scopes = same.scopes ∙ before.scopes; scoped = before.scoped; specials = λ n. same.specials n ∙ before.specials n; parts = λ n. same.parts n ∙ before.parts n }

on_ok : {E : Type 0} (result : Result Unit E) (P Q : Type 0) → (P → Q) → OnOk result P → OnOk result Q
on_ok (Ok x) P Q f p = f p
on_ok (Err e) P Q f p = tt

on_err : {E : Type 0} (result : Result Unit E) (P Q : Type 0) → (P → Q) → OnErr result P → OnErr result Q
on_err (Ok x) P Q f p = tt
on_err (Err e) P Q f p = f p

pub noted_ok : {E : Type 0} (result : Result Unit E) (types : List CxxType) (graph : Graph) (n : ℕ) (fact : Fact) (old new : SpecialMembers) → InRange graph → n + 1 ≡ length graph.facts → slice_get graph.facts n ≡ Some fact → Notes old (take n (facts_at types graph.facts)) → OnOk result (IsNoted (fact_at types fact) old new) → OnOk result (Notes new (facts_at types graph.facts))
noted_ok result types graph n fact old new range last there before is = on_ok result (IsNoted (fact_at types fact) old new) (Notes new (facts_at types graph.facts)) (λ one. noted_more types graph n fact old new range last there before one) is

pub noted_err : {E : Type 0} (result : Result Unit E) (all : List CxxFact) (old new : SpecialMembers) → Notes old all → OnErr result (AreSameKept old new) → OnErr result (Notes new all)
noted_err result all old new before same = on_err result (AreSameKept old new) (Notes new all) (noted_same all old new before) same
