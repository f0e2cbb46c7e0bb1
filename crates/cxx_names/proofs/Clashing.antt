-- The first conflict is among the declarations of one name in scopes that are one.
use Rattle.std.proofs.Common.{drop, get_or, add-one, drop-cons, ◌≡◌, ℕ, zero, suc, ◌+◌, ◌<◌, ◌≤◌, Bool, true, false, not, cond, ◌&&◌, ◌||◌, nat_eq, nat_lt, List, [], ◌∷◌, ◌++◌, length, Option, Some, None, option_map, refl, sym, ap, ◌∙◌, subst, arith, eq-eqb}
use Rattle.std.specs.List.{list_any, slice_get}
use Rattle.std.specs.Option.{option_to_list}
use Rattle.std.proofs.lemmas.Bool.{eqb-true}
use Rattle.cxx_model.specs.declared.facts.Entity.{Entity}
use Rattle.cxx_model.specs.declared.facts.Entity.TheVariants as entity
use Rattle.cxx_model.specs.declared.facts.Fact.{Fact}
use Rattle.cxx_model.specs.declared.facts.ScopeKind.{ScopeKind}
use Rattle.cxx_model.specs.declared.facts.ScopeKind.TheVariants as kind
use Rattle.cxx_model.specs.declared.types.ClassId.{ClassId}
use Rattle.cxx_model.specs.declared.types.ScopeId.{ScopeId}
use Rattle.cxx_model.specs.Facts.Conflicts.{are_parameters, conflicts, conflict_among, declares_name, first_conflict, has_name, is_constructor, is_of_parameters, is_one_scope, is_outermost, is_class_scope, is_closed, of_one_name, same_name, scope_facts, stand_together}
use Rattle.cxx_model.specs.Facts.Declarations.{CxxFact, CxxGraph, CxxName, declares_at, fact_at, facts_at, graph_at, name_at, spelled, unnamed}
use Rattle.cxx_model.specs.declared.facts.Name.TheVariants as name
use Rattle.cxx_model.specs.declared.types.FactId.{FactId}
use Rattle.cxx_model.specs.Facts.Fitted.{AreFactsBelow, IsFactBelow}
use Rattle.cxx_model.specs.Facts.Entities.{has_end, scope_kinds}
use Rattle.cxx_model.specs.Facts.Graph.{Graph}
use Rattle.cxx_model.specs.Types.Trees.{CxxType}
use Rattle.cxx_reading.specs.Seen.{declared_from, declared_in, declares_in}
use Rattle.cxx_names.specs.declared.entry.Noted.{Noted}
use Rattle.cxx_names.proofs.Pairs.{plain_free}
use Rattle.cxx_names.specs.Looked.{looked_up, seen_by}
use Rattle.cxx_reading.specs.Linked.{clash_among, rescoped}
use Rattle.cxx_names.proofs.Looking.{facts_length}
use Rattle.cxx_names.proofs.Openings.{kinds_are}
use Rattle.cxx_names.specs.Clashes.{are_parameters_in, class_in, block_in, is_block_in, is_class_in, is_one_scope_in, IsNoTemplate, IsPlain, IsPlainEntity, stand_in, conflict_in, conflict_in_scopes, holder_of_block, sooner}
use Rattle.cxx_names.specs.Index.{blocks_from, is_outermost_kind, noted_by, scopes_of}

-- ---- the first of those that pass a test

abbrev conflict_where : (CxxFact → Bool) → CxxGraph → ℕ → List CxxFact → CxxFact → Option ℕ
conflict_where test graph number [] new = None
conflict_where test graph number (old ∷ others) new = cond (test old && conflicts graph number old new) (Some number) (conflict_where test graph (suc number) others new)

row_is : (scope : ℕ) (name : CxxName) (graph : CxxGraph) (number : ℕ) (facts : List CxxFact) (new : CxxFact) → conflict_in graph new (declared_from scope name number facts) ≡ conflict_where (declares_in scope name) graph number facts new
row_is scope name graph number [] new = refl
row_is scope name graph number (old ∷ others) new = by (declares_in scope name old) (row_is scope name graph (suc number) others new)
  where
    by : (t : Bool) → conflict_in graph new (declared_from scope name (suc number) others) ≡ conflict_where (declares_in scope name) graph (suc number) others new
        → conflict_in graph new (cond t (record { number = number; fact = old } ∷ declared_from scope name (suc number) others) (declared_from scope name (suc number) others)) ≡ cond (t && conflicts graph number old new) (Some number) (conflict_where (declares_in scope name) graph (suc number) others new)
    by true ih = ap (λ o. cond (conflicts graph number old new) (Some number) o) ih
    by false ih = ih

-- it has at least the first number
abbrev IsFrom : ℕ → Option ℕ → Type 0
IsFrom number None = Unit {0}
IsFrom number (Some n) = number ≤ n

from_later : (number : ℕ) (o : Option ℕ) → IsFrom (suc number) o → IsFrom number o
from_later number None from = tt
from_later number (Some n) from = omega arith

where_from : (test : CxxFact → Bool) (graph : CxxGraph) (number : ℕ) (facts : List CxxFact) (new : CxxFact) → IsFrom number (conflict_where test graph number facts new)
where_from test graph number [] new = tt
where_from test graph number (old ∷ others) new = by (test old && conflicts graph number old new) (conflict_where test graph (suc number) others new) (where_from test graph (suc number) others new)
  where
    by : (t : Bool) (later : Option ℕ) → IsFrom (suc number) later → IsFrom number (cond t (Some number) later)
    by true later from = omega arith
    by false later from = from_later number later from

lt_not : (m n : ℕ) → m ≤ n → nat_lt n m ≡ false
lt_not m n le = by (nat_lt n m) refl
  where
    by : (t : Bool) → nat_lt n m ≡ t → t ≡ false
    by true e = absurd (grind (arith, e, le))
    by false e = refl

lt_is : (m n : ℕ) → m < n → nat_lt m n ≡ true
lt_is m n lt = grind arith

sooner_here : (number : ℕ) (o : Option ℕ) → IsFrom number o → sooner (Some number) o ≡ Some number
sooner_here number None from = refl
sooner_here number (Some n) from = ap (λ t. cond t (Some n) (Some number)) (lt_not number n from)

sooner_there : (number : ℕ) (o : Option ℕ) → IsFrom (suc number) o → sooner o (Some number) ≡ Some number
sooner_there number None from = refl
sooner_there number (Some n) from = let lt : number < n = omega arith in ap (λ t. cond t (Some number) (Some n)) (lt_is number n lt)

-- the sooner of two is the first that passes one of both tests
sooner_is : (one two : CxxFact → Bool) (graph : CxxGraph) (number : ℕ) (facts : List CxxFact) (new : CxxFact)
    → sooner (conflict_where one graph number facts new) (conflict_where two graph number facts new) ≡ conflict_where (λ f. one f || two f) graph number facts new
sooner_is one two graph number [] new = refl
sooner_is one two graph number (old ∷ others) new =
    by (one old) (two old) (conflicts graph number old new) (conflict_where one graph (suc number) others new) (conflict_where two graph (suc number) others new)
    (where_from one graph (suc number) others new) (where_from two graph (suc number) others new) (sooner_is one two graph (suc number) others new)
  where
    later : Option ℕ
    later = conflict_where (λ f. one f || two f) graph (suc number) others new

    by : (p q c : Bool) (a b : Option ℕ) → IsFrom (suc number) a → IsFrom (suc number) b → sooner a b ≡ later → sooner (cond (p && c) (Some number) a) (cond (q && c) (Some number) b) ≡ cond ((p || q) && c) (Some number) later
    by true true true a b fa fb ih = sooner_here number (Some number) (omega arith)
    by true true false a b fa fb ih = ih
    by true false true a b fa fb ih = sooner_here number b (from_later number b fb)
    by true false false a b fa fb ih = ih
    by false true true a b fa fb ih = sooner_there number a fa
    by false true false a b fa fb ih = ih
    by false false c a b fa fb ih = ih

-- what conflicts passes the test
where_all : (test : CxxFact → Bool) (graph : CxxGraph) (number : ℕ) (facts : List CxxFact) (new : CxxFact) → ((n : ℕ) (old : CxxFact) → conflicts graph n old new ≡ true → test old ≡ true) → conflict_where test graph number facts new ≡ conflict_among graph number facts new
where_all test graph number [] new all = refl
where_all test graph number (old ∷ others) new all = by (test old) (conflicts graph number old new) refl refl (where_all test graph (suc number) others new all)
  where
    by : (t c : Bool) → test old ≡ t → conflicts graph number old new ≡ c → conflict_where test graph (suc number) others new ≡ conflict_among graph (suc number) others new
        → cond (t && c) (Some number) (conflict_where test graph (suc number) others new) ≡ cond c (Some number) (conflict_among graph (suc number) others new)
    by true c e f ih = ap (λ o. cond c (Some number) o) ih
    by false true e f ih = (let passes : test old ≡ true = all number old f in absurd (cc))
    by false false e f ih = ih

abbrev in_scopes : CxxName → List ScopeId → CxxFact → Bool
in_scopes name scopes old = list_any (λ (scope : ScopeId). declares_in scope.0 name old) scopes

row_in : (graph : CxxGraph) (new : CxxFact) (name : CxxName) (scope : ℕ) → conflict_in graph new (declared_in graph scope name) ≡ conflict_where (declares_in scope name) graph zero graph.facts new
unfolding declared_in
row_in graph new name scope = row_is scope name graph zero graph.facts new

or_assoc : (a b c : Bool) → ((a || b) || c) ≡ (a || (b || c))
or_assoc true b c = refl
or_assoc false b c = refl

where_alike : (one two : CxxFact → Bool) (graph : CxxGraph) (number : ℕ) (facts : List CxxFact) (new : CxxFact) → ((old : CxxFact) → one old ≡ two old) → conflict_where one graph number facts new ≡ conflict_where two graph number facts new
where_alike one two graph number [] new same = refl
where_alike one two graph number (old ∷ others) new same = ap (λ t. cond (t && conflicts graph number old new) (Some number) (conflict_where one graph (suc number) others new)) (same old) ∙ ap (λ o. cond (two old && conflicts graph number old new) (Some number) o) (where_alike one two graph (suc number) others new same)

scopes_are : (graph : CxxGraph) (new : CxxFact) (name : CxxName) (scopes : List ScopeId) (test : CxxFact → Bool)
    → conflict_in_scopes graph new name scopes (conflict_where test graph zero graph.facts new) ≡ conflict_where (λ f. test f || in_scopes name scopes f) graph zero graph.facts new
scopes_are graph new name [] test = where_alike test (λ f. test f || false) graph zero graph.facts new (λ old. by (test old))
  where
    by : (t : Bool) → t ≡ (t || false)
    by true = refl
    by false = refl
scopes_are graph new name (scope ∷ others) test =
    ap (conflict_in_scopes graph new name others) (ap (sooner (conflict_where test graph zero graph.facts new)) (row_in graph new name scope.0) ∙ sooner_is test (declares_in scope.0 name) graph zero graph.facts new)
    ∙ scopes_are graph new name others (λ f. test f || declares_in scope.0 name f)
    ∙ where_alike (λ f. (test f || declares_in scope.0 name f) || in_scopes name others f) (λ f. test f || in_scopes name (scope ∷ others) f) graph zero graph.facts new (λ old. or_assoc (test old) (declares_in scope.0 name old) (in_scopes name others old))

none_where : (graph : CxxGraph) (number : ℕ) (facts : List CxxFact) (new : CxxFact) → conflict_where (λ f. false) graph number facts new ≡ None
none_where graph number [] new = refl
none_where graph number (old ∷ others) new = none_where graph (suc number) others new

pub first_in_scopes : (graph : CxxGraph) (new : CxxFact) (name : CxxName) (scopes : List ScopeId) → ((n : ℕ) (old : CxxFact) → conflicts graph n old new ≡ true → in_scopes name scopes old ≡ true) → conflict_in_scopes graph new name scopes None ≡ first_conflict graph new
first_in_scopes graph new name scopes all =
    ap (conflict_in_scopes graph new name scopes) (sym (none_where graph zero graph.facts new))
    ∙ scopes_are graph new name scopes (λ f. false)
    ∙ where_all (λ f. in_scopes name scopes f) graph zero graph.facts new all

-- ---- scopes that are one

and_left : (a b : Bool) → (a && b) ≡ true → a ≡ true
and_left true b e = refl
and_left false b e = absurd (cc)

and_right : (a b : Bool) → (a && b) ≡ true → b ≡ true
and_right true b e = e
and_right false b e = absurd (cc)

abbrev seen_fact : CxxFact → Bool × ℕ
seen_fact fact = (is_outermost fact.what, fact.scope)

abbrev seen_noted : Noted → Bool × ℕ
seen_noted noted = (is_outermost_kind noted.kind, noted.parent.0)

same_outermost : (types : List CxxType) (fact : Fact) (parent : Option ScopeId) (k : ScopeKind) → seen_fact (fact_at types (record fact { what = entity.Scope parent k })) ≡ seen_noted (record { kind = k; parent = fact.scope })
same_outermost types fact parent kind.Space = refl
same_outermost types fact parent (kind.Class class) = refl
same_outermost types fact parent (kind.Block None) = refl
same_outermost types fact parent (kind.Block (Some function)) = refl
same_outermost types fact parent kind.Parameters = refl

pub scopes_seen : (types : List CxxType) (facts : List Fact) (n : ℕ) → option_map seen_fact (slice_get (scope_facts (facts_at types facts)) n) ≡ option_map seen_noted (slice_get (scopes_of facts) n)
scopes_seen types [] n = refl
scopes_seen types (fact ∷ facts) n = by fact.what n (scopes_seen types facts)
  where
    by : (what : Entity) (n : ℕ) → ((m : ℕ) → option_map seen_fact (slice_get (scope_facts (facts_at types facts)) m) ≡ option_map seen_noted (slice_get (scopes_of facts) m)) → option_map seen_fact (slice_get (scope_facts (fact_at types (record fact { what = what }) ∷ facts_at types facts)) n) ≡ option_map seen_noted (slice_get (option_to_list (noted_by fact.scope what) ++ scopes_of facts) n)
    by (entity.Scope parent k) zero rest = ap Some (same_outermost types fact parent k)
    by (entity.Scope parent k) (suc n) rest = rest n
    by _ n rest = rest n

pub record IsBlockIn (scopes : List Noted) (scope other : ℕ) : Type 0 where
  pub noted : Noted
  pub at : slice_get scopes scope ≡ Some noted
  pub outermost : is_outermost_kind noted.kind ≡ true
  pub parent : noted.parent.0 ≡ other

noted_seen : (o : Option Noted) (fact : CxxFact) → Some (seen_fact fact) ≡ option_map seen_noted o → (noted : Noted) × ((o ≡ Some noted) × (is_outermost fact.what ≡ is_outermost_kind noted.kind) × (fact.scope ≡ noted.parent.0))
noted_seen None fact e = absurd (cc)
noted_seen (Some noted) fact e = (let same : seen_fact fact ≡ seen_noted noted = cc in (noted, (refl, ap (λ v. v.0) same, ap (λ v. v.1) same)))

of_parameters : (all : List CxxFact) (scopes : List Noted) (scope other : ℕ) (o : Option CxxFact) → slice_get (scope_facts all) scope ≡ o → option_map seen_fact o ≡ option_map seen_noted (slice_get scopes scope) → is_of_parameters all scope other ≡ true → IsBlockIn scopes scope other
of_parameters all scopes scope other None e v t = absurd (let f = rw e at t in cc)
of_parameters all scopes scope other (Some fact) e v t =
    let f : (is_outermost fact.what && (nat_eq fact.scope other && are_parameters (slice_get (scope_kinds all) other))) ≡ true = rw e at t in
    let s = noted_seen (slice_get scopes scope) fact v in
    record {
      noted = s.0;
      at = s.1.0;
      outermost = sym s.1.1 ∙ and_left (is_outermost fact.what) (nat_eq fact.scope other && are_parameters (slice_get (scope_kinds all) other)) f;
      parent = sym s.1.2 ∙ eqb-true fact.scope other (and_left (nat_eq fact.scope other) (are_parameters (slice_get (scope_kinds all) other)) (and_right (is_outermost fact.what) (nat_eq fact.scope other && are_parameters (slice_get (scope_kinds all) other)) f));
    }

-- ---- the scopes in which a declaration may conflict

any_append : (test : ScopeId → Bool) (xs ys : List ScopeId) → list_any test (xs ++ ys) ≡ (list_any test xs || list_any test ys)
any_append test [] ys = refl
any_append test (x ∷ xs) ys = ap (λ t. test x || t) (any_append test xs ys) ∙ sym (or_assoc (test x) (list_any test xs) (list_any test ys))

any_alike : (one two : ScopeId → Bool) (xs : List ScopeId) → ((x : ScopeId) → one x ≡ two x) → list_any one xs ≡ list_any two xs
any_alike one two [] same = refl
any_alike one two (x ∷ xs) same = ap (λ t. t || list_any one xs) (same x) ∙ ap (λ t. two x || t) (any_alike one two xs same)

or_true : (a : Bool) → (a || true) ≡ true
or_true true = refl
or_true false = refl

and_true : (a : Bool) → (a && true) ≡ a
and_true true = refl
and_true false = refl

block_there : (number scope k : ℕ) (scopes : List Noted) → IsBlockIn scopes k scope → list_any (λ (t : ScopeId). nat_eq (number + k) t.0) (blocks_from number scope scopes) ≡ true
block_there number scope k [] block = absurd (let e = block.at in cc)
block_there number scope zero (noted ∷ scopes) block =
    let same : noted ≡ block.noted = (let e : Some noted ≡ Some block.noted = block.at in cc) in
    let k : is_outermost_kind noted.kind ≡ true = ap (λ n. is_outermost_kind n.kind) same ∙ block.outermost in
    let p : nat_eq noted.parent.0 scope ≡ true = eq-eqb noted.parent.0 scope (ap (λ n. n.parent.0) same ∙ block.parent) in
    let z : nat_eq (number + zero) number ≡ true = eq-eqb (number + zero) number (omega arith) in
    rw (k, p) (ap (λ t. t || list_any (λ (t : ScopeId). nat_eq (number + zero) t.0) (blocks_from (suc number) scope scopes)) z)
block_there number scope (suc k) (noted ∷ scopes) block =
    by (is_outermost_kind noted.kind && nat_eq noted.parent.0 scope)
    (ap (λ (n : ℕ). list_any (λ (t : ScopeId). nat_eq n t.0) (blocks_from (suc number) scope scopes)) place ∙ block_there (suc number) scope k scopes (record { noted = block.noted; at = block.at; outermost = block.outermost; parent = block.parent }))
  where
    place : number + suc k ≡ suc number + k
    place = omega arith

    by : (t : Bool) → list_any (λ (t : ScopeId). nat_eq (number + suc k) t.0) (blocks_from (suc number) scope scopes) ≡ true → list_any (λ (t : ScopeId). nat_eq (number + suc k) t.0) (cond t (record { 0 = number } ∷ blocks_from (suc number) scope scopes) (blocks_from (suc number) scope scopes)) ≡ true
    by true rest = ap (λ t. nat_eq (number + suc k) number || t) rest ∙ or_true (nat_eq (number + suc k) number)
    by false rest = rest

abbrev pub scopes_of_one : List Noted → ScopeId → List ScopeId
scopes_of_one scopes scope = scope ∷ (holder_of_block (slice_get scopes scope.0) ++ blocks_from zero scope.0 scopes)

scope_among : (types : List CxxType) (facts : List Fact) (old : ℕ) (scope : ScopeId) → is_one_scope (facts_at types facts) old scope.0 ≡ true → list_any (λ (t : ScopeId). nat_eq old t.0) (scopes_of_one (scopes_of facts) scope) ≡ true
scope_among types facts old scope e = by (nat_eq old scope.0) (is_of_parameters all old scope.0) (is_of_parameters all scope.0 old) refl refl refl e
  where
    all : List CxxFact
    all = facts_at types facts

    scopes : List Noted
    scopes = scopes_of facts

    test : ScopeId → Bool
    test t = nat_eq old t.0

    holds : IsBlockIn scopes scope.0 old → list_any test (holder_of_block (slice_get scopes scope.0)) ≡ true
    holds block =
        ap (λ o. list_any test (holder_of_block o)) block.at
        ∙ (ap (λ t. list_any test (cond t (block.noted.parent ∷ []) [])) block.outermost
        ∙ ap (λ t. t || false) (eq-eqb old block.noted.parent.0 (sym block.parent)))

    inside : IsBlockIn scopes old scope.0 → list_any test (blocks_from zero scope.0 scopes) ≡ true
    inside block = (let z : old ≡ zero + old = omega arith in ap (λ (n : ℕ). list_any (λ (t : ScopeId). nat_eq n t.0) (blocks_from zero scope.0 scopes)) z ∙ block_there zero scope.0 old scopes block)

    by : (a b c : Bool) → nat_eq old scope.0 ≡ a → is_of_parameters all old scope.0 ≡ b → is_of_parameters all scope.0 old ≡ c → (nat_eq old scope.0 || (is_of_parameters all old scope.0 || is_of_parameters all scope.0 old)) ≡ true → list_any test (scopes_of_one scopes scope) ≡ true
    by true b c p q r e = ap (λ t. t || list_any test (holder_of_block (slice_get scopes scope.0) ++ blocks_from zero scope.0 scopes)) p
    by false true c p q r e =
        ap (λ t. nat_eq old scope.0 || t) (any_append test (holder_of_block (slice_get scopes scope.0)) (blocks_from zero scope.0 scopes) ∙ (ap (λ t. list_any test (holder_of_block (slice_get scopes scope.0)) || t) (inside (of_parameters all scopes old scope.0 (slice_get (scope_facts all) old) refl (scopes_seen types facts old) q)) ∙ or_true (list_any test (holder_of_block (slice_get scopes scope.0)))))
        ∙ or_true (nat_eq old scope.0)
    by false false true p q r e =
        ap (λ t. nat_eq old scope.0 || t) (any_append test (holder_of_block (slice_get scopes scope.0)) (blocks_from zero scope.0 scopes) ∙ ap (λ t. t || list_any test (blocks_from zero scope.0 scopes)) (holds (of_parameters all scopes scope.0 old (slice_get (scope_facts all) scope.0) refl (scopes_seen types facts scope.0) r)))
        ∙ or_true (nat_eq old scope.0)
    by false false false p q r e = absurd (let f = rw (p, q, r) at e in cc)

or_left : (a b : Bool) → b ≡ false → (a || b) ≡ true → a ≡ true
or_left true b f e = refl
or_left false b f e = absurd (cc)

and_none : (a b : Bool) → b ≡ false → (a && b) ≡ false
and_none true b f = f
and_none false b f = refl

named : (old : CxxFact) (word : List ℕ) (new : CxxFact) → new.name ≡ spelled word → is_constructor new.what ≡ false → of_one_name old new ≡ true → (scope : ℕ) → declares_in scope (spelled word) old ≡ nat_eq old.scope scope
named old word new name free e scope =
    let declared = and_left (declares_name old.what) (declares_name new.what) (and_left (declares_name old.what && declares_name new.what) ((has_name old.name && same_name old.name new.name) || (is_constructor old.what && is_constructor new.what)) e) in
    let either = and_right (declares_name old.what && declares_name new.what) ((has_name old.name && same_name old.name new.name) || (is_constructor old.what && is_constructor new.what)) e in
    let same = and_right (has_name old.name) (same_name old.name new.name) (or_left (has_name old.name && same_name old.name new.name) (is_constructor old.what && is_constructor new.what) (and_none (is_constructor old.what) (is_constructor new.what) free) either) in
    let spelled_same : same_name old.name (spelled word) ≡ true = ap (λ n. same_name old.name n) (sym name) ∙ same in
    ap (λ t. nat_eq old.scope scope && (t && (true && same_name old.name (spelled word)))) declared ∙ (ap (λ t. nat_eq old.scope scope && t) spelled_same ∙ and_true (nat_eq old.scope scope))

-- what conflicts with a declaration of a name declares the name in a scope that is one with its own
conflict_among_scopes : (types : List CxxType) (graph : Graph) (new : CxxFact) (scope : ScopeId) (word : List ℕ) → new.scope ≡ scope.0 → new.name ≡ spelled word → is_constructor new.what ≡ false
    → (n : ℕ) (old : CxxFact) → conflicts (graph_at types graph) n old new ≡ true → in_scopes (spelled word) (scopes_of_one (scopes_of graph.facts) scope) old ≡ true
conflict_among_scopes types graph new scope word place name free n old e =
    let all = facts_at types graph.facts in
    let one = and_left (is_one_scope all old.scope new.scope) (of_one_name old new && ((are_parameters (slice_get (scope_kinds all) old.scope) || are_parameters (slice_get (scope_kinds all) new.scope)) || not (stand_together (graph_at types graph) n old (length all) new))) e in
    let rest = and_right (is_one_scope all old.scope new.scope) (of_one_name old new && ((are_parameters (slice_get (scope_kinds all) old.scope) || are_parameters (slice_get (scope_kinds all) new.scope)) || not (stand_together (graph_at types graph) n old (length all) new))) e in
    let same = and_left (of_one_name old new) ((are_parameters (slice_get (scope_kinds all) old.scope) || are_parameters (slice_get (scope_kinds all) new.scope)) || not (stand_together (graph_at types graph) n old (length all) new)) rest in
    any_alike (λ (t : ScopeId). declares_in t.0 (spelled word) old) (λ (t : ScopeId). nat_eq old.scope t.0) (scopes_of_one (scopes_of graph.facts) scope) (λ t. named old word new name free same t.0)
    ∙ scope_among types graph.facts old.scope scope (ap (is_one_scope all old.scope) (sym place) ∙ one)

pub first_among : (types : List CxxType) (graph : Graph) (new : CxxFact) (scope : ScopeId) (word : List ℕ) → new.scope ≡ scope.0 → new.name ≡ spelled word → is_constructor new.what ≡ false
    → conflict_in_scopes (graph_at types graph) new (spelled word) (scopes_of_one (scopes_of graph.facts) scope) None ≡ first_conflict (graph_at types graph) new
first_among types graph new scope word place name free = first_in_scopes (graph_at types graph) new (spelled word) (scopes_of_one (scopes_of graph.facts) scope) (conflict_among_scopes types graph new scope word place name free)

-- what has no name, and is no constructor, conflicts with nothing
nothing : (graph : CxxGraph) (number : ℕ) (facts : List CxxFact) (new : CxxFact) → ((n : ℕ) (old : CxxFact) → conflicts graph n old new ≡ false) → conflict_among graph number facts new ≡ None
nothing graph number [] new none = refl
nothing graph number (old ∷ others) new none = ap (λ t. cond t (Some number) (conflict_among graph (suc number) others new)) (none number old) ∙ nothing graph (suc number) others new none

-- ---- the test of two scopes

pub parameters_are : (types : List CxxType) (facts : List Fact) (n : ℕ) → are_parameters_in (slice_get (scopes_of facts) n) ≡ are_parameters (slice_get (scope_kinds (facts_at types facts)) n)
parameters_are types [] n = refl
parameters_are types (fact ∷ facts) n = by fact.what n (parameters_are types facts)
  where
    by : (what : Entity) (n : ℕ) → ((m : ℕ) → are_parameters_in (slice_get (scopes_of facts) m) ≡ are_parameters (slice_get (scope_kinds (facts_at types facts)) m)) → are_parameters_in (slice_get (option_to_list (noted_by fact.scope what) ++ scopes_of facts) n) ≡ are_parameters (slice_get (scope_kinds (fact_at types (record fact { what = what }) ∷ facts_at types facts)) n)
    by (entity.Scope parent k) zero rest = refl
    by (entity.Scope parent k) (suc n) rest = rest n
    by _ n rest = rest n

block_is : (all : List CxxFact) (scopes : List Noted) (scope other : ℕ) (o : Option CxxFact) (p : Option Noted) → slice_get (scope_facts all) scope ≡ o → option_map seen_fact o ≡ option_map seen_noted p → are_parameters_in (slice_get scopes other) ≡ are_parameters (slice_get (scope_kinds all) other) → block_in scopes other p ≡ is_of_parameters all scope other
block_is all scopes scope other None None e v k = rw e refl
block_is all scopes scope other (Some fact) None e v k = absurd (cc)
block_is all scopes scope other None (Some noted) e v k = absurd (cc)
block_is all scopes scope other (Some fact) (Some noted) e v k =
    let same : seen_fact fact ≡ seen_noted noted = cc in
    let a : is_outermost_kind noted.kind ≡ is_outermost fact.what = ap (λ w. w.0) (sym same) in
    let b : noted.parent.0 ≡ fact.scope = ap (λ w. w.1) (sym same) in
    rw e (ap (λ t. t && (nat_eq noted.parent.0 other && are_parameters_in (slice_get scopes other))) a ∙ (ap (λ m. is_outermost fact.what && (nat_eq m other && are_parameters_in (slice_get scopes other))) b ∙ ap (λ t. is_outermost fact.what && (nat_eq fact.scope other && t)) k))

one_scope_is : (types : List CxxType) (facts : List Fact) (one two : ℕ) → is_one_scope_in (scopes_of facts) one two ≡ is_one_scope (facts_at types facts) one two
one_scope_is types facts one two =
    ap (λ t. nat_eq one two || (t || is_block_in (scopes_of facts) two one)) (at one two)
    ∙ ap (λ t. nat_eq one two || (is_of_parameters (facts_at types facts) one two || t)) (at two one)
  where
    at : (scope other : ℕ) → is_block_in (scopes_of facts) scope other ≡ is_of_parameters (facts_at types facts) scope other
    at scope other = block_is (facts_at types facts) (scopes_of facts) scope other (slice_get (scope_facts (facts_at types facts)) scope) (slice_get (scopes_of facts) scope) refl (scopes_seen types facts scope) (parameters_are types facts other)

pub classes_are : (types : List CxxType) (facts : List Fact) (n : ℕ) → is_class_in (slice_get (scopes_of facts) n) ≡ is_class_scope (facts_at types facts) n
classes_are types facts n = by (slice_get (scopes_of facts) n) (kinds_are types facts n)
  where
    of_kind : (noted : Noted) (k : ScopeKind) → slice_get (scope_kinds (facts_at types facts)) n ≡ Some k → is_class_in (Some (record noted { kind = k })) ≡ is_class_scope (facts_at types facts) n
    of_kind noted kind.Space e = rw e refl
    of_kind noted (kind.Class class) e = rw e refl
    of_kind noted (kind.Block function) e = rw e refl
    of_kind noted kind.Parameters e = rw e refl

    by : (o : Option Noted) → slice_get (scope_kinds (facts_at types facts)) n ≡ option_map (λ noted. noted.kind) o → is_class_in o ≡ is_class_scope (facts_at types facts) n
    by None e = rw e refl
    by (Some noted) e = of_kind noted noted.kind e

abbrev class_by : Option ScopeKind → Option ClassId
class_by (Some (kind.Class class)) = Some class
class_by _ = None

abbrev ended_in : List CxxType → List Fact → Option ClassId → Bool
ended_in types facts None = false
ended_in types facts (Some class) = has_end class.0 (facts_at types facts)

closed_as : (types : List CxxType) (facts : List Fact) (o : Option ScopeKind) (n : ℕ) → slice_get (scope_kinds (facts_at types facts)) n ≡ o → is_closed (facts_at types facts) n ≡ ended_in types facts (class_by o)
closed_as types facts None n e = rw e refl
closed_as types facts (Some kind.Space) n e = rw e refl
closed_as types facts (Some (kind.Class class)) n e = rw e refl
closed_as types facts (Some (kind.Block function)) n e = rw e refl
closed_as types facts (Some kind.Parameters) n e = rw e refl

-- 9.2: whether the end of the class of a scope was read
pub closed_is : (types : List CxxType) (facts : List Fact) (scopes : List Noted) (n : ℕ) (class : Option ClassId) (closed : Bool) → scopes ≡ scopes_of facts → class ≡ class_in (slice_get scopes n) → closed ≡ ended_in types facts class → closed ≡ is_closed (facts_at types facts) n
closed_is types facts scopes n class closed s c e =
    e ∙ ap (ended_in types facts) (c ∙ ap (λ xs. class_in (slice_get xs n)) s ∙ by (slice_get (scopes_of facts) n))
    ∙ sym (closed_as types facts (slice_get (scope_kinds (facts_at types facts)) n) n refl ∙ ap (λ o. ended_in types facts (class_by o)) (kinds_are types facts n))
  where
    of_kind : (noted : Noted) (k : ScopeKind) → class_in (Some (record noted { kind = k })) ≡ class_by (Some k)
    of_kind noted kind.Space = refl
    of_kind noted (kind.Class class) = refl
    of_kind noted (kind.Block function) = refl
    of_kind noted kind.Parameters = refl

    by : (o : Option Noted) → class_in o ≡ class_by (option_map (λ noted. noted.kind) o)
    by None = refl
    by (Some noted) = of_kind noted noted.kind

-- ---- the test of two declarations

pub clash_is : (types : List CxxType) (graph : Graph) (scopes : List Noted) (number : ℕ) (scope : ScopeId) (old new : Fact) (one named first second in_class closed stands : Bool) → scopes ≡ scopes_of graph.facts
    → one ≡ is_one_scope_in scopes scope.0 new.scope.0 → named ≡ of_one_name (fact_at types old) (fact_at types new) → first ≡ are_parameters_in (slice_get scopes scope.0) → second ≡ are_parameters_in (slice_get scopes new.scope.0)
    → in_class ≡ (is_class_in (slice_get scopes scope.0) || is_class_in (slice_get scopes new.scope.0))
    → closed ≡ (is_closed (facts_at types graph.facts) scope.0 || is_closed (facts_at types graph.facts) new.scope.0)
    → stands ≡ stand_in (graph_at types graph) in_class closed number (declares_at types old.what) (length graph.facts) (declares_at types new.what)
    → (one && (named && ((first || second) || not stands))) ≡ conflicts (graph_at types graph) number (rescoped scope.0 (fact_at types old)) (fact_at types new)
clash_is types graph scopes number scope old new one named first second in_class closed stands s p q r t c d w =
    let all = facts_at types graph.facts in
    let named_too = of_one_name (fact_at types old) (fact_at types new) in
    let classes : in_class ≡ (is_class_scope all scope.0 || is_class_scope all new.scope.0) = c ∙ (ap (λ xs. is_class_in (slice_get xs scope.0) || is_class_in (slice_get xs new.scope.0)) s ∙ (ap (λ b. b || is_class_in (slice_get (scopes_of graph.facts) new.scope.0)) (classes_are types graph.facts scope.0) ∙ ap (λ b. is_class_scope all scope.0 || b) (classes_are types graph.facts new.scope.0))) in
    let closed_too = is_closed all scope.0 || is_closed all new.scope.0 in
    let together : stands ≡ stand_together (graph_at types graph) number (rescoped scope.0 (fact_at types old)) (length all) (fact_at types new) =
    w
    ∙ (ap (λ b. stand_in (graph_at types graph) in_class b number (declares_at types old.what) (length graph.facts) (declares_at types new.what)) d
    ∙ (ap (λ k. stand_in (graph_at types graph) in_class closed_too number (declares_at types old.what) k (declares_at types new.what)) (sym (facts_length types graph.facts))
    ∙ ap (λ b. stand_in (graph_at types graph) b closed_too number (declares_at types old.what) (length all) (declares_at types new.what)) classes)) in
    ap (λ b. b && (named && ((first || second) || not stands))) (p ∙ (ap (λ xs. is_one_scope_in xs scope.0 new.scope.0) s ∙ one_scope_is types graph.facts scope.0 new.scope.0))
    ∙ (ap (λ b. is_one_scope all scope.0 new.scope.0 && (b && ((first || second) || not stands))) q
    ∙ (ap (λ b. is_one_scope all scope.0 new.scope.0 && (named_too && ((b || second) || not stands))) (r ∙ (ap (λ xs. are_parameters_in (slice_get xs scope.0)) s ∙ parameters_are types graph.facts scope.0))
    ∙ (ap (λ b. is_one_scope all scope.0 new.scope.0 && (named_too && ((are_parameters (slice_get (scope_kinds all) scope.0) || b) || not stands))) (t ∙ (ap (λ xs. are_parameters_in (slice_get xs new.scope.0)) s ∙ parameters_are types graph.facts new.scope.0))
    ∙ ap (λ b. is_one_scope all scope.0 new.scope.0 && (named_too && ((are_parameters (slice_get (scope_kinds all) scope.0) || are_parameters (slice_get (scope_kinds all) new.scope.0)) || not b))) together)))

-- ---- one number after another

pub conflict_more : (graph : CxxGraph) (new : CxxFact) (types : List CxxType) (facts : List Fact) (number : FactId) (numbers : List FactId) (t : Bool)
    → cond t (Some number.0) None ≡ conflict_in graph new (looked_up types facts (number ∷ [])) → conflict_in graph new (looked_up types facts (number ∷ numbers)) ≡ cond t (Some number.0) (conflict_in graph new (looked_up types facts numbers))
conflict_more graph new types facts number numbers t e = by (slice_get facts number.0) e
  where
    clear : (t : Bool) (c : Bool) (later : Option ℕ) → cond t (Some number.0) None ≡ cond c (Some number.0) None → cond c (Some number.0) later ≡ cond t (Some number.0) later
    clear true true later e = refl
    clear true false later e = absurd (cc)
    clear false true later e = absurd (cc)
    clear false false later e = refl

    by : (o : Option Fact) → cond t (Some number.0) None ≡ conflict_in graph new (seen_by types number [] o) → conflict_in graph new (seen_by types number (looked_up types facts numbers) o) ≡ cond t (Some number.0) (conflict_in graph new (looked_up types facts numbers))
    by None e = clear t false (conflict_in graph new (looked_up types facts numbers)) e
    by (Some fact) e = clear t (conflicts graph number.0 (fact_at types fact) new) (conflict_in graph new (looked_up types facts numbers)) e

pub in_both : (graph : CxxGraph) (new : CxxFact) (name : CxxName) (xs ys : List ScopeId) (best : Option ℕ) → conflict_in_scopes graph new name (xs ++ ys) best ≡ conflict_in_scopes graph new name ys (conflict_in_scopes graph new name xs best)
in_both graph new name [] ys best = refl
in_both graph new name (x ∷ xs) ys best = in_both graph new name xs ys (sooner best (conflict_in graph new (declared_in graph x.0 name)))

-- what has no name conflicts with nothing
unnamed_free : (types : List CxxType) (new : Fact) → IsPlain new → new.name ≡ name.Unnamed → (old : CxxFact) → of_one_name old (fact_at types new) ≡ false
unnamed_free types new plain e old =
    let none : same_name old.name (name_at types new.name) ≡ same_name old.name unnamed = ap (λ n. same_name old.name (name_at types n)) e in
    ap (λ t. (declares_name old.what && declares_name (declares_at types new.what)) && ((has_name old.name && t) || (is_constructor old.what && is_constructor (declares_at types new.what)))) none
    ∙ (ap (λ t. (declares_name old.what && declares_name (declares_at types new.what)) && ((has_name old.name && same_name old.name unnamed) || (is_constructor old.what && t))) (plain_free types new.what plain.what)
    ∙ by (declares_name old.what && declares_name (declares_at types new.what)) (is_constructor old.what) old.name)
  where
    by : (a b : Bool) (n : CxxName) → (a && ((has_name n && same_name n unnamed) || (b && false))) ≡ false
    by true true unnamed = refl
    by true true (spelled w) = refl
    by true true _ = refl
    by true false unnamed = refl
    by true false (spelled w) = refl
    by true false _ = refl
    by false b n = refl

pub unnamed_nothing : (types : List CxxType) (graph : Graph) (new : Fact) → IsPlain new → new.name ≡ name.Unnamed → None ≡ first_conflict (graph_at types graph) (fact_at types new)
unnamed_nothing types graph new plain e = sym (nothing (graph_at types graph) 0 (facts_at types graph.facts) (fact_at types new) (λ n old. and_none (is_one_scope (facts_at types graph.facts) old.scope new.scope.0) _ (ap (λ t. t && ((are_parameters (slice_get (scope_kinds (facts_at types graph.facts)) old.scope) || are_parameters (slice_get (scope_kinds (facts_at types graph.facts)) new.scope.0)) || not (stand_together (graph_at types graph) n old (length (facts_at types graph.facts)) (fact_at types new)))) (unnamed_free types new plain e old))))

pub fact_below : (count : ℕ) (facts : List Fact) (number : ℕ) (fact : Fact) → AreFactsBelow count facts → slice_get facts number ≡ Some fact → IsFactBelow count fact
fact_below count [] number fact below at = absurd cc
fact_below count (one ∷ facts) zero fact below at = (let same : one ≡ fact = cc in subst (λ f. IsFactBelow count f) same below.0)
fact_below count (one ∷ facts) (suc number) fact below at = fact_below count facts number fact below.1 at

pub plain_untemplated : (what : Entity) → IsPlainEntity what → IsNoTemplate what
plain_untemplated (entity.Template template member defaults is_explicit first) plain = absurd plain
plain_untemplated _ plain = tt

drop_at : (numbers : List FactId) (i : ℕ) (d : FactId) → i < length numbers → drop i numbers ≡ get_or numbers i d ∷ drop (i + 1) numbers
drop_at numbers i d h = rw (add-one, drop-cons numbers i d) refl

pub conflict_step : (graph : CxxGraph) (new : CxxFact) (types : List CxxType) (facts : List Fact) (numbers : List FactId) (i : ℕ) (d : FactId) (t : Bool) → i < length numbers
    → cond t (Some (get_or numbers i d).0) None ≡ conflict_in graph new (looked_up types facts (get_or numbers i d ∷ []))
    → conflict_in graph new (looked_up types facts (drop i numbers)) ≡ cond t (Some (get_or numbers i d).0) (conflict_in graph new (looked_up types facts (drop (i + 1) numbers)))
conflict_step graph new types facts numbers i d t h e = ap (λ ns. conflict_in graph new (looked_up types facts ns)) (drop_at numbers i d h) ∙ conflict_more graph new types facts (get_or numbers i d) (drop (i + 1) numbers) t e

-- the same of those that stand in the scope of the new one
here_more : (graph : CxxGraph) (new : CxxFact) (types : List CxxType) (facts : List Fact) (number : FactId) (numbers : List FactId) (t : Bool)
    → cond t (Some number.0) None ≡ clash_among graph new (looked_up types facts (number ∷ [])) → clash_among graph new (looked_up types facts (number ∷ numbers)) ≡ cond t (Some number.0) (clash_among graph new (looked_up types facts numbers))
here_more graph new types facts number numbers t e = by (slice_get facts number.0) e
  where
    clear : (t : Bool) (c : Bool) (later : Option ℕ) → cond t (Some number.0) None ≡ cond c (Some number.0) None → cond c (Some number.0) later ≡ cond t (Some number.0) later
    clear true true later e = refl
    clear true false later e = absurd (cc)
    clear false true later e = absurd (cc)
    clear false false later e = refl

    by : (o : Option Fact) → cond t (Some number.0) None ≡ clash_among graph new (seen_by types number [] o) → clash_among graph new (seen_by types number (looked_up types facts numbers) o) ≡ cond t (Some number.0) (clash_among graph new (looked_up types facts numbers))
    by None e = clear t false (clash_among graph new (looked_up types facts numbers)) e
    by (Some fact) e = clear t (conflicts graph number.0 (rescoped new.scope (fact_at types fact)) new) (clash_among graph new (looked_up types facts numbers)) e

pub here_step : (graph : CxxGraph) (new : CxxFact) (types : List CxxType) (facts : List Fact) (numbers : List FactId) (i : ℕ) (d : FactId) (t : Bool) → i < length numbers
    → cond t (Some (get_or numbers i d).0) None ≡ clash_among graph new (looked_up types facts (get_or numbers i d ∷ []))
    → clash_among graph new (looked_up types facts (drop i numbers)) ≡ cond t (Some (get_or numbers i d).0) (clash_among graph new (looked_up types facts (drop (i + 1) numbers)))
here_step graph new types facts numbers i d t h e = ap (λ ns. clash_among graph new (looked_up types facts ns)) (drop_at numbers i d h) ∙ here_more graph new types facts (get_or numbers i d) (drop (i + 1) numbers) t e
