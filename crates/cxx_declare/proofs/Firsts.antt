-- First declarations of objects and functions, those that blocks declare as members of namespaces among them.
use Rattle.std.specs.Prelude.{ℕ, zero, suc, ◌≡◌, ◌+◌, Bool, true, false, if◌then◌else◌, ◌&&◌, nat_eq, List, [], ◌∷◌, Option, Some, None, option_map, refl}
use Rattle.std.specs.List.{slice_get}
use Rattle.std.proofs.Common.{ap, sym, subst, ◌∙◌, arith}
use Rattle.std.proofs.lemmas.Slice.Eq.{bytes_eq-Decides}
use Rattle.cxx_model.specs.declared.facts.MemberKind.{MemberKind}
use Rattle.cxx_model.specs.declared.facts.MemberKind.TheVariants.{Free}
use Rattle.cxx_model.specs.declared.facts.Entity.{Entity}
use Rattle.cxx_model.specs.declared.facts.Entity.TheVariants as entity
use Rattle.cxx_model.specs.declared.facts.Fact.{Fact}
use Rattle.cxx_model.specs.declared.facts.Name.{Name}
use Rattle.cxx_model.specs.declared.facts.Name.TheVariants as name
use Rattle.cxx_model.specs.declared.types.FactId.{FactId}
use Rattle.cxx_model.specs.declared.types.ScopeId.{ScopeId}
use Rattle.cxx_model.specs.declared.types.TypeId.{TypeId}
use Rattle.cxx_model.specs.Facts.Conflicts.{declares_name, has_name, same_name}
use Rattle.cxx_model.specs.Facts.Declarations.{CxxFact, CxxGraph, Declares, declares_at, fact_at, facts_at, graph_at, name_at, spelled}
use Rattle.cxx_model.specs.Facts.Graph.{Graph, IsEntityInRange}
use Rattle.cxx_model.specs.Types.Numbers.{type_at}
use Rattle.cxx_model.specs.Types.Trees.{CxxType}
use Rattle.cxx_reading.specs.Declaring.{first_function, first_object, is_object, is_same_function, number_id}
use Rattle.cxx_reading.specs.Linked.{home_of, is_linked_as, linked_among, linked_in}
use Rattle.cxx_reading.specs.Seen.{Numbered, declared_from, declared_in, declares_in, fact_numbers, numbered_at, numbered_by}
use Rattle.cxx_declare.specs.Made.{IsEarlierFunction, IsEarlierObject, a_type, function_first, named, object_first}
use Rattle.cxx_tree.specs.Held.{Held, meaning, numbers_at}

-- ---- where the reader stands

pub in_graph : {A : Type 0} (f : CxxGraph → A) (held : Held) (graph : Graph) → graph ≡ held.graph → f (graph_at held.types graph) ≡ f (meaning held).graph
unfolding meaning
in_graph f held graph same = ap (λ (g : Graph). f (graph_at held.types g)) same

pub in_scope : {A : Type 0} (f : CxxGraph → ℕ → A) (held : Held) (graph : Graph) (scope : ScopeId) → graph ≡ held.graph → scope ≡ held.scope → f (graph_at held.types graph) scope.0 ≡ f (meaning held).graph (meaning held).here.scope
unfolding meaning
in_scope f held graph scope same here = ap (λ (g : Graph). f (graph_at held.types g) scope.0) same ∙ ap (λ (s : ScopeId). f (graph_at held.types held.graph) s.0) here

-- declarations that were found
pub found_in : {A : Type 0} (f : List Numbered → A) (held : Held) (graph : Graph) (slice numbers : List FactId) (all : List Numbered) → graph ≡ held.graph → slice ≡ numbers → numbered_at (graph_at held.types held.graph) (fact_numbers numbers) ≡ all → f (numbered_at (graph_at held.types graph) (fact_numbers slice)) ≡ f all
found_in f held graph slice numbers all same are is =
    ap (λ (g : Graph). f (numbered_at (graph_at held.types g) (fact_numbers slice))) same
    ∙ ap (λ ns. f (numbered_at (graph_at held.types held.graph) (fact_numbers ns))) are
    ∙ ap f is

-- ---- the first that passes a test

abbrev first_by : (Declares → Bool) → List Numbered → Option FactId
first_by test [] = None
first_by test (one ∷ others) = if test one.fact.what then Some (number_id one.number) else first_by test others

first_object_by : (all : List Numbered) → first_object all ≡ first_by is_object all
first_object_by [] = refl
first_object_by (one ∷ others) = ap (λ r. if is_object one.fact.what then Some (number_id one.number) else r) (first_object_by others)

first_function_by : (of : CxxType) (all : List Numbered) → first_function of all ≡ first_by (is_same_function of) all
first_function_by of [] = refl
first_function_by of (one ∷ others) = ap (λ r. if is_same_function of one.fact.what then Some (number_id one.number) else r) (first_function_by of others)

-- ---- declarations that are there, with a name

pub record IsNamedAt (types : List CxxType) (all : List Fact) (word : List ℕ) (one : Numbered) : Type 0 where
  pub fact : Fact
  pub at : slice_get all one.number ≡ Some fact
  pub seen : one.fact ≡ fact_at types fact
  pub named : fact.name ≡ name.Spelled word

abbrev pub AreNamed : List CxxType → List Fact → List ℕ → List Numbered → Type 0
AreNamed types all word [] = Unit {0}
AreNamed types all word (one ∷ others) = IsNamedAt types all word one × AreNamed types all word others

both_true : (a b : Bool) → (a && b) ≡ true → (a ≡ true) × (b ≡ true)
both_true true b e = (refl, e)
both_true false b e = absurd (cc)

name_spelled : (types : List CxxType) (n : Name) (word : List ℕ) → same_name (name_at types n) (spelled word) ≡ true → n ≡ name.Spelled word
name_spelled types (name.Spelled v) word e = ap name.Spelled ((bytes_eq-Decides v word).0 e)
name_spelled types name.Unnamed word e = absurd (cc)
name_spelled types (name.Operator o) word e = absurd (cc)
name_spelled types (name.Conversion of) word e = absurd (cc)
name_spelled types name.Destructor word e = absurd (cc)

declared_name : (types : List CxxType) (scope : ℕ) (word : List ℕ) (fact : Fact) → declares_in scope (spelled word) (fact_at types fact) ≡ true → fact.name ≡ name.Spelled word
declared_name types scope word fact e =
    let one = both_true (nat_eq fact.scope.0 scope) (declares_name (declares_at types fact.what) && (has_name (spelled word) && same_name (name_at types fact.name) (spelled word))) e in
    let two = both_true (declares_name (declares_at types fact.what)) (has_name (spelled word) && same_name (name_at types fact.name) (spelled word)) one.1 in
    name_spelled types fact.name word two.1

declared_named : (types : List CxxType) (all : List Fact) (scope : ℕ) (word : List ℕ) (n : ℕ) (facts : List Fact) → ((i : ℕ) → slice_get all (n + i) ≡ slice_get facts i) → AreNamed types all word (declared_from scope (spelled word) n (facts_at types facts))
declared_named types all scope word n [] at = tt
declared_named types all scope word n (one ∷ others) at =
    by (declares_in scope (spelled word) (fact_at types one)) refl (declared_named types all scope word (suc n) others (λ i. (let p : suc n + i ≡ n + suc i = omega arith in ap (slice_get all) p ∙ at (suc i))))
  where
    later : List Numbered
    later = declared_from scope (spelled word) (suc n) (facts_at types others)

    here : slice_get all n ≡ Some one
    here = (let p : n ≡ n + 0 = omega arith in ap (slice_get all) p ∙ at 0)

    by : (b : Bool) → declares_in scope (spelled word) (fact_at types one) ≡ b → AreNamed types all word later → AreNamed types all word (if b then record { number = n; fact = fact_at types one } ∷ later else later)
    by false e ok = ok
    by true e ok = (record { fact = one; at = here; seen = refl; named = declared_name types scope word one e }, ok)

pub fact_seen : (types : List CxxType) (facts : List Fact) (n : ℕ) → slice_get (facts_at types facts) n ≡ option_map (fact_at types) (slice_get facts n)
fact_seen types [] n = refl
fact_seen types (one ∷ others) zero = refl
fact_seen types (one ∷ others) (suc n) = fact_seen types others n

linked_named : (types : List CxxType) (graph : Graph) (space : ℕ) (word : List ℕ) (numbers : List ℕ) → AreNamed types graph.facts word (linked_among (graph_at types graph) space (spelled word) (numbered_at (graph_at types graph) numbers))
linked_named types graph space word [] = tt
linked_named types graph space word (n ∷ others) =
    subst (λ (o : Option CxxFact). AreNamed types graph.facts word (linked_among (graph_at types graph) space (spelled word) (numbered_by n o rest))) (sym (fact_seen types graph.facts n))
    (by (slice_get graph.facts n) refl (linked_named types graph space word others))
  where
    rest : List Numbered
    rest = numbered_at (graph_at types graph) others

    later : List Numbered
    later = linked_among (graph_at types graph) space (spelled word) rest

    one_of : Fact → Numbered
    one_of fact = record { number = n; fact = fact_at types fact }

    one : (fact : Fact) → slice_get graph.facts n ≡ Some fact → (b : Bool) → is_linked_as (graph_at types graph) space (spelled word) (one_of fact) ≡ b → AreNamed types graph.facts word later → AreNamed types graph.facts word (if b then one_of fact ∷ later else later)
    one fact at false e ok = ok
    one fact at true e ok = (record { fact = fact; at = at; seen = refl; named = name_spelled types fact.name word (both_true (nat_eq (home_of (graph_at types graph) fact.scope.0) space) (has_name (spelled word) && same_name (name_at types fact.name) (spelled word)) e).1 }, ok)

    by : (o : Option Fact) → slice_get graph.facts n ≡ o → AreNamed types graph.facts word later → AreNamed types graph.facts word (linked_among (graph_at types graph) space (spelled word) (numbered_by n (option_map (fact_at types) o) rest))
    by None at ok = ok
    by (Some fact) at ok = one fact at (is_linked_as (graph_at types graph) space (spelled word) (one_of fact)) refl ok

-- ---- an earlier declaration

record IsEarlierOne (types : List CxxType) (all : List Fact) (test : Declares → Bool) (word : List ℕ) (k : ℕ) : Type 0 where
  other : Fact
  at : slice_get all k ≡ Some other
  kind : test (declares_at types other.what) ≡ true
  named : other.name ≡ name.Spelled word

first_earlier : (types : List CxxType) (facts : List Fact) (test : Declares → Bool) (word : List ℕ) (all : List Numbered) (k : FactId) → AreNamed types facts word all → first_by test all ≡ Some k → IsEarlierOne types facts test word k.0
first_earlier types facts test word [] k ok e = absurd (cc)
first_earlier types facts test word (one ∷ others) k ok e = by (test one.fact.what) refl e (λ f. first_earlier types facts test word others k ok.1 f)
  where
    by : (b : Bool) → test one.fact.what ≡ b → (if b then Some (number_id one.number) else first_by test others) ≡ Some k → (first_by test others ≡ Some k → IsEarlierOne types facts test word k.0) → IsEarlierOne types facts test word k.0
    by false p f later = later f
    by true p f later = record {
      other = ok.0.fact;
      at = (let same : number_id one.number ≡ k = cc in subst (λ (m : FactId). slice_get facts m.0 ≡ Some ok.0.fact) same ok.0.at);
      kind = sym (ap (λ (f : CxxFact). test f.what) ok.0.seen) ∙ p;
      named = ok.0.named;
    }

object_pair : (types : List CxxType) (graph : Graph) (word : List ℕ) (k : FactId) (other : Fact) → slice_get graph.facts k.0 ≡ Some other → other.name ≡ name.Spelled word → (what : Entity) → other.what ≡ what → is_object (declares_at types what) ≡ true → IsEntityInRange graph (named word (object_first a_type Free (Some k))) (object_first a_type Free (Some k))
object_pair types graph word k other at is (entity.Object two member is_mutable value first) same e = (other, at, rw same (refl), is)
object_pair types graph word k other at is (entity.Scope parent kind) same e = absurd (cc)
object_pair types graph word k other at is (entity.Function two member flags defaults first) same e = absurd (cc)
object_pair types graph word k other at is (entity.Template number member defaults is_explicit first) same e = absurd (cc)
object_pair types graph word k other at is (entity.Parameter depth index two) same e = absurd (cc)
object_pair types graph word k other at is (entity.Injected number) same e = absurd (cc)
object_pair types graph word k other at is (entity.Class number is_union) same e = absurd (cc)
object_pair types graph word k other at is (entity.Complete number) same e = absurd (cc)
object_pair types graph word k other at is (entity.Passed number) same e = absurd (cc)
object_pair types graph word k other at is (entity.Ancestor number parent index access) same e = absurd (cc)
object_pair types graph word k other at is (entity.Enumeration number) same e = absurd (cc)
object_pair types graph word k other at is (entity.Enumerator number value) same e = absurd (cc)
object_pair types graph word k other at is (entity.Synonym two) same e = absurd (cc)
object_pair types graph word k other at is (entity.Namespace inner) same e = absurd (cc)
object_pair types graph word k other at is (entity.Directive nominated) same e = absurd (cc)
object_pair types graph word k other at is (entity.Using target) same e = absurd (cc)
object_pair types graph word k other at is (entity.Friend number target) same e = absurd (cc)

function_pair : (types : List CxxType) (of : CxxType) (graph : Graph) (word : List ℕ) (k : FactId) (other : Fact) → slice_get graph.facts k.0 ≡ Some other → other.name ≡ name.Spelled word → (what : Entity) → other.what ≡ what → is_same_function of (declares_at types what) ≡ true → IsEntityInRange graph (named word (function_first a_type 0 (Some k))) (function_first a_type 0 (Some k))
function_pair types of graph word k other at is (entity.Function two member flags defaults first) same e = (other, at, rw same (refl), is)
function_pair types of graph word k other at is (entity.Scope parent kind) same e = absurd (cc)
function_pair types of graph word k other at is (entity.Object two member is_mutable value first) same e = absurd (cc)
function_pair types of graph word k other at is (entity.Template number member defaults is_explicit first) same e = absurd (cc)
function_pair types of graph word k other at is (entity.Parameter depth index two) same e = absurd (cc)
function_pair types of graph word k other at is (entity.Injected number) same e = absurd (cc)
function_pair types of graph word k other at is (entity.Class number is_union) same e = absurd (cc)
function_pair types of graph word k other at is (entity.Complete number) same e = absurd (cc)
function_pair types of graph word k other at is (entity.Passed number) same e = absurd (cc)
function_pair types of graph word k other at is (entity.Ancestor number parent index access) same e = absurd (cc)
function_pair types of graph word k other at is (entity.Enumeration number) same e = absurd (cc)
function_pair types of graph word k other at is (entity.Enumerator number value) same e = absurd (cc)
function_pair types of graph word k other at is (entity.Synonym two) same e = absurd (cc)
function_pair types of graph word k other at is (entity.Namespace inner) same e = absurd (cc)
function_pair types of graph word k other at is (entity.Directive nominated) same e = absurd (cc)
function_pair types of graph word k other at is (entity.Using target) same e = absurd (cc)
function_pair types of graph word k other at is (entity.Friend number target) same e = absurd (cc)

object_earlier : (held : Held) (word : List ℕ) (all : List Numbered) (first : Option FactId) → AreNamed held.types held.graph.facts word all → first ≡ first_object all → IsEarlierObject held word first
object_earlier held word all None ok is = tt
object_earlier held word all (Some k) ok is =
    let one = first_earlier held.types held.graph.facts is_object word all k ok (sym (first_object_by all) ∙ sym is) in
    object_pair held.types held.graph word k one.other one.at one.named one.other.what refl one.kind

function_earlier : (held : Held) (of : CxxType) (word : List ℕ) (all : List Numbered) (first : Option FactId) → AreNamed held.types held.graph.facts word all → first ≡ first_function of all → IsEarlierFunction held word first
function_earlier held of word all None ok is = tt
function_earlier held of word all (Some k) ok is =
    let one = first_earlier held.types held.graph.facts (is_same_function of) word all k ok (sym (first_function_by of all) ∙ sym is) in
    function_pair held.types of held.graph word k one.other one.at one.named one.other.what refl one.kind

pub declared_here : (held : Held) (scope : ℕ) (word : List ℕ) → AreNamed held.types held.graph.facts word (declared_in (meaning held).graph scope (spelled word))
unfolding meaning declared_in
declared_here held scope word = declared_named held.types held.graph.facts scope word zero held.graph.facts (λ i. (let p : 0 + i ≡ i = omega arith in ap (slice_get held.graph.facts) p))

linked_here : (held : Held) (space : ℕ) (word : List ℕ) → AreNamed held.types held.graph.facts word (linked_in (meaning held) space (spelled word))
unfolding meaning linked_in
linked_here held space word = linked_named held.types held.graph space word (numbers_at held.linked)

pub declared_object : (held : Held) (scope : ℕ) (word : List ℕ) (first : Option FactId) → first ≡ first_object (declared_in (meaning held).graph scope (spelled word)) → IsEarlierObject held word first
declared_object held scope word first is = object_earlier held word (declared_in (meaning held).graph scope (spelled word)) first (declared_here held scope word) is

pub linked_object : (held : Held) (space : ℕ) (word : List ℕ) (first : Option FactId) → first ≡ first_object (linked_in (meaning held) space (spelled word)) → IsEarlierObject held word first
linked_object held space word first is = object_earlier held word (linked_in (meaning held) space (spelled word)) first (linked_here held space word) is

pub declared_function : (held : Held) (of : CxxType) (scope : ℕ) (word : List ℕ) (first : Option FactId) → first ≡ first_function of (declared_in (meaning held).graph scope (spelled word)) → IsEarlierFunction held word first
declared_function held of scope word first is = function_earlier held of word (declared_in (meaning held).graph scope (spelled word)) first (declared_here held scope word) is

pub linked_function : (held : Held) (of : CxxType) (space : ℕ) (word : List ℕ) (first : Option FactId) → first ≡ first_function of (linked_in (meaning held) space (spelled word)) → IsEarlierFunction held word first
linked_function held of space word first is = function_earlier held of word (linked_in (meaning held) space (spelled word)) first (linked_here held space word) is

pub declared_function_by : (held : Held) (of : TypeId) (graph : Graph) (types : List CxxType) (scope : ℕ) (word : List ℕ) (first : Option FactId) → graph ≡ held.graph → types ≡ held.types → first ≡ first_function (type_at types of.0) (declared_in (graph_at types graph) scope (spelled word)) → IsEarlierFunction held word first
declared_function_by held of graph types scope word first same are is =
    declared_function held (type_at held.types of.0) scope word first
    (is
    ∙ ap (λ ts. first_function (type_at ts of.0) (declared_in (graph_at ts graph) scope (spelled word))) are
    ∙ in_graph (λ g. first_function (type_at held.types of.0) (declared_in g scope (spelled word))) held graph same)

pub linked_function_by : (held : Held) (of : TypeId) (graph : Graph) (types : List CxxType) (slice numbers : List FactId) (space : ℕ) (word : List ℕ) (first : Option FactId) → graph ≡ held.graph → types ≡ held.types → slice ≡ numbers → numbered_at (graph_at held.types held.graph) (fact_numbers numbers) ≡ linked_in (meaning held) space (spelled word) → first ≡ first_function (type_at types of.0) (numbered_at (graph_at types graph) (fact_numbers slice)) → IsEarlierFunction held word first
linked_function_by held of graph types slice numbers space word first same are equal found is =
    linked_function held (type_at held.types of.0) space word first
    (is
    ∙ ap (λ ts. first_function (type_at ts of.0) (numbered_at (graph_at ts graph) (fact_numbers slice))) are
    ∙ found_in (first_function (type_at held.types of.0)) held graph slice numbers (linked_in (meaning held) space (spelled word)) same equal found)

-- ---- a new declaration after it

pub object_after : (graph : Graph) (word : List ℕ) (fact : Fact) (of : TypeId) (kind : MemberKind) (first : Option FactId) → fact.name ≡ name.Spelled word → IsEntityInRange graph (named word (object_first a_type Free first)) (object_first a_type Free first) → IsEntityInRange graph fact (object_first of kind first)
object_after graph word fact of kind None is ok = tt
object_after graph word fact of kind (Some k) is ok = (ok.0, ok.1, ok.2, ok.3 ∙ sym is)

pub function_after : (graph : Graph) (word : List ℕ) (fact : Fact) (of : TypeId) (count : ℕ) (first : Option FactId) → fact.name ≡ name.Spelled word → IsEntityInRange graph (named word (function_first a_type 0 first)) (function_first a_type 0 first) → IsEntityInRange graph fact (function_first of count first)
function_after graph word fact of count None is ok = tt
function_after graph word fact of count (Some k) is ok = (ok.0, ok.1, ok.2, ok.3 ∙ sym is)
