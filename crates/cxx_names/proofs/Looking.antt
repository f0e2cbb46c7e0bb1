-- The declarations that are found are those of the definitions.
use Rattle.std.proofs.Common.{◌≡◌, ℕ, zero, suc, ◌+◌, Bool, true, false, cond, ◌||◌, List, [], ◌∷◌, ◌++◌, length, Option, Some, None, option_map, refl, sym, ap, ◌∙◌, arith}
use Rattle.std.specs.List.{slice_get}
use Rattle.std.specs.Option.{is_some, option_to_list}
use Rattle.cxx_model.specs.declared.facts.Entity.{Entity}
use Rattle.cxx_model.specs.declared.facts.Entity.TheVariants as entity
use Rattle.cxx_model.specs.declared.facts.Fact.{Fact}
use Rattle.cxx_model.specs.declared.types.FactId.{FactId}
use Rattle.cxx_model.specs.declared.types.ScopeId.{ScopeId}
use Rattle.cxx_model.specs.Facts.Conflicts.{scope_facts}
use Rattle.cxx_model.specs.Facts.Declarations as declares
use Rattle.cxx_model.specs.Facts.Declarations.{CxxFact, CxxGraph, CxxName, Declares, fact_at, facts_at, graph_at}
use Rattle.cxx_model.specs.Facts.Graph.{Graph}
use Rattle.cxx_model.specs.Types.Trees.{CxxType}
use Rattle.cxx_meaning.specs.Lookups.Wanted.{hides_types, names_space, names_type}
use Rattle.cxx_reading.specs.Classes.{ClassNamed, class_by, first_class, or_other}
use Rattle.cxx_reading.specs.Declaring.{enumeration_in, first_function, first_object, is_object, is_same_function}
use Rattle.cxx_names.specs.Meant.{first_named, first_or, or_void}
use Rattle.cxx_reading.specs.Seen.{type_in, type_named_by, Numbered, any_hides, any_space, any_type, declared_from, declared_in, declares_in, fact_numbers, numbered_at, numbered_by, parent_of}
use Rattle.cxx_reading.specs.Paths as paths
use Rattle.cxx_reading.specs.Paths.{first_space, space_in}
use Rattle.cxx_names.specs.Index.{noted_by, numbers_in, scopes_of}
use Rattle.cxx_names.specs.Looked.{holder_in, looked_up, seen_by}

-- ---- numbers

-- from a number on, the facts are these
abbrev pub StandsAt : List Fact → ℕ → List Fact → Type 0
StandsAt all number facts = (i : ℕ) → slice_get all (number + i) ≡ slice_get facts i

pub stands_first : (all : List Fact) (number : ℕ) (fact : Fact) (facts : List Fact) → StandsAt all number (fact ∷ facts) → slice_get all number ≡ Some fact
stands_first all number fact facts s = let n : number + 0 ≡ number = omega arith in ap (λ k. slice_get all k) (sym n) ∙ s 0

pub stands_later : (all : List Fact) (number : ℕ) (fact : Fact) (facts : List Fact) → StandsAt all number (fact ∷ facts) → StandsAt all (suc number) facts
stands_later all number fact facts s i = let n : suc number + i ≡ number + suc i = omega arith in ap (λ k. slice_get all k) n ∙ s (suc i)

looked_from : (types : List CxxType) (all : List Fact) (scope : ℕ) (word : CxxName) (number : ℕ) (facts : List Fact) → StandsAt all number facts
    → looked_up types all (numbers_in (declared_from scope word number (facts_at types facts))) ≡ declared_from scope word number (facts_at types facts)
looked_from types all scope word number [] s = refl
looked_from types all scope word number (fact ∷ facts) s = by (declares_in scope word (fact_at types fact)) (looked_from types all scope word (suc number) facts (stands_later all number fact facts s))
  where
    later : List Numbered
    later = declared_from scope word (suc number) (facts_at types facts)

    by : (t : Bool) → looked_up types all (numbers_in later) ≡ later → looked_up types all (numbers_in (cond t (record { number = number; fact = fact_at types fact } ∷ later) later)) ≡ cond t (record { number = number; fact = fact_at types fact } ∷ later) later
    by true ih = rw (stands_first all number fact facts s) (ap (λ xs. record { number = number; fact = fact_at types fact } ∷ xs) ih)
    by false ih = ih

pub declared_looked : (types : List CxxType) (graph : Graph) (scope : ℕ) (word : CxxName) (numbers : List FactId) → numbers ≡ numbers_in (declared_from scope word zero (facts_at types graph.facts)) → looked_up types graph.facts numbers ≡ declared_in (graph_at types graph) scope word
unfolding declared_in
declared_looked types graph scope word numbers e = ap (looked_up types graph.facts) e ∙ looked_from types graph.facts scope word zero graph.facts (λ i. let n : zero + i ≡ i = omega arith in ap (λ k. slice_get graph.facts k) n)

pub declared_numbers : (types : List CxxType) (graph : Graph) (scope : ℕ) (word : CxxName) (numbers : List FactId) → numbers ≡ numbers_in (declared_from scope word zero (facts_at types graph.facts)) → numbers ≡ numbers_in (declared_in (graph_at types graph) scope word)
unfolding declared_in
declared_numbers types graph scope word numbers e = e

-- ---- outward

abbrev pub scope_in : ℕ → Option CxxFact → ℕ
scope_in scope None = scope
scope_in scope (Some fact) = fact.scope

parents_are : (types : List CxxType) (facts : List Fact) (scope : ScopeId) (n : ℕ) → (holder_in scope (slice_get (scopes_of facts) n)).0 ≡ scope_in scope.0 (slice_get (scope_facts (facts_at types facts)) n)
parents_are types [] scope n = refl
parents_are types (fact ∷ facts) scope n = by fact.what n (parents_are types facts scope)
  where
    by : (what : Entity) (n : ℕ) → ((m : ℕ) → (holder_in scope (slice_get (scopes_of facts) m)).0 ≡ scope_in scope.0 (slice_get (scope_facts (facts_at types facts)) m)) → (holder_in scope (slice_get (option_to_list (noted_by fact.scope what) ++ scopes_of facts) n)).0 ≡ scope_in scope.0 (slice_get (scope_facts (fact_at types (record fact { what = what }) ∷ facts_at types facts)) n)
    by (entity.Scope parent kind) zero rest = refl
    by (entity.Scope parent kind) (suc n) rest = rest n
    by _ n rest = rest n

parent_by : (graph : CxxGraph) (scope : ℕ) (o : Option CxxFact) → slice_get (scope_facts graph.facts) scope ≡ o → parent_of graph scope ≡ scope_in scope o
parent_by graph scope None e = rw e refl
parent_by graph scope (Some fact) e = rw e refl

pub parent_is : (types : List CxxType) (graph : Graph) (scope : ScopeId) → (holder_in scope (slice_get (scopes_of graph.facts) scope.0)).0 ≡ parent_of (graph_at types graph) scope.0
parent_is types graph scope = parents_are types graph.facts scope scope.0 ∙ sym (parent_by (graph_at types graph) scope.0 (slice_get (scope_facts (facts_at types graph.facts)) scope.0) refl)

-- ---- facts with their types as trees

pub fact_is : (types : List CxxType) (facts : List Fact) (n : ℕ) → slice_get (facts_at types facts) n ≡ option_map (fact_at types) (slice_get facts n)
fact_is types [] n = refl
fact_is types (fact ∷ facts) zero = refl
fact_is types (fact ∷ facts) (suc n) = fact_is types facts n

pub facts_length : (types : List CxxType) (facts : List Fact) → length (facts_at types facts) ≡ length facts
facts_length types [] = refl
facts_length types (fact ∷ facts) = ap suc (facts_length types facts)

-- the same declarations, by numbers in a graph of trees
pub numbered_is : (types : List CxxType) (graph : Graph) (numbers : List FactId) → numbered_at (graph_at types graph) (fact_numbers numbers) ≡ looked_up types graph.facts numbers
numbered_is types graph [] = refl
numbered_is types graph (number ∷ numbers) = ap (λ o. numbered_by number.0 o (numbered_at (graph_at types graph) (fact_numbers numbers))) (fact_is types graph.facts number.0) ∙ by (slice_get graph.facts number.0) (numbered_is types graph numbers)
  where
    by : (o : Option Fact) → numbered_at (graph_at types graph) (fact_numbers numbers) ≡ looked_up types graph.facts numbers → numbered_by number.0 (option_map (fact_at types) o) (numbered_at (graph_at types graph) (fact_numbers numbers)) ≡ seen_by types number (looked_up types graph.facts numbers) o
    by None e = e
    by (Some fact) e = ap (λ xs. record { number = number.0; fact = fact_at types fact } ∷ xs) e

-- ---- one number after another

pub hides_more : (graph : CxxGraph) (types : List CxxType) (facts : List Fact) (number : FactId) (numbers : List FactId)
    → any_hides graph (looked_up types facts (number ∷ numbers)) ≡ (any_hides graph (looked_up types facts (number ∷ [])) || any_hides graph (looked_up types facts numbers))
hides_more graph types facts number numbers = by (slice_get facts number.0)
  where
    or_again : (a b : Bool) → (a || b) ≡ ((a || false) || b)
    or_again true b = refl
    or_again false b = refl

    by : (o : Option Fact) → any_hides graph (seen_by types number (looked_up types facts numbers) o) ≡ (any_hides graph (seen_by types number [] o) || any_hides graph (looked_up types facts numbers))
    by None = refl
    by (Some fact) = or_again (hides_types graph (fact_at types fact).what) (any_hides graph (looked_up types facts numbers))

pub type_more : (graph : CxxGraph) (types : List CxxType) (facts : List Fact) (number : FactId) (numbers : List FactId)
    → any_type graph (looked_up types facts (number ∷ numbers)) ≡ (any_type graph (looked_up types facts (number ∷ [])) || any_type graph (looked_up types facts numbers))
type_more graph types facts number numbers = by (slice_get facts number.0)
  where
    or_again : (a b : Bool) → (a || b) ≡ ((a || false) || b)
    or_again true b = refl
    or_again false b = refl

    by : (o : Option Fact) → any_type graph (seen_by types number (looked_up types facts numbers) o) ≡ (any_type graph (seen_by types number [] o) || any_type graph (looked_up types facts numbers))
    by None = refl
    by (Some fact) = or_again (names_type graph (fact_at types fact).what) (any_type graph (looked_up types facts numbers))

or_once : (o later : Option ℕ) → paths.or_later o later ≡ paths.or_later (paths.or_later o None) later
or_once None later = refl
or_once (Some n) later = refl

pub space_more : (types : List CxxType) (facts : List Fact) (number : FactId) (numbers : List FactId)
    → first_space (looked_up types facts (number ∷ numbers)) ≡ paths.or_later (first_space (looked_up types facts (number ∷ []))) (first_space (looked_up types facts numbers))
space_more types facts number numbers = by (slice_get facts number.0)
  where
    by : (o : Option Fact) → first_space (seen_by types number (looked_up types facts numbers) o) ≡ paths.or_later (first_space (seen_by types number [] o)) (first_space (looked_up types facts numbers))
    by None = refl
    by (Some fact) = or_once (space_in (fact_at types fact).what) (first_space (looked_up types facts numbers))

-- what names a namespace is one
pub space_some : (all : List Numbered) → any_space all ≡ is_some (first_space all)
space_some [] = refl
space_some (one ∷ others) = by one.fact.what (space_some others)
  where
    by : (what : Declares) → any_space others ≡ is_some (first_space others) → (names_space what || any_space others) ≡ is_some (paths.or_later (space_in what) (first_space others))
    by (declares.namespace inner) e = refl
    by _ e = e

abbrev pub or_later : Option FactId → Option FactId → Option FactId
or_later None later = later
or_later (Some one) later = Some one

pub object_more : (types : List CxxType) (facts : List Fact) (number : FactId) (numbers : List FactId)
    → first_object (looked_up types facts (number ∷ numbers)) ≡ or_later (first_object (looked_up types facts (number ∷ []))) (first_object (looked_up types facts numbers))
object_more types facts number numbers = by (slice_get facts number.0)
  where
    one : (t : Bool) (later : Option FactId) → cond t (Some (record { 0 = number.0 })) later ≡ or_later (cond t (Some (record { 0 = number.0 })) None) later
    one true later = refl
    one false later = refl

    by : (o : Option Fact) → first_object (seen_by types number (looked_up types facts numbers) o) ≡ or_later (first_object (seen_by types number [] o)) (first_object (looked_up types facts numbers))
    by None = refl
    by (Some fact) = one (is_object (fact_at types fact).what) (first_object (looked_up types facts numbers))

pub function_more : (of : CxxType) (types : List CxxType) (facts : List Fact) (number : FactId) (numbers : List FactId)
    → first_function of (looked_up types facts (number ∷ numbers)) ≡ or_later (first_function of (looked_up types facts (number ∷ []))) (first_function of (looked_up types facts numbers))
function_more of types facts number numbers = by (slice_get facts number.0)
  where
    one : (t : Bool) (later : Option FactId) → cond t (Some (record { 0 = number.0 })) later ≡ or_later (cond t (Some (record { 0 = number.0 })) None) later
    one true later = refl
    one false later = refl

    by : (o : Option Fact) → first_function of (seen_by types number (looked_up types facts numbers) o) ≡ or_later (first_function of (seen_by types number [] o)) (first_function of (looked_up types facts numbers))
    by None = refl
    by (Some fact) = one (is_same_function of (fact_at types fact).what) (first_function of (looked_up types facts numbers))

-- ---- the first type and the first enumeration

abbrev pub first_enumeration_or : Option ℕ → Option ℕ → Option ℕ
first_enumeration_or None later = later
first_enumeration_or (Some n) later = Some n

enumeration_head : (one : Numbered) (others : List Numbered) → enumeration_in (one ∷ others) ≡ first_enumeration_or (enumeration_in (one ∷ [])) (enumeration_in others)
enumeration_head one others = by one.fact.what
  where
    by : (what : Declares) → enumeration_in (record one { fact = record one.fact { what = what } } ∷ others) ≡ first_enumeration_or (enumeration_in (record one { fact = record one.fact { what = what } } ∷ [])) (enumeration_in others)
    by (declares.enumeration n) = refl
    by _ = refl

pub enumeration_more : (types : List CxxType) (facts : List Fact) (number : FactId) (numbers : List FactId)
    → enumeration_in (looked_up types facts (number ∷ numbers)) ≡ first_enumeration_or (enumeration_in (looked_up types facts (number ∷ []))) (enumeration_in (looked_up types facts numbers))
enumeration_more types facts number numbers = by (slice_get facts number.0)
  where
    by : (o : Option Fact) → enumeration_in (seen_by types number (looked_up types facts numbers) o) ≡ first_enumeration_or (enumeration_in (seen_by types number [] o)) (enumeration_in (looked_up types facts numbers))
    by None = refl
    by (Some fact) = enumeration_head (record { number = number.0; fact = fact_at types fact }) (looked_up types facts numbers)

-- ---- the first class

class_once : (o later : Option ClassNamed) → or_other o later ≡ or_other (or_other o None) later
class_once None later = refl
class_once (Some one) later = refl

pub class_more : (types : List CxxType) (facts : List Fact) (number : FactId) (numbers : List FactId)
    → first_class (looked_up types facts (number ∷ numbers)) ≡ or_other (first_class (looked_up types facts (number ∷ []))) (first_class (looked_up types facts numbers))
class_more types facts number numbers = by (slice_get facts number.0)
  where
    by : (o : Option Fact) → first_class (seen_by types number (looked_up types facts numbers) o) ≡ or_other (first_class (seen_by types number [] o)) (first_class (looked_up types facts numbers))
    by None = refl
    by (Some fact) = class_once (class_by (fact_at types fact).what) (first_class (looked_up types facts numbers))

-- ---- the types that names mean

first_alone : (o : Option CxxType) → first_or o None ≡ o
first_alone None = refl
first_alone (Some of) = refl

pub named_alone : (types : List CxxType) (facts : List Fact) (number : FactId) (fact : Fact) → slice_get facts number.0 ≡ Some fact → first_named (looked_up types facts (number ∷ [])) ≡ type_named_by (fact_at types fact).what
named_alone types facts number fact at = ap (λ o. first_named (seen_by types number [] o)) at ∙ first_alone (type_named_by (fact_at types fact).what)

pub named_more : (types : List CxxType) (facts : List Fact) (number : FactId) (numbers : List FactId)
    → first_named (looked_up types facts (number ∷ numbers)) ≡ first_or (first_named (looked_up types facts (number ∷ []))) (first_named (looked_up types facts numbers))
named_more types facts number numbers = by (slice_get facts number.0)
  where
    one : (o later : Option CxxType) → first_or o later ≡ first_or (first_or o None) later
    one None later = refl
    one (Some of) later = refl

    by : (o : Option Fact) → first_named (seen_by types number (looked_up types facts numbers) o) ≡ first_or (first_named (seen_by types number [] o)) (first_named (looked_up types facts numbers))
    by None = refl
    by (Some fact) = one (type_named_by (fact_at types fact).what) (first_named (looked_up types facts numbers))

abbrev or_next_type : Option CxxType → CxxType → CxxType
or_next_type None later = later
or_next_type (Some of) later = of

pub type_is : (all : List Numbered) → or_void (first_named all) ≡ type_in all
type_is [] = refl
type_is (one ∷ others) = by (type_named_by one.fact.what) (type_is others)
  where
    by : (o : Option CxxType) → or_void (first_named others) ≡ type_in others → or_void (first_or o (first_named others)) ≡ or_next_type o (type_in others)
    by None ih = ih
    by (Some of) ih = refl

pub type_numbered : (types : List CxxType) (graph : Graph) (numbers : List FactId) → or_void (first_named (looked_up types graph.facts numbers)) ≡ type_in (numbered_at (graph_at types graph) (fact_numbers numbers))
type_numbered types graph numbers = type_is (looked_up types graph.facts numbers) ∙ ap type_in (sym (numbered_is types graph numbers))
