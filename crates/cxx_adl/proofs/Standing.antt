-- The functions that are found, one fact after another.
use Rattle.std.proofs.Common.{◌≡◌, ℕ, zero, suc, ◌+◌, ◌≤◌, Bool, true, false, cond, eqb, List, [], ◌∷◌, ◌++◌, length, map, drop, Option, Some, None, option_map, refl, ap, sym, ◌∙◌, arith, add-one}
use Rattle.std.specs.List.{slice_get}
use Rattle.std.proofs.lemmas.List.{at_drop_all, map-append}
use Rattle.cxx_model.specs.declared.facts.Fact.{Fact}
use Rattle.cxx_model.specs.declared.types.FactId.{FactId}
use Rattle.cxx_model.specs.declared.types.ScopeId.{ScopeId}
use Rattle.cxx_model.specs.declared.lookup.Associated.{Associated}
use Rattle.cxx_model.specs.Types.Trees.{CxxType}
use Rattle.cxx_model.specs.Facts.Declarations.{CxxFact, CxxGraph, CxxName, declares_at, fact_at, facts_at, graph_at}
use Rattle.cxx_model.specs.Facts.Entities.{meant_by}
use Rattle.cxx_model.specs.Facts.Graph.{Graph}
use Rattle.cxx_graph.specs.Numbered.{is_in_scope, numbers_from, numbers_of}
use Rattle.cxx_meaning.specs.Lookups.Associated.{adl, befriended, functions_among, is_target, space_id, standing_in_each, target_by, target_named}
use Rattle.cxx_meaning.specs.Lookups.Gathered.{before, gathered, with_fact, with_facts}
use Rattle.cxx_meaning.specs.Lookups.Sightings.{Sighting, number_id, sighting_in, sighting_of, standing}
use Rattle.cxx_meaning.specs.Lookups.Wanted.{any_name, is_function}
use Rattle.cxx_adl.specs.declared.functions.Meant.{Meant}
use Rattle.cxx_adl.specs.Functions.{first_by, firsts, meant_at}
use Rattle.cxx_adl.proofs.Bases.{fact_is}
use Rattle.cxx_adl.specs.Standing.{given_at, given_each, sighting_list, stands}
use Rattle.cxx_adl.proofs.First.{entities_first}

-- ---- one list after another

facts_both : (found ones twos : List FactId) → with_facts (with_facts found ones) twos ≡ with_facts found (ones ++ twos)
unfolding with_facts
facts_both found [] twos = refl
facts_both found (one ∷ ones) twos = facts_both (with_fact one found) ones twos

functions_both : (graph : CxxGraph) (ones twos : List Sighting) → functions_among graph (ones ++ twos) ≡ functions_among graph ones ++ functions_among graph twos
functions_both graph [] twos = refl
functions_both graph (one ∷ ones) twos = by (is_function graph one.what) (functions_both graph ones twos)
  where
    by : (t : Bool) → functions_among graph (ones ++ twos) ≡ functions_among graph ones ++ functions_among graph twos → cond t (one ∷ functions_among graph (ones ++ twos)) (functions_among graph (ones ++ twos)) ≡ cond t (one ∷ functions_among graph ones) (functions_among graph ones) ++ functions_among graph twos
    by true rest = ap (λ xs. one ∷ xs) rest
    by false rest = rest

firsts_both : (graph : CxxGraph) (ones twos : List Sighting) → firsts graph (ones ++ twos) ≡ firsts graph ones ++ firsts graph twos
firsts_both graph ones twos = ap (map (λ one. first_by one.meant one.what)) (functions_both graph ones twos) ∙ map-append (λ one. first_by one.meant one.what) (functions_among graph ones) (functions_among graph twos)

pub found_both : (graph : CxxGraph) (found : List FactId) (ones twos : List Sighting) → with_facts (with_facts found (firsts graph ones)) (firsts graph twos) ≡ with_facts found (firsts graph (ones ++ twos))
found_both graph found ones twos = facts_both found (firsts graph ones) (firsts graph twos) ∙ ap (with_facts found) (sym (firsts_both graph ones twos))

-- ---- the facts of a scope

stands_by : (graph : CxxGraph) (cut : ℕ) (name : CxxName) (scope : ScopeId) (number : ℕ) (fact : CxxFact) → sighting_in graph cut any_name name scope number fact ≡ cond (stands graph cut name scope number fact) (Some (sighting_of graph.facts number fact)) None
unfolding sighting_in
stands_by graph cut name scope number fact = refl

chosen : (graph : CxxGraph) (cut : ℕ) (name : CxxName) (scope : ScopeId) (number : ℕ) (fact : CxxFact) (t : Bool) → stands graph cut name scope number fact ≡ t → sighting_list (sighting_in graph cut any_name name scope number fact) ≡ cond t (sighting_of graph.facts number fact ∷ []) []
chosen graph cut name scope number fact true e = ap sighting_list (stands_by graph cut name scope number fact ∙ ap (λ t. cond t (Some (sighting_of graph.facts number fact)) None) e)
chosen graph cut name scope number fact false e = ap sighting_list (stands_by graph cut name scope number fact ∙ ap (λ t. cond t (Some (sighting_of graph.facts number fact)) None) e)

pub stands_true : (types : List CxxType) (graph : Graph) (cut : ℕ) (name : CxxName) (scope : ScopeId) (number : ℕ) (fact : Fact) → slice_get graph.facts number ≡ Some fact → stands (graph_at types graph) cut name scope number (fact_at types fact) ≡ true → given_at (sighting_in (graph_at types graph) cut any_name name scope) number (slice_get (facts_at types graph.facts) number) ≡ sighting_of (facts_at types graph.facts) number (fact_at types fact) ∷ []
stands_true types graph cut name scope number fact at e = ap (given_at (sighting_in (graph_at types graph) cut any_name name scope) number) (fact_is types graph.facts number ∙ ap (option_map (fact_at types)) at) ∙ chosen (graph_at types graph) cut name scope number (fact_at types fact) true e

pub stands_false : (types : List CxxType) (graph : Graph) (cut : ℕ) (name : CxxName) (scope : ScopeId) (number : ℕ) (fact : Fact) → slice_get graph.facts number ≡ Some fact → stands (graph_at types graph) cut name scope number (fact_at types fact) ≡ false → given_at (sighting_in (graph_at types graph) cut any_name name scope) number (slice_get (facts_at types graph.facts) number) ≡ []
stands_false types graph cut name scope number fact at e = ap (given_at (sighting_in (graph_at types graph) cut any_name name scope) number) (fact_is types graph.facts number ∙ ap (option_map (fact_at types)) at) ∙ chosen (graph_at types graph) cut name scope number (fact_at types fact) false e

-- what a fact stands for, as it is sighted
pub sighted : (types : List CxxType) (all : List CxxFact) (meant : Meant) (number : FactId) (fact : CxxFact) → meant_at types meant ≡ meant_by all number.0 fact.what → record { scope = record { 0 = fact.scope }; itself = number; meant = meant.number; what = declares_at types meant.what } ≡ sighting_of all number.0 fact
sighted types all meant number fact e = ap (λ m. record { scope = record { 0 = fact.scope }; itself = number; meant = number_id m.number; what = m.what }) e

pub facts_more : (graph : CxxGraph) (give : ℕ → CxxFact → Option Sighting) (all : List CxxFact) (found new : List FactId) (number : FactId) (others : List FactId) → new ≡ with_facts found (firsts graph (given_at give number.0 (slice_get all number.0))) → with_facts new (firsts graph (given_each give all others)) ≡ with_facts found (firsts graph (given_each give all (number ∷ others)))
facts_more graph give all found new number others e = ap (λ xs. with_facts xs (firsts graph (given_each give all others))) e ∙ found_both graph found (given_at give number.0 (slice_get all number.0)) (given_each give all others)

outside : (graph : CxxGraph) (cut : ℕ) (name : CxxName) (scope : ScopeId) (number : ℕ) (fact : CxxFact) → eqb fact.scope scope.0 ≡ false → sighting_in graph cut any_name name scope number fact ≡ None
unfolding sighting_in
outside graph cut name scope number fact e = rw e refl

each_from : (give : ℕ → CxxFact → Option Sighting) (types : List CxxType) (scope : ℕ) (none : (n : ℕ) (fact : Fact) → eqb fact.scope.0 scope ≡ false → give n (fact_at types fact) ≡ None) (all : List CxxFact) (n : ℕ) (facts : List Fact) → ((k : ℕ) → slice_get all (n + k) ≡ slice_get (facts_at types facts) k) → given_each give all (numbers_from n (is_in_scope scope) facts) ≡ gathered give n (facts_at types facts)
each_from give types scope none all n [] at = refl
each_from give types scope none all n (fact ∷ facts) at =
    let here : slice_get all n ≡ Some (fact_at types fact) = ap (slice_get all) (omega arith) ∙ at 0 in
    let next : (k : ℕ) → slice_get all (suc n + k) ≡ slice_get (facts_at types facts) k = λ k. ap (slice_get all) (omega arith) ∙ at (suc k) in
    let rest : given_each give all (numbers_from (suc n) (is_in_scope scope) facts) ≡ gathered give (n + 1) (facts_at types facts) = each_from give types scope none all (suc n) facts next ∙ ap (λ m. gathered give m (facts_at types facts)) (sym (add-one n)) in
    by (eqb fact.scope.0 scope) refl here rest
  where
    front : (o : Option Sighting) (xs : List Sighting) → sighting_list o ++ xs ≡ before o xs
    front None xs = refl
    front (Some x) xs = refl

    by : (t : Bool) → eqb fact.scope.0 scope ≡ t → slice_get all n ≡ Some (fact_at types fact) → given_each give all (numbers_from (suc n) (is_in_scope scope) facts) ≡ gathered give (n + 1) (facts_at types facts) → given_each give all (cond t (record { 0 = n } ∷ numbers_from (suc n) (is_in_scope scope) facts) (numbers_from (suc n) (is_in_scope scope) facts)) ≡ before (give n (fact_at types fact)) (gathered give (n + 1) (facts_at types facts))
    by true e here rest = ap (λ o. given_at give n o ++ given_each give all (numbers_from (suc n) (is_in_scope scope) facts)) here ∙ (ap (λ xs. sighting_list (give n (fact_at types fact)) ++ xs) rest ∙ front (give n (fact_at types fact)) (gathered give (n + 1) (facts_at types facts)))
    by false e here rest = rest ∙ ap (λ o. before o (gathered give (n + 1) (facts_at types facts))) (sym (none n fact e))

pub standing_are : (graph : CxxGraph) (types : List CxxType) (facts : List Fact) (cut : ℕ) (name : CxxName) (scope : ScopeId) → graph.facts ≡ facts_at types facts → given_each (sighting_in graph cut any_name name scope) (facts_at types facts) (numbers_of (is_in_scope scope.0) facts) ≡ standing graph cut any_name name scope
unfolding standing
standing_are graph types facts cut name scope e =
    each_from (sighting_in graph cut any_name name scope) types scope.0 (λ n fact h. outside graph cut name scope n (fact_at types fact) h) (facts_at types facts) 0 facts (λ k. ap (slice_get (facts_at types facts)) (omega arith)) ∙ ap (gathered (sighting_in graph cut any_name name scope) 0) (sym e)

pub spaces_more : (graph : CxxGraph) (cut : ℕ) (name : CxxName) (found new : List FactId) (space : ℕ) (others : List ℕ) → new ≡ with_facts found (firsts graph (standing graph cut any_name name (space_id space))) → with_facts new (firsts graph (standing_in_each graph cut name others)) ≡ with_facts found (firsts graph (standing_in_each graph cut name (space ∷ others)))
unfolding standing_in_each
spaces_more graph cut name found new space others e = ap (λ xs. with_facts xs (firsts graph (standing_in_each graph cut name others))) e ∙ found_both graph found (standing graph cut any_name name (space_id space)) (standing_in_each graph cut name others)

-- ---- friends

pub target_none : (types : List CxxType) (graph : Graph) (name : CxxName) (target : FactId) → slice_get graph.facts target.0 ≡ None → sighting_list (target_by (graph_at types graph) name (Some target)) ≡ []
target_none types graph name target at = ap (λ o. sighting_list (target_named (graph_at types graph) name target o)) (fact_is types graph.facts target.0 ∙ ap (option_map (fact_at types)) at)

pub target_other : (types : List CxxType) (graph : Graph) (name : CxxName) (target : FactId) (fact : Fact) → slice_get graph.facts target.0 ≡ Some fact → is_target (graph_at types graph) name (fact_at types fact) ≡ false → sighting_list (target_by (graph_at types graph) name (Some target)) ≡ []
target_other types graph name target fact at e = ap (λ o. sighting_list (target_named (graph_at types graph) name target o)) (fact_is types graph.facts target.0 ∙ ap (option_map (fact_at types)) at) ∙ ap (λ t. sighting_list (cond t (Some (sighting_of (facts_at types graph.facts) target.0 (fact_at types fact))) None)) e

pub target_is : (types : List CxxType) (graph : Graph) (name : CxxName) (target : FactId) (fact : Fact) → slice_get graph.facts target.0 ≡ Some fact → is_target (graph_at types graph) name (fact_at types fact) ≡ true → sighting_list (target_by (graph_at types graph) name (Some target)) ≡ sighting_of (facts_at types graph.facts) target.0 (fact_at types fact) ∷ []
target_is types graph name target fact at e = ap (λ o. sighting_list (target_named (graph_at types graph) name target o)) (fact_is types graph.facts target.0 ∙ ap (option_map (fact_at types)) at) ∙ ap (λ t. sighting_list (cond t (Some (sighting_of (facts_at types graph.facts) target.0 (fact_at types fact))) None)) e

before_first : (o : Option Sighting) (xs : List Sighting) → before o xs ≡ sighting_list o ++ xs
before_first None xs = refl
before_first (Some x) xs = refl

given_first : (give : ℕ → CxxFact → Option Sighting) (types : List CxxType) (facts : List Fact) (k n : ℕ) → gathered give k (facts_at types (drop n facts)) ≡ given_at give k (slice_get (facts_at types facts) n) ++ gathered give (k + 1) (facts_at types (drop (suc n) facts))
given_first give types [] k zero = refl
given_first give types [] k (suc n) = refl
given_first give types (fact ∷ facts) k zero = before_first (give k (fact_at types fact)) (gathered give (k + 1) (facts_at types facts))
given_first give types (fact ∷ facts) k (suc n) = given_first give types facts k n

pub friends_more : (graph : CxxGraph) (give : ℕ → CxxFact → Option Sighting) (types : List CxxType) (facts : List Fact) (number : ℕ) (found new : List FactId) → new ≡ with_facts found (firsts graph (given_at give number (slice_get (facts_at types facts) number))) → with_facts new (firsts graph (gathered give (number + 1) (facts_at types (drop (number + 1) facts)))) ≡ with_facts found (firsts graph (gathered give number (facts_at types (drop number facts))))
friends_more graph give types facts number found new e =
    let step = given_first give types facts number number ∙ ap (λ m. given_at give number (slice_get (facts_at types facts) number) ++ gathered give (number + 1) (facts_at types (drop m facts))) (sym (add-one number)) in
    ap (λ xs. with_facts xs (firsts graph (gathered give (number + 1) (facts_at types (drop (number + 1) facts))))) e ∙ (found_both graph found (given_at give number (slice_get (facts_at types facts) number)) (gathered give (number + 1) (facts_at types (drop (number + 1) facts))) ∙ ap (λ xs. with_facts found (firsts graph xs)) (sym step))

pub friends_all : (graph : CxxGraph) (give : ℕ → CxxFact → Option Sighting) (types : List CxxType) (facts : List Fact) (number : ℕ) (found : List FactId) → length facts ≤ number → with_facts found (firsts graph (gathered give number (facts_at types (drop number facts)))) ≡ found
unfolding with_facts
friends_all graph give types facts number found le = at_drop_all (λ fs. with_facts found (firsts graph (gathered give number (facts_at types fs)))) facts number le

-- ---- all

pub adl_is : (graph : CxxGraph) (sets : Associated) (name : CxxName) (cut : ℕ) (middle new : List FactId) → middle ≡ with_facts [] (firsts graph (standing_in_each graph cut name sets.spaces)) → new ≡ with_facts middle (firsts graph (gathered (befriended graph name sets.classes) 0 graph.facts)) → adl graph sets name cut ≡ new
unfolding adl
adl_is graph sets name cut middle new one two =
    let spaces = standing_in_each graph cut name sets.spaces in
    let friends = gathered (befriended graph name sets.classes) 0 graph.facts in
    entities_first graph (spaces ++ friends) ∙ (sym (found_both graph [] spaces friends) ∙ (ap (λ xs. with_facts xs (firsts graph friends)) (sym one) ∙ sym two))
