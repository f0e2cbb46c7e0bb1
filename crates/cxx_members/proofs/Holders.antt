-- The classes that declare a name, and what they have.
use Rattle.std.proofs.Common.{◌≡◌, ℕ, zero, suc, ◌+◌, ◌≤◌, Bool, true, false, cond, not, ◌&&◌, ◌||◌, List, [], ◌∷◌, ◌++◌, length, map, take, Option, Some, None, refl, ap, ◌∙◌, arith, add-one}
use Rattle.std.specs.List.{slice_get}
use Rattle.cxx_model.specs.declared.facts.Fact.{Fact}
use Rattle.cxx_model.specs.declared.types.ClassId.{ClassId}
use Rattle.cxx_model.specs.Types.Trees.{CxxType}
use Rattle.cxx_model.specs.Facts.Declarations as facts
use Rattle.cxx_model.specs.Facts.Declarations.{CxxFact, CxxGraph, CxxName, Declares, fact_at, facts_at}
use Rattle.cxx_members.proofs.Nodes.{eqb_turned}
use Rattle.cxx_meaning.specs.Lookups.Gathered.{before, gathered}
use Rattle.cxx_meaning.specs.Lookups.Member.{Way as WayMeant, class_of_scope, declares_member, is_nothing, is_of_class, member_in, members_in, own_ways, same_class, through, ways, ways_after, with_base}
use Rattle.cxx_meaning.specs.Lookups.Sightings.{Sighting, is_named, sighting_of, wanted_one}
use Rattle.cxx_meaning.specs.Lookups.Wanted.{Wanted}
use Rattle.cxx_members.specs.declared.ways.Record.{Record}
use Rattle.cxx_members.specs.Tables.{IsTable, holder_by, holder_in, holds, own_by, ways_given}

-- ---- the classes that declare a name

-- one fact: its class is the one, and it is wanted
one_fact : (class : ClassId) (named : Bool) (wanted : Option Sighting) (of : Option ClassId) (members : List Sighting) (holders : List ClassId) → holds holders class ≡ not (is_nothing members) → holds (before (holder_by named wanted of) holders) class ≡ not (is_nothing (before (cond (named && is_of_class class of) wanted None) members))
one_fact class false wanted of members holders e = e
one_fact class true None None members holders e = e
one_fact class true None (Some other) members holders e = by (same_class other class)
  where
    by : (t : Bool) → holds holders class ≡ not (is_nothing (before (cond t None None) members))
    by true = e
    by false = e
one_fact class true (Some one) None members holders e = e
one_fact class true (Some one) (Some other) members holders e = by (same_class other class) (same_class class other) (eqb_turned other.0 class.0)
  where
    by : (t u : Bool) → t ≡ u → u || holds holders class ≡ not (is_nothing (before (cond t (Some one) None) members))
    by true true h = refl
    by true false h = absurd cc
    by false true h = absurd cc
    by false false h = e

holders_in : (graph : CxxGraph) (wanted : Wanted) (name : CxxName) (class : ClassId) (k : ℕ) (facts : List CxxFact) → holds (gathered (holder_in graph wanted name) k facts) class ≡ not (is_nothing (gathered (member_in graph wanted name class) k facts))
unfolding member_in
holders_in graph wanted name class k [] = refl
holders_in graph wanted name class k (fact ∷ facts) = one_fact class (is_named name fact) (wanted_one graph wanted (sighting_of graph.facts k fact)) (class_of_scope graph.facts (record { 0 = fact.scope })) (gathered (member_in graph wanted name class) (k + 1) facts) (gathered (holder_in graph wanted name) (k + 1) facts) (holders_in graph wanted name class (k + 1) facts)

pub holders_are : (graph : CxxGraph) (wanted : Wanted) (name : CxxName) (class : ClassId) → holds (gathered (holder_in graph wanted name) 0 graph.facts) class ≡ declares_member graph wanted name class
unfolding declares_member members_in
holders_are graph wanted name class = holders_in graph wanted name class 0 graph.facts

-- ---- what each class has

same_base_by : (d e : ClassId → Bool) (fact : CxxFact) (now other : ClassId → List WayMeant) (what : Declares) → ((c : ClassId) → d c ≡ e c) → ((c : ClassId) → now c ≡ other c) → (c : ClassId) → with_base d (record fact { what = what }) now c ≡ with_base e (record fact { what = what }) other c
unfolding with_base
same_base_by d e fact now other (facts.ancestor derived parent index access) h k c =
    ap (λ t. cond (same_class derived c && not t) (now c ++ map (through index) (now parent)) (now c)) (h c) ∙ (ap (λ ws. cond (same_class derived c && not (e c)) (ws ++ map (through index) (now parent)) ws) (k c) ∙ ap (λ ws. cond (same_class derived c && not (e c)) (other c ++ map (through index) ws) (other c)) (k parent))
same_base_by d e fact now other _ h k c = k c

same_base : (d e : ClassId → Bool) (fact : CxxFact) (now other : ClassId → List WayMeant) → ((c : ClassId) → d c ≡ e c) → ((c : ClassId) → now c ≡ other c) → (c : ClassId) → with_base d fact now c ≡ with_base e fact other c
same_base d e fact now other h k c = same_base_by d e fact now other fact.what h k c

same_after : (d e : ClassId → Bool) (facts : List CxxFact) (now other : ClassId → List WayMeant) → ((c : ClassId) → d c ≡ e c) → ((c : ClassId) → now c ≡ other c) → (c : ClassId) → ways_after d now facts c ≡ ways_after e other facts c
unfolding ways_after
same_after d e [] now other h k c = k c
same_after d e (fact ∷ facts) now other h k c = same_after d e facts (with_base d fact now) (with_base e fact other) h (same_base d e fact now other h k) c

pub ways_are : (graph : CxxGraph) (wanted : Wanted) (name : CxxName) (holders : List ClassId) → ((c : ClassId) → holds holders c ≡ declares_member graph wanted name c) → (c : ClassId) → ways_after (holds holders) (own_by holders) graph.facts c ≡ ways graph wanted name c
unfolding ways own_ways
ways_are graph wanted name holders h c = same_after (holds holders) (declares_member graph wanted name) graph.facts (own_by holders) (own_ways graph wanted name) h (λ class. ap (λ t. cond t (record { path = []; holder = class } ∷ []) []) (h class)) c

ways_step : (d : ClassId → Bool) (types : List CxxType) (facts : List Fact) (now : ClassId → List WayMeant) (n : ℕ) → ways_after d now (facts_at types (take (suc n) facts)) ≡ ways_given d (ways_after d now (facts_at types (take n facts))) (slice_get (facts_at types facts) n)
unfolding ways_after
ways_step d types [] now zero = refl
ways_step d types [] now (suc n) = refl
ways_step d types (fact ∷ facts) now zero = refl
ways_step d types (fact ∷ facts) now (suc n) = ways_step d types facts (with_base d (fact_at types fact) now) n

-- one fact more
pub ways_more : (d : ClassId → Bool) (types : List CxxType) (facts : List Fact) (now : ClassId → List WayMeant) (n : ℕ) → ways_after d now (facts_at types (take (n + 1) facts)) ≡ ways_given d (ways_after d now (facts_at types (take n facts))) (slice_get (facts_at types facts) n)
ways_more d types facts now n = ap (λ m. ways_after d now (facts_at types (take m facts))) (add-one n) ∙ ways_step d types facts now n

pub table_start : (paths : List (List ℕ)) (holders : List ClassId) (records : List Record) → IsTable paths holders records (own_by holders) → IsTable paths holders records (ways_after (holds holders) (own_by holders) [])
unfolding ways_after
table_start paths holders records table = table

pub take_past : {A : Type 0} (xs : List A) (n : ℕ) → length xs ≤ n → take n xs ≡ xs
take_past [] zero le = refl
take_past [] (suc n) le = refl
take_past (x ∷ xs) zero le = absurd (omega arith)
take_past (x ∷ xs) (suc n) le = ap (λ ys. x ∷ ys) (take_past xs n (omega arith))
