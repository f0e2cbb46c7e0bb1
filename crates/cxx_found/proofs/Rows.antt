-- The declarations of a name in a scope are those of its row.
use Rattle.std.proofs.Common.{◌≡◌, ℕ, suc, ◌+◌, ◌<◌, ◌≤◌, Bool, true, false, not, ◌&&◌, ltb, cond, eqb, List, [], ◌∷◌, ◌++◌, length, map, Option, Some, None, refl, ap, sym, ◌∙◌, append_assoc, add-one, arith}
use Rattle.std.specs.List.{slice_get}
use Rattle.cxx_model.specs.declared.types.FactId.{FactId}
use Rattle.cxx_model.specs.declared.types.ScopeId.{ScopeId}
use Rattle.cxx_model.specs.Facts.Declarations.{CxxFact, CxxGraph, CxxName, facts_at, graph_at}
use Rattle.cxx_model.specs.Facts.Entities.{is_seen}
use Rattle.cxx_model.specs.Facts.Graph.{Graph}
use Rattle.cxx_model.specs.Types.Trees.{CxxType}
use Rattle.cxx_meaning.specs.Lookups.Gathered.{before, gathered}
use Rattle.cxx_meaning.specs.Lookups.Sightings.{Sighting as SightingMeant, is_by_friend, is_named, sighting_in, sighting_of, standing, wanted_one}
use Rattle.cxx_meaning.specs.Lookups.Wanted.{Wanted}
use Rattle.cxx_members.specs.declared.sightings.Sighting.{Sighting}
use Rattle.cxx_members.specs.Sighted.{Adds, sighting_at}
use Rattle.cxx_reading.specs.Seen.{Numbered, declared_from, declared_in, declares_in, fact_numbers, numbered_at}
use Rattle.cxx_found.specs.Rows.{sighted, sighted_in}

-- ---- growing

pub before_first : {A : Type 0} (o : Option A) (xs : List A) → before o xs ≡ before o [] ++ xs
before_first None xs = refl
before_first (Some x) xs = refl

pub row_more : (types : List CxxType) (graph : CxxGraph) (wanted : Wanted) (old new : List Sighting) (number : FactId) (others : List FactId) → Adds types old new (sighted_in graph wanted (number ∷ [])) → map (sighting_at types) old ++ sighted_in graph wanted (number ∷ others) ≡ map (sighting_at types) new ++ sighted_in graph wanted others
row_more types graph wanted old new number others adds =
    ap (λ xs. map (sighting_at types) old ++ xs) (before_first (sighted graph wanted number.0 (slice_get graph.facts number.0)) (sighted_in graph wanted others)) ∙ (sym (append_assoc (map (sighting_at types) old) (sighted_in graph wanted (number ∷ [])) (sighted_in graph wanted others)) ∙ ap (λ xs. xs ++ sighted_in graph wanted others) (sym adds.seen))

-- ---- all declarations

abbrev sighted_all : CxxGraph → Wanted → List Numbered → List SightingMeant
sighted_all graph wanted [] = []
sighted_all graph wanted (one ∷ others) = before (sighted graph wanted one.number (Some one.fact)) (sighted_all graph wanted others)

numbers_sighted : (graph : CxxGraph) (wanted : Wanted) (numbers : List FactId) → sighted_in graph wanted numbers ≡ sighted_all graph wanted (numbered_at graph (fact_numbers numbers))
numbers_sighted graph wanted [] = refl
numbers_sighted graph wanted (number ∷ numbers) = by (slice_get graph.facts number.0) refl (numbers_sighted graph wanted numbers)
  where
    by : (o : Option CxxFact) → slice_get graph.facts number.0 ≡ o → sighted_in graph wanted numbers ≡ sighted_all graph wanted (numbered_at graph (fact_numbers numbers)) → sighted_in graph wanted (number ∷ numbers) ≡ sighted_all graph wanted (numbered_at graph (fact_numbers (number ∷ numbers)))
    by None e rest = rw e rest
    by (Some fact) e rest = rw e (ap (before (sighted graph wanted number.0 (Some fact))) rest)

-- a fact before the cut is seen, unless only a friend declaration makes it
unless_friend : {A : Type 0} (stands named seen friend : Bool) (x : Option A) → seen ≡ true → cond (stands && (named && (seen && not friend))) x None ≡ cond (stands && named) (cond friend None x) None
unless_friend false named seen friend x e = refl
unless_friend true false seen friend x e = refl
unless_friend true true true true x e = refl
unless_friend true true true false x e = refl
unless_friend true true false friend x e = absurd cc

seen_before : (all : List CxxFact) (cut number : ℕ) (fact : CxxFact) → number < cut → is_seen all cut number fact ≡ true
seen_before all cut number fact lt =
    let k : ltb number cut ≡ true = grind arith in
    rw k refl

sighting_is : (graph : CxxGraph) (cut : ℕ) (wanted : Wanted) (name : CxxName) (scope : ScopeId) (number : ℕ) (fact : CxxFact) → number < cut → sighting_in graph cut wanted name scope number fact ≡ cond (declares_in scope.0 name fact) (sighted graph wanted number (Some fact)) None
unfolding sighting_in
sighting_is graph cut wanted name scope number fact lt =
    unless_friend (eqb fact.scope scope.0) (is_named name fact) (is_seen graph.facts cut number fact) (is_by_friend graph.facts number fact) (wanted_one graph wanted (sighting_of graph.facts number fact)) (seen_before graph.facts cut number fact lt)

gathered_row : (graph : CxxGraph) (cut : ℕ) (wanted : Wanted) (name : CxxName) (scope : ScopeId) (number : ℕ) (facts : List CxxFact) → number + length facts ≤ cut → gathered (sighting_in graph cut wanted name scope) number facts ≡ sighted_all graph wanted (declared_from scope.0 name number facts)
gathered_row graph cut wanted name scope number [] le = refl
gathered_row graph cut wanted name scope number (fact ∷ facts) le =
    let lt : number < cut = omega arith in
    let more : suc number + length facts ≤ cut = omega arith in
    ap (λ o. before o (gathered (sighting_in graph cut wanted name scope) (number + 1) facts)) (sighting_is graph cut wanted name scope number fact lt) ∙ (ap (λ n. before (cond (declares_in scope.0 name fact) (sighted graph wanted number (Some fact)) None) (gathered (sighting_in graph cut wanted name scope) n facts)) (add-one number) ∙ by (declares_in scope.0 name fact) refl (gathered_row graph cut wanted name scope (suc number) facts more))
  where
    by : (t : Bool) → declares_in scope.0 name fact ≡ t → gathered (sighting_in graph cut wanted name scope) (suc number) facts ≡ sighted_all graph wanted (declared_from scope.0 name (suc number) facts) → before (cond (declares_in scope.0 name fact) (sighted graph wanted number (Some fact)) None) (gathered (sighting_in graph cut wanted name scope) (suc number) facts) ≡ sighted_all graph wanted (declared_from scope.0 name number (fact ∷ facts))
    by true e rest = rw e (ap (before (sighted graph wanted number (Some fact))) rest)
    by false e rest = rw e rest

standing_all : (graph : CxxGraph) (wanted : Wanted) (name : CxxName) (scope : ScopeId) → standing graph (length graph.facts) wanted name scope ≡ sighted_all graph wanted (declared_in graph scope.0 name)
unfolding standing declared_in
standing_all graph wanted name scope = gathered_row graph (length graph.facts) wanted name scope 0 graph.facts (omega arith)

pub standing_is : (types : List CxxType) (graph : Graph) (wanted : Wanted) (name : CxxName) (scope : ScopeId) (numbers : List FactId) → numbered_at (graph_at types graph) (fact_numbers numbers) ≡ declared_in (graph_at types graph) scope.0 name → standing (graph_at types graph) (length (facts_at types graph.facts)) wanted name scope ≡ sighted_in (graph_at types graph) wanted numbers
standing_is types graph wanted name scope numbers e =
    standing_all (graph_at types graph) wanted name scope ∙ (ap (sighted_all (graph_at types graph) wanted) (sym e) ∙ sym (numbers_sighted (graph_at types graph) wanted numbers))
