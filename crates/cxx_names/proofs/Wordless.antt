-- Names that are no words: the declarations that have one are among those of their scope.
use Rattle.std.specs.Prelude.{ℕ, zero, suc, ◌≡◌, ◌+◌, Bool, true, false, ◌&&◌, nat_eq, if◌then◌else◌, List, [], ◌∷◌, refl}
use Rattle.std.proofs.Common.{ap, sym, ◌∙◌, arith, Some, subst}
use Rattle.std.specs.List.{slice_get}
use Rattle.cxx_graph.specs.Numbered.{is_in_scope, numbers_from, numbers_of}
use Rattle.cxx_model.specs.declared.facts.Fact.{Fact}
use Rattle.cxx_model.specs.declared.types.FactId.{FactId}
use Rattle.cxx_model.specs.Facts.Conflicts.{declares_name}
use Rattle.cxx_model.specs.Facts.Declarations.{CxxName, declares_at, fact_at, facts_at, graph_at, unnamed}
use Rattle.cxx_model.specs.Facts.Graph.{Graph}
use Rattle.cxx_model.specs.Types.Trees.{CxxType}
use Rattle.cxx_reading.specs.Seen.{Numbered, declared_from, declared_in, declares_in}
use Rattle.cxx_names.specs.Looked.{looked_up, seen_by}
use Rattle.cxx_names.specs.Named.{has_the_name, named_among}

-- ---- no name

none_and : (a b : Bool) → (a && (b && false)) ≡ false
none_and true true = refl
none_and true false = refl
none_and false b = refl

none_from : (types : List CxxType) (scope number : ℕ) (facts : List Fact) → declared_from scope unnamed number (facts_at types facts) ≡ []
none_from types scope number [] = refl
none_from types scope number (fact ∷ facts) =
    let later : List Numbered = declared_from scope unnamed (suc number) (facts_at types facts) in
    ap (λ b. if b then record { number = number; fact = fact_at types fact } ∷ later else later) (none_and (nat_eq fact.scope.0 scope) (declares_name (declares_at types fact.what)))
    ∙ none_from types scope (suc number) facts

pub no_unnamed : (types : List CxxType) (graph : Graph) (scope : ℕ) → [] ≡ declared_in (graph_at types graph) scope unnamed
unfolding declared_in
no_unnamed types graph scope = sym (none_from types scope zero graph.facts)

-- ---- the declarations of a name among those of a scope

module _ (types : List CxxType) (all : List Fact) (scope : ℕ) (name : CxxName) where
  abbrev named : List FactId → List Numbered
  named numbers = looked_up types all (named_among types all name numbers)

  here : (number : FactId) (fact : Fact) (t : Bool) (numbers : List FactId) → slice_get all number.0 ≡ Some fact → has_the_name types name (Some fact) ≡ t → named (number ∷ numbers) ≡ (if t then record { number = number.0; fact = fact_at types fact } ∷ named numbers else named numbers)
  here number fact true numbers at is =
      ap (λ b. looked_up types all (if b then number ∷ named_among types all name numbers else named_among types all name numbers)) (ap (has_the_name types name) at ∙ is)
      ∙ ap (seen_by types number (named numbers)) at
  here number fact false numbers at is =
      ap (λ b. looked_up types all (if b then number ∷ named_among types all name numbers else named_among types all name numbers)) (ap (has_the_name types name) at ∙ is)

  one_more : (number : FactId) (fact : Fact) (in_scope : Bool) (numbers : List FactId) (later : List Numbered) → slice_get all number.0 ≡ Some fact → named numbers ≡ later
      → named (if in_scope then number ∷ numbers else numbers) ≡ (if in_scope && has_the_name types name (Some fact) then record { number = number.0; fact = fact_at types fact } ∷ later else later)
  one_more number fact true numbers later at same = here number fact (has_the_name types name (Some fact)) numbers at refl ∙ ap (λ xs. if has_the_name types name (Some fact) then record { number = number.0; fact = fact_at types fact } ∷ xs else xs) same
  one_more number fact false numbers later at same = same

  named_from : (number : ℕ) (facts : List Fact) → ((i : ℕ) → slice_get all (number + i) ≡ slice_get facts i) → named (numbers_from number (is_in_scope scope) facts) ≡ declared_from scope name number (facts_at types facts)
  named_from number [] there = refl
  named_from number (fact ∷ facts) there =
      one_more (record { 0 = number }) fact (nat_eq fact.scope.0 scope) (numbers_from (suc number) (is_in_scope scope) facts) (declared_from scope name (suc number) (facts_at types facts)) first (named_from (suc number) facts next)
    where
      first : slice_get all number ≡ Some fact
      first = (let e : number ≡ number + 0 = omega arith in ap (slice_get all) e ∙ there 0)

      next : (i : ℕ) → slice_get all (suc number + i) ≡ slice_get facts i
      next i = (let e : suc number + i ≡ number + suc i = omega arith in ap (slice_get all) e ∙ there (suc i))

pub named_are : (types : List CxxType) (graph : Graph) (scope : ℕ) (name : CxxName) (numbers : List FactId) → numbers ≡ numbers_of (is_in_scope scope) graph.facts → looked_up types graph.facts (named_among types graph.facts name numbers) ≡ declared_in (graph_at types graph) scope name
unfolding declared_in
named_are types graph scope name numbers is = ap (λ ns. looked_up types graph.facts (named_among types graph.facts name ns)) is ∙ named_from types graph.facts scope name 0 graph.facts (λ i. let e : 0 + i ≡ i = omega arith in ap (slice_get graph.facts) e)
