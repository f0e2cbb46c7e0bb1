-- The first parameter whose class is incomplete, one declaration after another (9.2).
use Rattle.std.specs.Prelude.{ℕ, suc, ◌+◌, ◌≡◌, ◌&&◌, Bool, true, false, nat_eq, if◌then◌else◌, List, [], ◌∷◌, length, Option, Some, None, refl}
use Rattle.std.specs.List.{slice_get}
use Rattle.std.proofs.Common.{arith, ap, ◌∙◌}
use Rattle.cxx_model.specs.declared.facts.Fact.{Fact}
use Rattle.cxx_model.specs.declared.place.Place.{Place}
use Rattle.cxx_model.specs.declared.types.FactId.{FactId}
use Rattle.cxx_model.specs.Facts.Declarations.{declares_at, facts_at, graph_at}
use Rattle.cxx_model.specs.Facts.Fitted.{Fitted, IsEntityBelow}
use Rattle.cxx_model.specs.Facts.Graph.{Graph}
use Rattle.cxx_model.specs.Types.Trees.{CxxType}
use Rattle.cxx_graph.specs.Numbered.{is_in_scope, numbers_from, numbers_of}
use Rattle.cxx_language.specs.Bodies.{incomplete_among, is_incomplete_object}
use Rattle.cxx_names.proofs.Clashing.{fact_below}
use Rattle.cxx_body.specs.Opened.{first_incomplete, incomplete_by, place_or}

incomplete_from : (graph : Graph) (types : List CxxType) (list : ℕ) (all : List Fact) (n : ℕ) (facts : List Fact) → ((k : ℕ) → slice_get all (n + k) ≡ slice_get facts k) → first_incomplete graph types all (numbers_from n (is_in_scope list) facts) ≡ incomplete_among (graph_at types graph) list (facts_at types facts)
incomplete_from graph types list all n [] at = refl
incomplete_from graph types list all n (fact ∷ facts) at =
    let here : slice_get all n ≡ Some fact = ap (slice_get all) (omega arith) ∙ at 0 in
    let next : (k : ℕ) → slice_get all (suc n + k) ≡ slice_get facts k = λ k. ap (slice_get all) (omega arith) ∙ at (suc k) in
    by (nat_eq fact.scope.0 list) here (incomplete_from graph types list all (suc n) facts next)
  where
    pick : (b : Bool) (place : Place) (one two : Option Place) → one ≡ two → place_or (if b then Some place else None) one ≡ (if b then Some place else two)
    pick true place one two e = refl
    pick false place one two e = e

    by : (b : Bool) → slice_get all n ≡ Some fact → first_incomplete graph types all (numbers_from (suc n) (is_in_scope list) facts) ≡ incomplete_among (graph_at types graph) list (facts_at types facts)
        → first_incomplete graph types all (if b then record { 0 = n } ∷ numbers_from (suc n) (is_in_scope list) facts else numbers_from (suc n) (is_in_scope list) facts) ≡ (if b && is_incomplete_object (graph_at types graph) (declares_at types fact.what) then Some fact.place else incomplete_among (graph_at types graph) list (facts_at types facts))
    by false here rest = rest
    by true here rest = ap (λ (o : Option Fact). place_or (incomplete_by graph types o) (first_incomplete graph types all (numbers_from (suc n) (is_in_scope list) facts))) here ∙ pick (is_incomplete_object (graph_at types graph) (declares_at types fact.what)) fact.place _ _ rest

pub incomplete_are : (graph : Graph) (types : List CxxType) (list : ℕ) (facts : List Fact) → first_incomplete graph types facts (numbers_of (is_in_scope list) facts) ≡ incomplete_among (graph_at types graph) list (facts_at types facts)
incomplete_are graph types list facts = incomplete_from graph types list facts 0 facts (λ k. ap (slice_get facts) (omega arith))

pub incomplete_first : (graph : Graph) (types : List CxxType) (facts : List Fact) (number : FactId) (others : List FactId) (place : Place) → incomplete_by graph types (slice_get facts number.0) ≡ Some place → first_incomplete graph types facts (number ∷ others) ≡ Some place
incomplete_first graph types facts number others place e = ap (λ (o : Option Place). place_or o (first_incomplete graph types facts others)) e

pub incomplete_next : (graph : Graph) (types : List CxxType) (facts : List Fact) (number : FactId) (others : List FactId) → incomplete_by graph types (slice_get facts number.0) ≡ None → first_incomplete graph types facts (number ∷ others) ≡ first_incomplete graph types facts others
incomplete_next graph types facts number others e = ap (λ (o : Option Place). place_or o (first_incomplete graph types facts others)) e

pub entity_below : (types : List CxxType) (graph : Graph) (n : ℕ) (fact : Fact) → Fitted graph types → slice_get graph.facts n ≡ Some fact → IsEntityBelow (length types) fact.what
entity_below types graph n fact fitted e = (fact_below (length types) graph.facts n fact fitted.numbers.facts e).what
