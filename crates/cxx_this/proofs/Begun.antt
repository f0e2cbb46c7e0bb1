-- The function in whose body a scope stands, one declaration after another and one scope after another (8.4).
use Rattle.std.specs.Prelude.{ℕ, zero, suc, ◌+◌, ◌≡◌, Bool, true, false, nat_eq, if◌then◌else◌, List, [], ◌∷◌, Option, Some, None, option_map, refl}
use Rattle.std.specs.List.{slice_get}
use Rattle.std.proofs.Common.{arith, ap, sym, ◌∙◌}
use Rattle.cxx_model.specs.declared.facts.Fact.{Fact}
use Rattle.cxx_model.specs.declared.types.FactId.{FactId}
use Rattle.cxx_model.specs.Facts.Declarations.{CxxFact, CxxGraph, fact_at, facts_at}
use Rattle.cxx_model.specs.Types.Trees.{CxxType}
use Rattle.cxx_graph.specs.Numbered.{is_in_scope, numbers_from, numbers_of}
use Rattle.cxx_reading.specs.Seen.{parent_of}
use Rattle.cxx_this.specs.Begun.{begun_at, begun_each}
use Rattle.cxx_this.specs.This.{begun_by, begun_in, function_at, function_from, function_round, or_next}

-- ---- one declaration

pub seen : (types : List CxxType) (facts : List Fact) (n : ℕ) → slice_get (facts_at types facts) n ≡ option_map (fact_at types) (slice_get facts n)
seen types [] n = refl
seen types (fact ∷ facts) zero = refl
seen types (fact ∷ facts) (suc n) = seen types facts n

pub begun_is : (types : List CxxType) (facts : List Fact) (n : ℕ) (o : Option Fact) → o ≡ slice_get facts n → begun_at (option_map (fact_at types) o) ≡ begun_at (slice_get (facts_at types facts) n)
begun_is types facts n o at = ap (λ one. begun_at (option_map (fact_at types) one)) at ∙ ap begun_at (sym (seen types facts n))

-- ---- those of a scope

begun_from : (types : List CxxType) (scope : ℕ) (all : List CxxFact) (n : ℕ) (facts : List Fact) → ((k : ℕ) → slice_get all (n + k) ≡ slice_get (facts_at types facts) k) → begun_each all (numbers_from n (is_in_scope scope) facts) ≡ begun_in scope (facts_at types facts)
begun_from types scope all n [] at = refl
begun_from types scope all n (fact ∷ facts) at =
    let here : slice_get all n ≡ Some (fact_at types fact) = ap (slice_get all) (omega arith) ∙ at 0 in
    let next : (k : ℕ) → slice_get all (suc n + k) ≡ slice_get (facts_at types facts) k = λ k. ap (slice_get all) (omega arith) ∙ at (suc k) in
    by (nat_eq fact.scope.0 scope) here (begun_from types scope all (suc n) facts next)
  where
    by : (b : Bool) → slice_get all n ≡ Some (fact_at types fact) → begun_each all (numbers_from (suc n) (is_in_scope scope) facts) ≡ begun_in scope (facts_at types facts)
        → begun_each all (if b then record { 0 = n } ∷ numbers_from (suc n) (is_in_scope scope) facts else numbers_from (suc n) (is_in_scope scope) facts) ≡ or_next (if b then begun_by (fact_at types fact).what else None) (begun_in scope (facts_at types facts))
    by false here rest = rest
    by true here rest = ap (λ (o : Option CxxFact). or_next (begun_at o) (begun_each all (numbers_from (suc n) (is_in_scope scope) facts))) here ∙ ap (or_next (begun_by (fact_at types fact).what)) rest

pub begun_are : (types : List CxxType) (scope : ℕ) (facts : List Fact) → begun_each (facts_at types facts) (numbers_of (is_in_scope scope) facts) ≡ begun_in scope (facts_at types facts)
begun_are types scope facts = begun_from types scope (facts_at types facts) 0 facts (λ k. ap (slice_get (facts_at types facts)) (omega arith))

pub begun_first : (facts : List CxxFact) (number : FactId) (others : List FactId) (function : FactId) → begun_at (slice_get facts number.0) ≡ Some function → begun_each facts (number ∷ others) ≡ Some function
begun_first facts number others function e = ap (λ (o : Option FactId). or_next o (begun_each facts others)) e

pub begun_next : (facts : List CxxFact) (number : FactId) (others : List FactId) → begun_at (slice_get facts number.0) ≡ None → begun_each facts (number ∷ others) ≡ begun_each facts others
begun_next facts number others e = ap (λ (o : Option FactId). or_next o (begun_each facts others)) e

-- ---- outward

pub round_is : (graph : CxxGraph) (scope : ℕ) → function_from graph scope scope ≡ function_round graph scope
unfolding function_round
round_is graph scope = refl

pub round_here : (graph : CxxGraph) (room less scope : ℕ) (function : FactId) (whole : Option FactId) → room ≡ suc less → Some function ≡ function_at graph scope → function_from graph room scope ≡ whole → Some function ≡ whole
round_here graph zero less scope function whole is here same = absurd (omega (arith, is))
round_here graph (suc room) less scope function whole is here same = ap (λ o. or_next o (function_from graph room (parent_of graph scope))) here ∙ same

pub round_on : (graph : CxxGraph) (room less scope next : ℕ) (whole : Option FactId) → room ≡ suc less → None ≡ function_at graph scope → next ≡ parent_of graph scope → function_from graph room scope ≡ whole → function_from graph less next ≡ whole
round_on graph zero less scope next whole is none up same = absurd (omega (arith, is))
round_on graph (suc room) less scope next whole is none up same =
    let all : room ≡ less = omega (arith, is) in
    ap (λ r. function_from graph r next) (sym all)
    ∙ ap (function_from graph room) up
    ∙ ap (λ o. or_next o (function_from graph room (parent_of graph scope))) none
    ∙ same

pub round_end : (graph : CxxGraph) (room scope : ℕ) (whole : Option FactId) → room ≡ zero → function_from graph room scope ≡ whole → None ≡ whole
round_end graph zero scope whole is same = same
round_end graph (suc room) scope whole is same = absurd (omega (arith, is))
