-- The numbers of declarations stand for them.
use Rattle.std.proofs.Common.{◌≡◌, ℕ, zero, suc, ◌+◌, Bool, true, false, cond, List, [], ◌∷◌, map, Some, refl, ap, ◌∙◌, arith}
use Rattle.std.specs.List.{slice_get}
use Rattle.cxx_model.specs.declared.types.FactId.{FactId}
use Rattle.cxx_model.specs.Facts.Declarations.{CxxFact, CxxGraph, CxxName}
use Rattle.cxx_reading.specs.Seen.{Numbered, declared_from, declared_in, declares_in}
use Rattle.cxx_overload.specs.Views.{AreOf, numbered_in, with_fact}

pub numbers_mean : (graph : CxxGraph) (numbers : List FactId) (found : List Numbered) → map (λ n. n.0) numbers ≡ map (λ one. one.number) found → AreOf graph found → numbered_in graph numbers ≡ found
numbers_mean graph [] [] same are = refl
numbers_mean graph [] (one ∷ others) same are = absurd cc
numbers_mean graph (n ∷ numbers) [] same are = absurd cc
numbers_mean graph (n ∷ numbers) (one ∷ others) same are =
    let first : n.0 ≡ one.number = cc in
    let rest : map (λ n. n.0) numbers ≡ map (λ one. one.number) others = cc in
    ap (λ k. with_fact k (slice_get graph.facts k) (numbered_in graph numbers)) first
    ∙ ap (λ o. with_fact one.number o (numbered_in graph numbers)) are.0
    ∙ ap (λ xs. one ∷ xs) (numbers_mean graph numbers others rest are.1)

declared_step : (graph : CxxGraph) (number : ℕ) (fact : CxxFact) (rest : List Numbered) (b : Bool) → slice_get graph.facts number ≡ Some fact → AreOf graph rest → AreOf graph (cond b (record { number = number; fact = fact } ∷ rest) rest)
declared_step graph number fact rest true at are = (at, are)
declared_step graph number fact rest false at are = are

declared_are : (graph : CxxGraph) (scope : ℕ) (name : CxxName) (facts : List CxxFact) (number : ℕ) → ((k : ℕ) → slice_get graph.facts (number + k) ≡ slice_get facts k) → AreOf graph (declared_from scope name number facts)
declared_are graph scope name [] number at = tt
declared_are graph scope name (fact ∷ facts) number at =
    let here : slice_get graph.facts number ≡ Some fact = (let e : number ≡ number + 0 = omega arith in ap (slice_get graph.facts) e ∙ at 0) in
    let later : (k : ℕ) → slice_get graph.facts (suc number + k) ≡ slice_get facts k = λ k. (let e : suc number + k ≡ number + suc k = omega arith in ap (slice_get graph.facts) e ∙ at (suc k)) in
    declared_step graph number fact (declared_from scope name (suc number) facts) (declares_in scope name fact) here (declared_are graph scope name facts (suc number) later)

pub declared_mean : (graph : CxxGraph) (scope : ℕ) (name : CxxName) (numbers : List FactId) → map (λ n. n.0) numbers ≡ map (λ one. one.number) (declared_in graph scope name) → numbered_in graph numbers ≡ declared_in graph scope name
unfolding declared_in
declared_mean graph scope name numbers same =
    numbers_mean graph numbers (declared_from scope name zero graph.facts) same
    (declared_are graph scope name graph.facts zero (λ k. (let e : zero + k ≡ k = omega arith in ap (slice_get graph.facts) e)))
