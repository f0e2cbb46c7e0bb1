-- The direct bases of a class, by the numbers of their facts.
use Rattle.std.proofs.Common.{◌≡◌, ℕ, zero, suc, ◌+◌, Bool, true, false, cond, eqb, List, [], ◌∷◌, ◌++◌, Some, option_map, refl, ap, ◌∙◌, subst, arith}
use Rattle.std.specs.List.{slice_get}
use Rattle.cxx_model.specs.declared.facts.Entity.{Entity}
use Rattle.cxx_model.specs.declared.facts.Entity.TheVariants as entity
use Rattle.cxx_model.specs.declared.facts.Fact.{Fact}
use Rattle.cxx_model.specs.declared.types.FactId.{FactId}
use Rattle.cxx_model.specs.Types.Trees.{CxxType}
use Rattle.cxx_model.specs.Facts.Declarations.{CxxFact, declares_at, fact_at, facts_at}
use Rattle.cxx_model.specs.Facts.Fitted.{AreFactsBelow, IsFactBelow}
use Rattle.cxx_meaning.specs.Lookups.Associated.{Part as PartMeant, of_base, base_before, bases_of, with_parts}
use Rattle.cxx_graph.specs.Numbered.{is_ancestor_of, numbers_from, numbers_of}
use Rattle.cxx_adl.specs.Views.{base_by}
use Rattle.cxx_adl.proofs.Growing.{with_both}

pub fact_is : (types : List CxxType) (facts : List Fact) (n : ℕ) → slice_get (facts_at types facts) n ≡ option_map (fact_at types) (slice_get facts n)
fact_is types [] n = refl
fact_is types (fact ∷ facts) zero = refl
fact_is types (fact ∷ facts) (suc n) = fact_is types facts n

-- the bases that facts with these numbers name
abbrev pub bases_at : List CxxFact → ℕ → List FactId → List PartMeant
bases_at all class [] = []
bases_at all class (number ∷ others) = base_by class (slice_get all number.0) ++ bases_at all class others

pub base_more : (all : List CxxFact) (class : ℕ) (parts : List PartMeant) (number : FactId) (others : List FactId) → with_parts (with_parts parts (base_by class (slice_get all number.0))) (bases_at all class others) ≡ with_parts parts (bases_at all class (number ∷ others))
base_more all class parts number others = with_both parts (base_by class (slice_get all number.0)) (bases_at all class others)

-- a fact of a base, or another
base_first : (types : List CxxType) (all : List CxxFact) (class n : ℕ) (fact : Fact) (what : Entity) (numbers : List FactId) (later : List PartMeant) → slice_get all n ≡ Some (fact_at types (record fact { what = what })) → bases_at all class numbers ≡ later → bases_at all class (cond (is_ancestor_of class (record fact { what = what })) (record { 0 = n } ∷ numbers) numbers) ≡ base_before class (declares_at types what) later
base_first types all class n fact (entity.Ancestor derived parent index access) numbers later at rest = by (eqb derived.0 class) refl
  where
    by : (t : Bool) → eqb derived.0 class ≡ t → bases_at all class (cond t (record { 0 = n } ∷ numbers) numbers) ≡ cond t (of_base parent.0 ∷ later) later
    by true h = ap (λ o. base_by class o ++ bases_at all class numbers) at ∙ (ap (λ t. cond t (of_base parent.0 ∷ []) [] ++ bases_at all class numbers) h ∙ ap (λ xs. of_base parent.0 ∷ xs) rest)
    by false h = rest
base_first types all class n fact what numbers later at rest = rest

bases_from : (types : List CxxType) (all : List CxxFact) (class n : ℕ) (facts : List Fact) → ((k : ℕ) → slice_get all (n + k) ≡ slice_get (facts_at types facts) k) → bases_at all class (numbers_from n (is_ancestor_of class) facts) ≡ bases_of (facts_at types facts) class
bases_from types all class n [] at = refl
bases_from types all class n (fact ∷ facts) at =
    let here : slice_get all n ≡ Some (fact_at types fact) = ap (slice_get all) (omega arith) ∙ at 0 in
    let next : (k : ℕ) → slice_get all (suc n + k) ≡ slice_get (facts_at types facts) k = λ k. ap (slice_get all) (omega arith) ∙ at (suc k) in
    base_first types all class n fact fact.what (numbers_from (suc n) (is_ancestor_of class) facts) (bases_of (facts_at types facts) class) here (bases_from types all class (suc n) facts next)

pub bases_are : (types : List CxxType) (facts : List Fact) (class : ℕ) → bases_at (facts_at types facts) class (numbers_of (is_ancestor_of class) facts) ≡ bases_of (facts_at types facts) class
bases_are types facts class = bases_from types (facts_at types facts) class 0 facts (λ k. ap (slice_get (facts_at types facts)) (omega arith))

pub fact_below : (count : ℕ) (facts : List Fact) (number : ℕ) (fact : Fact) → AreFactsBelow count facts → slice_get facts number ≡ Some fact → IsFactBelow count fact
fact_below count [] number fact below at = absurd cc
fact_below count (one ∷ facts) zero fact below at = subst (λ f. IsFactBelow count f) (some_is one fact at) below.0
  where
    some_is : (x y : Fact) → Some x ≡ Some y → x ≡ y
    some_is x y e = cc
fact_below count (one ∷ facts) (suc number) fact below at = fact_below count facts number fact below.1 at
