-- Facts by their numbers.
use Rattle.std.proofs.Common.{◌≡◌, ℕ, zero, suc, ◌≤◌, Bool, true, false, ltb, List, [], ◌∷◌, length, Option, Some, None, refl, ap, sym, arith, Bor}
use Rattle.std.specs.List.{filter, slice_get}
use Rattle.std.specs.Option.{option_copied}
use Rattle.std.specs.Prelude.{IfSome}
use Rattle.cxx_model.specs.declared.facts.Fact.{Fact}
use Rattle.cxx_model.specs.declared.types.FactId.{FactId}
use Rattle.cxx_model.specs.Facts.Declarations.{CxxFact, CxxGraph, facts_at}
use Rattle.cxx_model.specs.Facts.Fitted.{AreFactsBelow, IsFactBelow}
use Rattle.cxx_model.specs.Types.Trees.{CxxType}
use Rattle.cxx_members.proofs.Kept.{fact_below}
use Rattle.cxx_names.specs.Index.{numbers_in}
use Rattle.cxx_reading.specs.Seen.{fact_numbers, numbered_at}

pub copied_below : (count : ℕ) (facts : List Fact) (n : ℕ) (o : Option (Bor Fact)) → AreFactsBelow count facts → option_copied o ≡ slice_get facts n → IfSome o (λ fact. IsFactBelow count fact.now)
copied_below count facts n None below e = tt
copied_below count facts n (Some fact) below e = fact_below count facts n fact.now below (sym e)

-- ---- places in lists

pub length_at : (types : List CxxType) (facts : List Fact) → length (facts_at types facts) ≡ length facts
length_at types [] = refl
length_at types (fact ∷ facts) = ap suc (length_at types facts)

pub within : {A : Type 0} (xs : List A) (n : ℕ) → slice_get xs n ≡ None → length xs ≤ n
within [] n e = omega arith
within (x ∷ xs) zero e = absurd cc
within (x ∷ xs) (suc n) e = let le = within xs n e in omega arith

pub past : {A : Type 0} (xs : List A) (n : ℕ) → length xs ≤ n → slice_get xs n ≡ None
past [] n le = refl
past (x ∷ xs) zero le = absurd (omega arith)
past (x ∷ xs) (suc n) le = past xs n (omega arith)

-- ---- those facts that a graph has

abbrev is_known : ℕ → FactId → Bool
is_known count fact = ltb fact.0 count

known_there : (all : List CxxFact) (count n : ℕ) → count ≡ length all → ltb n count ≡ true → slice_get all n ≡ None → ⊥
known_there all count n c lt none = let le = within all n none in grind (arith, c)

known_past : (all : List CxxFact) (count n : ℕ) → count ≡ length all → ltb n count ≡ false → slice_get all n ≡ None
known_past all count n c ge = past all n (grind (arith, c))

pub kept_numbered : (graph : CxxGraph) (count : ℕ) (numbers : List FactId) → count ≡ length graph.facts → numbered_at graph (fact_numbers (filter (is_known count) numbers)) ≡ numbered_at graph (fact_numbers numbers)
kept_numbered graph count [] c = refl
kept_numbered graph count (number ∷ numbers) c = by (ltb number.0 count) refl (slice_get graph.facts number.0) refl (kept_numbered graph count numbers c)
  where
    by : (t : Bool) → ltb number.0 count ≡ t → (o : Option CxxFact) → slice_get graph.facts number.0 ≡ o → numbered_at graph (fact_numbers (filter (is_known count) numbers)) ≡ numbered_at graph (fact_numbers numbers) → numbered_at graph (fact_numbers (filter (is_known count) (number ∷ numbers))) ≡ numbered_at graph (fact_numbers (number ∷ numbers))
    by true lt None at rest = absurd (known_there graph.facts count number.0 c lt at)
    by true lt (Some fact) at rest = rw (lt, at) (ap (λ later. record { number = number.0; fact = fact } ∷ later) rest)
    by false lt None at rest = rw (lt, at) rest
    by false lt (Some fact) at rest = let none = known_past graph.facts count number.0 c lt in absurd cc

pub kept_numbers : (graph : CxxGraph) (count : ℕ) (numbers : List FactId) → count ≡ length graph.facts → numbers_in (numbered_at graph (fact_numbers (filter (is_known count) numbers))) ≡ filter (is_known count) numbers
kept_numbers graph count [] c = refl
kept_numbers graph count (number ∷ numbers) c = by (ltb number.0 count) refl (slice_get graph.facts number.0) refl (kept_numbers graph count numbers c)
  where
    by : (t : Bool) → ltb number.0 count ≡ t → (o : Option CxxFact) → slice_get graph.facts number.0 ≡ o → numbers_in (numbered_at graph (fact_numbers (filter (is_known count) numbers))) ≡ filter (is_known count) numbers → numbers_in (numbered_at graph (fact_numbers (filter (is_known count) (number ∷ numbers)))) ≡ filter (is_known count) (number ∷ numbers)
    by true lt None at rest = absurd (known_there graph.facts count number.0 c lt at)
    by true lt (Some fact) at rest = rw (lt, at) (ap (λ later. number ∷ later) rest)
    by false lt o at rest = rw lt rest
