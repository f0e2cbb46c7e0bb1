-- Which of some default arguments is that of a parameter.
use Rattle.std.proofs.Common.{◌≡◌, ◌<◌, ◌+◌, ℕ, zero, suc, cond, List, [], ◌∷◌, drop, length, get_or, arith, Option, Some, option_map, refl, subst}
use Rattle.std.specs.List.{slice_get}
use Rattle.cxx_model.specs.declared.facts.Fact.{Fact}
use Rattle.cxx_model.specs.Facts.Declarations.{CxxFact, fact_at, facts_at}
use Rattle.cxx_model.specs.Types.Trees.{CxxType}
use Rattle.cxx_reading.specs.Trees.{CxxTree}
use Rattle.cxx_tree.specs.declared.kept.Fallback.{Fallback}
use Rattle.cxx_tree.specs.Defaults.{first_given, is_given}
use Rattle.cxx_tree.specs.Held.{AreFallbacksBelow, Held, fallback_at, fallbacks_at, meaning, trees}

pub stored : (types : List CxxType) (facts : List Fact) (n : ℕ) → slice_get (facts_at types facts) n ≡ option_map (fact_at types) (slice_get facts n)
stored types [] n = refl
stored types (fact ∷ facts) zero = refl
stored types (fact ∷ facts) (suc n) = stored types facts n

-- the first of one or of others
pub given_more : (all : List CxxFact) (scope function index : ℕ) (trees : List CxxTree) (one : Fallback) (others : List Fallback)
    → first_given all scope function index (fallbacks_at trees (one ∷ others)) ≡ cond (is_given all scope function index (fallback_at trees one)) (Some (fallback_at trees one)) (first_given all scope function index (fallbacks_at trees others))
given_more all scope function index trees one others = refl

below_next : (count i : ℕ) (all : List Fallback) → AreFallbacksBelow count (drop i all) → AreFallbacksBelow count (drop (suc i) all)
below_next count zero [] below = tt
below_next count zero (one ∷ all) below = below.1
below_next count (suc i) [] below = tt
below_next count (suc i) (one ∷ all) below = below_next count i all below

pub below_step : (count i : ℕ) (all : List Fallback) → AreFallbacksBelow count (drop i all) → AreFallbacksBelow count (drop (i + 1) all)
below_step count i all below = subst (λ n. AreFallbacksBelow count (drop n all)) (let e : suc i ≡ i + 1 = omega arith in e) (below_next count i all below)

pub below_at : (count i : ℕ) (all : List Fallback) (none : Fallback) → i < length all → AreFallbacksBelow count (drop i all) → (get_or all i none).tree.0 < count
below_at count i [] none within below = absurd (omega (arith, within))
below_at count zero (one ∷ all) none within below = below.0
below_at count (suc i) (one ∷ all) none within below = below_at count i all none (omega (arith, within)) below

-- what a state answers of those that it keeps
pub given_is : (seen held : Held) (scope function index : ℕ) (result : Option Fallback) (fallbacks : List Fallback) → held ≡ seen → fallbacks ≡ held.fallbacks
    → ((types : List CxxType) (all : List CxxTree) → option_map (fallback_at all) result ≡ first_given (facts_at types held.graph.facts) scope function index (fallbacks_at all fallbacks))
    → option_map (fallback_at (trees seen)) result ≡ first_given (meaning seen).graph.facts scope function index (meaning seen).given
unfolding meaning
given_is seen held scope function index result fallbacks same is holds =
    subst (λ (h : Held). option_map (fallback_at (trees h)) result ≡ first_given (facts_at h.types h.graph.facts) scope function index (fallbacks_at (trees h) h.fallbacks)) same
    (subst (λ fs. option_map (fallback_at (trees held)) result ≡ first_given (facts_at held.types held.graph.facts) scope function index (fallbacks_at (trees held) fs)) is (holds held.types (trees held)))
