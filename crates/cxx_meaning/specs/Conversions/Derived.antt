-- Base classes (10), and classes that are not complete yet (14.7.1).
use Rattle.std.specs.Prelude.{ℕ, zero, suc, Bool, false, ◌&&◌, ◌||◌, nat_eq, List, length, Option, Some, None}
use Rattle.std.specs.List.{slice_get}
use Rattle.cxx_model.specs.Facts.Declarations.{CxxFact, CxxGraph, Declares}
use Rattle.cxx_model.specs.Facts.Declarations as facts

-- whether a fact says that the class has a base that passes a test
abbrev pub has_base : (ℕ → Bool) → ℕ → Option CxxFact → Bool
has_base test class None = false
has_base test class (Some fact) = by fact.what
  where
    by : Declares → Bool
    by (facts.ancestor number parent index access) = nat_eq number.0 class && test parent.0
    by _ = false

-- 10: whether a class is derived from another, as the facts before some count say: it has the other as a base, or a base
-- that was derived from the other before
abbrev pub is_derived_before : List CxxFact → ℕ → ℕ → ℕ → Bool
is_derived_before all zero class base = false
is_derived_before all (suc n) class base = has_base (λ parent. nat_eq parent base || is_derived_before all n parent base) class (slice_get all n) || is_derived_before all n class base

-- 10: whether a class is derived from another. A class names as a base only what was complete before.
unfoldable pub is_derived : CxxGraph → ℕ → ℕ → Bool
is_derived graph class base = is_derived_before graph.facts (length graph.facts) class base
