-- Enumerations (7.2).
use Rattle.std.specs.Prelude.{ℕ, ℤ, nat_eq, if◌then◌else◌, List, [], ◌∷◌, Option}
use Rattle.cxx_model.specs.declared.base.Base.{Base}
use Rattle.cxx_model.specs.Facts.Declarations as facts
use Rattle.cxx_model.specs.Facts.Declarations.{CxxFact, CxxGraph, Declares}
use Rattle.cxx_model.specs.Types.Integral.{promoted_of_values}

-- 7.2: the values of the enumerators of an enumeration
abbrev pub values_in : ℕ → List CxxFact → List ℤ
values_in n [] = []
values_in n (fact ∷ others) = put fact.what (values_in n others)
  where
    put : Declares → List ℤ → List ℤ
    put (facts.enumerator number value) values = if nat_eq number n then value ∷ values else values
    put _ values = values

-- 4.5: the type to which an enumeration is promoted
unfoldable pub promoted : CxxGraph → ℕ → Option Base
promoted graph n = promoted_of_values (values_in n graph.facts)
