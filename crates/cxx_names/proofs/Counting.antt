-- How many scopes and enumerations there are.
use Rattle.std.proofs.Common.{◌≡◌, suc, ◌+◌, ◌≤◌, Bool, true, false, List, [], ◌∷◌, ◌++◌, length, Option, Some, None, refl, ap, ◌∙◌, arith}
use Rattle.std.specs.Option.{option_to_list}
use Rattle.cxx_model.specs.declared.facts.Entity.{Entity}
use Rattle.cxx_model.specs.declared.facts.Entity.TheVariants as entity
use Rattle.cxx_model.specs.declared.facts.Fact.{Fact}
use Rattle.cxx_model.specs.Facts.Declarations.{fact_at, facts_at}
use Rattle.cxx_model.specs.Facts.Entities.{scope_kinds}
use Rattle.cxx_model.specs.Facts.Graph.{counted, enumerations, is_enumeration, scopes}
use Rattle.cxx_model.specs.Types.Trees.{CxxType}
use Rattle.cxx_reading.specs.Declaring.{enumeration_count}
use Rattle.cxx_names.specs.declared.entry.Noted.{Noted}
use Rattle.cxx_names.specs.Index.{enumeration_by, enumeration_scopes, noted_by, scopes_of}

pub scopes_below : (facts : List Fact) → length (scopes_of facts) ≤ length facts
scopes_below [] = omega arith
scopes_below (fact ∷ facts) = by (noted_by fact.scope fact.what) (scopes_below facts)
  where
    by : (o : Option Noted) → length (scopes_of facts) ≤ length facts → length (option_to_list o ++ scopes_of facts) ≤ suc (length facts)
    by None le = omega arith
    by (Some noted) le = omega arith

pub enumerations_below : (facts : List Fact) → enumerations facts ≤ length facts
enumerations_below [] = omega arith
enumerations_below (fact ∷ facts) = by (is_enumeration fact.what) (enumerations_below facts)
  where
    by : (t : Bool) → enumerations facts ≤ length facts → counted t (enumerations facts) ≤ suc (length facts)
    by true le = omega arith
    by false le = omega arith

pub scopes_counted : (types : List CxxType) (facts : List Fact) → length (scopes_of facts) ≡ length (scope_kinds (facts_at types facts))
scopes_counted types [] = refl
scopes_counted types (fact ∷ facts) = by fact.what (scopes_counted types facts)
  where
    by : (what : Entity) → length (scopes_of facts) ≡ length (scope_kinds (facts_at types facts)) → length (option_to_list (noted_by fact.scope what) ++ scopes_of facts) ≡ length (scope_kinds (fact_at types (record fact { what = what }) ∷ facts_at types facts))
    by (entity.Scope parent kind) e = ap suc e
    by _ e = e

pub enumerations_counted : (types : List CxxType) (facts : List Fact) → enumerations facts ≡ enumeration_count (facts_at types facts)
enumerations_counted types [] = refl
enumerations_counted types (fact ∷ facts) = by fact.what (enumerations_counted types facts)
  where
    by : (what : Entity) → enumerations facts ≡ enumeration_count (facts_at types facts) → counted (is_enumeration what) (enumerations facts) ≡ enumeration_count (fact_at types (record fact { what = what }) ∷ facts_at types facts)
    by (entity.Enumeration number) e = let k : enumerations facts + 1 ≡ suc (enumerations facts) = omega arith in k ∙ ap suc e
    by _ e = e

pub scopes_are : (facts : List Fact) → length (scopes_of facts) ≡ scopes facts
scopes_are [] = refl
scopes_are (fact ∷ facts) = by fact.what (scopes_are facts)
  where
    by : (what : Entity) → length (scopes_of facts) ≡ scopes facts → length (option_to_list (noted_by fact.scope what) ++ scopes_of facts) ≡ scopes (record fact { what = what } ∷ facts)
    by (entity.Scope parent kind) e = omega (arith, e)
    by _ e = e

pub enumerations_are : (facts : List Fact) → length (enumeration_scopes facts) ≡ enumerations facts
enumerations_are [] = refl
enumerations_are (fact ∷ facts) = by fact.what (enumerations_are facts)
  where
    by : (what : Entity) → length (enumeration_scopes facts) ≡ enumerations facts → length (option_to_list (enumeration_by fact.scope what) ++ enumeration_scopes facts) ≡ counted (is_enumeration what) (enumerations facts)
    by (entity.Enumeration number) e = omega (arith, e)
    by _ e = e
