-- The first facts of functions and function templates.
use Rattle.std.proofs.Common.{◌≡◌, Bool, true, false, cond, List, [], ◌∷◌, map, refl, ap, ◌∙◌}
use Rattle.cxx_model.specs.Facts.Declarations as facts
use Rattle.cxx_model.specs.Facts.Declarations.{CxxGraph, Declares}
use Rattle.cxx_meaning.specs.Lookups.Associated.{functions_among}
use Rattle.cxx_meaning.specs.Lookups.Sightings.{Sighting, entities, named_by}
use Rattle.cxx_meaning.specs.Lookups.Wanted.{is_function}
use Rattle.cxx_meaning.specs.Lookups.Gathered.{with_facts}
use Rattle.cxx_adl.specs.Functions.{first_by, firsts}

-- the entity of a function is named by its first fact, whatever else was found
named_first : (graph : CxxGraph) (all : List Sighting) (one : Sighting) (what : Declares) → is_function graph what ≡ true → named_by all (record one { what = what }) ≡ first_by one.meant what
unfolding named_by
named_first graph all one (facts.function of member flags defaults first) e = refl
named_first graph all one (facts.template template member defaults is_explicit first) e = refl
named_first graph all one _ e = absurd cc

firsts_from : (graph : CxxGraph) (all : List Sighting) (sightings : List Sighting) → map (named_by all) (functions_among graph sightings) ≡ firsts graph sightings
firsts_from graph all [] = refl
firsts_from graph all (one ∷ others) = by (is_function graph one.what) refl (firsts_from graph all others)
  where
    by : (t : Bool) → is_function graph one.what ≡ t → map (named_by all) (functions_among graph others) ≡ firsts graph others → map (named_by all) (cond t (one ∷ functions_among graph others) (functions_among graph others)) ≡ map (λ one. first_by one.meant one.what) (cond t (one ∷ functions_among graph others) (functions_among graph others))
    by true e rest = ap (λ x. x ∷ map (named_by all) (functions_among graph others)) (named_first graph all one one.what e) ∙ ap (λ xs. first_by one.meant one.what ∷ xs) rest
    by false e rest = rest

pub entities_first : (graph : CxxGraph) (sightings : List Sighting) → entities (functions_among graph sightings) ≡ with_facts [] (firsts graph sightings)
unfolding entities
entities_first graph sightings = ap (with_facts []) (firsts_from graph (functions_among graph sightings) sightings)
