-- What is found where one declaration is seen.
use Rattle.std.proofs.Common.{◌≡◌, Bool, true, false, ◌&&◌, ◌||◌, cond, List, [], ◌∷◌, Some, refl, ap, ◌∙◌}
use Rattle.cxx_model.specs.declared.lookup.Found.TheVariants as found
use Rattle.cxx_model.specs.declared.types.FactId.{FactId}
use Rattle.cxx_model.specs.Facts.Declarations as facts
use Rattle.cxx_model.specs.Facts.Declarations.{CxxGraph, Declares}
use Rattle.cxx_model.specs.Facts.Entities.{CxxEntity, of_fact, of_space, of_type}
use Rattle.cxx_meaning.specs.Lookups.Gathered.{with_facts}
use Rattle.cxx_meaning.specs.Lookups.Sightings.{Sighting, entities, entity_meant, found_of, is_hidden_among, least_of, looked_up, named_by, odd_pair, unhidden}
use Rattle.cxx_meaning.specs.Lookups.Ordinary.{found_in_sightings}
use Rattle.cxx_meaning.specs.Lookups.Wanted.{hides_types, is_hideable}
use Rattle.cxx_found.specs.Again.{named_alone}
use Rattle.cxx_found.specs.Views.{or_nothing}

-- what is hidden hides nothing
not_both : (graph : CxxGraph) (what : Declares) (t : Bool) → (is_hideable what && ((hides_types graph what && t) || false)) ≡ false
not_both graph (facts.injected class) t = refl
not_both graph (facts.class class is_union) t = refl
not_both graph (facts.enumeration n) t = refl
not_both graph _ t = refl

unhidden_alone : (graph : CxxGraph) (one : Sighting) → unhidden graph (one ∷ []) ≡ one ∷ []
unfolding unhidden
unhidden_alone graph one =
    let none : is_hidden_among graph (one ∷ []) one ≡ false = not_both graph one.what _ in
    rw none refl

either : {A : Type 0} (t : Bool) (x : A) → cond t x x ≡ x
either true x = refl
either false x = refl

named_is : (one : Sighting) (entity : CxxEntity) → entity_meant one ≡ entity → named_by (one ∷ []) one ≡ named_alone one
unfolding named_by least_of
named_is one (of_fact n) e = rw e refl
named_is one (of_type t) e = rw e (either _ one.meant)
named_is one (of_space n) e = rw e (either _ one.meant)

entities_alone : (one : Sighting) → entities (one ∷ []) ≡ named_alone one ∷ []
unfolding entities with_facts
entities_alone one = ap (λ n. n ∷ []) (named_is one (entity_meant one) refl)

pub found_alone : (graph : CxxGraph) (fact : FactId) → found_of graph (fact ∷ []) ≡ found.Set (fact ∷ [])
unfolding found_of odd_pair
found_alone graph fact = refl

pub alone_is : (graph : CxxGraph) (one : Sighting) → looked_up graph (one ∷ []) ≡ found.Set (named_alone one ∷ [])
alone_is graph one = ap (λ all. found_of graph (entities all)) (unhidden_alone graph one) ∙ (ap (found_of graph) (entities_alone one) ∙ found_alone graph (named_alone one))

pub one_found : (graph : CxxGraph) (one : Sighting) → found_in_sightings graph (one ∷ []) ≡ Some (found.Set (named_alone one ∷ []))
one_found graph one = ap (λ of. Some of) (alone_is graph one)

none_found : (graph : CxxGraph) → looked_up graph [] ≡ found.Empty
unfolding unhidden entities with_facts found_of odd_pair
none_found graph = refl

-- what is found in some declarations, if any
pub all_found : (graph : CxxGraph) (sightings : List Sighting) → looked_up graph sightings ≡ or_nothing (found_in_sightings graph sightings)
all_found graph [] = none_found graph
all_found graph (one ∷ others) = refl
