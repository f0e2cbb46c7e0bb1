-- Declarations of one entity, seen one after another.
use Rattle.std.specs.Prelude.{Bool, false, nat_lt, if◌then◌else◌, List, [], ◌∷◌, Option, Some, None}
use Rattle.cxx_model.specs.declared.types.FactId.{FactId}
use Rattle.cxx_model.specs.Facts.Entities.{CxxEntity, of_fact, same_entity}
use Rattle.cxx_meaning.specs.Lookups.Sightings.{Sighting, entity_meant, number_id}
use Rattle.cxx_meaning.specs.Lookups.Wanted.{is_hideable}
use Rattle.cxx_found.specs.declared.nearest.Alone.{Alone}
use Rattle.cxx_found.specs.declared.nearest.Alone.TheVariants as alone

-- the fact by which the entity of a declaration is named that is seen alone, or is the first of those of its entity
abbrev pub named_alone : Sighting → FactId
named_alone one = by (entity_meant one)
  where
    by : CxxEntity → FactId
    by (of_fact n) = number_id n
    by _ = one.meant

-- 3.3.7: the entity of a declaration that no other hides
abbrev pub plain_entity : Sighting → Option CxxEntity
plain_entity one = if is_hideable one.what then None else Some (entity_meant one)

abbrev pub same_plain : Option CxxEntity → Option CxxEntity → Bool
same_plain (Some one) (Some two) = same_entity one two
same_plain _ _ = false

abbrev pub sooner : Sighting → Sighting → Sighting
sooner one two = if nat_lt two.meant.0 one.meant.0 then two else one

-- the first declaration of the entity of one and another, where that is one
abbrev pub joined : Option Sighting → Sighting → Option Sighting
joined None two = Some two
joined (Some one) two = if same_plain (plain_entity one) (plain_entity two) then Some (sooner one two) else None

abbrev pub alone_by : Option Sighting → (Sighting → Alone) → Alone
alone_by None rest = alone.Several
alone_by (Some one) rest = rest one

-- what is found in some declarations behind those of one entity, by its first one
abbrev pub alone_from : Option Sighting → List Sighting → Alone
alone_from None [] = alone.Nothing
alone_from (Some one) [] = alone.One (named_alone one)
alone_from only (two ∷ others) = alone_by (joined only two) (λ one. alone_from (Some one) others)
