-- What the values of the code stand for.
use Rattle.std.specs.Prelude.{ℕ, ◌≡◌, ◌<◌, List, [], ◌∷◌, length, map, Option, Some, None}
use Rattle.cxx_model.specs.declared.lookup.Found.{Found}
use Rattle.cxx_model.specs.declared.lookup.Found.TheVariants as found
use Rattle.cxx_model.specs.Facts.Declarations.{CxxFact, CxxGraph, CxxName, facts_at, graph_at, spelled}
use Rattle.cxx_model.specs.Facts.Entities.{CxxEntity, of_fact, of_space, of_type}
use Rattle.cxx_model.specs.Types.Numbers.{type_at}
use Rattle.cxx_model.specs.Facts.Fitted.{Fitted}
use Rattle.cxx_model.specs.Types.Trees.{CxxType}
use Rattle.cxx_meaning.specs.Lookups.Directives.{Shown as ShownMeant}
use Rattle.cxx_meaning.specs.Lookups.Ordinary.{found_in_sightings}
use Rattle.cxx_meaning.specs.Lookups.Sightings.{Sighting}
use Rattle.cxx_meaning.specs.Lookups.Wanted.{Wanted}
use Rattle.cxx_members.specs.Sighted.{AreBelow, sighting_at}
use Rattle.cxx_members.specs.Views.{wanted_at}
use Rattle.cxx_names.specs.Index.{Notes}
use Rattle.cxx_names.specs.Plain.{ArePlain}
use Rattle.cxx_names.specs.Words.{IsMetAs}
use Rattle.cxx_found.specs.declared.again.Plain.{Plain}
use Rattle.cxx_found.specs.declared.again.Plain.TheVariants as plain
use Rattle.cxx_found.specs.declared.nearest.Alone.{Alone}
use Rattle.cxx_found.specs.declared.nearest.Alone.TheVariants as alone
use Rattle.cxx_found.specs.declared.nearest.Nearest.{Nearest}
use Rattle.cxx_found.specs.declared.nearest.Nearest.TheVariants as nearest
use Rattle.cxx_found.specs.declared.seeking.Seeking.{Seeking}
use Rattle.cxx_found.specs.declared.shown.Shown.{Shown}

-- ---- what a lookup reads

-- The index is that of the graph, the graph and the table of types fit together, nothing is declared of templates, and
-- what is known of the word is so.
pub record IsSeeking (seeking : Seeking) : Type 0 where
  pub noted : Notes seeking.names.now seeking.looking.graph.now.facts
  pub fitted : Fitted seeking.looking.graph.now seeking.looking.types.now
  pub plain : ArePlain seeking.looking.graph.now.facts
  pub met : IsMetAs seeking.names.now.words seeking.word.now seeking.met

abbrev pub types_of : Seeking → List CxxType
types_of seeking = seeking.looking.types.now

abbrev pub graph_of : Seeking → CxxGraph
graph_of seeking = graph_at seeking.looking.types.now seeking.looking.graph.now

abbrev pub facts_of : Seeking → List CxxFact
facts_of seeking = facts_at seeking.looking.types.now seeking.looking.graph.now.facts

-- all that is declared is seen
abbrev pub cut_of : Seeking → ℕ
cut_of seeking = length (facts_of seeking)

abbrev pub wanted_of : Seeking → Wanted
wanted_of seeking = wanted_at seeking.wanted

abbrev pub name_of : Seeking → CxxName
name_of seeking = spelled seeking.word.now

-- ---- what is found

abbrev pub shown_of : Shown → ShownMeant
shown_of shown = record { there = shown.there; space = shown.space }

-- the entity of a declaration that no other hides
abbrev pub plain_at : List CxxType → Plain → Option CxxEntity
plain_at types (plain.Fact fact) = Some (of_fact fact.0)
plain_at types (plain.Type of) = Some (of_type (type_at types of.0))
plain_at types (plain.Space space) = Some (of_space space.0)
plain_at types plain.Hidden = None

abbrev pub IsPlainBelow : ℕ → Plain → Type 0
IsPlainBelow count (plain.Type of) = of.0 < count
IsPlainBelow count _ = Unit {0}

-- what is found in declarations, of which there may be none or those of one entity
abbrev pub IsAlone : CxxGraph → List Sighting → Alone → Type 0
IsAlone graph sightings alone.Nothing = sightings ≡ []
IsAlone graph sightings (alone.One fact) = found_in_sightings graph sightings ≡ Some (found.Set (fact ∷ []))
IsAlone graph sightings alone.Several = Unit {0}

abbrev pub found_near : List CxxType → CxxGraph → Nearest → Option Found
found_near types graph nearest.Nothing = None
found_near types graph (nearest.One fact) = Some (found.Set (fact ∷ []))
found_near types graph (nearest.Several sightings) = found_in_sightings graph (map (sighting_at types) sightings.items)

abbrev pub IsNearBelow : ℕ → Nearest → Type 0
IsNearBelow count (nearest.Several sightings) = AreBelow count sightings.items
IsNearBelow count _ = Unit {0}

abbrev pub or_nothing : Option Found → Found
or_nothing None = found.Empty
or_nothing (Some one) = one
