-- What names with qualifiers mean (3.4.1, 3.4.3, 3.4.3.2).
use Rattle.std.specs.Prelude.{ℕ, Bool, true, false, List, [], ◌∷◌, length, Option, Some, None, Ok, Err}
use Rattle.std.specs.List.{slice_get}
use Rattle.cxx_model.specs.declared.evidence.Evidence.{Evidence}
use Rattle.cxx_model.specs.declared.evidence.Evidence.TheVariants.{ByBases, Found}
use Rattle.cxx_model.specs.declared.fault.FaultText.TheVariants as says
use Rattle.cxx_model.specs.declared.lookup.Found.{Found as Sought}
use Rattle.cxx_model.specs.declared.lookup.Found.TheVariants as sought
use Rattle.cxx_model.specs.declared.lookup.Hit.{Hit}
use Rattle.cxx_model.specs.declared.lookup.MemberFound.{MemberFound}
use Rattle.cxx_model.specs.declared.lookup.MemberFound.TheVariants as member
use Rattle.cxx_model.specs.declared.place.Place.{Place}
use Rattle.cxx_model.specs.declared.types.ClassId.{ClassId}
use Rattle.cxx_model.specs.declared.types.FactId.{FactId}
use Rattle.cxx_model.specs.Facts.Declarations as facts
use Rattle.cxx_model.specs.Facts.Declarations.{CxxFact, CxxGraph, CxxName, Declares, spelled}
use Rattle.cxx_model.specs.Stops.{Answer, Stopped, Faulty, ◌>>=◌, undeclared_at}
use Rattle.cxx_model.specs.Text.Lexemes.{nowhere}
use Rattle.cxx_model.specs.Types.Trees.{CxxType, class_type, qualified as with_words}
use Rattle.cxx_meaning.specs.Lookups.Member.{member as member_of_class}
use Rattle.cxx_meaning.specs.Lookups.Pending.{Asked}
use Rattle.cxx_meaning.specs.Lookups.Qualified.{qualified}
use Rattle.cxx_meaning.specs.Lookups.Wanted.{Wanted, any_name, before_colons, namespaces_only}
use Rattle.cxx_reading.specs.declared.region.Region.{Region}
use Rattle.cxx_reading.specs.declared.region.Region.TheVariants as region
use Rattle.cxx_reading.specs.Linked.{scope_id}
use Rattle.cxx_reading.specs.Seen.{Numbered, found_or_none, set_in, sought_from}
use Rattle.cxx_reading.specs.State.{unit_scope}
use Rattle.cxx_reading.specs.Trees.{CxxPath, CxxPathPart, last_part}

-- ---- faults of one name

abbrev pub place_in : Option CxxFact → Place
place_in None = nowhere
place_in (Some fact) = fact.place

abbrev pub place_of_fact : CxxGraph → ℕ → Place
place_of_fact graph number = place_in (slice_get graph.facts number)

-- 3.4: two declarations of which none hides the other
abbrev pub ambiguous_at : CxxGraph → CxxPathPart → FactId → FactId → Stopped
ambiguous_at graph part one two = Faulty (record { place = part.place; text = says.AmbiguousName part.word; evidence = Found (place_of_fact graph one.0) ∷ Found (place_of_fact graph two.0) ∷ [] })

-- 10.2: a member with the positions of the bases that lead to it
abbrev pub by_bases : CxxGraph → Hit → Evidence
by_bases graph one = ByBases (Some (place_of_fact graph one.fact.0)) one.path

-- 10.2: two members of a class that do not go together
abbrev pub ambiguous_member_at : CxxGraph → CxxPathPart → Hit → Hit → Stopped
ambiguous_member_at graph part one two = Faulty (record { place = part.place; text = says.AmbiguousName part.word; evidence = by_bases graph one ∷ by_bases graph two ∷ [] })

-- 3.4, 10.2: what is found is not ambiguous
abbrev pub unambiguous : CxxGraph → CxxPathPart → Sought → Answer (Unit {0})
unambiguous graph part (sought.Set all) = Ok tt
unambiguous graph part sought.Empty = Ok tt
unambiguous graph part (sought.Ambiguous one two) = Err (ambiguous_at graph part one two)
unambiguous graph part (sought.Member class (member.Ambiguous one two)) = Err (ambiguous_member_at graph part one two)
unambiguous graph part (sought.Member class (member.Set all path)) = Ok tt
unambiguous graph part (sought.Member class member.Empty) = Ok tt

-- what is declared there is not what may stand here
abbrev pub wrong_kind_at : CxxPathPart → Place → Stopped
wrong_kind_at part other = Faulty (record { place = part.place; text = says.WrongKindOfName part.word; evidence = Found other ∷ [] })

-- ---- namespaces among declarations

abbrev pub space_in : Declares → Option ℕ
space_in (facts.namespace inner) = Some inner.0
space_in _ = None

abbrev pub or_later : Option ℕ → Option ℕ → Option ℕ
or_later None later = later
or_later (Some n) later = Some n

abbrev pub first_space : List Numbered → Option ℕ
first_space [] = None
first_space (one ∷ others) = or_later (space_in one.fact.what) (first_space others)

-- ---- where a name is looked up

-- 10.2: what is found of a member of a class; a unit without templates asks for no class
abbrev pub member_or_none : ClassId → Asked MemberFound → Sought
member_or_none class (Ok of) = sought.Member class of
member_or_none class (Err needed) = sought.Empty

-- 3.4.1, 3.4.3.1, 3.4.3.2, 7.3.4: what a name means in a region, among all that is declared so far; a class that is not
-- complete has the members that it has so far
unfoldable pub sought_in : CxxGraph → Wanted → Region → CxxName → Sought
sought_in graph wanted (region.Outward scope) name = sought_from graph wanted scope.0 name
sought_in graph wanted (region.Inside space) name = found_or_none (qualified graph wanted space name (length graph.facts))
sought_in graph wanted (region.Class class) name = member_or_none class (member_of_class graph wanted class name)

-- the class that a type is
abbrev pub plain_class : CxxType → Option ℕ
plain_class (class_type n) = Some n
plain_class _ = None

-- the cv words of a synonym say nothing (7.1.3)
abbrev pub class_of_type : CxxType → Option ℕ
class_of_type (with_words cv of) = plain_class of
class_of_type of = plain_class of

-- the class that a declaration names
abbrev pub class_meant : Declares → Option ℕ
class_meant (facts.injected class) = Some class.0
class_meant (facts.class class is_union) = Some class.0
class_meant (facts.synonym of) = class_of_type of
class_meant _ = None

-- the class that the first of some declarations names
abbrev pub first_meant : List Numbered → Option ℕ
first_meant [] = None
first_meant (one ∷ others) = class_meant one.fact.what

-- where a class may stand
abbrev pub class_if : Bool → Option ℕ → Option ℕ
class_if true class = class
class_if false class = None

abbrev pub not_held : CxxPathPart → List Numbered → Stopped
not_held part [] = undeclared_at part.place part.word
not_held part (one ∷ others) = wrong_kind_at part one.fact.place

abbrev pub held_in_class : CxxPathPart → List Numbered → Option ℕ → Answer Region
held_in_class part all (Some class) = Ok (region.Class (record { 0 = class }))
held_in_class part all None = Err (not_held part all)

-- what is found of a part before `::` is a namespace, or a class where one may stand there
abbrev pub held_by : CxxPathPart → Bool → Option ℕ → List Numbered → Answer Region
held_by part classes (Some inner) all = Ok (region.Inside (scope_id inner))
held_by part classes None all = held_in_class part all (class_if classes (first_meant all))

abbrev pub held_among : CxxPathPart → Bool → List Numbered → Answer Region
held_among part classes all = held_by part classes (first_space all) all

abbrev pub holder_by : CxxGraph → Bool → CxxPathPart → Sought → Answer Region
holder_by graph classes part found = unambiguous graph part found >>= λ clear. held_among part classes (set_in graph found)

-- 3.4.3: the namespace or the class that a part before `::` means in a region, of what may stand there; objects, functions
-- and enumerators are passed over
unfoldable pub holder : CxxGraph → Wanted → Bool → Region → CxxPathPart → Answer Region
holder graph wanted classes where_ part = holder_by graph classes part (sought_in graph wanted where_ (spelled part.word))

-- 3.4.3: where the last of some parts is looked up, by the region of the first, by what may stand before `::`, and by whether
-- a class may
unfoldable pub region_by : CxxGraph → Wanted → Bool → Region → List CxxPathPart → Answer Region
region_by graph wanted classes where_ [] = Ok where_
region_by graph wanted classes where_ (part ∷ []) = Ok where_
region_by graph wanted classes where_ (part ∷ next ∷ others) = holder graph wanted classes where_ part >>= λ inner. region_by graph wanted classes inner (next ∷ others)

-- 3.4.3 p4: behind `::` alone a name is one of the scope of the unit
abbrev pub first_region : ℕ → Bool → Region
first_region scope false = region.Outward (scope_id scope)
first_region scope true = region.Inside (scope_id unit_scope.scope)

-- where the last part of a name is looked up that stands in a scope
unfoldable pub region_of : CxxGraph → ℕ → CxxPath → Answer Region
region_of graph scope path = region_by graph before_colons true (first_region scope path.global) path.parts

-- 3.4.6: the same of the name of a namespace in a using-directive or an alias, of which each part is one of a namespace
unfoldable pub space_region_of : CxxGraph → ℕ → CxxPath → Answer Region
space_region_of graph scope path = region_by graph namespaces_only false (first_region scope path.global) path.parts

-- 7.3.3: the same of a name that a using-declaration outside of classes brings, of which no part is one of a class
unfoldable pub using_region_of : CxxGraph → ℕ → CxxPath → Answer Region
using_region_of graph scope path = region_by graph before_colons false (first_region scope path.global) path.parts

-- The scope of a region. No block tells of the members of a class, so that of the unit stands for one of a class.
abbrev pub scope_of_region : Region → ℕ
scope_of_region (region.Outward scope) = scope.0
scope_of_region (region.Inside space) = space.0
scope_of_region (region.Class class) = unit_scope.scope

-- ---- what a name means

-- the name that is looked up
abbrev pub name_in : CxxPath → CxxName
name_in path = spelled (last_part path.parts).word

-- 3.4.1, 3.4.3.2: the entities that a name means in a region, by their first declarations; none where it is ambiguous
abbrev pub found_in : CxxGraph → Region → CxxName → List Numbered
found_in graph where_ name = set_in graph (sought_in graph any_name where_ name)

abbrev pub found_by : CxxGraph → CxxName → Answer Region → List Numbered
found_by graph name (Ok where_) = found_in graph where_ name
found_by graph name (Err why) = []

-- The entities that a name with its qualifiers means in a scope; none where one of its parts means nothing that may stand
-- there.
unfoldable pub found_of : CxxGraph → ℕ → CxxPath → List Numbered
found_of graph scope path = found_by graph (name_in path) (region_of graph scope path)
