-- Members of a class and of its bases (10.2).
use Rattle.std.specs.Prelude.{◌≡◌, ℕ, Bool, true, false, not, ◌&&◌, ◌||◌, nat_eq, if◌then◌else◌, List, [], ◌∷◌, ◌++◌, map, filter, find, Option, Some, None}
use Rattle.std.specs.List.{Contains, list_any}
use Rattle.cxx_model.specs.declared.facts.Access.{Access}
use Rattle.cxx_model.specs.declared.facts.ScopeKind.{ScopeKind}
use Rattle.cxx_model.specs.declared.facts.ScopeKind.TheVariants as kind
use Rattle.cxx_model.specs.declared.lookup.Hit.{Hit}
use Rattle.cxx_model.specs.declared.lookup.MemberFound.{MemberFound}
use Rattle.cxx_model.specs.declared.lookup.MemberFound.TheVariants as found
use Rattle.cxx_model.specs.declared.types.ClassId.{ClassId}
use Rattle.cxx_model.specs.declared.types.ScopeId.{ScopeId}
use Rattle.cxx_model.specs.Facts.Conflicts.{same_parameters}
use Rattle.cxx_model.specs.Facts.Declarations as facts
use Rattle.cxx_model.specs.Facts.Declarations.{CxxFact, CxxGraph, CxxName, Declares, facts_at}
use Rattle.cxx_model.specs.Facts.Graph.{Graph, InRange}
use Rattle.cxx_model.specs.Types.Trees.{CxxType}
use Rattle.cxx_meaning.specs.Lookups.Gathered.{gathered}
use Rattle.cxx_meaning.specs.Lookups.Pending.{Asked, asked}
use Rattle.cxx_meaning.specs.Lookups.Scopes.{kind_of}
use Rattle.cxx_meaning.specs.Lookups.Sightings.{Sighting, entities, is_named, sighting_of, unhidden, wanted_one}
use Rattle.cxx_meaning.specs.Lookups.Wanted.{Wanted, is_nonstatic}

abbrev pub same_class : ClassId → ClassId → Bool
same_class one two = nat_eq one.0 two.0

-- 9.2: the class to which a scope belongs
abbrev pub class_of_scope : List CxxFact → ScopeId → Option ClassId
class_of_scope all scope = by (kind_of all scope)
  where
    by : Option ScopeKind → Option ClassId
    by (Some (kind.Class class)) = Some class
    by _ = None

abbrev pub is_of_class : ClassId → Option ClassId → Bool
is_of_class class None = false
is_of_class class (Some other) = same_class other class

-- ---- the declarations of one class

-- a declaration of the name in a class; those of a class are seen as soon as they are there (3.3.6)
unfoldable pub member_in : CxxGraph → Wanted → CxxName → ClassId → ℕ → CxxFact → Option Sighting
member_in graph wanted name class number fact =
    if is_named name fact && is_of_class class (class_of_scope graph.facts (record { 0 = fact.scope }))
    then wanted_one graph wanted (sighting_of graph.facts number fact) else None

unfoldable pub members_in : CxxGraph → Wanted → CxxName → ClassId → List Sighting
members_in graph wanted name class = gathered (member_in graph wanted name class) 0 graph.facts

-- a using-declaration
abbrev pub is_brought : Sighting → Bool
is_brought one = not (nat_eq one.itself.0 one.meant.0)

abbrev pub same_lists : Declares → Declares → Bool
same_lists (facts.function one kind _ _ _) (facts.function two other _ _ _) = same_parameters true one two
same_lists _ _ = false

-- 7.3.3: whether a function that the class itself declares hides one that is brought, its parameters being the same
abbrev pub is_redeclared_by : Sighting → Sighting → Bool
is_redeclared_by one two = not (is_brought two) && same_lists one.what two.what

abbrev pub is_redeclared : List Sighting → Sighting → Bool
is_redeclared sightings one = is_brought one && list_any (is_redeclared_by one) sightings

unfoldable pub not_redeclared : List Sighting → List Sighting
not_redeclared sightings = filter (λ one. not (is_redeclared sightings one)) sightings

-- what the name means among the declarations of one class
unfoldable pub declared_in : CxxGraph → Wanted → CxxName → ClassId → List Sighting
declared_in graph wanted name class = unhidden graph (not_redeclared (members_in graph wanted name class))

-- ---- subobjects

-- A subobject whose class declares the name: the positions of the bases that lead to it, from 1, and its class.
pub record Way : Type 0 where
  pub path : List ℕ
  pub holder : ClassId

abbrev pub is_nothing : {A : Type 0} → List A → Bool
is_nothing [] = true
is_nothing (x ∷ xs) = false

-- whether the class itself declares the name
unfoldable pub declares_member : CxxGraph → Wanted → CxxName → ClassId → Bool
declares_member graph wanted name class = not (is_nothing (members_in graph wanted name class))

-- 10.2: a class that declares the name has it by itself; every declaration in a base is hidden
unfoldable pub own_ways : CxxGraph → Wanted → CxxName → ClassId → List Way
own_ways graph wanted name class = if declares_member graph wanted name class then record { path = []; holder = class } ∷ [] else []

abbrev pub through : ℕ → Way → Way
through index way = record way { path = index ∷ way.path }

-- What each class has after one more direct base: a class that does not declare the name has there what the base has,
-- with the position of the base in front.
abbrev pub at_base : (ClassId → Bool) → ClassId → ClassId → ℕ → (ClassId → List Way) → ClassId → List Way
at_base declares derived parent index now class = if same_class derived class && not (declares class) then now class ++ map (through index) (now parent) else now class

-- What each class has after one more fact. A base is complete when it is named as one (10), so it then has all that it
-- will have.
unfoldable pub with_base : (ClassId → Bool) → CxxFact → (ClassId → List Way) → ClassId → List Way
with_base declares fact now class = by fact.what
  where
    by : Declares → List Way
    by (facts.ancestor derived parent index access) = at_base declares derived parent index now class
    by _ = now class

unfoldable pub ways_after : (ClassId → Bool) → (ClassId → List Way) → List CxxFact → ClassId → List Way
ways_after declares now [] = now
ways_after declares now (fact ∷ others) = ways_after declares (with_base declares fact now) others

-- The subobjects of a class that have the name and are not hidden: the class itself where it declares the name, and else
-- those of its bases, in order, each with the position of the base in front.
unfoldable pub ways : CxxGraph → Wanted → CxxName → ClassId → List Way
ways graph wanted name = ways_after (declares_member graph wanted name) (own_ways graph wanted name) graph.facts

-- ---- what is found

-- Two subobjects do not go together where they are of different classes, or where the name has a nonstatic member.
abbrev pub breaks : Bool → Way → Way → Bool
breaks any_nonstatic one two = any_nonstatic || not (same_class one.holder two.holder)

abbrev pub is_one_nonstatic : Sighting → Bool
is_one_nonstatic one = is_nonstatic one.what

abbrev pub has_nonstatic : List Sighting → Bool
has_nonstatic sightings = list_any is_one_nonstatic sightings

abbrev pub hit : Way → Sighting → Hit
hit way one = record { fact = one.itself; path = way.path }

-- the first declaration that is nonstatic, or at least the one at hand
abbrev pub first_nonstatic : Sighting → List Sighting → Sighting
first_nonstatic one others = by (find is_one_nonstatic (one ∷ others))
  where
    by : Option Sighting → Sighting
    by None = one
    by (Some other) = other

-- The first declaration in one subobject does not go together with one in another: of another class with its first; of
-- the same class with its first, but with the first nonstatic one where the former is static.
abbrev pub second_shown : Bool → Sighting → Sighting → List Sighting → Sighting
second_shown same first second seconds = if same && not (is_one_nonstatic first) then first_nonstatic second seconds else second

abbrev pub clash_with : Way → Sighting → Way → List Sighting → MemberFound
clash_with one first two [] = found.Empty
clash_with one first two (second ∷ seconds) = found.Ambiguous (hit one first) (hit two (second_shown (same_class one.holder two.holder) first second seconds))

unfoldable pub clash : Way → List Sighting → Way → List Sighting → MemberFound
clash one [] two twos = found.Empty
clash one (first ∷ firsts) two twos = clash_with one first two twos

-- 10.2: what is found in the first of some subobjects, and in another that does not go together with it
unfoldable pub member_by : CxxGraph → Wanted → CxxName → Way → Option Way → MemberFound
member_by graph wanted name one None = found.Set (entities (declared_in graph wanted name one.holder)) one.path
member_by graph wanted name one (Some two) = clash one (declared_in graph wanted name one.holder) two (declared_in graph wanted name two.holder)

-- 10.2: The declarations of one class, and the least path to it; or the first two that do not go together, in the order
-- of paths.
unfoldable pub member_of : CxxGraph → Wanted → CxxName → List Way → MemberFound
member_of graph wanted name [] = found.Empty
member_of graph wanted name (one ∷ others) = member_by graph wanted name one (find (breaks (has_nonstatic (declared_in graph wanted name one.holder)) one) others)

-- A member of a class. Only the class itself can be pending, since its bases are complete before it is (10).
unfoldable pub member : CxxGraph → Wanted → ClassId → CxxName → Asked MemberFound
member graph wanted class name = asked graph class (member_of graph wanted name (ways graph wanted name class))

-- ---- in words

-- 10.2: A way leads from a class to itself, where it declares the name; or, where it does not, through a direct base and
-- on from there. So no class before the last one of a way declares the name, and nothing hides what the last one declares.
pub data IsWay (graph : CxxGraph) (wanted : Wanted) (name : CxxName) : ClassId → Way → Type 0 where
  Itself : (class : ClassId) → declares_member graph wanted name class ≡ true → IsWay graph wanted name class (record { path = []; holder = class })
  Through : (fact : CxxFact) (derived parent : ClassId) (index : ℕ) (access : Access) (way : Way) → Contains graph.facts fact → fact.what ≡ facts.ancestor derived parent index access → declares_member graph wanted name derived ≡ false → IsWay graph wanted name parent way → IsWay graph wanted name derived (through index way)

-- Whatever is counted as a way of a class is one.
abbrev pub EachIsWay : Type 0
EachIsWay = (graph : CxxGraph) (wanted : Wanted) (name : CxxName) (class : ClassId) (way : Way) → Contains (ways graph wanted name class) way → IsWay graph wanted name class way

-- 10: a path of base positions that leads from a class to one of its subobjects, whatever that declares
pub data IsPath (graph : CxxGraph) : ClassId → Way → Type 0 where
  Ends : (class : ClassId) → IsPath graph class (record { path = []; holder = class })
  Goes : (fact : CxxFact) (derived parent : ClassId) (index : ℕ) (access : Access) (way : Way) → Contains graph.facts fact → fact.what ≡ facts.ancestor derived parent index access → IsPath graph parent way → IsPath graph derived (through index way)

-- a path to a subobject of which another is a base subobject, or to that one itself
abbrev pub IsPrefix : List ℕ → List ℕ → Type 0
IsPrefix [] ys = Unit {0}
IsPrefix (x ∷ xs) [] = ⊥
IsPrefix (x ∷ xs) (y ∷ ys) = (x ≡ y) × IsPrefix xs ys

-- 10.2: Each way is a path to a class that declares the name.
abbrev pub WaysArePaths : Type 0
WaysArePaths = (graph : CxxGraph) (wanted : Wanted) (name : CxxName) (class : ClassId) (way : Way) → IsWay graph wanted name class way → IsPath graph class way × (declares_member graph wanted name way.holder ≡ true)

-- 10.2: What a subobject declares is found, or what one declares of which it is a base subobject hides it.
abbrev pub HiddenByDerived : Type 0
HiddenByDerived = (graph : CxxGraph) (wanted : Wanted) (name : CxxName) (class : ClassId) (way : Way) → IsPath graph class way → declares_member graph wanted name way.holder ≡ true → (one : Way) × IsWay graph wanted name class one × IsPrefix one.path way.path

-- 10: a class has one base at a position
abbrev pub HasOneBase : CxxGraph → Type 0
HasOneBase graph = (one two : CxxFact) (derived parent other : ClassId) (index : ℕ) (access wider : Access) → Contains graph.facts one → Contains graph.facts two → one.what ≡ facts.ancestor derived parent index access → two.what ≡ facts.ancestor derived other index wider → parent ≡ other

-- 10.2: No subobject of which a way's last one is a base subobject declares the name.
abbrev pub NothingHides : Type 0
NothingHides = (graph : CxxGraph) (wanted : Wanted) (name : CxxName) (class : ClassId) (way one : Way) → HasOneBase graph → IsWay graph wanted name class way → IsPath graph class one → IsPrefix one.path way.path → (one.path ≡ way.path → ⊥) → declares_member graph wanted name one.holder ≡ false

abbrev pub ends : ClassId → Declares → Bool
ends class (facts.complete other) = nat_eq other.0 class.0
ends class _ = false

-- 9.2: whether the end of a class stands among some facts
abbrev pub is_ended : List CxxFact → ClassId → Bool
is_ended all class = list_any (λ fact. ends class fact.what) all

abbrev pub StandsInOrder : List CxxFact → Declares → Type 0
StandsInOrder before (facts.ancestor derived parent index access) = (is_ended before parent ≡ true) × (is_ended before derived ≡ false)
StandsInOrder before _ = Unit {0}

-- 10: Each base is complete before it is named as one, by a class that is not.
abbrev pub BasesInOrder : List CxxFact → List CxxFact → Type 0
BasesInOrder before [] = Unit {0}
BasesInOrder before (fact ∷ later) = StandsInOrder before fact.what × BasesInOrder (before ++ fact ∷ []) later

-- Each way is counted, where bases are complete before they are named.
abbrev pub EachWayIsCounted : Type 0
EachWayIsCounted = (graph : CxxGraph) (wanted : Wanted) (name : CxxName) (class : ClassId) (way : Way) → BasesInOrder [] graph.facts → IsWay graph wanted name class way → Contains (ways graph wanted name class) way

-- The facts of a graph in range are in this order.
abbrev pub FactsAreInOrder : Type 0
FactsAreInOrder = (types : List CxxType) (graph : Graph) → InRange graph → BasesInOrder [] (facts_at types graph.facts)
