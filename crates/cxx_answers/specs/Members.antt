-- What a name means as a member of a class (3.4.5, 10.2).
use Rattle.std.specs.Prelude.{ℕ, Bool, false, ◌||◌, nat_eq, if◌then◌else◌, List, [], ◌∷◌, Option, Some, None, Ok, Err}
use Rattle.cxx_model.specs.declared.facts.ScopeKind.TheVariants as kind
use Rattle.cxx_model.specs.declared.fault.FaultText.TheVariants as says
use Rattle.cxx_model.specs.declared.lookup.MemberFound.{MemberFound}
use Rattle.cxx_model.specs.declared.lookup.MemberFound.TheVariants as found
use Rattle.cxx_model.specs.Facts.Declarations as facts
use Rattle.cxx_model.specs.Facts.Declarations.{CxxFact, CxxGraph, Declares}
use Rattle.cxx_model.specs.Stops.{Answer, fault, not_built_at}
use Rattle.cxx_meaning.specs.Lookups.Member.{member}
use Rattle.cxx_meaning.specs.Lookups.Pending.{Asked}
use Rattle.cxx_meaning.specs.Lookups.Wanted.{any_name}
use Rattle.cxx_reading.specs.declared.region.Region.{Region}
use Rattle.cxx_reading.specs.declared.region.Region.TheVariants as region
use Rattle.cxx_reading.specs.Paths.{ambiguous_member_at, name_in, region_of}
use Rattle.cxx_reading.specs.Reads.{Asks}
use Rattle.cxx_reading.specs.Seen.{Numbered, fact_numbers, numbered_at}
use Rattle.cxx_reading.specs.State.{CxxState}
use Rattle.cxx_reading.specs.Trees.{CxxPath, CxxPathPart, last_part}
use Rattle.cxx_paths.specs.Behind.{region_behind}

-- 9.2: whether a declaration begins the definition of a class
abbrev pub begins_class : ℕ → Declares → Bool
begins_class class (facts.scope parent (kind.Class number)) = nat_eq number.0 class
begins_class class _ = false

-- 5.2.5: a class has members once its definition has begun
abbrev pub has_begun : ℕ → List CxxFact → Bool
has_begun class [] = false
has_begun class (fact ∷ others) = begins_class class fact.what || has_begun class others

-- what is found of it, by the first declarations
abbrev pub member_meant : CxxGraph → CxxPathPart → MemberFound → Answer (List Numbered)
member_meant graph part found.Empty = Ok []
member_meant graph part (found.Set all path) = Ok (numbered_at graph (fact_numbers all))
member_meant graph part (found.Ambiguous one two) = Err (ambiguous_member_at graph part one two)

-- a class that is an instance of a template and is not read yet
abbrev pub member_found : CxxGraph → CxxPathPart → Asked MemberFound → Answer (List Numbered)
member_found graph part (Ok of) = member_meant graph part of
member_found graph part (Err class) = Err (not_built_at part.place)

abbrev pub in_state : {A : Type 0} → CxxState → Answer A → Answer (A × CxxState)
in_state state (Ok value) = Ok (value, state)
in_state state (Err why) = Err why

unfoldable pub member_here : ℕ → CxxPath → Asks CxxState (List Numbered)
member_here class path state =
    if has_begun class state.graph.facts
    then in_state state (member_found state.graph (last_part path.parts) (member state.graph any_name (record { 0 = class }) (name_in path)))
    else Err (fault (last_part path.parts).place says.IncompleteClass)

-- ---- where the name is looked up (3.4.3.1, 3.4.5)

abbrev pub class_of_region : Region → Option ℕ
class_of_region (region.Class class) = Some class.0
class_of_region _ = None

-- what is written before a member is a class
abbrev pub naming_by : CxxPathPart → Option ℕ → Answer ℕ
naming_by part (Some n) = Ok n
naming_by part None = Err (fault part.place says.OperandsDoNotFit)

abbrev pub naming_in : CxxPathPart → Answer Region → Answer ℕ
naming_in part (Ok where_) = naming_by part (class_of_region where_)
naming_in part (Err why) = Err why

-- 5.2.5: a class has members once its definition has begun, and names of them have qualifiers
unfoldable pub naming_here : ℕ → CxxPath → Asks CxxState ℕ
naming_here class path state =
    if has_begun class state.graph.facts
    then in_state state (naming_in (last_part path.parts) (region_behind state.graph state.here.scope (record { 0 = class }) path))
    else Err (fault (last_part path.parts).place says.IncompleteClass)

abbrev pub qualifier_by : Answer Region → Option ℕ
qualifier_by (Ok where_) = class_of_region where_
qualifier_by (Err why) = None

unfoldable pub qualifier_here : CxxPath → CxxState → Option ℕ
qualifier_here path state = qualifier_by (region_of state.graph state.here.scope path)
