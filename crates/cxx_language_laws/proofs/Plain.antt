-- Of names without qualifiers the laws say where they are looked up: behind an object in its class, and else outward from where
-- they stand (3.4.1, 3.4.5).
use Rattle.std.proofs.Common.{◌≡◌, ℕ, Bool, true, false, List, [], ◌∷◌, Ok, subst}
use Rattle.std.specs.Prelude.{not, ◌&&◌}
use Rattle.cxx_model.specs.declared.lookup.MemberFound.TheVariants as member_found
use Rattle.cxx_model.specs.declared.types.ClassId.{ClassId}
use Rattle.cxx_model.specs.Facts.Declarations.{CxxGraph}
use Rattle.cxx_meaning.specs.Conversions.Standard.{CxxOperand}
use Rattle.cxx_meaning.specs.Lookups.Member.{member}
use Rattle.cxx_meaning.specs.Lookups.Wanted.{any_name, before_colons}
use Rattle.cxx_reading.specs.declared.region.Region.{Region}
use Rattle.cxx_reading.specs.declared.region.Region.TheVariants as region
use Rattle.cxx_reading.specs.Linked.{scope_id}
use Rattle.cxx_reading.specs.Paths.{first_region, name_in, region_by, region_of}
use Rattle.cxx_reading.specs.Seen.{Numbered}
use Rattle.cxx_reading.specs.Trees.{CxxPath, CxxPathPart, is_alone, is_plain_path}
use Rattle.cxx_paths.specs.Behind.{first_behind, region_behind}
use Rattle.cxx_language_laws.specs.Best.{AreImpliedIn, AreMembers}
use Rattle.cxx_language_laws.proofs.Regions.{same_region}

-- a name without qualifiers is looked up in the class of its object
class_of_plain : (graph : CxxGraph) (scope : ℕ) (class : ClassId) (path : CxxPath) (within : ClassId) → is_plain_path path ≡ true → region_behind graph scope class path ≡ Ok (region.Class within) → class ≡ within
unfolding region_behind region_by
class_of_plain graph scope class path within plain e = by path.global path.parts plain e
  where
    same_class : region.Class class ≡ region.Class within → class ≡ within
    same_class e = cc

    by : (global : Bool) (parts : List CxxPathPart) → (not global && is_alone parts) ≡ true → region_by graph before_colons true (first_behind graph scope class global parts) parts ≡ Ok (region.Class within) → class ≡ within
    by true parts plain e = absurd cc
    by false [] plain e = absurd cc
    by false (part ∷ []) plain e = same_class (same_region (region.Class class) (region.Class within) e)
    by false (part ∷ next ∷ others) plain e = absurd cc

-- so the functions of a call behind an object are the members of its class with that name (10.2)
members_of_plain : (before : CxxGraph) (scope : ℕ) (object : CxxOperand) (path : CxxPath) (functions : List Numbered) → is_plain_path path ≡ true → (are : AreMembers before scope object path functions) → member before any_name (record { 0 = are.class }) (name_in path) ≡ Ok (member_found.Set are.found are.way)
members_of_plain before scope object path functions plain are =
    subst (λ (class : ClassId). member before any_name class (name_in path) ≡ Ok (member_found.Set are.found are.way)) (by (class_of_plain before scope (record { 0 = are.class }) path are.within plain are.qualifies)) are.finds
  where
    by : {one two : ClassId} → one ≡ two → two ≡ one
    by e = cc

-- and one without an object is looked up outward from where it stands
scope_of_plain : (graph : CxxGraph) (scope : ℕ) (path : CxxPath) (where_ : Region) → is_plain_path path ≡ true → region_of graph scope path ≡ Ok where_ → region.Outward (scope_id scope) ≡ where_
unfolding region_of region_by
scope_of_plain graph scope path where_ plain e = by path.global path.parts plain e
  where
    by : (global : Bool) (parts : List CxxPathPart) → (not global && is_alone parts) ≡ true → region_by graph before_colons true (first_region scope global) parts ≡ Ok where_ → region.Outward (scope_id scope) ≡ where_
    by true parts plain e = absurd cc
    by false [] plain e = absurd cc
    by false (part ∷ []) plain e = same_region (region.Outward (scope_id scope)) where_ e
    by false (part ∷ next ∷ others) plain e = absurd cc

implied_of_plain : (before : CxxGraph) (scope : ℕ) (path : CxxPath) (in_default : Bool) (object : CxxOperand) (functions : List Numbered) → is_plain_path path ≡ true → (are : AreImpliedIn before scope path in_default object functions) → region.Outward (scope_id scope) ≡ are.where_
implied_of_plain before scope path in_default object functions plain are = scope_of_plain before scope path are.where_ plain are.qualifies
