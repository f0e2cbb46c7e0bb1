-- Where the parts of a name are looked up that stands behind an object, and what is true where one before `::` means nothing that
-- may stand there (3.4.5).
use Rattle.std.proofs.Common.{◌≡◌, ℕ, Bool, true, false, List, [], ◌∷◌, ◌++◌, Ok, Err, refl, sym, subst}
use Rattle.std.specs.Prelude.{if◌then◌else◌}
use Rattle.cxx_model.specs.declared.fault.FaultText.TheVariants as says
use Rattle.cxx_model.specs.declared.lookup.Found.{Found}
use Rattle.cxx_model.specs.declared.lookup.Found.TheVariants as sought
use Rattle.cxx_model.specs.declared.lookup.MemberFound.TheVariants as member_found
use Rattle.cxx_model.specs.declared.stop.Fault.{Fault}
use Rattle.cxx_model.specs.declared.types.ClassId.{ClassId}
use Rattle.cxx_model.specs.Facts.Declarations.{CxxGraph, spelled}
use Rattle.cxx_model.specs.Stops.{Answer, Stopped, fault}
use Rattle.cxx_meaning.specs.Lookups.Wanted.{before_colons}
use Rattle.cxx_reading.specs.declared.region.Region.{Region}
use Rattle.cxx_reading.specs.declared.region.Region.TheVariants as region
use Rattle.cxx_reading.specs.Paths.{region_by, sought_in}
use Rattle.cxx_reading.specs.Reads.{Ahead}
use Rattle.cxx_reading.specs.State.{CxxState}
use Rattle.cxx_reading.specs.Trees.{CxxPath, CxxPathPart, last_part}
use Rattle.cxx_paths.specs.Behind.{first_behind, first_found, first_of, region_behind}
use Rattle.cxx_answers.specs.Members.{class_of_region, has_begun, in_state, naming_by, naming_here, naming_in}
use Rattle.cxx_language_laws.specs.Told.{IsBehindObject, IsNamingClass, IsNoMember, IsOutward, IsSoughtBehind, first_sought, nothing_in, twofold_qualifier, twofold_qualifier_inherited, unknown_qualifier}
use Rattle.cxx_language_laws.proofs.Later.{IsLater}
use Rattle.cxx_language_laws.proofs.QuestionsTell.{quiet_by, same_by}
use Rattle.cxx_language_laws.proofs.Reached.{IsManifold, IsUndeclared, ToldSince, Told, later_is_told_since, quiet_told, reached_here}
use Rattle.cxx_language_laws.proofs.Regions.{HolderStops, IsHolder, IsQualifier, SplitAt, ambiguous_fault, ambiguous_member_fault, are_two, holder_stops, holder_there, holds_class, holds_none, holds_other, holds_space, holds_two, members_found, part_and, region_fails, region_further, region_holds, same_region, some_last, split_sought, two_found, undeclared_fault}
use Rattle.cxx_language_laws.proofs.Scopes.{InScopes}
use Rattle.cxx_language_laws.proofs.Sought.{AreFitting, IsRegion, fitting, members_sought, nothing_sought}
use Rattle.cxx_language_laws.proofs.Tells.{IsQuiet, ToldBy, tells_refusal}

-- ---- where the first part is looked up

found_there : (at : CxxState) (class : ClassId) (x : Found) → InScopes at → IsRegion at.graph (first_found at.here.scope class x)
found_there at class sought.Empty is = is.within
found_there at class (sought.Member of member_found.Empty) is = is.within
found_there at class (sought.Member of (member_found.Set all path)) is = tt
found_there at class (sought.Member of (member_found.Ambiguous one two)) is = tt
found_there at class (sought.Set all) is = tt
found_there at class (sought.Ambiguous one two) is = tt

first_there : (at : CxxState) (class : ClassId) (path : CxxPath) → InScopes at → IsRegion at.graph (first_sought at class path)
first_there at class path is = by path.global path.parts
  where
    by : (global : Bool) (parts : List CxxPathPart) → IsRegion at.graph (first_behind at.graph at.here.scope class global parts)
    by true parts = tt
    by false [] = tt
    by false (part ∷ []) = tt
    by false (part ∷ next ∷ others) = found_there at class (sought_in at.graph before_colons (region.Class class) (spelled part.word)) is

-- a region of a later part is there too
later_there : (at : CxxState) (class : ClassId) (path : CxxPath) (parts : List CxxPathPart) (where_ : Region) → InScopes at → region_by at.graph before_colons true (first_sought at class path) parts ≡ Ok where_ → IsRegion at.graph where_
later_there at class path parts where_ is e = region_holds (IsRegion at.graph) at.graph before_colons true (holder_there at.graph true) (first_sought at class path) where_ parts (first_there at class path is) e

-- where the name stands, if the class of the object has no such member
passed_over : (graph : CxxGraph) → AreFitting graph → (scope : ℕ) (class : ClassId) (part : CxxPathPart) (x : Found) → sought_in graph before_colons (region.Class class) (spelled part.word) ≡ x → IsOutward (first_found scope class x) → IsNoMember graph before_colons class (spelled part.word)
passed_over graph is scope class part sought.Empty e outward = (nothing_sought graph before_colons (region.Class class) (spelled part.word) is tt sought.Empty e tt refl).1
passed_over graph is scope class part (sought.Member of member_found.Empty) e outward = (nothing_sought graph before_colons (region.Class class) (spelled part.word) is tt (sought.Member of member_found.Empty) e tt refl).1
passed_over graph is scope class part (sought.Member of (member_found.Set all path)) e outward = absurd outward
passed_over graph is scope class part (sought.Member of (member_found.Ambiguous one two)) e outward = absurd outward
passed_over graph is scope class part (sought.Set all) e outward = absurd outward
passed_over graph is scope class part (sought.Ambiguous one two) e outward = absurd outward

not_both : (where_ : Region) → IsQualifier where_ → IsOutward where_ → ⊥
not_both (region.Outward scope) is outward = is
not_both (region.Inside space) is outward = outward
not_both (region.Class class) is outward = outward

each_qualifies : (graph : CxxGraph) (inner : Region) → IsHolder graph true inner → IsQualifier inner
each_qualifies graph _ (holds_space inner is) = tt
each_qualifies graph _ (holds_class class may) = tt

-- so it is of any part that is looked up there
not_of_object : (at : CxxState) (class : ClassId) (path : CxxPath) → InScopes at → (split : SplitAt at.graph before_colons true (first_sought at class path) path.parts) → IsOutward split.where_ → IsNoMember at.graph before_colons class (spelled split.part.word)
unfolding region_by
not_of_object at class path is split outward = by path.global path.parts split.before split.are split.qualifies
  where
    first_outward : (first : Region) → region_by at.graph before_colons true first (split.part ∷ []) ≡ Ok split.where_ → IsOutward first
    first_outward first e = subst IsOutward (sym (same_region first split.where_ e)) outward

    by : (global : Bool) (parts before : List CxxPathPart) → parts ≡ before ++ split.part ∷ split.next ∷ split.others → region_by at.graph before_colons true (first_behind at.graph at.here.scope class global parts) (before ++ split.part ∷ []) ≡ Ok split.where_ → IsNoMember at.graph before_colons class (spelled split.part.word)
    by true parts [] are e = absurd (first_outward (first_behind at.graph at.here.scope class true parts) e)
    by false parts [] are e =
        passed_over at.graph (fitting at is) at.here.scope class split.part (sought_in at.graph before_colons (region.Class class) (spelled split.part.word)) refl
        (subst (λ (ps : List CxxPathPart). IsOutward (first_of at.graph at.here.scope class ps)) are (first_outward (first_of at.graph at.here.scope class parts) e))
    by global parts (one ∷ before) are e =
        absurd (not_both split.where_ (region_further IsQualifier at.graph before_colons true (each_qualifies at.graph) (first_behind at.graph at.here.scope class global parts) split.where_ (one ∷ before ++ split.part ∷ []) (part_and one (before ++ split.part ∷ []) (some_last before split.part)) e) outward)

-- ---- a part before `::`

behind_sought : (state : CxxState) (ahead : Ahead) (path : CxxPath) (class : ClassId) (at : CxxState) → IsBehindObject state ahead path class at → (finds : Found) (fault : Fault) (split : SplitAt at.graph before_colons true (first_sought at class path) path.parts) → split.part.place ≡ fault.place → sought_in at.graph before_colons split.where_ (spelled split.part.word) ≡ finds
    → IsSoughtBehind state ahead finds fault split.part.word
behind_sought state ahead path class at is_behind finds fault split place is = record {
  path = path;
  class = class;
  at = at;
  is_behind = is_behind;
  is_sought = split_sought at.graph before_colons true tt (first_sought at class path) path finds fault split place is;
}

behind_told : (state : CxxState) (ahead : Ahead) (path : CxxPath) (class : ClassId) (at : CxxState) → IsLater state at → IsBehindObject state ahead path class at → (split : SplitAt at.graph before_colons true (first_sought at class path) path.parts) → (why : Stopped) → HolderStops at.graph before_colons split.where_ split.part why → Told state ahead why
unfolding split_sought behind_sought
behind_told state ahead path class at later is_behind split _ (holds_two _ _ is (two_found one two)) =
    reached_here state ahead (IsManifold fault split.part.word)
    (λ scopes. twofold_qualifier one two (behind_sought state ahead path class at is_behind (sought.Ambiguous one two) fault split refl is) (are_two at before_colons split.where_ split.part one two (later.scopes scopes) (later_there at class path (split.before ++ split.part ∷ []) split.where_ (later.scopes scopes) split.qualifies) is))
  where
    fault : Fault
    fault = ambiguous_fault at.graph split.part one two
behind_told state ahead path class at later is_behind split _ (holds_two _ _ is (members_found holder one two)) =
    reached_here state ahead (IsManifold fault split.part.word)
    (λ scopes. twofold_qualifier_inherited holder one two (behind_sought state ahead path class at is_behind (sought.Member holder (member_found.Ambiguous one two)) fault split refl is) (members_sought at.graph before_colons split.where_ (spelled split.part.word) holder one two (later.scopes scopes).sound is) refl)
  where
    fault : Fault
    fault = ambiguous_member_fault at.graph split.part one two
behind_told state ahead path class at later is_behind split _ (holds_none x is clear none) =
    reached_here state ahead (IsUndeclared (undeclared_fault split.part) split.part.word) (record {
      is = λ scopes. let within = later.scopes scopes in
          let found = nothing_sought at.graph before_colons split.where_ (spelled split.part.word) (fitting at within) (later_there at class path (split.before ++ split.part ∷ []) split.where_ within split.qualifies) x is clear none in
          (unknown_qualifier (nothing_in split.where_) (behind_sought state ahead path class at is_behind (nothing_in split.where_) (undeclared_fault split.part) split refl found.0) refl, record { there = found.1; of_object = not_of_object at class path within split });
      bare = refl;
    })
behind_told state ahead path class at later is_behind split why (holds_other _ quiet) = quiet_told state ahead why quiet

region_behind_told : (state : CxxState) (ahead : Ahead) (path : CxxPath) (class : ClassId) (at : CxxState) → IsLater state at → IsBehindObject state ahead path class at → (why : Stopped) → region_behind at.graph at.here.scope class path ≡ Err why → Told state ahead why
unfolding region_behind
region_behind_told state ahead path class at later is_behind why e =
    let failed = region_fails at.graph before_colons true (first_sought at class path) path.parts why e in
    behind_told state ahead path class at later is_behind failed.0 why (holder_stops at.graph before_colons true failed.0.where_ failed.0.part why failed.1)

-- ---- the class in which the last part is looked up

abbrev NamingAnswers : Type 0
NamingAnswers = Answer (ℕ × CxxState)

abbrev AreNamings : NamingAnswers → NamingAnswers → Type 0
AreNamings one two = one ≡ two

-- It is the class that the qualifiers mean. A refusal says of one of them why it means nothing that may stand there, or nothing
-- of declarations.
pub data NamingSo (class : ℕ) (path : CxxPath) (state : CxxState) : NamingAnswers → Type 0 where
  names_class : (within : ClassId) → IsNamingClass state class path within → NamingSo class path state (Ok (within.0, state))
  names_none : (why : Stopped) → IsQuiet why → NamingSo class path state (Err why)
  names_nowhere : (why : Stopped) → region_behind state.graph state.here.scope (record { 0 = class }) path ≡ Err why → NamingSo class path state (Err why)

pub naming_so : (class : ℕ) (path : CxxPath) (state : CxxState) → NamingSo class path state (naming_here class path state)
unfolding naming_here
naming_so class path state = by (has_begun class state.graph.facts)
  where
    of_region : (where_ : Region) → region_behind state.graph state.here.scope (record { 0 = class }) path ≡ Ok where_ → NamingSo class path state (in_state state (naming_by (last_part path.parts) (class_of_region where_)))
    of_region (region.Outward scope) e = names_none _ refl
    of_region (region.Inside space) e = names_none _ refl
    of_region (region.Class within) e = names_class within e

    of : (o : Answer Region) → region_behind state.graph state.here.scope (record { 0 = class }) path ≡ o → NamingSo class path state (in_state state (naming_in (last_part path.parts) o))
    of (Ok where_) e = of_region where_ e
    of (Err why) e = names_nowhere why e

    by : (b : Bool) → NamingSo class path state (if b then in_state state (naming_in (last_part path.parts) (region_behind state.graph state.here.scope (record { 0 = class }) path)) else Err (fault (last_part path.parts).place says.IncompleteClass))
    by true = of (region_behind state.graph state.here.scope (record { 0 = class }) path) refl
    by false = names_none _ refl

-- what it is, by the answer
pub record NamedClass (class : ℕ) (path : CxxPath) (state : CxxState) (one : ℕ × CxxState) : Type 0 where
  pub within : ClassId
  pub qualifies : IsNamingClass state class path within
  pub is : (within.0, state) ≡ one

pub named_class : (class : ℕ) (path : CxxPath) (state : CxxState) (one : ℕ × CxxState) {answer : NamingAnswers} → NamingSo class path state answer → answer ≡ Ok one → NamedClass class path state one
named_class class path state one (names_class within qualifies) e = record { within = within; qualifies = qualifies; is = by e }
  where
    by : AreNamings (Ok (within.0, state)) (Ok one) → (within.0, state) ≡ one
    by e = cc
named_class class path state one (names_none why quiet) e = absurd cc
named_class class path state one (names_nowhere why is) e = absurd cc

pub naming_told : (state : CxxState) (ahead rest : Ahead) (path : CxxPath) (class : ℕ) (at : CxxState) → IsBehindObject state ahead path (record { 0 = class }) at → {answer : NamingAnswers} → NamingSo class path at answer → ToldBy IsLater (ToldSince state ahead) at rest answer
naming_told state ahead rest path class at is_behind (names_class within qualifies) = same_by (later_is_told_since state ahead) within.0 at rest
naming_told state ahead rest path class at is_behind (names_none why quiet) = quiet_by (later_is_told_since state ahead) quiet
naming_told state ahead rest path class at is_behind (names_nowhere why e) = tells_refusal why (λ later. region_behind_told state ahead path (record { 0 = class }) at later is_behind why e)
