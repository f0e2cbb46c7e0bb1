-- What is found in a class, by three of its ways.
use Rattle.std.proofs.Common.{◌≡◌, ℕ, Bool, true, false, cond, List, [], ◌∷◌, Option, Some, None, refl, ap, ◌∙◌, sym, subst}
use Rattle.std.specs.Prelude.{IfSome}
use Rattle.std.specs.List.{find}
use Rattle.cxx_model.specs.declared.types.ClassId.{ClassId}
use Rattle.cxx_model.specs.Facts.Declarations.{CxxGraph, CxxName}
use Rattle.cxx_meaning.specs.Lookups.Member.{Way as WayMeant, breaks, declared_in, first_nonstatic, has_nonstatic, is_one_nonstatic, member_by, member_of}
use Rattle.cxx_meaning.specs.Lookups.Sightings.{Sighting as SightingMeant}
use Rattle.cxx_meaning.specs.Lookups.Wanted.{Wanted}
use Rattle.cxx_members.specs.declared.ways.Record.{Record}
use Rattle.cxx_members.specs.declared.ways.Three.{Three}
use Rattle.cxx_members.specs.declared.ways.Way.{Way}
use Rattle.cxx_members.specs.Answers.{member_of_three}
use Rattle.cxx_members.specs.Tables.{IsTable, entry_of}
use Rattle.cxx_members.specs.Ways.{AreKnown, IsWayKnown, first_way, is_elsewhere, latest, three_at, three_of}

pub first_itself : (one : SightingMeant) (others : List SightingMeant) → is_one_nonstatic one ≡ true → first_nonstatic one others ≡ one
first_itself one others e = rw e refl

pub first_later : (one other : SightingMeant) (others : List SightingMeant) → is_one_nonstatic one ≡ false → find is_one_nonstatic others ≡ Some other → first_nonstatic one others ≡ other
first_later one other others e f = rw (e, f) refl

pub first_none : (one : SightingMeant) (others : List SightingMeant) → is_one_nonstatic one ≡ false → find is_one_nonstatic others ≡ None → first_nonstatic one others ≡ one
first_none one others e f = rw (e, f) refl

pub first_known : (count : ℕ) (three : Three) (one : Way) → AreKnown count three → three.first ≡ Some one → IsWayKnown count one
first_known count three one known e = subst (λ o. IfSome o (IsWayKnown count)) e known.first

pub rival_known : (count : ℕ) (three : Three) (t : Bool) (rival : Option Way) → AreKnown count three → rival ≡ cond t three.second three.other → IfSome rival (IsWayKnown count)
rival_known count three true rival known e = subst (λ o. IfSome o (IsWayKnown count)) (sym e) known.second
rival_known count three false rival known e = subst (λ o. IfSome o (IsWayKnown count)) (sym e) known.other

find_breaks : (t : Bool) (one : WayMeant) (others : List WayMeant) → find (breaks t one) others ≡ cond t (first_way others) (find (is_elsewhere one) others)
find_breaks true one [] = refl
find_breaks true one (other ∷ others) = refl
find_breaks false one others = refl

three_is : (graph : CxxGraph) (wanted : Wanted) (name : CxxName) (ways : List WayMeant) → member_of_three graph wanted name (three_of ways) ≡ member_of graph wanted name ways
unfolding member_of
three_is graph wanted name [] = refl
three_is graph wanted name (one ∷ others) = ap (member_by graph wanted name one) (sym (find_breaks (has_nonstatic (declared_in graph wanted name one.holder)) one others))

pub member_is : (graph : CxxGraph) (wanted : Wanted) (name : CxxName) (paths : List (List ℕ)) (holders : List ClassId) (records : List Record) (now : ClassId → List WayMeant) (class : ClassId) (three : Three) → IsTable paths holders records now → three_at paths three ≡ entry_of paths holders class (latest class None records) → member_of_three graph wanted name (three_at paths three) ≡ member_of graph wanted name (now class)
member_is graph wanted name paths holders records now class three table e = ap (member_of_three graph wanted name) (e ∙ table.is class) ∙ three_is graph wanted name (now class)
