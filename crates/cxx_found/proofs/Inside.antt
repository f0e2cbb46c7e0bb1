-- What is found in one scope.
use Rattle.std.proofs.Common.{◌≡◌, ℕ, suc, true, eqb, List, [], ◌∷◌, length, Option, Some, None, Ok, Err, refl, ap, sym, ◌∙◌, arith}
use Rattle.std.proofs.lemmas.Bool.{eqb-true}
use Rattle.std.proofs.lemmas.List.{append-nil}
use Rattle.cxx_model.specs.declared.lookup.Found.{Found}
use Rattle.cxx_model.specs.declared.lookup.MemberFound.{MemberFound}
use Rattle.cxx_model.specs.declared.lookup.MemberFound.TheVariants as member
use Rattle.cxx_model.specs.declared.types.ClassId.{ClassId}
use Rattle.cxx_model.specs.declared.types.ScopeId.{ScopeId}
use Rattle.cxx_model.specs.Facts.Declarations.{CxxGraph, CxxName}
use Rattle.cxx_meaning.specs.Lookups.Directives.{Shown}
use Rattle.cxx_meaning.specs.Lookups.Member.{class_of_scope, member as member_named}
use Rattle.cxx_meaning.specs.Lookups.Ordinary.{found_in_member, found_in_scope, found_in_sightings, member_found, sightings_at, standing_shown}
use Rattle.cxx_meaning.specs.Lookups.Sightings.{Sighting, standing}
use Rattle.cxx_meaning.specs.Lookups.Wanted.{Wanted}
use Rattle.cxx_reading.specs.Seen.{fact_numbers, kind_of_found, members_of, numbered_at, set_in}
use Rattle.cxx_found.specs.Views.{or_nothing}

pub none_left : {A : Type 0} (xs : List A) → eqb (length xs) 0 ≡ true → xs ≡ []
none_left [] e = refl
none_left (x ∷ xs) e = let zero_is : suc (length xs) ≡ 0 = eqb-true (suc (length xs)) 0 e in absurd (omega arith)

-- ---- a scope that is no class's

scope_by : (graph : CxxGraph) (wanted : Wanted) (name : CxxName) (cut : ℕ) (shown : List Shown) (scope : ScopeId) → class_of_scope graph.facts scope ≡ None → found_in_scope graph wanted name cut shown scope ≡ Ok (found_in_sightings graph (sightings_at graph cut wanted name shown scope))
unfolding found_in_scope
scope_by graph wanted name cut shown scope none = rw none refl

own_by : (graph : CxxGraph) (wanted : Wanted) (name : CxxName) (cut : ℕ) (scope : ScopeId) → sightings_at graph cut wanted name [] scope ≡ standing graph cut wanted name scope
unfolding sightings_at standing_shown
own_by graph wanted name cut scope = append-nil (standing graph cut wanted name scope)

pub found_shown : (graph : CxxGraph) (wanted : Wanted) (name : CxxName) (cut : ℕ) (shown : List Shown) (scope : ScopeId) (of : Option Found) → class_of_scope graph.facts scope ≡ None → of ≡ found_in_sightings graph (sightings_at graph cut wanted name shown scope) → found_in_scope graph wanted name cut shown scope ≡ Ok of
found_shown graph wanted name cut shown scope of none e = scope_by graph wanted name cut shown scope none ∙ ap (λ o. Ok o) (sym e)

-- where no other namespace shows
pub found_own : (graph : CxxGraph) (wanted : Wanted) (name : CxxName) (cut : ℕ) (scope : ScopeId) (sightings : List Sighting) (of : Option Found) → class_of_scope graph.facts scope ≡ None → standing graph cut wanted name scope ≡ sightings → of ≡ found_in_sightings graph sightings → found_in_scope graph wanted name cut [] scope ≡ Ok of
found_own graph wanted name cut scope sightings of none s e = found_shown graph wanted name cut [] scope of none (e ∙ ap (found_in_sightings graph) (sym s ∙ sym (own_by graph wanted name cut scope)))

-- ---- the scope of a class

inside : (graph : CxxGraph) (wanted : Wanted) (name : CxxName) (cut : ℕ) (shown : List Shown) (scope : ScopeId) (class : ClassId) → class_of_scope graph.facts scope ≡ Some class → found_in_scope graph wanted name cut shown scope ≡ found_in_member class (member_named graph wanted class name)
unfolding found_in_scope
inside graph wanted name cut shown scope class e = rw e refl

pub found_inside : (graph : CxxGraph) (wanted : Wanted) (name : CxxName) (cut : ℕ) (shown : List Shown) (scope : ScopeId) (class : ClassId) (of : MemberFound) → class_of_scope graph.facts scope ≡ Some class → member_named graph wanted class name ≡ Ok of → found_in_scope graph wanted name cut shown scope ≡ Ok (member_found class of)
found_inside graph wanted name cut shown scope class of e is = inside graph wanted name cut shown scope class e ∙ ap (found_in_member class) is

-- where a class has to be complete first
pub needed_inside : (graph : CxxGraph) (wanted : Wanted) (name : CxxName) (cut : ℕ) (shown : List Shown) (scope : ScopeId) (class needed : ClassId) → class_of_scope graph.facts scope ≡ Some class → member_named graph wanted class name ≡ Err needed → found_in_scope graph wanted name cut shown scope ≡ Err needed
needed_inside graph wanted name cut shown scope class needed e is = inside graph wanted name cut shown scope class e ∙ ap (found_in_member class) is

-- its members are what is found there
pub member_set : (graph : CxxGraph) (class : ClassId) (of : MemberFound) → kind_of_found graph (numbered_at graph (fact_numbers (members_of of))) ≡ kind_of_found graph (set_in graph (or_nothing (member_found class of)))
member_set graph class member.Empty = refl
member_set graph class (member.Set facts path) = refl
member_set graph class (member.Ambiguous one two) = refl
