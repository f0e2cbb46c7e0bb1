-- What is counted as a way of a class is one.
use Rattle.std.proofs.Common.{◌≡◌, ℕ, Bool, true, false, cond, not, ◌&&◌, List, [], ◌∷◌, ◌++◌, map, refl, ap, ◌∙◌, subst, inl, inr, arith}
use Rattle.std.specs.List.{Contains}
use Rattle.std.proofs.lemmas.Bool.{eqb-true}
use Rattle.std.proofs.lemmas.List.Elements.{Contains-append_cases}
use Rattle.cxx_model.specs.declared.types.ClassId.{ClassId}
use Rattle.cxx_model.specs.Facts.Declarations as facts
use Rattle.cxx_model.specs.Facts.Declarations.{CxxFact, CxxGraph, CxxName, Declares}
use Rattle.cxx_model.proofs.Champion.{first_of, first_or_later, later_of}
use Rattle.cxx_meaning.specs.Lookups.Member.{EachIsWay, IsWay, Itself, Through, Way, at_base, declares_member, own_ways, same_class, through, ways, ways_after, with_base}
use Rattle.cxx_meaning.specs.Lookups.Wanted.{Wanted}

none_in : {A : Type 0} (x : A) → Contains [] x → ⊥
none_in x m = omega (arith, m.1)

in_map : {A B : Type 0} (f : A → B) (xs : List A) (y : B) → Contains (map f xs) y → (x : A) × Contains xs x × (f x ≡ y)
in_map f [] y m = absurd (none_in y m)
in_map f (x ∷ xs) y m = elim (first_or_later (f x) (map f xs) y m) [
  | inl here ↦ (x, first_of x xs, here)
  | inr there ↦ let r = in_map f xs y there in (r.0, later_of x xs r.0 r.1, r.2)
]

class_is : (one two : ClassId) → same_class one two ≡ true → one ≡ two
class_is one two e = ap (λ n. record { 0 = n }) (eqb-true one.0 two.0 e)

abbrev AllWays : CxxGraph → Wanted → CxxName → (ClassId → List Way) → Type 0
AllWays graph wanted name now = (class : ClassId) (way : Way) → Contains (now class) way → IsWay graph wanted name class way

at_base_are : (graph : CxxGraph) (wanted : Wanted) (name : CxxName) (fact : CxxFact) (derived parent : ClassId) (index : ℕ) (access : _) (now : ClassId → List Way) → Contains graph.facts fact → fact.what ≡ facts.ancestor derived parent index access → AllWays graph wanted name now → AllWays graph wanted name (at_base (declares_member graph wanted name) derived parent index now)
at_base_are graph wanted name fact derived parent index access now there is all class way m = by (same_class derived class) (declares_member graph wanted name class) refl refl m
  where
    by : (t u : Bool) → same_class derived class ≡ t → declares_member graph wanted name class ≡ u → Contains (cond (t && not u) (now class ++ map (through index) (now parent)) (now class)) way → IsWay graph wanted name class way
    by true false e f k = elim (Contains-append_cases (now class) (map (through index) (now parent)) way k) [
      | inl before ↦ all class way before
      | inr behind ↦ let r = in_map (through index) (now parent) way behind in
          let c = class_is derived class e in
          subst (λ w. IsWay graph wanted name class w) r.2 (subst (λ k. IsWay graph wanted name k (through index r.0)) c (Through fact derived parent index access r.0 there is (ap (declares_member graph wanted name) c ∙ f) (all parent r.0 r.1)))
    ]
    by true true e f k = all class way k
    by false u e f k = all class way k

with_base_are : (graph : CxxGraph) (wanted : Wanted) (name : CxxName) (fact : CxxFact) (what : Declares) (now : ClassId → List Way) → fact.what ≡ what → Contains graph.facts fact → AllWays graph wanted name now → AllWays graph wanted name (with_base (declares_member graph wanted name) (record fact { what = what }) now)
unfolding with_base
with_base_are graph wanted name fact (facts.ancestor derived parent index access) now is there all = at_base_are graph wanted name fact derived parent index access now there is all
with_base_are graph wanted name fact _ now is there all = all

after_are : (graph : CxxGraph) (wanted : Wanted) (name : CxxName) (later : List CxxFact) (now : ClassId → List Way) → ((fact : CxxFact) → Contains later fact → Contains graph.facts fact) → AllWays graph wanted name now → AllWays graph wanted name (ways_after (declares_member graph wanted name) now later)
unfolding ways_after
after_are graph wanted name [] now within all = all
after_are graph wanted name (fact ∷ later) now within all = after_are graph wanted name later (with_base (declares_member graph wanted name) fact now) (λ other m. within other (later_of fact later other m)) (with_base_are graph wanted name fact fact.what now refl (within fact (first_of fact later)) all)

own_are : (graph : CxxGraph) (wanted : Wanted) (name : CxxName) → AllWays graph wanted name (own_ways graph wanted name)
unfolding own_ways
own_are graph wanted name class way m = by (declares_member graph wanted name class) refl m
  where
    by : (t : Bool) → declares_member graph wanted name class ≡ t → Contains (cond t (record { path = []; holder = class } ∷ []) []) way → IsWay graph wanted name class way
    by true e k = elim (first_or_later (record { path = []; holder = class }) [] way k) [
      | inl here ↦ subst (IsWay graph wanted name class) here (Itself class e)
      | inr there ↦ absurd (none_in way there)
    ]
    by false e k = absurd (none_in way k)

pub each_is_way : EachIsWay
unfolding ways
each_is_way graph wanted name = after_are graph wanted name graph.facts (own_ways graph wanted name) (λ fact m. m) (own_are graph wanted name)
