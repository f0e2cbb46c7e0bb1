-- What hides the members of base subobjects.
use Rattle.std.proofs.Common.{◌≡◌, ℕ, Bool, true, false, List, [], ◌∷◌, refl, ap, sym, ◌∙◌, subst}
use Rattle.std.specs.List.{Contains}
use Rattle.cxx_model.specs.declared.facts.Access.{Access}
use Rattle.cxx_model.specs.declared.types.ClassId.{ClassId}
use Rattle.cxx_model.specs.Facts.Declarations as facts
use Rattle.cxx_model.specs.Facts.Declarations.{CxxFact, CxxGraph, CxxName}
use Rattle.cxx_meaning.specs.Lookups.Member.{WaysArePaths, HiddenByDerived, NothingHides, IsPath, Ends, Goes, IsPrefix, IsWay, Itself, Through, Way, declares_member, through}
use Rattle.cxx_meaning.specs.Lookups.Wanted.{Wanted}

pub ways_are_paths : WaysArePaths
ways_are_paths graph wanted name _ _ (Itself class e) = (Ends class, e)
ways_are_paths graph wanted name _ _ (Through fact derived parent index access way there is none further) =
    let rest = ways_are_paths graph wanted name parent way further in
    (Goes fact derived parent index access way there is rest.0, rest.1)

abbrev Has : CxxGraph → Wanted → CxxName → ClassId → List ℕ → Type 0
Has graph wanted name class path = (one : Way) × IsWay graph wanted name class one × IsPrefix one.path path

-- a class that declares the name, or one through whose base a way leads
has : (graph : CxxGraph) (wanted : Wanted) (name : CxxName) (fact : CxxFact) (derived parent : ClassId) (index : ℕ) (access : Access) (path : List ℕ) → Contains graph.facts fact → fact.what ≡ facts.ancestor derived parent index access → Has graph wanted name parent path → (t : Bool) → declares_member graph wanted name derived ≡ t → Has graph wanted name derived (index ∷ path)
has graph wanted name fact derived parent index access path there is further true e = (record { path = []; holder = derived }, Itself derived e, tt)
has graph wanted name fact derived parent index access path there is further false e = (through index further.0, Through fact derived parent index access further.0 there is e further.1, (refl, further.2))

pub hidden_by_derived : HiddenByDerived
hidden_by_derived graph wanted name _ _ (Ends class) e = (record { path = []; holder = class }, Itself class e, tt)
hidden_by_derived graph wanted name _ _ (Goes fact derived parent index access way there is further) e = has graph wanted name fact derived parent index access way.path there is (hidden_by_derived graph wanted name parent way further e) (declares_member graph wanted name derived) refl

no_prefix : (xs : List ℕ) → IsPrefix xs [] → xs ≡ []
no_prefix [] h = refl
no_prefix (x ∷ xs) h = absurd h

pub nothing_hides : NothingHides
nothing_hides graph wanted name _ _ one unique (Itself class e) path prefix other = absurd (other (no_prefix one.path prefix))
nothing_hides graph wanted name _ _ _ unique (Through fact derived parent index access way there is none further) (Ends class) prefix other = none
nothing_hides graph wanted name _ _ _ unique (Through fact derived parent index access way there is none further) (Goes second also base place wider path within that on) prefix other =
    let e : parent ≡ base = unique fact second derived parent base index access wider there within is (that ∙ ap (λ i. facts.ancestor derived base i wider) prefix.0) in
    nothing_hides graph wanted name parent way path unique further (subst (λ c. IsPath graph c path) (sym e) on) prefix.1 (λ same. other (ap (λ i. i ∷ path.path) prefix.0 ∙ ap (λ xs. index ∷ xs) same))
