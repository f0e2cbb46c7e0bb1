-- Examples of the standard, with the subobjects that there are. No base is virtual.
use Rattle.std.specs.Prelude.{ℕ, ◌≡◌, List, [], ◌∷◌, refl}
use Rattle.cxx_model.specs.declared.facts.Access.TheVariants.{Public}
use Rattle.cxx_model.specs.Facts.Declarations as facts
use Rattle.cxx_model.specs.Facts.Declarations.{CxxFact, CxxGraph, Declares, unnamed}
use Rattle.cxx_subobjects.specs.declared.bases.Subobjects.{Subobjects}
use Rattle.cxx_subobjects.specs.declared.bases.Subobjects.TheVariants as found
use Rattle.cxx_subobjects.specs.Paths.{base_paths, subobjects}

-- ---- how rows are written

abbrev put : Declares → CxxFact
put what = record { place = record { line = 1; column = 1 }; scope = 0; name = unnamed; access = Public; what = what }

abbrev base_of : ℕ → ℕ → ℕ → CxxFact
base_of class parent index = put (facts.ancestor (record { 0 = class }) (record { 0 = parent }) index Public)

abbrev end_of : ℕ → CxxFact
end_of class = put (facts.complete (record { 0 = class }))

abbrev in_graph : List CxxFact → ℕ → ℕ → Subobjects
in_graph all class base = subobjects (record { facts = all; classes = []; patterns = [] }) class base

-- ---- 10.1: `class L {}; class A : public L {}; class B : public L {}; class C : public A, public B {};` and
-- `class D : public A, public L {};`

abbrev L : ℕ
L = 0

abbrev A : ℕ
A = 1

abbrev B : ℕ
B = 2

abbrev C : ℕ
C = 3

abbrev D : ℕ
D = 4

abbrev twice : List CxxFact
twice = end_of L ∷ base_of A L 1 ∷ end_of A ∷ base_of B L 1 ∷ end_of B ∷ base_of C A 1 ∷ base_of C B 2 ∷ end_of C ∷ base_of D A 1 ∷ base_of D L 2 ∷ end_of D ∷ []

-- C has two subobjects of L
two_in_c : in_graph twice C L ≡ found.Several (1 ∷ 1 ∷ []) (2 ∷ 1 ∷ [])
unfolding subobjects base_paths
two_in_c = refl

one_a_in_c : in_graph twice C A ≡ found.One (1 ∷ [])
unfolding subobjects base_paths
one_a_in_c = refl

one_b_in_c : in_graph twice C B ≡ found.One (2 ∷ [])
unfolding subobjects base_paths
one_b_in_c = refl

-- D has one as a base of its base A, and one as its own base
two_in_d : in_graph twice D L ≡ found.Several (1 ∷ 1 ∷ []) (2 ∷ [])
unfolding subobjects base_paths
two_in_d = refl

-- B is no base of D, and C is none of L
none_in_d : in_graph twice D B ≡ found.None
unfolding subobjects base_paths
none_in_d = refl

none_in_l : in_graph twice L C ≡ found.None
unfolding subobjects base_paths
none_in_l = refl

itself : in_graph twice C C ≡ found.One []
unfolding subobjects base_paths
itself = refl

-- ---- 10.2: `class A {}; class B : public A {}; class C : public A {}; class D : public B, public C {};`, where a nonstatic
-- member of A is ambiguous in D; and the same once more on top: `class E : public D {}; class F : public D {};
-- class G : public E, public F {};`

abbrev layers : List CxxFact
layers = end_of 0 ∷ base_of 1 0 1 ∷ end_of 1 ∷ base_of 2 0 1 ∷ end_of 2 ∷ base_of 3 1 1 ∷ base_of 3 2 2 ∷ end_of 3 ∷ base_of 4 3 1 ∷ end_of 4 ∷ base_of 5 3 1 ∷ end_of 5 ∷ base_of 6 4 1 ∷ base_of 6 5 2 ∷ end_of 6 ∷ []

two_in_diamond : in_graph layers 3 0 ≡ found.Several (1 ∷ 1 ∷ []) (2 ∷ 1 ∷ [])
unfolding subobjects base_paths
two_in_diamond = refl

two_diamonds : in_graph layers 6 3 ≡ found.Several (1 ∷ 1 ∷ []) (2 ∷ 1 ∷ [])
unfolding subobjects base_paths
two_diamonds = refl

-- four, of which the first two are both in the first base
four_in_two : base_paths (record { facts = layers; classes = []; patterns = [] }) 6 0 ≡ (1 ∷ 1 ∷ 1 ∷ 1 ∷ []) ∷ (1 ∷ 1 ∷ 2 ∷ 1 ∷ []) ∷ (2 ∷ 1 ∷ 1 ∷ 1 ∷ []) ∷ (2 ∷ 1 ∷ 2 ∷ 1 ∷ []) ∷ []
unfolding base_paths
four_in_two = refl

first_of_four : in_graph layers 6 0 ≡ found.Several (1 ∷ 1 ∷ 1 ∷ 1 ∷ []) (1 ∷ 1 ∷ 2 ∷ 1 ∷ [])
unfolding subobjects base_paths
first_of_four = refl

-- ---- `class A {}; class B : A {}; class C : B {}; class D {}; class E : D, C {};`

abbrev chain : List CxxFact
chain = end_of 0 ∷ base_of 1 0 1 ∷ end_of 1 ∷ base_of 2 1 1 ∷ end_of 2 ∷ end_of 3 ∷ base_of 4 3 1 ∷ base_of 4 2 2 ∷ end_of 4 ∷ []

one_in_chain : in_graph chain 4 0 ≡ found.One (2 ∷ 1 ∷ 1 ∷ [])
unfolding subobjects base_paths
one_in_chain = refl

none_in_chain : in_graph chain 2 3 ≡ found.None
unfolding subobjects base_paths
none_in_chain = refl
