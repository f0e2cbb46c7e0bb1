-- What follows from the types of some arguments stands in one list, so there is an end to it.
use Rattle.std.proofs.Common.{◌≡◌, ℕ, zero, suc, ◌≤◌, Bool, true, false, cond, eqb, ◌||◌, ◌⊎◌, inl, inr, List, [], ◌∷◌, ◌++◌, Option, Some, None, length, map, refl, ap, sym, ◌∙◌, subst, eq-eqb}
use Rattle.std.specs.List.{IsDistinct, slice_get}
use Rattle.std.specs.Cmp.{IsEquivalence}
use Rattle.std.proofs.lemmas.Bool.{eqb-true, false≢true}
use Rattle.std.proofs.lemmas.Map.Keys.{IsDistinct-push}
use Rattle.std.proofs.lemmas.Map.Made.{length-le_from_is_member}
use Rattle.cxx_model.specs.Types.Trees.{CxxType, fundamental, class_type, enumeration, pointer_to, reference_to, array_of, function_of, qualified, type_parameter, specialisation, nested_in, CxxTypes, no_types, type_then, CxxArgument, type_argument, value_argument, formula_argument, CxxArguments, no_arguments, argument_then}
use Rattle.cxx_model.specs.Facts.Declarations as facts
use Rattle.cxx_model.specs.Facts.Declarations.{CxxFact, CxxGraph, CxxSpecialisation, Declares}
use Rattle.cxx_model.proofs.SameTypes.{type_itself, type_told}
use Rattle.cxx_meaning.specs.Lookups.Associated.{Holds, Part, of_type, of_base, all_bases, arguments_for, base_before, bases_of, each_of, everything, holds_part, leads_to, parent_before, same_part, types_among, types_in, types_in_all, types_in_argument, types_in_arguments, types_in_each, types_of_class, types_of_classes, with_part, with_parts}

-- ---- parts are told apart

pub part_told : (p q : Part) → same_part p q ≡ true → p ≡ q
part_told (of_type t) (of_type u) e = ap of_type (type_told t u e)
part_told (of_type t) (of_base n) e = absurd (false≢true e)
part_told (of_base m) (of_type u) e = absurd (false≢true e)
part_told (of_base m) (of_base n) e = ap of_base (eqb-true m n e)

pub part_itself : (p : Part) → same_part p p ≡ true
part_itself (of_type t) = type_itself t
part_itself (of_base n) = eq-eqb n n refl

part_tells : (p q : Part) → p ≡ q → same_part p q ≡ true
part_tells p q e = subst (λ x. same_part p x ≡ true) e (part_itself p)

part_turned : (p q : Part) → same_part p q ≡ same_part q p
part_turned p q = by (same_part p q) (same_part q p) refl refl
  where
    by : (t u : Bool) → same_part p q ≡ t → same_part q p ≡ u → t ≡ u
    by true true e f = refl
    by true false e f = absurd (false≢true (sym f ∙ part_tells q p (sym (part_told p q e))))
    by false true e f = absurd (false≢true (sym e ∙ part_tells p q (sym (part_told q p f))))
    by false false e f = refl

pub part_equivalence : IsEquivalence same_part
part_equivalence = record { refl = part_itself; symm = part_turned; congr = λ p q r e. ap (λ x. same_part x r) (part_told p q e) }

-- ---- what stands in a list

abbrev pub In : Part → List Part → Type 0
In q xs = Holds xs q

pub in_told : (xs : List Part) (q : Part) → holds_part xs q ≡ true → In q xs
in_told [] q e = absurd (false≢true e)
in_told (x ∷ xs) q e = by (same_part q x) refl (in_told xs q) e
  where
    by : (t : Bool) → same_part q x ≡ t → (holds_part xs q ≡ true → In q xs) → (t || holds_part xs q) ≡ true → (q ≡ x) ⊎ In q xs
    by true h rest e = inl (part_told q x h)
    by false h rest e = inr (rest e)

pub in_tells : (xs : List Part) (q : Part) → In q xs → holds_part xs q ≡ true
in_tells [] q i = absurd i
in_tells (x ∷ xs) q (inl e) = ap (λ t. t || holds_part xs q) (part_tells q x e)
in_tells (x ∷ xs) q (inr i) = by (same_part q x) (in_tells xs q i)
  where
    by : (t : Bool) → holds_part xs q ≡ true → (t || holds_part xs q) ≡ true
    by true rest = refl
    by false rest = rest

pub in_left : (xs ys : List Part) (q : Part) → In q xs → In q (xs ++ ys)
in_left [] ys q i = absurd i
in_left (x ∷ xs) ys q (inl e) = inl e
in_left (x ∷ xs) ys q (inr i) = inr (in_left xs ys q i)

pub in_right : (xs ys : List Part) (q : Part) → In q ys → In q (xs ++ ys)
in_right [] ys q i = i
in_right (x ∷ xs) ys q i = inr (in_right xs ys q i)

pub in_split : (xs ys : List Part) (q : Part) → In q (xs ++ ys) → In q xs ⊎ In q ys
in_split [] ys q i = inr i
in_split (x ∷ xs) ys q (inl e) = inl (inl e)
in_split (x ∷ xs) ys q (inr i) = by (in_split xs ys q i)
  where
    by : In q xs ⊎ In q ys → In q (x ∷ xs) ⊎ In q ys
    by (inl j) = inl (inr j)
    by (inr j) = inr j

-- ---- what is added

pub added_in : (xs : List Part) (p q : Part) → In q (with_part xs p) → In q xs ⊎ (q ≡ p)
added_in xs p q i = by (holds_part xs p) i
  where
    last : In q xs ⊎ In q (p ∷ []) → In q xs ⊎ (q ≡ p)
    last (inl j) = inl j
    last (inr (inl e)) = inr e
    last (inr (inr j)) = absurd j

    by : (t : Bool) → In q (cond t xs (xs ++ p ∷ [])) → In q xs ⊎ (q ≡ p)
    by true i = inl i
    by false i = last (in_split xs (p ∷ []) q i)

pub all_added_in : (ys xs : List Part) (q : Part) → In q (with_parts xs ys) → In q xs ⊎ In q ys
unfolding with_parts
all_added_in [] xs q i = inl i
all_added_in (y ∷ ys) xs q i = by (all_added_in ys (with_part xs y) q i)
  where
    one : In q xs ⊎ (q ≡ y) → In q xs ⊎ In q (y ∷ ys)
    one (inl j) = inl j
    one (inr e) = inr (inl e)

    by : In q (with_part xs y) ⊎ In q ys → In q xs ⊎ In q (y ∷ ys)
    by (inl j) = one (added_in xs y q j)
    by (inr j) = inr (inr j)

pub all_distinct : (ys xs : List Part) → IsDistinct same_part xs → IsDistinct same_part (with_parts xs ys)
unfolding with_parts
all_distinct [] xs d = d
all_distinct (y ∷ ys) xs d = all_distinct ys (with_part xs y) (by (holds_part xs y) refl)
  where
    by : (t : Bool) → holds_part xs y ≡ t → IsDistinct same_part (cond t xs (xs ++ y ∷ []))
    by true h = d
    by false h = IsDistinct-push part_equivalence xs y d h

-- ---- what a type leads to stands in it

-- the types to which a type leads by itself
abbrev below : CxxType → List Part
below (pointer_to t) = of_type t ∷ []
below (reference_to t) = of_type t ∷ []
below (array_of t bound) = of_type t ∷ []
below (qualified cv t) = of_type t ∷ []
below (function_of r ts ellipsis cv) = of_type r ∷ each_of ts
below (specialisation n arguments) = types_among arguments
below _ = []

in_itself : (t : CxxType) → In (of_type t) (types_in t)
in_itself (pointer_to t) = inl refl
in_itself (reference_to t) = inl refl
in_itself (array_of t bound) = inl refl
in_itself (qualified cv t) = inl refl
in_itself (function_of r ts ellipsis cv) = inl refl
in_itself (specialisation n args) = inl refl
in_itself (fundamental base) = inl refl
in_itself (class_type n) = inl refl
in_itself (enumeration n) = inl refl
in_itself (type_parameter depth index) = inl refl
in_itself (nested_in t word) = inl refl

each_within : (ts : CxxTypes) (q : Part) → In q (each_of ts) → In q (types_in_each ts)
each_within no_types q i = absurd i
each_within (type_then t ts) q (inl e) = in_left (types_in t) (types_in_each ts) q (subst (λ x. In x (types_in t)) (sym e) (in_itself t))
each_within (type_then t ts) q (inr i) = in_right (types_in t) (types_in_each ts) q (each_within ts q i)

among_within : (args : CxxArguments) (q : Part) → In q (types_among args) → In q (types_in_arguments args)
among_within no_arguments q i = absurd i
among_within (argument_then (type_argument t) others) q (inl e) = in_left (types_in t) (types_in_arguments others) q (subst (λ x. In x (types_in t)) (sym e) (in_itself t))
among_within (argument_then (type_argument t) others) q (inr i) = in_right (types_in t) (types_in_arguments others) q (among_within others q i)
among_within (argument_then (value_argument value t) others) q i = among_within others q i
among_within (argument_then (formula_argument f) others) q i = among_within others q i

element : (t : CxxType) (q : Part) → In q (of_type t ∷ []) → In q (types_in t)
element t q (inl e) = subst (λ x. In x (types_in t)) (sym e) (in_itself t)
element t q (inr i) = absurd i

top_down : (s : CxxType) (q : Part) → In q (below s) → In q (types_in s)
top_down (pointer_to t) q i = inr (element t q i)
top_down (reference_to t) q i = inr (element t q i)
top_down (array_of t bound) q i = inr (element t q i)
top_down (qualified cv t) q i = inr (element t q i)
top_down (function_of r ts ellipsis cv) q (inl e) = inr (in_left (types_in r) (types_in_each ts) q (subst (λ x. In x (types_in r)) (sym e) (in_itself r)))
top_down (function_of r ts ellipsis cv) q (inr i) = inr (in_right (types_in r) (types_in_each ts) q (each_within ts q i))
top_down (specialisation n args) q i = inr (among_within args q i)
top_down (fundamental base) q i = absurd i
top_down (class_type n) q i = absurd i
top_down (enumeration n) q i = absurd i
top_down (type_parameter depth index) q i = absurd i
top_down (nested_in t word) q i = absurd i

same_types_of : (t u : CxxType) → of_type t ≡ of_type u → t ≡ u
same_types_of t u e = cc

here : (s t : CxxType) (q : Part) → of_type t ≡ of_type s → In q (below t) → In q (types_in s)
here s t q e i = top_down s q (subst (λ x. In q (below x)) (same_types_of t s e) i)

mutual
  down : (s t : CxxType) (q : Part) → In (of_type t) (types_in s) → In q (below t) → In q (types_in s)
  down (pointer_to s) t q (inl e) j = here (pointer_to s) t q e j
  down (pointer_to s) t q (inr i) j = inr (down s t q i j)
  down (reference_to s) t q (inl e) j = here (reference_to s) t q e j
  down (reference_to s) t q (inr i) j = inr (down s t q i j)
  down (array_of s bound) t q (inl e) j = here (array_of s bound) t q e j
  down (array_of s bound) t q (inr i) j = inr (down s t q i j)
  down (qualified cv s) t q (inl e) j = here (qualified cv s) t q e j
  down (qualified cv s) t q (inr i) j = inr (down s t q i j)
  down (function_of r ts ellipsis cv) t q (inl e) j = here (function_of r ts ellipsis cv) t q e j
  down (function_of r ts ellipsis cv) t q (inr i) j = inr (elim (in_split (types_in r) (types_in_each ts) (of_type t) i) [ inl k ↦ in_left (types_in r) (types_in_each ts) q (down r t q k j) | inr k ↦ in_right (types_in r) (types_in_each ts) q (down_each ts t q k j) ])
  down (specialisation n args) t q (inl e) j = here (specialisation n args) t q e j
  down (specialisation n args) t q (inr i) j = inr (down_arguments args t q i j)
  down (fundamental base) t q (inl e) j = here (fundamental base) t q e j
  down (fundamental base) t q (inr i) j = absurd i
  down (class_type n) t q (inl e) j = here (class_type n) t q e j
  down (class_type n) t q (inr i) j = absurd i
  down (enumeration n) t q (inl e) j = here (enumeration n) t q e j
  down (enumeration n) t q (inr i) j = absurd i
  down (type_parameter depth index) t q (inl e) j = here (type_parameter depth index) t q e j
  down (type_parameter depth index) t q (inr i) j = absurd i
  down (nested_in s word) t q (inl e) j = here (nested_in s word) t q e j
  down (nested_in s word) t q (inr i) j = absurd i

  down_each : (ss : CxxTypes) (t : CxxType) (q : Part) → In (of_type t) (types_in_each ss) → In q (below t) → In q (types_in_each ss)
  down_each no_types t q i j = absurd i
  down_each (type_then s ss) t q i j = elim (in_split (types_in s) (types_in_each ss) (of_type t) i) [ inl k ↦ in_left (types_in s) (types_in_each ss) q (down s t q k j) | inr k ↦ in_right (types_in s) (types_in_each ss) q (down_each ss t q k j) ]

  down_arguments : (args : CxxArguments) (t : CxxType) (q : Part) → In (of_type t) (types_in_arguments args) → In q (below t) → In q (types_in_arguments args)
  down_arguments no_arguments t q i j = absurd i
  down_arguments (argument_then a others) t q i j = elim (in_split (types_in_argument a) (types_in_arguments others) (of_type t) i) [ inl k ↦ in_left (types_in_argument a) (types_in_arguments others) q (down_argument a t q k j) | inr k ↦ in_right (types_in_argument a) (types_in_arguments others) q (down_arguments others t q k j) ]

  down_argument : (a : CxxArgument) (t : CxxType) (q : Part) → In (of_type t) (types_in_argument a) → In q (below t) → In q (types_in_argument a)
  down_argument (type_argument s) t q i j = down s t q i j
  down_argument (value_argument value s) t q i j = absurd i
  down_argument (formula_argument f) t q i j = absurd i

down_all : (ss : List CxxType) (t : CxxType) (q : Part) → In (of_type t) (types_in_all ss) → In q (below t) → In q (types_in_all ss)
down_all [] t q i j = absurd i
down_all (s ∷ ss) t q i j = elim (in_split (types_in s) (types_in_all ss) (of_type t) i) [ inl k ↦ in_left (types_in s) (types_in_all ss) q (down s t q k j) | inr k ↦ in_right (types_in s) (types_in_all ss) q (down_all ss t q k j) ]

down_class : (class : Option CxxSpecialisation) (t : CxxType) (q : Part) → In (of_type t) (types_of_class class) → In q (below t) → In q (types_of_class class)
down_class None t q i j = absurd i
down_class (Some of) t q i j = down_arguments of.arguments t q i j

down_classes : (classes : List (Option CxxSpecialisation)) (t : CxxType) (q : Part) → In (of_type t) (types_of_classes classes) → In q (below t) → In q (types_of_classes classes)
down_classes [] t q i j = absurd i
down_classes (class ∷ classes) t q i j = elim (in_split (types_of_class class) (types_of_classes classes) (of_type t) i) [ inl k ↦ in_left (types_of_class class) (types_of_classes classes) q (down_class class t q k j) | inr k ↦ in_right (types_of_class class) (types_of_classes classes) q (down_classes classes t q k j) ]

-- ---- what a class leads to

base_first : (class : ℕ) (what : Declares) (q : Part) (ones alls : List Part) → (In q ones → In q alls) → In q (base_before class what ones) → In q (parent_before what alls)
base_first class (facts.ancestor derived parent index access) q ones alls rest i = by (eqb derived.0 class) i
  where
    front : In q (of_base parent.0 ∷ ones) → In q (of_base parent.0 ∷ alls)
    front (inl e) = inl e
    front (inr j) = inr (rest j)

    by : (t : Bool) → In q (cond t (of_base parent.0 ∷ ones) ones) → In q (of_base parent.0 ∷ alls)
    by true i = front i
    by false i = inr (rest i)
base_first class _ q ones alls rest i = rest i

bases_within : (all : List CxxFact) (class : ℕ) (q : Part) → In q (bases_of all class) → In q (all_bases all)
bases_within [] class q i = absurd i
bases_within (fact ∷ others) class q i = base_first class fact.what q (bases_of others class) (all_bases others) (bases_within others class q) i

parent_no_type : (what : Declares) (t : CxxType) (alls : List Part) → (In (of_type t) alls → ⊥) → In (of_type t) (parent_before what alls) → ⊥
parent_no_type (facts.ancestor derived parent index access) t alls rest (inl e) = absurd cc
parent_no_type (facts.ancestor derived parent index access) t alls rest (inr i) = rest i
parent_no_type _ t alls rest i = rest i

bases_no_type : (all : List CxxFact) (t : CxxType) → In (of_type t) (all_bases all) → ⊥
bases_no_type [] t i = i
bases_no_type (fact ∷ others) t i = parent_no_type fact.what t (all_bases others) (bases_no_type others t) i

arguments_within : (classes : List (Option CxxSpecialisation)) (n : ℕ) (q : Part) → In q (arguments_for (slice_get classes n)) → In q (types_of_classes classes)
arguments_within [] n q i = absurd i
arguments_within (None ∷ classes) zero q i = absurd i
arguments_within (Some of ∷ classes) zero q i = in_left (types_in_arguments of.arguments) (types_of_classes classes) q (among_within of.arguments q i)
arguments_within (class ∷ classes) (suc n) q i = in_right (types_of_class class) (types_of_classes classes) q (arguments_within classes n q i)

-- ---- nothing leads out of the list

from_bases : (graph : CxxGraph) (types : List CxxType) (q : Part) → In q (all_bases graph.facts) → In q (everything graph types)
unfolding everything
from_bases graph types q i = in_right (types_in_all types) (types_of_classes graph.classes ++ all_bases graph.facts) q (in_right (types_of_classes graph.classes) (all_bases graph.facts) q i)

from_classes : (graph : CxxGraph) (types : List CxxType) (q : Part) → In q (types_of_classes graph.classes) → In q (everything graph types)
unfolding everything
from_classes graph types q i = in_right (types_in_all types) (types_of_classes graph.classes ++ all_bases graph.facts) q (in_left (types_of_classes graph.classes) (all_bases graph.facts) q i)

from_types : (graph : CxxGraph) (types : List CxxType) (q : Part) → In q (types_in_all types) → In q (everything graph types)
unfolding everything
from_types graph types q i = in_left (types_in_all types) (types_of_classes graph.classes ++ all_bases graph.facts) q i

down_everything : (graph : CxxGraph) (types : List CxxType) (t : CxxType) (q : Part) → In (of_type t) (everything graph types) → In q (below t) → In q (everything graph types)
unfolding everything
down_everything graph types t q i j = by (in_split (types_in_all types) (types_of_classes graph.classes ++ all_bases graph.facts) (of_type t) i)
  where
    later : In (of_type t) (types_of_classes graph.classes) ⊎ In (of_type t) (all_bases graph.facts) → In q (everything graph types)
    later (inl k) = from_classes graph types q (down_classes graph.classes t q k j)
    later (inr k) = absurd (bases_no_type graph.facts t k)

    by : In (of_type t) (types_in_all types) ⊎ In (of_type t) (types_of_classes graph.classes ++ all_bases graph.facts) → In q (everything graph types)
    by (inl k) = from_types graph types q (down_all types t q k j)
    by (inr k) = later (in_split (types_of_classes graph.classes) (all_bases graph.facts) (of_type t) k)

pub leads_within : (graph : CxxGraph) (types : List CxxType) (p q : Part) → In p (everything graph types) → In q (leads_to graph p) → In q (everything graph types)
leads_within graph types (of_base n) q i j = from_bases graph types q (bases_within graph.facts n q j)
leads_within graph types (of_type (class_type n)) q i j = by (in_split (bases_of graph.facts n) (arguments_for (slice_get graph.classes n)) q j)
  where
    by : In q (bases_of graph.facts n) ⊎ In q (arguments_for (slice_get graph.classes n)) → In q (everything graph types)
    by (inl k) = from_bases graph types q (bases_within graph.facts n q k)
    by (inr k) = from_classes graph types q (arguments_within graph.classes n q k)
leads_within graph types (of_type (pointer_to t)) q i j = down_everything graph types (pointer_to t) q i j
leads_within graph types (of_type (reference_to t)) q i j = down_everything graph types (reference_to t) q i j
leads_within graph types (of_type (array_of t bound)) q i j = down_everything graph types (array_of t bound) q i j
leads_within graph types (of_type (qualified cv t)) q i j = down_everything graph types (qualified cv t) q i j
leads_within graph types (of_type (function_of r ts ellipsis cv)) q i j = down_everything graph types (function_of r ts ellipsis cv) q i j
leads_within graph types (of_type (specialisation n args)) q i j = down_everything graph types (specialisation n args) q i j
leads_within graph types (of_type (fundamental base)) q i j = down_everything graph types (fundamental base) q i j
leads_within graph types (of_type (enumeration n)) q i j = down_everything graph types (enumeration n) q i j
leads_within graph types (of_type (type_parameter depth index)) q i j = down_everything graph types (type_parameter depth index) q i j
leads_within graph types (of_type (nested_in t word)) q i j = down_everything graph types (nested_in t word) q i j

given_within : (ts : List CxxType) (q : Part) → In q (map of_type ts) → In q (types_in_all ts)
given_within [] q i = absurd i
given_within (t ∷ ts) q (inl e) = in_left (types_in t) (types_in_all ts) q (subst (λ x. In x (types_in t)) (sym e) (in_itself t))
given_within (t ∷ ts) q (inr i) = in_right (types_in t) (types_in_all ts) q (given_within ts q i)

-- ---- what was found so far

pub record Going (graph : CxxGraph) (types : List CxxType) (found : List Part) : Type 0 where
  pub distinct : IsDistinct same_part found
  pub within : (q : Part) → In q found → In q (everything graph types)

pub going_first : (graph : CxxGraph) (types : List CxxType) → Going graph types (with_parts [] (map of_type types))
unfolding IsDistinct
going_first graph types = record {
  distinct = all_distinct (map of_type types) [] tt;
  within = λ q i. by q (all_added_in (map of_type types) [] q i);
}
  where
    by : (q : Part) → In q [] ⊎ In q (map of_type types) → In q (everything graph types)
    by q (inl j) = absurd j
    by q (inr j) = from_types graph types q (given_within types q j)

pub going_on : (graph : CxxGraph) (types : List CxxType) (found : List Part) (p : Part) → Going graph types found → In p found → Going graph types (with_parts found (leads_to graph p))
going_on graph types found p going i = record {
  distinct = all_distinct (leads_to graph p) found going.distinct;
  within = λ q j. by q (all_added_in (leads_to graph p) found q j);
}
  where
    by : (q : Part) → In q found ⊎ In q (leads_to graph p) → In q (everything graph types)
    by q (inl j) = going.within q j
    by q (inr j) = leads_within graph types p q (going.within p i) j

-- no more are found than there are
pub going_room : (graph : CxxGraph) (types : List CxxType) (found : List Part) → Going graph types found → length found ≤ length (everything graph types)
going_room graph types found going = length-le_from_is_member part_equivalence found (everything graph types) going.distinct (λ q h. in_tells (everything graph types) q (going.within q (in_told found q h)))
