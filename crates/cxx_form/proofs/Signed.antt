-- By what functions of classes are told apart.
use Rattle.std.proofs.Common.{◌≡◌, ℕ, zero, suc, ◌+◌, ◌<◌, ◌≤◌, Bool, true, false, ◌&&◌, List, [], ◌∷◌, ◌++◌, length, drop, get_or, Option, Some, None, option_map, refl, ap, sym, ◌∙◌, append-nil, append_assoc, arith, eqb, eq-eqb}
use Rattle.std.specs.Prelude.{if◌then◌else◌}
use Rattle.std.specs.List.{slice_get}
use Rattle.std.proofs.Math.Dec.{eqb-suc-zero}
use Rattle.std.proofs.lemmas.Bool.{eqb-true}
use Rattle.std.proofs.lemmas.List.{at_drop_more, at_drop_all}
use Rattle.cxx_model.specs.declared.facts.Fact.{Fact}
use Rattle.cxx_model.specs.declared.facts.Name.{Name}
use Rattle.cxx_model.specs.declared.types.Cv.{Cv}
use Rattle.cxx_model.specs.declared.types.FactId.{FactId}
use Rattle.cxx_model.specs.declared.types.TypeId.{TypeId}
use Rattle.cxx_model.specs.declared.types.TypeNode.{TypeNode}
use Rattle.cxx_model.specs.declared.types.TypeNode.TheVariants as node
use Rattle.cxx_model.specs.Facts.Conflicts.{same_name}
use Rattle.cxx_model.specs.Facts.Declarations.{CxxFact, CxxName, conversion_to, declares_at, destructor, fact_at, facts_at, name_at, operator_function, spelled, unnamed}
use Rattle.cxx_model.specs.Types.Numbers.{type_at, type_over, types_at, AreTypesBelow, IsNodeBelow}
use Rattle.cxx_model.specs.Types.Same.{same_bool, same_cv, same_types}
use Rattle.cxx_model.specs.Types.Trees.{CxxType, CxxTypes}
use Rattle.cxx_model.proofs.Equal.{both, join, word_told, word_tells}
use Rattle.cxx_model.proofs.SameTypes.{bool_itself, bool_told, cv_itself, cv_told, type_tells, type_told, types_itself, types_told}
use Rattle.cxx_form.specs.Shared.{has_same, same_signature, signature_by, signature_of, signature_with, CxxSignature}
use Rattle.cxx_form.specs.Sharing.{end_of, ends_of, first_among, same_if}
use Rattle.cxx_form.specs.Lines.{numbers_in}
use Rattle.cxx_form.proofs.Gathering.{fact_is}

-- ---- lists of types

more_below : (least count : ℕ) (numbers : List TypeId) → least ≤ count → AreTypesBelow least numbers → AreTypesBelow count numbers
more_below least count [] le below = tt
more_below least count (n ∷ others) le below = (omega (arith, below.0), more_below least count others le below.1)

pub below_first : (count : ℕ) (one : TypeId) (others : List TypeId) → AreTypesBelow count (one ∷ others) → (one.0 < count) × AreTypesBelow count others
below_first count one others below = (below.0, below.1)

pub below_at : (count : ℕ) (numbers : List TypeId) (i : ℕ) (d : TypeId) → AreTypesBelow count numbers → i < length numbers → (get_or numbers i d).0 < count
below_at count [] i d below within = absurd (omega arith)
below_at count (n ∷ others) zero d below within = below.0
below_at count (n ∷ others) (suc i) d below within = below_at count others i d below.1 (omega arith)

pub parameters_below : (number count : ℕ) (r : TypeId) (parameters : List TypeId) (ellipsis : Bool) (cv : Cv) → IsNodeBelow number (node.Function r parameters ellipsis cv) → number < count → AreTypesBelow count parameters
parameters_below number count r parameters ellipsis cv below lt = more_below number count parameters (omega arith) below.1

-- no types are the same as none
pub none_left : (types : List CxxType) (ones twos : List TypeId) → length ones < 1 → same_types (types_at types ones) (types_at types twos) ≡ eqb (length twos) 0
none_left types [] [] lt = refl
none_left types [] (two ∷ twos) lt = sym (eqb-suc-zero (length twos))
none_left types (one ∷ ones) twos lt = absurd (omega arith)

-- what stands at the end of each of some types
abbrev pub ends_at : List CxxType → List TypeId → List ℕ
ends_at types numbers = ends_of (types_at types numbers)

pub ends_more : (types : List CxxType) (numbers : List TypeId) (i : ℕ) (d : TypeId) (old new whole : List ℕ) → i < length numbers → new ≡ old ++ end_of (type_at types (get_or numbers i d).0) ∷ [] → old ++ ends_at types (drop i numbers) ≡ whole → new ++ ends_at types (drop (i + 1) numbers) ≡ whole
ends_more types numbers i d old new whole within more so =
    let left : List ℕ = ends_at types (drop (i + 1) numbers) in
    ap (λ (ns : List ℕ). ns ++ left) more ∙ append_assoc old (end_of (type_at types (get_or numbers i d).0) ∷ []) left ∙ ap (λ (ns : List ℕ). old ++ ns) (sym (at_drop_more (λ (ns : List TypeId). ends_at types ns) numbers i d within)) ∙ so

pub ends_all : (types : List CxxType) (numbers : List TypeId) (i : ℕ) (now whole : List ℕ) → length numbers ≤ i → now ++ ends_at types (drop i numbers) ≡ whole → now ≡ whole
ends_all types numbers i now whole past so = sym (append-nil now) ∙ ap (λ (ns : List ℕ). now ++ ns) (sym (at_drop_all (λ (ns : List TypeId). ends_at types ns) numbers i past)) ∙ so

-- ---- functions

pub are_signed : (types : List CxxType) (name other : CxxName) (one two : CxxType) (r r' : TypeId) (ones twos : List TypeId) (first second : Bool) (cv cv' : Cv) → type_over types (node.Function r ones first cv) ≡ one → type_over types (node.Function r' twos second cv') ≡ two
    → same_if (signature_with name one) (signature_with other two) ≡ (same_name name other && (same_types (types_at types ones) (types_at types twos) && (same_bool first second && same_cv cv cv')))
are_signed types name other one two r r' ones twos first second cv cv' e f =
    ap (λ t. same_if (signature_with name t) (signature_with other two)) (sym e) ∙ ap (λ t. same_if (signature_with name (type_over types (node.Function r ones first cv))) (signature_with other t)) (sym f)

no_signature : (types : List CxxType) (name : CxxName) (n : TypeNode) → ((r : TypeId) (ts : List TypeId) (e : Bool) (cv : Cv) → n ≡ node.Function r ts e cv → ⊥) → signature_with name (type_over types n) ≡ None
no_signature types name (node.Function r ts e cv) h = absurd (h r ts e cv refl)
no_signature types name _ h = refl

pub one_is_none : (types : List CxxType) (name other : CxxName) (n : TypeNode) (one two : CxxType) → type_over types n ≡ one → ((r : TypeId) (ts : List TypeId) (e : Bool) (cv : Cv) → n ≡ node.Function r ts e cv → ⊥) → same_if (signature_with name one) (signature_with other two) ≡ false
one_is_none types name other n one two e h = ap (λ s. same_if s (signature_with other two)) (ap (signature_with name) (sym e) ∙ no_signature types name n h)

none_same : (one : Option CxxSignature) → same_if one None ≡ false
none_same None = refl
none_same (Some one) = refl

pub two_is_none : (types : List CxxType) (name other : CxxName) (n : TypeNode) (one two : CxxType) → type_over types n ≡ two → ((r : TypeId) (ts : List TypeId) (e : Bool) (cv : Cv) → n ≡ node.Function r ts e cv → ⊥) → same_if (signature_with name one) (signature_with other two) ≡ false
two_is_none types name other n one two e h = ap (λ s. same_if (signature_with name one) s) (ap (signature_with other) (sym e) ∙ no_signature types other n h) ∙ none_same (signature_with name one)

-- ---- the test tells signatures apart

name_told : (one two : CxxName) → same_name one two ≡ true → one ≡ two
name_told unnamed unnamed e = refl
name_told (spelled one) (spelled two) e = ap spelled (word_told one two e)
name_told (operator_function one) (operator_function two) e = ap operator_function (eqb-true one two e)
name_told (conversion_to one) (conversion_to two) e = ap conversion_to (type_told one two e)
name_told destructor destructor e = refl
name_told _ _ e = cc

name_itself : (one : CxxName) → same_name one one ≡ true
name_itself unnamed = refl
name_itself (spelled one) = word_tells one one refl
name_itself (operator_function one) = eq-eqb one one refl
name_itself (conversion_to one) = type_tells one one refl
name_itself destructor = refl

pub signature_told : (one two : CxxSignature) → same_signature one two ≡ true → one ≡ two
signature_told one two e =
    let first : (same_name one.name two.name ≡ true) × ((same_types one.parameters two.parameters && (same_bool one.ellipsis two.ellipsis && same_cv one.cv two.cv)) ≡ true) = both _ _ e in
    let second : (same_types one.parameters two.parameters ≡ true) × ((same_bool one.ellipsis two.ellipsis && same_cv one.cv two.cv) ≡ true) = both _ _ first.1 in
    let third : (same_bool one.ellipsis two.ellipsis ≡ true) × (same_cv one.cv two.cv ≡ true) = both _ _ second.1 in
    ap (λ (n : CxxName). record one { name = n }) (name_told one.name two.name first.0)
    ∙ ap (λ (ts : CxxTypes). record one { name = two.name; parameters = ts }) (types_told one.parameters two.parameters second.0)
    ∙ ap (λ (b : Bool). record two { ellipsis = b; cv = one.cv }) (bool_told one.ellipsis two.ellipsis third.0)
    ∙ ap (λ (c : Cv). record two { cv = c }) (cv_told one.cv two.cv third.1)

pub signature_itself : (one : CxxSignature) → same_signature one one ≡ true
signature_itself one = join _ _ (name_itself one.name) (join _ _ (types_itself one.parameters) (join _ _ (bool_itself one.ellipsis) (cv_itself one.cv)))

pub has_told : (one : CxxSignature) (other : Option CxxSignature) → has_same one other ≡ true → other ≡ Some one
has_told one None e = cc
has_told one (Some two) e = ap (λ (s : CxxSignature). Some s) (sym (signature_told one two e))

pub has_tells : (one : CxxSignature) (other : Option CxxSignature) → other ≡ Some one → has_same one other ≡ true
has_tells one other e = ap (has_same one) e ∙ signature_itself one

-- ---- one declaration after another

pub signed_more : (all : List CxxFact) (signature : Option CxxSignature) (numbers : List FactId) (i : ℕ) (d : FactId) → i < length numbers → same_if signature (signature_of (slice_get all (get_or numbers i d).0)) ≡ false
    → first_among all signature (numbers_in (drop i numbers)) ≡ first_among all signature (numbers_in (drop (i + 1) numbers))
signed_more all signature numbers i d within other =
    at_drop_more (λ (ns : List FactId). first_among all signature (numbers_in ns)) numbers i d within ∙ ap (λ t. if t then Some (get_or numbers i d).0 else first_among all signature (numbers_in (drop (i + 1) numbers))) other

pub signed_here : (all : List CxxFact) (signature : Option CxxSignature) (numbers : List FactId) (i : ℕ) (d : FactId) → i < length numbers → same_if signature (signature_of (slice_get all (get_or numbers i d).0)) ≡ true
    → first_among all signature (numbers_in (drop i numbers)) ≡ Some (get_or numbers i d).0
signed_here all signature numbers i d within it =
    at_drop_more (λ (ns : List FactId). first_among all signature (numbers_in ns)) numbers i d within ∙ ap (λ t. if t then Some (get_or numbers i d).0 else first_among all signature (numbers_in (drop (i + 1) numbers))) it

-- ---- the signature of a declaration

pub signature_is : (types : List CxxType) (facts : List Fact) (n : ℕ) (fact : Fact) → Some fact ≡ slice_get facts n → signature_of (slice_get (facts_at types facts) n) ≡ signature_by (name_at types fact.name) (declares_at types fact.what)
signature_is types facts n fact is = ap signature_of (fact_is types facts n ∙ ap (option_map (fact_at types)) (sym is))

pub none_signed : (types : List CxxType) (facts : List Fact) (n : ℕ) (one : Option CxxSignature) → None ≡ slice_get facts n → false ≡ same_if one (signature_of (slice_get (facts_at types facts) n))
none_signed types facts n one is = sym (ap (λ (o : Option CxxFact). same_if one (signature_of o)) (fact_is types facts n ∙ ap (option_map (fact_at types)) (sym is)) ∙ none_same one)

pub not_signed : (types : List CxxType) (facts : List Fact) (n : ℕ) (fact : Fact) (one : Option CxxSignature) → Some fact ≡ slice_get facts n → None ≡ signature_by (name_at types fact.name) (declares_at types fact.what) → false ≡ same_if one (signature_of (slice_get (facts_at types facts) n))
not_signed types facts n fact one is none = sym (ap (same_if one) (signature_is types facts n fact is ∙ sym none) ∙ none_same one)

pub signed_as : (types given : List CxxType) (facts : List Fact) (n : ℕ) (fact : Fact) (name : Name) (of other : TypeId) (t : Bool) → given ≡ types → Some fact ≡ slice_get facts n → signature_with (name_at types fact.name) (type_at types other.0) ≡ signature_by (name_at types fact.name) (declares_at types fact.what)
    → t ≡ same_if (signature_with (name_at given name) (type_at given of.0)) (signature_with (name_at given fact.name) (type_at given other.0)) → t ≡ same_if (signature_with (name_at types name) (type_at types of.0)) (signature_of (slice_get (facts_at types facts) n))
signed_as types given facts n fact name of other t same at is told =
    told
    ∙ ap (λ (ts : List CxxType). same_if (signature_with (name_at ts name) (type_at ts of.0)) (signature_with (name_at ts fact.name) (type_at ts other.0))) same
    ∙ ap (same_if (signature_with (name_at types name) (type_at types of.0))) (is ∙ sym (signature_is types facts n fact at))
