-- What a class has follows from the facts of bases that matter for it alone.
use Rattle.std.proofs.Common.{◌≡◌, ℕ, zero, suc, ◌+◌, ◌-◌, ◌<◌, ◌≤◌, Bool, true, false, cond, not, ◌&&◌, ◌||◌, List, [], ◌∷◌, ◌++◌, length, map, take, take_all, reverse, Option, Some, None, refl, ap, ◌∙◌, sym, subst, arith, nat_eq}
use Rattle.std.specs.List.{list_any, slice_get}
use Rattle.std.proofs.lemmas.List.{reverse-append}
use Rattle.cxx_model.specs.declared.facts.Fact.{Fact}
use Rattle.cxx_model.specs.declared.types.ClassId.{ClassId}
use Rattle.cxx_model.specs.Facts.Declarations as facts
use Rattle.cxx_model.specs.Facts.Declarations.{CxxFact, CxxGraph, CxxName, Declares, facts_at}
use Rattle.cxx_model.specs.Types.Trees.{CxxType}
use Rattle.cxx_meaning.specs.Lookups.Member.{Way as WayMeant, declares_member, own_ways, same_class, through, ways, ways_after, with_base}
use Rattle.cxx_meaning.specs.Lookups.Wanted.{Wanted}
use Rattle.cxx_members.specs.Tables.{ways_given}
use Rattle.cxx_inherited.specs.Reached.{AreCovered, Covers, CoversSome, Descends, IsReached, holds, is_base_of, parent_in}
use Rattle.cxx_inherited.specs.Tables.{own_by, ways_by}

-- ---- one fact

-- a fact of no base of a class leaves what it has
given_other : (declares : ClassId → Bool) (now : ClassId → List WayMeant) (one : Option CxxFact) (class : ClassId) → (declares class ≡ false → is_base_of class one ≡ true → ⊥) → ways_given declares now one class ≡ now class
unfolding with_base
given_other declares now None class never = refl
given_other declares now (Some fact) class never = by fact.what never
  where
    same : (t u : Bool) (more : List WayMeant) → (u ≡ false → t ≡ true → ⊥) → cond (t && not u) (now class ++ more) (now class) ≡ now class
    same true true more none = refl
    same true false more none = absurd (none refl refl)
    same false u more none = refl

    by : (what : Declares) → (declares class ≡ false → is_base_of class (Some (record fact { what = what })) ≡ true → ⊥) → with_base declares (record fact { what = what }) now class ≡ now class
    by (facts.ancestor derived parent index access) none = same (same_class derived class) (declares class) (map (through index) (now parent)) none
    by _ none = refl

abbrev AreSameAt : (ClassId → List WayMeant) → (ClassId → List WayMeant) → Option ClassId → Type 0
AreSameAt now other None = Unit {0}
AreSameAt now other (Some class) = now class ≡ other class

-- what one fact gives a class follows from what that has and what the base has
given_same : (declares : ClassId → Bool) (now other : ClassId → List WayMeant) (one : Option CxxFact) (class : ClassId) → now class ≡ other class → AreSameAt now other (parent_in one) → ways_given declares now one class ≡ ways_given declares other one class
unfolding with_base
given_same declares now other None class e f = e
given_same declares now other (Some fact) class e f = by fact.what f
  where
    by : (what : Declares) → AreSameAt now other (parent_in (Some (record fact { what = what }))) → with_base declares (record fact { what = what }) now class ≡ with_base declares (record fact { what = what }) other class
    by (facts.ancestor derived parent index access) h = ap (λ ws. cond (same_class derived class && not (declares class)) (ws ++ map (through index) (now parent)) ws) e ∙ ap (λ ws. cond (same_class derived class && not (declares class)) (other class ++ map (through index) ws) (other class)) h
    by _ h = e

-- ---- all facts before one

abbrev ways_before : (ClassId → Bool) → List CxxFact → (ClassId → List WayMeant) → ℕ → ClassId → List WayMeant
ways_before declares all own n = ways_after declares own (take n all)

ways_step : (declares : ClassId → Bool) (all : List CxxFact) (own : ClassId → List WayMeant) (n : ℕ) → ways_before declares all own (suc n) ≡ ways_given declares (ways_before declares all own n) (slice_get all n)
unfolding ways_after
ways_step declares [] own zero = refl
ways_step declares [] own (suc n) = refl
ways_step declares (fact ∷ all) own zero = refl
ways_step declares (fact ∷ all) own (suc n) = ways_step declares all (with_base declares fact own) n

still : (declares : ClassId → Bool) (all : List CxxFact) (own : ClassId → List WayMeant) (class : ClassId) (from count : ℕ) → ((n : ℕ) → from ≤ n → n < from + count → declares class ≡ false → is_base_of class (slice_get all n) ≡ true → ⊥) → ways_before declares all own (from + count) class ≡ ways_before declares all own from class
still declares all own class from zero none = let e : from + 0 ≡ from = omega arith in ap (λ n. ways_before declares all own n class) e
still declares all own class from (suc count) none =
    let e : from + suc count ≡ suc (from + count) = omega arith in
    ap (λ n. ways_before declares all own n class) e ∙ (ap (λ f. f class) (ways_step declares all own (from + count)) ∙ (given_other declares (ways_before declares all own (from + count)) (slice_get all (from + count)) class (none (from + count) (omega arith) (omega arith)) ∙ still declares all own class from count (λ n le lt. none n le (omega (arith, lt)))))

-- ---- the facts that matter, the last first

abbrev ways_down : (ClassId → Bool) → List CxxFact → (ClassId → List WayMeant) → List ℕ → ClassId → List WayMeant
ways_down declares all own [] = own
ways_down declares all own (n ∷ others) = ways_given declares (ways_down declares all own others) (slice_get all n)

none_equal : (m n : ℕ) → m < n → nat_eq m n ≡ false
none_equal m n lt = grind arith

none_held : (n r : ℕ) → r < n → nat_eq n r ≡ false
none_held n r lt = grind arith

-- a number not below the bound is not among those that descend from it
not_among : (bound : ℕ) (numbers : List ℕ) (n : ℕ) → Descends bound numbers → bound ≤ n → holds numbers n ≡ false
not_among bound [] n descends le = refl
not_among bound (r ∷ numbers) n descends le = ap (λ b. b || holds numbers n) (none_held n r (omega (arith, descends.0))) ∙ not_among r numbers n descends.1 (omega (arith, descends.0))

-- one below the first is among the others
among_later : (r n : ℕ) (numbers : List ℕ) → n < r → holds (r ∷ numbers) n ≡ true → holds numbers n ≡ true
among_later r n numbers lt h = sym (ap (λ b. b || holds numbers n) (none_equal n r lt)) ∙ h

narrower : (declares : ClassId → Bool) (all : List CxxFact) (r bound before : ℕ) (numbers : List ℕ) (class : ClassId) → before ≤ r → before ≤ bound → Covers declares all (holds (r ∷ numbers)) bound class → Covers declares all (holds numbers) before class
narrower declares all r bound before numbers class le within covers = λ free n lt base. among_later r n numbers (omega (arith, lt)) (covers free n (omega (arith, lt)) base)

narrower_some : (declares : ClassId → Bool) (all : List CxxFact) (r before : ℕ) (numbers : List ℕ) (class : Option ClassId) → before ≤ r → CoversSome declares all (holds (r ∷ numbers)) before class → CoversSome declares all (holds numbers) before class
narrower_some declares all r before numbers None le covers = tt
narrower_some declares all r before numbers (Some class) le covers = narrower declares all r before before numbers class le (omega arith) covers

narrower_all : (declares : ClassId → Bool) (all : List CxxFact) (r bound : ℕ) (numbers others : List ℕ) → bound ≤ r → Descends bound others → AreCovered declares all (holds (r ∷ numbers)) others → AreCovered declares all (holds numbers) others
narrower_all declares all r bound numbers [] le descends covered = tt
narrower_all declares all r bound numbers (n ∷ others) le descends covered =
    (narrower_some declares all r n numbers (parent_in (slice_get all n)) (omega (arith, descends.0)) covered.0, narrower_all declares all r n numbers others (omega (arith, descends.0)) descends.1 covered.1)

same_by_parent : (declares : ClassId → Bool) (all : List CxxFact) (own : ClassId → List WayMeant) (r : ℕ) (numbers : List ℕ) (parent : Option ClassId) → ((class : ClassId) → Covers declares all (holds numbers) r class → ways_down declares all own numbers class ≡ ways_before declares all own r class) → CoversSome declares all (holds numbers) r parent → AreSameAt (ways_down declares all own numbers) (ways_before declares all own r) parent
same_by_parent declares all own r numbers None same covers = tt
same_by_parent declares all own r numbers (Some class) same covers = same class covers

abbrev false_true : false ≡ true → ⊥
false_true e = absurd cc

-- What a class has before a fact follows from those that matter.
down_is : (declares : ClassId → Bool) (all : List CxxFact) (own : ClassId → List WayMeant) (numbers : List ℕ) (bound : ℕ) (class : ClassId) → Descends bound numbers → AreCovered declares all (holds numbers) numbers → Covers declares all (holds numbers) bound class → ways_down declares all own numbers class ≡ ways_before declares all own bound class
unfolding ways_after
down_is declares all own [] bound class descends covered covers =
    let e : 0 + bound ≡ bound = omega arith in
    sym (sym (ap (λ n. ways_before declares all own n class) e) ∙ still declares all own class 0 bound (λ n le lt free base. (let no : false ≡ true = covers free n (omega (arith, lt)) base in absurd cc)))
down_is declares all own (r ∷ numbers) bound class descends covered covers =
    let e : suc r + (bound - suc r) ≡ bound = omega (arith, descends.0) in
    let above = still declares all own class (suc r) (bound - suc r) (λ n le lt free base. (let no : false ≡ true = sym (ap (λ b. b || holds numbers n) (none_held n r (omega (arith, le))) ∙ not_among r numbers n descends.1 (omega (arith, le))) ∙ covers free n (omega (arith, lt, e)) base in absurd cc)) in
    let inner : (one : ClassId) → Covers declares all (holds numbers) r one → ways_down declares all own numbers one ≡ ways_before declares all own r one = λ one cover. down_is declares all own numbers r one descends.1 (narrower_all declares all r r numbers numbers (omega arith) descends.1 covered.1) cover in
    let here = inner class (narrower declares all r bound r numbers class (omega arith) (omega (arith, descends.0)) covers) in
    let base = same_by_parent declares all own r numbers (parent_in (slice_get all r)) inner (narrower_some declares all r r numbers (parent_in (slice_get all r)) (omega arith) covered.0) in
    given_same declares (ways_down declares all own numbers) (ways_before declares all own r) (slice_get all r) class here base ∙ (sym (ap (λ f. f class) (ways_step declares all own r)) ∙ (sym above ∙ ap (λ n. ways_before declares all own n class) e))

-- ---- in order

by_push : (declares : ClassId → Bool) (all : List CxxFact) (now : ClassId → List WayMeant) (numbers : List ℕ) (n : ℕ) → ways_by declares all now (numbers ++ n ∷ []) ≡ ways_given declares (ways_by declares all now numbers) (slice_get all n)
by_push declares all now [] n = refl
by_push declares all now (one ∷ numbers) n = by_push declares all (ways_given declares now (slice_get all one)) numbers n

down_by : (declares : ClassId → Bool) (all : List CxxFact) (own : ClassId → List WayMeant) (numbers : List ℕ) → ways_by declares all own (reverse numbers) ≡ ways_down declares all own numbers
down_by declares all own [] = refl
down_by declares all own (n ∷ numbers) = ap (ways_by declares all own) (reverse-append (n ∷ []) numbers) ∙ by_push declares all own (reverse numbers) n ∙ ap (λ now. ways_given declares now (slice_get all n)) (down_by declares all own numbers)

pub length_at : (types : List CxxType) (facts : List Fact) → length (facts_at types facts) ≡ length facts
length_at types [] = refl
length_at types (fact ∷ facts) = ap suc (length_at types facts)

-- 10.2: what a class has follows from the facts of bases that matter for it
pub reached_is : (graph : CxxGraph) (wanted : Wanted) (name : CxxName) (class : ClassId) (count : ℕ) (reached numbers : List ℕ) → length graph.facts ≡ count → numbers ≡ reverse reached → IsReached (declares_member graph wanted name) graph.facts count class reached → ways_by (declares_member graph wanted name) graph.facts (own_by (declares_member graph wanted name)) numbers class ≡ ways graph wanted name class
unfolding ways own_ways
reached_is graph wanted name class count reached numbers size order is =
    let declares : ClassId → Bool = declares_member graph wanted name in
    ap (λ ns. ways_by declares graph.facts (own_by declares) ns class) order ∙ (ap (λ f. f class) (down_by declares graph.facts (own_by declares) reached) ∙ (down_is declares graph.facts (own_by declares) reached count class is.descends is.closed is.covers ∙ ap (λ fs. ways_after declares (own_by declares) fs class) (take_all count graph.facts (omega (arith, size)))))
