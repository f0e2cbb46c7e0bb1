-- Of declarations that have one role one stands for all of them.
use Rattle.std.proofs.Common.{◌≡◌, ℕ, zero, suc, ◌+◌, ◌<◌, Bool, true, false, cond, ◌&&◌, ◌||◌, nat_eq, List, [], ◌∷◌, ◌++◌, length, Option, Some, None, refl, sym, ap, ◌∙◌, subst, arith, append-nil, append_assoc}
use Rattle.std.specs.Global.{Vec}
use Rattle.std.specs.List.{slice_get}
use Rattle.std.specs.Map.{lookup}
use Rattle.std.proofs.lemmas.Bool.{eqb-true}
use Rattle.cxx_model.proofs.Equal.{word_told}
use Rattle.cxx_model.proofs.SameTypes.{bool_told}
use Rattle.cxx_model.specs.declared.facts.Entity.{Entity}
use Rattle.cxx_model.specs.declared.facts.Entity.TheVariants as entity
use Rattle.cxx_model.specs.declared.facts.Fact.{Fact}
use Rattle.cxx_model.specs.declared.facts.MemberKind.TheVariants as member
use Rattle.cxx_model.specs.declared.types.FactId.{FactId}
use Rattle.cxx_model.specs.declared.types.ScopeId.{ScopeId}
use Rattle.cxx_model.specs.Facts.Conflicts.{conflicts, declares_name, same_name}
use Rattle.cxx_model.specs.Facts.Declarations.{CxxFact, CxxGraph, CxxName, fact_at, facts_at, graph_at, spelled, unnamed, operator_function, conversion_to, destructor}
use Rattle.cxx_model.specs.Facts.Graph.{Graph}
use Rattle.cxx_model.specs.Types.Same.{same_bool}
use Rattle.cxx_model.specs.Types.Trees.{CxxType}
use Rattle.cxx_reading.specs.Seen.{declared_from, declared_in, declares_in}
use Rattle.cxx_names.specs.declared.entry.Spelling.{Spelling}
use Rattle.cxx_names.specs.declared.role.Role.{Role}
use Rattle.cxx_names.specs.declared.role.Role.TheVariants as role
use Rattle.cxx_names.specs.Clashes.{conflict_in}
use Rattle.cxx_names.specs.Filed.{row, those_in, IsMoreBy}
use Rattle.cxx_names.specs.declared.names.Names.{Names}
use Rattle.cxx_names.specs.Index.{filed_by, numbers_in, Notes}
use Rattle.cxx_names.specs.Looked.{looked_up, seen_by}
use Rattle.cxx_names.specs.Roles.{AreBelow, equal_roles, has_role, representative_by, representatives, role_by, role_in, role_there, same_role, with_one}
use Rattle.cxx_names.specs.Words.{number_among, numbered_row, same_spelling, word_row}
use Rattle.cxx_names.proofs.Known.{both_true}
use Rattle.cxx_names.proofs.Looking.{StandsAt, declared_looked, stands_first, stands_later}

-- ---- roles

role_told : (one two : Role) → equal_roles one two ≡ true → one ≡ two
role_told (role.Object one first) (role.Object two other) e =
    let p = both_true (nat_eq one.0 two.0) (nat_eq first.0 other.0) e in
    ap (λ (n : ℕ). role.Object (record { 0 = n }) first) (eqb-true one.0 two.0 p.0) ∙ ap (λ (n : ℕ). role.Object two (record { 0 = n })) (eqb-true first.0 other.0 p.1)
role_told (role.Function one first) (role.Function two other) e =
    let p = both_true (nat_eq one.0 two.0) (nat_eq first.0 other.0) e in
    ap (λ (n : ℕ). role.Function (record { 0 = n }) first) (eqb-true one.0 two.0 p.0) ∙ ap (λ (n : ℕ). role.Function two (record { 0 = n })) (eqb-true first.0 other.0 p.1)
role_told (role.Class one is_union) (role.Class two other) e =
    let p = both_true (nat_eq one.0 two.0) (same_bool is_union other) e in
    ap (λ (n : ℕ). role.Class (record { 0 = n }) is_union) (eqb-true one.0 two.0 p.0) ∙ ap (λ u. role.Class two u) (bool_told is_union other p.1)
role_told (role.Enumeration one) (role.Enumeration two) e = ap (λ (n : ℕ). role.Enumeration (record { 0 = n })) (eqb-true one.0 two.0 e)
role_told (role.Synonym one) (role.Synonym two) e = ap (λ (n : ℕ). role.Synonym (record { 0 = n })) (eqb-true one.0 two.0 e)
role_told (role.Namespace one) (role.Namespace two) e = ap (λ (n : ℕ). role.Namespace (record { 0 = n })) (eqb-true one.0 two.0 e)
role_told (role.Using one) (role.Using two) e = ap (λ (n : ℕ). role.Using (record { 0 = n })) (eqb-true one.0 two.0 e)
role_told _ _ e = absurd (cc)

-- a declaration with a role that says nothing else
abbrev sample : Role → Entity
sample (role.Object of first) = entity.Object of member.Free false None (Some first)
sample (role.Function of first) = entity.Function of member.Free (record { is_virtual = false; is_pure = false; is_explicit = false; is_implicit = false }) 0 (Some first)
sample (role.Class class is_union) = entity.Class class is_union
sample (role.Enumeration n) = entity.Enumeration n
sample (role.Synonym of) = entity.Synonym of
sample (role.Namespace inner) = entity.Namespace inner
sample (role.Using target) = entity.Using target

-- ---- conflicts

abbrev with_what : List CxxType → Fact → Entity → CxxFact
with_what types fact what = fact_at types (record fact { what = what })

-- the role is all that the test sees beside the scope and the name
by_role : (types : List CxxType) (graph : CxxGraph) (new : CxxFact) (number : ℕ) (fact : Fact) (r : Role) → role_by number fact.what ≡ Some r
    → conflicts graph number (fact_at types fact) new ≡ conflicts graph zero (with_what types fact (sample r)) new
by_role types graph new number fact r e = by fact.what e
  where
    of_one : (what : Entity) (s : Role) → conflicts graph number (with_what types fact what) new ≡ conflicts graph zero (with_what types fact (sample s)) new → Some s ≡ Some r → conflicts graph number (with_what types fact what) new ≡ conflicts graph zero (with_what types fact (sample r)) new
    of_one what s p q = (let same : s ≡ r = cc in p ∙ ap (λ t. conflicts graph zero (with_what types fact (sample t)) new) same)

    by : (what : Entity) → role_by number what ≡ Some r → conflicts graph number (with_what types fact what) new ≡ conflicts graph zero (with_what types fact (sample r)) new
    by (entity.Object of member.Free is_mutable value first) q = of_one (entity.Object of member.Free is_mutable value first) _ refl q
    by (entity.Function of member.Free flags defaults first) q = of_one (entity.Function of member.Free flags defaults first) _ refl q
    by (entity.Class class is_union) q = of_one (entity.Class class is_union) _ refl q
    by (entity.Enumeration n) q = of_one (entity.Enumeration n) _ refl q
    by (entity.Synonym of) q = of_one (entity.Synonym of) _ refl q
    by (entity.Namespace inner) q = of_one (entity.Namespace inner) _ refl q
    by (entity.Using target) q = of_one (entity.Using target) _ refl q
    by _ q = absurd (cc)

-- ---- declarations of one name in one scope

name_told : (one : CxxName) (word : List ℕ) → same_name one (spelled word) ≡ true → one ≡ spelled word
name_told (spelled own) word e = ap spelled (word_told own word e)
name_told unnamed word e = absurd (cc)
name_told (operator_function n) word e = absurd (cc)
name_told (conversion_to t) word e = absurd (cc)
name_told destructor word e = absurd (cc)

-- it declares a name in a scope
pub record IsOf (scope : ℕ) (word : List ℕ) (fact : CxxFact) : Type 0 where
  pub scope_is : fact.scope ≡ scope
  pub name_is : fact.name ≡ spelled word

of_declared : (scope : ℕ) (word : List ℕ) (fact : CxxFact) → declares_in scope (spelled word) fact ≡ true → IsOf scope word fact
of_declared scope word fact e =
    let p = both_true (nat_eq fact.scope scope) (declares_name fact.what && (true && same_name fact.name (spelled word))) e in
    let q = both_true (declares_name fact.what) (true && same_name fact.name (spelled word)) p.1 in
    record { scope_is = eqb-true fact.scope scope p.0; name_is = name_told fact.name word q.1 }

abbrev AreOf : List CxxType → List Fact → ℕ → List ℕ → List FactId → Type 0
AreOf types facts scope word [] = Unit {0}
AreOf types facts scope word (number ∷ numbers) = ((fact : Fact) → slice_get facts number.0 ≡ Some fact → IsOf scope word (fact_at types fact)) × AreOf types facts scope word numbers

are_of : (types : List CxxType) (all : List Fact) (scope : ℕ) (word : List ℕ) (number : ℕ) (facts : List Fact) → StandsAt all number facts → AreOf types all scope word (numbers_in (declared_from scope (spelled word) number (facts_at types facts)))
are_of types all scope word number [] stands = tt
are_of types all scope word number (fact ∷ facts) stands = by (declares_in scope (spelled word) (fact_at types fact)) refl (are_of types all scope word (suc number) facts (stands_later all number fact facts stands))
  where
    one : declares_in scope (spelled word) (fact_at types fact) ≡ true → (other : Fact) → slice_get all number ≡ Some other → IsOf scope word (fact_at types other)
    one e other at =
        let same : fact ≡ other = (let p : Some fact ≡ Some other = sym (stands_first all number fact facts stands) ∙ at in cc) in
        subst (λ f. IsOf scope word (fact_at types f)) same (of_declared scope word (fact_at types fact) e)

    by : (t : Bool) → declares_in scope (spelled word) (fact_at types fact) ≡ t → AreOf types all scope word (numbers_in (declared_from scope (spelled word) (suc number) (facts_at types facts)))
        → AreOf types all scope word (numbers_in (cond t (record { number = number; fact = fact_at types fact } ∷ declared_from scope (spelled word) (suc number) (facts_at types facts)) (declared_from scope (spelled word) (suc number) (facts_at types facts))))
    by true e later = (one e, later)
    by false e later = later

-- two of one scope, name and role conflict with the same declarations
alike : (types : List CxxType) (graph : CxxGraph) (new : CxxFact) (scope : ℕ) (word : List ℕ) (m n : ℕ) (one two : Fact) (r : Role) → role_by m one.what ≡ Some r → role_by n two.what ≡ Some r → IsOf scope word (fact_at types one) → IsOf scope word (fact_at types two)
    → conflicts graph m (fact_at types one) new ≡ conflicts graph n (fact_at types two) new
alike types graph new scope word m n one two r p q a b =
    by_role types graph new m one r p
    ∙ ap (λ (s : ℕ). conflicts graph zero (record (with_what types one (sample r)) { scope = s }) new) (a.scope_is ∙ sym b.scope_is)
    ∙ ap (λ w. conflicts graph zero (record (with_what types one (sample r)) { scope = two.scope.0; name = w }) new) (a.name_is ∙ sym b.name_is)
    ∙ sym (by_role types graph new n two r q)

same_told : (one two : Option Role) → same_role one two ≡ true → (r : Role) × ((one ≡ Some r) × (two ≡ Some r))
same_told (Some one) (Some two) e = (two, (ap Some (role_told one two e), refl))
same_told (Some one) None e = absurd (cc)
same_told None two e = absurd (cc)

-- ---- what is left out

module _ (types : List CxxType) (facts : List Fact) (graph : CxxGraph) (new : CxxFact) (scope : ℕ) (word : List ℕ) where
  abbrev first_in : List FactId → Option ℕ
  first_in numbers = conflict_in graph new (looked_up types facts numbers)

  abbrev Are : List FactId → Type 0
  Are numbers = AreOf types facts scope word numbers

  are_append : (xs ys : List FactId) → Are xs → Are ys → Are (xs ++ ys)
  are_append [] ys a b = b
  are_append (x ∷ xs) ys a b = (a.0, are_append xs ys a.1 b)

  -- a declaration that does not conflict may be left out
  without : (number : FactId) (fact : Fact) (xs ys : List FactId) → slice_get facts number.0 ≡ Some fact → conflicts graph number.0 (fact_at types fact) new ≡ false → first_in (xs ++ number ∷ ys) ≡ first_in (xs ++ ys)
  without number fact [] ys at free = ap (λ o. conflict_in graph new (seen_by types number (looked_up types facts ys) o)) at ∙ ap (λ t. cond t (Some number.0) (first_in ys)) free
  without number fact (x ∷ xs) ys at free = by (slice_get facts x.0) (without number fact xs ys at free)
    where
      by : (o : Option Fact) → first_in (xs ++ number ∷ ys) ≡ first_in (xs ++ ys) → conflict_in graph new (seen_by types x (looked_up types facts (xs ++ number ∷ ys)) o) ≡ conflict_in graph new (seen_by types x (looked_up types facts (xs ++ ys)) o)
      by None ih = ih
      by (Some one) ih = ap (λ o. cond (conflicts graph x.0 (fact_at types one) new) (Some x.0) o) ih

  -- so may one with the role of an earlier one
  repeated : (number : FactId) (xs ys : List FactId) → Are xs → Are (number ∷ []) → has_role facts xs (role_in facts number) ≡ true → first_in (xs ++ number ∷ ys) ≡ first_in (xs ++ ys)
  repeated number [] ys a b e = absurd (cc)
  repeated number (x ∷ xs) ys a b e = by (slice_get facts x.0) (slice_get facts number.0) refl refl e (repeated number xs ys a.1 b)
    where
      Goal : Option Fact → Type 0
      Goal o = conflict_in graph new (seen_by types x (looked_up types facts (xs ++ number ∷ ys)) o) ≡ conflict_in graph new (seen_by types x (looked_up types facts (xs ++ ys)) o)

      later : (one : Fact) → first_in (xs ++ number ∷ ys) ≡ first_in (xs ++ ys) → Goal (Some one)
      later one p = ap (λ o. cond (conflicts graph x.0 (fact_at types one) new) (Some x.0) o) p

      here : (one two : Fact) (t : Bool) → conflicts graph x.0 (fact_at types one) new ≡ t → conflicts graph x.0 (fact_at types one) new ≡ conflicts graph number.0 (fact_at types two) new → slice_get facts number.0 ≡ Some two → Goal (Some one)
      here one two true c same at = ap (λ t. cond t (Some x.0) (first_in (xs ++ number ∷ ys))) c ∙ sym (ap (λ t. cond t (Some x.0) (first_in (xs ++ ys))) c)
      here one two false c same at = later one (without number two xs ys at (sym same ∙ c))

      found : (one two : Fact) (t : Bool) → same_role (role_by x.0 one.what) (role_by number.0 two.what) ≡ t → slice_get facts x.0 ≡ Some one → slice_get facts number.0 ≡ Some two → (t || has_role facts xs (role_by number.0 two.what)) ≡ true
          → (has_role facts xs (role_by number.0 two.what) ≡ true → first_in (xs ++ number ∷ ys) ≡ first_in (xs ++ ys)) → Goal (Some one)
      found one two true s p q any rest =
          let r = same_told (role_by x.0 one.what) (role_by number.0 two.what) s in
          here one two (conflicts graph x.0 (fact_at types one) new) refl (alike types graph new scope word x.0 number.0 one two r.0 r.1.0 r.1.1 (a.0 one p) (b.0 two q)) q
      found one two false s p q any rest = later one (rest any)

      nowhere : (ys : List FactId) → has_role facts ys None ≡ false
      nowhere [] = refl
      nowhere (y ∷ ys) = none (role_in facts y) (nowhere ys)
        where
          none : (o : Option Role) → has_role facts ys None ≡ false → (same_role o None || has_role facts ys None) ≡ false
          none None e = e
          none (Some r) e = e

      by : (o p : Option Fact) → slice_get facts x.0 ≡ o → slice_get facts number.0 ≡ p → (same_role (role_there x.0 o) (role_there number.0 p) || has_role facts xs (role_there number.0 p)) ≡ true → (has_role facts xs (role_there number.0 p) ≡ true → first_in (xs ++ number ∷ ys) ≡ first_in (xs ++ ys)) → Goal o
      by None None f g any rest = rest any
      by None (Some two) f g any rest = rest any
      by (Some one) None f g any rest = absurd (let n = nowhere xs in let m = nowhere (x ∷ []) in cc)
      by (Some one) (Some two) f g any rest = found one two (same_role (role_by x.0 one.what) (role_by number.0 two.what)) refl f g any rest

  chosen_same : (chosen numbers : List FactId) → Are chosen → Are numbers → first_in (representatives facts chosen numbers) ≡ first_in (chosen ++ numbers)
  chosen_same chosen [] a b = ap first_in (sym (append-nil chosen))
  chosen_same chosen (number ∷ numbers) a b = by (has_role facts chosen (role_in facts number)) refl (λ taken is. chosen_same taken numbers is b.1)
    where
      by : (t : Bool) → has_role facts chosen (role_in facts number) ≡ t → ((taken : List FactId) → Are taken → first_in (representatives facts taken numbers) ≡ first_in (taken ++ numbers))
          → first_in (representatives facts (cond t chosen (chosen ++ number ∷ [])) numbers) ≡ first_in (chosen ++ number ∷ numbers)
      by true e rest = rest chosen a ∙ sym (repeated number chosen numbers a (b.0, tt) e)
      by false e rest = rest (chosen ++ number ∷ []) (are_append chosen (number ∷ []) a (b.0, tt)) ∙ ap first_in (append_assoc chosen (number ∷ []) numbers)

-- the first conflict with the representatives of the declarations of a name in a scope is the first one with all of them
pub first_of_all : (types : List CxxType) (graph : Graph) (new : CxxFact) (scope : ScopeId) (word : List ℕ) (numbers : List FactId) → numbers ≡ numbers_in (declared_from scope.0 (spelled word) zero (facts_at types graph.facts))
    → conflict_in (graph_at types graph) new (looked_up types graph.facts (representatives graph.facts [] numbers)) ≡ conflict_in (graph_at types graph) new (declared_in (graph_at types graph) scope.0 (spelled word))
first_of_all types graph new scope word numbers e =
    chosen_same types graph.facts (graph_at types graph) new scope.0 word [] numbers tt (subst (AreOf types graph.facts scope.0 word) (sym e) (are_of types graph.facts scope.0 word zero graph.facts stands))
    ∙ ap (conflict_in (graph_at types graph) new) (declared_looked types graph scope.0 (spelled word) numbers e)
  where
    stands : StandsAt graph.facts zero graph.facts
    stands i = let n : zero + i ≡ i = omega arith in ap (λ k. slice_get graph.facts k) n

row_there : (names : Names) (facts : List Fact) → Notes names facts → (scope : ScopeId) (o : Option ℕ) → numbered_row names.representatives.rows.entries scope o ≡ representatives facts [] (numbered_row names.words.rows.rows.entries scope o)
row_there names facts notes scope None = refl
row_there names facts notes scope (Some n) = notes.representatives (record { scope = scope; number = n })

-- the same with what is filed under a word
pub first_of_row : (types : List CxxType) (graph : Graph) (new : CxxFact) (names : Names) (scope : ScopeId) (word : List ℕ) (met : Option ℕ) (numbers : List FactId) → Notes names graph.facts
    → met ≡ number_among names.words.spellings.keys word → numbers ≡ numbered_row names.representatives.rows.entries scope met
    → conflict_in (graph_at types graph) new (looked_up types graph.facts numbers) ≡ conflict_in (graph_at types graph) new (declared_in (graph_at types graph) scope.0 (spelled word))
first_of_row types graph new names scope word met numbers notes e f =
    ap (λ ns. conflict_in (graph_at types graph) new (looked_up types graph.facts ns)) (f ∙ ap (numbered_row names.representatives.rows.entries scope) e ∙ row_there names graph.facts notes scope (number_among names.words.spellings.keys word))
    ∙ first_of_all types graph new scope word (word_row names.words scope word) (notes.words scope word types)

-- ---- one more declaration

is_below : (count : ℕ) (numbers : List FactId) (number : FactId) → AreBelow count numbers → number.0 < suc count → AreBelow (suc count) (numbers ++ number ∷ [])
is_below count [] number below lt = (lt, tt)
is_below count (n ∷ numbers) number below lt = (omega (arith, below.0), is_below count numbers number below.1 lt)

still_below : (count : ℕ) (numbers : List FactId) → AreBelow count numbers → AreBelow (suc count) numbers
still_below count [] below = tt
still_below count (n ∷ numbers) below = (omega (arith, below.0), still_below count numbers below.1)

below_one : (count : ℕ) (numbers : List FactId) (number : FactId) → AreBelow count numbers → number.0 < count → AreBelow count (numbers ++ number ∷ [])
below_one count [] number below lt = (lt, tt)
below_one count (n ∷ numbers) number below lt = (below.0, below_one count numbers number below.1 lt)

longer : (facts : List Fact) (fact : Fact) → length (facts ++ fact ∷ []) ≡ suc (length facts)
longer [] fact = refl
longer (one ∷ facts) fact = ap suc (longer facts fact)

stored : (facts : List Fact) (fact : Fact) (n : ℕ) → n < length facts → slice_get (facts ++ fact ∷ []) n ≡ slice_get facts n
stored [] fact n lt = absurd (omega arith)
stored (one ∷ facts) fact zero lt = refl
stored (one ∷ facts) fact (suc n) lt = stored facts fact n (omega (arith, lt))

stored_last : (facts : List Fact) (fact : Fact) → slice_get (facts ++ fact ∷ []) (length facts) ≡ Some fact
stored_last [] fact = refl
stored_last (one ∷ facts) fact = stored_last facts fact

module _ (facts : List Fact) (fact : Fact) where
  abbrev more : List Fact
  more = facts ++ fact ∷ []

  role_kept : (number : FactId) → number.0 < length facts → role_in more number ≡ role_in facts number
  role_kept number lt = ap (role_there number.0) (stored facts fact number.0 lt)

  role_last : (number : FactId) → number.0 ≡ length facts → role_in more number ≡ role_by number.0 fact.what
  role_last number e = ap (role_there number.0) (ap (slice_get more) e ∙ stored_last facts fact)

  has_kept : (numbers : List FactId) (r : Option Role) → AreBelow (length facts) numbers → has_role more numbers r ≡ has_role facts numbers r
  has_kept [] r below = refl
  has_kept (number ∷ numbers) r below = ap (λ o. same_role o r || has_role more numbers r) (role_kept number below.0) ∙ ap (λ t. same_role (role_in facts number) r || t) (has_kept numbers r below.1)

  chosen_kept : (chosen numbers : List FactId) → AreBelow (length facts) chosen → AreBelow (length facts) numbers → representatives more chosen numbers ≡ representatives facts chosen numbers
  chosen_kept chosen [] a b = refl
  chosen_kept chosen (number ∷ numbers) a b =
      ap (λ o. representatives more (cond (has_role more chosen o) chosen (chosen ++ number ∷ [])) numbers) (role_kept number b.0)
      ∙ ap (λ t. representatives more (cond t chosen (chosen ++ number ∷ [])) numbers) (has_kept chosen (role_in facts number) a)
      ∙ by (has_role facts chosen (role_in facts number)) (λ taken is. chosen_kept taken numbers is b.1)
    where
      by : (t : Bool) → ((taken : List FactId) → AreBelow (length facts) taken → representatives more taken numbers ≡ representatives facts taken numbers)
          → representatives more (cond t chosen (chosen ++ number ∷ [])) numbers ≡ representatives facts (cond t chosen (chosen ++ number ∷ [])) numbers
      by true rest = rest chosen a
      by false rest = rest (chosen ++ number ∷ []) (below_one (length facts) chosen number a b.0)

  chosen_below : (chosen numbers : List FactId) → AreBelow (length facts) chosen → AreBelow (length facts) numbers → AreBelow (length facts) (representatives facts chosen numbers)
  chosen_below chosen [] a b = a
  chosen_below chosen (number ∷ numbers) a b = by (has_role facts chosen (role_in facts number)) (λ taken is. chosen_below taken numbers is b.1)
    where
      by : (t : Bool) → ((taken : List FactId) → AreBelow (length facts) taken → AreBelow (length facts) (representatives facts taken numbers)) → AreBelow (length facts) (representatives facts (cond t chosen (chosen ++ number ∷ [])) numbers)
      by true rest = rest chosen a
      by false rest = rest (chosen ++ number ∷ []) (below_one (length facts) chosen number a b.0)

  chosen_last : (chosen numbers : List FactId) (number : FactId) → representatives more chosen (numbers ++ number ∷ []) ≡ with_one more (representatives more chosen numbers) number
  chosen_last chosen [] number = refl
  chosen_last chosen (n ∷ numbers) number = chosen_last (with_one more chosen n) numbers number

  -- of a row with one more
  one_more : (row : List FactId) (number : FactId) → number.0 ≡ length facts → AreBelow (length facts) row
      → representatives more [] (row ++ number ∷ []) ≡ cond (has_role facts (representatives facts [] row) (role_by number.0 fact.what)) (representatives facts [] row) (representatives facts [] row ++ number ∷ [])
  one_more row number n below =
      chosen_last [] row number
      ∙ ap (λ ns. with_one more ns number) (chosen_kept [] row tt below)
      ∙ ap (λ o. cond (has_role more (representatives facts [] row) o) (representatives facts [] row) (representatives facts [] row ++ number ∷ [])) (role_last number n)
      ∙ ap (λ t. cond t (representatives facts [] row) (representatives facts [] row ++ number ∷ [])) (has_kept (representatives facts [] row) (role_by number.0 fact.what) (chosen_below [] row tt below))

-- what is filed under spellings that are the same
alike_row : (entries : List (Spelling × Vec FactId)) (one two : Spelling) → same_spelling one two ≡ true → row same_spelling entries one ≡ row same_spelling entries two
alike_row entries one two e =
    let p = both_true (nat_eq one.scope.0 two.scope.0) (nat_eq one.number two.number) e in
    ap (λ (s : ℕ). at s one.number) (eqb-true one.scope.0 two.scope.0 p.0) ∙ ap (λ (n : ℕ). at two.scope.0 n) (eqb-true one.number two.number p.1)
  where
    at : ℕ → ℕ → List FactId
    at s n = those_in (lookup (λ k. nat_eq s k.scope.0 && nat_eq n k.number) entries)

abbrev Rows : Type 0
Rows = List (Spelling × Vec FactId)

abbrev AreSampled : List Fact → Rows → Rows → Type 0
AreSampled facts rows chosen = (key : Spelling) → row same_spelling chosen key ≡ representatives facts [] (row same_spelling rows key)

abbrev AreRowsBelow : List Fact → Rows → Type 0
AreRowsBelow facts rows = (key : Spelling) → AreBelow (length facts) (row same_spelling rows key)

module _ (facts : List Fact) (fact : Fact) (number : FactId) (n : number.0 ≡ length facts) (old new : Rows) (below : AreRowsBelow facts old) where
  pub below_noted : (name : Option Spelling) → IsMoreBy same_spelling old new (filed_by number name) → AreRowsBelow (facts ++ fact ∷ []) new
  below_noted None same key = subst (λ (k : ℕ). AreBelow k (row same_spelling new key)) (sym (longer facts fact)) (subst (AreBelow (suc (length facts))) (sym (same key)) (still_below (length facts) (row same_spelling old key) (below key)))
  below_noted (Some name) filed key = subst (λ (k : ℕ). AreBelow k (row same_spelling new key)) (sym (longer facts fact)) (subst (AreBelow (suc (length facts))) (sym (filed key)) (by (same_spelling name key)))
    where
      by : (t : Bool) → AreBelow (suc (length facts)) (cond t (row same_spelling old name ++ number ∷ []) (row same_spelling old key))
      by true = is_below (length facts) (row same_spelling old name) number (below name) (omega (arith, n))
      by false = still_below (length facts) (row same_spelling old key) (below key)

  module _ (before after : Rows) (sampled : AreSampled facts old before) where
    as_before : (key : Spelling) → row same_spelling new key ≡ row same_spelling old key → row same_spelling after key ≡ row same_spelling before key → row same_spelling after key ≡ representatives (facts ++ fact ∷ []) [] (row same_spelling new key)
    as_before key e f = f ∙ (sampled key ∙ (sym (chosen_kept facts fact [] (row same_spelling old key) tt (below key)) ∙ ap (representatives (facts ++ fact ∷ []) []) (sym e)))

    pub sampled_noted : (name : Option Spelling) → IsMoreBy same_spelling old new (filed_by number name) → IsMoreBy same_spelling before after (representative_by facts before (role_by number.0 fact.what) number name) → AreSampled (facts ++ fact ∷ []) new after
    sampled_noted None same kept key = as_before key (same key) (kept key)
    sampled_noted (Some name) filed kept key = by (has_role facts (row same_spelling before name) (role_by number.0 fact.what)) refl (same_spelling name key) refl kept
      where
        held : has_role facts (representatives facts [] (row same_spelling old name)) (role_by number.0 fact.what) ≡ has_role facts (row same_spelling before name) (role_by number.0 fact.what)
        held = ap (λ ns. has_role facts ns (role_by number.0 fact.what)) (sym (sampled name))

        here : (h : Bool) → has_role facts (row same_spelling before name) (role_by number.0 fact.what) ≡ h → same_spelling name key ≡ true → representatives (facts ++ fact ∷ []) [] (row same_spelling new key) ≡ cond h (row same_spelling before name) (row same_spelling before name ++ number ∷ [])
        here h e t =
            ap (representatives (facts ++ fact ∷ []) []) (filed key ∙ ap (λ b. cond b (row same_spelling old name ++ number ∷ []) (row same_spelling old key)) t)
            ∙ one_more facts fact (row same_spelling old name) number n (below name)
            ∙ ap (λ b. cond b (representatives facts [] (row same_spelling old name)) (representatives facts [] (row same_spelling old name) ++ number ∷ [])) (held ∙ e)
            ∙ ap (λ ns. cond h ns (ns ++ number ∷ [])) (sym (sampled name))

        elsewhere : same_spelling name key ≡ false → row same_spelling new key ≡ row same_spelling old key
        elsewhere t = filed key ∙ ap (λ b. cond b (row same_spelling old name ++ number ∷ []) (row same_spelling old key)) t

        by : (h : Bool) → has_role facts (row same_spelling before name) (role_by number.0 fact.what) ≡ h → (t : Bool) → same_spelling name key ≡ t → IsMoreBy same_spelling before after (cond h None (Some (name, number)))
            → row same_spelling after key ≡ representatives (facts ++ fact ∷ []) [] (row same_spelling new key)
        by true e true t same = same key ∙ (sym (alike_row before name key t) ∙ sym (here true e t))
        by false e true t more = more key ∙ (ap (λ b. cond b (row same_spelling before name ++ number ∷ []) (row same_spelling before key)) t ∙ sym (here false e t))
        by true e false t same = as_before key (elsewhere t) (same key)
        by false e false t more = as_before key (elsewhere t) (more key ∙ ap (λ b. cond b (row same_spelling before name ++ number ∷ []) (row same_spelling before key)) t)
