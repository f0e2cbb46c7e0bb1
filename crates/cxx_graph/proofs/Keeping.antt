-- What one more fact changes of what is kept.
use Rattle.std.specs.Prelude.{ℕ, ℤ, suc, ◌≡◌, ◌+◌, ◌&&◌, Bool, true, false, if◌then◌else◌, List, [], ◌∷◌, ◌++◌, length, nat_eq, refl}
use Rattle.std.specs.List.{list_all}
use Rattle.std.proofs.Common.{ap, sym, subst, ◌∙◌, arith, append_assoc}
use Rattle.std.proofs.lemmas.Bool.{eqb-true, eq-eqb}
use Rattle.cxx_model.specs.declared.base.Base.{Base}
use Rattle.cxx_model.specs.declared.base.Base.TheVariants as base
use Rattle.cxx_model.specs.declared.facts.Entity.{Entity}
use Rattle.cxx_model.specs.declared.facts.Entity.TheVariants as entity
use Rattle.cxx_model.specs.declared.facts.Fact.{Fact}
use Rattle.cxx_model.specs.declared.types.EnumId.{EnumId}
use Rattle.cxx_model.specs.declared.types.FactId.{FactId}
use Rattle.cxx_model.specs.Facts.Graph.{values_of}
use Rattle.cxx_model.specs.Types.Integral.{holds, one_holds}
use Rattle.cxx_graph.specs.declared.promotion.Holders.{Holders}
use Rattle.cxx_graph.specs.Kept.{AreSameHolders, HasBase, HasValue, IsKept, holders_at, holders_of, with_value}
use Rattle.cxx_graph.specs.Numbered.{is_ancestor_of, is_in_scope, numbers_from, numbers_of}
use Rattle.cxx_graph.specs.Rows.{row_at, AreSameRows, IsRowMore}

-- ---- numbers of facts

numbers-passed : (n : ℕ) (test : Fact → Bool) (facts : List Fact) (fact : Fact) → test fact ≡ true → numbers_from n test (facts ++ fact ∷ []) ≡ numbers_from n test facts ++ record { 0 = n + length facts } ∷ []
numbers-passed n test [] fact passes = ap (λ b. if b then record { 0 = n } ∷ [] else []) passes ∙ ap (λ (m : ℕ). let number : FactId = record { 0 = m } in number ∷ []) (omega arith)
numbers-passed n test (x ∷ xs) fact passes =
    let moved : numbers_from (suc n) test xs ++ record { 0 = suc n + length xs } ∷ [] ≡ numbers_from (suc n) test xs ++ record { 0 = n + suc (length xs) } ∷ [] = ap (λ (m : ℕ). let number : FactId = record { 0 = m } in numbers_from (suc n) test xs ++ number ∷ []) (omega arith) in
    by (test x) (numbers-passed (suc n) test xs fact passes ∙ moved)
  where
    by : (b : Bool) → numbers_from (suc n) test (xs ++ fact ∷ []) ≡ numbers_from (suc n) test xs ++ record { 0 = n + suc (length xs) } ∷ [] → (if b then record { 0 = n } ∷ numbers_from (suc n) test (xs ++ fact ∷ []) else numbers_from (suc n) test (xs ++ fact ∷ [])) ≡ (if b then record { 0 = n } ∷ numbers_from (suc n) test xs else numbers_from (suc n) test xs) ++ record { 0 = n + suc (length xs) } ∷ []
    by true rest = ap (λ (ns : List FactId). let first : FactId = record { 0 = n } in first ∷ ns) rest
    by false rest = rest

numbers-failed : (n : ℕ) (test : Fact → Bool) (facts : List Fact) (fact : Fact) → test fact ≡ false → numbers_from n test (facts ++ fact ∷ []) ≡ numbers_from n test facts
numbers-failed n test [] fact fails = ap (λ b. if b then record { 0 = n } ∷ [] else []) fails
numbers-failed n test (x ∷ xs) fact fails =
    ap (λ (ns : List FactId). if test x then record { 0 = n } ∷ ns else ns) (numbers-failed (suc n) test xs fact fails)

-- a row that grew is that of the numbers with one more
row-passed : (facts : List Fact) (fact : Fact) (old new : List (List FactId)) (test : Fact → Bool) (n : ℕ) (number : FactId) → number.0 ≡ length facts → test fact ≡ true → row_at new n ≡ row_at old n ++ number ∷ [] → row_at old n ≡ numbers_of test facts → row_at new n ≡ numbers_of test (facts ++ fact ∷ [])
row-passed facts fact old new test n number is passes more so =
    let last : number ≡ record { 0 = 0 + length facts } = ap (λ (m : ℕ). let one : FactId = record { 0 = m } in one) (is ∙ omega arith) in
    more ∙ ap (λ (ns : List FactId). ns ++ number ∷ []) so ∙ ap (λ (one : FactId). numbers_of test facts ++ one ∷ []) last ∙ sym (numbers-passed 0 test facts fact passes)

rows-more : (facts : List Fact) (fact : Fact) (old new : List (List FactId)) (tests : ℕ → Fact → Bool) (m : ℕ) (number : FactId) → number.0 ≡ length facts → ((n : ℕ) → tests n fact ≡ nat_eq m n) → IsRowMore old new m number → ((n : ℕ) → row_at old n ≡ numbers_of (tests n) facts) → (n : ℕ) → row_at new n ≡ numbers_of (tests n) (facts ++ fact ∷ [])
rows-more facts fact old new tests m number is told more so n = by (nat_eq m n) refl
  where
    by : (b : Bool) → nat_eq m n ≡ b → row_at new n ≡ numbers_of (tests n) (facts ++ fact ∷ [])
    by true e =
        let same : m ≡ n = eqb-true m n e in
        row-passed facts fact old new (tests n) n number is (told n ∙ e) (subst (λ (k : ℕ). row_at new k ≡ row_at old k ++ number ∷ []) same more.here) (so n)
    by false e = more.others n (λ same. (let wrong : true ≡ false = sym (eq-eqb m n (sym same)) ∙ e in cc)) ∙ so n ∙ sym (numbers-failed 0 (tests n) facts fact (told n ∙ e))

rows-same : (facts : List Fact) (fact : Fact) (old new : List (List FactId)) (tests : ℕ → Fact → Bool) → ((n : ℕ) → tests n fact ≡ false) → AreSameRows old new → ((n : ℕ) → row_at old n ≡ numbers_of (tests n) facts) → (n : ℕ) → row_at new n ≡ numbers_of (tests n) (facts ++ fact ∷ [])
rows-same facts fact old new tests none same so n = same n ∙ so n ∙ sym (numbers-failed 0 (tests n) facts fact (none n))

-- ---- bases

-- the fact, with what it declares
abbrev declaring : Fact → Entity → Fact
declaring fact what = record fact { what = what }

bases-by : (facts : List Fact) (fact : Fact) (what : Entity) (old new : List (List FactId)) (number : FactId) → number.0 ≡ length facts → HasBase old new what number → ((n : ℕ) → row_at old n ≡ numbers_of (is_ancestor_of n) facts) → (n : ℕ) → row_at new n ≡ numbers_of (is_ancestor_of n) (facts ++ declaring fact what ∷ [])
bases-by facts fact (entity.Ancestor class parent index access) old new number is more so = rows-more facts (declaring fact (entity.Ancestor class parent index access)) old new is_ancestor_of class.0 number is (λ n. refl) more so
bases-by facts fact what old new number is same so = rows-same facts (declaring fact what) old new is_ancestor_of (λ n. refl) same so

-- ---- values of enumerations

regrouped : (a b c d : List ℤ) → b ≡ c ++ d → a ++ b ≡ (a ++ c) ++ d
regrouped a b c d e = ap (λ z. a ++ z) e ∙ sym (append_assoc a c d)

values-last : (facts : List Fact) (fact : Fact) (n : ℕ) → values_of (facts ++ fact ∷ []) n ≡ values_of facts n ++ values_of (fact ∷ []) n
values-last [] fact n = refl
values-last (x ∷ xs) fact n = regrouped _ (values_of (xs ++ fact ∷ []) n) (values_of xs n) (values_of (fact ∷ []) n) (values-last xs fact n)

and-true : (b : Bool) → (b && true) ≡ b
and-true true = refl
and-true false = refl

and-grouped : (a b c : Bool) → (a && (b && c)) ≡ ((a && b) && c)
and-grouped true b c = refl
and-grouped false b c = refl

holds-last : (test : ℤ → Bool) (values : List ℤ) (value : ℤ) → list_all test (values ++ value ∷ []) ≡ (list_all test values && test value)
holds-last test [] value = and-true (test value)
holds-last test (v ∷ vs) value = ap (λ b. test v && b) (holds-last test vs value) ∙ and-grouped (test v) (list_all test vs) (test value)

holders-last : (values : List ℤ) (value : ℤ) → holders_of (values ++ value ∷ []) ≡ with_value (holders_of values) value
holders-last values value =
    let whole : Bool → Bool → Bool → Bool → Holders = λ a b c d. record { int = a; unsigned = b; long = c; unsigned_long = d } in
    let all : Base → Bool = λ of. list_all (holds of) (values ++ value ∷ []) in
    let one : Base → Bool = λ of. list_all (holds of) values && holds of value in
    ap (λ a. whole a (all base.Unsigned) (all base.Long) (all base.UnsignedLong)) (holds-last (holds base.Int) values value)
    ∙ ap (λ b. whole (one base.Int) b (all base.Long) (all base.UnsignedLong)) (holds-last (holds base.Unsigned) values value)
    ∙ ap (λ c. whole (one base.Int) (one base.Unsigned) c (all base.UnsignedLong)) (holds-last (holds base.Long) values value)
    ∙ ap (whole (one base.Int) (one base.Unsigned) (one base.Long)) (holds-last (holds base.UnsignedLong) values value)

-- one type holds the values of an enumeration and one more
pub one_more_holds : (seen facts : List Fact) (number : ℕ) (value : ℤ) (held more : Holders) (result : Bool) → seen ≡ facts → held ≡ holders_of (values_of facts number) → more ≡ with_value held value → ((values : List ℤ) → more ≡ holders_of values → result ≡ one_holds values) → result ≡ one_holds (values_of seen number ++ value ∷ [])
one_more_holds seen facts number value held more result same is one any =
    any (values_of facts number ++ value ∷ []) (one ∙ ap (λ (h : Holders). with_value h value) is ∙ sym (holders-last (values_of facts number) value))
    ∙ ap (λ (all : List Fact). one_holds (values_of all number ++ value ∷ [])) (sym same)

nil-last : (xs : List ℤ) → xs ++ [] ≡ xs
nil-last [] = refl
nil-last (x ∷ xs) = ap (λ z. x ∷ z) (nil-last xs)

value-here : (fact : Fact) (number : EnumId) (value : ℤ) (n : ℕ) → nat_eq number.0 n ≡ true → values_of (declaring fact (entity.Enumerator number value) ∷ []) n ≡ value ∷ []
value-here fact number value n e = rw e refl

value-elsewhere : (fact : Fact) (number : EnumId) (value : ℤ) (n : ℕ) → nat_eq number.0 n ≡ false → values_of (declaring fact (entity.Enumerator number value) ∷ []) n ≡ []
value-elsewhere fact number value n e = rw e refl

holders-same : (facts : List Fact) (fact : Fact) (n : ℕ) (old new : List Holders) → values_of (fact ∷ []) n ≡ [] → holders_at new n ≡ holders_at old n → holders_at old n ≡ holders_of (values_of facts n) → holders_at new n ≡ holders_of (values_of (facts ++ fact ∷ []) n)
holders-same facts fact n old new none same so = same ∙ so ∙ sym (ap holders_of (values-last facts fact n ∙ ap (λ z. values_of facts n ++ z) none ∙ nil-last (values_of facts n)))

holders-by : (facts : List Fact) (fact : Fact) (what : Entity) (old new : List Holders) → HasValue old new what → ((n : ℕ) → holders_at old n ≡ holders_of (values_of facts n)) → (n : ℕ) → holders_at new n ≡ holders_of (values_of (facts ++ declaring fact what ∷ []) n)
holders-by facts fact (entity.Enumerator number value) old new more so n = by (nat_eq number.0 n) refl
  where
    by : (b : Bool) → nat_eq number.0 n ≡ b → holders_at new n ≡ holders_of (values_of (facts ++ declaring fact (entity.Enumerator number value) ∷ []) n)
    by true e =
        let same : number.0 ≡ n = eqb-true number.0 n e in
        subst (λ (k : ℕ). holders_at new k ≡ with_value (holders_at old k) value) same more.here ∙ ap (λ (h : Holders). with_value h value) (so n) ∙ sym (holders-last (values_of facts n) value)
        ∙ sym (ap holders_of (values-last facts (declaring fact (entity.Enumerator number value)) n ∙ ap (λ z. values_of facts n ++ z) (value-here fact number value n e)))
    by false e = holders-same facts (declaring fact (entity.Enumerator number value)) n old new (value-elsewhere fact number value n e) (more.others n (λ same. (let wrong : true ≡ false = sym (eq-eqb number.0 n (sym same)) ∙ e in cc))) (so n)
holders-by facts fact what old new same so n = holders-same facts (declaring fact what) n old new refl (same n) (so n)

-- ---- all of it

pub kept_more : (facts : List Fact) (fact : Fact) (members members' bases bases' : List (List FactId)) (holders placed holders' : List Holders) (number : FactId) → IsKept facts members bases holders → number.0 ≡ length facts → AreSameHolders holders placed → HasBase bases bases' fact.what number → IsRowMore members members' fact.scope.0 number → HasValue placed holders' fact.what → IsKept (facts ++ fact ∷ []) members' bases' holders'
kept_more facts fact members members' bases bases' holders placed holders' number so is same base member value = record {
  of_scopes = rows-more facts fact members members' is_in_scope fact.scope.0 number is (λ n. refl) member so.of_scopes;
  of_classes = bases-by facts fact fact.what bases bases' number is base so.of_classes;
  of_enumerations = holders-by facts fact fact.what placed holders' value (λ n. same n ∙ so.of_enumerations n);
}
