-- The words of enumerations, by the declarations of their enumerators.
use Rattle.std.proofs.Common.{◌≡◌, ℕ, suc, ◌+◌, Bool, true, false, eqb, cond, List, [], ◌∷◌, ◌++◌, map, Option, Some, None, option_map, refl, ap, sym, ◌∙◌, add-one, arith}
use Rattle.std.specs.Prelude.{ℤ, pos}
use Rattle.std.specs.List.{slice_get}
use Rattle.cxx_model.specs.declared.facts.Access.{Access}
use Rattle.cxx_model.specs.declared.facts.Fact.{Fact}
use Rattle.cxx_model.specs.declared.place.Place.{Place}
use Rattle.cxx_model.specs.declared.types.FactId.{FactId}
use Rattle.cxx_model.specs.Facts.Declarations as facts
use Rattle.cxx_model.specs.Facts.Declarations.{declares_at, fact_at, CxxFact, CxxName, Declares}
use Rattle.cxx_meaning.specs.Lookups.Gathered.{before, gathered}
use Rattle.cxx_reading.specs.Plain.{enumeration_words, enumerator_words, value_in, values_from}
use Rattle.cxx_reading.specs.Words.{Word}
use Rattle.cxx_tree.specs.Held.{Held}
use Rattle.cxx_form.specs.declared.book.Book.{Book}
use Rattle.cxx_form.specs.Books.{facts_of, names_of, IsBook}
use Rattle.cxx_form.specs.Giving.{enumerator_given, holder_by, if_held}
use Rattle.cxx_phrase_text.specs.Listed.{listed_words}
use Rattle.cxx_form.specs.Parts.{enumeration_end, enumeration_front, enumeration_parts, enumerator_at, value_by, value_found}
use Rattle.cxx_form.specs.Rows.{row_at}
use Rattle.cxx_form.specs.Views.{facts_in}
use Rattle.cxx_form.proofs.Gathering.{fact_is}
use Rattle.cxx_phrase_text.proofs.Listing.{all_listed}

pub value_is : (held : Held) (number : ℕ) (fact : Fact) → Some fact ≡ slice_get held.graph.facts number → value_by (declares_at held.types fact.what) ≡ value_found (slice_get (facts_in held) number)
value_is held number fact is = sym (ap value_found (fact_is held.types held.graph.facts number ∙ ap (option_map (fact_at held.types)) (sym is)))

pub no_value : (held : Held) (number : ℕ) → None ≡ slice_get held.graph.facts number → pos 0 ≡ value_found (slice_get (facts_in held) number)
no_value held number is = sym (ap value_found (fact_is held.types held.graph.facts number ∙ ap (option_map (fact_at held.types)) (sym is)))

one_value : (book : Book) (number : ℕ) (value : ℤ) (found : Option CxxFact) (others : List (List Word)) (t : Bool) → slice_get (facts_of book) number ≡ found → value_found found ≡ value → map (enumerator_words (names_of book)) (cond t ((number, value) ∷ []) []) ++ others ≡ map (enumerator_at book) (before (cond t (Some (record { 0 = number })) None) []) ++ others
unfolding enumerator_at
one_value book number value found others true at is = ap (λ (v : ℤ). enumerator_words (names_of book) (number, v) ∷ others) (sym (ap value_found at ∙ is))
one_value book number value found others false at is = refl

first_value : (book : Book) (n number : ℕ) (place : Place) (scope : ℕ) (name : CxxName) (rights : Access) (what : Declares) (others : List (List Word)) → slice_get (facts_of book) number ≡ Some (record { place = place; scope = scope; name = name; access = rights; what = what }) → map (enumerator_words (names_of book)) (value_in n number (record { place = place; scope = scope; name = name; access = rights; what = what })) ++ others ≡ map (enumerator_at book) (before (if_held n number (holder_by what)) []) ++ others
first_value book n number place scope name rights (facts.scope parent kind) others at = refl
first_value book n number place scope name rights (facts.object of member is_mutable value first) others at = refl
first_value book n number place scope name rights (facts.function of member flags defaults first) others at = refl
first_value book n number place scope name rights (facts.template template member defaults is_explicit first) others at = refl
first_value book n number place scope name rights (facts.value_parameter depth index of) others at = refl
first_value book n number place scope name rights (facts.injected class) others at = refl
first_value book n number place scope name rights (facts.class class is_union) others at = refl
first_value book n number place scope name rights (facts.complete class) others at = refl
first_value book n number place scope name rights (facts.passed class) others at = refl
first_value book n number place scope name rights (facts.ancestor class parent index access) others at = refl
first_value book n number place scope name rights (facts.enumeration m) others at = refl
first_value book n number place scope name rights (facts.enumerator m value) others at = one_value book number value (Some (record { place = place; scope = scope; name = name; access = rights; what = facts.enumerator m value })) others (eqb m n) at refl
first_value book n number place scope name rights (facts.synonym of) others at = refl
first_value book n number place scope name rights (facts.namespace inner) others at = refl
first_value book n number place scope name rights (facts.directive nominated) others at = refl
first_value book n number place scope name rights (facts.using target) others at = refl
first_value book n number place scope name rights (facts.friend class target) others at = refl

before_map : (book : Book) (o : Option FactId) (xs : List FactId) → map (enumerator_at book) (before o []) ++ map (enumerator_at book) xs ≡ map (enumerator_at book) (before o xs)
before_map book None xs = refl
before_map book (Some x) xs = refl

map_both : (book : Book) (ones twos : List (ℕ × ℤ)) → map (enumerator_words (names_of book)) (ones ++ twos) ≡ map (enumerator_words (names_of book)) ones ++ map (enumerator_words (names_of book)) twos
map_both book [] twos = refl
map_both book (one ∷ ones) twos = ap (λ (ws : List (List Word)). enumerator_words (names_of book) one ∷ ws) (map_both book ones twos)

values_are : (book : Book) (n number : ℕ) (rest : List CxxFact) → ((k : ℕ) → slice_get (facts_of book) (number + k) ≡ slice_get rest k) → map (enumerator_words (names_of book)) (values_from n number rest) ≡ map (enumerator_at book) (gathered (enumerator_given n) number rest)
values_are book n number [] at = refl
values_are book n number (fact ∷ others) at =
    let here : slice_get (facts_of book) number ≡ Some fact = ap (slice_get (facts_of book)) (omega arith) ∙ at 0 in
    let next : (k : ℕ) → slice_get (facts_of book) (suc number + k) ≡ slice_get others k = λ k. ap (slice_get (facts_of book)) (omega arith) ∙ at (suc k) in
    let left : List (List Word) = map (enumerator_at book) (gathered (enumerator_given n) (number + 1) others) in
    map_both book (value_in n number fact) (values_from n (suc number) others)
    ∙ ap (λ (ws : List (List Word)). map (enumerator_words (names_of book)) (value_in n number fact) ++ ws) (values_are book n (suc number) others next ∙ ap (λ m. map (enumerator_at book) (gathered (enumerator_given n) m others)) (sym (add-one number)))
    ∙ first_value book n number fact.place fact.scope fact.name fact.access fact.what left here
    ∙ before_map book (if_held n number (holder_by fact.what)) (gathered (enumerator_given n) (number + 1) others)

pub enumeration_is : (book : Book) (n number : ℕ) (row : List FactId) → IsBook book → row ≡ row_at book.enumerators.now n → enumeration_parts book row number ≡ enumeration_words (names_of book) (facts_of book) n number
unfolding enumeration_parts enumeration_front enumeration_end
enumeration_is book n number row is same =
    let words : List (List Word) → List Word = λ ws. enumeration_front (names_of book) number ++ (listed_words true ws ++ enumeration_end) in
    ap (λ (ns : List FactId). words (map (enumerator_at book) ns)) (same ∙ is.held n)
    ∙ ap words (sym (values_are book n 0 (facts_of book) (λ k. ap (slice_get (facts_of book)) (omega arith))))
    ∙ ap (λ (ws : List Word). enumeration_front (names_of book) number ++ (ws ++ enumeration_end)) (sym (all_listed (map (enumerator_words (names_of book)) (values_from n 0 (facts_of book)))))
