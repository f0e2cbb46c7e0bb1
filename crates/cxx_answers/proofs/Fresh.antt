-- The functions that are found besides others, by their numbers (3.4.2).
use Rattle.std.specs.Prelude.{ℕ, zero, suc, ◌≡◌, ◌<◌, ◌≤◌, Bool, true, false, ◌||◌, nat_eq, if◌then◌else◌, List, [], ◌∷◌, ◌++◌, length, Option, Some, None, refl}
use Rattle.std.proofs.Common.{◌+◌, ap, sym, subst, ◌∙◌, arith, get_or, drop}
use Rattle.std.proofs.lemmas.List.{append-nil, at_drop_more, at_drop_all}
use Rattle.std.proofs.lemmas.Bool.Decides.{nat_tests}
use Rattle.std.specs.List.{slice_get}
use Rattle.std.specs.Option.{option_map}
use Rattle.cxx_model.specs.declared.facts.Fact.{Fact}
use Rattle.cxx_model.specs.declared.types.FactId.{FactId}
use Rattle.cxx_model.specs.Facts.Declarations.{fact_at, graph_at}
use Rattle.cxx_model.specs.Facts.Graph.{Graph}
use Rattle.cxx_model.specs.Types.Trees.{CxxType}
use Rattle.cxx_names.specs.Looked.{looked_up, seen_by}
use Rattle.cxx_reading.specs.Seen.{Numbered, fact_numbers, numbered_at, numbered_by}
use Rattle.cxx_answers.specs.Answers.{fresh_among, has_number}
use Rattle.cxx_answers.specs.Told.{AreNumbersBelow}
use Rattle.cxx_answers.proofs.Told.{fact_seen, there_at}

-- ---- whether a number is that of one of some declarations

has_first : (types : List CxxType) (facts : List Fact) (number : ℕ) (one : FactId) (others : List FactId) → one.0 < length facts → has_number number (looked_up types facts (one ∷ others)) ≡ (nat_eq one.0 number || has_number number (looked_up types facts others))
has_first types facts number one others less =
    let at : (fact : Fact) × (slice_get facts one.0 ≡ Some fact) = there_at facts one.0 less in
    ap (λ o. has_number number (seen_by types one (looked_up types facts others) o)) at.1

first_below : (count : ℕ) (numbers : List FactId) (i : ℕ) (d : FactId) → AreNumbersBelow count numbers → i < length numbers → (get_or numbers i d).0 < count
first_below count [] i d below less = absurd (omega (arith, less))
first_below count (n ∷ numbers) zero d below less = below.0
first_below count (n ∷ numbers) (suc i) d below less = first_below count numbers i d below.1 (omega (arith, less))

has_at : (types : List CxxType) (facts : List Fact) (number : ℕ) (numbers : List FactId) (i : ℕ) (one d : FactId) (whole : Bool) → AreNumbersBelow (length facts) numbers → i < length numbers → one ≡ get_or numbers i d → has_number number (looked_up types facts (drop i numbers)) ≡ whole → (nat_eq one.0 number || has_number number (looked_up types facts (drop (i + 1) numbers))) ≡ whole
has_at types facts number numbers i one d whole below less is same =
    let there : (get_or numbers i d).0 < length facts = first_below (length facts) numbers i d below less in
    sym (has_first types facts number one (drop (i + 1) numbers) (subst (λ (n : FactId). n.0 < length facts) (sym is) there))
    ∙ ap (λ (n : FactId). has_number number (looked_up types facts (n ∷ drop (i + 1) numbers))) is
    ∙ sym (at_drop_more (λ ns. has_number number (looked_up types facts ns)) numbers i d less)
    ∙ same

pub has_this : (types : List CxxType) (facts : List Fact) (number : ℕ) (numbers : List FactId) (i : ℕ) (one d : FactId) (whole : Bool) → AreNumbersBelow (length facts) numbers → i < length numbers → one ≡ get_or numbers i d → one.0 ≡ number → has_number number (looked_up types facts (drop i numbers)) ≡ whole → true ≡ whole
has_this types facts number numbers i one d whole below less is equal same =
    let e : nat_eq one.0 number ≡ true = grind (arith, nat_tests) in
    sym (ap (λ b. b || has_number number (looked_up types facts (drop (i + 1) numbers))) e) ∙ has_at types facts number numbers i one d whole below less is same

pub has_none : (types : List CxxType) (facts : List Fact) (number : ℕ) (numbers : List FactId) (i : ℕ) (whole : Bool) → length numbers ≤ i → has_number number (looked_up types facts (drop i numbers)) ≡ whole → false ≡ whole
has_none types facts number numbers i whole past same = sym (at_drop_all (λ ns. has_number number (looked_up types facts ns)) numbers i past) ∙ same

-- ---- those that are not there yet

numbers_both : (one two : List FactId) → fact_numbers (one ++ two) ≡ fact_numbers one ++ fact_numbers two
numbers_both [] two = refl
numbers_both (n ∷ one) two = ap (λ ns. n.0 ∷ ns) (numbers_both one two)

pub fresh_one : (functions : List Numbered) (found after : List FactId) (number : FactId) → has_number number.0 functions ≡ false → after ≡ found ++ number ∷ [] → fact_numbers after ≡ fact_numbers found ++ fresh_among functions (number ∷ [])
fresh_one functions found after number fresh is =
    ap fact_numbers is
    ∙ numbers_both found (number ∷ [])
    ∙ sym (ap (λ (b : Bool). fact_numbers found ++ (if b then [] else number.0 ∷ [])) fresh)

pub fresh_none : (functions : List Numbered) (found : List FactId) (number : FactId) → has_number number.0 functions ≡ true → fact_numbers found ≡ fact_numbers found ++ fresh_among functions (number ∷ [])
fresh_none functions found number there =
    sym (append-nil (fact_numbers found))
    ∙ sym (ap (λ (b : Bool). fact_numbers found ++ (if b then [] else number.0 ∷ [])) there)

pub fresh_end : (functions : List Numbered) (found numbers : List FactId) (i : ℕ) (whole : List ℕ) → length numbers ≤ i → fact_numbers found ++ fresh_among functions (drop i numbers) ≡ whole → fact_numbers found ≡ whole
fresh_end functions found numbers i whole past same =
    sym (append-nil (fact_numbers found))
    ∙ sym (at_drop_all (λ ns. fact_numbers found ++ fresh_among functions ns) numbers i past)
    ∙ same

-- ---- declarations by their numbers

numbered_one : (types : List CxxType) (number : FactId) (others : List Numbered) (o : Option Fact) → numbered_by number.0 (option_map (fact_at types) o) others ≡ seen_by types number others o
numbered_one types number others None = refl
numbered_one types number others (Some fact) = refl

pub numbered_is : (types : List CxxType) (graph : Graph) (numbers : List FactId) → numbered_at (graph_at types graph) (fact_numbers numbers) ≡ looked_up types graph.facts numbers
numbered_is types graph [] = refl
numbered_is types graph (n ∷ numbers) =
    ap (λ o. numbered_by n.0 o (numbered_at (graph_at types graph) (fact_numbers numbers))) (fact_seen types graph.facts n.0)
    ∙ numbered_one types n (numbered_at (graph_at types graph) (fact_numbers numbers)) (slice_get graph.facts n.0)
    ∙ ap (λ others. seen_by types n others (slice_get graph.facts n.0)) (numbered_is types graph numbers)
