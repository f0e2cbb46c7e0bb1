-- Loops over facts and over conversion functions.
use Rattle.std.specs.Prelude.{ℕ, zero, suc, ◌≡◌, ◌<◌, ◌+◌, ◌||◌, Bool, true, false, List, [], ◌∷◌, ◌++◌, length, map, take, Option, Some, None, option_map, option_to_list, IfSome, nat_eq, refl}
use Rattle.std.proofs.Common.{ap, sym, subst, ◌∙◌, arith, get_or}
use Rattle.std.proofs.lemmas.Bool.Decides.{nat_tests}
use Rattle.std.specs.List.{cons_option, filter_map, list_any}
use Rattle.std.proofs.lemmas.List.{map-append, take_more}
use Rattle.std.proofs.lemmas.List.Elements.{All-push, All-same, filter_map-append}
use Rattle.cxx_model.specs.declared.facts.Fact.{Fact}
use Rattle.cxx_model.specs.declared.facts.ScopeKind.{ScopeKind}
use Rattle.cxx_model.specs.declared.facts.Specialisation.{Specialisation}
use Rattle.cxx_model.specs.Facts.Declarations as facts
use Rattle.cxx_model.specs.Facts.Declarations.{CxxFact, Declares, classes_at, fact_at, facts_at, graph_at}
use Rattle.cxx_model.specs.Facts.Entities.{scope_kinds}
use Rattle.cxx_model.specs.Facts.Fitted.{AreFactsBelow, IsFactBelow}
use Rattle.cxx_model.specs.Facts.Graph.{Graph}
use Rattle.cxx_model.specs.Types.Trees.{CxxType}
use Rattle.cxx_candidates.specs.declared.conversions.Conversion.{Conversion}
use Rattle.cxx_candidates.specs.Shapes.{conversion_at, conversions_at, kinds_in, AreConversionsKnown, IsConversionKnown}
use Rattle.cxx_candidates.specs.Sources.{CxxConversion, conversion_in, conversions}

-- ---- one fact more

below_at : (count : ℕ) (all : List Fact) (i : ℕ) (d : Fact) → i < length all → AreFactsBelow count all → IsFactBelow count (get_or all i d)
below_at count [] i d h below = absurd (omega arith)
below_at count (x ∷ xs) zero d h below = below.0
below_at count (x ∷ xs) (suc i) d h below = below_at count xs i d (omega arith) below.1

pub fact_below : (count : ℕ) (all given : List Fact) (i : ℕ) (fact : Fact) → given ≡ all → i < length given → fact ≡ get_or given i fact → AreFactsBelow count all → IsFactBelow count fact
fact_below count all given i fact same h is below =
    let P : List Fact → Type 0 = λ fs. AreFactsBelow count fs in
    subst (IsFactBelow count) (sym is) (below_at count given i fact h (subst P (sym same) below))

facts_last : (types : List CxxType) (all : List Fact) (fact : Fact) → facts_at types (all ++ fact ∷ []) ≡ facts_at types all ++ fact_at types fact ∷ []
facts_last types [] fact = refl
facts_last types (x ∷ xs) fact = ap (λ rest. fact_at types x ∷ rest) (facts_last types xs fact)

facts_given : (types : List CxxType) (all : List Fact) (i : ℕ) (fact : Fact) → i < length all → fact ≡ get_or all i fact → facts_at types (take (i + 1) all) ≡ facts_at types (take i all) ++ fact_at types fact ∷ []
facts_given types all i fact h is = ap (facts_at types) (take_more all i fact h) ∙ facts_last types (take i all) (get_or all i fact) ∙ ap (λ f. facts_at types (take i all) ++ fact_at types f ∷ []) (sym is)

facts_more : (types : List CxxType) (all given : List Fact) (i : ℕ) (fact : Fact) → given ≡ all → i < length given → fact ≡ get_or given i fact → facts_at types (take (i + 1) all) ≡ facts_at types (take i all) ++ fact_at types fact ∷ []
facts_more types all given i fact same h is = subst (λ fs. facts_at types (take (i + 1) fs) ≡ facts_at types (take i fs) ++ fact_at types fact ∷ []) same (facts_given types given i fact h is)

kinds_last : (all : List CxxFact) (fact : CxxFact) → scope_kinds (all ++ fact ∷ []) ≡ scope_kinds all ++ kinds_in fact.what
kinds_last [] fact = by fact.what
  where
    by : (what : Declares) → scope_kinds (record fact { what = what } ∷ []) ≡ kinds_in what
    by (facts.scope parent kind) = refl
    by _ = refl
kinds_last (x ∷ xs) fact = by x.what (kinds_last xs fact)
  where
    by : (what : Declares) → scope_kinds (xs ++ fact ∷ []) ≡ scope_kinds xs ++ kinds_in fact.what → scope_kinds (record x { what = what } ∷ (xs ++ fact ∷ [])) ≡ scope_kinds (record x { what = what } ∷ xs) ++ kinds_in fact.what
    by (facts.scope parent kind) rest = ap (λ (kinds : List ScopeKind). kind ∷ kinds) rest
    by _ rest = rest

pub kinds_more : (types : List CxxType) (all given : List Fact) (i : ℕ) (fact : Fact) (old new : List ScopeKind) → given ≡ all → i < length given → fact ≡ get_or given i fact → old ≡ scope_kinds (facts_at types (take i all)) → new ≡ old ++ kinds_in (fact_at types fact).what → new ≡ scope_kinds (facts_at types (take (i + 1) all))
kinds_more types all given i fact old new same h is so e =
    e ∙ ap (λ ks. ks ++ kinds_in (fact_at types fact).what) so ∙ sym (kinds_last (facts_at types (take i all)) (fact_at types fact)) ∙ sym (ap scope_kinds (facts_more types all given i fact same h is))

-- ---- one conversion function more

one_found : {X Y : Type 0} (h : X → Option Y) (x : X) → filter_map h (x ∷ []) ≡ option_to_list (h x)
one_found h x = by (h x)
  where
    by : {Y : Type 0} (found : Option Y) → cons_option found [] ≡ option_to_list found
    by None = refl
    by (Some y) = refl

listed : (types : List CxxType) (found : Option Conversion) → conversions_at types (option_to_list found) ≡ option_to_list (option_map (conversion_at types) found)
listed types None = refl
listed types (Some one) = refl

pub found_more : (types : List CxxType) (all given : List Fact) (i : ℕ) (fact : Fact) (old new : List Conversion) (found : Option Conversion) (h : CxxFact → Option CxxConversion) → given ≡ all → i < length given → fact ≡ get_or given i fact → conversions_at types old ≡ filter_map h (facts_at types (take i all)) → option_map (conversion_at types) found ≡ h (fact_at types fact) → new ≡ old ++ option_to_list found → conversions_at types new ≡ filter_map h (facts_at types (take (i + 1) all))
found_more types all given i fact old new found h same within is so one e =
    ap (conversions_at types) e ∙ map-append (conversion_at types) old (option_to_list found) ∙
    ap (λ cs. cs ++ conversions_at types (option_to_list found)) so ∙
    ap (λ cs. filter_map h (facts_at types (take i all)) ++ cs) (listed types found ∙ ap option_to_list one ∙ sym (one_found h (fact_at types fact))) ∙
    sym (filter_map-append h (facts_at types (take i all)) (fact_at types fact ∷ [])) ∙
    sym (ap (filter_map h) (facts_more types all given i fact same within is))

nil_last : {A : Type 0} (xs : List A) → xs ++ [] ≡ xs
nil_last [] = refl
nil_last (x ∷ xs) = ap (λ ys. x ∷ ys) (nil_last xs)

pub known_more : (graph : Graph) (count : ℕ) (old new : List Conversion) (found : Option Conversion) → AreConversionsKnown graph count old → IfSome found (IsConversionKnown graph count) → new ≡ old ++ option_to_list found → AreConversionsKnown graph count new
known_more graph count old new None known one e = All-same (IsConversionKnown graph count) new old (e ∙ nil_last old) known
known_more graph count old new (Some found) known one e = All-same (IsConversionKnown graph count) new (old ++ found ∷ []) e (All-push (IsConversionKnown graph count) old found known one)

classes_count : (types : List CxxType) (classes : List (Option Specialisation)) → length (classes_at types classes) ≡ length classes
classes_count types [] = refl
classes_count types (x ∷ xs) = ap suc (classes_count types xs)

pub conversions_are : (graph : Graph) (types : List CxxType) (scopes : List ScopeKind) (found : List Conversion) → scopes ≡ scope_kinds (facts_at types graph.facts) → conversions_at types found ≡ filter_map (conversion_in (length graph.classes) scopes) (facts_at types graph.facts) → conversions_at types found ≡ conversions (graph_at types graph)
unfolding conversions
conversions_are graph types scopes found e is =
    is ∙ ap (λ n. filter_map (conversion_in n scopes) (facts_at types graph.facts)) (sym (classes_count types graph.classes)) ∙ ap (λ ks. filter_map (conversion_in (length (classes_at types graph.classes)) ks) (facts_at types graph.facts)) e

-- ---- one that passes a test

either_way : (a b : Bool) → b ≡ true → (a || b) ≡ true
either_way true b e = refl
either_way false b e = e

first_way : (a b : Bool) → a ≡ true → (a || b) ≡ true
first_way a b e = rw e refl

pub any_mapped : {A B : Type 0} (f : A → B) (p : B → Bool) (xs : List A) (i : ℕ) (d : A) → i < length xs → p (f (get_or xs i d)) ≡ true → list_any p (map f xs) ≡ true
any_mapped f p [] i d h e = absurd (omega arith)
any_mapped f p (x ∷ xs) zero d h e = first_way (p (f x)) (list_any p (map f xs)) e
any_mapped f p (x ∷ xs) (suc i) d h e = either_way (p (f x)) (list_any p (map f xs)) (any_mapped f p xs i d (omega arith) e)

pub passes : (types : List CxxType) (p : CxxConversion → Bool) (all : List Conversion) (i : ℕ) (d : Conversion) → i < length all → p (conversion_at types (get_or all i d)) ≡ true → list_any p (conversions_at types all) ≡ true
passes types p all i d h e = any_mapped (conversion_at types) p all i d h e

pub same_number : (m n : ℕ) → m ≡ n → nat_eq m n ≡ true
same_number m n e = grind (arith, nat_tests)
