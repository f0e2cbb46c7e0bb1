-- What is gathered from one more fact.
use Rattle.std.proofs.Common.{◌≡◌, ℕ, zero, suc, ◌+◌, ◌≤◌, List, [], ◌∷◌, ◌++◌, length, drop, Option, Some, None, refl, ap, sym, ◌∙◌, append_assoc, add-one}
use Rattle.std.specs.List.{slice_get}
use Rattle.std.proofs.lemmas.List.{at_drop_more, at_drop_all, append-nil}
use Rattle.std.proofs.lemmas.Option.{get_or_from_slice_get, slice_get_within}
use Rattle.cxx_model.specs.declared.facts.Fact.{Fact}
use Rattle.cxx_model.specs.Types.Trees.{CxxType}
use Rattle.cxx_model.specs.Facts.Declarations.{CxxFact, fact_at, facts_at}
use Rattle.cxx_meaning.specs.Lookups.Gathered.{before, gathered}
use Rattle.cxx_members.specs.Sighted.{given_at}

-- what is gathered from a fact on
pub gathered_more : {A : Type 0} (give : ℕ → CxxFact → Option A) (types : List CxxType) (facts : List Fact) (number : ℕ) (fact : Fact) → slice_get facts number ≡ Some fact → gathered give number (facts_at types (drop number facts)) ≡ before (give number (fact_at types fact)) (gathered give (number + 1) (facts_at types (drop (number + 1) facts)))
gathered_more give types facts number fact at =
    at_drop_more (λ fs. gathered give number (facts_at types fs)) facts number fact (slice_get_within facts number fact at) ∙ ap (λ f. before (give number (fact_at types f)) (gathered give (number + 1) (facts_at types (drop (number + 1) facts)))) (get_or_from_slice_get facts number fact fact at)

-- what is gathered with nothing
pub gathered_none : {A : Type 0} (give : ℕ → CxxFact → Option A) (types : List CxxType) (facts : List Fact) (number : ℕ) (fact : Fact) (found : List A) → slice_get facts number ≡ Some fact → give number (fact_at types fact) ≡ None → found ++ gathered give number (facts_at types (drop number facts)) ≡ found ++ gathered give (number + 1) (facts_at types (drop (number + 1) facts))
gathered_none give types facts number fact found at e = ap (λ xs. found ++ xs) (gathered_more give types facts number fact at ∙ ap (λ o. before o (gathered give (number + 1) (facts_at types (drop (number + 1) facts)))) e)

-- what is gathered with one more
pub gathered_some : {A : Type 0} (give : ℕ → CxxFact → Option A) (types : List CxxType) (facts : List Fact) (number : ℕ) (fact : Fact) (found : List A) (x : A) → slice_get facts number ≡ Some fact → give number (fact_at types fact) ≡ Some x → found ++ gathered give number (facts_at types (drop number facts)) ≡ (found ++ x ∷ []) ++ gathered give (number + 1) (facts_at types (drop (number + 1) facts))
gathered_some give types facts number fact found x at e = ap (λ xs. found ++ xs) (gathered_more give types facts number fact at ∙ ap (λ o. before o (gathered give (number + 1) (facts_at types (drop (number + 1) facts)))) e) ∙ sym (append_assoc found (x ∷ []) (gathered give (number + 1) (facts_at types (drop (number + 1) facts))))

-- past the last fact
pub gathered_all : {A : Type 0} (give : ℕ → CxxFact → Option A) (types : List CxxType) (facts : List Fact) (number : ℕ) (found : List A) → length facts ≤ number → found ++ gathered give number (facts_at types (drop number facts)) ≡ found
gathered_all give types facts number found le = at_drop_all (λ fs. found ++ gathered give number (facts_at types fs)) facts number le ∙ append-nil found

pub given_push : {A : Type 0} (old new : List A) (give : ℕ → CxxFact → Option A) (number : ℕ) (found : Option CxxFact) (o : Option A) → new ≡ old ++ before o [] → before o [] ≡ given_at give number found → new ≡ old ++ given_at give number found
given_push old new give number found o e h = e ∙ ap (λ xs. old ++ xs) h

before_first : {A : Type 0} (o : Option A) (xs : List A) → before o xs ≡ before o [] ++ xs
before_first None xs = refl
before_first (Some x) xs = refl

given_first : {A : Type 0} (give : ℕ → CxxFact → Option A) (types : List CxxType) (facts : List Fact) (k n : ℕ) → gathered give k (facts_at types (drop n facts)) ≡ given_at give k (slice_get (facts_at types facts) n) ++ gathered give (k + 1) (facts_at types (drop (suc n) facts))
given_first give types [] k zero = refl
given_first give types [] k (suc n) = refl
given_first give types (fact ∷ facts) k zero = before_first (give k (fact_at types fact)) (gathered give (k + 1) (facts_at types facts))
given_first give types (fact ∷ facts) k (suc n) = given_first give types facts k n

-- one fact more was looked at
pub given_more : {A : Type 0} (give : ℕ → CxxFact → Option A) (types : List CxxType) (facts : List Fact) (number : ℕ) (old new : List A) → new ≡ old ++ given_at give number (slice_get (facts_at types facts) number) → old ++ gathered give number (facts_at types (drop number facts)) ≡ new ++ gathered give (number + 1) (facts_at types (drop (number + 1) facts))
given_more give types facts number old new e =
    let step = given_first give types facts number number ∙ ap (λ m. given_at give number (slice_get (facts_at types facts) number) ++ gathered give (number + 1) (facts_at types (drop m facts))) (sym (add-one number)) in
    ap (λ xs. old ++ xs) step ∙ (sym (append_assoc old (given_at give number (slice_get (facts_at types facts) number)) (gathered give (number + 1) (facts_at types (drop (number + 1) facts)))) ∙ ap (λ xs. xs ++ gathered give (number + 1) (facts_at types (drop (number + 1) facts))) (sym e))
