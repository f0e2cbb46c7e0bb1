-- What is gathered from one more declaration.
use Rattle.std.proofs.Common.{◌≡◌, ℕ, zero, suc, ◌+◌, ◌<◌, List, [], ◌∷◌, ◌++◌, length, drop, get_or, Option, Some, None, option_map, refl, ap, sym, subst, ◌∙◌, append_assoc, add-one, arith}
use Rattle.std.specs.List.{slice_get}
use Rattle.std.proofs.lemmas.Option.{slice_get-get_or}
use Rattle.cxx_model.specs.declared.facts.Fact.{Fact}
use Rattle.cxx_model.specs.Types.Trees.{CxxType}
use Rattle.cxx_model.specs.Facts.Fitted.{AreFactsBelow, IsFactBelow}
use Rattle.cxx_model.specs.Facts.Declarations.{CxxFact, fact_at, facts_at}
use Rattle.cxx_meaning.specs.Lookups.Gathered.{before, gathered}
use Rattle.cxx_form.specs.Giving.{given_at}

-- a declaration by its number
pub fact_is : (types : List CxxType) (facts : List Fact) (n : ℕ) → slice_get (facts_at types facts) n ≡ option_map (fact_at types) (slice_get facts n)
fact_is types [] n = refl
fact_is types (fact ∷ facts) zero = refl
fact_is types (fact ∷ facts) (suc n) = fact_is types facts n

pub fact_read : (types : List CxxType) (facts : List Fact) (n : ℕ) (fact : Fact) → n < length facts → fact ≡ get_or facts n fact → slice_get (facts_at types facts) n ≡ Some (fact_at types fact)
fact_read types facts n fact within is = fact_is types facts n ∙ ap (option_map (fact_at types)) (slice_get-get_or facts n fact within ∙ ap (λ (f : Fact). Some f) (sym is))

pub fact_there : (types : List CxxType) (seen facts : List Fact) (n : ℕ) (fact : Fact) → seen ≡ facts → n < length facts → fact ≡ get_or seen n fact → slice_get (facts_at types facts) n ≡ Some (fact_at types fact)
fact_there types seen facts n fact same within is = fact_read types facts n fact within (is ∙ ap (λ (xs : List Fact). get_or xs n fact) same)

pub fact_held : (seen facts : List Fact) (n : ℕ) (fact : Fact) → seen ≡ facts → n < length facts → fact ≡ get_or seen n fact → slice_get facts n ≡ Some fact
fact_held seen facts n fact same within is = slice_get-get_or facts n fact within ∙ ap (λ (f : Fact). Some f) (sym (is ∙ ap (λ (xs : List Fact). get_or xs n fact) same))

-- what a declaration names is of the table of types
pub fact_below : (count : ℕ) (facts : List Fact) (n : ℕ) (fact : Fact) → AreFactsBelow count facts → n < length facts → fact ≡ get_or facts n fact → IsFactBelow count fact
fact_below count [] n fact all within is = absurd (omega arith)
fact_below count (first ∷ facts) zero fact all within is = subst (λ (f : Fact). IsFactBelow count f) (sym is) all.0
fact_below count (first ∷ facts) (suc n) fact all within is = fact_below count facts n fact all.1 (omega arith) is

pub fact_fits : (count : ℕ) (seen facts : List Fact) (n : ℕ) (fact : Fact) → AreFactsBelow count facts → seen ≡ facts → n < length facts → fact ≡ get_or seen n fact → IsFactBelow count fact
fact_fits count seen facts n fact all same within is = fact_below count facts n fact all within (is ∙ ap (λ (xs : List Fact). get_or xs n fact) same)

before_first : {A : Type 0} (o : Option A) (xs : List A) → before o xs ≡ before o [] ++ xs
before_first None xs = refl
before_first (Some x) xs = refl

given_first : {A : Type 0} (give : ℕ → CxxFact → Option A) (types : List CxxType) (facts : List Fact) (k n : ℕ) → gathered give k (facts_at types (drop n facts)) ≡ given_at give k (slice_get (facts_at types facts) n) ++ gathered give (k + 1) (facts_at types (drop (suc n) facts))
given_first give types [] k zero = refl
given_first give types [] k (suc n) = refl
given_first give types (fact ∷ facts) k zero = before_first (give k (fact_at types fact)) (gathered give (k + 1) (facts_at types facts))
given_first give types (fact ∷ facts) k (suc n) = given_first give types facts k n

pub given_cut : {A : Type 0} (give : ℕ → CxxFact → Option A) (types : List CxxType) (facts : List Fact) (number : ℕ) → gathered give number (facts_at types (drop number facts)) ≡ given_at give number (slice_get (facts_at types facts) number) ++ gathered give (number + 1) (facts_at types (drop (number + 1) facts))
given_cut give types facts number = given_first give types facts number number ∙ ap (λ m. given_at give number (slice_get (facts_at types facts) number) ++ gathered give (number + 1) (facts_at types (drop m facts))) (sym (add-one number))

-- one fact more was looked at
pub given_more : {A : Type 0} (give : ℕ → CxxFact → Option A) (types : List CxxType) (facts : List Fact) (number : ℕ) (old new : List A) → new ≡ old ++ given_at give number (slice_get (facts_at types facts) number) → old ++ gathered give number (facts_at types (drop number facts)) ≡ new ++ gathered give (number + 1) (facts_at types (drop (number + 1) facts))
given_more give types facts number old new e =
    let step = given_first give types facts number number ∙ ap (λ m. given_at give number (slice_get (facts_at types facts) number) ++ gathered give (number + 1) (facts_at types (drop m facts))) (sym (add-one number)) in
    ap (λ xs. old ++ xs) step ∙ (sym (append_assoc old (given_at give number (slice_get (facts_at types facts) number)) (gathered give (number + 1) (facts_at types (drop (number + 1) facts)))) ∙ ap (λ xs. xs ++ gathered give (number + 1) (facts_at types (drop (number + 1) facts))) (sym e))
