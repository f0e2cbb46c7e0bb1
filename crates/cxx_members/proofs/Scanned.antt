-- One more fact of a list.
use Rattle.std.proofs.Common.{◌≡◌, ℕ, ◌+◌, ◌<◌, List, [], ◌∷◌, ◌++◌, length, get_or, take, Option, Some, None, refl, ap, sym, ◌∙◌}
use Rattle.std.proofs.lemmas.List.{take_more}
use Rattle.cxx_model.specs.declared.facts.Fact.{Fact}
use Rattle.cxx_meaning.specs.Lookups.Gathered.{before}
use Rattle.cxx_members.specs.Views.{scopes_of, noted_of}

before_append : {A : Type 0} (o : Option A) (xs ys : List A) → before o (xs ++ ys) ≡ before o xs ++ ys
before_append None xs ys = refl
before_append (Some x) xs ys = refl

scopes_push : (facts : List Fact) (fact : Fact) → scopes_of (facts ++ fact ∷ []) ≡ scopes_of facts ++ before (noted_of fact) []
scopes_push [] fact = refl
scopes_push (one ∷ facts) fact = ap (before (noted_of one)) (scopes_push facts fact) ∙ before_append (noted_of one) (scopes_of facts) (before (noted_of fact) [])

-- the scopes of one fact more
pub scopes_more : (facts : List Fact) (number : ℕ) (fact : Fact) → number < length facts → fact ≡ get_or facts number fact → scopes_of (take (number + 1) facts) ≡ scopes_of (take number facts) ++ before (noted_of fact) []
scopes_more facts number fact lt e = ap scopes_of (take_more facts number fact lt) ∙ (ap (λ f. scopes_of (take number facts ++ f ∷ [])) (sym e) ∙ scopes_push (take number facts) fact)
