-- Declarations that are held under numbers, one after another.
use Rattle.std.proofs.Common.{◌≡◌, ℕ, suc, ◌+◌, Bool, true, false, cond, eqb, List, [], ◌∷◌, ◌++◌, drop, Option, refl, ap, sym, ◌∙◌, add-one}
use Rattle.std.specs.Prelude.{nat_eq, ◌&&◌}
use Rattle.std.specs.List.{slice_get}
use Rattle.cxx_model.specs.declared.facts.Fact.{Fact}
use Rattle.cxx_model.specs.declared.types.FactId.{FactId}
use Rattle.cxx_model.specs.Types.Trees.{CxxType}
use Rattle.cxx_model.specs.Facts.Declarations.{CxxFact, facts_at}
use Rattle.cxx_meaning.specs.Lookups.Gathered.{before, gathered}
use Rattle.cxx_form.specs.Giving.{held_given, if_held, scope_if, scope_of_part, AreParts, HasGiven}
use Rattle.cxx_form.specs.Lines.{numbers_in}
use Rattle.cxx_form.specs.Order.{is_part, parts_in}
use Rattle.cxx_form.specs.Rows.{row_at}
use Rattle.cxx_form.proofs.Gathering.{given_more}

module _ (holder : CxxFact → Option ℕ) where
  pub held_more : (types : List CxxType) (all : List Fact) (number : ℕ) (old new : List (List FactId)) → HasGiven holder old new number (slice_get (facts_at types all) number) → ((n : ℕ) → row_at old n ++ gathered (held_given holder n) number (facts_at types (drop number all)) ≡ gathered (held_given holder n) 0 (facts_at types all)) → (n : ℕ) → row_at new n ++ gathered (held_given holder n) (number + 1) (facts_at types (drop (number + 1) all)) ≡ gathered (held_given holder n) 0 (facts_at types all)
  held_more types all number old new has are n = sym (given_more (held_given holder n) types all number (row_at old n) (row_at new n) (has n)) ∙ are n

-- ---- the objects and the functions of a class in a scope

if_there : (n number scope : ℕ) (rest : List ℕ) (others : List FactId) (is t : Bool) → eqb scope n ≡ t → rest ≡ numbers_in others → cond (t && is) (number ∷ rest) rest ≡ numbers_in (before (if_held n number (scope_if scope is)) others)
if_there n number scope rest others false true e same = same
if_there n number scope rest others false false e same = same
if_there n number scope rest others true true e same = rw e (ap (λ (ns : List ℕ). number ∷ ns) same)
if_there n number scope rest others true false e same = rw e same

pub parts_gathered : (n number : ℕ) (all : List CxxFact) → parts_in n number all ≡ numbers_in (gathered (held_given scope_of_part n) number all)
parts_gathered n number [] = refl
parts_gathered n number (fact ∷ others) =
    if_there n number fact.scope (parts_in n (suc number) others) (gathered (held_given scope_of_part n) (number + 1) others) (is_part fact.what) (nat_eq fact.scope n) refl
    (parts_gathered n (suc number) others ∙ ap (λ m. numbers_in (gathered (held_given scope_of_part n) m others)) (sym (add-one number)))

pub row_of_scope : (all : List CxxFact) (rows : List (List FactId)) (n : ℕ) (row : List FactId) → AreParts all rows → row ≡ row_at rows n → numbers_in row ≡ parts_in n 0 all
row_of_scope all rows n row are is = ap numbers_in (is ∙ are n) ∙ sym (parts_gathered n 0 all)
