-- The scopes of each class, with one more fact (9.2).
use Rattle.std.proofs.Common.{◌≡◌, ℕ, zero, suc, ◌+◌, List, [], ◌∷◌, ◌++◌, length, refl, ap, sym, ◌∙◌, append_assoc, append-nil, arith}
use Rattle.std.specs.Option.{option_to_list}
use Rattle.cxx_model.specs.declared.facts.Entity.{Entity}
use Rattle.cxx_model.specs.declared.facts.Entity.TheVariants as entity
use Rattle.cxx_model.specs.declared.facts.Fact.{Fact}
use Rattle.cxx_names.specs.Holders.{held_by, held_from, kind_in, next_scope, scopes_from}
use Rattle.cxx_names.specs.Index.{noted_by, scopes_of}

-- so many scopes there are before the next one
scopes_count : (number : ℕ) (facts : List Fact) → number + length (scopes_of facts) ≡ scopes_from number facts
scopes_count number [] = omega arith
scopes_count number (fact ∷ facts) = by fact.what (scopes_count number facts) (scopes_count (suc number) facts)
  where
    by : (what : Entity) → number + length (scopes_of facts) ≡ scopes_from number facts → suc number + length (scopes_of facts) ≡ scopes_from (suc number) facts → number + length (option_to_list (noted_by fact.scope what) ++ scopes_of facts) ≡ scopes_from (next_scope number (kind_in what)) facts
    by (entity.Scope parent kind) here later = let one : number + suc (length (scopes_of facts)) ≡ suc number + length (scopes_of facts) = omega arith in one ∙ later
    by _ here later = here

pub scopes_are : (facts : List Fact) → length (scopes_of facts) ≡ scopes_from zero facts
scopes_are facts = let none : length (scopes_of facts) ≡ 0 + length (scopes_of facts) = omega arith in none ∙ scopes_count zero facts

pub held_push : (number : ℕ) (facts : List Fact) (fact : Fact) → held_from number (facts ++ fact ∷ []) ≡ held_from number facts ++ option_to_list (held_by (scopes_from number facts) (kind_in fact.what))
held_push number [] fact = append-nil _
held_push number (one ∷ facts) fact =
    ap (λ xs. option_to_list (held_by number (kind_in one.what)) ++ xs) (held_push (next_scope number (kind_in one.what)) facts fact)
    ∙ sym (append_assoc (option_to_list (held_by number (kind_in one.what))) (held_from (next_scope number (kind_in one.what)) facts) (option_to_list (held_by (scopes_from (next_scope number (kind_in one.what)) facts) (kind_in fact.what))))
