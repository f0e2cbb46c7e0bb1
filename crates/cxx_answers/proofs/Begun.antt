-- Whether the definition of a class has begun (9.2).
use Rattle.std.specs.Prelude.{ℕ, zero, suc, ◌≡◌, ◌<◌, Bool, true, false, ◌||◌, if◌then◌else◌, nat_eq, List, [], ◌∷◌, ◌++◌, length, Option, refl}
use Rattle.std.proofs.Common.{ap, arith, ◌∙◌}
use Rattle.std.specs.Option.{option_to_list}
use Rattle.cxx_model.specs.declared.facts.Entity.{Entity}
use Rattle.cxx_model.specs.declared.facts.Entity.TheVariants as entity
use Rattle.cxx_model.specs.declared.facts.Fact.{Fact}
use Rattle.cxx_model.specs.declared.facts.ScopeKind.{ScopeKind}
use Rattle.cxx_model.specs.declared.facts.ScopeKind.TheVariants as kind
use Rattle.cxx_model.specs.declared.types.ClassId.{ClassId}
use Rattle.cxx_model.specs.declared.types.ScopeId.{ScopeId}
use Rattle.cxx_model.specs.Facts.Declarations as facts
use Rattle.cxx_model.specs.Facts.Declarations.{Declares, declares_at, facts_at}
use Rattle.cxx_model.specs.Types.Trees.{CxxType}
use Rattle.cxx_names.specs.Holders.{held_by, held_from, kind_in, next_scope}
use Rattle.cxx_names.specs.Index.{of_class}
use Rattle.cxx_answers.specs.Members.{begins_class, has_begun}

abbrev are_some : List ScopeId → Bool
are_some [] = false
are_some (one ∷ others) = true

pick : (b : Bool) (one : ScopeId) (others : List ScopeId) (begun : Bool) → are_some others ≡ begun → are_some (if b then one ∷ others else others) ≡ (b || begun)
pick true one others begun e = refl
pick false one others begun e = e

begun_from : (types : List CxxType) (class : ClassId) (number : ℕ) (all : List Fact) → are_some (of_class class (held_from number all)) ≡ has_begun class.0 (facts_at types all)
begun_from types class number [] = refl
begun_from types class number (fact ∷ all) = by fact.what (λ n. begun_from types class n all)
  where
    Rest : Type 0
    Rest = (n : ℕ) → are_some (of_class class (held_from n all)) ≡ has_begun class.0 (facts_at types all)

    in_scope : (parent : Option ScopeId) (of : ScopeKind) → Rest → are_some (of_class class (option_to_list (held_by number (kind_in (entity.Scope parent of))) ++ held_from (next_scope number (kind_in (entity.Scope parent of))) all)) ≡ (begins_class class.0 (declares_at types (entity.Scope parent of)) || has_begun class.0 (facts_at types all))
    in_scope parent (kind.Class other) rest = pick (nat_eq other.0 class.0) (record { 0 = number }) (of_class class (held_from (suc number) all)) (has_begun class.0 (facts_at types all)) (rest (suc number))
    in_scope parent _ rest = rest (suc number)

    by : (what : Entity) → Rest → are_some (of_class class (option_to_list (held_by number (kind_in what)) ++ held_from (next_scope number (kind_in what)) all)) ≡ (begins_class class.0 (declares_at types what) || has_begun class.0 (facts_at types all))
    by (entity.Scope parent of) rest = in_scope parent of rest
    by _ rest = rest number

pub not_begun : (types : List CxxType) (class : ClassId) (all : List Fact) (scopes : List ScopeId) → scopes ≡ of_class class (held_from 0 all) → length scopes < 1 → false ≡ has_begun class.0 (facts_at types all)
not_begun types class all [] is few = ap are_some is ∙ begun_from types class 0 all
not_begun types class all (one ∷ others) is few = absurd (omega (arith, few))

pub begun : (types : List CxxType) (class : ClassId) (all : List Fact) (scopes : List ScopeId) → scopes ≡ of_class class (held_from 0 all) → 0 < length scopes → true ≡ has_begun class.0 (facts_at types all)
begun types class all [] is some = absurd (omega (arith, some))
begun types class all (one ∷ others) is some = ap are_some is ∙ begun_from types class 0 all
