-- The scope of a class is the first one of it, and is there (9.2).
use Rattle.std.specs.Prelude.{ℕ, zero, suc, ◌≡◌, ◌<◌, ◌≤◌, ◌+◌, ◌++◌, Bool, true, false, if◌then◌else◌, List, [], ◌∷◌, Option, Some, None, refl}
use Rattle.std.specs.List.{slice_get}
use Rattle.std.specs.Option.{option_to_list}
use Rattle.std.proofs.Common.{ap, sym, subst, ◌∙◌, arith}
use Rattle.cxx_model.specs.declared.facts.Entity.{Entity}
use Rattle.cxx_model.specs.declared.facts.Entity.TheVariants as entity
use Rattle.cxx_model.specs.declared.facts.Fact.{Fact}
use Rattle.cxx_model.specs.declared.facts.ScopeKind.{ScopeKind}
use Rattle.cxx_model.specs.declared.facts.ScopeKind.TheVariants as kind
use Rattle.cxx_model.specs.declared.types.ClassId.{ClassId}
use Rattle.cxx_model.specs.declared.types.ScopeId.{ScopeId}
use Rattle.cxx_model.specs.Facts.Declarations.{declares_at, facts_at, graph_at}
use Rattle.cxx_model.specs.Facts.Entities.{scope_kinds}
use Rattle.cxx_model.specs.Facts.Graph.{Graph, scopes}
use Rattle.cxx_model.specs.Types.Trees.{CxxType}
use Rattle.cxx_meaning.specs.Lookups.Member.{same_class}
use Rattle.cxx_names.specs.Holders.{held_by, held_from, kind_in, next_scope}
use Rattle.cxx_names.specs.Index.{of_class}
use Rattle.cxx_declare.specs.Outside.{first_scope, scope_of_class, scope_or, scope_or_unit}
use Rattle.cxx_tree.specs.Held.{Held, meaning}

first_put : (b : Bool) (number : ℕ) (others : List ScopeId) (later : Option ScopeId) → slice_get others 0 ≡ later → slice_get (if b then record { 0 = number } ∷ others else others) 0 ≡ scope_or number b later
first_put true number others later e = refl
first_put false number others later e = e

first_held : (types : List CxxType) (class : ClassId) (number : ℕ) (all : List Fact) → slice_get (of_class class (held_from number all)) 0 ≡ first_scope class number (scope_kinds (facts_at types all))
first_held types class number [] = refl
first_held types class number (fact ∷ all) = by fact.what (λ n. first_held types class n all)
  where
    Rest : Type 0
    Rest = (n : ℕ) → slice_get (of_class class (held_from n all)) 0 ≡ first_scope class n (scope_kinds (facts_at types all))

    in_scope : (parent : Option ScopeId) (of : ScopeKind) → Rest → slice_get (of_class class (option_to_list (held_by number (Some of)) ++ held_from (suc number) all)) 0 ≡ first_scope class number (of ∷ scope_kinds (facts_at types all))
    in_scope parent (kind.Class other) rest = first_put (same_class other class) number (of_class class (held_from (suc number) all)) (first_scope class (suc number) (scope_kinds (facts_at types all))) (rest (suc number))
    in_scope parent kind.Space rest = rest (suc number)
    in_scope parent (kind.Block function) rest = rest (suc number)
    in_scope parent kind.Parameters rest = rest (suc number)

    by : (what : Entity) → Rest → slice_get (of_class class (option_to_list (held_by number (kind_in what)) ++ held_from (next_scope number (kind_in what)) all)) 0 ≡ first_scope class number (scope_kinds (facts_at types (record fact { what = what } ∷ all)))
    by (entity.Scope parent of) rest = in_scope parent of rest
    by (entity.Object of member is_mutable value first) rest = rest number
    by (entity.Function of member flags defaults first) rest = rest number
    by (entity.Template template member defaults is_explicit first) rest = rest number
    by (entity.Parameter depth index of) rest = rest number
    by (entity.Injected other) rest = rest number
    by (entity.Class other is_union) rest = rest number
    by (entity.Complete other) rest = rest number
    by (entity.Passed other) rest = rest number
    by (entity.Ancestor other parent index access) rest = rest number
    by (entity.Namespace inner) rest = rest number
    by (entity.Enumeration other) rest = rest number
    by (entity.Enumerator other value) rest = rest number
    by (entity.Synonym of) rest = rest number
    by (entity.Directive nominated) rest = rest number
    by (entity.Using target) rest = rest number
    by (entity.Friend other target) rest = rest number

pub class_scope_is : (held : Held) (graph : Graph) (class : ClassId) (all : List ScopeId) (scope : ScopeId) → graph ≡ held.graph → all ≡ of_class class (held_from 0 graph.facts) → scope ≡ scope_or_unit (slice_get all 0) → scope.0 ≡ scope_of_class (meaning held).graph class
unfolding scope_of_class meaning
class_scope_is held graph class all scope same are is =
    ap (λ (s : ScopeId). s.0) (is ∙ ap (λ (xs : List ScopeId). scope_or_unit (slice_get xs 0)) (are ∙ ap (λ (g : Graph). of_class class (held_from 0 g.facts)) same) ∙ ap scope_or_unit (first_held held.types class 0 held.graph.facts))

-- ---- it is there

abbrev IsBefore : ℕ → Option ScopeId → Type 0
IsBefore count None = Unit {0}
IsBefore count (Some scope) = scope.0 < count

put_before : (b : Bool) (number count : ℕ) (others : List ScopeId) → number < count → IsBefore count (slice_get others 0) → IsBefore count (slice_get (if b then record { 0 = number } ∷ others else others) 0)
put_before true number count others now later = now
put_before false number count others now later = later

held_within : (class : ClassId) (number : ℕ) (all : List Fact) → IsBefore (number + scopes all) (slice_get (of_class class (held_from number all)) 0)
held_within class number [] = tt
held_within class number (fact ∷ all) = by fact.what (λ n. held_within class n all)
  where
    Rest : Type 0
    Rest = (n : ℕ) → IsBefore (n + scopes all) (slice_get (of_class class (held_from n all)) 0)

    shifted : (later : Option ScopeId) → IsBefore (suc number + scopes all) later → IsBefore (number + (scopes all + 1)) later
    shifted later before = subst (λ n. IsBefore n later) (let e : suc number + scopes all ≡ number + (scopes all + 1) = omega arith in e) before

    in_scope : (of : ScopeKind) → Rest → IsBefore (number + (scopes all + 1)) (slice_get (of_class class (option_to_list (held_by number (Some of)) ++ held_from (suc number) all)) 0)
    in_scope (kind.Class other) rest = put_before (same_class other class) number (number + (scopes all + 1)) (of_class class (held_from (suc number) all)) (omega arith) (shifted (slice_get (of_class class (held_from (suc number) all)) 0) (rest (suc number)))
    in_scope kind.Space rest = shifted (slice_get (of_class class (held_from (suc number) all)) 0) (rest (suc number))
    in_scope (kind.Block function) rest = shifted (slice_get (of_class class (held_from (suc number) all)) 0) (rest (suc number))
    in_scope kind.Parameters rest = shifted (slice_get (of_class class (held_from (suc number) all)) 0) (rest (suc number))

    by : (what : Entity) → Rest → IsBefore (number + scopes (record fact { what = what } ∷ all)) (slice_get (of_class class (option_to_list (held_by number (kind_in what)) ++ held_from (next_scope number (kind_in what)) all)) 0)
    by (entity.Scope parent of) rest = in_scope of rest
    by (entity.Object of member is_mutable value first) rest = rest number
    by (entity.Function of member flags defaults first) rest = rest number
    by (entity.Template template member defaults is_explicit first) rest = rest number
    by (entity.Parameter depth index of) rest = rest number
    by (entity.Injected other) rest = rest number
    by (entity.Class other is_union) rest = rest number
    by (entity.Complete other) rest = rest number
    by (entity.Passed other) rest = rest number
    by (entity.Ancestor other parent index access) rest = rest number
    by (entity.Namespace inner) rest = rest number
    by (entity.Enumeration other) rest = rest number
    by (entity.Enumerator other value) rest = rest number
    by (entity.Synonym of) rest = rest number
    by (entity.Directive nominated) rest = rest number
    by (entity.Using target) rest = rest number
    by (entity.Friend other target) rest = rest number

first_within : (count : ℕ) (o : Option ScopeId) → 0 < count → IsBefore count o → (scope_or_unit o).0 < count
first_within count None some before = some
first_within count (Some scope) some before = before

pub class_scope_there : (held : Held) (graph : Graph) (class : ClassId) (all : List ScopeId) (scope : ScopeId) → graph ≡ held.graph → all ≡ of_class class (held_from 0 graph.facts) → scope ≡ scope_or_unit (slice_get all 0) → 0 < scopes held.graph.facts → scope.0 < scopes held.graph.facts
class_scope_there held graph class all scope same are is some =
    subst (λ (s : ScopeId). s.0 < scopes held.graph.facts) (sym (is ∙ ap (λ (xs : List ScopeId). scope_or_unit (slice_get xs 0)) (are ∙ ap (λ (g : Graph). of_class class (held_from 0 g.facts)) same)))
    (first_within (scopes held.graph.facts) (slice_get (of_class class (held_from 0 held.graph.facts)) 0) some (subst (λ n. IsBefore n (slice_get (of_class class (held_from 0 held.graph.facts)) 0)) (let e : 0 + scopes held.graph.facts ≡ scopes held.graph.facts = omega arith in e) (held_within class 0 held.graph.facts)))
