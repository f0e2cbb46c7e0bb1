-- The scopes of each class among some facts (9.2).
use Rattle.std.specs.Prelude.{ℕ, suc, List, [], ◌∷◌, ◌++◌, Option, Some, None}
use Rattle.std.specs.Option.{option_to_list}
use Rattle.cxx_model.specs.declared.facts.Entity.{Entity}
use Rattle.cxx_model.specs.declared.facts.Entity.TheVariants as entity
use Rattle.cxx_model.specs.declared.facts.Fact.{Fact}
use Rattle.cxx_model.specs.declared.facts.ScopeKind.{ScopeKind}
use Rattle.cxx_model.specs.declared.facts.ScopeKind.TheVariants as kind
use Rattle.cxx_model.specs.declared.types.ClassId.{ClassId}
use Rattle.cxx_model.specs.declared.types.ScopeId.{ScopeId}

-- 3.3: the kind of the scope that a fact declares
abbrev pub kind_in : Entity → Option ScopeKind
kind_in (entity.Scope parent kind) = Some kind
kind_in _ = None

-- 9.2: the scope with a number under its class, where it is that of one
abbrev pub held_by : ℕ → Option ScopeKind → Option (ClassId × ScopeId)
held_by number (Some (kind.Class class)) = Some (class, record { 0 = number })
held_by number _ = None

abbrev pub next_scope : ℕ → Option ScopeKind → ℕ
next_scope number None = number
next_scope number (Some kind) = suc number

-- the number of the next scope, where the first one of the facts has a number
abbrev pub scopes_from : ℕ → List Fact → ℕ
scopes_from number [] = number
scopes_from number (fact ∷ facts) = scopes_from (next_scope number (kind_in fact.what)) facts

-- the scopes of classes, under them
abbrev pub held_from : ℕ → List Fact → List (ClassId × ScopeId)
held_from number [] = []
held_from number (fact ∷ facts) = option_to_list (held_by number (kind_in fact.what)) ++ held_from (next_scope number (kind_in fact.what)) facts
