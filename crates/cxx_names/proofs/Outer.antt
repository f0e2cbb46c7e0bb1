-- The innermost scope that is that of no class and of no parameters (3.3.1), and the scopes of classes (9.1).
use Rattle.std.proofs.Common.{◌≡◌, ℕ, zero, suc, Bool, true, false, cond, nat_eq, List, [], ◌∷◌, ◌++◌, Option, Some, None, option_map, refl, sym, ap, ◌∙◌}
use Rattle.std.specs.List.{slice_get}
use Rattle.std.specs.Option.{option_to_list}
use Rattle.cxx_model.specs.declared.facts.Entity.{Entity}
use Rattle.cxx_model.specs.declared.facts.Entity.TheVariants as entity
use Rattle.cxx_model.specs.declared.facts.Fact.{Fact}
use Rattle.cxx_model.specs.declared.facts.ScopeKind.{ScopeKind}
use Rattle.cxx_model.specs.declared.facts.ScopeKind.TheVariants as kind
use Rattle.cxx_model.specs.declared.types.ClassId.{ClassId}
use Rattle.cxx_model.specs.declared.types.ScopeId.{ScopeId}
use Rattle.cxx_model.specs.Facts.Declarations.{CxxFact, CxxGraph, fact_at, facts_at, graph_at}
use Rattle.cxx_model.specs.Facts.Entities.{scope_kinds}
use Rattle.cxx_model.specs.Facts.Graph.{Graph}
use Rattle.cxx_model.specs.Types.Trees.{CxxType}
use Rattle.cxx_meaning.specs.Lookups.Associated.{declares_class, first_scope, scope_of_class}
use Rattle.cxx_meaning.specs.Lookups.Member.{class_of_scope}
use Rattle.cxx_meaning.specs.Lookups.Scopes.{parent_of, up}
use Rattle.cxx_reading.specs.Classes.{first_open, is_open, open_of}
use Rattle.cxx_names.specs.declared.entry.Noted.{Noted}
use Rattle.cxx_names.specs.Index.{class_by, class_scopes, of_class, scopes_of}
use Rattle.cxx_names.specs.Clashes.{class_in}
use Rattle.cxx_names.specs.Looked.{is_open_at, is_open_in}
use Rattle.cxx_names.proofs.Openings.{kinds_are}

open_by : (o : Option Noted) → is_open_in o ≡ is_open (option_map (λ noted. noted.kind) o)
open_by None = refl
open_by (Some noted) = refl

pub open_is : (types : List CxxType) (graph : Graph) (n : ℕ) → is_open_in (slice_get (scopes_of graph.facts) n) ≡ is_open_at (graph_at types graph) n
open_is types graph n = open_by (slice_get (scopes_of graph.facts) n) ∙ ap is_open (sym (kinds_are types graph.facts n))

-- the first such scope of one and those around it, with so much room
abbrev pub open_from : List CxxFact → ℕ → ℕ → ℕ
open_from all room scope = (first_open all (up all room (record { 0 = scope }))).0

first_of_more : (all : List CxxFact) (scope : ScopeId) (others : List ScopeId) (t : Bool) → is_open (slice_get (scope_kinds all) scope.0) ≡ t → (first_open all (scope ∷ others)).0 ≡ cond t scope.0 (first_open all others).0
unfolding first_open
first_of_more all scope others true e = rw e refl
first_of_more all scope others false e = rw e refl

first_of_none : (all : List CxxFact) → (first_open all []).0 ≡ 0
unfolding first_open
first_of_none all = refl

-- such a scope is the innermost one round itself
pub open_here : (all : List CxxFact) (room scope : ℕ) → is_open (slice_get (scope_kinds all) scope) ≡ true → open_from all room scope ≡ scope
unfolding up
open_here all zero scope e = first_of_more all (record { 0 = scope }) [] true e
open_here all (suc room) scope e = first_of_more all (record { 0 = scope }) (cond (nat_eq scope 0) [] (up all room (parent_of all (record { 0 = scope })))) true e

-- the scope of the unit ends it
pub open_of_unit : (all : List CxxFact) (room : ℕ) → open_from all room 0 ≡ 0
unfolding up
open_of_unit all zero = by (is_open (slice_get (scope_kinds all) 0)) refl
  where
    by : (t : Bool) → is_open (slice_get (scope_kinds all) 0) ≡ t → open_from all zero 0 ≡ 0
    by true e = first_of_more all (record { 0 = 0 }) [] true e
    by false e = first_of_more all (record { 0 = 0 }) [] false e ∙ first_of_none all
open_of_unit all (suc room) = by (is_open (slice_get (scope_kinds all) 0)) refl
  where
    by : (t : Bool) → is_open (slice_get (scope_kinds all) 0) ≡ t → open_from all (suc room) 0 ≡ 0
    by true e = first_of_more all (record { 0 = 0 }) [] true e
    by false e = first_of_more all (record { 0 = 0 }) [] false e ∙ first_of_none all

-- else it is one round the scope outside
pub open_outside : (all : List CxxFact) (room scope : ℕ) → is_open (slice_get (scope_kinds all) scope) ≡ false → nat_eq scope 0 ≡ false → open_from all (suc room) scope ≡ open_from all room (parent_of all (record { 0 = scope })).0
unfolding up
open_outside all room scope e z = first_of_more all (record { 0 = scope }) (cond (nat_eq scope 0) [] (up all room (parent_of all (record { 0 = scope })))) false e ∙ ap (λ t. (first_open all (cond t [] (up all room (parent_of all (record { 0 = scope }))))).0) z

pub open_last : (all : List CxxFact) (scope : ℕ) → is_open (slice_get (scope_kinds all) scope) ≡ false → open_from all zero scope ≡ 0
unfolding up
open_last all scope e = first_of_more all (record { 0 = scope }) [] false e ∙ first_of_none all

pub opened_is : (types : List CxxType) (graph : Graph) (scope : ℕ) → open_from (facts_at types graph.facts) scope scope ≡ open_of (graph_at types graph) scope
unfolding open_of
opened_is types graph scope = refl

-- ---- the class of a scope (9.2)

class_at : (all : List CxxFact) (scope : ScopeId) (o : Option Noted) → slice_get (scope_kinds all) scope.0 ≡ option_map (λ noted. noted.kind) o → class_in o ≡ class_of_scope all scope
class_at all scope None e = rw e refl
class_at all scope (Some noted) e = by noted.kind e
  where
    by : (k : ScopeKind) → slice_get (scope_kinds all) scope.0 ≡ Some k → class_in (Some (record noted { kind = k })) ≡ class_of_scope all scope
    by kind.Space e = rw e refl
    by (kind.Class class) e = rw e refl
    by (kind.Block function) e = rw e refl
    by kind.Parameters e = rw e refl

pub scope_class_is : (types : List CxxType) (facts : List Fact) (scope : ScopeId) → class_in (slice_get (scopes_of facts) scope.0) ≡ class_of_scope (facts_at types facts) scope
scope_class_is types facts scope = class_at (facts_at types facts) scope (slice_get (scopes_of facts) scope.0) (kinds_are types facts scope.0)

-- ---- where classes are declared (9.1)

class_scope_by : (types : List CxxType) (class : ClassId) (facts : List Fact) → slice_get (of_class class (class_scopes facts)) 0 ≡ first_scope (declares_class class.0) (facts_at types facts)
class_scope_by types class [] = refl
class_scope_by types class (fact ∷ facts) = by fact.what (class_scope_by types class facts)
  where
    one : (t : Bool) (scope : ScopeId) (rest : List ScopeId) (later : Option ScopeId) → slice_get rest 0 ≡ later → slice_get (cond t (scope ∷ rest) rest) 0 ≡ cond t (Some scope) later
    one true scope rest later e = refl
    one false scope rest later e = e

    by : (what : Entity) → slice_get (of_class class (class_scopes facts)) 0 ≡ first_scope (declares_class class.0) (facts_at types facts)
        → slice_get (of_class class (option_to_list (class_by fact.scope what) ++ class_scopes facts)) 0 ≡ first_scope (declares_class class.0) (fact_at types (record fact { what = what }) ∷ facts_at types facts)
    by (entity.Class other is_union) e = one (nat_eq other.0 class.0) fact.scope (of_class class (class_scopes facts)) (first_scope (declares_class class.0) (facts_at types facts)) e
    by _ e = e

pub class_scope_is : (types : List CxxType) (graph : Graph) (class : ClassId) → slice_get (of_class class (class_scopes graph.facts)) 0 ≡ scope_of_class (graph_at types graph) class.0
class_scope_is types graph class = class_scope_by types class graph.facts
