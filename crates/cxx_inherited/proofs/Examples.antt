-- Worked cases.
use Rattle.std.proofs.Common.{◌≡◌, List, ℕ, true, [], ◌∷◌, refl}
use Rattle.cxx_model.specs.declared.facts.Access.TheVariants.{Public}
use Rattle.cxx_model.specs.declared.facts.Entity.TheVariants as entity
use Rattle.cxx_model.specs.declared.facts.Fact.{Fact}
use Rattle.cxx_model.specs.declared.facts.Entity.{Entity}
use Rattle.cxx_model.specs.declared.facts.Name.TheVariants as name
use Rattle.cxx_model.specs.declared.facts.ScopeKind.TheVariants as kind
use Rattle.cxx_model.specs.declared.types.ClassId.{ClassId}
use Rattle.cxx_model.specs.declared.types.ScopeId.{ScopeId}
use Rattle.std.specs.Prelude.{None, Some}
use Rattle.cxx_meaning.specs.Lookups.Member.{with_base}
use Rattle.cxx_model.specs.Facts.Declarations.{facts_at}
use Rattle.cxx_names.specs.Holders.{held_from, scopes_from}
use Rattle.cxx_names.specs.Index.{of_class}
use Rattle.cxx_inherited.specs.Paths.{paths_of}
use Rattle.cxx_inherited.specs.Tables.{own_by, ways_by}
use Rattle.std.specs.Prelude.{nat_eq, Bool}

class : ℕ → ClassId
class n = record { 0 = n }

declared : Entity → Fact
declared what = record { place = record { line = 1; column = 1 }; scope = record { 0 = 0 }; name = name.Unnamed; access = Public; what = what }

unit : Fact
unit = declared (entity.Scope None kind.Space)

scope_of : ℕ → Fact
scope_of n = declared (entity.Scope (Some (record { 0 = 0 })) (kind.Class (class n)))

base : ℕ → ℕ → ℕ → Fact
base derived parent index = declared (entity.Ancestor (class derived) (class parent) index Public)

-- 9.2: a class with two scopes, behind that of the unit
two_scopes : of_class (class 1) (held_from 0 (unit ∷ scope_of 1 ∷ scope_of 0 ∷ scope_of 1 ∷ [])) ≡ record { 0 = 1 } ∷ record { 0 = 3 } ∷ []
unfolding class declared unit scope_of
two_scopes = refl

scopes_counted : scopes_from 0 (unit ∷ scope_of 1 ∷ base 2 1 1 ∷ scope_of 0 ∷ []) ≡ 3
unfolding class declared unit scope_of base
scopes_counted = refl

-- paths that share their ends
shared_ends : paths_of (record { index = 1; rest = 0 } ∷ record { index = 2; rest = 1 } ∷ record { index = 3; rest = 1 } ∷ []) ≡ [] ∷ (1 ∷ []) ∷ (2 ∷ 1 ∷ []) ∷ (3 ∷ 1 ∷ []) ∷ []
shared_ends = refl

is_first : ClassId → Bool
is_first of = nat_eq of.0 0

-- 10.2: struct L {int f;}; struct A : L {}; struct B : L {}; struct D : A, B {}; has two ways to f.
two_ways : ways_by is_first (facts_at [] (base 1 0 1 ∷ base 2 0 1 ∷ base 3 1 1 ∷ base 3 2 2 ∷ [])) (own_by is_first) (0 ∷ 1 ∷ 2 ∷ 3 ∷ []) (class 3) ≡ record { path = 1 ∷ 1 ∷ []; holder = class 0 } ∷ record { path = 2 ∷ 1 ∷ []; holder = class 0 } ∷ []
unfolding class declared base is_first with_base
two_ways = refl
