-- Facts of no name at one place, for tests.
use Rattle.std.specs.Prelude.{List, [], ◌∷◌, None}
use Rattle.cxx_model.specs.declared.facts.Access.TheVariants.{Public}
use Rattle.cxx_model.specs.declared.facts.Entity.{Entity}
use Rattle.cxx_model.specs.declared.facts.Entity.TheVariants as entity
use Rattle.cxx_model.specs.declared.facts.Fact.{Fact}
use Rattle.cxx_model.specs.declared.facts.Name.TheVariants.{Unnamed}
use Rattle.cxx_model.specs.declared.facts.ScopeKind.TheVariants as kind
use Rattle.cxx_model.specs.declared.types.ScopeId.{ScopeId}

abbrev pub sample : ScopeId → Entity → Fact
sample scope what = record { place = record { line = 1; column = 1 }; scope = scope; name = Unnamed; access = Public; what = what }

-- 3.3.5: the scope of the unit alone
abbrev pub unit_facts : List Fact
unit_facts = sample (record { 0 = 0 }) (entity.Scope None kind.Space) ∷ []
