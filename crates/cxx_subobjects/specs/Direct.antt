-- The direct bases that facts name (10).
use Rattle.std.specs.Prelude.{ℕ, nat_eq, if◌then◌else◌, List, [], Option, Some, None}
use Rattle.std.specs.List.{slice_get}
use Rattle.cxx_model.specs.declared.facts.Entity.{Entity}
use Rattle.cxx_model.specs.declared.facts.Entity.TheVariants as entity
use Rattle.cxx_model.specs.declared.facts.Fact.{Fact}
use Rattle.cxx_subobjects.specs.declared.direct.DirectBase.{DirectBase}
use Rattle.cxx_subobjects.specs.Paths.{behind_all}

abbrev pub direct_base_named : Entity → Option DirectBase
direct_base_named (entity.Ancestor class parent index access) = Some (record { class = class; parent = parent; index = index })
direct_base_named _ = None

abbrev pub direct_base_in : Option Fact → Option DirectBase
direct_base_in None = None
direct_base_in (Some fact) = direct_base_named fact.what

-- the direct base that a fact names
abbrev pub direct_base_at : List Fact → ℕ → Option DirectBase
direct_base_at all k = direct_base_in (slice_get all k)

-- the paths through a base, if it is one of the class
abbrev pub through_base : (ℕ → List (List ℕ)) → ℕ → Option DirectBase → List (List ℕ)
through_base paths class None = []
through_base paths class (Some direct) = if nat_eq direct.class.0 class then behind_all direct.index (paths direct.parent.0) else []
