-- The class whose end an entity is.
use Rattle.std.specs.Prelude.{Option, Some, None}
use Rattle.cxx_model.specs.declared.facts.Entity.{Entity}
use Rattle.cxx_model.specs.declared.facts.Entity.TheVariants as entity
use Rattle.cxx_model.specs.declared.types.ClassId.{ClassId}

abbrev pub ended : Entity → Option ClassId
ended (entity.Complete class) = Some class
ended _ = None
