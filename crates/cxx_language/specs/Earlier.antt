-- The first declaration of an object, which a further one names (3.5).
use Rattle.std.specs.Prelude.{ℕ, Bool, true, false, ◌&&◌, List, Option, Some, None, bytes_eq}
use Rattle.cxx_model.specs.declared.facts.Entity.{Entity}
use Rattle.cxx_model.specs.declared.facts.Entity.TheVariants as entity
use Rattle.cxx_model.specs.declared.facts.Fact.{Fact}
use Rattle.cxx_model.specs.declared.facts.Name.{Name}
use Rattle.cxx_model.specs.declared.facts.Name.TheVariants as name

abbrev pub is_object : Entity → Bool
is_object (entity.Object of member is_mutable value first) = true
is_object _ = false

abbrev pub is_word : List ℕ → Name → Bool
is_word word (name.Spelled other) = bytes_eq other word
is_word word _ = false

-- whether a fact is there and declares an object of a name
abbrev pub names_object : List ℕ → Option Fact → Bool
names_object word None = false
names_object word (Some fact) = is_object fact.what && is_word word fact.name
