-- Bases, in the code.
use Rattle.std.specs.Prelude.{ℕ, Option, option_map}
use Rattle.cxx_model.specs.declared.facts.Entity.TheVariants as entity
use Rattle.cxx_model.specs.declared.facts.Fact.{Fact}
use Rattle.cxx_model.specs.declared.facts.Name.TheVariants as name
use Rattle.cxx_model.specs.declared.place.Place.{Place}
use Rattle.cxx_model.specs.declared.types.ClassId.{ClassId}
use Rattle.cxx_declare.specs.declared.bases.BaseOf.{BaseOf}
use Rattle.cxx_declare.specs.Bases as definition
use Rattle.cxx_tree.specs.Held.{Held}

abbrev pub number_of_class : ClassId → ℕ
number_of_class class = class.0

abbrev pub class_in_option : Held → Option ClassId → Option ℕ
class_in_option held found = option_map number_of_class found

abbrev pub base_of : BaseOf → definition.BaseOf
base_of of = record { scope = of.scope.0; class = of.class.0; position = of.position; access = of.access }

abbrev pub made_base : BaseOf → Place → ClassId → Fact
made_base of place base = record { place = place; scope = of.scope; name = name.Unnamed; access = of.access; what = entity.Ancestor of.class base of.position of.access }
