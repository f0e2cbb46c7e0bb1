use Rattle.cxx_reading_laws.proofs.Derived.{type_is_derived, only_type}
use Rattle.cxx_reading_laws.proofs.declared_types_are_read_from_the_inside_out.Goals as goal

pub returns : goal.returns
returns c = record { derived = type_is_derived; only = only_type }
