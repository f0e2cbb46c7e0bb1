use Rattle.std.specs.Prelude.{refl}
use Rattle.cxx_meaning.specs.Conversions.BuiltIn.{operand_kind}
use Rattle.cxx_meaning_laws.proofs.Identity.{value_unchanged}
use Rattle.cxx_meaning_laws.proofs.sequences.values_keep_their_type.Goals as goal

pub returns : goal.returns
returns c graph from = value_unchanged graph from (operand_kind from) refl
