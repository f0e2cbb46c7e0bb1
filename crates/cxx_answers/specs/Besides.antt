-- What the types of arguments find besides the functions that a name means where it stands (3.4.2).
use Rattle.std.specs.Prelude.{ℕ, List, Option}
use Rattle.cxx_meaning.specs.Conversions.Standard.{CxxOperand}
use Rattle.cxx_reading.specs.Givers.{with_givers}
use Rattle.cxx_reading.specs.Seen.{Numbered, numbered_at}
use Rattle.cxx_reading.specs.State.{CxxState}
use Rattle.cxx_answers.specs.Answers.{associated_functions, fresh_among}

-- with the declarations that tell their default arguments
abbrev pub besides_in : CxxState → List Numbered → Option (List ℕ) → List CxxOperand → List Numbered
besides_in state functions word operands = with_givers state.graph state.here.scope (numbered_at state.graph (fresh_among functions (associated_functions state.graph word operands)))
