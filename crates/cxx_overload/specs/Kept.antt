-- What is kept of a sequence.
use Rattle.std.specs.Prelude.{List, [], ◌∷◌}
use Rattle.cxx_meaning.specs.Conversions.Standard.{CxxStandard}
use Rattle.cxx_overload.specs.Sequences.{CxxSequence, by_standard, by_ellipsis, no_sequence}

-- a sequence, if it is a standard one
abbrev pub standard_of : CxxSequence → List CxxStandard
standard_of (by_standard one) = one ∷ []
standard_of by_ellipsis = []
standard_of no_sequence = []
