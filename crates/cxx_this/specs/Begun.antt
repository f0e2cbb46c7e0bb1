-- The function whose body begins in a scope, by the numbers of the declarations of the scope (8.4).
use Rattle.std.specs.Prelude.{List, [], ◌∷◌, Option, Some, None}
use Rattle.std.specs.List.{slice_get}
use Rattle.cxx_model.specs.declared.types.Cv.{Cv}
use Rattle.cxx_model.specs.declared.types.FactId.{FactId}
use Rattle.cxx_model.specs.Facts.Declarations.{CxxFact}
use Rattle.cxx_model.specs.Types.Trees.{CxxType, function_of}
use Rattle.cxx_meaning.specs.Conversions.Kinds.{no_cv}
use Rattle.cxx_this.specs.This.{begun_by, or_next}

-- that whose body is the block that a declaration begins, where there is one
abbrev pub begun_at : Option CxxFact → Option FactId
begun_at None = None
begun_at (Some fact) = begun_by fact.what

-- the first one by some declarations
abbrev pub begun_each : List CxxFact → List FactId → Option FactId
begun_each facts [] = None
begun_each facts (number ∷ others) = or_next (begun_at (slice_get facts number.0)) (begun_each facts others)

-- 9.3.1: the words behind the parameters of a function
abbrev pub words_of : CxxType → Cv
words_of (function_of result parameters ellipsis cv) = cv
words_of of = no_cv
