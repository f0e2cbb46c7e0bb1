-- The types of functions.
use Rattle.cxx_model.specs.declared.base.Base.TheVariants.{Void}
use Rattle.cxx_model.specs.Facts.Declarations as facts
use Rattle.cxx_model.specs.Facts.Declarations.{Declares}
use Rattle.cxx_model.specs.Types.Trees.{CxxType, fundamental}

-- 8.3.5: the type of the function that is declared, and `void` where it is none
abbrev pub function_type_by : Declares → CxxType
function_type_by (facts.function of member flags defaults first) = of
function_type_by _ = fundamental Void
