-- What is read one after another, behind what was read before; and what stands alone.
use Rattle.std.specs.Prelude.{ℕ, Bool, ◌&&◌, nat_eq, if◌then◌else◌, bytes_eq, codes, List, [], ◌∷◌, ◌++◌, Option, Some, None, Err}
use Rattle.cxx_model.specs.declared.fault.FaultText.TheVariants as says
use Rattle.cxx_model.specs.declared.place.Place.{Place}
use Rattle.cxx_model.specs.Stops.{fault}
use Rattle.cxx_model.specs.Types.Trees.{CxxBound, CxxType}
use Rattle.cxx_reading.specs.Reads.{Asks}
use Rattle.cxx_reading.specs.State.{CxxState}
use Rattle.cxx_reading.specs.Trees.{CxxTree}
use Rattle.cxx_expr.specs.declared.production.TheConstants as production
use Rattle.cxx_expr.specs.Asking.{◌>>=◌, give}
use Rattle.cxx_expr.specs.Converting.{convert}
use Rattle.cxx_expr.specs.Initializing.{element_in, is_braces, is_text_for, one_less}
use Rattle.cxx_expr.specs.Questions.{Questions}

-- a production and a spelling are those of braces
abbrev pub are_braces : ℕ → List ℕ → Bool
are_braces number spelling = nat_eq number production.INITIALIZER && bytes_eq spelling (codes "{")

-- an element behind those before it
abbrev pub element_more : Place → (CxxTree → Asks CxxState CxxTree) → CxxBound → List CxxTree → CxxTree → Asks CxxState (List CxxTree)
element_more place element bound done one = do
  next ← element_in place element bound one
  give (done ++ next ∷ [])

-- each element in turn behind them
abbrev pub elements_behind : Place → (CxxTree → Asks CxxState CxxTree) → CxxBound → List CxxTree → List CxxTree → Asks CxxState (List CxxTree)
elements_behind place element bound done [] = give done
elements_behind place element bound done (one ∷ others) = do
  more ← element_more place element bound done one
  elements_behind place element (one_less bound) more others

-- what stands in braces round a value, where it is one
abbrev pub one_by : Questions → Place → CxxType → Option CxxTree → Asks CxxState CxxTree
one_by q place of (Some one) state = if is_braces one then Err (fault place says.OperandsDoNotFit) else convert q place of one state
one_by q place of None state = Err (fault place says.OperandsDoNotFit)

-- a string in braces, where it is one
abbrev pub text_by : CxxType → Option CxxTree → Option CxxTree
text_by of (Some one) = if is_text_for of one then Some one else None
text_by of None = None
