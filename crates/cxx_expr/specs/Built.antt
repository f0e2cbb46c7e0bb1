-- Meanings of operators and casts, whose types are made while the meaning of the state stays the same.
use Rattle.std.specs.Prelude.{◌≡◌, List, length, Option, Result, Ok, Err}
use Rattle.cxx_builtin.specs.Built.{IsBuiltBelow, Means, built_at}
use Rattle.cxx_builtin.specs.declared.answer.ResultFault.{ResultFault}
use Rattle.cxx_model.specs.declared.overload.BuiltIn.{BuiltIn}
use Rattle.cxx_model.specs.declared.stop.Stop.{Stop}
use Rattle.cxx_model.specs.Stops.{Answer, Stops}
use Rattle.cxx_model.specs.Types.Trees.{CxxType}
use Rattle.cxx_meaning.specs.Conversions.Asking.{Asked}
use Rattle.cxx_meaning.specs.Conversions.BuiltIn.{CxxBuiltIn}
use Rattle.cxx_tree.specs.Held.{Held, meaning}
use Rattle.cxx_tree.specs.Later.{Later}

pub record MakesBuilt (old new : Held) (result : Result BuiltIn ResultFault) (asked : Asked (Option CxxBuiltIn)) : Type 0 where
  pub later : Later old new
  pub same : meaning new ≡ meaning old
  pub means : Means new.types result asked

-- What an operator means, or why the unit is read no further.
abbrev pub IsMeaning : List CxxType → Result BuiltIn Stop → Answer CxxBuiltIn → Type 0
IsMeaning new (Ok built) answer = IsBuiltBelow (length new) built × (answer ≡ Ok (built_at new built))
IsMeaning new (Err why) answer = Stops why answer

pub record GrowsMeaning (old new : Held) (result : Result BuiltIn Stop) (answer : Answer CxxBuiltIn) : Type 0 where
  pub later : Later old new
  pub same : meaning new ≡ meaning old
  pub made : IsMeaning new.types result answer
