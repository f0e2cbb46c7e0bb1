-- A decision without its ratings, and what the values of the code stand for.
use Rattle.std.specs.Prelude.{ℕ, ◌≡◌, ◌<◌, Bool, List, length, Option, Result, Ok, Err}
use Rattle.cxx_model.specs.declared.place.Place.{Place}
use Rattle.cxx_model.specs.declared.sequence.Operand.{Operand}
use Rattle.cxx_model.specs.declared.stop.Stop.{Stop}
use Rattle.cxx_model.specs.declared.stop.Stop.TheVariants as stop
use Rattle.cxx_model.specs.declared.types.FactId.{FactId}
use Rattle.cxx_model.specs.Stops.{Answer}
use Rattle.cxx_model.specs.Types.Numbers.{AreTypesBelow, type_at}
use Rattle.cxx_model.specs.Types.Trees.{CxxType}
use Rattle.cxx_reading.specs.Initializers.{with_call}
use Rattle.cxx_reading.specs.State.{CxxCall, CxxState}
use Rattle.cxx_expr.specs.Calls.{bare_word}
use Rattle.cxx_expr.specs.Questions.{CxxChosen, CxxQuestion}
use Rattle.cxx_expr.specs.Views.{numbered, operands_in, types_in}
use Rattle.cxx_overload.specs.Calls.{CxxDecision}
use Rattle.cxx_overload.specs.declared.object.Object.{Object}
use Rattle.cxx_overload.specs.Views.{object_at}
use Rattle.cxx_tree.specs.declared.kept.Decided.{Decided}
use Rattle.cxx_tree.specs.Held.{AreOperandsBelow, AreRowsBelow, Held, call_at, meaning}
use Rattle.cxx_tree.specs.Later.{Later}
use Rattle.cxx_answers.specs.declared.calls.Ruling.{Ruling}

-- the question of a call, with its object, where it has one
abbrev pub asked_of : Held → Place → Bool → List ℕ → List FactId → Option Object → List Operand → CxxQuestion
asked_of held place is_bare word functions object operands = record { place = place; word = bare_word is_bare word; functions = numbered held functions; object = object_at held.types object; operands = operands_in held.types operands }

-- the function that a call means, by its first declaration, with its type, and what is kept of the call
pub record CxxRuling : Type 0 where
  pub target : ℕ
  pub parameters : List CxxType
  pub result : CxxType
  pub ellipsis : Bool
  pub call : CxxCall

abbrev pub ruled : CxxDecision → CxxRuling
ruled one = record { target = one.meant.number; parameters = one.meant.parameters; result = one.meant.result; ellipsis = one.meant.ellipsis; call = one.call }

abbrev pub ruled_by : Answer CxxDecision → Answer CxxRuling
ruled_by (Ok one) = Ok (ruled one)
ruled_by (Err why) = Err why

abbrev pub ruling_at : List CxxType → Ruling → CxxRuling
ruling_at types one = record { target = one.target.0; parameters = types_in types one.parameters; result = type_at types one.result.0; ellipsis = one.ellipsis; call = call_at types one.call }

-- the types that a call keeps are there
pub record IsCallBelow (count : ℕ) (call : Decided) : Type 0 where
  pub operands : AreOperandsBelow count call.operands
  pub rows : AreRowsBelow count call.rows

pub record IsRulingBelow (count : ℕ) (one : Ruling) : Type 0 where
  pub parameters : AreTypesBelow count one.parameters
  pub result : one.result.0 < count
  pub call : IsCallBelow count one.call

-- the answer, with the number of the record
abbrev pub chosen_by : ℕ → CxxRuling → CxxChosen
chosen_by number one = record { target = one.target; parameters = one.parameters; result = one.result; ellipsis = one.ellipsis; number = number }

abbrev pub made_by : CxxRuling → CxxState → Answer (CxxChosen × CxxState)
made_by one state = Ok (chosen_by (length state.calls) one, with_call one.call state)

-- ---- keeping a call

abbrev pub IsNewCall : Held → Held → Result ℕ Stop → CxxCall → Type 0
IsNewCall old new (Ok number) call = (number ≡ length (meaning old).calls) × (meaning new ≡ with_call call (meaning old))
IsNewCall old new (Err why) call = why ≡ stop.OutOfMemory

-- A call is kept, and nothing else happens.
pub record KeepsCall (old new : Held) (result : Result ℕ Stop) (call : CxxCall) : Type 0 where
  pub later : Later old new
  pub kept : IsNewCall old new result call
