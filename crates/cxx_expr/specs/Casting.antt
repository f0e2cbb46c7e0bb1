-- Casts that are found, with the types that were made for them, while the meaning of the state stays the same.
use Rattle.std.specs.Prelude.{ℕ, ◌≡◌, ◌<◌, List, length, Option, Some, None, Result, Ok, Err}
use Rattle.cxx_casts.specs.declared.explicit.CastSteps.{CastSteps}
use Rattle.cxx_casts.specs.Made.{AreCastsBelow, IsCast, cast_at}
use Rattle.cxx_model.specs.declared.stop.Stop.{Stop}
use Rattle.cxx_model.specs.declared.stop.Wait.{Wait}
use Rattle.cxx_model.specs.declared.types.TreeId.{TreeId}
use Rattle.cxx_model.specs.Stops.{Answer, Stops}
use Rattle.cxx_model.specs.Types.Trees.{CxxType}
use Rattle.cxx_meaning.specs.Conversions.Asking.{Asked}
use Rattle.cxx_meaning.specs.Conversions.Casts.{CxxCast}
use Rattle.cxx_reading.specs.Trees.{CxxTree}
use Rattle.cxx_tree.specs.Arena.{tree_in}
use Rattle.cxx_tree.specs.Held.{Held, meaning, trees}
use Rattle.cxx_tree.specs.Later.{Later}
use Rattle.cxx_expr.specs.Making.{AreTreesHeld, trees_held}

-- what `(T)e` stands for, or the class that must be complete first
pub record MakesCast (old new : Held) (result : Result (Option CastSteps) Wait) (asked : Asked (Option CxxCast)) : Type 0 where
  pub later : Later old new
  pub same : meaning new ≡ meaning old
  pub cast : IsCast new.types result asked

-- the number of a type in it is below a count
abbrev pub IsStepsBelow : ℕ → CastSteps → Type 0
IsStepsBelow count found = AreCastsBelow count (Some found)

abbrev pub IsFound : List CxxType → Result CastSteps Stop → Answer CxxCast → Type 0
IsFound new (Ok found) answer = IsStepsBelow (length new) found × (answer ≡ Ok (cast_at new found))
IsFound new (Err why) answer = Stops why answer

-- the same, or why the unit is read no further
pub record GrowsCast (old new : Held) (result : Result CastSteps Stop) (answer : Answer CxxCast) : Type 0 where
  pub later : Later old new
  pub same : meaning new ≡ meaning old
  pub made : IsFound new.types result answer

-- ---- the parts of a cast: the trees of its type, and its operand

abbrev pub split_of : Held → Option (List TreeId × TreeId) → Option (List CxxTree × CxxTree)
split_of held None = None
split_of held (Some parts) = Some (trees_held held parts.0, tree_in (trees held) parts.1.0)

abbrev pub IsSplit : Held → Option (List TreeId × TreeId) → Type 0
IsSplit held None = Unit {0}
IsSplit held (Some parts) = AreTreesHeld held parts.0 × (parts.1.0 < length (trees held))
