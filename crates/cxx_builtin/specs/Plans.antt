-- Types that are decided and not made yet, seen as the definitions have them.
use Rattle.std.specs.Prelude.{ℕ, ◌<◌, List, [], ◌∷◌, map, Option, Some, None, Result, Ok, Err}
use Rattle.std.specs.Option.{option_map}
use Rattle.cxx_model.specs.declared.sequence.Operand.{Operand}
use Rattle.cxx_model.specs.declared.stop.Wait.{Wait}
use Rattle.cxx_model.specs.declared.types.TypeId.{TypeId}
use Rattle.cxx_model.specs.Types.Numbers.{type_at}
use Rattle.cxx_model.specs.Types.Trees.{CxxType, fundamental, pointer_to, with_cv, adjusted, unqualified}
use Rattle.cxx_meaning.specs.Conversions.BuiltIn.{CxxBuiltIn}
use Rattle.cxx_meaning.specs.Conversions.Pointers.{CxxJoined, common_similar}
use Rattle.cxx_meaning.specs.Conversions.Standard.{CxxOperand}
use Rattle.cxx_builtin.specs.declared.making.JoinedLevels.{JoinedLevels}
use Rattle.cxx_builtin.specs.declared.plan.Plan.{Plan}
use Rattle.cxx_builtin.specs.declared.plan.Sketch.{Sketch}
use Rattle.cxx_builtin.specs.declared.plan.Sketch.TheVariants as sketch
use Rattle.cxx_standard.specs.Views.{operand_at}

abbrev pub sketch_at : List CxxType → Sketch → CxxType
sketch_at types (sketch.Plain of) = fundamental of
sketch_at types (sketch.Known of) = type_at types of.0
sketch_at types (sketch.Value of) = adjusted (type_at types of.0)
sketch_at types (sketch.Bare of) = unqualified (type_at types of.0)
sketch_at types (sketch.PointerTo of) = pointer_to (type_at types of.0)
sketch_at types (sketch.Added of cv) = pointer_to (with_cv cv (type_at types of.0))
sketch_at types (sketch.Similar one two) = common_similar (type_at types one.0) (type_at types two.0)

-- the numbers of types in it are below a count
abbrev pub IsSketchBelow : ℕ → Sketch → Type 0
IsSketchBelow count (sketch.Plain of) = Unit {0}
IsSketchBelow count (sketch.Known of) = of.0 < count
IsSketchBelow count (sketch.Value of) = of.0 < count
IsSketchBelow count (sketch.Bare of) = of.0 < count
IsSketchBelow count (sketch.PointerTo of) = of.0 < count
IsSketchBelow count (sketch.Added of cv) = of.0 < count
IsSketchBelow count (sketch.Similar one two) = (one.0 < count) × (two.0 < count)

abbrev pub second_at : List CxxType → Option Sketch → List CxxType
second_at types None = []
second_at types (Some one) = sketch_at types one ∷ []

abbrev pub IsSecondBelow : ℕ → Option Sketch → Type 0
IsSecondBelow count None = Unit {0}
IsSecondBelow count (Some one) = IsSketchBelow count one

abbrev pub plan_at : List CxxType → Plan → CxxBuiltIn
plan_at types plan = record { operands = sketch_at types plan.first ∷ second_at types plan.second; result = sketch_at types plan.result; lvalue = plan.lvalue }

abbrev pub plans_at : List CxxType → Option Plan → Option CxxBuiltIn
plans_at types plan = option_map (plan_at types) plan

abbrev pub sketches_at : List CxxType → Option Sketch → Option CxxType
sketches_at types found = option_map (sketch_at types) found

pub record IsPlanBelow (count : ℕ) (plan : Plan) : Type 0 where
  pub first : IsSketchBelow count plan.first
  pub second : IsSecondBelow count plan.second
  pub result : IsSketchBelow count plan.result

abbrev pub ArePlansBelow : ℕ → Option Plan → Type 0
ArePlansBelow count None = Unit {0}
ArePlansBelow count (Some plan) = IsPlanBelow count plan

abbrev pub AreSketchesBelow : ℕ → Result (Option Sketch) Wait → Type 0
AreSketchesBelow count (Ok found) = IsSecondBelow count found
AreSketchesBelow count (Err wait) = Unit {0}

abbrev pub IsAnswerBelow : ℕ → Result (Option Plan) Wait → Type 0
IsAnswerBelow count (Ok plan) = ArePlansBelow count plan
IsAnswerBelow count (Err wait) = Unit {0}

abbrev pub operands_at : List CxxType → List Operand → List CxxOperand
operands_at types operands = map (operand_at types) operands

-- the numbers of the types of operands are below a count
abbrev pub AreOperandsBelow : ℕ → List Operand → Type 0
AreOperandsBelow count [] = Unit {0}
AreOperandsBelow count (one ∷ others) = (one.of.0 < count) × AreOperandsBelow count others

abbrev pub joined_at : JoinedLevels → CxxJoined
joined_at both = record { levels = both.levels; adds = both.adds }

abbrev pub IsNumberBelow : ℕ → Option TypeId → Type 0
IsNumberBelow count None = Unit {0}
IsNumberBelow count (Some of) = of.0 < count
