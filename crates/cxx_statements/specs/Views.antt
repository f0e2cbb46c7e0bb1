-- What the values of the code stand for, given the types and trees of a state.
use Rattle.std.specs.Prelude.{List, Option, Some, None}
use Rattle.cxx_reading.specs.Reads as reads
use Rattle.cxx_reading.specs.Trees.{CxxTree}
use Rattle.cxx_statements.specs.declared.around.Around.{Around}
use Rattle.cxx_statements.specs.declared.around.Labelled.{Labelled}
use Rattle.cxx_statements.specs.declared.around.Several.{Several}
use Rattle.cxx_statements.specs.declared.around.Stated.{Stated}
use Rattle.cxx_statements.specs.declared.around.Switch.{Switch}
use Rattle.cxx_statements.specs.declared.parts.Target.{Target}
use Rattle.cxx_statements.specs.declared.parts.Target.TheVariants as target
use Rattle.cxx_statements.specs.Statements as definition
use Rattle.cxx_statements.specs.Statements.{CxxTarget, to_bool, to_promoted, to_type, to_result}
use Rattle.cxx_cursor.specs.declared.turn.Turn.{Turn}
use Rattle.cxx_cursor.specs.Asking.{IsTreeKnown, IsTypeKnown}
use Rattle.cxx_cursor.specs.Views.{AreTreesHeld, IsTurn, trees_held, turn_at}
use Rattle.cxx_tree.specs.Held.{Held, tree, type_of}

-- ---- what an expression becomes

abbrev pub target_of : Held → Target → CxxTarget
target_of held target.Bool = to_bool
target_of held target.Promoted = to_promoted
target_of held (target.Of of) = to_type (type_of held of)
target_of held target.Result = to_result

-- its type is there
abbrev pub IsTarget : Held → Target → Type 0
IsTarget held (target.Of of) = IsTypeKnown held of
IsTarget held _ = Unit {0}

-- ---- what stands around a statement

abbrev pub switch_of : Held → Switch → definition.Switch
switch_of held switch = record { of = type_of held switch.of; values = switch.values; has_default = switch.has_default }

abbrev pub switch_of_option : Held → Option Switch → Option definition.Switch
switch_of_option held None = None
switch_of_option held (Some switch) = Some (switch_of held switch)

abbrev pub around_of : Held → Around → definition.Around
around_of held around = record { in_loop = around.in_loop; breaks = around.breaks; switch = switch_of_option held around.switch }

abbrev pub IsSwitch : Held → Switch → Type 0
IsSwitch held switch = IsTypeKnown held switch.of

abbrev pub IsSwitchOption : Held → Option Switch → Type 0
IsSwitchOption held None = Unit {0}
IsSwitchOption held (Some switch) = IsSwitch held switch

-- the type of its switch is there
abbrev pub IsAround : Held → Around → Type 0
IsAround held around = IsSwitchOption held around.switch

-- ---- what was read

abbrev pub stated_of : Held → Stated → CxxTree × definition.Around
stated_of held one = (tree held one.tree, around_of held one.around)

pub record IsStated (held : Held) (one : Stated) : Type 0 where
  pub tree : IsTreeKnown held one.tree
  pub around : IsAround held one.around

abbrev pub several_of : Held → Several → List CxxTree × definition.Around
several_of held all = (trees_held held all.trees, around_of held all.around)

pub record IsSeveral (held : Held) (all : Several) : Type 0 where
  pub trees : AreTreesHeld held all.trees
  pub around : IsAround held all.around

abbrev pub labelled_of : Held → Labelled → CxxTree × definition.Switch
labelled_of held one = (tree held one.tree, switch_of held one.switch)

pub record IsLabelled (held : Held) (one : Labelled) : Type 0 where
  pub tree : IsTreeKnown held one.tree
  pub switch : IsSwitch held one.switch

abbrev pub several_turn : Held → Turn Several Several → reads.Turn (List CxxTree × definition.Around) (List CxxTree × definition.Around)
several_turn held = turn_at (several_of held) (several_of held)

abbrev pub IsSeveralTurn : Held → Turn Several Several → Type 0
IsSeveralTurn held = IsTurn (IsSeveral held) (IsSeveral held)
