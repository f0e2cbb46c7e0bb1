-- What the values of declarations stand for, given the types and trees of a state.
use Rattle.std.specs.Prelude.{◌≡◌, ◌<◌, ◌&&◌, ◌||◌, Bool, not, length, List, Result, Ok, Err}
use Rattle.cxx_model.specs.declared.stop.Stop.{Stop}
use Rattle.cxx_model.specs.declared.stop.Stop.TheVariants as stop
use Rattle.cxx_model.specs.declared.types.TreeId.{TreeId}
use Rattle.cxx_model.specs.declared.types.TypeId.{TypeId}
use Rattle.cxx_reading.specs.Declarators as declarators
use Rattle.cxx_reading.specs.Declarators.{declared_type, is_refused, is_void, refused_in}
use Rattle.cxx_reading.specs.Reads as reads
use Rattle.cxx_reading.specs.Trees.{CxxTree}
use Rattle.cxx_reading.specs.Units as definition
use Rattle.cxx_cursor.specs.declared.declarator.Declarator.{Declarator}
use Rattle.cxx_cursor.specs.declared.turn.Turn.{Turn}
use Rattle.cxx_cursor.specs.Views.{AreTreesHeld, IsDeclarator, IsTurn, layers_in, trees_held, turn_at}
use Rattle.cxx_tree.specs.Held.{Held, meaning, type_of}
use Rattle.cxx_tree.specs.Later.{Later}
use Rattle.cxx_units.specs.declared.said.Listed.{Listed}
use Rattle.cxx_units.specs.declared.said.Said.{Said}

-- ---- what the specifiers say

abbrev pub said_of : Held → Said → definition.Said
said_of held said = record { of = type_of held said.of; is_typedef = said.is_typedef; is_extern = said.is_extern; is_mutable = said.is_mutable; is_static = said.is_static }

abbrev pub IsSaid : Held → Said → Type 0
IsSaid held said = said.of.0 < length held.types

abbrev pub IsNewSaid : Held → Result Said Stop → definition.Said → Type 0
IsNewSaid new (Ok said) wanted = IsSaid new said × (said_of new said ≡ wanted)
IsNewSaid new (Err why) wanted = why ≡ stop.OutOfMemory

-- It was told, and nothing else happens; that fails for want of memory alone.
pub record GrowsSaid (old new : Held) (result : Result Said Stop) (wanted : definition.Said) : Type 0 where
  pub later : Later old new
  pub same : meaning new ≡ meaning old
  pub made : IsNewSaid new result wanted

-- ---- a declarator with the type that it declares

-- The type is that of the declarator, made of what the specifiers say.
pub record IsDeclared (held : Held) (said : Said) (declarator : Declarator) (of : TypeId) : Type 0 where
  pub parts : IsDeclarator held declarator
  pub known : of.0 < length held.types
  pub is : type_of held of ≡ declared_type (layers_in held.types declarator.layers) (type_of held said.of)

-- ---- the declarators of a declaration

abbrev pub listed_of : Held → Listed → definition.Listed
listed_of held listed = record { trees = trees_held held listed.trees; is_first = listed.is_first }

abbrev pub IsListed : Held → Listed → Type 0
IsListed held listed = AreTreesHeld held listed.trees

abbrev pub listed_turn : Held → Turn Listed (List TreeId) → reads.Turn definition.Listed (List CxxTree)
listed_turn held = turn_at (listed_of held) (trees_held held)

abbrev pub IsListedTurn : Held → Turn Listed (List TreeId) → Type 0
IsListedTurn held = IsTurn (IsListed held) (AreTreesHeld held)

-- ---- specifications of linkage

abbrev pub flag_turn : Held → Turn Bool Bool → reads.Turn Bool Bool
flag_turn held = turn_at (λ x. x) (λ x. x)

-- ---- what fits

-- 8.3, 3.9.1: whether a declared type is made of what it may not be made of, or an object is void
abbrev pub is_unfit : definition.Said → declarators.Declarator → Bool
is_unfit said declarator = is_refused (refused_in declarator.layers said.of) || (not said.is_typedef && is_void (declared_type declarator.layers said.of))
