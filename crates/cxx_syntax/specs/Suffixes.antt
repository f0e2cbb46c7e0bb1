-- What was read of a declarator, as the code has it.
use Rattle.cxx_reading.specs.Declarators as declarators
use Rattle.cxx_reading.specs.Reads as reads
use Rattle.cxx_reading.specs.Syntax as definition
use Rattle.cxx_cursor.specs.declared.declarator.Declarator.{Declarator}
use Rattle.cxx_syntax.specs.declared.declarators.Suffixed.{Suffixed}
use Rattle.cxx_cursor.specs.declared.turn.Turn.{Turn}
use Rattle.cxx_cursor.specs.Views.{IsDeclarator, IsTurn, declarator_of, turn_at}
use Rattle.cxx_tree.specs.Held.{Held}

abbrev pub suffixed_of : Held → Suffixed → definition.Suffixed
suffixed_of held s = record { declarator = declarator_of held s.declarator; in_row = s.in_row }

abbrev pub IsSuffixed : Held → Suffixed → Type 0
IsSuffixed held s = IsDeclarator held s.declarator

abbrev pub suffixed_turn : Held → Turn Suffixed Declarator → reads.Turn definition.Suffixed declarators.Declarator
suffixed_turn held = turn_at (suffixed_of held) (declarator_of held)

abbrev pub IsSuffixedTurn : Held → Turn Suffixed Declarator → Type 0
IsSuffixedTurn held = IsTurn (IsSuffixed held) (IsDeclarator held)
