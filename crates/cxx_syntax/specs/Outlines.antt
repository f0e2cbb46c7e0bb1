-- What is read of shapes, as the code has it.
use Rattle.std.specs.Prelude.{ℕ, ◌≤◌, ◌+◌, Bool}
use Rattle.cxx_reading.specs.Kinds.{Kinds}
use Rattle.cxx_reading.specs.Reads as reads
use Rattle.cxx_reading.specs.Reads.{Reads, ◌>>=◌}
use Rattle.cxx_reading.specs.Shapes as shape
use Rattle.cxx_reading.specs.Shapes.{no_type, a_type, surely, fits, fits_not, is_type_kind}
use Rattle.cxx_reading.specs.Tokens.{kind_of_name}
use Rattle.cxx_cursor.specs.declared.outline.Fits.{Fits}
use Rattle.cxx_cursor.specs.declared.outline.Outline.{Outline}
use Rattle.cxx_cursor.specs.declared.outline.Run.{Run}
use Rattle.cxx_cursor.specs.declared.turn.Turn.{Turn}
use Rattle.cxx_cursor.specs.Outlines.{run_in, fits_of, outline_of}
use Rattle.cxx_cursor.specs.Views.{IsTurn, turn_at}
use Rattle.cxx_tree.specs.Held.{Held}

-- whether the name ahead is one of a type
abbrev pub names_type : {S : Type 0} → Kinds S → Reads S Bool
names_type asks = kind_of_name asks.kind >>= is_type_kind

abbrev pub run_turn : Held → Turn Bool Run → reads.Turn Bool shape.Run
run_turn held = turn_at (λ typed. typed) run_in

abbrev pub prefix_turn : Held → Turn Outline Outline → reads.Turn shape.Outline shape.Outline
prefix_turn held = turn_at outline_of outline_of

abbrev pub suffix_turn : Held → Turn Outline Fits → reads.Turn shape.Outline shape.Fits
suffix_turn held = turn_at outline_of fits_of

-- one bracket more at most
abbrev pub HasFewerPrefix : ℕ → Held → Turn Outline Outline → Type 0
HasFewerPrefix count held = IsTurn (λ outline. outline.brackets ≤ count + 1) (λ outline. Unit {0})
