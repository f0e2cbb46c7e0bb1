use Rattle.std.specs.Prelude.{◌+◌, ◌*◌, ◌-◌, []}
use Rattle.cxx_reading.specs.Reads.{count_ahead, give, repeat}
use Rattle.cxx_reading.specs.Units.{inside_step}
use Rattle.cxx_language.specs.Units.{declaration_at}
use Rattle.cxx_cursor.specs.Looping.{IsTurning}
use Rattle.cxx_cursor.specs.Views.{AreTreesHeld, trees_held}
use Rattle.cxx_tree.specs.Held.{meaning}
use Rattle.cxx_space.proofs.space.Space.+declaration.Given as goal

abbrev pub decreases-linkage_opened : goal.decreases-linkage_opened
decreases-linkage_opened g l = 12 * l.self.now.room + 1

abbrev pub decreases-behind_begin : goal.decreases-behind_begin
decreases-behind_begin g l = 12 * l.self.now.room + 2

abbrev pub decreases-named_opened : goal.decreases-named_opened
decreases-named_opened g l = 12 * l.self.now.room + 3

abbrev pub decreases-unnamed_opened : goal.decreases-unnamed_opened
decreases-unnamed_opened g l = 12 * l.self.now.room + 3

abbrev pub decreases-space_or_alias : goal.decreases-space_or_alias
decreases-space_or_alias g l = 12 * l.self.now.room + 4

abbrev pub decreases-behind_namespace : goal.decreases-behind_namespace
decreases-behind_namespace g l = 12 * l.self.now.room + 5

abbrev pub decreases-namespace_at : goal.decreases-namespace_at
decreases-namespace_at g l = 12 * l.self.now.room + 6

abbrev pub decreases-linked_one : goal.decreases-linked_one
decreases-linked_one g l = 12 * l.self.now.room + 7

abbrev pub decreases-linked_by : goal.decreases-linked_by
decreases-linked_by g l = 12 * l.self.now.room + 8

abbrev pub decreases-linkage_by : goal.decreases-linkage_by
decreases-linkage_by g l = 12 * l.self.now.room + 9

abbrev pub decreases-linkages_at : goal.decreases-linkages_at
decreases-linkages_at g l = 12 * l.self.now.room + 10

abbrev pub decreases-declaration_at : goal.decreases-declaration_at
decreases-declaration_at g l = 12 * l.self.now.room + 11

abbrev pub decreases-inside_step : goal.decreases-inside_step
decreases-inside_step g l = 12 * l.self.now.room + 12

abbrev pub invariant-linkage_opened-loop-turn : goal.invariant-linkage_opened-loop-turn
invariant-linkage_opened-loop-turn g l =
    let step = inside_step (declaration_at (l.fn.self.room - 1)) in
    IsTurning (repeat step give (l._turn-end - l._turn) (trees_held l.state l.so_far) (meaning l.state) l.cursor) (repeat step give (count_ahead l.fn.cursor) [] (meaning l.fn.state) l.fn.cursor) (AreTreesHeld l.state l.so_far) l.fn.state l.state
