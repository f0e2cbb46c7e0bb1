use Rattle.std.specs.Prelude.{◌+◌, ◌*◌, ◌-◌}
use Rattle.cxx_reading.specs.Reads.{count_ahead, repeat}
use Rattle.cxx_language.specs.Classes.{behind_bases, give_members, list_step}
use Rattle.cxx_cursor.specs.Looping.{IsTurning}
use Rattle.cxx_cursor.specs.Views.{name_of_option, trees_held}
use Rattle.cxx_space.specs.Classes.{AreMembers, members_of}
use Rattle.cxx_tree.specs.Held.{meaning}
use Rattle.cxx_space.proofs.space.Space.+nested.Given as goal

abbrev pub decreases-list_at : goal.decreases-list_at
decreases-list_at g l = 12 * l.self.now.room + 1

abbrev pub decreases-class_opened : goal.decreases-class_opened
decreases-class_opened g l = 12 * l.self.now.room + 2

abbrev pub decreases-class_at : goal.decreases-class_at
decreases-class_at g l = 12 * l.self.now.room + 3

abbrev pub decreases-class_then : goal.decreases-class_then
decreases-class_then g l = 12 * l.self.now.room + 4

abbrev pub decreases-nested_or_not : goal.decreases-nested_or_not
decreases-nested_or_not g l = 12 * l.self.now.room + 5

abbrev pub decreases-member_specifiers : goal.decreases-member_specifiers
decreases-member_specifiers g l = 12 * l.self.now.room + 6

abbrev pub decreases-member_declaration_at : goal.decreases-member_declaration_at
decreases-member_declaration_at g l = 12 * l.self.now.room + 7

abbrev pub decreases-declared_step : goal.decreases-declared_step
decreases-declared_step g l = 12 * l.self.now.room + 8

abbrev pub decreases-list_step : goal.decreases-list_step
decreases-list_step g l = 12 * l.self.now.room + 9

abbrev pub invariant-list_at-loop-turn : goal.invariant-list_at-loop-turn
invariant-list_at-loop-turn g l =
    let step = list_step (l.fn.self.room - 1) (name_of_option l.fn.head.name) in
    IsTurning (repeat step give_members (l._turn-end - l._turn) (members_of l.state l.so_far) (meaning l.state) l.cursor) (repeat step give_members (count_ahead l.fn.cursor) (behind_bases (trees_held l.fn.state l.fn.bases) l.fn.head.access) (meaning l.fn.state) l.fn.cursor) (AreMembers l.state l.so_far) l.fn.state l.state
