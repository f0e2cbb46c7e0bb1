-- what is left to write on the page is what was to be written on the first one
use Rattle.std.proofs.Common.{true, ◌≡◌, ◌+◌, ◌*◌, drop}
use Rattle.cxx_model.specs.Types.Numbers.{types_at}
use Rattle.cxx_page.specs.Sheets.{put}
use Rattle.cxx_page.specs.Sides.{listed}
use Rattle.cxx_page.specs.Views.{tags_of}
use Rattle.cxx_page.proofs.types.+back.Given as goal

abbrev pub decreases-write_listed : goal.decreases-write_listed
decreases-write_listed l = 5 * l.end.0 + 2

abbrev pub decreases-write_list : goal.decreases-write_list
decreases-write_list l = 5 * l.end.0 + 3

abbrev pub decreases-write_declaration_back : goal.decreases-write_declaration_back
decreases-write_declaration_back l = 5 * l.number.0 + 4

abbrev pub decreases-write_type : goal.decreases-write_type
decreases-write_type l = 5 * l.number.0 + 5

abbrev pub decreases-write_listed_type : goal.decreases-write_listed_type
decreases-write_listed_type l = 5 * l.number.0 + 6

abbrev pub invariant-write_listed-loop-parameter : goal.invariant-write_listed-loop-parameter
invariant-write_listed-loop-parameter l = put (listed (tags_of l.tags) l.is_first (types_at l.types (drop l.parameter-index l.parameters)) l.ellipsis) l.page ≡ put (listed (tags_of l.tags) true (types_at l.types l.parameters) l.ellipsis) l.initial.page
