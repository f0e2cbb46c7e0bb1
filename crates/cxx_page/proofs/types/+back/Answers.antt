use Rattle.std.proofs.Common.{rules, sym, length, get_or, Option, true, [], ◌++◌, ◌≡◌, ◌<◌, ◌+◌, ◌*◌, slice_index_or, arith}
use Rattle.cxx_model.specs.declared.types.TypeId.{TypeId}
use Rattle.cxx_model.specs.Types.Numbers.{type_at, types_at}
use Rattle.cxx_model.specs.Types.Trees.{CxxType}
use Rattle.cxx_reading.specs.Declarators.{no_cv}
use Rattle.cxx_reading.specs.Words.{declared}
use Rattle.cxx_page.specs.Sheets.{Sheet, put}
use Rattle.cxx_page.specs.Sides.{comma_unless, listed}
use Rattle.cxx_types.proofs.Reading.{number-inside}
use Rattle.cxx_page.specs.Views.{tags_of}
use Rattle.cxx_page.proofs.Listing.{goes_on, no_room, fails}
use Rattle.cxx_page.proofs.types.+back.Goals as goal

pub write_listed-write_listed_type-requires : goal.write_listed-write_listed_type-requires
write_listed-write_listed_type-requires t c =
    let within : (slice_index_or c.args.parameters.now c.loop-parameter.parameter-index (record { 0 = 0 })).0 < c.args.end.0 = number-inside c.args.end.0 c.args.parameters.now c.loop-parameter.parameter-index (record { 0 = 0 }) c.loop-parameter-test.true c.requires.below in
    let whole : t ≡ 5 * c.args.end.0 + 2 = sym c.decreases in
    let small : 5 * (slice_index_or c.args.parameters.now c.loop-parameter.parameter-index (record { 0 = 0 })).0 + 6 < t = omega arith in
    let known : c.args.end.0 < length c.args.types.now = c.requires.known in
    (small, omega arith)

pub write_listed-loop-parameter-preserved : goal.write_listed-loop-parameter-preserved
write_listed-loop-parameter-preserved t c =
    goes_on (tags_of c.args.tags.now) c.args.types.now c.args.parameters.now c.args.ellipsis c.loop-parameter.is_first c.loop-parameter.parameter-index (record { 0 = 0 }) c.loop-parameter.page c.write_listed_type.new.page _ c.loop-parameter-test.true c.loop-parameter.invariant c.in_ok-write_listed_type.ensures

pub write_listed-returns-in_err-write_listed_type : goal.write_listed-returns-in_err-write_listed_type
write_listed-returns-in_err-write_listed_type t c =
    let d : TypeId = record { 0 = 0 } in
    let next : CxxType = type_at c.args.types.now (get_or c.args.parameters.now c.loop-parameter.parameter-index d).0 in
    let part : Option Sheet = put (comma_unless c.loop-parameter.is_first ++ declared (tags_of c.args.tags.now) no_cv next []) c.loop-parameter.page in
    let whole : Option Sheet = put (listed (tags_of c.args.tags.now) true (types_at c.args.types.now c.args.parameters.now) c.args.ellipsis) c.args.page.now in
    let failed = fails c.in_err-write_listed_type.field-0.0 c.write_listed_type.new.page part whole (no_room (tags_of c.args.tags.now) c.args.types.now c.args.parameters.now c.args.ellipsis c.loop-parameter.is_first c.loop-parameter.parameter-index d c.loop-parameter.page whole c.loop-parameter-test.true c.loop-parameter.invariant) c.in_err-write_listed_type.ensures in
    search rules
