use Rattle.std.proofs.Common.{◌∙◌, ◌+◌, ◌<◌, ◌≤◌, [], Ok, ap, sym, map, drop, length, get_or, arith}
use Rattle.cxx_model.specs.Facts.Declarations.{name_at}
use Rattle.cxx_meaning.specs.Lookups.Ordinary.{ordinary_in}
use Rattle.cxx_meaning.specs.Lookups.Scopes.{unit_scope}
use Rattle.cxx_members.specs.Views.{graph_of, wanted_at}
use Rattle.cxx_scopes.specs.Views.{shown_of}
use Rattle.cxx_scopes.proofs.Outward.{goes_out, found_there, stops_there, next_scope, no_scope}
use Rattle.cxx_scopes.proofs.ordinary.outward.Goals as goal

pub returns-in-Ok-Some : goal.returns-in-Ok-Some
returns-in-Ok-Some g c =
    let looking = c.args.looking.now in
    let graph = graph_of looking in
    let wanted = wanted_at c.args.sought.now.wanted in
    let name = name_at looking.types.now c.args.sought.now.name.now in
    let cut = c.args.cut in
    let scopes = c.args.scopes.now in
    let i = c.loop-scope.scope-index in
    let shown = map shown_of c.loop-scope.shown.items in
    let lt : i < length scopes = omega arith in
    let here = next_scope graph wanted name cut shown scopes i (ordinary_in graph wanted name cut [] scopes) lt c.loop-scope.invariant in
    sym here ∙ found_there graph wanted name cut shown (get_or scopes i unit_scope) (drop (i + 1) scopes) c.in-Ok-Some.found (c.in-Ok-Some.ensures.found ∙ ap Ok c.in-Ok-Some.field-0-is)

pub returns-in-Err : goal.returns-in-Err
returns-in-Err g c =
    let looking = c.args.looking.now in
    let graph = graph_of looking in
    let wanted = wanted_at c.args.sought.now.wanted in
    let name = name_at looking.types.now c.args.sought.now.name.now in
    let cut = c.args.cut in
    let scopes = c.args.scopes.now in
    let i = c.loop-scope.scope-index in
    let shown = map shown_of c.loop-scope.shown.items in
    let lt : i < length scopes = omega arith in
    let here = next_scope graph wanted name cut shown scopes i (ordinary_in graph wanted name cut [] scopes) lt c.loop-scope.invariant in
    stops_there graph wanted name cut shown (get_or scopes i unit_scope) (drop (i + 1) scopes) c.in-Err.wait (ordinary_in graph wanted name cut [] scopes) c.in-Err.ensures.found here

pub loop-scope-preserved : goal.loop-scope-preserved
loop-scope-preserved g c =
    let looking = c.args.looking.now in
    let graph = graph_of looking in
    let wanted = wanted_at c.args.sought.now.wanted in
    let name = name_at looking.types.now c.args.sought.now.name.now in
    let cut = c.args.cut in
    let scopes = c.args.scopes.now in
    let i = c.loop-scope.scope-index in
    let shown = map shown_of c.loop-scope.shown.items in
    let lt : i < length scopes = omega arith in
    let here = next_scope graph wanted name cut shown scopes i (ordinary_in graph wanted name cut [] scopes) lt c.loop-scope.invariant in
    sym (goes_out graph wanted name cut shown (map shown_of c.found_next.new.shown.items) (get_or scopes i unit_scope) (drop (i + 1) scopes) (c.in-Ok-None.ensures.found ∙ ap Ok c.in-Ok-None.field-0-is) c.in-Ok-None.ensures.shown) ∙ here

pub returns : goal.returns
returns g c =
    let looking = c.args.looking.now in
    let graph = graph_of looking in
    let wanted = wanted_at c.args.sought.now.wanted in
    let name = name_at looking.types.now c.args.sought.now.name.now in
    let cut = c.args.cut in
    let scopes = c.args.scopes.now in
    let i = c.loop-scope.scope-index in
    let shown = map shown_of c.loop-scope.shown.items in
    let le : length scopes ≤ i = omega arith in
    sym c.loop-scope.invariant ∙ no_scope graph wanted name cut shown scopes i le
