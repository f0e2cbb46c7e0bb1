use Rattle.std.proofs.lemmas.Result.{err_from_is_err_and}
use Rattle.cxx_language.specs.Later as definition
use Rattle.cxx_later.specs.FoundDefaults.{defaults_held}
use Rattle.cxx_space.proofs.DefaultsRead.{none_left, one_more, one_stops}
use Rattle.cxx_tree.specs.Held.{meaning}
use Rattle.cxx_space.proofs.space.Space.defaults_read.Goals as goal

pub returns-in_err-later_read : goal.returns-in_err-later_read
returns-in_err-later_read g c =
    let p = err_from_is_err_and c.from_residual.result c.from_residual.ensures.1 in
    rw (p.1, p.2) (one_stops c.args.state.now c.loop-one.state c.later_read.new.state c.args.all.now c.loop-one.one-index _ c.loop-one.cursor c.later_read.new.cursor (definition.defaults_read (defaults_held c.args.state.now c.args.all.now) (meaning c.args.state.now) c.args.cursor.now) c.loop-one-test.true c.requires c.loop-one.invariant c.in_err-later_read.field-0.0 c.in_err-later_read.ensures)

pub loop-one-preserved : goal.loop-one-preserved
loop-one-preserved g c = one_more c.args.state.now c.loop-one.state c.later_read.new.state c.args.all.now c.loop-one.one-index _ c.loop-one.cursor c.later_read.new.cursor (definition.defaults_read (defaults_held c.args.state.now c.args.all.now) (meaning c.args.state.now) c.args.cursor.now) c.loop-one-test.true c.requires c.loop-one.invariant _ c.in_ok-later_read.ensures

pub returns : goal.returns
returns g c = none_left c.args.state.now c.loop-one.state c.args.all.now c.loop-one.one-index c.loop-one.cursor (definition.defaults_read (defaults_held c.args.state.now c.args.all.now) (meaning c.args.state.now) c.args.cursor.now) c.loop-one-test.false c.loop-one.invariant
