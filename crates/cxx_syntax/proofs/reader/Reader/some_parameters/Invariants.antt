use Rattle.std.specs.Prelude.{◌-◌}
use Rattle.cxx_model.specs.declared.limits.TheConstants as limits
use Rattle.cxx_reading.specs.Reads.{repeat}
use Rattle.cxx_reading.specs.Syntax.{parameter_step, parameters_over, some_parameters}
use Rattle.cxx_cursor.specs.Looping.{IsTurning}
use Rattle.cxx_cursor.specs.Views.{AreParameters, parameters_of}
use Rattle.cxx_tree.specs.Held.{meaning}
use Rattle.cxx_syntax.proofs.reader.Reader.some_parameters.Given as goal

abbrev pub invariant-loop-turn : goal.invariant-loop-turn
invariant-loop-turn g l =
    let asks = g.K.Kinds.asks l.fn.self.kinds.now l.fn.self.room in
    let fallback = g.D.Defaults.fallback_by l.fn.defaults in
    let inner = g.N.Nested.inner l.fn.self.nested.now in
    IsTurning (repeat (parameter_step asks fallback inner) (parameters_over asks) (limits.MOST_ARGUMENTS - l._turn) (parameters_of l.state l.so_far) (meaning l.state) l.cursor) (some_parameters asks fallback inner l.fn.scope.0 (meaning l.fn.state) l.fn.cursor) (AreParameters l.state l.so_far) l.fn.state l.state
