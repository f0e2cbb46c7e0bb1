-- A unit without declarations.
use Rattle.std.specs.Prelude.{◌≡◌, ◌≤◌, [], length}
use Rattle.cxx_model.specs.Facts.Fitted.{Fitted}
use Rattle.cxx_sizes.specs.Noted.{Notes}
use Rattle.cxx_constant_tests.specs.declared.unit.Unit.{Unit}

-- The types fit the graph, which has no facts, and there are at least so many types.
pub record IsUnit (unit : Unit) : Type 0 where
  pub fitted : Fitted unit.graph unit.types
  pub empty : unit.graph.facts ≡ []
  pub noted : Notes unit.layouts []
  pub known : unit.known ≤ length unit.types
