-- What is kept of each declaration beside its name.
use Rattle.std.specs.Prelude.{List, IfSome}
use Rattle.cxx_model.specs.Facts.Declarations.{CxxFact}
use Rattle.cxx_implicit.specs.Noted.{Notes as Implies}
use Rattle.cxx_sizes.specs.Noted.{Notes as Measures}
use Rattle.cxx_tree.specs.declared.noting.Noting.{Noting}

-- What sizes need is kept of some facts, and what the members need that classes declare by themselves; each unless there
-- was no memory for it.
pub record AreNoted (noting : Noting) (all : List CxxFact) : Type 0 where
  pub layouts : IfSome noting.layouts (λ kept. Measures kept all)
  pub special : IfSome noting.special (λ kept. Implies kept all)
