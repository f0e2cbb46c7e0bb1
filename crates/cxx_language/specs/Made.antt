-- Declarators of objects, as they are declared (8, 8.5).
use Rattle.std.specs.Prelude.{ℕ, true, false, ◌++◌}
use Rattle.cxx_reading.specs.Declarators.{Declarator, declared_type}
use Rattle.cxx_reading.specs.Declaring.{declare_object, define_object}
use Rattle.cxx_reading.specs.Reads.{Reads, Ahead, ◌>>=◌, give, ask, looked}
use Rattle.cxx_reading.specs.State.{CxxState}
use Rattle.cxx_reading.specs.Trees.{CxxTree}
use Rattle.cxx_reading.specs.Units.{Said, declarator_tree, name_in}
use Rattle.cxx_language.specs.Asked.{answers, inner_at, phrases_at}
use Rattle.cxx_language.specs.Objects.{defined_part, extern_part}

unfoldable pub extern_object : ℕ → Said → Declarator → Ahead → Reads CxxState CxxTree
extern_object room said declarator from = do
  number ← ask (declare_object (name_in declarator) (declared_type declarator.layers said.of))
  parts ← extern_part answers (phrases_at room) (inner_at room).phrases (name_in declarator) (declared_type declarator.layers said.of) number
  to ← looked
  give (declarator_tree true (name_in declarator) (declared_type declarator.layers said.of) number (declarator.parts ++ parts) from to)

unfoldable pub defined_object : ℕ → Said → Declarator → Ahead → Reads CxxState CxxTree
defined_object room said declarator from = do
  number ← ask (define_object (name_in declarator) (declared_type declarator.layers said.of))
  parts ← defined_part answers (phrases_at room) (inner_at room).phrases (name_in declarator) (declared_type declarator.layers said.of) number
  to ← looked
  give (declarator_tree false (name_in declarator) (declared_type declarator.layers said.of) number (declarator.parts ++ parts) from to)
