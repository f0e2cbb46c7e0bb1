-- What is seen of a state.
use Rattle.std.specs.Prelude.{ℕ, List, drop}
use Rattle.cxx_model.specs.Facts.Declarations.{CxxFact, facts_at}
use Rattle.cxx_tree.specs.Held.{Held}

-- what is declared, in order
abbrev pub facts_in : Held → List CxxFact
facts_in held = facts_at held.types held.graph.facts

-- what is declared from a number on
abbrev pub facts_from : Held → ℕ → List CxxFact
facts_from held number = facts_at held.types (drop number held.graph.facts)
