-- What is asked while an expression is read, and the readers of what stands in it.
use Rattle.std.specs.Prelude.{ℕ, List, Option}
use Rattle.cxx_model.specs.declared.stop.LimitKind.TheVariants.{Nesting}
use Rattle.cxx_model.specs.declared.tree.Kind.{Kind}
use Rattle.cxx_model.specs.Types.Trees.{CxxType}
use Rattle.cxx_phrases.specs.declared.level.Level.{Level}
use Rattle.cxx_phrases.specs.declared.shape.TypeShape.{TypeShape}
use Rattle.cxx_phrases.specs.declared.shape.TypeShape.TheVariants as shape
use Rattle.cxx_reading.specs.Reads.{Reads, Asks, give, limited}
use Rattle.cxx_reading.specs.Trees.{CxxTree, CxxPath}

-- Questions to the user of the readers, and a reader of types, over any state.
pub record Phrases (S : Type 0) : Type 0 where
  -- how many more brackets and operators that count for the nesting there may be
  pub room : ℕ
  -- 3.4: what a name is to a reader
  pub kind : CxxPath → Asks S Kind
  -- 7.1.5.2: the type that a name of that kind names
  pub type_named : CxxPath → Asks S CxxType
  -- clause 5: an expression is read as a whole; the answer is its tree with what it means
  pub whole : CxxTree → Asks S CxxTree
  -- 8.1: a type, with the trees of what it is written of
  pub type_id : Reads S (CxxType × List CxxTree)

-- The readers behind a bracket or an operator that was taken, which counts for the nesting.
pub record Inner (S : Type 0) : Type 0 where
  -- clause 5
  pub expression : Level → Reads S CxxTree
  -- 5.3.3: behind `sizeof`: the type, where one is written, and the trees of that, or else of the operand
  pub sized : Reads S (Option CxxType × List CxxTree)
  -- 8.1
  pub type_id : Reads S (CxxType × List CxxTree)
  -- 8.2: whether a type stands there up to the end of the bracket; where it does, what is ahead is behind that
  pub type_passed : Reads S TypeShape

-- where there is no room for a bracket
abbrev pub too_deep : {S : Type 0} → Inner S
too_deep = record {
  expression = λ level. limited Nesting;
  sized = limited Nesting;
  type_id = limited Nesting;
  type_passed = give shape.NoType;
}
