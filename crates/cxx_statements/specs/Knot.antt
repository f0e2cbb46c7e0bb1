-- How the readers of statements are called behind a bracket.
use Rattle.std.specs.Prelude.{ℕ, ◌≡◌, List, [], Result}
use denote.Ref.{Bor, MutBor}
use Rattle.std.specs.Fn.{Shared}
use Rattle.cxx_model.specs.declared.stop.Stop.{Stop}
use Rattle.cxx_reading.specs.Reads.{Ahead}
use Rattle.cxx_reading.specs.State.{CxxState}
use Rattle.cxx_reading.specs.Trees.{CxxTree}
use Rattle.cxx_statements.specs.declared.behind.Entrance.{Entrance}
use Rattle.cxx_statements.specs.declared.behind.Entrance.TheVariants as at
use Rattle.cxx_statements.specs.declared.behind.Found.{Found}
use Rattle.cxx_statements.specs.declared.behind.Found.TheVariants as found
use Rattle.cxx_statements.specs.Statements.{Around, Parts, Within, nothing_around, within}
use Rattle.cxx_statements.specs.Views.{IsAround, IsSeveral, IsStated, IsTarget, around_of, several_of, stated_of, target_of}
use Rattle.cxx_cursor.specs.Asking.{IsTreeKnown}
use Rattle.cxx_cursor.specs.Reading.{IsRead}
use Rattle.cxx_cursor.specs.Views.{AreTreesHeld, trees_held}
use Rattle.cxx_tree.specs.Arena.{tree_in}
use Rattle.cxx_tree.specs.Held.{Held, meaning, tree, trees}

-- ---- what was read, by its kind

abbrev pub the_tree : Held → Found → CxxTree
the_tree held (found.Tree number) = tree held number
the_tree held _ = tree_in (trees held) 0

abbrev pub IsTheTree : Held → Found → Type 0
IsTheTree held (found.Tree number) = IsTreeKnown held number
IsTheTree held _ = ⊥

abbrev pub the_trees : Held → Found → List CxxTree
the_trees held (found.Trees numbers) = trees_held held numbers
the_trees held _ = []

abbrev pub AreTheTrees : Held → Found → Type 0
AreTheTrees held (found.Trees numbers) = AreTreesHeld held numbers
AreTheTrees held _ = ⊥

abbrev pub the_statement : Held → Found → CxxTree × Around
the_statement held (found.Statement one) = stated_of held one
the_statement held _ = (tree_in (trees held) 0, nothing_around)

abbrev pub IsTheStatement : Held → Found → Type 0
IsTheStatement held (found.Statement one) = IsStated held one
IsTheStatement held _ = ⊥

abbrev pub the_statements : Held → Found → List CxxTree × Around
the_statements held (found.Statements all) = several_of held all
the_statements held _ = ([], nothing_around)

abbrev pub AreTheStatements : Held → Found → Type 0
AreTheStatements held (found.Statements all) = IsSeveral held all
AreTheStatements held _ = ⊥

-- ---- all that may be read there

-- the types that it names are there
abbrev pub IsEntrance : Held → Entrance → Type 0
IsEntrance held (at.Condition target) = IsTarget held target
IsEntrance held at.LastCondition = Unit {0}
IsEntrance held at.LoopParts = Unit {0}
IsEntrance held (at.SubStatement around) = IsAround held around
IsEntrance held (at.Statements around) = IsAround held around

-- what is answered follows the reader of its kind
abbrev pub Follows : Within CxxState → Entrance → Held → Ahead → Result Found Stop → Held → Ahead → Type 0
Follows all (at.Condition target) old start result new end = IsRead the_tree IsTheTree old new end result (all.condition (target_of old target) (meaning old) start)
Follows all at.LastCondition old start result new end = IsRead the_tree IsTheTree old new end result (all.last_condition (meaning old) start)
Follows all at.LoopParts old start result new end = IsRead the_trees AreTheTrees old new end result (all.loop_parts (meaning old) start)
Follows all (at.SubStatement around) old start result new end = IsRead the_statement IsTheStatement old new end result (all.sub_statement (around_of old around) (meaning old) start)
Follows all (at.Statements around) old start result new end = IsRead the_statements AreTheStatements old new end result (all.statements (around_of old around) (meaning old) start)

abbrev pub Calls : Type 0 → Type 0 → Type 1
Calls P F = Shared F (Bor P × (MutBor Held × (MutBor Ahead × (Entrance × (ℕ × Unit {0}))))) (Result Found Stop × (MutBor Held × (MutBor Ahead × Unit {0})))

-- who calls a reader is ready, and what is read is known
pub record Enters {P : Type 0} (is_ready : P → Type 0) (parts : P) (held : Held) (what : Entrance) : Type 0 where
  pub ready : is_ready parts
  pub known : IsEntrance held what

-- The user is ready, and the function value may be called and follows the readers with that much room.
pub record Nests {P F : Type 0} (asks : P → ℕ → Parts CxxState) (is_ready : P → Type 0) (calls : Calls P F) (parts : P) (room : ℕ) (read : F) : Type 0 where
  pub ready : is_ready parts
  pub callable : (p : Bor P) (state : MutBor Held) (cursor : MutBor Ahead) (what : Entrance) → p.now ≡ parts → IsEntrance state.now what → calls.pre read (p, (state, (cursor, (what, (room, tt)))))
  pub reads : (p : Bor P) (state : MutBor Held) (cursor : MutBor Ahead) (what : Entrance) (result : Result Found Stop) (state' : MutBor Held) (cursor' : MutBor Ahead) → p.now ≡ parts → calls.post read (p, (state, (cursor, (what, (room, tt))))) (result, (state', (cursor', tt))) → Follows (within (asks parts) room) what state.now cursor.now result state'.now cursor'.now
