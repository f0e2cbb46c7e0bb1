-- The bodies of functions (8.4).
use Rattle.std.specs.Prelude.{ℕ, zero, suc, Bool, false, ◌&&◌, nat_eq, if◌then◌else◌, List, [], ◌∷◌, length, Option, Some, None}
use Rattle.cxx_model.specs.declared.base.Base.TheVariants.{Void}
use Rattle.cxx_model.specs.declared.fault.FaultText.TheVariants as says
use Rattle.cxx_model.specs.declared.place.Place.{Place}
use Rattle.cxx_model.specs.declared.stop.LimitKind.TheVariants.{Nesting}
use Rattle.cxx_model.specs.Facts.Declarations as facts
use Rattle.cxx_model.specs.Facts.Declarations.{CxxFact, CxxGraph, Declares}
use Rattle.cxx_model.specs.Text.Lexemes.{Lexeme}
use Rattle.cxx_model.specs.Types.Trees.{CxxType, fundamental, function_of}
use Rattle.cxx_reading.specs.Declaring.{begin_body, define_declared, end_body}
use Rattle.cxx_reading.specs.Labels.{label_from}
use Rattle.cxx_reading.specs.Reads.{Reads, ◌>>=◌, got, give, ask, fault_at, limited, looked, taken}
use Rattle.cxx_reading.specs.State.{CxxState}
use Rattle.cxx_reading.specs.Trees.{CxxTree, tree_of}
use Rattle.cxx_reading.specs.Units.{is_incomplete}
use Rattle.cxx_statements.specs.Productions as production
use Rattle.cxx_statements.specs.Statements.{body_at}
use Rattle.cxx_language.specs.Statements.{parts_at}

-- the scope where the reader stands
abbrev pub standing : Reads CxxState ℕ
standing state ahead = got state.here.scope state ahead

-- the number of the next declaration
abbrev pub next_number : Reads CxxState ℕ
next_number state ahead = got (length state.graph.facts) state ahead

-- 8.3.5: what a function returns
abbrev pub result_of : CxxType → CxxType
result_of (function_of result parameters ellipsis cv) = result
result_of of = fundamental Void

-- From the `{` on, of the function with a declaration, in the scope of its parameters. The brace counts for the nesting.
unfoldable pub statements_within : ℕ → ℕ → ℕ → CxxType → Reads CxxState (List CxxTree)
statements_within zero list number result = limited Nesting
statements_within (suc room) list number result = do
  outside ← standing
  begun ← ask (begin_body list number result)
  opened ← taken
  statements ← body_at parts_at room
  ended ← ask (end_body outside)
  give statements

-- 9.2: the place of the first parameter in a list whose class is incomplete
abbrev pub is_incomplete_object : CxxGraph → Declares → Bool
is_incomplete_object graph (facts.object of kind is_mutable value first) = is_incomplete graph of
is_incomplete_object graph _ = false

abbrev pub is_incomplete_in : CxxGraph → ℕ → CxxFact → Bool
is_incomplete_in graph list fact = nat_eq fact.scope list && is_incomplete_object graph fact.what

abbrev pub incomplete_among : CxxGraph → ℕ → List CxxFact → Option Place
incomplete_among graph list [] = None
incomplete_among graph list (fact ∷ others) = if is_incomplete_in graph list fact then Some fact.place else incomplete_among graph list others

abbrev pub whole_by : Option Place → Reads CxxState (Unit {0})
whole_by None = give tt
whole_by (Some place) = fault_at place says.IncompleteClass

-- 8.3.5: what a function that is defined returns, and its parameters, are of complete types
unfoldable pub complete_head : Lexeme → CxxType → ℕ → Reads CxxState (Unit {0})
complete_head name of list state ahead =
    if is_incomplete state.graph (result_of of) then fault_at name.place says.IncompleteClass state ahead else
    whole_by (incomplete_among state.graph list state.graph.facts) state ahead

-- 3.2: A function is defined once. Its body stands for the block that it is, by the declaration of its scope.
unfoldable pub function_body : ℕ → Lexeme → CxxType → ℕ → ℕ → Reads CxxState CxxTree
function_body room name of number list = do
  is_first ← ask (define_declared name number)
  whole ← complete_head name of list
  from ← looked
  scope ← next_number
  statements ← statements_within room list number (result_of of)
  to ← looked
  give (tree_of (record (label_from production.block [] from to) { target = Some scope }) statements)
