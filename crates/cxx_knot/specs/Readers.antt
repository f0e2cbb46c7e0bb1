-- The readers of declarations and those of expressions inside one another: bounds (8.3.4) and the values of enumerators
-- (7.2) are expressions, and casts and sizes (5.3.3, 5.4) have types.
use Rattle.std.specs.Prelude.{ℕ, zero, suc, ℤ, Bool, true, false, if◌then◌else◌, List, [], ◌∷◌, ◌++◌, Option, Some, None}
use Rattle.cxx_model.specs.declared.punct.TheConstants as punct
use Rattle.cxx_model.specs.declared.place.Place.{Place}
use Rattle.cxx_model.specs.Text.Lexemes.{Lexeme}
use Rattle.cxx_model.specs.Types.Trees.{CxxType}
use Rattle.cxx_reading.specs.Kinds.{Fallback, Kinds, Readers}
use Rattle.cxx_reading.specs.Kinds as declarations
use Rattle.cxx_reading.specs.Reads.{Reads, Asks, Turn, ◌>>=◌, got, give, ask, looked, taken, tokens, kind_ahead, count_ahead, behind, repeat}
use Rattle.cxx_reading.specs.Shapes.{parameters_shape}
use Rattle.cxx_reading.specs.Syntax.{pointed_at, referred_at, grouped_at, parameters_at, no_value, enumerator_ended}
use Rattle.cxx_reading.specs.Tokens.{is_punct, is_name, token_taken, punct_taken, refused}
use Rattle.cxx_reading.specs.Trees.{CxxTree}
use Rattle.cxx_phrases.specs.Knot.{type_id_at, inner_by}
use Rattle.cxx_phrases.specs.Levels.{assignment_at, conditional_at}
use Rattle.cxx_phrases.specs.Phrases.{Phrases, Inner}
use Rattle.cxx_phrases.specs.Phrases as expressions
use Rattle.cxx_later.specs.Defaults.{deferred_passed, passed_default_tree}

-- What is asked of a default argument (8.3.6): whether those here are read where the outermost class has ended; what was
-- passed over then, of the parameter with an index. Of another one: where it begins, with the place of its `=`, whether another
-- one is being read round it; and behind it, with that place, that answer, the index of its parameter and the type, its tree
-- as it is converted.
pub record Offering (S : Type 0) : Type 0 where
  pub is_later : Asks S Bool
  pub passed : ℕ → CxxTree → Asks S (Unit {0})
  pub begun : Place → Asks S Bool
  pub ended : Place → Bool → ℕ → CxxType → CxxTree → Asks S CxxTree

-- What is asked while a unit is read: of names and declarations, what an expression means, and of default arguments.
pub record Asking (S : Type 0) : Type 0 where
  pub kinds : Kinds S
  pub whole : CxxTree → Asks S CxxTree
  pub defaults : Offering S

-- The readers behind a bracket or an operator that was taken: those of declarators, and those of expressions.
pub record Both (S : Type 0) : Type 0 where
  pub types : Readers S
  pub phrases : Inner S

-- what a reader of expressions asks, with so much room
abbrev pub here : {S : Type 0} → Asking S → Both S → ℕ → Phrases S
here asks inner room = record {
  room = room;
  kind = asks.kinds.kind;
  type_named = asks.kinds.type_named;
  whole = asks.whole;
  type_id = type_id_at asks.kinds inner.types;
}

-- ---- constant expressions (5.19)

-- one, with its value, which is asked before what follows is looked at
unfoldable pub valued : {S : Type 0} → Asking S → Phrases S → Inner S → Reads S (Option ℤ × List CxxTree)
valued asks at inner = do
  tree ← conditional_at at inner
  value ← ask (asks.kinds.constant tree)
  give (Some value, tree ∷ [])

-- ---- bounds (8.3.4)

unfoldable pub bound_value : {S : Type 0} → Asking S → Phrases S → Inner S → Reads S (Option ℤ × List CxxTree)
bound_value asks at inner = do
  value ← valued asks at inner
  closed ← tokens (punct_taken punct.RIGHT_BRACKET)
  give value

-- behind `[`
unfoldable pub bound_at : {S : Type 0} → Asking S → Phrases S → Inner S → Bool → Reads S (Option ℤ × List CxxTree)
bound_at asks at inner is_first state ahead =
    if is_punct punct.RIGHT_BRACKET (kind_ahead ahead) then (if is_first then got (None, []) state (behind ahead) else refused state ahead) else
    bound_value asks at inner state ahead

-- ---- enumerators (7.2)

unfoldable pub value_at : {S : Type 0} → Asking S → Phrases S → Inner S → Reads S (Option ℤ × List CxxTree)
value_at asks at inner state ahead =
    if is_punct punct.EQUALS (kind_ahead ahead) then valued asks at inner state (behind ahead) else no_value state ahead

unfoldable pub enumerator_at : {S : Type 0} → Asking S → Phrases S → Inner S → ℕ → List CxxTree → Lexeme → Reads S (List CxxTree)
enumerator_at asks at inner number so_far name = do
  value ← value_at asks at inner
  declared ← ask (asks.kinds.enumerator number name value.0)
  give (so_far ++ value.1)

unfoldable pub enumerator_step : {S : Type 0} → Asking S → Phrases S → Inner S → ℕ → List CxxTree → Reads S (Turn (List CxxTree) (List CxxTree))
enumerator_step asks at inner number so_far state ahead =
    if is_name (kind_ahead ahead) then ((token_taken >>= enumerator_at asks at inner number so_far) >>= enumerator_ended) state ahead else refused state ahead

-- behind the `{` of an enumeration
unfoldable pub enumerators_at : {S : Type 0} → Asking S → Phrases S → Inner S → ℕ → Reads S (List CxxTree)
enumerators_at asks at inner number state ahead =
    if is_punct punct.RIGHT_BRACE (kind_ahead ahead) then got [] state (behind ahead) else
    repeat (enumerator_step asks at inner number) give (count_ahead ahead) [] state ahead

-- ---- default arguments (8.3.6)

-- from the `=` behind the parameter with an index and a type
unfoldable pub fallback_now : {S : Type 0} → Asking S → Phrases S → Inner S → Fallback S
fallback_now asks at inner index of = do
  equals ← taken
  was ← ask (asks.defaults.begun equals)
  tree ← assignment_at at inner
  converted ← ask (asks.defaults.ended equals was index of tree)
  give (converted ∷ [])

-- in a class it is passed over, and read where the outermost one has ended
unfoldable pub fallback_later : {S : Type 0} → Asking S → ℕ → Fallback S
fallback_later asks room index of = do
  equals ← taken
  from ← looked
  passed ← tokens deferred_passed
  to ← looked
  kept ← ask (asks.defaults.passed index (passed_default_tree room equals of from to))
  give (passed_default_tree room equals of from to ∷ [])

abbrev pub fallback_by : {S : Type 0} → Asking S → Phrases S → Inner S → ℕ → CxxType → Bool → Reads S (List CxxTree)
fallback_by asks at inner index of true = fallback_later asks at.room index of
fallback_by asks at inner index of false = fallback_now asks at inner index of

unfoldable pub fallback_at : {S : Type 0} → Asking S → Phrases S → Inner S → Fallback S
fallback_at asks at inner index of = ask asks.defaults.is_later >>= fallback_by asks at inner index of

-- ---- readers inside readers

abbrev pub types_by : {S : Type 0} → Asking S → ℕ → Both S → Readers S
types_by asks room inner = record {
  pointed = pointed_at asks.kinds inner.types;
  referred = referred_at asks.kinds inner.types;
  grouped = grouped_at asks.kinds inner.types;
  bound = bound_at asks (here asks inner room) inner.phrases;
  parameters = parameters_at asks.kinds (fallback_at asks (here asks inner room) inner.phrases) inner.types;
  enumerators = enumerators_at asks (here asks inner room) inner.phrases;
  holds_parameters = parameters_shape asks.kinds inner.types;
}

abbrev pub both_by : {S : Type 0} → Asking S → ℕ → Both S → Both S
both_by asks room inner = record {
  types = types_by asks room inner;
  phrases = inner_by (here asks inner room) inner.phrases asks.kinds inner.types;
}

-- where there is no room for a bracket
abbrev pub too_deep : {S : Type 0} → Both S
too_deep = record { types = declarations.too_deep; phrases = expressions.too_deep }

-- The readers behind a bracket with room for so many more. What is asked may depend on the room.
unfoldable pub both : {S : Type 0} → (ℕ → Asking S) → ℕ → Both S
both asks zero = too_deep
both asks (suc room) = both_by (asks room) room (both asks room)
