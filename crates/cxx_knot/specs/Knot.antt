-- How readers nest: what is read behind a bracket is read by a function value, which follows the definition.
use Rattle.std.specs.Prelude.{ℕ, ℤ, ◌≡◌, Bool, false, List, [], Option, None, Result}
use denote.Ref.{Bor, MutBor}
use Rattle.std.specs.Fn.{Shared}
use Rattle.cxx_model.specs.declared.base.Base.TheVariants as base
use Rattle.cxx_model.specs.declared.stop.Stop.{Stop}
use Rattle.cxx_model.specs.Types.Trees.{CxxType, fundamental}
use Rattle.cxx_phrases.specs.declared.shape.TypeShape.{TypeShape}
use Rattle.cxx_phrases.specs.declared.shape.TypeShape.TheVariants as shape
use Rattle.cxx_phrases.specs.Views.{IsSized, IsWritten, sized_of, written_of}
use Rattle.cxx_reading.specs.Declarators as definition
use Rattle.cxx_reading.specs.Declarators.{no_declarator_yet}
use Rattle.cxx_reading.specs.Kinds.{Kinds}
use Rattle.cxx_reading.specs.Reads.{Ahead, Asks}
use Rattle.cxx_reading.specs.State.{CxxState}
use Rattle.cxx_reading.specs.Syntax.{no_parameters}
use Rattle.cxx_reading.specs.Trees.{CxxTree}
use Rattle.cxx_cursor.specs.Asking.{IsTreeKnown}
use Rattle.cxx_cursor.specs.Reading.{IsRead}
use Rattle.cxx_cursor.specs.Views.{AreParameters, AreTreesHeld, IsDeclarator, IsValue, declarator_of, parameters_of, trees_held, value_of}
use Rattle.cxx_tree.specs.Arena.{tree_in}
use Rattle.cxx_tree.specs.Held.{Held, meaning, tree, trees}
use Rattle.cxx_knot.specs.declared.behind.Entrance.{Entrance}
use Rattle.cxx_knot.specs.declared.behind.Entrance.TheVariants as at
use Rattle.cxx_knot.specs.declared.behind.Found.{Found}
use Rattle.cxx_knot.specs.declared.behind.Found.TheVariants as found
use Rattle.cxx_knot.specs.Readers.{Asking, Both, Offering, both}

-- all that a user answers
abbrev pub asking_by : {K : Type 0} → (K → ℕ → Kinds CxxState) → (K → ℕ → CxxTree → Asks CxxState CxxTree) → (K → Offering CxxState) → K → ℕ → Asking CxxState
asking_by asks wholes offers kinds room = record { kinds = asks kinds room; whole = wholes kinds room; defaults = offers kinds }

-- ---- what was read, by its kind

abbrev pub the_declarator : Held → Found → definition.Declarator
the_declarator held (found.Declarator d) = declarator_of held d
the_declarator held _ = no_declarator_yet

abbrev pub IsTheDeclarator : Held → Found → Type 0
IsTheDeclarator held (found.Declarator d) = IsDeclarator held d
IsTheDeclarator held _ = ⊥

abbrev pub the_value : Held → Found → Option ℤ × List CxxTree
the_value held (found.Value value parts) = value_of held (value, parts)
the_value held _ = (None, [])

abbrev pub IsTheValue : Held → Found → Type 0
IsTheValue held (found.Value value parts) = IsValue held (value, parts)
IsTheValue held _ = ⊥

abbrev pub the_parameters : Held → Found → definition.ParameterTypes
the_parameters held (found.Parameters p) = parameters_of held p
the_parameters held _ = no_parameters 0

abbrev pub AreTheParameters : Held → Found → Type 0
AreTheParameters held (found.Parameters p) = AreParameters held p
AreTheParameters held _ = ⊥

abbrev pub the_trees : Held → Found → List CxxTree
the_trees held (found.Trees numbers) = trees_held held numbers
the_trees held _ = []

abbrev pub AreTheTrees : Held → Found → Type 0
AreTheTrees held (found.Trees numbers) = AreTreesHeld held numbers
AreTheTrees held _ = ⊥

abbrev pub the_answer : Held → Found → Bool
the_answer held (found.Holds answer) = answer
the_answer held _ = false

abbrev pub IsTheAnswer : Held → Found → Type 0
IsTheAnswer held (found.Holds answer) = Unit {0}
IsTheAnswer held _ = ⊥

abbrev pub the_tree : Held → Found → CxxTree
the_tree held (found.Tree number) = tree held number
the_tree held _ = tree_in (trees held) 0

abbrev pub IsTheTree : Held → Found → Type 0
IsTheTree held (found.Tree number) = IsTreeKnown held number
IsTheTree held _ = ⊥

abbrev pub the_sized : Held → Found → Option CxxType × List CxxTree
the_sized held (found.Sized of parts) = sized_of held (of, parts)
the_sized held _ = (None, [])

abbrev pub IsTheSized : Held → Found → Type 0
IsTheSized held (found.Sized of parts) = IsSized held (of, parts)
IsTheSized held _ = ⊥

abbrev pub the_type : Held → Found → CxxType × List CxxTree
the_type held (found.Written of parts) = written_of held (of, parts)
the_type held _ = (fundamental base.Void, [])

abbrev pub IsTheType : Held → Found → Type 0
IsTheType held (found.Written of parts) = IsWritten held (of, parts)
IsTheType held _ = ⊥

abbrev pub the_shape : Held → Found → TypeShape
the_shape held (found.Shape one) = one
the_shape held _ = shape.NoType

abbrev pub IsTheShape : Held → Found → Type 0
IsTheShape held (found.Shape one) = Unit {0}
IsTheShape held _ = ⊥

-- ---- all that may be read there

-- what is answered follows the reader of its kind
abbrev pub Follows : Both CxxState → Entrance → Held → Ahead → Result Found Stop → Held → Ahead → Type 0
Follows all (at.Pointed naming) old start result new end = IsRead the_declarator IsTheDeclarator old new end result (all.types.pointed naming (meaning old) start)
Follows all (at.Referred naming) old start result new end = IsRead the_declarator IsTheDeclarator old new end result (all.types.referred naming (meaning old) start)
Follows all (at.Grouped naming) old start result new end = IsRead the_declarator IsTheDeclarator old new end result (all.types.grouped naming (meaning old) start)
Follows all (at.Bound is_first) old start result new end = IsRead the_value IsTheValue old new end result (all.types.bound is_first (meaning old) start)
Follows all at.Parameters old start result new end = IsRead the_parameters AreTheParameters old new end result (all.types.parameters (meaning old) start)
Follows all (at.Enumerators number) old start result new end = IsRead the_trees AreTheTrees old new end result (all.types.enumerators number.0 (meaning old) start)
Follows all at.HoldsParameters old start result new end = IsRead the_answer IsTheAnswer old new end result (all.types.holds_parameters (meaning old) start)
Follows all (at.Expression level) old start result new end = IsRead the_tree IsTheTree old new end result (all.phrases.expression level (meaning old) start)
Follows all at.Sized old start result new end = IsRead the_sized IsTheSized old new end result (all.phrases.sized (meaning old) start)
Follows all at.TypeId old start result new end = IsRead the_type IsTheType old new end result (all.phrases.type_id (meaning old) start)
Follows all at.TypePassed old start result new end = IsRead the_shape IsTheShape old new end result (all.phrases.type_passed (meaning old) start)

abbrev pub Calls : Type 0 → Type 0 → Type 1
Calls K F = Shared F (Bor K × (MutBor Held × (MutBor Ahead × (Entrance × (ℕ × Unit {0}))))) (Result Found Stop × (MutBor Held × (MutBor Ahead × Unit {0})))

-- The user is ready, and the function value may be called and follows the readers with that much room.
pub record Nests {K F : Type 0} (asks : K → ℕ → Kinds CxxState) (wholes : K → ℕ → CxxTree → Asks CxxState CxxTree) (offers : K → Offering CxxState) (is_ready : K → Type 0) (calls : Calls K F) (kinds : K) (room : ℕ) (read : F) : Type 0 where
  pub ready : is_ready kinds
  pub callable : (k : Bor K) (state : MutBor Held) (cursor : MutBor Ahead) (what : Entrance) → k.now ≡ kinds → calls.pre read (k, (state, (cursor, (what, (room, tt)))))
  pub reads : (k : Bor K) (state : MutBor Held) (cursor : MutBor Ahead) (what : Entrance) (result : Result Found Stop) (state' : MutBor Held) (cursor' : MutBor Ahead) → k.now ≡ kinds → calls.post read (k, (state, (cursor, (what, (room, tt))))) (result, (state', (cursor', tt))) → Follows (both (asking_by asks wholes offers kinds) room) what state.now cursor.now result state'.now cursor'.now
