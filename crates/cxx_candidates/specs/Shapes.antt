-- Candidates that are decided and whose types are not made yet, seen as the definitions have them.
use Rattle.std.specs.Prelude.{ℕ, ◌≡◌, ◌<◌, List, [], ◌∷◌, ◌++◌, length, map, Option, Some, None, Result, Ok, Err}
use Rattle.std.specs.List.{All, fold}
use Rattle.cxx_model.specs.declared.memory.OutOfMemory.{OutOfMemory}
use Rattle.cxx_model.specs.declared.stop.Wait.{Wait}
use Rattle.cxx_model.specs.declared.stop.Wait.TheVariants as wait
use Rattle.cxx_model.specs.declared.types.ClassId.{ClassId}
use Rattle.cxx_model.specs.declared.types.EnumId.{EnumId}
use Rattle.cxx_model.specs.declared.types.TypeId.{TypeId}
use Rattle.cxx_model.specs.declared.facts.ScopeKind.{ScopeKind}
use Rattle.cxx_model.specs.Facts.Declarations as facts
use Rattle.cxx_model.specs.Facts.Declarations.{Declares}
use Rattle.cxx_model.specs.Facts.Fitted.{Fitted}
use Rattle.cxx_model.specs.Facts.Graph.{Graph, enumerations}
use Rattle.cxx_model.specs.Types.Numbers.{type_at, AreTypesBelow, Keeps}
use Rattle.cxx_model.specs.Types.Trees.{CxxType, fundamental, enumeration, pointer_to, reference_to, with_cv}
use Rattle.cxx_builtin.specs.Built.{list_at}
use Rattle.cxx_candidates.specs.Candidates.{CxxLetters, volatile}
use Rattle.cxx_candidates.specs.Sources.{CxxConversion, with_enumeration, with_pointee}
use Rattle.cxx_candidates.specs.declared.conversions.Conversion.{Conversion}
use Rattle.cxx_candidates.specs.declared.letters.Found.{Found}
use Rattle.cxx_candidates.specs.declared.letters.Letters.{Letters}
use Rattle.cxx_candidates.specs.declared.shapes.Form.{Form}
use Rattle.cxx_candidates.specs.declared.shapes.Form.TheVariants as form
use Rattle.cxx_candidates.specs.declared.shapes.Shape.{Shape}
use Rattle.cxx_candidates.specs.declared.shapes.Slot.{Slot}
use Rattle.cxx_candidates.specs.declared.shapes.Slot.TheVariants as slot
use Rattle.cxx_meaning.specs.Conversions.Asking.{Asked}
use Rattle.cxx_meaning.specs.Conversions.Kinds.{CxxKind}

-- ---- types of parameters

abbrev pub slot_at : List CxxType → Slot → CxxType
slot_at types (slot.Plain of) = fundamental of
slot_at types (slot.PointerTo to) = pointer_to (type_at types to.0)
slot_at types (slot.Enumeration number) = enumeration number.0

abbrev pub slots_at : List CxxType → List Slot → List CxxType
slots_at types slots = map (slot_at types) slots

-- what it names is there
abbrev pub IsSlotKnown : Graph → ℕ → Slot → Type 0
IsSlotKnown graph count (slot.Plain of) = Unit {0}
IsSlotKnown graph count (slot.PointerTo to) = to.0 < count
IsSlotKnown graph count (slot.Enumeration number) = number.0 < enumerations graph.facts

abbrev pub AreSlotsKnown : Graph → ℕ → List Slot → Type 0
AreSlotsKnown graph count slots = All (IsSlotKnown graph count) slots

abbrev pub formed : Form → CxxType → CxxType
formed form.Value t = t
formed form.Reference t = reference_to t
formed form.VolatileReference t = reference_to (with_cv volatile t)

abbrev pub second_at : List CxxType → Option Slot → List CxxType
second_at types None = []
second_at types (Some one) = slot_at types one ∷ []

abbrev pub shape_at : List CxxType → Shape → List CxxType
shape_at types shape = formed shape.form (slot_at types shape.first) ∷ second_at types shape.second

abbrev pub shapes_at : List CxxType → List Shape → List (List CxxType)
shapes_at types shapes = map (shape_at types) shapes

abbrev pub IsSecondKnown : Graph → ℕ → Option Slot → Type 0
IsSecondKnown graph count None = Unit {0}
IsSecondKnown graph count (Some one) = IsSlotKnown graph count one

pub record IsShapeKnown (graph : Graph) (count : ℕ) (shape : Shape) : Type 0 where
  pub first : IsSlotKnown graph count shape.first
  pub second : IsSecondKnown graph count shape.second

abbrev pub AreShapesKnown : Graph → ℕ → List Shape → Type 0
AreShapesKnown graph count shapes = All (IsShapeKnown graph count) shapes

abbrev pub letters_at : List CxxType → Letters → CxxLetters
letters_at types one = record { pointers = slots_at types one.pointers.now; objects = slots_at types one.objects.now; functions = slots_at types one.functions.now; enumerations = slots_at types one.enumerations.now }

pub record AreLettersKnown (graph : Graph) (count : ℕ) (one : Letters) : Type 0 where
  pub pointers : AreSlotsKnown graph count one.pointers.now
  pub objects : AreSlotsKnown graph count one.objects.now
  pub functions : AreSlotsKnown graph count one.functions.now
  pub enumerations : AreSlotsKnown graph count one.enumerations.now

-- ---- conversion functions

abbrev pub conversion_at : List CxxType → Conversion → CxxConversion
conversion_at types one = record { of = type_at types one.of.0; holder = one.holder.0 }

abbrev pub conversions_at : List CxxType → List Conversion → List CxxConversion
conversions_at types all = map (conversion_at types) all

pub record IsConversionKnown (graph : Graph) (count : ℕ) (one : Conversion) : Type 0 where
  pub of : one.of.0 < count
  pub holder : one.holder.0 < length graph.classes

abbrev pub AreConversionsKnown : Graph → ℕ → List Conversion → Type 0
AreConversionsKnown graph count all = All (IsConversionKnown graph count) all

-- 3.3: the kind of the scope that a declaration begins
abbrev pub kinds_in : Declares → List ScopeKind
kinds_in (facts.scope parent kind) = kind ∷ []
kinds_in _ = []

abbrev pub number_of : Option ClassId → Option ℕ
number_of None = None
number_of (Some class) = Some class.0

-- ---- kinds

abbrev pub numbers_at : List EnumId → List ℕ
numbers_at ns = map (λ n. n.0) ns

abbrev pub ArePointeesKnown : ℕ → List TypeId → Type 0
ArePointeesKnown count ns = All (λ n. n.0 < count) ns

abbrev pub AreNumbersKnown : Graph → List EnumId → Type 0
AreNumbersKnown graph ns = All (λ n. n.0 < enumerations graph.facts) ns

pub record AreFoundKnown (graph : Graph) (count : ℕ) (found : Found) : Type 0 where
  pub pointees : ArePointeesKnown count found.pointees.items
  pub enumerations : AreNumbersKnown graph found.enumerations.items

-- the kinds among some were added
pub record AreAdded (types : List CxxType) (old new : Found) (kinds : List CxxKind) : Type 0 where
  pub pointees : list_at types new.pointees.items ≡ fold with_pointee (list_at types old.pointees.items) kinds
  pub enumerations : numbers_at new.enumerations.items ≡ fold with_enumeration (numbers_at old.enumerations.items) kinds

-- ---- lists that are made

abbrev pub lists_at : List CxxType → List (List TypeId) → List (List CxxType)
lists_at types lists = map (list_at types) lists

abbrev pub AreListsBelow : ℕ → List (List TypeId) → Type 0
AreListsBelow count lists = All (AreTypesBelow count) lists

abbrev pub AreListsMade : List CxxType → Result (List (List TypeId)) OutOfMemory → List (List CxxType) → Type 0
AreListsMade new (Ok lists) meaning = AreListsBelow (length new) lists × (lists_at new lists ≡ meaning)
AreListsMade new (Err fault) meaning = Unit {0}

-- Lists of types are made: each earlier number keeps its type, and the graph and the table stay fitted.
pub record MakesLists (graph : Graph) (old new : List CxxType) (result : Result (List (List TypeId)) OutOfMemory) (meaning : List (List CxxType)) : Type 0 where
  pub keeps : Keeps old new
  pub made : AreListsMade new result meaning
  pub fitted : Fitted graph new

-- What is answered: the types of each candidate, or the class that must be complete first.
abbrev pub AreGiven : List CxxType → Result (List (List TypeId)) Wait → Asked (List (List CxxType)) → Type 0
AreGiven new (Ok lists) asked = AreListsBelow (length new) lists × (asked ≡ Ok (lists_at new lists))
AreGiven new (Err (wait.Needs class)) asked = asked ≡ Err class
AreGiven new (Err wait.OutOfMemory) asked = Unit {0}

-- Each earlier number keeps its type, and the graph and the table stay fitted.
pub record GivesCandidates (graph : Graph) (old new : List CxxType) (result : Result (List (List TypeId)) Wait) (asked : Asked (List (List CxxType))) : Type 0 where
  pub keeps : Keeps old new
  pub given : AreGiven new result asked
  pub fitted : Fitted graph new

-- ---- lists of shapes

-- Shapes that are known were added, which are of some parameters.
pub record Adds (graph : Graph) (types : List CxxType) (old new : List Shape) (meaning : List (List CxxType)) : Type 0 where
  pub is : shapes_at types new ≡ shapes_at types old ++ meaning
  pub known : AreShapesKnown graph (length types) old → AreShapesKnown graph (length types) new

-- Shapes are of some parameters.
pub record AreShaped (graph : Graph) (types : List CxxType) (shapes : List Shape) (meaning : List (List CxxType)) : Type 0 where
  pub is : shapes_at types shapes ≡ meaning
  pub known : AreShapesKnown graph (length types) shapes

-- Slots are of some types.
pub record AreSlots (graph : Graph) (types : List CxxType) (slots : List Slot) (ts : List CxxType) : Type 0 where
  pub is : slots_at types slots ≡ ts
  pub known : AreSlotsKnown graph (length types) slots
