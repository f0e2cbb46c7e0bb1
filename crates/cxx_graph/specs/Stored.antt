-- What the fields of a graph stand for.
use Rattle.std.specs.Prelude.{ℕ, ◌≡◌, ◌≤◌, ◌+◌, Bool, List, Option, Some, None, map, length}
use Rattle.std.specs.List.{slice_get}
use Rattle.std.specs.Option.{option_map}
use Rattle.cxx_model.specs.declared.facts.Fact.{Fact}
use Rattle.cxx_model.specs.declared.facts.Pattern.{Pattern}
use Rattle.cxx_model.specs.declared.facts.Specialisation.{Specialisation}
use Rattle.cxx_model.specs.declared.types.ClassId.{ClassId}
use Rattle.cxx_model.specs.declared.types.FactId.{FactId}
use Rattle.cxx_model.specs.Facts.Graph.{Graph, InRange, AreSameArguments, is_complete}
use Rattle.cxx_graph.specs.declared.promotion.Holders.{Holders}
use Rattle.cxx_graph.specs.Kept.{IsKept}

-- for each reserved class, whether its end was read
abbrev pub IsMarked : List Fact → List Bool → Type 0
IsMarked facts completed = (n : ℕ) (mark : Bool) → slice_get completed n ≡ Some mark → mark ≡ is_complete facts n

-- the specialisation at a place among those that have a class, where there is a place
abbrev pub held : List (Specialisation × ClassId) → Option ℕ → Option Specialisation
held entries None = None
held entries (Some place) = option_map (λ entry. entry.0) (slice_get entries place)

-- for what each class was reserved
abbrev pub classes_of : List (Specialisation × ClassId) → List (Option ℕ) → List (Option Specialisation)
classes_of entries places = map (held entries) places

abbrev pub graph_of : List Fact → List (Specialisation × ClassId) → List (Option ℕ) → List Pattern → Graph
graph_of facts entries places patterns = record { facts = facts; classes = classes_of entries places; patterns = patterns }

-- the class of each specialisation has the place of the specialisation
abbrev pub IsNumbered : List (Specialisation × ClassId) → List (Option ℕ) → Type 0
IsNumbered entries places = (place : ℕ) (of : Specialisation) (class : ClassId) → slice_get entries place ≡ Some (of, class) → slice_get places class.0 ≡ Some (Some place)

-- each place of a class is that of a specialisation with the class
abbrev pub IsPlaced : List (Specialisation × ClassId) → List (Option ℕ) → Type 0
IsPlaced entries places = (n place : ℕ) → slice_get places n ≡ Some (Some place) → (of : Specialisation) × (slice_get entries place ≡ Some (of, record { 0 = n }))

-- no specialisation has two classes
abbrev pub AreClassesApart : List (Option Specialisation) → Type 0
AreClassesApart classes = (m n : ℕ) (one two : Specialisation) → slice_get classes m ≡ Some (Some one) → slice_get classes n ≡ Some (Some two) → one.template ≡ two.template → AreSameArguments one.arguments two.arguments → m ≡ n

-- what holds of the fields of each graph
pub record IsStored (facts : List Fact) (entries : List (Specialisation × ClassId)) (places : List (Option ℕ)) (completed : List Bool) (patterns : List Pattern) : Type 0 where
  pub counted : length completed ≡ length places
  pub marked : IsMarked facts completed
  pub limited : length facts + length places ≤ 2097152
  pub fewer : length entries ≤ length places
  pub numbered : IsNumbered entries places
  pub placed : IsPlaced entries places
  pub apart : AreClassesApart (classes_of entries places)
  pub in_range : InRange (graph_of facts entries places patterns)

-- what holds of all the fields of each graph, those that are kept beside the facts among them
pub record IsWhole (facts : List Fact) (entries : List (Specialisation × ClassId)) (places : List (Option ℕ)) (completed : List Bool) (patterns : List Pattern) (members bases : List (List FactId)) (holders : List Holders) : Type 0 where
  pub stored : IsStored facts entries places completed patterns
  pub kept : IsKept facts members bases holders
