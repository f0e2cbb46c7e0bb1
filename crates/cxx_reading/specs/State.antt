-- The state of a reading: what is declared so far, where the reader stands, and what the reading keeps.
use Rattle.std.specs.Prelude.{ℕ, zero, Bool, false, List, [], ◌∷◌, Option, None}
use Rattle.cxx_model.specs.declared.facts.Access.TheVariants.{Public}
use Rattle.cxx_model.specs.declared.facts.ScopeKind.TheVariants as kind
use Rattle.cxx_model.specs.declared.overload.Outcome.{Outcome}
use Rattle.cxx_model.specs.declared.place.Place.{Place}
use Rattle.cxx_model.specs.Facts.Declarations.{CxxGraph, CxxFact, unnamed, scope}
use Rattle.cxx_model.specs.Facts.Here.{CxxHere}
use Rattle.cxx_model.specs.Types.Trees.{CxxType}
use Rattle.cxx_model.specs.Text.Lexemes.{first_place}
use Rattle.cxx_meaning.specs.Conversions.Standard.{CxxOperand, CxxStandard}
use Rattle.cxx_reading.specs.Trees.{CxxTree}

-- 13.3.3: what a call keeps of a viable candidate: its position among the candidates, from 1, the types of its
-- parameters, and the sequences that lead to them
pub record CxxRow : Type 0 where
  pub position : ℕ
  pub parameters : List CxxType
  pub sequences : List CxxStandard

-- 13.3: A call that was decided: what its arguments are, its candidates by their declarations, whether each is viable, a
-- row for each that is, and the position of the chosen one.
pub record CxxCall : Type 0 where
  pub place : Place
  pub operands : List CxxOperand
  pub candidates : List ℕ
  pub outcomes : List Outcome
  pub rows : List CxxRow
  pub chosen : ℕ

-- a name that was bound: where it was looked up, and what it means
pub record CxxUse : Type 0 where
  pub scope : ℕ
  pub place : Place
  pub target : ℕ

-- what is read by itself: a declaration of a namespace, with the names that were bound in it
pub record CxxPart : Type 0 where
  pub tree : CxxTree
  pub scope : ℕ
  pub uses : List CxxUse

-- 8.3.6: a default argument that was read, as it is converted to the type of its parameter: of the parameter with an index
-- in the list with a scope
pub record CxxOffered : Type 0 where
  pub scope : ℕ
  pub index : ℕ
  pub tree : CxxTree

-- 8.3.6: a default argument of a function, by the declaration that has it and the index of its parameter
pub record CxxGiven : Type 0 where
  pub declaration : ℕ
  pub index : ℕ
  pub tree : CxxTree

pub record CxxState : Type 0 where
  pub graph : CxxGraph
  pub here : CxxHere
  -- 3.2: the declarations that are definitions, by their numbers
  pub defined : List ℕ
  -- 3.5: the declarations in blocks of functions, and of objects with `extern`, by their numbers
  pub linked : List ℕ
  -- 8.3.6: the default arguments that are given
  pub given : List CxxGiven
  -- those that were read in the part that is being read, and whether one is being read
  pub offered : List CxxOffered
  pub in_default : Bool
  -- 6.4: the object that a condition declared last, and whether what a `for` does behind each turn is being read (6.5.3)
  pub tested : Option ℕ
  pub in_step : Bool
  pub calls : List CxxCall
  pub parts : List CxxPart
  -- the names that were bound in the part that is being read
  pub uses : List CxxUse

-- ---- the beginning

-- 3.3.5: the scope of the unit, in itself
abbrev pub unit_scope : CxxFact
unit_scope = record { place = first_place; scope = zero; name = unnamed; access = Public; what = scope None kind.Space }

-- in the scope of the unit, outside of everything else
abbrev pub at_unit : CxxHere
at_unit = record { scope = zero; cut = None; point = None; this_type = None; enumeration = None; access = Public; class = None; result = None; depends = false; instance = None; outer = zero }

abbrev pub first_state : CxxState
first_state = record {
  graph = record { facts = unit_scope ∷ []; classes = []; patterns = [] };
  here = at_unit;
  defined = [];
  linked = [];
  given = [];
  offered = [];
  in_default = false;
  tested = None;
  in_step = false;
  calls = [];
  parts = [];
  uses = [];
}
