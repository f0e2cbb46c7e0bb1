-- What is kept beside the facts of a graph.
use Rattle.std.specs.Prelude.{ℕ, ℤ, ◌≡◌, ◌<◌, ◌&&◌, true, List, length, slice_index_or}
use Rattle.std.specs.List.{list_all}
use Rattle.cxx_model.specs.declared.base.Base.TheVariants as base
use Rattle.cxx_model.specs.declared.facts.Entity.{Entity}
use Rattle.cxx_model.specs.declared.facts.Entity.TheVariants as entity
use Rattle.cxx_model.specs.declared.facts.Fact.{Fact}
use Rattle.cxx_model.specs.declared.types.FactId.{FactId}
use Rattle.cxx_model.specs.Facts.Graph.{values_of}
use Rattle.cxx_model.specs.Types.Integral.{holds}
use Rattle.cxx_graph.specs.declared.promotion.Holders.{Holders}
use Rattle.cxx_graph.specs.Numbered.{is_ancestor_of, is_in_scope, numbers_of}
use Rattle.cxx_graph.specs.Rows.{row_at, AreSameRows, IsRowMore}

-- 4.5: which of the types to which an enumeration may be promoted hold some values
abbrev pub holders_of : List ℤ → Holders
holders_of values = record { int = list_all (holds base.Int) values; unsigned = list_all (holds base.Unsigned) values; long = list_all (holds base.Long) values; unsigned_long = list_all (holds base.UnsignedLong) values }

-- with one more value
abbrev pub with_value : Holders → ℤ → Holders
with_value held value = record { int = held.int && holds base.Int value; unsigned = held.unsigned && holds base.Unsigned value; long = held.long && holds base.Long value; unsigned_long = held.unsigned_long && holds base.UnsignedLong value }

abbrev pub all_hold : Holders
all_hold = record { int = true; unsigned = true; long = true; unsigned_long = true }

-- of an enumeration; one with no enumerator has no place yet
abbrev pub holders_at : List Holders → ℕ → Holders
holders_at holders n = slice_index_or holders n all_hold

-- what is kept of the facts
pub record IsKept (facts : List Fact) (members bases : List (List FactId)) (holders : List Holders) : Type 0 where
  pub of_scopes : (n : ℕ) → row_at members n ≡ numbers_of (is_in_scope n) facts
  pub of_classes : (n : ℕ) → row_at bases n ≡ numbers_of (is_ancestor_of n) facts
  pub of_enumerations : (n : ℕ) → holders_at holders n ≡ holders_of (values_of facts n)

-- ---- what one more fact changes

-- 10: the bases of the class whose base it is
abbrev pub HasBase : List (List FactId) → List (List FactId) → Entity → FactId → Type 0
HasBase old new (entity.Ancestor class _ _ _) number = IsRowMore old new class.0 number
HasBase old new _ number = AreSameRows old new

abbrev pub AreSameHolders : List Holders → List Holders → Type 0
AreSameHolders old new = (n : ℕ) → holders_at new n ≡ holders_at old n

-- 7.2: one enumeration has one more value
pub record IsValueMore (old new : List Holders) (n : ℕ) (value : ℤ) : Type 0 where
  pub here : holders_at new n ≡ with_value (holders_at old n) value
  pub others : (k : ℕ) → (k ≡ n → ⊥) → holders_at new k ≡ holders_at old k

abbrev pub HasValue : List Holders → List Holders → Entity → Type 0
HasValue old new (entity.Enumerator number value) = IsValueMore old new number.0 value
HasValue old new _ = AreSameHolders old new

-- there is a place for the value of an enumerator
abbrev pub HasPlace : List Holders → Entity → Type 0
HasPlace holders (entity.Enumerator number value) = number.0 < length holders
HasPlace holders _ = Unit {0}
