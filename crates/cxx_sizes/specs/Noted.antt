-- What is kept of the facts of a graph for sizes, and what is answered by it.
use Rattle.std.specs.Prelude.{ℕ, ◌≡◌, List, [], ◌∷◌, ◌++◌, Option, Some, None, Result, Ok, Err, slice_index_or}
use Rattle.cxx_model.specs.declared.facts.ScopeKind.{ScopeKind}
use Rattle.cxx_model.specs.declared.types.ClassId.{ClassId}
use Rattle.cxx_model.specs.Facts.Declarations.{CxxFact, Declares}
use Rattle.cxx_model.specs.Facts.Declarations as facts
use Rattle.cxx_model.specs.Facts.Entities.{scope_kinds}
use Rattle.cxx_meaning.specs.declared.size.Layout.{Layout}
use Rattle.cxx_meaning.specs.declared.size.SizeReason.{SizeReason}
use Rattle.cxx_meaning.specs.declared.size.SizeReason.TheVariants as reason
use Rattle.cxx_meaning.specs.Conversions.Asking.{Asked}
use Rattle.cxx_meaning.specs.Conversions.Sizes.{Sized, class_extent, enumerations_in, layouts_of, no_layout, noted_by}
use Rattle.cxx_sizes.specs.declared.layouts.Layouts.{Layouts}
use Rattle.cxx_sizes.specs.declared.layouts.SizeFault.{SizeFault}
use Rattle.cxx_sizes.specs.declared.layouts.SizeFault.TheVariants as fault

-- the layout of a class; one of which no fact speaks has no place yet
abbrev pub layout_in : List Layout → ℕ → Layout
layout_in layouts n = slice_index_or layouts n no_layout

abbrev pub AreSameLayouts : List Layout → List Layout → Type 0
AreSameLayouts old new = (n : ℕ) → layout_in new n ≡ layout_in old n

-- the extents of classes
abbrev pub extents_in : List Layout → ℕ → Sized
extents_in layouts n = class_extent (layout_in layouts n)

abbrev pub number_of : Option ClassId → Option ℕ
number_of None = None
number_of (Some class) = Some class.0

-- The kinds of the scopes among some facts are kept, and the layout of each class.
pub record Notes (kept : Layouts) (all : List CxxFact) : Type 0 where
  pub scopes : kept.scopes.items ≡ scope_kinds all
  pub classes : (n : ℕ) → layout_in kept.classes.items n ≡ layouts_of all n

-- ---- what one more fact changes

-- 3.3: the kind of the scope that a declaration begins
abbrev pub kinds_in : Declares → List ScopeKind
kinds_in (facts.scope parent kind) = kind ∷ []
kinds_in _ = []

-- the layout of each class is the one behind the fact
abbrev pub AreNoted : List ScopeKind → List CxxFact → CxxFact → List Layout → List Layout → Type 0
AreNoted scopes all fact old new = (n : ℕ) → layout_in new n ≡ noted_by scopes (enumerations_in all) (layout_in old) fact n

pub record IsNoted (all : List CxxFact) (fact : CxxFact) (old new : Layouts) : Type 0 where
  pub scopes : new.scopes.items ≡ old.scopes.items ++ kinds_in fact.what
  pub classes : AreNoted new.scopes.items all fact old.classes.items new.classes.items

pub record AreSameKept (old new : Layouts) : Type 0 where
  pub scopes : new.scopes.items ≡ old.scopes.items
  pub classes : AreSameLayouts old.classes.items new.classes.items

-- What is answered: the size, why there is none, or the class that must be complete first.
abbrev pub Measures : Result ℕ SizeFault → Asked (Result ℕ SizeReason) → Type 0
Measures (Ok size) asked = asked ≡ Ok (Ok size)
Measures (Err fault.NoSize) asked = asked ≡ Ok (Err reason.NoSize)
Measures (Err fault.TooLarge) asked = asked ≡ Ok (Err reason.TooLarge)
Measures (Err (fault.Needs class)) asked = asked ≡ Err class
