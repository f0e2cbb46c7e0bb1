-- Sizes of types (5.3.3) and layouts of classes (9.2, 10), in the layout of this profile: bases, then members in order,
-- each at a multiple of its alignment.
use Rattle.std.specs.Prelude.{ℕ, [], ◌∷◌, ◌++◌, ◌+◌, ◌-◌, ◌*◌, ◌/◌, ◌^◌, Bool, true, false, ◌&&◌, ◌||◌, not, nat_eq, nat_le, min, max, if◌then◌else◌, List, Option, Some, None, Result, Ok, Err}
use Rattle.std.specs.List.{slice_get}
use Rattle.cxx_model.specs.Facts.Pending.{is_pending}
use Rattle.cxx_meaning.specs.declared.size.Extent.{Extent}
use Rattle.cxx_meaning.specs.declared.size.Layout.{Layout}
use Rattle.cxx_meaning.specs.declared.size.SizeReason.{SizeReason}
use Rattle.cxx_meaning.specs.declared.size.SizeReason.TheVariants as reason
use Rattle.cxx_model.specs.declared.base.Base.{Base}
use Rattle.cxx_model.specs.declared.facts.MemberKind.{MemberKind}
use Rattle.cxx_model.specs.declared.facts.MemberKind.TheVariants as member
use Rattle.cxx_model.specs.declared.facts.ScopeKind.{ScopeKind}
use Rattle.cxx_model.specs.declared.facts.ScopeKind.TheVariants as kind
use Rattle.cxx_model.specs.Facts.Declarations as facts
use Rattle.cxx_model.specs.Facts.Declarations.{CxxFact, CxxGraph, Declares}
use Rattle.cxx_model.specs.Facts.Entities.{scope_kinds}
use Rattle.cxx_model.specs.Types.Bases.{base_row}
use Rattle.cxx_model.specs.Types.Trees.{CxxType, reference_to, array_of, CxxBound, number_bound}
use Rattle.cxx_model.specs.Types.Integral.{promoted_of_values}
use Rattle.cxx_meaning.specs.Conversions.Asking.{Asked, ◌>>=◌}
use Rattle.cxx_meaning.specs.Conversions.Enumerations.{values_in}
use Rattle.cxx_meaning.specs.Conversions.Kinds.{CxxKind, arithmetic, enumerated, pointing, of_class, kind_of}

abbrev pub Sized : Type 0
Sized = Result Extent SizeReason

-- ---- types, given the extents of classes and of enumerations

abbrev pub MOST_SIZE : ℕ
MOST_SIZE = 2 ^ 63 - 1

-- an extent, unless it is past the greatest size
abbrev pub limited : ℕ → ℕ → Sized
limited size alignment = if nat_le size MOST_SIZE then Ok (record { size = size; alignment = alignment }) else Err reason.TooLarge

abbrev pub plain_extent : ℕ → Extent
plain_extent size = record { size = size; alignment = size }

abbrev pub times : CxxBound → Sized → Sized
times (number_bound n) (Ok extent) = limited (n * extent.size) extent.alignment
times (number_bound n) (Err e) = Err e
times _ element = Err reason.NoSize

-- the extents of types that are no arrays
abbrev pub extent_of_kind : (ℕ → Sized) → (ℕ → Sized) → CxxKind → Sized
extent_of_kind classes enumerations (arithmetic of) = Ok (plain_extent (base_row of).size)
extent_of_kind classes enumerations (enumerated n) = enumerations n
extent_of_kind classes enumerations (pointing t) = Ok (plain_extent 8)
extent_of_kind classes enumerations (of_class n) = classes n
extent_of_kind classes enumerations _ = Err reason.NoSize

-- 5.3.3: an array has the size of its elements together, and their alignment
unfoldable pub extent_of : (ℕ → Sized) → (ℕ → Sized) → CxxType → Sized
extent_of classes enumerations (array_of t bound) = times bound (extent_of classes enumerations t)
extent_of classes enumerations t = extent_of_kind classes enumerations (kind_of t)

-- 8.3.2: a member that is a reference takes what a pointer takes
unfoldable pub member_extent : (ℕ → Sized) → (ℕ → Sized) → CxxType → Sized
member_extent classes enumerations (reference_to t) = Ok (plain_extent 8)
member_extent classes enumerations t = extent_of classes enumerations t

-- 4.5: an enumeration has the size of the type to which it is promoted
abbrev pub enumeration_extent : Option Base → Sized
enumeration_extent None = Err reason.NoSize
enumeration_extent (Some of) = Ok (plain_extent (base_row of).size)

-- the extents of enumerations, as some facts say
unfoldable pub enumerations_in : List CxxFact → ℕ → Sized
enumerations_in all n = enumeration_extent (promoted_of_values (values_in n all))

-- ---- classes

abbrev pub no_layout : Layout
no_layout = record { plain = 0; shifted = 8; alignment = 1; is_union = false; is_virtual = false; has_polymorphic_base = false; fault = None; is_complete = false }

-- the least multiple of an alignment that is no less
abbrev pub rounded : ℕ → ℕ → ℕ
rounded size alignment = (size + alignment - 1) / alignment * alignment

-- past the greatest size nothing is counted
abbrev pub capped : ℕ → ℕ
capped size = min size (MOST_SIZE + 1)

-- 9.2: where a part ends that stands behind the others, and in a union beside them
abbrev pub placed : Bool → ℕ → Extent → ℕ
placed is_union so_far extent = capped (if is_union then max so_far extent.size else rounded so_far extent.alignment + extent.size)

-- the first fault stays
abbrev pub fault_of : Option SizeReason → SizeReason → Option SizeReason
fault_of None later = Some later
fault_of (Some first) later = Some first

abbrev pub with_part : Sized → Layout → Layout
with_part (Ok extent) layout = record layout { plain = placed layout.is_union layout.plain extent; shifted = placed layout.is_union layout.shifted extent; alignment = max layout.alignment extent.alignment }
with_part (Err e) layout = record layout { fault = fault_of layout.fault e }

-- 10.3: a class is polymorphic where it has a virtual function or a base that is
abbrev pub is_polymorphic : Layout → Bool
is_polymorphic layout = layout.is_virtual || layout.has_polymorphic_base

-- the pointer of a polymorphic class stands first, and in its first polymorphic base where it has one
abbrev pub bytes_of : Layout → ℕ
bytes_of layout = if layout.is_virtual && not layout.has_polymorphic_base then layout.shifted else layout.plain

abbrev pub alignment_of : Layout → ℕ
alignment_of layout = if is_polymorphic layout then max layout.alignment 8 else layout.alignment

-- 5.3.3: the size is a multiple of the alignment, and at least 1
abbrev pub ended_extent : Layout → Sized
ended_extent layout = by layout.fault
  where
    by : Option SizeReason → Sized
    by (Some e) = Err e
    by None = limited (rounded (max (bytes_of layout) 1) (alignment_of layout)) (alignment_of layout)

-- what objects of a class take, once its end was read
unfoldable pub class_extent : Layout → Sized
class_extent layout = if layout.is_complete then ended_extent layout else Err reason.NoSize

abbrev pub with_base : Layout → Layout → Layout
with_base base layout = record (with_part (class_extent base) layout) { has_polymorphic_base = layout.has_polymorphic_base || is_polymorphic base }

abbrev pub is_nonstatic : MemberKind → Bool
is_nonstatic member.Nonstatic = true
is_nonstatic _ = false

abbrev pub class_of_scope : Option ScopeKind → Option ℕ
class_of_scope (Some (kind.Class number)) = Some number.0
class_of_scope _ = None

-- the class of which a fact says something, given the kinds of the scopes: a member stands in the scope of its class
abbrev pub concerned : List ScopeKind → CxxFact → Option ℕ
concerned scopes fact = by fact.what
  where
    by : Declares → Option ℕ
    by (facts.class number is_union) = Some number.0
    by (facts.ancestor number parent index access) = Some number.0
    by (facts.object of member is_mutable value first) = class_of_scope (slice_get scopes fact.scope)
    by (facts.function of member flags defaults first) = class_of_scope (slice_get scopes fact.scope)
    by (facts.complete number) = Some number.0
    by _ = None

-- 9.2: a member is a part where it is no static one
abbrev pub with_member : (ℕ → Sized) → (ℕ → Layout) → CxxType → MemberKind → Layout → Layout
with_member enumerations before of member layout = if is_nonstatic member then with_part (member_extent (λ n. class_extent (before n)) enumerations of) layout else layout

-- what a declaration adds to the layout of its class, given the extents of enumerations, and the layouts before it
unfoldable pub added : (ℕ → Sized) → (ℕ → Layout) → Declares → Layout → Layout
added enumerations before (facts.class number is_union) layout = record layout { is_union = is_union }
added enumerations before (facts.ancestor number parent index access) layout = with_base (before parent.0) layout
added enumerations before (facts.object of member is_mutable value first) layout = with_member enumerations before of member layout
added enumerations before (facts.function of member flags defaults first) layout = record layout { is_virtual = layout.is_virtual || flags.is_virtual }
added enumerations before (facts.complete number) layout = record layout { is_complete = true }
added enumerations before _ layout = layout

abbrev pub is_number : Option ℕ → ℕ → Bool
is_number None class = false
is_number (Some number) class = nat_eq number class

-- the layouts behind one more fact, given the kinds of the scopes, the extents of enumerations, and the layouts before it;
-- a class that is a part was laid out before
abbrev pub noted_by : List ScopeKind → (ℕ → Sized) → (ℕ → Layout) → CxxFact → ℕ → Layout
noted_by scopes enumerations before fact class = if is_number (concerned scopes fact) class then added enumerations before fact.what (before class) else before class

-- the same, given the facts up to it
abbrev pub noted : List CxxFact → (ℕ → Layout) → CxxFact → ℕ → Layout
noted all before fact class = noted_by (scope_kinds all) (enumerations_in all) before fact class

-- the layouts behind some facts, given the facts before these and the layouts there
abbrev pub layouts_from : List CxxFact → (ℕ → Layout) → List CxxFact → ℕ → Layout
layouts_from before layouts [] = layouts
layouts_from before layouts (fact ∷ others) = layouts_from (before ++ fact ∷ []) (noted (before ++ fact ∷ []) layouts fact) others

-- the layout of each class, as far as the facts say it
unfoldable pub layouts_of : List CxxFact → ℕ → Layout
layouts_of all = layouts_from [] (λ class. no_layout) all

-- ---- sizes

-- the class whose objects a type is made of
abbrev pub class_of_kind : CxxKind → Option ℕ
class_of_kind (of_class n) = Some n
class_of_kind _ = None

unfoldable pub class_in : CxxType → Option ℕ
class_in (array_of t bound) = class_in t
class_in t = class_of_kind (kind_of t)

abbrev pub ready : CxxGraph → Option ℕ → Asked Unit
ready graph None = Ok tt
ready graph (Some class) = if is_pending graph class then Err (record { 0 = class }) else Ok tt

-- 8.3.2
abbrev pub referred : CxxType → CxxType
referred (reference_to t) = t
referred t = t

-- the extent of a type that is no reference
unfoldable pub object_extent : CxxGraph → CxxType → Sized
object_extent graph t = extent_of (λ n. class_extent (layouts_of graph.facts n)) (enumerations_in graph.facts) t

abbrev pub size_in : Sized → Result ℕ SizeReason
size_in (Ok extent) = Ok extent.size
size_in (Err e) = Err e

-- 5.3.3: the size of a type, or the class that must be complete first; a reference has that of what it refers to
unfoldable pub size_of : CxxGraph → CxxType → Asked (Result ℕ SizeReason)
size_of graph t = do
  now ← ready graph (class_in (referred t))
  Ok (size_in (object_extent graph (referred t)))
