-- What the operands of an operator may become by conversions (13.6 p1): pointers and enumerations.
use Rattle.std.specs.Prelude.{ℕ, Bool, true, false, ◌&&◌, ◌||◌, not, nat_eq, nat_lt, if◌then◌else◌, List, [], ◌∷◌, ◌++◌, length, map, filter, Option, Some, None, Ok, Err}
use Rattle.std.specs.List.{filter_map, flat_map, fold, list_any, slice_get}
use Rattle.cxx_model.specs.declared.facts.ScopeKind.{ScopeKind}
use Rattle.cxx_model.specs.declared.facts.ScopeKind.TheVariants as kind
use Rattle.cxx_model.specs.declared.types.ClassId.{ClassId}
use Rattle.cxx_model.specs.Facts.Declarations as facts
use Rattle.cxx_model.specs.Facts.Declarations.{CxxFact, CxxGraph, CxxName, Declares, conversion_to}
use Rattle.cxx_model.specs.Facts.Entities.{scope_kinds}
use Rattle.cxx_model.specs.Facts.Pending.{is_pending}
use Rattle.cxx_model.specs.Types.Same.{same_type}
use Rattle.cxx_model.specs.Types.Trees.{CxxType, enumeration, pointer_to}
use Rattle.cxx_meaning.specs.Conversions.Asking.{Asked}
use Rattle.cxx_meaning.specs.Conversions.BuiltIn.{operand_kind}
use Rattle.cxx_meaning.specs.Conversions.Derived.{is_derived}
use Rattle.cxx_meaning.specs.Conversions.Kinds.{CxxKind, enumerated, pointing, of_class, kind_of, value_kind, is_function}
use Rattle.cxx_meaning.specs.Conversions.Pointers.{is_void}
use Rattle.cxx_meaning.specs.Conversions.Sizes.{referred}
use Rattle.cxx_meaning.specs.Conversions.Standard.{CxxOperand}
use Rattle.cxx_candidates.specs.Candidates.{CxxLetters, binary_candidates, unary_candidates}

-- ---- conversion functions (12.3.2)

-- a conversion function: the type to which it converts, and the class of which it is a member
pub record CxxConversion : Type 0 where
  pub of : CxxType
  pub holder : ℕ

-- 9.2: the reserved class of a scope
abbrev pub reserved_class : ℕ → ClassId → Option ℕ
reserved_class count class = if nat_lt class.0 count then Some class.0 else None

abbrev pub class_in : ℕ → Option ScopeKind → Option ℕ
class_in count (Some (kind.Class class)) = reserved_class count class
class_in count _ = None

-- a function's first declaration
abbrev pub is_first_function : Declares → Bool
is_first_function (facts.function of member flags defaults None) = true
is_first_function _ = false

abbrev pub converts_to : CxxName → Option CxxType
converts_to (conversion_to t) = Some t
converts_to _ = None

abbrev pub conversion_of : Option CxxType → Option ℕ → Option CxxConversion
conversion_of (Some t) (Some class) = Some (record { of = t; holder = class })
conversion_of _ _ = None

-- the conversion function that a fact declares, given the kinds of the scopes and the count of the classes
abbrev pub conversion_in : ℕ → List ScopeKind → CxxFact → Option CxxConversion
conversion_in count scopes fact = if is_first_function fact.what then conversion_of (converts_to fact.name) (class_in count (slice_get scopes fact.scope)) else None

-- all conversion functions, in the order of their declarations
unfoldable pub conversions : CxxGraph → List CxxConversion
conversions graph = filter_map (conversion_in (length graph.classes) (scope_kinds graph.facts)) graph.facts

-- 12.3.2 p5: those of a class and of its bases
abbrev pub is_member : CxxGraph → ℕ → CxxConversion → Bool
is_member graph class one = nat_eq class one.holder || is_derived graph class one.holder

-- 12.3.2 p5: a conversion function of a derived class hides one of a base to the same type
abbrev pub is_hidden_by : CxxGraph → CxxConversion → CxxConversion → Bool
is_hidden_by graph one other = same_type other.of one.of && is_derived graph other.holder one.holder

abbrev pub is_hidden : CxxGraph → List CxxConversion → CxxConversion → Bool
is_hidden graph all one = list_any (is_hidden_by graph one) all

abbrev pub unhidden : CxxGraph → List CxxConversion → List CxxConversion
unhidden graph all = filter (λ one. not (is_hidden graph all one)) all

unfoldable pub conversions_of : CxxGraph → ℕ → List CxxConversion
conversions_of graph class = unhidden graph (filter (is_member graph class) (conversions graph))

-- ---- operands

-- the kinds of values that an operand has, or to which a conversion function of its class leads (8.3.2, 4.1 to 4.3)
unfoldable pub kinds_of_class : CxxGraph → ℕ → List CxxKind
kinds_of_class graph class = map (λ one. value_kind (referred one.of)) (conversions_of graph class)

abbrev pub kinds_from : CxxGraph → CxxKind → List CxxKind
kinds_from graph (of_class class) = kinds_of_class graph class
kinds_from graph kind = kind ∷ []

abbrev pub kinds_of : CxxGraph → List CxxOperand → List CxxKind
kinds_of graph operands = flat_map (λ one. kinds_from graph (operand_kind one)) operands

-- each once, at its first place
abbrev pub with_type : List CxxType → CxxType → List CxxType
with_type ts t = if list_any (same_type t) ts then ts else ts ++ t ∷ []

-- what the pointers among the kinds point to
abbrev pub with_pointee : List CxxType → CxxKind → List CxxType
with_pointee ts (pointing t) = with_type ts t
with_pointee ts _ = ts

abbrev pub pointees : List CxxKind → List CxxType
pointees kinds = fold with_pointee [] kinds

abbrev pub with_number : List ℕ → ℕ → List ℕ
with_number ns n = if list_any (nat_eq n) ns then ns else ns ++ n ∷ []

abbrev pub with_enumeration : List ℕ → CxxKind → List ℕ
with_enumeration ns (enumerated n) = with_number ns n
with_enumeration ns _ = ns

abbrev pub enumerations : List CxxKind → List ℕ
enumerations kinds = fold with_enumeration [] kinds

-- 3.9: what is no `void` and no function
abbrev pub is_object : CxxType → Bool
is_object t = not (is_void (kind_of t)) && not (is_function t)

abbrev pub letters_of : List CxxType → List ℕ → CxxLetters
letters_of ts ns = record { pointers = map pointer_to ts; objects = map pointer_to (filter is_object ts); functions = map pointer_to (filter is_function ts); enumerations = map enumeration ns }

unfoldable pub letters : List CxxKind → CxxLetters
letters kinds = letters_of (pointees kinds) (enumerations kinds)

-- ---- classes that must be complete first (14.7.1)

abbrev pub least : Option ℕ → Option ℕ → Option ℕ
least None other = other
least (Some m) None = Some m
least (Some m) (Some n) = if nat_lt n m then Some n else Some m

abbrev pub if_pending : CxxGraph → ℕ → Option ℕ
if_pending graph class = if is_pending graph class then Some class else None

abbrev pub pending_class : CxxGraph → CxxKind → Option ℕ
pending_class graph (of_class class) = if_pending graph class
pending_class graph _ = None

unfoldable pub needed : CxxGraph → List CxxOperand → Option ℕ
needed graph [] = None
needed graph (one ∷ others) = least (pending_class graph (operand_kind one)) (needed graph others)

-- ---- candidates

-- an operator has one operand or two
abbrev pub candidates_of_two : CxxLetters → ℕ → List CxxOperand → List (List CxxType)
candidates_of_two letters operator [] = binary_candidates letters operator
candidates_of_two letters operator (other ∷ others) = []

abbrev pub candidates_beside : CxxLetters → ℕ → List CxxOperand → List (List CxxType)
candidates_beside letters operator [] = unary_candidates letters operator
candidates_beside letters operator (other ∷ others) = candidates_of_two letters operator others

abbrev pub candidates_by : CxxLetters → ℕ → List CxxOperand → List (List CxxType)
candidates_by letters operator [] = []
candidates_by letters operator (one ∷ others) = candidates_beside letters operator others

abbrev pub unless_needed : Option ℕ → List (List CxxType) → Asked (List (List CxxType))
unless_needed (Some class) found = Err (record { 0 = class })
unless_needed None found = Ok found

-- 13.6: the types of the parameters of each candidate, or the class that must be complete first
unfoldable pub built_in_candidates : CxxGraph → ℕ → List CxxOperand → Asked (List (List CxxType))
built_in_candidates graph operator operands = unless_needed (needed graph operands) (candidates_by (letters (kinds_of graph operands)) operator operands)
