-- Constant expressions with their values, as two compilers have them, and with their first faults.
use Rattle.std.specs.Prelude.{ℕ, ◌≡◌, true, false, List, [], ◌∷◌, Option, Some, None, Ok, Err, codes, pos, negsuc, refl}
use Rattle.cxx_model.specs.declared.base.Base.{Base}
use Rattle.cxx_model.specs.declared.base.Base.TheVariants as base
use Rattle.cxx_model.specs.declared.facts.Access.TheVariants.{Public}
use Rattle.cxx_model.specs.declared.facts.MemberKind.TheVariants as member
use Rattle.cxx_model.specs.declared.facts.ScopeKind.TheVariants as kind
use Rattle.cxx_model.specs.declared.sequence.ConstantKind.TheVariants as constant_kind
use Rattle.cxx_model.specs.Facts.Declarations as facts
use Rattle.cxx_model.specs.Facts.Declarations.{CxxFact, CxxGraph, Declares, spelled}
use Rattle.cxx_model.specs.Text.Lexemes.{nowhere}
use Rattle.cxx_model.specs.Text.Spelling.{keywords, alternatives, operators, digraphs, word_kind, number_kind, operator, literal, hash, slash, percent, spelling_of, literal_value}
use Rattle.cxx_model.specs.Types.Trees.{CxxType, array_of, enumeration, fundamental, number_bound, pointer_to, qualified}
use Rattle.cxx_meaning.specs.Conversions.Sizes.{class_in, extent_of, object_extent, size_of}
use Rattle.cxx_computed.specs.Values.{binary_value, converted_value, unary_value, value_in}
use Rattle.cxx_reading.specs.Trees.{CxxTree, tree_of}
use Rattle.cxx_constant.specs.Constants.{CxxValue, constant, divide_by_zero, not_constant, overflow, part_of}
use Rattle.cxx_constant.specs.Forms.{form_of, operator_number, value_of_literal}

-- ---- how rows are written

abbrev node : ℕ → List ℕ → CxxType → Option CxxType → Option ℕ → List CxxTree → CxxTree
node production spelling t of target operands = tree_of (record {
  production = production;
  spelling = spelling;
  first = 0;
  last = 0;
  start = nowhere;
  place = nowhere;
  path = None;
  operand = Some (record { of = t; lvalue = false; constant = constant_kind.No });
  of = of;
  target = target;
  call = None;
}) operands

abbrev text : Base → List ℕ → CxxTree
text of spelling = node 34 spelling (fundamental of) None None []

abbrev int : List ℕ → CxxTree
int = text base.Int

abbrev named : CxxType → ℕ → CxxTree
named t number = node 36 (codes "") t None (Some number) []

abbrev unary : Base → List ℕ → CxxTree → CxxTree
unary of spelling operand = node 46 spelling (fundamental of) None None (operand ∷ [])

abbrev binary : Base → List ℕ → CxxTree → CxxTree → CxxTree
binary of spelling left right = node 50 spelling (fundamental of) None None (left ∷ right ∷ [])

abbrev choice : Base → CxxTree → CxxTree → CxxTree → CxxTree
choice of test left right = node 51 (codes "?") (fundamental of) None None (test ∷ left ∷ right ∷ [])

abbrev cast : Base → CxxTree → CxxTree
cast of operand = node 48 (codes "static_cast") (fundamental of) (Some (fundamental of)) None (operand ∷ [])

-- a conversion that nothing spells
abbrev to : Base → CxxTree → CxxTree
to of operand = node 48 (codes "") (fundamental of) (Some (fundamental of)) None (operand ∷ [])

abbrev size : CxxType → CxxTree
size t = node 47 (codes "sizeof") (fundamental base.UnsignedLong) (Some t) None []

-- enum E { below = -1, above = 5 }; const int n = 7; int x; extern const int late; const int late = 9; using ::n;
-- using ::above; using ::late; template<int p>
abbrev put : List ℕ → Declares → CxxFact
put word what = record { place = nowhere; scope = 0; name = spelled word; access = Public; what = what }

abbrev const_int : CxxType
const_int = qualified (record { is_const = true; is_volatile = false }) (fundamental base.Int)

abbrev graph : CxxGraph
graph = record {
  facts = put (codes "") (facts.scope None kind.Space) ∷ put (codes "E") (facts.enumeration 0) ∷ put (codes "below") (facts.enumerator 0 (negsuc 0)) ∷ put (codes "above") (facts.enumerator 0 (pos 5))
      ∷ put (codes "n") (facts.object const_int member.Free false (Some (pos 7)) None) ∷ put (codes "x") (facts.object (fundamental base.Int) member.Free false None None)
      ∷ put (codes "late") (facts.object const_int member.Free false None None) ∷ put (codes "late") (facts.object const_int member.Free false (Some (pos 9)) (Some (record { 0 = 6 })))
      ∷ put (codes "n") (facts.using (record { 0 = 4 })) ∷ put (codes "above") (facts.using (record { 0 = 3 })) ∷ put (codes "late") (facts.using (record { 0 = 6 }))
      ∷ put (codes "p") (facts.value_parameter 0 0 (fundamental base.Int)) ∷ [];
  classes = [];
  patterns = [];
}

abbrev above : CxxTree
above = named (enumeration 0) 3

abbrev n : CxxTree
n = named const_int 4

abbrev x : CxxTree
x = named (fundamental base.Int) 5

unfoldable value : CxxTree → CxxValue
unfolding constant part_of form_of operator_number value_of_literal literal_value spelling_of word_kind number_kind operator literal hash slash percent keywords alternatives operators digraphs converted_value value_in unary_value binary_value size_of object_extent class_in extent_of
value tree = constant graph tree

-- ---- values

-- 0x1F + 017l, '\377', L'a'
literals : (value (binary base.Long (codes "+") (to base.Long (int (codes "0x1F"))) (text base.Long (codes "017l"))) ≡ Ok (pos 46))
    × (value (text base.Char (codes "'\\377'")) ≡ Ok (negsuc 0)) × (value (text base.WideChar (codes "L'a'")) ≡ Ok (pos 97))
unfolding value
literals = (refl, refl, refl)

-- !true, not 0, -2147483647 - 1, ~0u
unaries : (value (unary base.Bool (codes "!") (text base.Bool (codes "true"))) ≡ Ok (pos 0)) × (value (unary base.Bool (codes "not") (to base.Bool (int (codes "0")))) ≡ Ok (pos 1))
    × (value (binary base.Int (codes "-") (unary base.Int (codes "-") (int (codes "2147483647"))) (int (codes "1"))) ≡ Ok (negsuc 2147483647))
    × (value (unary base.Unsigned (codes "~") (text base.Unsigned (codes "0u"))) ≡ Ok (pos 4294967295))
unfolding value
unaries = (refl, refl, refl, refl)

abbrev minus_seven : CxxTree
minus_seven = unary base.Int (codes "-") (int (codes "7"))

-- -7 / 2, -7 % 2, -7 >> 1, 1u - 2u, 1u << 31L, -1 < 0u
binaries : (value (binary base.Int (codes "/") minus_seven (int (codes "2"))) ≡ Ok (negsuc 2)) × (value (binary base.Int (codes "%") minus_seven (int (codes "2"))) ≡ Ok (negsuc 0))
    × (value (binary base.Int (codes ">>") minus_seven (int (codes "1"))) ≡ Ok (negsuc 3))
    × (value (binary base.Unsigned (codes "-") (text base.Unsigned (codes "1u")) (text base.Unsigned (codes "2u"))) ≡ Ok (pos 4294967295))
    × (value (binary base.Unsigned (codes "<<") (text base.Unsigned (codes "1u")) (text base.Long (codes "31L"))) ≡ Ok (pos 2147483648))
    × (value (binary base.Bool (codes "<") (to base.Unsigned (unary base.Int (codes "-") (int (codes "1")))) (text base.Unsigned (codes "0u"))) ≡ Ok (pos 0))
unfolding value
binaries = (refl, refl, refl, refl, refl, refl)

-- (char)200, (bool)256, int()
casts : (value (cast base.Char (int (codes "200"))) ≡ Ok (negsuc 55)) × (value (cast base.Bool (int (codes "256"))) ≡ Ok (pos 1))
    × (value (node 41 (codes "") (fundamental base.Int) (Some (fundamental base.Int)) None []) ≡ Ok (pos 0))
unfolding value
casts = (refl, refl, refl)

abbrev over_type : CxxTree
over_type = node 9 (codes "enum") (enumeration 0) (Some (enumeration 0)) None []

abbrev cast_over_type : ℕ → CxxTree
cast_over_type production = node production (codes "static_cast") (enumeration 0) (Some (enumeration 0)) None (over_type ∷ int (codes "3") ∷ [])

-- (enum E)3, whose type has a tree of its own; what stands in brackets and behind `E` is one expression
typed_casts : (value (cast_over_type 48) ≡ Ok (pos 3)) × (value (cast_over_type 39) ≡ Err (not_constant (cast_over_type 39))) × (value (cast_over_type 41) ≡ Err (not_constant (cast_over_type 41)))
unfolding value
typed_casts = (refl, refl, refl)

-- above + 1, n * 2
names : (value (binary base.Int (codes "+") (to base.Int above) (int (codes "1"))) ≡ Ok (pos 6)) × (value (binary base.Int (codes "*") n (int (codes "2"))) ≡ Ok (pos 14))
unfolding value
names = (refl, refl)

-- late, by its first declaration and by its second
defined_later : (value (named const_int 6) ≡ Ok (pos 9)) × (value (named const_int 7) ≡ Ok (pos 9))
unfolding value
defined_later = (refl, refl)

-- n, above and late by using-declarations
used : (value (named const_int 8) ≡ Ok (pos 7)) × (value (named (enumeration 0) 9) ≡ Ok (pos 5)) × (value (named const_int 10) ≡ Ok (pos 9))
unfolding value
used = (refl, refl, refl)

-- sizeof(int) * 2, sizeof(long) - 9, sizeof(&n)
sizes : (value (binary base.UnsignedLong (codes "*") (size (fundamental base.Int)) (to base.UnsignedLong (int (codes "2")))) ≡ Ok (pos 8))
    × (value (binary base.UnsignedLong (codes "-") (size (fundamental base.Long)) (to base.UnsignedLong (int (codes "9")))) ≡ Ok (pos 18446744073709551615))
    × (value (size (pointer_to const_int)) ≡ Ok (pos 8))
unfolding value
sizes = (refl, refl, refl)

abbrev size_over : List ℕ → Option CxxType → CxxTree → CxxTree
size_over spelling t one = node 47 spelling (fundamental base.UnsignedLong) t None (one ∷ [])

-- sizeof(char[sizeof(int)]), whose type has a tree of its own, and sizeof x
typed_sizes : (value (size_over (codes "4UL") (Some (array_of (fundamental base.Char) (number_bound 4))) (size (fundamental base.Int))) ≡ Ok (pos 4)) × (value (size_over (codes "4UL") None x) ≡ Ok (pos 4))
unfolding value
typed_sizes = (refl, refl)

abbrev divided : CxxTree
divided = binary base.Int (codes "/") (int (codes "1")) (int (codes "0"))

-- 0 && 1 / 0, 1 || 1 / 0, 1 ? 2 : 1 / 0, 0 ? 2 : 3
not_taken : (value (binary base.Bool (codes "&&") (to base.Bool (int (codes "0"))) (to base.Bool divided)) ≡ Ok (pos 0)) × (value (binary base.Bool (codes "||") (to base.Bool (int (codes "1"))) (to base.Bool divided)) ≡ Ok (pos 1))
    × (value (choice base.Int (to base.Bool (int (codes "1"))) (int (codes "2")) divided) ≡ Ok (pos 2)) × (value (choice base.Int (to base.Bool (int (codes "0"))) (int (codes "2")) (int (codes "3"))) ≡ Ok (pos 3))
unfolding value
not_taken = (refl, refl, refl, refl)

-- ---- faults

abbrev sum : CxxTree
sum = binary base.Int (codes "+") (int (codes "2147483647")) (int (codes "1"))

abbrev too_far : CxxTree
too_far = binary base.Int (codes "<<") (int (codes "1")) (text base.Long (codes "40L"))

-- 2147483647 + 1, 1 << 40L, 1 / 0
no_values : (value sum ≡ Err (overflow sum)) × (value too_far ≡ Err (overflow too_far)) × (value divided ≡ Err (divide_by_zero divided))
unfolding value
no_values = (refl, refl, refl)

-- 1 / 0 + x, x + 1 / 0
from_the_left : (value (binary base.Int (codes "+") divided x) ≡ Err (divide_by_zero divided)) × (value (binary base.Int (codes "+") x divided) ≡ Err (not_constant x))
unfolding value
from_the_left = (refl, refl)

abbrev fraction : CxxTree
fraction = cast base.Double (int (codes "1"))

abbrev comma : CxxTree
comma = node 52 (codes ",") (fundamental base.Int) None None (int (codes "1") ∷ int (codes "2") ∷ [])

abbrev comparison : CxxTree
comparison = binary base.Bool (codes "<") (to base.Double (int (codes "1"))) (named (fundamental base.Double) 5)

-- 1 < d
compared : value comparison ≡ Err (not_constant comparison)
unfolding value
compared = refl

-- 0 && x, 1 ? 2 : x, (int)(double)1, (1, 2)
no_constants : (value (binary base.Bool (codes "&&") (to base.Bool (int (codes "0"))) (to base.Bool x)) ≡ Err (not_constant x)) × (value (choice base.Int (to base.Bool (int (codes "1"))) (int (codes "2")) x) ≡ Err (not_constant x))
    × (value (cast base.Int fraction) ≡ Err (not_constant fraction)) × (value comma ≡ Err (not_constant comma))
unfolding value
no_constants = (refl, refl, refl, refl)

abbrev parameter : CxxTree
parameter = named (fundamental base.Int) 11

-- 5.2.5: `.` is told by its production, whatever object stands before it
abbrev member_named : CxxTree
member_named = node 42 (codes ".") const_int None (Some 4) (x ∷ [])

-- p, and `n` behind `.`
not_named : (value parameter ≡ Err (not_constant parameter)) × (value member_named ≡ Err (not_constant member_named))
unfolding value
not_named = (refl, refl)
