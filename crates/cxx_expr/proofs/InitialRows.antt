-- Initializers with their conversions (8.5), written and shown as other trees are.
use Rattle.std.specs.Prelude.{◌≡◌, [], ◌∷◌, None, Ok, Err, codes, refl}
use Rattle.cxx_model.specs.declared.base.Base.TheVariants as base
use Rattle.cxx_model.specs.declared.fault.FaultText.TheVariants as says
use Rattle.cxx_model.specs.declared.fault.LeftOut.TheVariants as form
use Rattle.cxx_model.specs.Stops.{fault}
use Rattle.cxx_model.specs.Types.Trees.{array_of, fundamental, number_bound, pointer_to, reference_to, unknown_bound}
use Rattle.cxx_expr.proofs.Sample.{begins, char, constant, int, long, name, node, text}

-- 8.5: long l = 'a', int *p = 0, int i(3), int i = { 3 }, int i
value_rows : (begins (long) (node 22 (codes "=") None (text (codes "'a'") ∷ [])) ≡ Ok (codes "=<long>(<long>('a'))"))
    × (begins (pointer_to int) (node 22 (codes "=") None (text (codes "0") ∷ [])) ≡ Ok (codes "=<int*>(<int*>(0))"))
    × (begins (int) (node 22 (codes "(") None (text (codes "3") ∷ [])) ≡ Ok (codes "=<int>(3)"))
    × (begins (int) (node 22 (codes "{") None (text (codes "3") ∷ [])) ≡ Ok (codes "=<int>(3)"))
    × (begins (int) (node 22 (codes "") None ([])) ≡ Ok (codes "<int>"))
unfolding begins
value_rows = (refl, refl, refl, refl, refl)

-- 8.5.3: const long &r = x, long &r = r, const int &r = 1
reference_rows : (begins (reference_to (constant long)) (node 22 (codes "=") None (name (codes "x") ∷ [])) ≡ Ok (codes "=<const long&>(<long>(x))"))
    × (begins (reference_to long) (node 22 (codes "=") None (name (codes "r") ∷ [])) ≡ Ok (codes "=<long&>(r)"))
    × (begins (reference_to (constant int)) (node 22 (codes "=") None (text (codes "1") ∷ [])) ≡ Ok (codes "=<const int&>(1)"))
unfolding begins
reference_rows = (refl, refl, refl)

-- 8.5.1: int a[] = { 1, 'b' }, int a[2][2] = { { 1 }, { 2, 3 } }, int a[3] = { }, int a[2] = { { 1 }, 2 }
list_rows : (begins (array_of (int) unknown_bound) (node 22 (codes "{") None (text (codes "1") ∷ text (codes "'b'") ∷ [])) ≡ Ok (codes "{<int[2]>(1, <int>('b'))"))
    × (begins (array_of (array_of (int) (number_bound 2)) (number_bound 2)) (node 22 (codes "{") None (node 22 (codes "{") None (text (codes "1") ∷ []) ∷ node 22 (codes "{") None (text (codes "2") ∷ text (codes "3") ∷ []) ∷ [])) ≡ Ok (codes "{<int[2][2]>({<int[2]>(1), {<int[2]>(2, 3))"))
    × (begins (array_of (int) (number_bound 3)) (node 22 (codes "{") None ([])) ≡ Ok (codes "{<int[3]>"))
    × (begins (array_of (int) (number_bound 2)) (node 22 (codes "{") None (node 22 (codes "{") None (text (codes "1") ∷ []) ∷ text (codes "2") ∷ [])) ≡ Ok (codes "{<int[2]>(1, 2)"))
unfolding begins
list_rows = (refl, refl, refl, refl)

-- 8.5.2: char s[] = "ab", char s[4] = { "ab" }, char s[2][3] = { "ab", { "c" } }, wchar_t s[] = L"a"
text_rows : (begins (array_of (char) unknown_bound) (node 22 (codes "=") None (text (codes "\"ab\"") ∷ [])) ≡ Ok (codes "=<char[3]>(\"ab\")"))
    × (begins (array_of (char) (number_bound 4)) (node 22 (codes "{") None (text (codes "\"ab\"") ∷ [])) ≡ Ok (codes "=<char[4]>(\"ab\")"))
    × (begins (array_of (array_of (char) (number_bound 3)) (number_bound 2)) (node 22 (codes "{") None (text (codes "\"ab\"") ∷ node 22 (codes "{") None (text (codes "\"c\"") ∷ []) ∷ [])) ≡ Ok (codes "{<char[3][2]>(\"ab\", \"c\")"))
    × (begins (array_of (fundamental base.WideChar) unknown_bound) (node 22 (codes "=") None (text (codes "L\"a\"") ∷ [])) ≡ Ok (codes "=<wchar_t[2]>(L\"a\")"))
unfolding begins
text_rows = (refl, refl, refl, refl)

-- 8.5: int i = p, int i(1, 2), int i = { 1, 2 }, int *p = 5, int &r = 1, const int c, int &r
value_faults : (begins (int) (node 22 (codes "=") None (name (codes "p") ∷ [])) ≡ Err (fault (record { line = 1; column = 2 }) says.NoConversion))
    × (begins (int) (node 22 (codes "(") None (text (codes "1") ∷ text (codes "2") ∷ [])) ≡ Err (fault (record { line = 1; column = 2 }) says.OperandsDoNotFit))
    × (begins (int) (node 22 (codes "{") None (text (codes "1") ∷ text (codes "2") ∷ [])) ≡ Err (fault (record { line = 1; column = 2 }) says.OperandsDoNotFit))
    × (begins (pointer_to int) (node 22 (codes "=") None (text (codes "5") ∷ [])) ≡ Err (fault (record { line = 1; column = 2 }) says.NoConversion))
    × (begins (reference_to int) (node 22 (codes "=") None (text (codes "1") ∷ [])) ≡ Err (fault (record { line = 1; column = 2 }) says.NoConversion))
    × (begins (constant int) (node 22 (codes "") None ([])) ≡ Err (fault (record { line = 1; column = 2 }) says.NoConversion))
    × (begins (reference_to int) (node 22 (codes "") None ([])) ≡ Err (fault (record { line = 1; column = 2 }) says.NoConversion))
unfolding begins
value_faults = (refl, refl, refl, refl, refl, refl, refl)

-- 8.5.1, 8.5.2: int a[1] = { 1, 2 }, int a[2][2] = { 1, 2 }, char s[2] = "ab", char s[2] = { "ab" }, int a[2] = x
list_faults : (begins (array_of (int) (number_bound 1)) (node 22 (codes "{") None (text (codes "1") ∷ text (codes "2") ∷ [])) ≡ Err (fault (record { line = 1; column = 2 }) says.OperandsDoNotFit))
    × (begins (array_of (array_of (int) (number_bound 2)) (number_bound 2)) (node 22 (codes "{") None (text (codes "1") ∷ text (codes "2") ∷ [])) ≡ Err (fault (record { line = 1; column = 1 }) (says.LeftOut form.BraceElision)))
    × (begins (array_of (char) (number_bound 2)) (node 22 (codes "=") None (text (codes "\"ab\"") ∷ [])) ≡ Err (fault (record { line = 1; column = 2 }) says.OperandsDoNotFit))
    × (begins (array_of (char) (number_bound 2)) (node 22 (codes "{") None (text (codes "\"ab\"") ∷ [])) ≡ Err (fault (record { line = 1; column = 2 }) says.OperandsDoNotFit))
    × (begins (array_of (int) (number_bound 2)) (node 22 (codes "=") None (name (codes "x") ∷ [])) ≡ Err (fault (record { line = 1; column = 2 }) says.NoConversion))
unfolding begins
list_faults = (refl, refl, refl, refl, refl)

-- 8.5.1: int a[2] = { p }, int a[1] = { { p } }, int a[1] = { { 1, 2 } }, int a[1][1] = { { 1, 2 } }, char s[1][2] = { "ab" }
part_faults : (begins (array_of (int) (number_bound 2)) (node 22 (codes "{") None (name (codes "p") ∷ [])) ≡ Err (fault (record { line = 1; column = 1 }) says.NoConversion))
    × (begins (array_of (int) (number_bound 1)) (node 22 (codes "{") None (node 22 (codes "{") None (name (codes "p") ∷ []) ∷ [])) ≡ Err (fault (record { line = 1; column = 1 }) says.NoConversion))
    × (begins (array_of (int) (number_bound 1)) (node 22 (codes "{") None (node 22 (codes "{") None (text (codes "1") ∷ text (codes "2") ∷ []) ∷ [])) ≡ Err (fault (record { line = 1; column = 1 }) says.OperandsDoNotFit))
    × (begins (array_of (array_of (int) (number_bound 1)) (number_bound 1)) (node 22 (codes "{") None (node 22 (codes "{") None (text (codes "1") ∷ text (codes "2") ∷ []) ∷ [])) ≡ Err (fault (record { line = 1; column = 1 }) says.OperandsDoNotFit))
    × (begins (array_of (array_of (char) (number_bound 2)) (number_bound 1)) (node 22 (codes "{") None (text (codes "\"ab\"") ∷ [])) ≡ Err (fault (record { line = 1; column = 1 }) says.OperandsDoNotFit))
unfolding begins
part_faults = (refl, refl, refl, refl, refl)
