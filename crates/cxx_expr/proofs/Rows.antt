-- Expressions with what they give and their conversions, as the examples of the standard and two compilers have them.
use Rattle.std.specs.Prelude.{◌≡◌, [], ◌∷◌, Some, None, Ok, Err, codes, refl}
use Rattle.cxx_model.specs.declared.base.Base.TheVariants as base
use Rattle.cxx_model.specs.declared.fault.FaultText.TheVariants as says
use Rattle.cxx_model.specs.declared.fault.LeftOut.TheVariants as form
use Rattle.cxx_model.specs.Stops.{fault}
use Rattle.cxx_model.specs.Types.Trees.{array_of, fundamental, number_bound, pointer_to, reference_to}
use Rattle.cxx_expr.proofs.Sample.{assigned_to, binary, bracket, bracketed_call, call, char, choice, gives, int, long, name, node, prefix, text, to_type}

-- ---- rows

-- 2.13: 12, L'b', "ab" "c\x41", true
literal_rows : (gives (text (codes "12")) ≡ Ok (codes "12 : int"))
    × (gives (text (codes "L'b'")) ≡ Ok (codes "L'b' : wchar_t"))
    × (gives (text (codes "\"ab\" \"c\\x41\"")) ≡ Ok (codes "\"ab\" \"c\\x41\" : const char[5]&"))
    × (gives (text (codes "true")) ≡ Ok (codes "true : bool"))
unfolding gives
literal_rows = (refl, refl, refl, refl)

-- 5.1, 7.2, 8.3.2: x, r, e, (f), a, h hides the enumeration of that name
name_rows : (gives (name (codes "x")) ≡ Ok (codes "x : int&"))
    × (gives (name (codes "r")) ≡ Ok (codes "r : long&"))
    × (gives (name (codes "e")) ≡ Ok (codes "e : E0"))
    × (gives (bracket (name (codes "f"))) ≡ Ok (codes "(f) : int()&"))
    × (gives (name (codes "a")) ≡ Ok (codes "a : int[3]&"))
    × (gives (name (codes "h")) ≡ Ok (codes "h : int()&"))
unfolding gives
name_rows = (refl, refl, refl, refl, refl, refl)

-- 5.6 to 5.15: 1 + 'b' * 2u, !true && false, 1 && p, 'a' << 1L, p + 1, 1 < 2
binary_rows : (gives (binary (codes "+") (text (codes "1")) (binary (codes "*") (text (codes "'b'")) (text (codes "2u")))) ≡ Ok (codes "+(<unsigned>(1), *(<unsigned>('b'), 2u)) : unsigned"))
    × (gives (binary (codes "&&") (prefix (codes "!") (text (codes "true"))) (text (codes "false"))) ≡ Ok (codes "&&(!(true), false) : bool"))
    × (gives (binary (codes "&&") (text (codes "1")) (name (codes "p"))) ≡ Ok (codes "&&(<bool>(1), <bool>(p)) : bool"))
    × (gives (binary (codes "<<") (text (codes "'a'")) (text (codes "1L"))) ≡ Ok (codes "<<(<int>('a'), 1L) : int"))
    × (gives (binary (codes "+") (name (codes "p")) (text (codes "'a'"))) ≡ Ok (codes "+(p, 'a') : int*"))
    × (gives (binary (codes "<") (text (codes "1")) (text (codes "2"))) ≡ Ok (codes "<(1, 2) : bool"))
unfolding gives
binary_rows = (refl, refl, refl, refl, refl, refl)

-- 5.10: p == 0, 0 == p, p == pc, p != pv, p == (0)
pointer_rows : (gives (binary (codes "==") (name (codes "p")) (text (codes "0"))) ≡ Ok (codes "==(p, <int*>(0)) : bool"))
    × (gives (binary (codes "==") (text (codes "0")) (name (codes "p"))) ≡ Ok (codes "==(<int*>(0), p) : bool"))
    × (gives (binary (codes "==") (name (codes "p")) (name (codes "pc"))) ≡ Ok (codes "==(p, pc) : bool"))
    × (gives (binary (codes "!=") (name (codes "p")) (name (codes "pv"))) ≡ Ok (codes "!=(<void*>(p), pv) : bool"))
    × (gives (binary (codes "==") (name (codes "p")) (bracket (text (codes "0")))) ≡ Ok (codes "==(p, <int*>((0))) : bool"))
unfolding gives
pointer_rows = (refl, refl, refl, refl, refl)

-- 5.3.1, 5.2.6, 5.2.1: &x, *p, -'a', ~b, ++x, x++, p[1], *f
unary_rows : (gives (prefix (codes "&") (name (codes "x"))) ≡ Ok (codes "&(x) : int*"))
    × (gives (prefix (codes "*") (name (codes "p"))) ≡ Ok (codes "*(p) : int&"))
    × (gives (prefix (codes "-") (text (codes "'a'"))) ≡ Ok (codes "-(<int>('a')) : int"))
    × (gives (prefix (codes "~") (name (codes "b"))) ≡ Ok (codes "~(<int>(b)) : int"))
    × (gives (prefix (codes "++") (name (codes "x"))) ≡ Ok (codes "++(x) : int&"))
    × (gives (node 45 (codes "++") None (name (codes "x") ∷ [])) ≡ Ok (codes "++(x) : int"))
    × (gives (node 44 (codes "") None (name (codes "p") ∷ text (codes "1") ∷ [])) ≡ Ok (codes "(p, 1) : int&"))
    × (gives (prefix (codes "*") (name (codes "f"))) ≡ Ok (codes "*(f) : int()&"))
unfolding gives
unary_rows = (refl, refl, refl, refl, refl, refl, refl, refl)

-- 5.16: b ? 1 : 'c', b ? p : 0, x ? x : x
conditional_rows : (gives (choice (name (codes "b")) (text (codes "1")) (text (codes "'c'"))) ≡ Ok (codes "?(b, 1, <int>('c')) : int"))
    × (gives (choice (name (codes "b")) (name (codes "p")) (text (codes "0"))) ≡ Ok (codes "?(b, p, <int*>(0)) : int*"))
    × (gives (choice (name (codes "x")) (name (codes "x")) (name (codes "x"))) ≡ Ok (codes "?(<bool>(x), x, x) : int&"))
unfolding gives
conditional_rows = (refl, refl, refl)

-- 5.17, 5.18: x = 'a', p = 0, x += 1L, x, p
assignment_rows : (gives (assigned_to (codes "=") (name (codes "x")) (text (codes "'a'"))) ≡ Ok (codes "=(x, <int>('a')) : int&"))
    × (gives (assigned_to (codes "=") (name (codes "p")) (text (codes "0"))) ≡ Ok (codes "=(p, <int*>(0)) : int*&"))
    × (gives (assigned_to (codes "+=") (name (codes "x")) (text (codes "1L"))) ≡ Ok (codes "+=(x, 1L) : int&"))
    × (gives (assigned_to (codes ",") (name (codes "x")) (name (codes "a"))) ≡ Ok (codes ",(x, a) : int[3]&"))
unfolding gives
assignment_rows = (refl, refl, refl, refl)

-- 5.4, 5.2.9, 5.2.3: (char *)pc, (long)x, (int *)0, (void)x, static_cast<long>(x), const_cast<int *>(pc), char(x), int(), (int &)x
cast_rows : (gives (to_type (codes "(") (pointer_to char) (name (codes "pc"))) ≡ Ok (codes "const_cast<char*>(reinterpret_cast<const char*>(pc)) : char*"))
    × (gives (to_type (codes "(") (long) (name (codes "x"))) ≡ Ok (codes "static_cast<long>(x) : long"))
    × (gives (to_type (codes "(") (pointer_to int) (text (codes "0"))) ≡ Ok (codes "static_cast<int*>(0) : int*"))
    × (gives (to_type (codes "(") (fundamental base.Void) (name (codes "x"))) ≡ Ok (codes "static_cast<void>(x) : void"))
    × (gives (to_type (codes "static_cast") (long) (name (codes "x"))) ≡ Ok (codes "static_cast<long>(x) : long"))
    × (gives (to_type (codes "const_cast") (pointer_to int) (name (codes "pc"))) ≡ Ok (codes "const_cast<int*>(pc) : int*"))
    × (gives (node 41 (codes "") (Some char) (name (codes "x") ∷ [])) ≡ Ok (codes "static_cast<char>(x) : char"))
    × (gives (node 41 (codes "") (Some int) []) ≡ Ok (codes "<int> : int"))
    × (gives (to_type (codes "(") (reference_to int) (name (codes "x"))) ≡ Ok (codes "const_cast<int&>(x) : int&"))
unfolding gives
cast_rows = (refl, refl, refl, refl, refl, refl, refl, refl, refl)

-- 5.3.3: sizeof(long), sizeof x, sizeof (a)
size_rows : (gives (node 47 (codes "") (Some long) []) ≡ Ok (codes "8UL<long> : unsigned long"))
    × (gives (node 47 (codes "") None (name (codes "x") ∷ [])) ≡ Ok (codes "4UL(x) : unsigned long"))
    × (gives (node 47 (codes "") None (bracket (name (codes "a")) ∷ [])) ≡ Ok (codes "12UL((a)) : unsigned long"))
unfolding gives
size_rows = (refl, refl, refl)

-- 5.2.2, 8.3.6: f('a'), f(1, 2), h(1) calls the function, q('a'), (*q)(1)
call_rows : (gives (call (codes "f") (text (codes "'a'") ∷ [])) ≡ Ok (codes "f(<int>('a'), <long>(2)) : int"))
    × (gives (call (codes "f") (text (codes "1") ∷ text (codes "2") ∷ [])) ≡ Ok (codes "f(1, <long>(2)) : int"))
    × (gives (call (codes "h") (text (codes "1") ∷ [])) ≡ Ok (codes "h(1) : int"))
    × (gives (call (codes "q") (text (codes "'a'") ∷ [])) ≡ Ok (codes "(q, <int>('a')) : int"))
    × (gives (node 40 (codes "") None (bracket (prefix (codes "*") (name (codes "q"))) ∷ text (codes "1") ∷ [])) ≡ Ok (codes "((*(q)), 1) : int"))
unfolding gives
call_rows = (refl, refl, refl, refl, refl)

-- 3.4, 3.4.2, 13.4: y, y(), (y)(), g
name_faults : (gives (name (codes "y")) ≡ Err (fault (record { line = 1; column = 3 }) (says.UndeclaredName (codes "y"))))
    × (gives (call (codes "y") ([])) ≡ Err (fault (record { line = 1; column = 2 }) (says.UndeclaredName (codes "y"))))
    × (gives (bracketed_call (codes "y") ([])) ≡ Err (fault (record { line = 1; column = 3 }) (says.UndeclaredName (codes "y"))))
    × (gives (name (codes "g")) ≡ Err (fault (record { line = 1; column = 2 }) (says.LeftOut form.AddressOfSeveralFunctions)))
unfolding gives
name_faults = (refl, refl, refl, refl)

-- clause 5: p + p, *pv, &1, 1 = 2, e + 1, b ? x : p
operand_faults : (gives (binary (codes "+") (name (codes "p")) (name (codes "p"))) ≡ Err (fault (record { line = 1; column = 2 }) says.OperandsDoNotFit))
    × (gives (prefix (codes "*") (name (codes "pv"))) ≡ Err (fault (record { line = 1; column = 2 }) says.OperandsDoNotFit))
    × (gives (prefix (codes "&") (text (codes "1"))) ≡ Err (fault (record { line = 1; column = 2 }) says.OperandsDoNotFit))
    × (gives (assigned_to (codes "=") (text (codes "1")) (text (codes "2"))) ≡ Err (fault (record { line = 1; column = 2 }) says.OperandsDoNotFit))
    × (gives (binary (codes "+") (name (codes "e")) (text (codes "1"))) ≡ Err (fault (record { line = 1; column = 2 }) says.NotBuilt))
    × (gives (choice (name (codes "b")) (name (codes "x")) (name (codes "p"))) ≡ Err (fault (record { line = 1; column = 2 }) says.OperandsDoNotFit))
unfolding gives
operand_faults = (refl, refl, refl, refl, refl, refl)

-- static_cast<int *>(5), reinterpret_cast<int>(x), const_cast<int *>(0), a cast to an array, int(1, 2), sizeof f
cast_faults : (gives (to_type (codes "static_cast") (pointer_to int) (text (codes "5"))) ≡ Err (fault (record { line = 1; column = 2 }) says.OperandsDoNotFit))
    × (gives (to_type (codes "reinterpret_cast") (int) (name (codes "x"))) ≡ Err (fault (record { line = 1; column = 2 }) says.OperandsDoNotFit))
    × (gives (to_type (codes "const_cast") (pointer_to int) (text (codes "0"))) ≡ Err (fault (record { line = 1; column = 2 }) says.OperandsDoNotFit))
    × (gives (to_type (codes "(") (array_of int (number_bound 2)) (name (codes "a"))) ≡ Err (fault (record { line = 1; column = 2 }) says.OperandsDoNotFit))
    × (gives (node 41 (codes "") (Some int) (text (codes "1") ∷ text (codes "2") ∷ [])) ≡ Err (fault (record { line = 1; column = 2 }) says.OperandsDoNotFit))
    × (gives (node 47 (codes "") None (name (codes "f") ∷ [])) ≡ Err (fault (record { line = 1; column = 1 }) says.OperandsDoNotFit))
unfolding gives
cast_faults = (refl, refl, refl, refl, refl, refl)

-- 5.2.2: q(), q(p), x(1)
call_faults : (gives (call (codes "q") ([])) ≡ Err (fault (record { line = 1; column = 1 }) says.NoConversion))
    × (gives (call (codes "q") (name (codes "p") ∷ [])) ≡ Err (fault (record { line = 1; column = 1 }) says.NoConversion))
    × (gives (call (codes "x") (text (codes "1") ∷ [])) ≡ Err (fault (record { line = 1; column = 1 }) says.OperandsDoNotFit))
unfolding gives
call_faults = (refl, refl, refl)
