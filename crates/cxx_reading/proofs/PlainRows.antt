-- Worked texts of words: types round a name, as lines of plain forms have them.
use Rattle.std.specs.Prelude.{true, false, ◌≡◌, refl, [], ◌∷◌, codes}
use Rattle.cxx_model.specs.declared.base.Base.TheVariants as base
use Rattle.cxx_model.specs.declared.types.Cv.{Cv}
use Rattle.cxx_model.specs.Types.Trees.{CxxType, fundamental, class_type, enumeration, pointer_to, reference_to, array_of, function_of, qualified, no_types, type_then, unknown_bound}
use Rattle.cxx_reading.specs.Words.{Tags, line_text, declared, name_word}

abbrev tags : Tags
tags = record { class_name = λ number. codes "C"; enumeration_name = λ number. codes "E" }

abbrev no_cv : Cv
no_cv = record { is_const = false; is_volatile = false }

abbrev const : CxxType → CxxType
const of = qualified (record { is_const = true; is_volatile = false }) of

abbrev int : CxxType
int = fundamental base.Int

text_1 : line_text (declared tags no_cv (pointer_to int) (name_word (codes "p") ∷ [])) ≡ codes "int *p\n"
text_1 = refl

text_2 : line_text (declared tags no_cv (const (pointer_to (pointer_to (const int)))) (name_word (codes "p") ∷ [])) ≡ codes "const int **const p\n"
text_2 = refl

text_3 : line_text (declared tags no_cv (pointer_to int) ([])) ≡ codes "int *\n"
text_3 = refl

text_4 : line_text (declared tags no_cv (const (pointer_to (fundamental base.Char))) ([])) ≡ codes "char *const\n"
text_4 = refl

text_5 : line_text (declared tags no_cv (pointer_to (array_of int unknown_bound)) (name_word (codes "p") ∷ [])) ≡ codes "int (*p)[]\n"
text_5 = refl

text_6 : line_text (declared tags no_cv (pointer_to (array_of int unknown_bound)) ([])) ≡ codes "int (*)[]\n"
text_6 = refl

text_7 : line_text (declared tags no_cv (reference_to (array_of (const int) unknown_bound)) (name_word (codes "r") ∷ [])) ≡ codes "const int (&r)[]\n"
text_7 = refl

text_8 : line_text (declared tags no_cv (array_of (pointer_to (function_of (int) (type_then (int) no_types) false no_cv)) unknown_bound) (name_word (codes "a") ∷ [])) ≡ codes "int (*a[])(int)\n"
text_8 = refl

text_9 : line_text (declared tags no_cv (function_of (pointer_to (function_of (int) (type_then (int) no_types) false no_cv)) (type_then (fundamental base.Char) no_types) false no_cv) (name_word (codes "g") ∷ [])) ≡ codes "int (*g(char))(int)\n"
text_9 = refl

text_10 : line_text (declared tags no_cv (function_of (fundamental base.Void) no_types false no_cv) (name_word (codes "f") ∷ [])) ≡ codes "void f()\n"
text_10 = refl

text_11 : line_text (declared tags no_cv (function_of (fundamental base.Void) no_types true no_cv) (name_word (codes "f") ∷ [])) ≡ codes "void f(...)\n"
text_11 = refl

text_12 : line_text (declared tags no_cv (function_of (fundamental base.UnsignedLong) (type_then int (type_then (reference_to (const (enumeration 0))) no_types)) true no_cv) (name_word (codes "f") ∷ [])) ≡ codes "unsigned long f(int, const E &, ...)\n"
text_12 = refl

text_13 : line_text (declared tags no_cv (pointer_to (function_of (class_type 0) (type_then (pointer_to (fundamental base.SignedChar)) no_types) false no_cv)) ([])) ≡ codes "C (*)(signed char *)\n"
text_13 = refl

text_14 : line_text (declared tags no_cv (qualified (record { is_const = true; is_volatile = true }) (fundamental base.LongDouble)) (name_word (codes "x") ∷ [])) ≡ codes "const volatile long double x\n"
text_14 = refl
