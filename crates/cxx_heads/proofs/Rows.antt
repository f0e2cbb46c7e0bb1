-- Worked statements and conditions: what each begins with.
use Rattle.std.specs.Prelude.{ℕ, zero, suc, pos, Bool, true, false, ◌≡◌, refl, ◌++◌, ◌==◌, if◌then◌else◌, List, [], ◌∷◌, Result, Ok, Err, codes}
use Rattle.cxx_heads.specs.declared.head.Head.{Head}
use Rattle.cxx_heads.specs.declared.head.Head.TheVariants as head
use Rattle.cxx_heads.specs.Heads.{name_step, name_passed, list_step, exceptions_step, suffix_step, suffixes_passed, closing_step, closed_passed, bound_step, bounds_passed, declarator_begins, specifiers_begin, is_declaration, head_at, type_word_step, types_alone, initializer_follows, condition_begins, is_declared_condition}
use Rattle.cxx_model.specs.declared.base.Base.TheVariants as base
use Rattle.cxx_model.specs.declared.token.Token.{Token}
use Rattle.cxx_model.specs.declared.tree.Kind.{Kind}
use Rattle.cxx_model.specs.declared.tree.Kind.TheVariants as kind
use Rattle.cxx_model.specs.Stops.{Answer}
use Rattle.cxx_model.specs.Text.Lexemes.{first_place, lexemes}
use Rattle.cxx_model.specs.Text.Spelling.{spelling_of, keywords, alternatives, operators, digraphs, word_kind, number_kind, operator, literal, hash, slash, percent, literal_type, literal_value}
use Rattle.cxx_model.specs.Text.Tokens.{Unread, tokens_of, tokens_from, front, longest_within}
use Rattle.cxx_model.specs.Types.Trees.{fundamental}
use Rattle.cxx_reading.specs.Kinds.{Kinds, Readers, too_deep}
use Rattle.cxx_reading.specs.Reads.{Ahead, Got, place_ahead, repeat}
use Rattle.cxx_reading.specs.Shapes as shape
use Rattle.cxx_reading.specs.Shapes.{bracket_step, brackets_passed, key_shape, name_shape, keyword_shape, run_step, run_passed, begins_type, is_abstract_list, prefix_step, prefix_passed, list_shape, suffixes_by, declarator_passed, default_step, default_passed, piece_step, parameters_shape}
use Rattle.cxx_reading.specs.Tokens.{is_punct, is_keyword, is_name, is_end, passed_from, kind_of_name}
use Rattle.cxx_reading.specs.Trees.{CxxPathPart, CxxPath, last_part}

-- ---- a user: names whose last part begins with `T` or `U` are types, and the state holds the names that were asked

abbrev words_in : List CxxPathPart → List ℕ
words_in [] = []
words_in (part ∷ []) = part.word
words_in (part ∷ next ∷ others) = part.word ++ (codes "::" ++ words_in (next ∷ others))

abbrev global_words : Bool → List ℕ → List ℕ
global_words true words = codes "::" ++ words
global_words false words = words

abbrev name_of : CxxPath → List ℕ
name_of path = global_words path.global (words_in path.parts)

abbrev kind_of_word : List ℕ → Kind
kind_of_word [] = kind.Value
kind_of_word (b ∷ others) = if b == 84 then kind.OfType else (if b == 85 then kind.OfType else kind.Value)

abbrev user : ℕ → Kinds (List ℕ)
user room = record {
  kind = λ path state. Ok (kind_of_word (last_part path.parts).word, state ++ (codes " " ++ name_of path));
  type_named = λ path state. Ok (fundamental base.Int, state);
  elaborated = λ path state. Ok (fundamental base.Int, state);
  class_named = λ is_union is_all path state. Ok (fundamental base.Int, state);
  entered = λ path state. Ok (tt, state);
  enumeration = λ name place state. Ok (0, state);
  enumerator = λ number name value state. Ok (tt, state);
  enumerated = λ number state. Ok (tt, state);
  constant = λ tree state. Ok (pos 3, state);
  enter_parameters = λ state. Ok (0, state);
  parameter = λ name place of state. Ok (tt, state);
  leave_parameters = λ state. Ok (tt, state);
}

-- readers with room for so many brackets: of them only whether parameters stand behind one is asked
shapes : ℕ → Readers (List ℕ)
shapes zero = too_deep
shapes (suc room) = record (too_deep {S = List ℕ}) { holds_parameters = parameters_shape (user room) (shapes room) }

-- what stands ahead, and the column of the next token then
pub data Row : Type 0 where
  Begins : Head → ℕ → Row
  IsDeclared : ℕ → Row
  IsNot : ℕ → Row
  Nothing : Row

abbrev begins_by : Answer (Got (List ℕ) Head) → Row
begins_by (Ok one) = Begins one.value (place_ahead one.rest).column
begins_by (Err why) = Nothing

abbrev declared_by : Bool → ℕ → Row
declared_by true column = IsDeclared column
declared_by false column = IsNot column

abbrev condition_by : Answer (Got (List ℕ) Bool) → Row
condition_by (Ok one) = declared_by one.value (place_ahead one.rest).column
condition_by (Err why) = Nothing

abbrev asked_by : Answer (Got (List ℕ) Head) → List ℕ
asked_by (Ok one) = one.state
asked_by (Err why) = []

abbrev ahead_of : List ℕ → List Token → Ahead
ahead_of bytes tokens = record { last = first_place; tokens = lexemes bytes tokens }

statement_row : List ℕ → Result (List Token) Unread → Row
unfolding spelling_of keywords alternatives operators digraphs word_kind number_kind operator literal hash slash percent literal_type literal_value tokens_of tokens_from front longest_within repeat is_punct is_keyword is_name is_end passed_from kind_of_name bracket_step brackets_passed key_shape name_shape keyword_shape run_step run_passed begins_type is_abstract_list prefix_step prefix_passed list_shape shape.suffix_step suffixes_by declarator_passed default_step default_passed piece_step parameters_shape shapes name_step name_passed list_step exceptions_step suffix_step suffixes_passed closing_step closed_passed bound_step bounds_passed declarator_begins specifiers_begin is_declaration head_at type_word_step types_alone initializer_follows condition_begins is_declared_condition
statement_row bytes (Ok tokens) = begins_by (head_at (user 9) (shapes 9) [] (ahead_of bytes tokens))
statement_row bytes (Err why) = Nothing

-- what a statement begins with
statement : List ℕ → Row
unfolding spelling_of keywords alternatives operators digraphs word_kind number_kind operator literal hash slash percent literal_type literal_value tokens_of tokens_from front longest_within statement_row
statement bytes = statement_row bytes (tokens_of bytes)

condition_row : List ℕ → Result (List Token) Unread → Row
unfolding spelling_of keywords alternatives operators digraphs word_kind number_kind operator literal hash slash percent literal_type literal_value tokens_of tokens_from front longest_within repeat is_punct is_keyword is_name is_end passed_from kind_of_name bracket_step brackets_passed key_shape name_shape keyword_shape run_step run_passed begins_type is_abstract_list prefix_step prefix_passed list_shape shape.suffix_step suffixes_by declarator_passed default_step default_passed piece_step parameters_shape shapes name_step name_passed list_step exceptions_step suffix_step suffixes_passed closing_step closed_passed bound_step bounds_passed declarator_begins specifiers_begin is_declaration head_at type_word_step types_alone initializer_follows condition_begins is_declared_condition
condition_row bytes (Ok tokens) = condition_by (is_declared_condition (user 9) (shapes 9) [] (ahead_of bytes tokens))
condition_row bytes (Err why) = Nothing

-- whether a condition, with the bracket behind it, is declared
condition : List ℕ → Row
unfolding spelling_of keywords alternatives operators digraphs word_kind number_kind operator literal hash slash percent literal_type literal_value tokens_of tokens_from front longest_within condition_row
condition bytes = condition_row bytes (tokens_of bytes)

asked_row : List ℕ → Result (List Token) Unread → List ℕ
unfolding spelling_of keywords alternatives operators digraphs word_kind number_kind operator literal hash slash percent literal_type literal_value tokens_of tokens_from front longest_within repeat is_punct is_keyword is_name is_end passed_from kind_of_name bracket_step brackets_passed key_shape name_shape keyword_shape run_step run_passed begins_type is_abstract_list prefix_step prefix_passed list_shape shape.suffix_step suffixes_by declarator_passed default_step default_passed piece_step parameters_shape shapes name_step name_passed list_step exceptions_step suffix_step suffixes_passed closing_step closed_passed bound_step bounds_passed declarator_begins specifiers_begin is_declaration head_at type_word_step types_alone initializer_follows condition_begins is_declared_condition
asked_row bytes (Ok tokens) = asked_by (head_at (user 9) (shapes 9) [] (ahead_of bytes tokens))
asked_row bytes (Err why) = []

-- the names that are asked where a statement begins
asked : List ℕ → List ℕ
unfolding spelling_of keywords alternatives operators digraphs word_kind number_kind operator literal hash slash percent literal_type literal_value tokens_of tokens_from front longest_within asked_row
asked bytes = asked_row bytes (tokens_of bytes)

-- ---- 6.8: expressions that begin as a call of a type

row_1 : statement (codes "T(a)->m = 7;") ≡ Begins head.Expression 1
unfolding statement statement_row
row_1 = refl

row_2 : statement (codes "T(a)++;") ≡ Begins head.Expression 1
unfolding statement statement_row
row_2 = refl

row_3 : statement (codes "T(a,5)<<c;") ≡ Begins head.Expression 1
unfolding statement statement_row
row_3 = refl

-- ---- 6.8: declarations, whatever they mean

row_4 : statement (codes "T(*d)(int);") ≡ Begins head.Declaration 1
unfolding statement statement_row
row_4 = refl

row_5 : statement (codes "T(e)[5];") ≡ Begins head.Declaration 1
unfolding statement statement_row
row_5 = refl

row_6 : statement (codes "T(f) = { 1, 2 };") ≡ Begins head.Declaration 1
unfolding statement statement_row
row_6 = refl

row_7 : statement (codes "T(*g)(double(3));") ≡ Begins head.Declaration 1
unfolding statement statement_row
row_7 = refl

-- ---- 6.8: the remaining cases

row_8 : statement (codes "T(a);") ≡ Begins head.Declaration 1
unfolding statement statement_row
row_8 = refl

row_9 : statement (codes "T(*b)();") ≡ Begins head.Declaration 1
unfolding statement statement_row
row_9 = refl

row_10 : statement (codes "T(c)=7;") ≡ Begins head.Declaration 1
unfolding statement statement_row
row_10 = refl

row_11 : statement (codes "T(d),e,f=3;") ≡ Begins head.Declaration 1
unfolding statement statement_row
row_11 = refl

row_12 : statement (codes "T(g)(h,2);") ≡ Begins head.Declaration 1
unfolding statement statement_row
row_12 = refl

-- ---- a name in brackets, parameters inside of them, and what is no declarator

row_13 : statement (codes "T(y) = 1;") ≡ Begins head.Declaration 1
unfolding statement statement_row
row_13 = refl

row_14 : statement (codes "T(f(T));") ≡ Begins head.Declaration 1
unfolding statement statement_row
row_14 = refl

row_15 : statement (codes "T (*r)(T) = 0;") ≡ Begins head.Declaration 1
unfolding statement statement_row
row_15 = refl

row_16 : statement (codes "T(y) + 1") ≡ Begins head.Expression 1
unfolding statement statement_row
row_16 = refl

row_17 : statement (codes "T(f(1));") ≡ Begins head.Expression 1
unfolding statement statement_row
row_17 = refl

row_18 : statement (codes "T(N::x);") ≡ Begins head.Expression 1
unfolding statement statement_row
row_18 = refl

row_19 : statement (codes "x * *p;") ≡ Begins head.Expression 1
unfolding statement statement_row
row_19 = refl

-- ---- what is no declaration is an expression

row_20 : statement (codes "int x }") ≡ Begins head.Expression 1
unfolding statement statement_row
row_20 = refl

row_21 : statement (codes "const x = 5;") ≡ Begins head.Expression 1
unfolding statement statement_row
row_21 = refl

row_22 : statement (codes "int N::x;") ≡ Begins head.Expression 1
unfolding statement statement_row
row_22 = refl

row_23 : statement (codes "foo bar;") ≡ Begins head.Expression 1
unfolding statement statement_row
row_23 = refl

row_24 : statement (codes "T;") ≡ Begins head.Expression 1
unfolding statement statement_row
row_24 = refl

row_25 : statement (codes "const T;") ≡ Begins head.Expression 1
unfolding statement statement_row
row_25 = refl

row_26 : statement (codes "inline;") ≡ Begins head.Expression 1
unfolding statement statement_row
row_26 = refl

row_27 : statement (codes "else") ≡ Begins head.Expression 1
unfolding statement statement_row
row_27 = refl

row_28 : statement (codes ";") ≡ Begins head.Expression 1
unfolding statement statement_row
row_28 = refl

row_29 : statement (codes "T(q) T;") ≡ Begins head.Expression 1
unfolding statement statement_row
row_29 = refl

-- ---- 7.1: words with which nothing but a declaration begins

row_30 : statement (codes "static x = 1;") ≡ Begins head.Declaration 1
unfolding statement statement_row
row_30 = refl

row_31 : statement (codes "typedef T U;") ≡ Begins head.Declaration 1
unfolding statement statement_row
row_31 = refl

row_32 : statement (codes "extern \"C\" int f();") ≡ Begins head.Declaration 1
unfolding statement statement_row
row_32 = refl

row_33 : statement (codes "register") ≡ Begins head.Declaration 1
unfolding statement statement_row
row_33 = refl

row_34 : statement (codes "auto int x;") ≡ Begins head.Declaration 1
unfolding statement statement_row
row_34 = refl

row_35 : statement (codes "enum;") ≡ Begins head.Declaration 1
unfolding statement statement_row
row_35 = refl

row_36 : statement (codes "enum { a };") ≡ Begins head.Declaration 1
unfolding statement statement_row
row_36 = refl

row_37 : statement (codes "struct S;") ≡ Begins head.Declaration 1
unfolding statement statement_row
row_37 = refl

row_38 : statement (codes "class") ≡ Begins head.Declaration 1
unfolding statement statement_row
row_38 = refl

row_39 : statement (codes "union") ≡ Begins head.Declaration 1
unfolding statement statement_row
row_39 = refl

row_40 : statement (codes "const static x = 1;") ≡ Begins head.Expression 1
unfolding statement statement_row
row_40 = refl

row_41 : statement (codes "const static T x = 1;") ≡ Begins head.Declaration 1
unfolding statement statement_row
row_41 = refl

row_42 : statement (codes "mutable T x;") ≡ Begins head.Declaration 1
unfolding statement statement_row
row_42 = refl

-- ---- 7.3, 6.1

row_43 : statement (codes "using N::x;") ≡ Begins head.Using 1
unfolding statement statement_row
row_43 = refl

row_44 : statement (codes "namespace N = M;") ≡ Begins head.Namespace 1
unfolding statement statement_row
row_44 = refl

row_45 : statement (codes "x : y") ≡ Begins head.Label 1
unfolding statement statement_row
row_45 = refl

row_46 : statement (codes "T : ;") ≡ Begins head.Label 1
unfolding statement statement_row
row_46 = refl

row_47 : statement (codes "T ::x;") ≡ Begins head.Expression 1
unfolding statement statement_row
row_47 = refl

-- ---- 7.1.5: specifiers with one type

row_48 : statement (codes "unsigned T;") ≡ Begins head.Declaration 1
unfolding statement statement_row
row_48 = refl

row_49 : statement (codes "unsigned T = 3;") ≡ Begins head.Declaration 1
unfolding statement statement_row
row_49 = refl

row_50 : statement (codes "T T;") ≡ Begins head.Declaration 1
unfolding statement statement_row
row_50 = refl

row_51 : statement (codes "T(T);") ≡ Begins head.Declaration 1
unfolding statement statement_row
row_51 = refl

row_52 : statement (codes "unsigned long x, y;") ≡ Begins head.Declaration 1
unfolding statement statement_row
row_52 = refl

row_53 : statement (codes "const enum E x = a;") ≡ Begins head.Declaration 1
unfolding statement statement_row
row_53 = refl

row_54 : statement (codes "const enum E { a } x;") ≡ Begins head.Declaration 1
unfolding statement statement_row
row_54 = refl

row_55 : statement (codes "const enum { a } x;") ≡ Begins head.Declaration 1
unfolding statement statement_row
row_55 = refl

row_56 : statement (codes "const enum 5 x;") ≡ Begins head.Expression 1
unfolding statement statement_row
row_56 = refl

-- ---- 3.4.3: names with qualifiers, of which the last part tells what they are

row_57 : statement (codes "N::x = 3;") ≡ Begins head.Expression 1
unfolding statement statement_row
row_57 = refl

row_58 : statement (codes "N::T x;") ≡ Begins head.Declaration 1
unfolding statement statement_row
row_58 = refl

row_59 : statement (codes "const N::T x;") ≡ Begins head.Declaration 1
unfolding statement statement_row
row_59 = refl

row_60 : statement (codes "N::M::T *x;") ≡ Begins head.Declaration 1
unfolding statement statement_row
row_60 = refl

row_61 : statement (codes "::T x = 3;") ≡ Begins head.Declaration 1
unfolding statement statement_row
row_61 = refl

row_62 : statement (codes "::x = 3;") ≡ Begins head.Expression 1
unfolding statement statement_row
row_62 = refl

row_63 : statement (codes "T::x = 3;") ≡ Begins head.Expression 1
unfolding statement statement_row
row_63 = refl

row_64 : statement (codes "N::T(x);") ≡ Begins head.Declaration 1
unfolding statement statement_row
row_64 = refl

row_65 : statement (codes "N::T(N::x);") ≡ Begins head.Expression 1
unfolding statement statement_row
row_65 = refl

row_66 : statement (codes "N::T(::x);") ≡ Begins head.Expression 1
unfolding statement statement_row
row_66 = refl

row_67 : statement (codes "N::T;") ≡ Begins head.Expression 1
unfolding statement statement_row
row_67 = refl

row_68 : statement (codes "N::T x(N::y);") ≡ Begins head.Declaration 1
unfolding statement statement_row
row_68 = refl

row_69 : statement (codes "T x = N::y;") ≡ Begins head.Declaration 1
unfolding statement statement_row
row_69 = refl

row_70 : statement (codes "T(f(N::T));") ≡ Begins head.Declaration 1
unfolding statement statement_row
row_70 = refl

row_71 : statement (codes "T(f(N::T y, ::T));") ≡ Begins head.Declaration 1
unfolding statement statement_row
row_71 = refl

row_72 : statement (codes "T(f(N::x));") ≡ Begins head.Expression 1
unfolding statement statement_row
row_72 = refl

row_73 : statement (codes "T(f(::x));") ≡ Begins head.Expression 1
unfolding statement statement_row
row_73 = refl

row_74 : statement (codes "T(f(T = N::x));") ≡ Begins head.Declaration 1
unfolding statement statement_row
row_74 = refl

row_75 : statement (codes "N::T::*x;") ≡ Begins head.Expression 1
unfolding statement statement_row
row_75 = refl

row_76 : statement (codes "N::T *N::x;") ≡ Begins head.Expression 1
unfolding statement statement_row
row_76 = refl

row_77 : statement (codes "N::T(*N::x) = 0;") ≡ Begins head.Expression 1
unfolding statement statement_row
row_77 = refl

row_78 : statement (codes "N::T N;") ≡ Begins head.Declaration 1
unfolding statement statement_row
row_78 = refl

row_79 : statement (codes "const enum N::E x;") ≡ Begins head.Declaration 1
unfolding statement statement_row
row_79 = refl

row_80 : statement (codes "enum ::E x;") ≡ Begins head.Declaration 1
unfolding statement statement_row
row_80 = refl

row_81 : statement (codes "const enum N::E { a } x;") ≡ Begins head.Expression 1
unfolding statement statement_row
row_81 = refl

row_82 : statement (codes "const enum N:: x;") ≡ Begins head.Expression 1
unfolding statement statement_row
row_82 = refl

row_83 : statement (codes "N:: x y;") ≡ Begins head.Expression 1
unfolding statement statement_row
row_83 = refl

row_84 : statement (codes "N::T:: x;") ≡ Begins head.Expression 1
unfolding statement statement_row
row_84 = refl

row_85 : statement (codes "N::5;") ≡ Begins head.Expression 1
unfolding statement statement_row
row_85 = refl

row_86 : statement (codes ":: ;") ≡ Begins head.Expression 1
unfolding statement statement_row
row_86 = refl

row_87 : statement (codes "::::T x;") ≡ Begins head.Expression 1
unfolding statement statement_row
row_87 = refl

row_88 : statement (codes "N::::T x;") ≡ Begins head.Expression 1
unfolding statement statement_row
row_88 = refl

row_89 : statement (codes "const N:: T::;") ≡ Begins head.Expression 1
unfolding statement statement_row
row_89 = refl

row_90 : statement (codes "N::T : ;") ≡ Begins head.Expression 1
unfolding statement statement_row
row_90 = refl

-- ---- 8: pointer operators and brackets

row_91 : statement (codes "T *x;") ≡ Begins head.Declaration 1
unfolding statement statement_row
row_91 = refl

row_92 : statement (codes "T **x;") ≡ Begins head.Declaration 1
unfolding statement statement_row
row_92 = refl

row_93 : statement (codes "T &x = y;") ≡ Begins head.Declaration 1
unfolding statement statement_row
row_93 = refl

row_94 : statement (codes "T *const x = 0;") ≡ Begins head.Declaration 1
unfolding statement statement_row
row_94 = refl

row_95 : statement (codes "T *const volatile *x;") ≡ Begins head.Declaration 1
unfolding statement statement_row
row_95 = refl

row_96 : statement (codes "T & const x = y;") ≡ Begins head.Expression 1
unfolding statement statement_row
row_96 = refl

row_97 : statement (codes "T(const x);") ≡ Begins head.Expression 1
unfolding statement statement_row
row_97 = refl

row_98 : statement (codes "T(* *x);") ≡ Begins head.Declaration 1
unfolding statement statement_row
row_98 = refl

row_99 : statement (codes "T(&x) = y;") ≡ Begins head.Declaration 1
unfolding statement statement_row
row_99 = refl

row_100 : statement (codes "T((x));") ≡ Begins head.Declaration 1
unfolding statement statement_row
row_100 = refl

row_101 : statement (codes "T((x) + 1);") ≡ Begins head.Expression 1
unfolding statement statement_row
row_101 = refl

row_102 : statement (codes "T((x)(1) + 1);") ≡ Begins head.Expression 1
unfolding statement statement_row
row_102 = refl

row_103 : statement (codes "T(*x)++;") ≡ Begins head.Expression 1
unfolding statement statement_row
row_103 = refl

row_104 : statement (codes "T(x") ≡ Begins head.Expression 1
unfolding statement statement_row
row_104 = refl

row_105 : statement (codes "T(x, 1);") ≡ Begins head.Expression 1
unfolding statement statement_row
row_105 = refl

row_106 : statement (codes "T()") ≡ Begins head.Expression 1
unfolding statement statement_row
row_106 = refl

row_107 : statement (codes "T(1);") ≡ Begins head.Expression 1
unfolding statement statement_row
row_107 = refl

-- ---- 8.3.4, 8.3.5: behind a name in brackets

row_108 : statement (codes "T(f());") ≡ Begins head.Declaration 1
unfolding statement statement_row
row_108 = refl

row_109 : statement (codes "T(f(...));") ≡ Begins head.Declaration 1
unfolding statement statement_row
row_109 = refl

row_110 : statement (codes "T(f(T...));") ≡ Begins head.Declaration 1
unfolding statement statement_row
row_110 = refl

row_111 : statement (codes "T(f(T, foo));") ≡ Begins head.Expression 1
unfolding statement statement_row
row_111 = refl

row_112 : statement (codes "T(f(T y, int));") ≡ Begins head.Declaration 1
unfolding statement statement_row
row_112 = refl

row_113 : statement (codes "T(f(T = 3));") ≡ Begins head.Declaration 1
unfolding statement statement_row
row_113 = refl

row_114 : statement (codes "T(f(T(y)));") ≡ Begins head.Declaration 1
unfolding statement statement_row
row_114 = refl

row_115 : statement (codes "T(f(T(1)));") ≡ Begins head.Expression 1
unfolding statement statement_row
row_115 = refl

row_116 : statement (codes "T(f(T) + 1);") ≡ Begins head.Expression 1
unfolding statement statement_row
row_116 = refl

row_117 : statement (codes "T((f)(T));") ≡ Begins head.Declaration 1
unfolding statement statement_row
row_117 = refl

row_118 : statement (codes "T((*f)(T));") ≡ Begins head.Declaration 1
unfolding statement statement_row
row_118 = refl

row_119 : statement (codes "T(*f(T));") ≡ Begins head.Declaration 1
unfolding statement statement_row
row_119 = refl

row_120 : statement (codes "T (*(*p)(T))(T);") ≡ Begins head.Declaration 1
unfolding statement statement_row
row_120 = refl

row_121 : statement (codes "T (*(*p)(y))(T);") ≡ Begins head.Expression 1
unfolding statement statement_row
row_121 = refl

row_122 : statement (codes "T(f[3]);") ≡ Begins head.Declaration 1
unfolding statement statement_row
row_122 = refl

row_123 : statement (codes "T(f[3], 1);") ≡ Begins head.Expression 1
unfolding statement statement_row
row_123 = refl

row_124 : statement (codes "T(f(T) const);") ≡ Begins head.Declaration 1
unfolding statement statement_row
row_124 = refl

row_125 : statement (codes "T(f const);") ≡ Begins head.Expression 1
unfolding statement statement_row
row_125 = refl

row_126 : statement (codes "T(f[2] const);") ≡ Begins head.Expression 1
unfolding statement statement_row
row_126 = refl

row_127 : statement (codes "T(f(T) throw());") ≡ Begins head.Declaration 1
unfolding statement statement_row
row_127 = refl

row_128 : statement (codes "T(f(T) const throw(y));") ≡ Begins head.Declaration 1
unfolding statement statement_row
row_128 = refl

row_129 : statement (codes "T(f(T) throw);") ≡ Begins head.Expression 1
unfolding statement statement_row
row_129 = refl

row_130 : statement (codes "T(f throw());") ≡ Begins head.Expression 1
unfolding statement statement_row
row_130 = refl

-- ---- 8: behind all brackets no end is wanted

row_131 : statement (codes "T x(") ≡ Begins head.Declaration 1
unfolding statement statement_row
row_131 = refl

row_132 : statement (codes "T x(1) + 2;") ≡ Begins head.Declaration 1
unfolding statement statement_row
row_132 = refl

row_133 : statement (codes "T(x)(") ≡ Begins head.Declaration 1
unfolding statement statement_row
row_133 = refl

row_134 : statement (codes "T x[(1] = 2;") ≡ Begins head.Expression 1
unfolding statement statement_row
row_134 = refl

row_135 : statement (codes "T x[1][2] = y;") ≡ Begins head.Declaration 1
unfolding statement statement_row
row_135 = refl

row_136 : statement (codes "T(x)[1] + 2;") ≡ Begins head.Expression 1
unfolding statement statement_row
row_136 = refl

row_137 : statement (codes "T(x), y + 2;") ≡ Begins head.Declaration 1
unfolding statement statement_row
row_137 = refl

row_138 : statement (codes "T x y;") ≡ Begins head.Expression 1
unfolding statement statement_row
row_138 = refl

-- ---- 6.4: a declarator with a name and `=`

row_139 : condition (codes "T(x) = 3)") ≡ IsDeclared 1
unfolding condition condition_row
row_139 = refl

row_140 : condition (codes "T(x), y)") ≡ IsNot 1
unfolding condition condition_row
row_140 = refl

row_141 : condition (codes "int x)") ≡ IsNot 1
unfolding condition condition_row
row_141 = refl

row_142 : condition (codes "int x(3))") ≡ IsNot 1
unfolding condition condition_row
row_142 = refl

row_143 : condition (codes "static int x = 1)") ≡ IsNot 1
unfolding condition condition_row
row_143 = refl

row_144 : condition (codes "T x = 3)") ≡ IsDeclared 1
unfolding condition condition_row
row_144 = refl

row_145 : condition (codes "T *x = 0)") ≡ IsDeclared 1
unfolding condition condition_row
row_145 = refl

row_146 : condition (codes "T(*x) = 0)") ≡ IsDeclared 1
unfolding condition condition_row
row_146 = refl

row_147 : condition (codes "const T x = 1)") ≡ IsDeclared 1
unfolding condition condition_row
row_147 = refl

row_148 : condition (codes "int x = 1, y = 2)") ≡ IsDeclared 1
unfolding condition condition_row
row_148 = refl

row_149 : condition (codes "enum E x = a)") ≡ IsDeclared 1
unfolding condition condition_row
row_149 = refl

row_150 : condition (codes "enum { a } x = a)") ≡ IsNot 1
unfolding condition condition_row
row_150 = refl

row_151 : condition (codes "enum E { a } x = a)") ≡ IsNot 1
unfolding condition condition_row
row_151 = refl

row_152 : condition (codes "T(x) == 3)") ≡ IsNot 1
unfolding condition condition_row
row_152 = refl

row_153 : condition (codes "T(f(1)) == 3)") ≡ IsNot 1
unfolding condition condition_row
row_153 = refl

row_154 : condition (codes "T(f(T)) = 3)") ≡ IsDeclared 1
unfolding condition condition_row
row_154 = refl

row_155 : condition (codes "x * *p)") ≡ IsNot 1
unfolding condition condition_row
row_155 = refl

row_156 : condition (codes "x = 3)") ≡ IsNot 1
unfolding condition condition_row
row_156 = refl

row_157 : condition (codes "T = 3)") ≡ IsNot 1
unfolding condition condition_row
row_157 = refl

row_158 : condition (codes "T(T) = 3)") ≡ IsDeclared 1
unfolding condition condition_row
row_158 = refl

-- ---- 7.1: words that are no part of a type

row_159 : condition (codes "int static x = 1)") ≡ IsNot 1
unfolding condition condition_row
row_159 = refl

row_160 : condition (codes "typedef int x = 1)") ≡ IsNot 1
unfolding condition condition_row
row_160 = refl

row_161 : condition (codes "inline int x = 1)") ≡ IsNot 1
unfolding condition condition_row
row_161 = refl

row_162 : condition (codes "const x = 1)") ≡ IsNot 1
unfolding condition condition_row
row_162 = refl

row_163 : condition (codes "volatile unsigned x = 1)") ≡ IsDeclared 1
unfolding condition condition_row
row_163 = refl

row_164 : condition (codes "T mutable x = 1)") ≡ IsNot 1
unfolding condition condition_row
row_164 = refl

-- ---- 8.3.4, 8.3.5: brackets behind the name hold parameters, or what stands there is an expression

row_165 : condition (codes "T(x)(y) = 3)") ≡ IsNot 1
unfolding condition condition_row
row_165 = refl

row_166 : condition (codes "T(x)(T) = 3)") ≡ IsDeclared 1
unfolding condition condition_row
row_166 = refl

row_167 : condition (codes "T x(3) = 4)") ≡ IsNot 1
unfolding condition condition_row
row_167 = refl

row_168 : condition (codes "T x(T) const = 3)") ≡ IsDeclared 1
unfolding condition condition_row
row_168 = refl

row_169 : condition (codes "T x(T) const)") ≡ IsNot 1
unfolding condition condition_row
row_169 = refl

row_170 : condition (codes "T(x)[3] = y)") ≡ IsDeclared 1
unfolding condition condition_row
row_170 = refl

row_171 : condition (codes "char x[] = y)") ≡ IsDeclared 1
unfolding condition condition_row
row_171 = refl

row_172 : condition (codes "T(x(y)) = 3)") ≡ IsNot 1
unfolding condition condition_row
row_172 = refl

row_173 : condition (codes "T x = ") ≡ IsDeclared 1
unfolding condition condition_row
row_173 = refl

-- ---- 3.4.3: names with qualifiers

row_174 : condition (codes "N::T x = 3)") ≡ IsDeclared 1
unfolding condition condition_row
row_174 = refl

row_175 : condition (codes "const N::T x = 3)") ≡ IsDeclared 1
unfolding condition condition_row
row_175 = refl

row_176 : condition (codes "static N::T x = 3)") ≡ IsNot 1
unfolding condition condition_row
row_176 = refl

row_177 : condition (codes "T(N::x) = 3)") ≡ IsNot 1
unfolding condition condition_row
row_177 = refl

row_178 : condition (codes "T N::x = 3)") ≡ IsNot 1
unfolding condition condition_row
row_178 = refl

row_179 : condition (codes "::T x = 3)") ≡ IsDeclared 1
unfolding condition condition_row
row_179 = refl

row_180 : condition (codes "N::x = 3)") ≡ IsNot 1
unfolding condition condition_row
row_180 = refl

row_181 : condition (codes "::x = 3)") ≡ IsNot 1
unfolding condition condition_row
row_181 = refl

row_182 : condition (codes "N::T(x) = N::y)") ≡ IsDeclared 1
unfolding condition condition_row
row_182 = refl

row_183 : condition (codes "N::T(N::x) = 3)") ≡ IsNot 1
unfolding condition condition_row
row_183 = refl

row_184 : condition (codes "N::T x(N::y) = 3)") ≡ IsNot 1
unfolding condition condition_row
row_184 = refl

row_185 : condition (codes "T x(N::T) = 3)") ≡ IsDeclared 1
unfolding condition condition_row
row_185 = refl

row_186 : condition (codes "enum N::E x = a)") ≡ IsDeclared 1
unfolding condition condition_row
row_186 = refl

row_187 : condition (codes "enum N::E { a } x = a)") ≡ IsNot 1
unfolding condition condition_row
row_187 = refl

row_188 : condition (codes "N::T:: x = 3)") ≡ IsNot 1
unfolding condition condition_row
row_188 = refl

row_189 : condition (codes "inline N::T x = 3)") ≡ IsNot 1
unfolding condition condition_row
row_189 = refl

row_190 : condition (codes "N::T *x = 0)") ≡ IsDeclared 1
unfolding condition condition_row
row_190 = refl

-- ---- the names that are asked, in order

row_191 : asked (codes "T(f(T, U));") ≡ codes " T T U"
unfolding asked asked_row
row_191 = refl

row_192 : asked (codes "x * *p;") ≡ codes " x"
unfolding asked asked_row
row_192 = refl

row_193 : asked (codes "T(U);") ≡ codes " T"
unfolding asked asked_row
row_193 = refl

row_194 : asked (codes "static T x;") ≡ codes ""
unfolding asked asked_row
row_194 = refl

row_195 : asked (codes "T x(U);") ≡ codes " T"
unfolding asked asked_row
row_195 = refl

row_196 : asked (codes "T f(") ≡ codes " T"
unfolding asked asked_row
row_196 = refl

row_197 : asked (codes "T(f(1));") ≡ codes " T"
unfolding asked asked_row
row_197 = refl

row_198 : asked (codes "using T;") ≡ codes ""
unfolding asked asked_row
row_198 = refl

row_199 : asked (codes "N::T x;") ≡ codes " N::T"
unfolding asked asked_row
row_199 = refl

row_200 : asked (codes "::T(f(N::U, ::N::x));") ≡ codes " ::T N::U ::N::x"
unfolding asked asked_row
row_200 = refl

row_201 : asked (codes "N::x * y;") ≡ codes " N::x"
unfolding asked asked_row
row_201 = refl

row_202 : asked (codes "N:: x") ≡ codes " N::x"
unfolding asked asked_row
row_202 = refl

row_203 : asked (codes "N::;") ≡ codes ""
unfolding asked asked_row
row_203 = refl

row_204 : asked (codes "T(N::x);") ≡ codes " T"
unfolding asked asked_row
row_204 = refl

row_205 : asked (codes "const enum N::E x;") ≡ codes ""
unfolding asked asked_row
row_205 = refl

row_206 : asked (codes "T(N::T (x));") ≡ codes " T"
unfolding asked asked_row
row_206 = refl
