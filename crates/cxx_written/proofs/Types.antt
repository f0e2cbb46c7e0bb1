-- The words of a printed declaration may be printed in one line.
use Rattle.std.proofs.Common.{◌≡◌, ◌<◌, ◌^◌, ℕ, Bool, true, false, not, List, [], ◌∷◌, ◌++◌, refl, sym, subst, arith, append_assoc}
use Rattle.std.proofs.lemmas.Bool.{and_parts, both_ways}
use Rattle.std.proofs.lemmas.Bool.Decides.{nat_tests}
use Rattle.std.specs.List.{AllByRecursion}
use Rattle.std.specs.Prelude.{codes, nat_lt, if◌then◌else◌}
use Rattle.cxx_model.specs.declared.base.Base.{Base}
use Rattle.cxx_model.specs.declared.base.Base.TheVariants as base
use Rattle.cxx_model.specs.declared.types.Cv.{Cv}
use Rattle.cxx_model.specs.Text.Spelling.{spelling_of, word_kind, keywords}
use Rattle.cxx_model.specs.Types.Trees.{CxxType, fundamental, class_type, enumeration, pointer_to, reference_to, array_of, function_of, qualified, type_parameter, specialisation, nested_in, CxxTypes, no_types, type_then, CxxBound, unknown_bound, number_bound, formula_bound, merged}
use Rattle.cxx_reading.specs.Declarators.{no_cv}
use Rattle.cxx_reading.specs.Words.{Word, Tags, keyword_word, type_name_word, open_word, close_word, open_bracket_word, close_bracket_word, comma_word, star_word, ampersand_word, others_separated, separated, one_word, base_words, cv_words, bound_words, literal_word, is_bracketed, within, declared, declared_each}
use Rattle.cxx_written.specs.Line.{IsName, MayPrecede}
use Rattle.cxx_written.specs.Printable.{is_small, is_reference, begins_derived, is_printable, are_printable}
use Rattle.cxx_written.proofs.Printed.{IsGood, good_tail, good_cons, good_by, good_open, good_close, good_bracket, good_close_bracket, good_comma, good_ellipsis, good_type_name, good_literal, is_ended, ends_at_closers}
use Rattle.cxx_written.proofs.Tails.{IsNext, IsTail, IsFree, tail_by, star_before, ampersand_before, star_is_word, ampersand_is_word, not_false}

-- ---- keywords

pub good_const : IsGood (keyword_word (codes "const"))
unfolding spelling_of word_kind keywords is_ended ends_at_closers
good_const = good_by (keyword_word (codes "const")) 99 (codes "onst") refl refl refl refl refl refl refl

pub good_volatile : IsGood (keyword_word (codes "volatile"))
unfolding spelling_of word_kind keywords is_ended ends_at_closers
good_volatile = good_by (keyword_word (codes "volatile")) 118 (codes "olatile") refl refl refl refl refl refl refl

good_void : IsGood (keyword_word (codes "void"))
unfolding spelling_of word_kind keywords is_ended ends_at_closers
good_void = good_by (keyword_word (codes "void")) 118 (codes "oid") refl refl refl refl refl refl refl

good_bool : IsGood (keyword_word (codes "bool"))
unfolding spelling_of word_kind keywords is_ended ends_at_closers
good_bool = good_by (keyword_word (codes "bool")) 98 (codes "ool") refl refl refl refl refl refl refl

good_char : IsGood (keyword_word (codes "char"))
unfolding spelling_of word_kind keywords is_ended ends_at_closers
good_char = good_by (keyword_word (codes "char")) 99 (codes "har") refl refl refl refl refl refl refl

good_signed : IsGood (keyword_word (codes "signed"))
unfolding spelling_of word_kind keywords is_ended ends_at_closers
good_signed = good_by (keyword_word (codes "signed")) 115 (codes "igned") refl refl refl refl refl refl refl

good_unsigned : IsGood (keyword_word (codes "unsigned"))
unfolding spelling_of word_kind keywords is_ended ends_at_closers
good_unsigned = good_by (keyword_word (codes "unsigned")) 117 (codes "nsigned") refl refl refl refl refl refl refl

good_short : IsGood (keyword_word (codes "short"))
unfolding spelling_of word_kind keywords is_ended ends_at_closers
good_short = good_by (keyword_word (codes "short")) 115 (codes "hort") refl refl refl refl refl refl refl

good_int : IsGood (keyword_word (codes "int"))
unfolding spelling_of word_kind keywords is_ended ends_at_closers
good_int = good_by (keyword_word (codes "int")) 105 (codes "nt") refl refl refl refl refl refl refl

good_long : IsGood (keyword_word (codes "long"))
unfolding spelling_of word_kind keywords is_ended ends_at_closers
good_long = good_by (keyword_word (codes "long")) 108 (codes "ong") refl refl refl refl refl refl refl

good_wchar : IsGood (keyword_word (codes "wchar_t"))
unfolding spelling_of word_kind keywords is_ended ends_at_closers
good_wchar = good_by (keyword_word (codes "wchar_t")) 119 (codes "char_t") refl refl refl refl refl refl refl

good_float : IsGood (keyword_word (codes "float"))
unfolding spelling_of word_kind keywords is_ended ends_at_closers
good_float = good_by (keyword_word (codes "float")) 102 (codes "loat") refl refl refl refl refl refl refl

good_double : IsGood (keyword_word (codes "double"))
unfolding spelling_of word_kind keywords is_ended ends_at_closers
good_double = good_by (keyword_word (codes "double")) 100 (codes "ouble") refl refl refl refl refl refl refl

two_free : (one two : Word) (rest : List Word) → IsGood one → IsGood two → IsTail rest → IsFree (one ∷ two ∷ rest)
two_free one two rest first second tail = good_cons one (two ∷ rest) first (good_tail two rest second tail)

base_free : (of : Base) (rest : List Word) → IsTail rest → IsFree (base_words of ++ rest)
base_free base.Void rest = good_cons _ rest good_void
base_free base.Bool rest = good_cons _ rest good_bool
base_free base.Char rest = good_cons _ rest good_char
base_free base.SignedChar rest = two_free _ _ rest good_signed good_char
base_free base.UnsignedChar rest = two_free _ _ rest good_unsigned good_char
base_free base.Short rest = good_cons _ rest good_short
base_free base.UnsignedShort rest = two_free _ _ rest good_unsigned good_short
base_free base.Int rest = good_cons _ rest good_int
base_free base.Unsigned rest = good_cons _ rest good_unsigned
base_free base.Long rest = good_cons _ rest good_long
base_free base.UnsignedLong rest = two_free _ _ rest good_unsigned good_long
base_free base.WideChar rest = good_cons _ rest good_wchar
base_free base.Float rest = good_cons _ rest good_float
base_free base.Double rest = good_cons _ rest good_double
base_free base.LongDouble rest = two_free _ _ rest good_long good_double

-- ---- cv words

free_if : (is : Bool) (word : Word) (rest : List Word) → IsGood word → IsFree rest → IsFree ((if is then word ∷ [] else []) ++ rest)
free_if true word rest good free = good_cons word rest good free.tail
free_if false word rest good free = free

tail_if : (is : Bool) (word : Word) (rest : List Word) → IsGood word → IsTail rest → IsTail ((if is then word ∷ [] else []) ++ rest)
tail_if true word rest good tail = good_tail word rest good tail
tail_if false word rest good tail = tail

star_if : (is : Bool) (word : Word) (rest : List Word) → IsGood word → IsTail rest → MayPrecede star_word rest → MayPrecede star_word ((if is then word ∷ [] else []) ++ rest)
star_if true word rest good tail before = (good_cons word rest good tail).star
star_if false word rest good tail before = before

pub cv_free : (cv : Cv) (rest : List Word) → IsFree rest → IsFree (cv_words cv ++ rest)
cv_free cv rest free =
    subst IsFree (sym (append_assoc (if cv.is_const then one_word (codes "const") else []) (if cv.is_volatile then one_word (codes "volatile") else []) rest))
    (free_if cv.is_const (keyword_word (codes "const")) ((if cv.is_volatile then one_word (codes "volatile") else []) ++ rest) good_const (free_if cv.is_volatile (keyword_word (codes "volatile")) rest good_volatile free))

cv_tail : (cv : Cv) (rest : List Word) → IsTail rest → IsTail (cv_words cv ++ rest)
cv_tail cv rest tail =
    subst IsTail (sym (append_assoc (if cv.is_const then one_word (codes "const") else []) (if cv.is_volatile then one_word (codes "volatile") else []) rest))
    (tail_if cv.is_const (keyword_word (codes "const")) ((if cv.is_volatile then one_word (codes "volatile") else []) ++ rest) good_const (tail_if cv.is_volatile (keyword_word (codes "volatile")) rest good_volatile tail))

cv_star : (cv : Cv) (rest : List Word) → IsTail rest → MayPrecede star_word rest → MayPrecede star_word (cv_words cv ++ rest)
cv_star cv rest tail before =
    subst (MayPrecede star_word) (sym (append_assoc (if cv.is_const then one_word (codes "const") else []) (if cv.is_volatile then one_word (codes "volatile") else []) rest))
    (star_if cv.is_const (keyword_word (codes "const")) ((if cv.is_volatile then one_word (codes "volatile") else []) ++ rest) good_const (tail_if cv.is_volatile (keyword_word (codes "volatile")) rest good_volatile tail) (star_if cv.is_volatile (keyword_word (codes "volatile")) rest good_volatile tail before))

-- ---- what is declared

-- What may stand behind a declarator: every free rest, and tails alone.
pub record IsBehind (P : List Word → Type 0) : Type 0 where
  pub lift : (rest : List Word) → IsFree rest → P rest
  pub down : (rest : List Word) → P rest → IsTail rest

-- a declarator round whatever stands behind it
pub record IsInner (P : List Word → Type 0) (inner : List Word) : Type 0 where
  pub tail : (rest : List Word) → P rest → IsTail (inner ++ rest)
  pub star : (rest : List Word) → P rest → MayPrecede star_word (inner ++ rest)

-- it may stand behind `&`
abbrev pub MayBeReferred : (List Word → Type 0) → List Word → Type 0
MayBeReferred P inner = (rest : List Word) → P rest → MayPrecede ampersand_word (inner ++ rest)

star_next : IsNext star_word
star_next = record { first = 42; others = []; is = refl; closes = λ h. absurd (cc); opens = λ h. absurd (cc) }

ampersand_next : IsNext ampersand_word
ampersand_next = record { first = 38; others = []; is = refl; closes = λ h. absurd (cc); opens = λ h. absurd (cc) }

-- brackets round what stands behind a pointer operator
bracketed : (inner rest : List Word) → IsTail (inner ++ (close_word ∷ rest)) → IsFree (within true inner ++ rest)
bracketed inner rest tail =
    subst (λ l. IsFree (open_word ∷ l)) (sym (append_assoc inner (close_word ∷ []) rest)) (good_cons open_word (inner ++ (close_word ∷ rest)) good_open tail)

pointed_tail : (P : List Word → Type 0) (cv : Cv) (inner : List Word) → IsBehind P → IsInner P inner → (rest : List Word) → P rest → IsTail ((star_word ∷ cv_words cv ++ inner) ++ rest)
pointed_tail P cv inner behind is rest h =
    subst (λ l. IsTail (star_word ∷ l)) (sym (append_assoc (cv_words cv) inner rest))
    (tail_by star_word (cv_words cv ++ (inner ++ rest)) star_is_word star_next (cv_star cv (inner ++ rest) (is.tail rest h) (is.star rest h)) (cv_tail cv (inner ++ rest) (is.tail rest h)).line)

closed : (P : List Word → Type 0) → IsBehind P → (rest : List Word) → P rest → P (close_word ∷ rest)
closed P behind rest h = behind.lift (close_word ∷ rest) (good_cons close_word rest good_close (behind.down rest h))

pointed : (P : List Word → Type 0) (cv : Cv) (inner : List Word) (b : Bool) → IsBehind P → IsInner P inner → IsInner P (within b (star_word ∷ cv_words cv ++ inner))
pointed P cv inner true behind is = record {
  tail = λ rest h. (bracketed (star_word ∷ cv_words cv ++ inner) rest (pointed_tail P cv inner behind is (close_word ∷ rest) (closed P behind rest h))).tail;
  star = λ rest h. (bracketed (star_word ∷ cv_words cv ++ inner) rest (pointed_tail P cv inner behind is (close_word ∷ rest) (closed P behind rest h))).star;
}
pointed P cv inner false behind is = record {
  tail = pointed_tail P cv inner behind is;
  star = λ rest h. star_before star_word ((cv_words cv ++ inner) ++ rest) 42 [] refl refl;
}

pointed_referred : (P : List Word → Type 0) (cv : Cv) (inner : List Word) (b : Bool) → IsBehind P → IsInner P inner → MayBeReferred P (within b (star_word ∷ cv_words cv ++ inner))
pointed_referred P cv inner true behind is = λ rest h. (bracketed (star_word ∷ cv_words cv ++ inner) rest (pointed_tail P cv inner behind is (close_word ∷ rest) (closed P behind rest h))).ampersand
pointed_referred P cv inner false behind is = λ rest h. ampersand_before star_word ((cv_words cv ++ inner) ++ rest) 42 [] refl refl refl

referred_tail : (P : List Word → Type 0) (inner : List Word) → IsInner P inner → MayBeReferred P inner → (rest : List Word) → P rest → IsTail ((ampersand_word ∷ inner) ++ rest)
referred_tail P inner is may rest h = tail_by ampersand_word (inner ++ rest) ampersand_is_word ampersand_next (may rest h) (is.tail rest h).line

referred : (P : List Word → Type 0) (inner : List Word) (b : Bool) → IsBehind P → IsInner P inner → MayBeReferred P inner → IsInner P (within b (ampersand_word ∷ inner))
referred P inner true behind is may = record {
  tail = λ rest h. (bracketed (ampersand_word ∷ inner) rest (referred_tail P inner is may (close_word ∷ rest) (closed P behind rest h))).tail;
  star = λ rest h. (bracketed (ampersand_word ∷ inner) rest (referred_tail P inner is may (close_word ∷ rest) (closed P behind rest h))).star;
}
referred P inner false behind is may = record {
  tail = referred_tail P inner is may;
  star = λ rest h. star_before ampersand_word (inner ++ rest) 38 [] refl refl;
}

referred_again : (P : List Word → Type 0) (inner : List Word) → IsBehind P → IsInner P inner → MayBeReferred P inner → MayBeReferred P (within true (ampersand_word ∷ inner))
referred_again P inner behind is may = λ rest h. (bracketed (ampersand_word ∷ inner) rest (referred_tail P inner is may (close_word ∷ rest) (closed P behind rest h))).ampersand

-- what a declarator is followed by
suffixed : (P : List Word → Type 0) (inner suffix : List Word) → IsBehind P → IsInner P inner → ((rest : List Word) → IsTail rest → IsFree (suffix ++ rest)) → IsInner P (inner ++ suffix)
suffixed P inner suffix behind is free = record {
  tail = λ rest h. subst IsTail (sym (append_assoc inner suffix rest)) (is.tail (suffix ++ rest) (behind.lift (suffix ++ rest) (free rest (behind.down rest h))));
  star = λ rest h. subst (MayPrecede star_word) (sym (append_assoc inner suffix rest)) (is.star (suffix ++ rest) (behind.lift (suffix ++ rest) (free rest (behind.down rest h))));
}

suffixed_referred : (P : List Word → Type 0) (inner suffix : List Word) → IsBehind P → MayBeReferred P inner → ((rest : List Word) → IsTail rest → IsFree (suffix ++ rest)) → MayBeReferred P (inner ++ suffix)
suffixed_referred P inner suffix behind may free = λ rest h. subst (MayPrecede ampersand_word) (sym (append_assoc inner suffix rest)) (may (suffix ++ rest) (behind.lift (suffix ++ rest) (free rest (behind.down rest h))))

-- ---- bounds (8.3.4)

small_is_less : (n : ℕ) → nat_lt n 18446744073709551616 ≡ true → n < 2 ^ 64
small_is_less n h = grind (arith, nat_tests)

bound_tail : (bound : CxxBound) (rest : List Word) → is_small bound ≡ true → IsTail rest → IsTail (bound_words bound ++ rest)
bound_tail unknown_bound rest small tail = tail
bound_tail (number_bound n) rest small tail = good_tail (literal_word n) rest (good_literal n (small_is_less n small)) tail
bound_tail (formula_bound _) rest small tail = tail

bound_free : (bound : CxxBound) → is_small bound ≡ true → (rest : List Word) → IsTail rest → IsFree ((open_bracket_word ∷ bound_words bound ++ close_bracket_word ∷ []) ++ rest)
bound_free bound small rest tail =
    subst (λ l. IsFree (open_bracket_word ∷ l)) (sym (append_assoc (bound_words bound) (close_bracket_word ∷ []) rest))
    (good_cons open_bracket_word (bound_words bound ++ (close_bracket_word ∷ rest)) good_bracket (bound_tail bound (close_bracket_word ∷ rest) small (good_tail close_bracket_word rest good_close_bracket tail)))

-- ---- lists

-- words that may be printed before each free rest
abbrev pub IsElement : List Word → Type 0
IsElement words = (rest : List Word) → IsFree rest → IsTail (words ++ rest)

pub record AreElements (all : List (List Word)) : Type 0 where
  pub each : AllByRecursion IsElement all

others_free : (all : List (List Word)) → AllByRecursion IsElement all → (rest : List Word) → IsFree rest → IsFree (others_separated all ++ rest)
others_free [] each rest free = free
others_free (one ∷ others) each rest free =
    subst (λ l. IsFree (comma_word ∷ l)) (sym (append_assoc one (others_separated others) rest))
    (good_cons comma_word (one ++ (others_separated others ++ rest)) good_comma (each.0 (others_separated others ++ rest) (others_free others each.1 rest free)))

pub separated_tail : (all : List (List Word)) → AllByRecursion IsElement all → (rest : List Word) → IsFree rest → IsTail (separated all ++ rest)
separated_tail [] each rest free = free.tail
separated_tail (one ∷ others) each rest free =
    subst IsTail (sym (append_assoc one (others_separated others) rest)) (each.0 (others_separated others ++ rest) (others_free others each.1 rest free))

each_append : (all more : List (List Word)) → AllByRecursion IsElement all → AllByRecursion IsElement more → AllByRecursion IsElement (all ++ more)
each_append [] more one two = two
each_append (words ∷ all) more one two = (one.0, each_append all more one.1 two)

ellipsis_element : (ellipsis : Bool) → AllByRecursion IsElement (if ellipsis then one_word (codes "...") ∷ [] else [])
ellipsis_element true = ((λ rest free. good_tail (keyword_word (codes "...")) rest good_ellipsis free.tail), tt)
ellipsis_element false = tt

parameters_free : (all : List (List Word)) (cv : Cv) → AllByRecursion IsElement all → (rest : List Word) → IsTail rest → IsFree ((open_word ∷ separated all ++ close_word ∷ cv_words cv) ++ rest)
parameters_free all cv each rest tail =
    subst (λ l. IsFree (open_word ∷ l)) (sym (append_assoc (separated all) (close_word ∷ cv_words cv) rest))
    (good_cons open_word (separated all ++ (close_word ∷ (cv_words cv ++ rest))) good_open
    (separated_tail all each (close_word ∷ (cv_words cv ++ rest)) (good_cons close_word (cv_words cv ++ rest) good_close (cv_tail cv rest tail))))

-- ---- types (8.1, 8.3)

-- the names of enumerations are names
pub record AreTags (tags : Tags) : Type 0 where
  pub enumerations : (n : ℕ) → IsName (tags.enumeration_name n)

pub free_behind : IsBehind IsFree
free_behind = record { lift = λ rest free. free; down = λ rest free. free.tail }

pub tail_behind : IsBehind IsTail
tail_behind = record { lift = λ rest free. free.tail; down = λ rest tail. tail }

pub no_inner : IsInner IsFree []
no_inner = record { tail = λ rest free. free.tail; star = λ rest free. free.star }

derived_again : (of : CxxType) (P : List Word → Type 0) (inner : List Word) → IsBehind P → IsInner P inner → MayBeReferred P inner → not (is_reference of) ≡ true → begins_derived of ≡ true → MayBeReferred P (within (is_bracketed of) (ampersand_word ∷ inner))
derived_again (fundamental of) P inner behind is may h e = absurd (cc)
derived_again (class_type n) P inner behind is may h e = absurd (cc)
derived_again (enumeration n) P inner behind is may h e = absurd (cc)
derived_again (pointer_to of) P inner behind is may h e = absurd (cc)
derived_again (reference_to of) P inner behind is may h e = absurd (cc)
derived_again (array_of of bound) P inner behind is may h e = referred_again P inner behind is may
derived_again (function_of result parameters ellipsis cv) P inner behind is may h e = referred_again P inner behind is may
derived_again (qualified cv of) P inner behind is may h e = absurd (cc)
derived_again (type_parameter depth index) P inner behind is may h e = absurd (cc)
derived_again (specialisation n _) P inner behind is may h e = absurd (cc)
derived_again (nested_in of word) P inner behind is may h e = absurd (cc)

mutual
  pub declared_free : (tags : Tags) (of : CxxType) (P : List Word → Type 0) (cv : Cv) (inner : List Word) → AreTags tags → IsBehind P → IsInner P inner → (begins_derived of ≡ true → MayBeReferred P inner) → is_printable of ≡ true
      → (rest : List Word) → P rest → IsFree (declared tags cv of inner ++ rest)
  declared_free tags (fundamental of) P cv inner names behind is may h rest p =
      subst IsFree (sym (append_assoc (cv_words cv) (base_words of ++ inner) rest))
      (cv_free cv ((base_words of ++ inner) ++ rest) (subst IsFree (sym (append_assoc (base_words of) inner rest)) (base_free of (inner ++ rest) (is.tail rest p))))
  declared_free tags (class_type n) P cv inner names behind is may h rest p = absurd (cc)
  declared_free tags (enumeration n) P cv inner names behind is may h rest p =
      subst IsFree (sym (append_assoc (cv_words cv) (type_name_word (tags.enumeration_name n) ∷ inner) rest))
      (cv_free cv (type_name_word (tags.enumeration_name n) ∷ (inner ++ rest)) (good_cons (type_name_word (tags.enumeration_name n)) (inner ++ rest) (good_type_name (tags.enumeration_name n) (names.enumerations n)) (is.tail rest p)))
  declared_free tags (pointer_to of) P cv inner names behind is may h rest p =
      declared_free tags of P no_cv (within (is_bracketed of) (star_word ∷ cv_words cv ++ inner)) names behind (pointed P cv inner (is_bracketed of) behind is) (λ e. pointed_referred P cv inner (is_bracketed of) behind is) h rest p
  declared_free tags (reference_to of) P cv inner names behind is may h rest p =
      let parts = and_parts (not (is_reference of)) (is_printable of) h in
      declared_free tags of P no_cv (within (is_bracketed of) (ampersand_word ∷ inner)) names behind (referred P inner (is_bracketed of) behind is (may refl)) (derived_again of P inner behind is (may refl) parts.0) parts.1 rest p
  declared_free tags (array_of of bound) P cv inner names behind is may h rest p =
      let parts = and_parts (is_small bound) (is_printable of) h in
      subst (λ l. IsFree (declared tags cv of l ++ rest)) (sym (append_assoc inner (open_bracket_word ∷ bound_words bound) (close_bracket_word ∷ []))) (declared_free tags of P cv (inner ++ (open_bracket_word ∷ bound_words bound ++ close_bracket_word ∷ [])) names behind
      (suffixed P inner (open_bracket_word ∷ bound_words bound ++ close_bracket_word ∷ []) behind is (bound_free bound parts.0))
      (λ e. suffixed_referred P inner (open_bracket_word ∷ bound_words bound ++ close_bracket_word ∷ []) behind (may refl) (bound_free bound parts.0)) parts.1 rest p)
  declared_free tags (function_of result parameters ellipsis own) P cv inner names behind is may h rest p =
      let parts = and_parts (is_printable result) (are_printable parameters) h in
      let all : List (List Word) = declared_each tags parameters ++ (if ellipsis then one_word (codes "...") ∷ [] else []) in
      let each = each_append (declared_each tags parameters) (if ellipsis then one_word (codes "...") ∷ [] else []) (each_free tags parameters IsFree names parts.1).each (ellipsis_element ellipsis) in
      subst (λ l. IsFree (declared tags no_cv result l ++ rest)) (sym (append_assoc inner (open_word ∷ separated all) (close_word ∷ cv_words own))) (declared_free tags result P no_cv (inner ++ (open_word ∷ separated all ++ close_word ∷ cv_words own)) names behind
      (suffixed P inner (open_word ∷ separated all ++ close_word ∷ cv_words own) behind is (parameters_free all own each))
      (λ e. suffixed_referred P inner (open_word ∷ separated all ++ close_word ∷ cv_words own) behind (may refl) (parameters_free all own each)) parts.0 rest p)
  declared_free tags (qualified own of) P cv inner names behind is may h rest p =
      let parts = and_parts (not (begins_derived of)) (is_printable of) h in
      declared_free tags of P (merged cv own) inner names behind is (λ e. absurd (both_ways (begins_derived of) (not_false (begins_derived of) parts.0) e)) parts.1 rest p
  declared_free tags (type_parameter depth index) P cv inner names behind is may h rest p = absurd (cc)
  declared_free tags (specialisation n _) P cv inner names behind is may h rest p = absurd (cc)
  declared_free tags (nested_in of word) P cv inner names behind is may h rest p = absurd (cc)

  pub each_free : (tags : Tags) (types : CxxTypes) (P : List Word → Type 0) → AreTags tags → are_printable types ≡ true → AreElements (declared_each tags types)
  each_free tags no_types P names h = record { each = tt }
  each_free tags (type_then of others) P names h =
      let parts = and_parts (is_printable of) (are_printable others) h in
      record { each = ((λ rest free. (declared_free tags of IsFree no_cv [] names free_behind no_inner (λ e rest free. free.ampersand) parts.0 rest free).tail), (each_free tags others P names parts.1).each) }
