-- A printed value spells an integer literal.
use Rattle.std.proofs.Common.{◌≡◌, ◌≤◌, ◌<◌, ℕ, zero, suc, ◌+◌, ◌*◌, ◌/◌, ◌^◌, ◌%◌, Bool, true, false, ◌==◌, List, [], ◌∷◌, ◌++◌, length, take, drop, Some, refl, sym, ap, subst, ◌∙◌, arith, eqb-true}
use Rattle.std.proofs.Math.Seq.{take-append_seam, drop-append_seam}
use Rattle.std.proofs.lemmas.Bool.{and_parts, or_left, both_ways}
use Rattle.std.proofs.lemmas.Bool.Decides.{nat_tests}
use Rattle.std.proofs.lemmas.Fmt.{decimal_by_steps}
use Rattle.std.proofs.lemmas.List.Folds.{list_all-append}
use Rattle.std.specs.Char.{is_ascii_digit}
use Rattle.std.specs.Fmt.{decimal}
use Rattle.std.specs.List.{list_all, prefix_len, take_while}
use Rattle.std.specs.Prelude.{codes, nat_lt, nat_le, if◌then◌else◌}
use Rattle.cxx_model.specs.declared.token.TokenKind.TheVariants.{Integer}
use Rattle.cxx_model.specs.Text.Spelling.{Good, is_word, begins_number, is_number_rest, digit_value, value_after, with_suffix, with_digits, integer_parts, number_kind, spelling_of}
use Rattle.cxx_model.proofs.Spellings.{spells_number, number_is_black, number_begins_no_word}
use Rattle.cxx_reading.specs.Words.{value_suffix, literal_word}
use Rattle.cxx_written.proofs.Shapes.{Spells}

-- ---- the value of digits

value_of_more : (n : ℕ) (ds : List ℕ) (d : ℕ) → value_after 10 n (ds ++ d ∷ []) ≡ 10 * value_after 10 n ds + digit_value d
value_of_more n [] d = refl
value_of_more n (b ∷ ds) d = value_of_more (10 * n + digit_value b) ds d

digit_value_is : (k : ℕ) → k < 10 → digit_value (48 + k) ≡ k
digit_value_is k h = grind (arith, nat_tests)

pub decimal_value : (n : ℕ) → n < 2 ^ 64 → value_after 10 0 (decimal n) ≡ n
decimal_value n h = decimal_by_steps (λ n ds. value_after 10 0 ds ≡ n) one more n h
  where
    one : (n : ℕ) → n < 10 → value_after 10 0 ((48 + n) ∷ []) ≡ n
    one n h = omega (arith, digit_value_is n h)

    more : (n : ℕ) (ds : List ℕ) → 10 ≤ n → value_after 10 0 ds ≡ n / 10 → value_after 10 0 (ds ++ (48 + n % 10) ∷ []) ≡ n
    more n ds h e = value_of_more 0 ds (48 + n % 10) ∙ rw (e, digit_value_is (n % 10) (omega arith)) (omega arith)

-- ---- the first digit

-- a text that begins with another digit than `0`
pub record BeginsAbove (ds : List ℕ) : Type 0 where
  pub first : ℕ
  pub others : List ℕ
  pub is : ds ≡ first ∷ others
  pub digit : is_ascii_digit first ≡ true
  pub above : (first == 48) ≡ false
  pub all : list_all is_ascii_digit others ≡ true

pub decimal_begins : (n : ℕ) → n < 2 ^ 64 → 1 ≤ n → BeginsAbove (decimal n)
decimal_begins n h = decimal_by_steps (λ n ds. 1 ≤ n → BeginsAbove ds) one more n h
  where
    one : (n : ℕ) → n < 10 → 1 ≤ n → BeginsAbove ((48 + n) ∷ [])
    one n h low = record { first = 48 + n; others = []; is = refl; digit = grind (arith, nat_tests); above = grind (arith, nat_tests); all = refl }

    more : (n : ℕ) (ds : List ℕ) → 10 ≤ n → (1 ≤ n / 10 → BeginsAbove ds) → 1 ≤ n → BeginsAbove (ds ++ (48 + n % 10) ∷ [])
    more n ds h go low =
        let before = go (omega arith) in
        let last : is_ascii_digit (48 + n % 10) ≡ true = digit_byte (n % 10) (omega arith) in
        record {
          first = before.first;
          others = before.others ++ (48 + n % 10) ∷ [];
          is = ap (λ l. l ++ (48 + n % 10) ∷ []) before.is;
          digit = before.digit;
          above = before.above;
          all = list_all-append is_ascii_digit before.others ((48 + n % 10) ∷ []) ∙ rw (before.all, last) refl;
        }
      where
        digit_byte : (k : ℕ) → k < 10 → is_ascii_digit (48 + k) ≡ true
        digit_byte k h = grind (arith, nat_tests)

-- ---- digits before a suffix

-- the suffixes of printed values
pub data IsSuffix : List ℕ → Type 0 where
  no_suffix : IsSuffix []
  long_suffix : IsSuffix (codes "L")
  unsigned_suffix : IsSuffix (codes "UL")

all_pass : (ds s : List ℕ) → IsSuffix s → list_all is_ascii_digit ds ≡ true → prefix_len is_ascii_digit (ds ++ s) ≡ length ds
all_pass [] _ no_suffix h = refl
all_pass [] _ long_suffix h = refl
all_pass [] _ unsigned_suffix h = refl
all_pass (d ∷ ds) s is h =
    let parts = and_parts (is_ascii_digit d) (list_all is_ascii_digit ds) h in
    rw parts.0 (omega (arith, all_pass ds s is parts.1))

taken : (ds s : List ℕ) → IsSuffix s → list_all is_ascii_digit ds ≡ true → take_while is_ascii_digit (ds ++ s) ≡ ds
taken ds s is h = ap (λ n. take n (ds ++ s)) (all_pass ds s is h) ∙ take-append_seam ds s

left : (ds s : List ℕ) → IsSuffix s → list_all is_ascii_digit ds ≡ true → drop (prefix_len is_ascii_digit (ds ++ s)) (ds ++ s) ≡ s
left ds s is h = ap (λ n. drop n (ds ++ s)) (all_pass ds s is h) ∙ drop-append_seam ds s

digits_go_on : (last : ℕ) (ds s : List ℕ) → IsSuffix s → list_all is_ascii_digit ds ≡ true → is_number_rest last (ds ++ s) ≡ true
digits_go_on last [] _ no_suffix h = refl
digits_go_on last [] _ long_suffix h = refl
digits_go_on last [] _ unsigned_suffix h = refl
digits_go_on last (d ∷ ds) s is h =
    let parts = and_parts (is_ascii_digit d) (list_all is_ascii_digit ds) h in
    let word : is_word d ≡ true = digit_is_word d parts.0 in
    rw (word, digits_go_on d ds s is parts.1) refl
  where
    digit_is_word : (b : ℕ) → is_ascii_digit b ≡ true → is_word b ≡ true
    digit_is_word b h = grind (arith, nat_tests)

parts_by : (d : ℕ) (w : List ℕ) → is_ascii_digit d ≡ true → (d == 48) ≡ false → integer_parts (d ∷ w) ≡ with_digits true 10 is_ascii_digit (d ∷ w)
parts_by d [] digit above = rw (digit, above) refl
parts_by d (c ∷ w) digit above = rw (digit, above) refl

-- what a printed value spells, by its suffix
kind_by : (ds s : List ℕ) (n : ℕ) → BeginsAbove ds → IsSuffix s → value_after 10 0 ds ≡ n → integer_parts (ds ++ s) ≡ with_suffix true n s
kind_by ds s n begins is value =
    let all : list_all is_ascii_digit ds ≡ true = rw begins.is (rw (begins.digit, begins.all) refl) in
    let split : integer_parts (ds ++ s) ≡ with_digits true 10 is_ascii_digit (ds ++ s) = rw begins.is (parts_by begins.first (begins.others ++ s) begins.digit begins.above) in
    split ∙ rw (taken ds s is all, left ds s is all, value) refl

spelled_by : (ds s : List ℕ) → BeginsAbove ds → IsSuffix s → number_kind (ds ++ s) ≡ Good Integer → Spells (ds ++ s) Integer
spelled_by ds s begins is kind =
    let begin : begins_number begins.first (begins.others ++ s) ≡ true = or_left _ _ begins.digit in
    let there : spelling_of false (begins.first ∷ (begins.others ++ s)) ≡ Some (Good Integer) =
    spells_number false begins.first (begins.others ++ s) (number_is_black begins.first (begins.others ++ s) begin) (number_begins_no_word begins.first (begins.others ++ s) begin) begin
    ∙ rw (digits_go_on begins.first begins.others s is begins.all) (ap Some (subst (λ t. number_kind t ≡ Good Integer) (ap (λ l. l ++ s) begins.is) kind))
    in
    subst (λ t. spelling_of false t ≡ Some (Good Integer)) (ap (λ l. l ++ s) (sym begins.is)) there

-- ---- values

spelled_above : (n : ℕ) → n < 2 ^ 64 → 1 ≤ n → (first second : Bool) → nat_lt n 2147483648 ≡ first → nat_lt n 9223372036854775808 ≡ second → Spells (decimal n ++ (if first then [] else (if second then codes "L" else codes "UL"))) Integer
unfolding number_kind
spelled_above n h low true second e f =
    let holds : nat_le n 2147483647 ≡ true = grind (arith, nat_tests) in
    spelled_by (decimal n) [] (decimal_begins n h low) no_suffix (rw (kind_by (decimal n) [] n (decimal_begins n h low) no_suffix (decimal_value n h)) (rw holds refl))
spelled_above n h low false true e f =
    let holds : nat_le n 9223372036854775807 ≡ true = grind (arith, nat_tests) in
    spelled_by (decimal n) (codes "L") (decimal_begins n h low) long_suffix (rw (kind_by (decimal n) (codes "L") n (decimal_begins n h low) long_suffix (decimal_value n h)) (rw holds refl))
spelled_above n h low false false e f =
    let holds : nat_le n 18446744073709551615 ≡ true = grind (arith, nat_tests) in
    spelled_by (decimal n) (codes "UL") (decimal_begins n h low) unsigned_suffix (rw (kind_by (decimal n) (codes "UL") n (decimal_begins n h low) unsigned_suffix (decimal_value n h)) (rw holds refl))

pub decimal_of_zero : (n : ℕ) → n < 2 ^ 64 → n ≡ 0 → decimal n ≡ codes "0"
decimal_of_zero n h = decimal_by_steps (λ n ds. n ≡ 0 → ds ≡ codes "0") one more n h
  where
    one : (n : ℕ) → n < 10 → n ≡ 0 → (48 + n) ∷ [] ≡ codes "0"
    one n h e = rw e refl

    more : (n : ℕ) (ds : List ℕ) → 10 ≤ n → (n / 10 ≡ 0 → ds ≡ codes "0") → n ≡ 0 → ds ++ (48 + n % 10) ∷ [] ≡ codes "0"
    more n ds h go e = absurd (omega arith)

zero_alone : Spells (codes "0") Integer
unfolding spelling_of number_kind
zero_alone = refl

zero_is_spelled : Spells (decimal 0 ++ value_suffix 0) Integer
zero_is_spelled = rw (decimal_of_zero 0 (omega arith) refl) zero_alone

pub literal_is_spelled : (n : ℕ) → n < 2 ^ 64 → Spells (literal_word n).spelling Integer
literal_is_spelled zero h = zero_is_spelled
literal_is_spelled (suc n) h = spelled_above (suc n) h (omega arith) (nat_lt (suc n) 2147483648) (nat_lt (suc n) 9223372036854775808) refl refl

-- a printed value begins with a digit
pub record LiteralBegins (text : List ℕ) : Type 0 where
  pub first : ℕ
  pub others : List ℕ
  pub is : text ≡ first ∷ others
  pub no_minus : (first == 45) ≡ false
  pub no_equals : (first == 61) ≡ false
  pub no_greater : (first == 62) ≡ false

digit_is_none : (b k : ℕ) → is_ascii_digit b ≡ true → is_ascii_digit k ≡ false → (b == k) ≡ false
digit_is_none b k h other = by (b == k) refl
  where
    by : (same : Bool) → (b == k) ≡ same → same ≡ false
    by false e = refl
    by true e = let is : b ≡ k = eqb-true b k e in absurd (both_ways (is_ascii_digit k) other (subst (λ c. is_ascii_digit c ≡ true) is h))

begins_by : (b : ℕ) (w s : List ℕ) (text : List ℕ) → text ≡ b ∷ w → is_ascii_digit b ≡ true → LiteralBegins (text ++ s)
begins_by b w s text e h = record {
  first = b;
  others = w ++ s;
  is = ap (λ t. t ++ s) e;
  no_minus = digit_is_none b 45 h refl;
  no_equals = digit_is_none b 61 h refl;
  no_greater = digit_is_none b 62 h refl;
}

pub literal_first : (n : ℕ) → n < 2 ^ 64 → LiteralBegins (literal_word n).spelling
literal_first zero h = begins_by 48 [] (value_suffix 0) (decimal 0) (decimal_of_zero 0 (omega arith) refl) refl
literal_first (suc n) h = let begins = decimal_begins (suc n) h (omega arith) in begins_by begins.first begins.others (value_suffix (suc n)) (decimal (suc n)) begins.is begins.digit
