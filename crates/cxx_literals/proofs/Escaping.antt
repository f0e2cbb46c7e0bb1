-- The characters of a literal, one at a time.
use Rattle.std.proofs.Common.{◌≡◌, ◌≤◌, ◌<◌, ℕ, zero, suc, ◌-◌, ◌^◌, min, Bool, true, false, cond, ◌==◌, ◌||◌, nat_lt, List, [], ◌∷◌, length, take, drop, refl, sym, ap, ◌∙◌, ⊎_elim, arith, length-drop, lt-ltb, le-ltb}
use Rattle.std.proofs.lemmas.Bool.{cases_lt, or_parts}
use Rattle.std.proofs.lemmas.List.{take_rest, drop_all}
use Rattle.std.specs.List.{list_any}
use Rattle.cxx_model.specs.declared.token.TokenReason.TheVariants as reason
use Rattle.cxx_model.specs.declared.token.TokenKind.TheVariants.{Character}
use Rattle.cxx_model.specs.Text.Spelling.{Good, Ill, Letter, Value, Unknown, Universal, Escape, escape, put_letter, letters, most_value, is_bad_letter, is_universal_letter, character_by}
use Rattle.cxx_literals.specs.Escapes.{letter_at, capped_letter}

-- ---- the letters of a text

pub skipped : (n : ℕ) (text : List ℕ) → letters n text ≡ letters 0 (drop n text)
skipped zero text = refl
skipped (suc n) [] = refl
skipped (suc n) (b ∷ text) = skipped n text

pub letters_step : (text : List ℕ) → 0 < length text → letters 0 text ≡ (letter_at text).is ∷ letters 0 (drop (letter_at text).len text)
letters_step [] some = absurd (omega arith)
letters_step (b ∷ text) some = by (b == 92)
  where
    by : (c : Bool) → cond c (put_letter (escape text) (λ len. letters len text)) (Value b ∷ letters 0 text)
        ≡ (cond {A = Escape} c (record { len = suc (escape text).len; is = (escape text).is }) (record { len = 1; is = Value b })).is ∷ letters 0 (drop (cond {A = Escape} c (record { len = suc (escape text).len; is = (escape text).is }) (record { len = 1; is = Value b })).len (b ∷ text))
    by true = ap (λ l. (escape text).is ∷ l) (skipped (escape text).len text)
    by false = refl

pub bad_capped : (wide : Bool) (letter : Letter) → is_bad_letter wide (capped_letter letter) ≡ is_bad_letter wide letter
bad_capped wide (Value value) = by wide
  where
    at_most : (most : ℕ) → most < 2 ^ 64 → nat_lt most (min value (2 ^ 64)) ≡ nat_lt most value
    at_most most h =
        ⊎_elim
        (λ (more : most < value). let one : most < min value (2 ^ 64) = omega arith in lt-ltb most (min value (2 ^ 64)) one ∙ sym (lt-ltb most value more))
        (λ (less : value ≤ most). let one = le-ltb most value less in let e : min value (2 ^ 64) ≡ value = omega arith in ap (nat_lt most) e)
        (cases_lt most value)

    by : (w : Bool) → nat_lt (most_value w) (min value (2 ^ 64)) ≡ nat_lt (most_value w) value
    by true = at_most 4294967295 (omega arith)
    by false = at_most 255 (omega arith)
bad_capped wide Unknown = refl
bad_capped wide Universal = refl

pub universal_capped : (letter : Letter) → is_universal_letter (capped_letter letter) ≡ is_universal_letter letter
universal_capped (Value value) = refl
universal_capped Unknown = refl
universal_capped Universal = refl

-- a test that sees no more than the capped letter, over the letters
pub any_step : (test : Letter → Bool) (text : List ℕ) → 0 < length text → list_any test (letters 0 text) ≡ (test (letter_at text).is || list_any test (letters 0 (drop (letter_at text).len text)))
any_step test text some = ap (list_any test) (letters_step text some)

-- ---- a character

character_many : (wide : Bool) (c : Letter) (others : List Letter) → list_any (is_bad_letter wide) (c ∷ others) ≡ true → character_by wide (c ∷ others) ≡ Ill reason.BadEscape
character_many wide c [] h = by (is_bad_letter wide c) h
  where
    by : (p : Bool) → (p || false) ≡ true → cond p (Ill reason.BadEscape) (cond (is_universal_letter c) (Ill reason.UniversalName) (Good Character)) ≡ Ill reason.BadEscape
    by true h = refl
    by false h = absurd cc
character_many wide c (d ∷ others) h = ap (λ b. cond b (Ill reason.BadEscape) (Ill reason.MultiCharacter)) h

pub character_bad : (wide : Bool) (body : List ℕ) → 0 < length body → list_any (is_bad_letter wide) (letters 0 body) ≡ true → Ill reason.BadEscape ≡ character_by wide (letters 0 body)
character_bad wide body some h =
    let step = letters_step body some in
    sym (ap (character_by wide) step ∙ character_many wide (letter_at body).is (letters 0 (drop (letter_at body).len body)) (ap (list_any (is_bad_letter wide)) (sym step) ∙ h))

more_letters : (text : List ℕ) → 0 < length text → (c : Letter) × (others : List Letter) × (letters 0 text ≡ c ∷ others)
more_letters text some = ((letter_at text).is, letters 0 (drop (letter_at text).len text), letters_step text some)

pub character_multi : (wide : Bool) (body : List ℕ) (len : ℕ) → 0 < length body → list_any (is_bad_letter wide) (letters 0 body) ≡ false → len ≡ (letter_at body).len → len < length body → Ill reason.MultiCharacter ≡ character_by wide (letters 0 body)
character_multi wide body len some good e less =
    let n : ℕ = (letter_at body).len in
    let left : 0 < length (drop n body) = omega (arith, length-drop n body) in
    let later = more_letters (drop n body) left in
    let all : letters 0 body ≡ (letter_at body).is ∷ later.0 ∷ later.1 = letters_step body some ∙ ap (λ l. (letter_at body).is ∷ l) later.2 in
    let ok : list_any (is_bad_letter wide) ((letter_at body).is ∷ later.0 ∷ later.1) ≡ false = ap (list_any (is_bad_letter wide)) (sym all) ∙ good in
    sym (ap (character_by wide) all ∙ ap (λ b. cond b (Ill reason.BadEscape) (Ill reason.MultiCharacter)) ok)

one_letter : (body : List ℕ) (len : ℕ) → 0 < length body → len ≡ (letter_at body).len → length body ≤ len → letters 0 body ≡ (letter_at body).is ∷ []
one_letter body len some e whole = letters_step body some ∙ ap (λ t. (letter_at body).is ∷ letters 0 t) (drop_all (letter_at body).len body (omega arith))

pub character_one : (wide : Bool) (body : List ℕ) (len : ℕ) (universal : Bool) → 0 < length body → list_any (is_bad_letter wide) (letters 0 body) ≡ false → len ≡ (letter_at body).len → length body ≤ len → is_universal_letter (letter_at body).is ≡ universal → cond universal (Ill reason.UniversalName) (Good Character) ≡ character_by wide (letters 0 body)
character_one wide body len universal some good e whole u =
    let one = one_letter body len some e whole in
    let ok : list_any (is_bad_letter wide) ((letter_at body).is ∷ []) ≡ false = ap (list_any (is_bad_letter wide)) (sym one) ∙ good in
    let fine : is_bad_letter wide (letter_at body).is ≡ false = (or_parts _ _ ok).0 in
    sym (ap (character_by wide) one ∙ rw (fine, u) refl)

pub letters_go : (test : Letter → Bool) (rest body : List ℕ) (len : ℕ) → 0 < length rest → len ≡ (letter_at rest).len → test (letter_at rest).is ≡ false → list_any test (letters 0 rest) ≡ list_any test (letters 0 body) → list_any test (letters 0 (take (length rest - len) (drop len rest))) ≡ list_any test (letters 0 body)
letters_go test rest body len some e fine inv =
    ap (λ t. list_any test (letters 0 t)) (take_rest rest len ∙ ap (λ k. drop k rest) e)
    ∙ sym (any_step test rest some ∙ ap (λ b. b || list_any test (letters 0 (drop (letter_at rest).len rest))) fine) ∙ inv
