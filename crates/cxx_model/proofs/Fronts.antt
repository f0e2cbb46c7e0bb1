-- The front of a text: it is the longest piece, there is one piece, and each byte begins one.
use Rattle.std.proofs.Common.{◌≡◌, ◌≤◌, ◌<◌, ℕ, zero, suc, Bool, true, false, cond, List, [], ◌∷◌, length, take, Option, Some, None, refl, sym, ap, ◌∙◌, ⊎_elim, arith}
use Rattle.std.proofs.lemmas.Bool.{cases_lt}
use Rattle.cxx_model.specs.declared.token.TokenReason.TheVariants as reason
use Rattle.cxx_model.specs.Text.Spelling.{Spelled, Blank, Ill, is_white, begins_word, begins_number, is_quote, word_kind, number_kind, number_in, number_beside, first_of, operators, digraphs, operator_by, operator, literal, hash, slash, percent, spelling_of}
use Rattle.cxx_model.specs.Text.Tokens.{Piece, IsLongest, or_shorter, longest_within, front}

-- ---- a front that is longest is the front

within_is : (fresh : Bool) (n : ℕ) (text : List ℕ) (len : ℕ) (spells : Spelled) → IsLongest fresh text (record { len = len; spells = spells }) → len ≤ n → n ≤ length text → longest_within fresh n text ≡ Some (record { len = len; spells = spells })
unfolding longest_within
within_is fresh zero text len spells h low high = absurd (omega (arith, h.some))
within_is fresh (suc n) text len spells h low high =
    ⊎_elim
    (λ (lt : len < suc n). ap (λ o. or_shorter (suc n) o (longest_within fresh n text)) (h.longest (suc n) lt high) ∙ within_is fresh n text len spells h (omega arith) (omega arith))
    (λ (ge : suc n ≤ len).
    let e : len ≡ suc n = omega arith in
    let spelled : spelling_of fresh (take (suc n) text) ≡ Some spells = rw e at h.spelled in
    ap (λ o. or_shorter (suc n) o (longest_within fresh n text)) spelled ∙ ap (λ k. Some (record { len = k; spells = spells })) (sym e))
    (cases_lt len (suc n))

pub front_is : (fresh : Bool) (text : List ℕ) (len : ℕ) (spells : Spelled) → IsLongest fresh text (record { len = len; spells = spells }) → front fresh text ≡ Some (record { len = len; spells = spells })
unfolding front
front_is fresh text len spells h = within_is fresh (length text) text len spells h h.within (omega arith)

-- ---- each text that is not empty has one

abbrev pub IsSpelled : Option Spelled → Type 0
IsSpelled o = (s : Spelled) × (o ≡ Some s)

spelled_if : (c : Bool) (x y : Option Spelled) → IsSpelled x → IsSpelled y → IsSpelled (cond c x y)
spelled_if true x y h k = h
spelled_if false x y h k = k

spelled_by : (n : Option ℕ) → IsSpelled (operator_by n [])
spelled_by (Some n) = (_, refl)
spelled_by None = (_, refl)

pub operator_alone : (b : ℕ) → IsSpelled (operator b [])
unfolding operator
operator_alone b = spelled_by (first_of (number_in operators (b ∷ [])) (number_beside digraphs (b ∷ [])))

hash_alone : (fresh : Bool) → IsSpelled (hash fresh [])
unfolding hash
hash_alone fresh = spelled_if fresh _ _ (_, refl) (_, refl)

slash_alone : IsSpelled (slash [])
unfolding slash
slash_alone = operator_alone 47

percent_alone : IsSpelled (percent [])
unfolding percent
percent_alone = operator_alone 37

literal_alone : (wide : Bool) (quote : ℕ) → IsSpelled (literal wide quote [])
unfolding literal
literal_alone wide quote = (_, refl)

-- each byte spells something by itself
pub alone_spells : (fresh : Bool) (b : ℕ) → IsSpelled (spelling_of fresh (b ∷ []))
unfolding spelling_of
alone_spells fresh b =
    spelled_if (is_white b) _ _ (Blank, refl)
    (spelled_if (begins_word b) _ _ (word_kind (b ∷ []), refl)
    (spelled_if (begins_number b []) _ _ (number_kind (b ∷ []), refl)
    (spelled_if (is_quote b) _ _ (literal_alone false b)
    (spelled_if _ _ _ (hash_alone fresh)
    (spelled_if _ _ _ slash_alone
    (spelled_if _ _ _ (Ill reason.StrayByte, refl)
    (spelled_if _ _ _ percent_alone (operator_alone b))))))))

NothingFrom : Bool → ℕ → List ℕ → Type 0
NothingFrom fresh low text = (n : ℕ) → low < n → n ≤ length text → spelling_of fresh (take n text) ≡ None

nothing_more : (fresh : Bool) (n : ℕ) (text : List ℕ) → spelling_of fresh (take (suc n) text) ≡ None → NothingFrom fresh (suc n) text → NothingFrom fresh n text
unfolding NothingFrom
nothing_more fresh n text here above = λ m low high.
    ⊎_elim
    (λ (lt : suc n < m). above m lt high)
    (λ (ge : m ≤ suc n). let e : suc n ≡ m = omega arith in rw e at here)
    (cases_lt (suc n) m)

longest_at : (fresh : Bool) (n : ℕ) (text : List ℕ) → suc n ≤ length text → NothingFrom fresh (suc n) text → (o : Option Spelled) → spelling_of fresh (take (suc n) text) ≡ o → (piece : Piece) × IsLongest fresh text piece
unfolding NothingFrom
longest_at fresh n text high above (Some s) e =
    (record { len = suc n; spells = s }, record { some = omega arith; within = high; spelled = e; longest = above })
longest_at fresh zero [] high above None e = absurd (omega arith)
longest_at fresh zero (b ∷ text) high above None e = let s = alone_spells fresh b in absurd (cc (s.1, e))
longest_at fresh (suc n) text high above None e = longest_at fresh n text (omega arith) (nothing_more fresh (suc n) text e above) (spelling_of fresh (take (suc n) text)) refl

pub begins : (fresh : Bool) (text : List ℕ) → 0 < length text → (piece : Piece) × IsLongest fresh text piece
unfolding NothingFrom
begins fresh [] h = absurd (omega arith)
begins fresh (b ∷ text) h =
    longest_at fresh (length text) (b ∷ text) (omega arith) (λ n low high. absurd (omega arith)) (spelling_of fresh (take (suc (length text)) (b ∷ text))) refl
