-- No operator is longer than one byte where the second byte is that of none.
use Rattle.std.proofs.Common.{◌≡◌, ◌≤◌, ◌<◌, ℕ, zero, suc, Bool, true, false, cond, ◌==◌, List, [], ◌∷◌, length, get_or, take, Option, Some, None, refl, sym, ap, ◌∙◌, subst, ⊎_elim, arith, eqb-true, le-ltb, le-leb, nat_lt, nat_le, bytes_eq}
use Rattle.std.proofs.lemmas.Bool.{lt-leb, cases_Bool, and_left, and_right, and_parts, or_from, or_parts, both_ways}
use Rattle.std.specs.List.{list_all, list_any, position_or_len}
use Rattle.cxx_model.specs.Text.Spelling.{Spelled, number_in, number_beside, first_of, operators, digraphs, operator_by, operator}
use Rattle.cxx_model.specs.Text.Tokens.{IsLongest}
use Rattle.cxx_tokens.specs.declared.piece.Spelled as code
use Rattle.cxx_tokens.proofs.Pieces.{one_at}
use Rattle.cxx_tokens.specs.Pieces.{spelled, IsOperatorText, comes_second, operator_of, operator_at, operator_number}

not_found : (table : List (List ℕ)) (text : List ℕ) → list_any (λ entry. bytes_eq text entry) table ≡ false → position_or_len (λ entry. bytes_eq text entry) table ≡ length table
not_found [] text h = refl
not_found (entry ∷ table) text h =
    let p = or_parts (bytes_eq text entry) (list_any (λ entry. bytes_eq text entry) table) h in
    let rest = not_found table text p.1 in
    rw (p.0, rest) (omega arith)

not_in : (table : List (List ℕ)) (text : List ℕ) → list_any (λ entry. bytes_eq text entry) table ≡ false → number_in table text ≡ None
not_in table text h =
    let at_end : nat_lt (position_or_len (λ entry. bytes_eq text entry) table) (length table) ≡ false = rw (not_found table text h) (le-ltb (length table) (length table) (omega arith)) in
    ap (λ c. cond c (Some (position_or_len (λ entry. bytes_eq text entry) table)) None) at_end

not_beside : (table : List (List ℕ × ℕ)) (text : List ℕ) → list_any (λ entry. bytes_eq text entry.0) table ≡ false → number_beside table text ≡ None
not_beside [] text h = refl
not_beside (entry ∷ table) text h =
    let p = or_parts (bytes_eq text entry.0) (list_any (λ entry. bytes_eq text entry.0) table) h in
    rw p.0 (not_beside table text p.1)

-- the second byte of a spelling, where it has one, is the second of some operator
second_comes : List ℕ → Bool
second_comes [] = true
second_comes (a ∷ []) = true
second_comes (a ∷ b ∷ rest) = comes_second b

no_entry : (b c : ℕ) (rest entry : List ℕ) → comes_second c ≡ false → second_comes entry ≡ true → bytes_eq (b ∷ c ∷ rest) entry ≡ false
unfolding second_comes
no_entry b c rest [] other comes = refl
no_entry b c rest (x ∷ []) other comes = and_right (b == x) false refl
no_entry b c rest (x ∷ y ∷ entry) other comes =
    and_right (b == x) _
    (and_left (c == y) _
    (⊎_elim
    (λ (same : (c == y) ≡ true). absurd (both_ways (comes_second c) other (ap comes_second (eqb-true c y same) ∙ comes)))
    (λ (differs : (c == y) ≡ false). differs)
    (cases_Bool (c == y))))

none_in : (b c : ℕ) (rest : List ℕ) (table : List (List ℕ)) → comes_second c ≡ false → list_all second_comes table ≡ true → list_any (λ entry. bytes_eq (b ∷ c ∷ rest) entry) table ≡ false
none_in b c rest [] other comes = refl
none_in b c rest (entry ∷ table) other comes =
    let p = and_parts (second_comes entry) (list_all second_comes table) comes in
    or_from _ _ (no_entry b c rest entry other p.0) (none_in b c rest table other p.1)

none_beside : (b c : ℕ) (rest : List ℕ) (table : List (List ℕ × ℕ)) → comes_second c ≡ false → list_all (λ entry. second_comes entry.0) table ≡ true → list_any (λ entry. bytes_eq (b ∷ c ∷ rest) entry.0) table ≡ false
none_beside b c rest [] other comes = refl
none_beside b c rest (entry ∷ table) other comes =
    let p = and_parts (second_comes entry.0) (list_all (λ entry. second_comes entry.0) table) comes in
    or_from _ _ (no_entry b c rest entry.0 other p.0) (none_beside b c rest table other p.1)

operators_come : list_all second_comes operators ≡ true
unfolding operators second_comes
operators_come = refl

digraphs_come : list_all (λ entry. second_comes entry.0) digraphs ≡ true
unfolding digraphs second_comes
digraphs_come = refl

no_operator : (b c : ℕ) (rest : List ℕ) → comes_second c ≡ false → operator b (c ∷ rest) ≡ None
unfolding operator
no_operator b c rest other =
    let text : List ℕ = b ∷ c ∷ rest in
    ap (λ n. operator_by (first_of n (number_beside digraphs text)) (c ∷ rest)) (not_in operators text (none_in b c rest operators other operators_come))
    ∙ ap (λ n. operator_by (first_of None n) (c ∷ rest)) (not_beside digraphs text (none_beside b c rest digraphs other digraphs_come))

none_if : (p : Bool) (x : Option Spelled) → x ≡ None → None ≡ cond p x None
none_if true x h = sym h
none_if false x h = refl

long_none : (b c : ℕ) (rest : List ℕ) (len : ℕ) → 2 ≤ len → comes_second c ≡ false → operator_of (take len (b ∷ c ∷ rest)) ≡ None
long_none b c rest zero low other = absurd (omega arith)
long_none b c rest (suc zero) low other = absurd (omega arith)
long_none b c rest (suc (suc len)) low other = no_operator b c (take len rest) other

-- no operator of more bytes than one stands where the second byte is that of none
pub none_longer : (text : List ℕ) (len : ℕ) → 2 ≤ len → 2 ≤ length text → comes_second (get_or text 1 0) ≡ false → None ≡ operator_at text len
none_longer [] len low long other = absurd (omega arith)
none_longer (b ∷ []) len low long other = absurd (omega arith)
none_longer (b ∷ c ∷ rest) len low long other = none_if (nat_le len (length (b ∷ c ∷ rest))) (operator_of (take len (b ∷ c ∷ rest))) (long_none b c rest len low other)

pub none_short : (text : List ℕ) (len : ℕ) → 2 ≤ len → length text < 2 → None ≡ operator_at text len
none_short text len low short = let past : nat_le len (length text) ≡ false = lt-leb len (length text) (omega arith) in rw past refl

pub alone_is : (b k n : ℕ) → b ≡ k → Some n ≡ operator_number (k ∷ []) → Some n ≡ operator_number (b ∷ [])
alone_is b k n e is = subst (λ x. Some n ≡ operator_number (x ∷ [])) (sym e) is

-- an operator of one byte, before what makes no longer one of it
pub alone_at : (fresh : Bool) (text : List ℕ) (first : ℕ) (spells : code.Spelled) → IsOperatorText text → None ≡ operator_at text 3 → None ≡ operator_at text 2 → first ≡ get_or text 0 0 → Some (spelled spells) ≡ operator_of (first ∷ []) → IsLongest fresh text (record { len = 1; spells = spelled spells })
alone_at fresh [] first spells begins none third e is = absurd begins
alone_at fresh (b ∷ rest) first spells begins none third e is =
    let one : operator_at (b ∷ rest) 1 ≡ operator_of (b ∷ []) = rw (le-leb 1 (length (b ∷ rest)) (omega arith)) refl in
    one_at fresh (b ∷ rest) (Some spells) spells begins none third (is ∙ ap (λ x. operator_of (x ∷ [])) e ∙ sym one)
