-- When a text is not in a table of spellings.
use Rattle.std.proofs.Common.{◌≡◌, ℕ, Bool, true, false, cond, List, [], ◌∷◌, length, Some, None, refl, ap, ◌∙◌, arith, le-ltb, nat_lt, bytes_eq}
use Rattle.std.proofs.lemmas.Bool.{or_parts, or_from, both_ways}
use Rattle.std.proofs.lemmas.Slice.Eq.{bytes_eq-Decides}
use Rattle.std.specs.List.{list_any, position_or_len}
use Rattle.cxx_model.specs.Text.Spelling.{number_in, number_beside}

passes_all : (test : List ℕ → Bool) (table : List (List ℕ)) → list_any test table ≡ false → position_or_len test table ≡ length table
passes_all test [] none = refl
passes_all test (entry ∷ table) none =
    let parts = or_parts (test entry) (list_any test table) none in
    let rest = passes_all test table parts.1 in
    rw (parts.0, rest) (omega arith)

pub not_in : (table : List (List ℕ)) (text : List ℕ) → list_any (λ entry. bytes_eq text entry) table ≡ false → number_in table text ≡ None
not_in table text none =
    let at_end : nat_lt (position_or_len (λ entry. bytes_eq text entry) table) (length table) ≡ false = rw (passes_all (λ entry. bytes_eq text entry) table none) (le-ltb (length table) (length table) (omega arith)) in
    ap (λ c. cond c (Some (position_or_len (λ entry. bytes_eq text entry) table)) None) at_end

pub less_often : {A : Type 0} → (one two : A → Bool) → ((entry : A) → two entry ≡ false → one entry ≡ false) → (table : List A) → list_any two table ≡ false → list_any one table ≡ false
less_often one two less [] none = refl
less_often one two less (entry ∷ table) none =
    let parts = or_parts (two entry) (list_any two table) none in
    or_from (one entry) (list_any one table) (less entry parts.0) (less_often one two less table parts.1)

-- nor has it a number beside it
pub not_beside : (table : List (List ℕ × ℕ)) (text : List ℕ) → list_any (λ entry. bytes_eq text entry.0) table ≡ false → number_beside table text ≡ None
not_beside [] text none = refl
not_beside (entry ∷ table) text none =
    let parts = or_parts (bytes_eq text entry.0) (list_any (λ entry. bytes_eq text entry.0) table) none in
    rw parts.0 (not_beside table text parts.1)

-- ---- by a test of the whole text

unequal : (test : List ℕ → Bool) (text : List ℕ) → test text ≡ true → (entry : List ℕ) → test entry ≡ false → (same : Bool) → bytes_eq text entry ≡ same → same ≡ false
unequal test text passes entry fails false e = refl
unequal test text passes entry fails true e = let is : text ≡ entry = (bytes_eq-Decides text entry).0 e in absurd (both_ways (test text) (ap test is ∙ fails) passes)

pub none_passes : (test : List ℕ → Bool) (table : List (List ℕ)) (text : List ℕ) → list_any test table ≡ false → test text ≡ true → number_in table text ≡ None
none_passes test table text none passes = not_in table text (less_often (λ entry. bytes_eq text entry) test (λ entry fails. unequal test text passes entry fails (bytes_eq text entry) refl) table none)

pub none_passes_beside : (test : List ℕ → Bool) (table : List (List ℕ × ℕ)) (text : List ℕ) → list_any (λ entry. test entry.0) table ≡ false → test text ≡ true → number_beside table text ≡ None
none_passes_beside test table text none passes = not_beside table text (less_often (λ entry. bytes_eq text entry.0) (λ entry. test entry.0) (λ entry fails. unequal test text passes entry.0 fails (bytes_eq text entry.0) refl) table none)
