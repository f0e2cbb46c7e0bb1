-- The stem of a name.
use Rattle.std.proofs.Common.{◌≡◌, ℕ, ◌+◌, ◌<◌, false, List, [], ◌∷◌, ◌++◌, suc, refl, sym, add-one, ap, ◌∙◌, append_assoc, length, take, drop, get_or, arith}
use Rattle.std.specs.Prelude.{codes, if◌then◌else◌}
use Rattle.std.specs.Char.{is_ascii_digit}
use Rattle.std.specs.List.{list_all}
use Rattle.std.proofs.Math.Seq.{take-suc, drop-cons}
use Rattle.cxx_model.specs.Printing.Names.{is_digits, is_tag, untagged, or_n, stem}

pub is_digits_some : (text : List ℕ) → (length text ≡ 0 → ⊥) → is_digits text ≡ list_all is_ascii_digit text
is_digits_some [] some = absurd (some refl)
is_digits_some (b ∷ text) some = refl

pub untagged_more : (word : List ℕ) (i : ℕ) → i < length word → is_tag (drop i word) ≡ false → take i word ++ untagged (drop i word) ≡ take (i + 1) word ++ untagged (drop (i + 1) word)
untagged_more word i below untag =
    let cut : drop i word ≡ get_or word i 0 ∷ drop (suc i) word = drop-cons word i 0 below in
    let end : take (suc i) word ≡ take i word ++ get_or word i 0 ∷ [] = take-suc word i 0 below in
    let tag : is_tag (get_or word i 0 ∷ drop (suc i) word) ≡ false = ap is_tag (sym cut) ∙ untag in
    ap (λ t. take i word ++ untagged t) cut
    ∙ ap (λ b. take i word ++ (if b then [] else get_or word i 0 ∷ untagged (drop (suc i) word))) tag
    ∙ sym (append_assoc (take i word) (get_or word i 0 ∷ []) (untagged (drop (suc i) word)))
    ∙ ap (λ t. t ++ untagged (drop (suc i) word)) (sym end)
    ∙ ap (λ n. take n word ++ untagged (drop n word)) (sym (add-one i))

or_n_some : (text : List ℕ) → (length text ≡ 0 → ⊥) → text ≡ or_n text
or_n_some [] full = absurd (full refl)
or_n_some (b ∷ text) full = refl

or_n_none : (text : List ℕ) → length text ≡ 0 → codes "n" ≡ or_n text
or_n_none [] empty = refl
or_n_none (b ∷ text) empty = absurd (omega arith)

pub stem_empty : (word text : List ℕ) → text ≡ untagged word → length text ≡ 0 → codes "n" ≡ stem word
unfolding stem
stem_empty word text is empty = or_n_none text empty ∙ ap or_n is

pub stem_full : (word text : List ℕ) → text ≡ untagged word → (length text ≡ 0 → ⊥) → text ≡ stem word
unfolding stem
stem_full word text is full = or_n_some text full ∙ ap or_n is
