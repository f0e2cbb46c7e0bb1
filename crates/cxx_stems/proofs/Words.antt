-- The word at a place of a table.
use Rattle.std.proofs.Common.{◌≡◌, ℕ, List, [], Some, None, sym, ap, ◌∙◌, Bor}
use Rattle.std.specs.Prelude.{map}
use Rattle.std.specs.List.{slice_get}
use Rattle.std.specs.Option.{option_map}
use Rattle.std.proofs.lemmas.Option.{slice_get-map}
use Rattle.cxx_stems.specs.Names.{text_or_none}

pub word_some : (words : List (Bor (List ℕ))) (n : ℕ) (word : Bor (List ℕ)) → slice_get words n ≡ Some word → word.now ≡ text_or_none (slice_get (map (λ entry. entry.now) words) n)
word_some words n word at = sym (ap text_or_none (slice_get-map (λ entry. entry.now) words n ∙ ap (option_map (λ entry. entry.now)) at))

pub word_none : (words : List (Bor (List ℕ))) (n : ℕ) → slice_get words n ≡ None → [] ≡ text_or_none (slice_get (map (λ entry. entry.now) words) n)
word_none words n at = sym (ap text_or_none (slice_get-map (λ entry. entry.now) words n ∙ ap (option_map (λ entry. entry.now)) at))
