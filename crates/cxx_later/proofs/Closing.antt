-- The brackets that have to close, the innermost last.
use Rattle.std.specs.Prelude.{ℕ, ◌≡◌, List, [], ◌∷◌, ◌++◌, Option, Some, None, option_to_list, refl}
use Rattle.std.proofs.Common.{ap, sym, ◌∙◌, append-nil}
use Rattle.cxx_later.specs.Passing.{innermost, outer}

last_one : (xs : List ℕ) (x : ℕ) → innermost (xs ++ x ∷ []) ≡ Some x
last_one [] x = refl
last_one (y ∷ []) x = refl
last_one (y ∷ z ∷ zs) x = last_one (z ∷ zs) x

others : (xs : List ℕ) (x : ℕ) → outer (xs ++ x ∷ []) ≡ xs
others [] x = refl
others (y ∷ []) x = refl
others (y ∷ z ∷ zs) x = ap (λ (ns : List ℕ). y ∷ ns) (others (z ∷ zs) x)

pub innermost_popped : (old new : List ℕ) (popped : Option ℕ) → old ≡ new ++ option_to_list popped → (popped ≡ None → new ≡ []) → innermost old ≡ popped
innermost_popped old new (Some x) is none = ap innermost is ∙ last_one new x
innermost_popped old new None is none = ap innermost (is ∙ append-nil new ∙ none refl)

pub outer_popped : (old new : List ℕ) (popped : Option ℕ) → old ≡ new ++ option_to_list popped → (popped ≡ None → new ≡ []) → new ≡ outer old
outer_popped old new (Some x) is none = sym (ap outer is ∙ others new x)
outer_popped old new None is none = none refl ∙ sym (ap outer (is ∙ append-nil new ∙ none refl))
