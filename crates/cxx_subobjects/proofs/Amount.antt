-- How many paths there are.
use Rattle.std.proofs.Common.{ℕ, ◌≡◌, List, [], ◌∷◌, refl, ap}
use Rattle.std.specs.Prelude.{◌↔◌}
use Rattle.cxx_subobjects.specs.declared.bases.Subobjects.TheVariants as found
use Rattle.cxx_subobjects.specs.Laws.{NoneIsNoPath, OneIsOnePath, SeveralAreTwo}
use Rattle.cxx_subobjects.specs.Paths.{base_paths, first_two, subobjects}

none : (xs : List (List ℕ)) → (first_two xs ≡ found.None) ↔ (xs ≡ [])
none [] = (λ e. refl, λ e. refl)
none (x ∷ []) = (λ e. absurd cc, λ e. absurd cc)
none (x ∷ y ∷ xs) = (λ e. absurd cc, λ e. absurd cc)

one : (xs : List (List ℕ)) (path : List ℕ) → (first_two xs ≡ found.One path) ↔ (xs ≡ path ∷ [])
one [] path = (λ e. absurd cc, λ e. absurd cc)
one (x ∷ []) path = (λ e. let same : x ≡ path = cc in ap (λ (p : List ℕ). p ∷ []) same, λ e. let same : x ≡ path = cc in ap (λ (p : List ℕ). found.One p) same)
one (x ∷ y ∷ xs) path = (λ e. absurd cc, λ e. absurd cc)

several : (xs : List (List ℕ)) (path other : List ℕ) → (first_two xs ≡ found.Several path other) ↔ ((more : List (List ℕ)) × (xs ≡ path ∷ other ∷ more))
several [] path other = (λ e. absurd cc, λ r. let e = r.1 in absurd cc)
several (x ∷ []) path other = (λ e. absurd cc, λ r. let e = r.1 in absurd cc)
several (x ∷ y ∷ xs) path other = (λ e. (xs, cc), λ r. let e = r.1 in cc)

pub none_is_no_path : NoneIsNoPath
unfolding subobjects
none_is_no_path graph class base = none (base_paths graph class base)

pub one_is_one_path : OneIsOnePath
unfolding subobjects
one_is_one_path graph class base path = one (base_paths graph class base) path

pub several_are_two : SeveralAreTwo
unfolding subobjects
several_are_two graph class base path other = several (base_paths graph class base) path other
