-- The last of some trees, and those before it.
use Rattle.std.specs.Prelude.{ℕ, zero, suc, ◌≡◌, ◌<◌, ◌-◌, List, [], ◌∷◌, length, take, Option, Some, None, option_map, refl}
use Rattle.std.proofs.Common.{ap, sym, ◌∙◌, arith, get_or}
use Rattle.cxx_model.specs.declared.types.TreeId.{TreeId}
use Rattle.cxx_reading.specs.Trees.{CxxTree}
use Rattle.cxx_tree.specs.Arena.{AreTreesBelow, tree_in, trees_in}
use Rattle.cxx_tree.specs.Held.{Held, meaning, trees}
use Rattle.cxx_expr.specs.Casts.{explicit, functional_of, several, split_last, zero as zero_of}
use Rattle.cxx_expr.specs.Making.{trees_held}
use Rattle.cxx_expr.specs.Questions.{Questions}

split_at : (all : List CxxTree) (numbers : List TreeId) (d : TreeId) → 0 < length numbers → split_last (trees_in all numbers) ≡ Some (trees_in all (take (length numbers - 1) numbers), tree_in all (get_or numbers (length numbers - 1) d).0)
split_at all [] d some = absurd (omega (arith, some))
split_at all (n ∷ []) d some = refl
split_at all (n ∷ m ∷ numbers) d some =
    let more : length (n ∷ m ∷ numbers) - 1 ≡ suc (length (m ∷ numbers) - 1) = omega arith in
    let before : Option (List CxxTree × CxxTree) → Option (List CxxTree × CxxTree) = λ parts. option_map (λ p. (tree_in all n.0 ∷ p.0, p.1)) parts in
    ap before (split_at all (m ∷ numbers) d (omega arith))
    ∙ ap (λ k. let parts : List CxxTree × CxxTree = (trees_in all (take k (n ∷ m ∷ numbers)), tree_in all (get_or (n ∷ m ∷ numbers) k d).0) in Some parts) (sym more)

pub split_some : (all : List CxxTree) (numbers : List TreeId) (last d : TreeId) → 0 < length numbers → last ≡ get_or numbers (length numbers - 1) d → Some (trees_in all (take (length numbers - 1) numbers), tree_in all last.0) ≡ split_last (trees_in all numbers)
split_some all numbers last d some is =
    ap (λ (n : TreeId). let parts : List CxxTree × CxxTree = (trees_in all (take (length numbers - 1) numbers), tree_in all n.0) in Some parts) is
    ∙ sym (split_at all numbers d some)

pub split_none : (all : List CxxTree) (numbers : List TreeId) → length numbers ≡ 0 → None ≡ split_last (trees_in all numbers)
split_none all [] none = refl
split_none all (n ∷ numbers) none = absurd (omega (arith, none))

pub below_taken : (count : ℕ) (numbers : List TreeId) (k : ℕ) → AreTreesBelow count numbers → AreTreesBelow count (take k numbers)
below_taken count [] zero ok = tt
below_taken count [] (suc k) ok = tt
below_taken count (n ∷ numbers) zero ok = tt
below_taken count (n ∷ numbers) (suc k) ok = (ok.0, below_taken count numbers k ok.1)

-- ---- arguments of `T(..)`, by their count

pub functional_none : (q : Questions) (tree : CxxTree) (held : Held) (numbers : List TreeId) → length numbers ≡ 0 → functional_of q tree (trees_held held numbers) (meaning held) ≡ zero_of tree (meaning held)
functional_none q tree held [] none = refl
functional_none q tree held (n ∷ numbers) none = absurd (omega (arith, none))

pub functional_one : (q : Questions) (tree : CxxTree) (held : Held) (numbers : List TreeId) (one d : TreeId) → length numbers ≡ 1 → one ≡ get_or numbers 0 d → functional_of q tree (trees_held held numbers) (meaning held) ≡ explicit q tree [] (tree_in (trees held) one.0) (meaning held)
functional_one q tree held [] one d single is = absurd (omega (arith, single))
functional_one q tree held (n ∷ []) one d single is = ap (λ (m : TreeId). explicit q tree [] (tree_in (trees held) m.0) (meaning held)) (sym is)
functional_one q tree held (n ∷ m ∷ numbers) one d single is = absurd (omega (arith, single))

pub functional_more : (q : Questions) (tree : CxxTree) (held : Held) (numbers : List TreeId) → 1 < length numbers → functional_of q tree (trees_held held numbers) (meaning held) ≡ several tree (meaning held)
functional_more q tree held [] more = absurd (omega (arith, more))
functional_more q tree held (n ∷ []) more = absurd (omega (arith, more))
functional_more q tree held (n ∷ m ∷ numbers) more = refl
