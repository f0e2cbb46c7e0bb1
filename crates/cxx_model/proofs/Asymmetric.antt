-- Of two functions at most one is better than the other.
use Rattle.std.proofs.Common.{◌≡◌, true, false, not, ◌&&◌, ◌||◌, List, [], ◌∷◌, refl, sym, ap, ◌∙◌}
use Rattle.std.specs.List.{list_any}
use Rattle.cxx_model.specs.declared.sequence.Order.{Order}
use Rattle.cxx_model.specs.declared.sequence.Order.TheVariants.{Better, Worse, Same}
use Rattle.cxx_model.specs.Choice.Better.{is_better_order, is_worse_order, compared, is_better}
use Rattle.cxx_model.proofs.Champion.{and_true}

-- how the second stands to the first
abbrev pub turned : Order → Order
turned Better = Worse
turned Worse = Better
turned Same = Same

better_turned : (order : Order) → is_better_order order ≡ is_worse_order (turned order)
better_turned Better = refl
better_turned Worse = refl
better_turned Same = refl

any_turned : {S : Type 0} (order : S → S → Order) → ((a b : S) → order b a ≡ turned (order a b)) → (ones twos : List S) → list_any is_better_order (compared order ones twos) ≡ list_any is_worse_order (compared order twos ones)
any_turned order turns [] [] = refl
any_turned order turns [] (two ∷ twos) = refl
any_turned order turns (one ∷ ones) [] = refl
any_turned order turns (one ∷ ones) (two ∷ twos) =
    ap (λ x. x || list_any is_better_order (compared order ones twos)) (better_turned (order one two) ∙ ap is_worse_order (sym (turns one two)))
    ∙ ap (λ x. is_worse_order (order two one) || x) (any_turned order turns ones twos)

-- where the order of two sequences turns with them
pub better_asymmetric : {S : Type 0} (order : S → S → Order) → ((a b : S) → order b a ≡ turned (order a b)) → (ones twos : List S) → is_better order ones twos ≡ true → is_better order twos ones ≡ false
unfolding is_better
better_asymmetric order turns ones twos h =
    let both = and_true (not (list_any is_worse_order (compared order ones twos))) (list_any is_better_order (compared order ones twos)) h in
    ap (λ x. not x && list_any is_better_order (compared order twos ones)) (sym (any_turned order turns ones twos) ∙ both.1)
