-- What loops keep.
use Rattle.std.proofs.Common.{◌≡◌, Bool, true, false, not, ◌&&◌, ◌||◌, List, ◌∷◌, refl}
use Rattle.std.specs.List.{list_any}
use Rattle.cxx_model.specs.declared.sequence.Order.{Order}
use Rattle.cxx_model.specs.declared.sequence.Order.TheVariants.{Better, Worse, Same}
use Rattle.cxx_model.specs.Choice.Better.{is_better_order, is_worse_order}

-- what is answered of the orders that are still to come, where a better one has been met or not
abbrev pub verdict : Bool → List Order → Bool
verdict met orders = not (list_any is_worse_order orders) && (met || list_any is_better_order orders)

pub verdict_more : (met : Bool) (order : Order) (orders : List Order) → is_worse_order order ≡ false → verdict met (order ∷ orders) ≡ verdict (met || is_better_order order) orders
verdict_more true Better orders h = refl
verdict_more true Worse orders h = absurd cc
verdict_more true Same orders h = refl
verdict_more false Better orders h = refl
verdict_more false Worse orders h = absurd cc
verdict_more false Same orders h = refl

pub verdict_worse : (met : Bool) (order : Order) (orders : List Order) → is_worse_order order ≡ true → verdict met (order ∷ orders) ≡ false
verdict_worse met Better orders h = absurd cc
verdict_worse met Worse orders h = refl
verdict_worse met Same orders h = absurd cc
