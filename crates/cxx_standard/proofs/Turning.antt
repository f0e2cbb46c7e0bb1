-- The order turned round.
use Rattle.std.specs.Prelude.{◌≡◌, Bool, true, false, List, [], ◌∷◌, map, refl}
use Rattle.std.proofs.Common.{ap, ◌∙◌}
use Rattle.cxx_model.specs.declared.sequence.Order.{Order}
use Rattle.cxx_model.specs.declared.sequence.Order.TheVariants.{Better, Worse, Same}
use Rattle.cxx_model.specs.Facts.Declarations.{CxxGraph}
use Rattle.cxx_meaning.specs.Conversions.Order.{criteria, else_by, first_told, order_of, told, told_by, turned}
use Rattle.cxx_meaning.specs.Conversions.Standard.{CxxStandard}

told-turned : (a b : Bool) → told b a ≡ turned (told a b)
told-turned true true = refl
told-turned true false = refl
told-turned false true = refl
told-turned false false = refl

else-turned : (a b : Order) → else_by (turned a) (turned b) ≡ turned (else_by a b)
else-turned Better b = refl
else-turned Worse b = refl
else-turned Same b = refl

first-turned : (tests : List (CxxStandard → CxxStandard → Bool)) (one two : CxxStandard) → first_told (map (λ better. told_by better two one) tests) ≡ turned (first_told (map (λ better. told_by better one two) tests))
first-turned [] one two = refl
first-turned (test ∷ tests) one two =
    ap (λ (o : Order). else_by o (first_told (map (λ better. told_by better two one) tests))) (told-turned (test one two) (test two one)) ∙ ap (else_by (turned (told_by test one two))) (first-turned tests one two) ∙ else-turned (told_by test one two) (first_told (map (λ better. told_by better one two) tests))

pub order_turned : (graph : CxxGraph) (one two : CxxStandard) → order_of graph two one ≡ turned (order_of graph one two)
unfolding order_of
order_turned graph one two = first-turned (criteria graph) one two
