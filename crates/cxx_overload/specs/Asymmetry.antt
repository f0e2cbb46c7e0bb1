-- Of two viable functions at most one beats the other: the law of their contest (13.3.3).
use Rattle.std.proofs.Common.{◌≡◌, ℕ, true, false, List, Option, Some, None, refl, ◌∙◌}
use Rattle.std.specs.List.{slice_get}
use Rattle.cxx_model.specs.declared.sequence.Order.{Order}
use Rattle.cxx_model.specs.declared.sequence.Order.TheVariants.{Better, Worse, Same}
use Rattle.cxx_model.specs.Facts.Declarations.{CxxGraph}
use Rattle.cxx_model.proofs.Asymmetric.{better_asymmetric, turned}
use Rattle.cxx_meaning.specs.Conversions.Order.{order_of}
use Rattle.cxx_meaning.specs.Conversions.Order as order
use Rattle.cxx_standard.proofs.Turning.{order_turned}
use Rattle.cxx_overload.specs.Choices.{beats}
use Rattle.cxx_overload.specs.Sequences.{CxxSequence, by_standard, by_ellipsis, no_sequence, order_between}
use Rattle.cxx_overload.specs.Viability.{Rated}
use Rattle.cxx_champion.specs.Contests.{IsAsymmetric}
use Rattle.cxx_overload.specs.Contests.{wins_between, wins_at}

same_turn : (one : Order) → order.turned one ≡ turned one
same_turn Better = refl
same_turn Worse = refl
same_turn Same = refl

pub between_turned : (graph : CxxGraph) (one two : CxxSequence) → order_between graph two one ≡ turned (order_between graph one two)
between_turned graph (by_standard one) (by_standard two) = order_turned graph one two ∙ same_turn (order_of graph one two)
between_turned graph (by_standard one) by_ellipsis = refl
between_turned graph (by_standard one) no_sequence = refl
between_turned graph by_ellipsis (by_standard two) = refl
between_turned graph by_ellipsis by_ellipsis = refl
between_turned graph by_ellipsis no_sequence = refl
between_turned graph no_sequence (by_standard two) = refl
between_turned graph no_sequence by_ellipsis = refl
between_turned graph no_sequence no_sequence = refl

pub beats_asymmetric : (graph : CxxGraph) (one two : Rated) → beats graph one two ≡ true → beats graph two one ≡ false
beats_asymmetric graph one two h = better_asymmetric (order_between graph) (between_turned graph) one.sequences two.sequences h

between_asymmetric : (graph : CxxGraph) (one two : Option Rated) → wins_between (beats graph) one two ≡ true → wins_between (beats graph) two one ≡ false
between_asymmetric graph (Some one) (Some two) h = beats_asymmetric graph one two h
between_asymmetric graph (Some one) None h = absurd cc
between_asymmetric graph None two h = absurd cc

pub wins_asymmetric : (graph : CxxGraph) (contenders : List Rated) (size : ℕ) → IsAsymmetric (wins_at (beats graph) contenders) size
wins_asymmetric graph contenders size i j below_i below_j h = between_asymmetric graph (slice_get contenders i) (slice_get contenders j) h
