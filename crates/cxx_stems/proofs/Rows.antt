-- The stems of worked names: of each operator that an operator function may have (13.5), and of the other kinds of names.
use Rattle.std.proofs.Common.{◌≡◌, refl}
use Rattle.std.specs.Prelude.{codes}
use Rattle.cxx_model.specs.declared.punct.TheConstants as punct
use Rattle.cxx_model.specs.Facts.Declarations.{unnamed, spelled, operator_function, conversion_to}
use Rattle.cxx_model.specs.Printing.Names.{stem}
use Rattle.cxx_model.specs.Types.Trees.{fundamental}
use Rattle.cxx_model.specs.declared.base.Base.TheVariants.{Int}
use Rattle.cxx_stems.specs.Names.{operator_word, stem_of_name}

of-plus : stem_of_name (operator_function punct.PLUS) ≡ codes "op_plus"
unfolding stem_of_name stem operator_word
of-plus = refl

of-minus : stem_of_name (operator_function punct.MINUS) ≡ codes "op_minus"
unfolding stem_of_name stem operator_word
of-minus = refl

of-star : stem_of_name (operator_function punct.STAR) ≡ codes "op_star"
unfolding stem_of_name stem operator_word
of-star = refl

of-slash : stem_of_name (operator_function punct.SLASH) ≡ codes "op_slash"
unfolding stem_of_name stem operator_word
of-slash = refl

of-percent : stem_of_name (operator_function punct.PERCENT) ≡ codes "op_percent"
unfolding stem_of_name stem operator_word
of-percent = refl

of-caret : stem_of_name (operator_function punct.CARET) ≡ codes "op_caret"
unfolding stem_of_name stem operator_word
of-caret = refl

of-amp : stem_of_name (operator_function punct.AMPERSAND) ≡ codes "op_amp"
unfolding stem_of_name stem operator_word
of-amp = refl

of-bar : stem_of_name (operator_function punct.BAR) ≡ codes "op_bar"
unfolding stem_of_name stem operator_word
of-bar = refl

of-tilde : stem_of_name (operator_function punct.TILDE) ≡ codes "op_tilde"
unfolding stem_of_name stem operator_word
of-tilde = refl

of-bang : stem_of_name (operator_function punct.EXCLAMATION) ≡ codes "op_bang"
unfolding stem_of_name stem operator_word
of-bang = refl

of-assign : stem_of_name (operator_function punct.EQUALS) ≡ codes "op_assign"
unfolding stem_of_name stem operator_word
of-assign = refl

of-less : stem_of_name (operator_function punct.LESS) ≡ codes "op_less"
unfolding stem_of_name stem operator_word
of-less = refl

of-greater : stem_of_name (operator_function punct.GREATER) ≡ codes "op_greater"
unfolding stem_of_name stem operator_word
of-greater = refl

of-eq : stem_of_name (operator_function punct.EQUAL_TO) ≡ codes "op_eq"
unfolding stem_of_name stem operator_word
of-eq = refl

of-ne : stem_of_name (operator_function punct.NOT_EQUAL_TO) ≡ codes "op_ne"
unfolding stem_of_name stem operator_word
of-ne = refl

of-le : stem_of_name (operator_function punct.LESS_OR_EQUAL) ≡ codes "op_le"
unfolding stem_of_name stem operator_word
of-le = refl

of-ge : stem_of_name (operator_function punct.GREATER_OR_EQUAL) ≡ codes "op_ge"
unfolding stem_of_name stem operator_word
of-ge = refl

of-plus-assign : stem_of_name (operator_function punct.PLUS_EQUALS) ≡ codes "op_plus_assign"
unfolding stem_of_name stem operator_word
of-plus-assign = refl

of-minus-assign : stem_of_name (operator_function punct.MINUS_EQUALS) ≡ codes "op_minus_assign"
unfolding stem_of_name stem operator_word
of-minus-assign = refl

of-star-assign : stem_of_name (operator_function punct.STAR_EQUALS) ≡ codes "op_star_assign"
unfolding stem_of_name stem operator_word
of-star-assign = refl

of-slash-assign : stem_of_name (operator_function punct.SLASH_EQUALS) ≡ codes "op_slash_assign"
unfolding stem_of_name stem operator_word
of-slash-assign = refl

of-percent-assign : stem_of_name (operator_function punct.PERCENT_EQUALS) ≡ codes "op_percent_assign"
unfolding stem_of_name stem operator_word
of-percent-assign = refl

of-caret-assign : stem_of_name (operator_function punct.CARET_EQUALS) ≡ codes "op_caret_assign"
unfolding stem_of_name stem operator_word
of-caret-assign = refl

of-amp-assign : stem_of_name (operator_function punct.AMPERSAND_EQUALS) ≡ codes "op_amp_assign"
unfolding stem_of_name stem operator_word
of-amp-assign = refl

of-bar-assign : stem_of_name (operator_function punct.BAR_EQUALS) ≡ codes "op_bar_assign"
unfolding stem_of_name stem operator_word
of-bar-assign = refl

of-shl : stem_of_name (operator_function punct.SHIFT_LEFT) ≡ codes "op_shl"
unfolding stem_of_name stem operator_word
of-shl = refl

of-shr : stem_of_name (operator_function punct.SHIFT_RIGHT) ≡ codes "op_shr"
unfolding stem_of_name stem operator_word
of-shr = refl

of-shl-assign : stem_of_name (operator_function punct.SHIFT_LEFT_EQUALS) ≡ codes "op_shl_assign"
unfolding stem_of_name stem operator_word
of-shl-assign = refl

of-shr-assign : stem_of_name (operator_function punct.SHIFT_RIGHT_EQUALS) ≡ codes "op_shr_assign"
unfolding stem_of_name stem operator_word
of-shr-assign = refl

of-and : stem_of_name (operator_function punct.LOGICAL_AND) ≡ codes "op_and"
unfolding stem_of_name stem operator_word
of-and = refl

of-or : stem_of_name (operator_function punct.LOGICAL_OR) ≡ codes "op_or"
unfolding stem_of_name stem operator_word
of-or = refl

of-inc : stem_of_name (operator_function punct.INCREMENT) ≡ codes "op_inc"
unfolding stem_of_name stem operator_word
of-inc = refl

of-dec : stem_of_name (operator_function punct.DECREMENT) ≡ codes "op_dec"
unfolding stem_of_name stem operator_word
of-dec = refl

of-comma : stem_of_name (operator_function punct.COMMA) ≡ codes "op_comma"
unfolding stem_of_name stem operator_word
of-comma = refl

of-arrow : stem_of_name (operator_function punct.ARROW) ≡ codes "op_arrow"
unfolding stem_of_name stem operator_word
of-arrow = refl

of-call : stem_of_name (operator_function punct.LEFT_PARENTHESIS) ≡ codes "op_call"
unfolding stem_of_name stem operator_word
of-call = refl

of-index : stem_of_name (operator_function punct.LEFT_BRACKET) ≡ codes "op_index"
unfolding stem_of_name stem operator_word
of-index = refl

of-unnamed : stem_of_name unnamed ≡ codes "unnamed"
unfolding stem_of_name stem
of-unnamed = refl

of-conversion : stem_of_name (conversion_to (fundamental Int)) ≡ codes "conv"
unfolding stem_of_name stem
of-conversion = refl

of-word : stem_of_name (spelled (codes "count")) ≡ codes "count"
unfolding stem_of_name stem
of-word = refl

of-tagged-word : stem_of_name (spelled (codes "f__12")) ≡ codes "f"
unfolding stem_of_name stem
of-tagged-word = refl

of-tag-alone : stem_of_name (spelled (codes "__7")) ≡ codes "n"
unfolding stem_of_name stem
of-tag-alone = refl
