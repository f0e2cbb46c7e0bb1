-- The first criterion of the order of sequences, and proper subsequences.
use Rattle.std.specs.Prelude.{◌≡◌, ◌<◌, ◌↔◌, Bool, true, false, ◌&&◌, ◌||◌, not, List, [], ◌∷◌, length, map, Option, Some, None, refl}
use Rattle.std.proofs.Common.{ap, sym, ◌∙◌, inl, inr, arith}
use Rattle.cxx_model.specs.declared.sequence.Order.{Order}
use Rattle.cxx_model.specs.declared.sequence.Order.TheVariants.{Better}
use Rattle.cxx_model.specs.declared.sequence.Second.{Second}
use Rattle.cxx_model.specs.declared.sequence.Second.TheVariants as second
use Rattle.cxx_model.specs.Choice.StandardOrder.{same_step}
use Rattle.cxx_model.specs.Facts.Declarations.{CxxGraph}
use Rattle.cxx_model.specs.Types.Trees.{CxxType, Similar, without_levels}
use Rattle.cxx_model.proofs.Equal.{both}
use Rattle.cxx_model.proofs.SameTypes.{type_told, type_tells}
use Rattle.cxx_meaning.specs.Conversions.Kinds.{is_similar}
use Rattle.cxx_meaning.specs.Conversions.Order.{else_by, first_told, has_better_rank, has_nearer_class, is_bound_to_less, is_identity, is_less_qualified, is_no_pointer_to_bool, is_part, is_proper_part, is_step_within, order_of, target, told, told_by}
use Rattle.cxx_meaning.specs.Conversions.Standard.{CxxStandard}
use Rattle.cxx_meaning_laws.specs.Subsequences.{CxxStep, converts, qualifies, IsProperSubsequence, IsSubsequence, converted, qualified_at_last, steps_in}

-- ---- steps told apart

step_told : (one two : Second) → same_step one two ≡ true → one ≡ two
step_told second.IntegralPromotion second.IntegralPromotion e = refl
step_told second.IntegralPromotion _ e = cc
step_told second.FloatingPromotion second.FloatingPromotion e = refl
step_told second.FloatingPromotion _ e = cc
step_told second.Integral second.Integral e = refl
step_told second.Integral _ e = cc
step_told second.Floating second.Floating e = refl
step_told second.Floating _ e = cc
step_told second.FloatingIntegral second.FloatingIntegral e = refl
step_told second.FloatingIntegral _ e = cc
step_told second.Pointer second.Pointer e = refl
step_told second.Pointer _ e = cc
step_told second.Boolean second.Boolean e = refl
step_told second.Boolean _ e = cc
step_told second.DerivedToBase second.DerivedToBase e = refl
step_told second.DerivedToBase _ e = cc

step_itself : (one : Second) → same_step one one ≡ true
step_itself second.IntegralPromotion = refl
step_itself second.FloatingPromotion = refl
step_itself second.Integral = refl
step_itself second.Floating = refl
step_itself second.FloatingIntegral = refl
step_itself second.Pointer = refl
step_itself second.Boolean = refl
step_itself second.DerivedToBase = refl

step_turned : (one two : Second) → same_step one two ≡ true → same_step two one ≡ true
step_turned one two e = ap (λ (s : Second). same_step s one) (sym (step_told one two e)) ∙ step_itself one

step_tells : (one two : Second) → converts one ≡ converts two → same_step one two ≡ true
step_tells one two e =
    let is : one ≡ two = cc in
    ap (λ (s : Second). same_step one s) (sym is) ∙ step_itself one

-- ---- the test, by the parts of two sequences

abbrev within : Option Second → Bool → Option Second → Bool → Bool
within a p b q = is_step_within a b && (not p || q)

-- the first stands in the second, and not the other way round
abbrev is_proper : Option Second → Bool → Option Second → Bool → CxxType → CxxType → Bool
is_proper a p b q s t = (within a p b q && not (within b q a p)) && ((is_step_within a None && not p) || is_similar s t)

abbrev IsProper : Option Second → Bool → Option Second → Bool → CxxType → CxxType → Type 0
IsProper a p b q s t = IsSubsequence (converted a s (qualified_at_last p s)) (converted b t (qualified_at_last q t)) × (length (converted a s (qualified_at_last p s)) < length (converted b t (qualified_at_last q t)))

similar_told : (s t : CxxType) → is_similar s t ≡ true → Similar s t
similar_told s t e = type_told (without_levels s) (without_levels t) e

similar_tells : (s t : CxxType) → Similar s t → is_similar s t ≡ true
similar_tells s t e = type_tells (without_levels s) (without_levels t) e

-- neither of two is within the other where each is where the other is
not_both : (m n u : Bool) → (m ≡ true → n ≡ true) → (((m && true) && not (n && true)) && u) ≡ true → ⊥
not_both false n u same e = cc
not_both true true u same e = cc
not_both true false u same e = (let wrong : false ≡ true = same refl in cc)

proper_told : (a : Option Second) (p : Bool) (b : Option Second) (q : Bool) (s t : CxxType) → is_proper a p b q s t ≡ true → IsProper a p b q s t
proper_told None false None false s t e = cc
proper_told None false None true s t e = (tt, omega arith)
proper_told None false (Some y) false s t e = (tt, omega arith)
proper_told None false (Some y) true s t e = (tt, omega arith)
proper_told None true None false s t e = cc
proper_told None true None true s t e = cc
proper_told None true (Some y) false s t e = cc
proper_told None true (Some y) true s t e = (inr (inl ((refl, similar_told s t e), tt)), omega arith)
proper_told (Some x) p None q s t e = cc
proper_told (Some x) false (Some y) false s t e = absurd (not_both (same_step x y) (same_step y x) (is_similar s t) (step_turned x y) e)
proper_told (Some x) false (Some y) true s t e =
    let halves : (((same_step x y && true) && not (same_step y x && false)) ≡ true) × (is_similar s t ≡ true) = both _ _ e in
    let within_it : (same_step x y && true) ≡ true = (both _ _ halves.0).0 in
    let is : x ≡ y = step_told x y (both _ _ within_it).0 in
    (inl ((ap converts is, similar_told s t halves.1), tt), omega arith)
proper_told (Some x) true (Some y) false s t e =
    let halves : (((same_step x y && false) && not (same_step y x && true)) ≡ true) × (is_similar s t ≡ true) = both _ _ e in
    let within_it : (same_step x y && false) ≡ true = (both _ _ halves.0).0 in
    let wrong : false ≡ true = (both (same_step x y) false within_it).1 in
    cc
proper_told (Some x) true (Some y) true s t e = absurd (not_both (same_step x y) (same_step y x) (is_similar s t) (step_turned x y) e)

proper_tells : (a : Option Second) (p : Bool) (b : Option Second) (q : Bool) (s t : CxxType) → IsProper a p b q s t → is_proper a p b q s t ≡ true
proper_tells None false None false s t e = absurd (omega (arith, e.1))
proper_tells None false None true s t e = refl
proper_tells None false (Some y) q s t e = refl
proper_tells None true None false s t e = absurd (omega (arith, e.1))
proper_tells None true None true s t e = absurd (omega (arith, e.1))
proper_tells None true (Some y) false s t e = absurd (omega (arith, e.1))
proper_tells None true (Some y) true s t e = by e.0
  where
    by : IsSubsequence (qualified_at_last true s) (converted (Some y) t (qualified_at_last true t)) → is_similar s t ≡ true
    by (inl same) = (let wrong : qualifies ≡ converts y = same.0.0 in cc)
    by (inr (inl same)) = similar_tells s t same.0.1
    by (inr (inr wrong)) = absurd wrong
proper_tells (Some x) false None false s t e = absurd (omega (arith, e.1))
proper_tells (Some x) false None true s t e = absurd (omega (arith, e.1))
proper_tells (Some x) false (Some y) false s t e = absurd (omega (arith, e.1))
proper_tells (Some x) false (Some y) true s t e = by e.0
  where
    by : IsSubsequence (converted (Some x) s (qualified_at_last false s)) (converted (Some y) t (qualified_at_last true t)) → (((same_step x y && true) && not (same_step y x && false)) && is_similar s t) ≡ true
    by (inl same) =
        let one : same_step x y ≡ true = step_tells x y same.0.0 in
        let two : same_step y x ≡ true = step_turned x y one in
        let three : is_similar s t ≡ true = similar_tells s t same.0.1 in
        cc
    by (inr (inl same)) = (let wrong : converts x ≡ qualifies = same.0.0 in cc)
    by (inr (inr wrong)) = absurd wrong
proper_tells (Some x) true None false s t e = absurd (omega (arith, e.1))
proper_tells (Some x) true None true s t e = absurd (omega (arith, e.1))
proper_tells (Some x) true (Some y) false s t e = absurd (omega (arith, e.1))
proper_tells (Some x) true (Some y) true s t e = absurd (omega (arith, e.1))

-- ---- the criterion

part_told : (one two : CxxStandard) → is_proper_part one two ≡ true → IsProperSubsequence one two
unfolding is_proper_part
part_told one two e = proper_told one.second one.third two.second two.third (target one.to) (target two.to) e

part_tells : (one two : CxxStandard) → IsProperSubsequence one two → is_proper_part one two ≡ true
unfolding is_proper_part
part_tells one two e = proper_tells one.second one.third two.second two.third (target one.to) (target two.to) e

-- of two parts only one is proper
one_proper : (a b c d : Bool) → ((a && not b) && c) ≡ true → ((b && not a) && d) ≡ false
one_proper true true c d e = cc
one_proper true false c d e = refl
one_proper false b c d e = cc

one_part : (one two : CxxStandard) → is_proper_part one two ≡ true → is_proper_part two one ≡ false
unfolding is_proper_part
one_part one two e =
    one_proper (is_part one two) (is_part two one) (is_identity one || is_similar (target one.to) (target two.to)) (is_identity two || is_similar (target two.to) (target one.to)) e

told-better : (a b : Bool) → told a b ≡ Better → a ≡ true
told-better true b e = refl
told-better false true e = cc
told-better false false e = cc

better-told : (one two : CxxStandard) → IsProperSubsequence one two → told_by is_proper_part one two ≡ Better
better-told one two is =
    let first : is_proper_part one two ≡ true = part_tells one two is in
    let other : is_proper_part two one ≡ false = one_part one two first in
    ap (λ (b : Bool). told b (is_proper_part two one)) first ∙ ap (told true) other

pub better_exactly : (one two : CxxStandard) → (told_by is_proper_part one two ≡ Better) ↔ IsProperSubsequence one two
better_exactly one two = (λ e. part_told one two (told-better (is_proper_part one two) (is_proper_part two one) e), better-told one two)

abbrev later_criteria : CxxGraph → List (CxxStandard → CxxStandard → Bool)
later_criteria graph = has_better_rank ∷ is_no_pointer_to_bool ∷ has_nearer_class graph ∷ is_less_qualified ∷ is_bound_to_less ∷ []

pub proper_is_better : (graph : CxxGraph) (one two : CxxStandard) → IsProperSubsequence one two → order_of graph one two ≡ Better
unfolding order_of
proper_is_better graph one two is = ap (λ (o : Order). else_by o (first_told (map (λ better. told_by better one two) (later_criteria graph)))) (better-told one two is)

-- ---- subsequences in turn

subsequence_then : (ones twos threes : List CxxStep) → IsSubsequence ones twos → IsSubsequence twos threes → IsSubsequence ones threes
subsequence_then [] twos threes p q = tt
subsequence_then (one ∷ ones) [] threes p q = absurd p
subsequence_then (one ∷ ones) (two ∷ twos) [] p q = absurd q
subsequence_then (one ∷ ones) (two ∷ twos) (three ∷ threes) (inl p) (inl q) = inl ((p.0.0 ∙ q.0.0, p.0.1 ∙ q.0.1), subsequence_then ones twos threes p.1 q.1)
subsequence_then (one ∷ ones) (two ∷ twos) (three ∷ threes) (inr p) (inl q) = inr (subsequence_then (one ∷ ones) twos threes p q.1)
subsequence_then (one ∷ ones) (two ∷ twos) (three ∷ threes) p (inr q) = inr (subsequence_then (one ∷ ones) (two ∷ twos) threes p q)

pub proper_then : (one two three : CxxStandard) → IsProperSubsequence one two → IsProperSubsequence two three → IsProperSubsequence one three
proper_then one two three p q = (subsequence_then (steps_in one) (steps_in two) (steps_in three) p.0 q.0, omega (arith, p.1, q.1))
