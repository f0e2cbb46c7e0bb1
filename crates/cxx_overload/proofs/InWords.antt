-- The choice of a function in words.
use Rattle.std.proofs.Common.{◌≡◌, ◌≢◌, ℕ, zero, suc, ◌<◌, Bool, true, false, not, cond, ◌||◌, eqb, List, [], ◌∷◌, length, Option, Some, None, refl, sym, ◌∙◌, ap, subst, arith}
use Rattle.std.specs.List.{slice_get, find, filter_map, cons_option}
use Rattle.std.specs.Option.{option_map}
use Rattle.std.proofs.lemmas.Option.{slice_get-get_or, get_or_from_slice_get}
use Rattle.cxx_model.specs.declared.evidence.Evidence.{Evidence}
use Rattle.cxx_model.specs.declared.evidence.Evidence.TheVariants.{DoesNotBeat}
use Rattle.cxx_model.specs.declared.overload.Outcome.{Outcome}
use Rattle.cxx_model.specs.declared.overload.Outcome.TheVariants.{Viable, NotViable}
use Rattle.cxx_model.specs.declared.sequence.Order.TheVariants.{Same}
use Rattle.cxx_model.specs.Choice.Better.{beats_if_other, counter, IsBest}
use Rattle.cxx_model.specs.Facts.Declarations.{CxxGraph}
use Rattle.cxx_model.proofs.Champion.{best_is_best, eqb_of_other}
use Rattle.cxx_champion.specs.Contests as contests
use Rattle.cxx_champion.specs.declared.Verdict.TheVariants.{Best}
use Rattle.cxx_overload.specs.Choices.{beats, choice, choice_by, chosen, chosen_one, none_viable, ambiguous, position_of, refusal, refusal_by, refusals, shown, tie, ties}
use Rattle.cxx_overload.specs.Contests.{wins_at}
use Rattle.cxx_overload.specs.Gathering.{AreNumbered}
use Rattle.cxx_overload.specs.Sequences.{CxxSequence, by_standard, by_ellipsis, no_sequence, order_between}
use Rattle.cxx_overload.specs.Viability.{Rated, is_viable, viable}
use Rattle.cxx_overload.specs.Words.{AreRefused, IsTied, ShowsTie, ShowTies}
use Rattle.cxx_overload.proofs.Contests.{apart, below_there, chosen_by_verdict, eqb_same, missed, there_below, viable_numbered, wins_of}

-- ---- no sequence

pub unconverted : (graph : CxxGraph) (other : CxxSequence) → (order_between graph no_sequence other ≡ Same) × (order_between graph other no_sequence ≡ Same)
unconverted graph (by_standard one) = (refl, refl)
unconverted graph by_ellipsis = (refl, refl)
unconverted graph no_sequence = (refl, refl)

-- ---- the chosen one

chosen_by : (graph : CxxGraph) (all contenders : List Rated) (o : Option Rated) (one : Rated) → choice_by graph all contenders o ≡ chosen_one one → o ≡ Some one
chosen_by graph all [] (Some x) one e = let same : x ≡ one = cc in ap (λ r. Some r) same
chosen_by graph all (y ∷ ys) (Some x) one e = let same : x ≡ one = cc in ap (λ r. Some r) same
chosen_by graph all [] None one e = absurd cc
chosen_by graph all (x ∷ xs) None one e = absurd cc

pub chosen_best : (graph : CxxGraph) (all : List Rated) (one : Rated) → choice graph all ≡ chosen_one one → IsBest position_of (beats graph) (viable all) one
unfolding choice chosen
chosen_best graph all one e = best_is_best position_of (beats graph) (viable all) one (chosen_by graph all (viable all) (chosen graph (viable all)) one e)

choice_of : (graph : CxxGraph) (all contenders : List Rated) (one : Rated) → choice_by graph all contenders (Some one) ≡ chosen_one one
choice_of graph all [] one = refl
choice_of graph all (x ∷ xs) one = refl

best_at : (graph : CxxGraph) (contenders : List Rated) (one : Rated) (i : ℕ) → AreNumbered position_of 1 contenders → slice_get contenders i ≡ Some one → i < length contenders → IsBest position_of (beats graph) contenders one → contests.IsBest (wins_at (beats graph) contenders) (length contenders) i
best_at graph contenders one i n at_i inside is = record {
  within = inside;
  beats_others = λ k below ne.
      let there = below_there contenders k below in
      wins_of (beats graph) contenders i k one there.0 at_i there.1
      ∙ is.beats_others there.0 (k, below, get_or_from_slice_get contenders k there.0 there.0 there.1) (apart position_of 1 contenders n i k one there.0 at_i there.1 (λ e. ne (sym e)));
}

pub best_chosen : (graph : CxxGraph) (all : List Rated) (one : Rated) → AreNumbered position_of 1 all → IsBest position_of (beats graph) (viable all) one → choice graph all ≡ chosen_one one
unfolding choice
best_chosen graph all one n is =
    let numbered = viable_numbered all n in
    let i = is.member.0 in
    let at_i : slice_get (viable all) i ≡ Some one = slice_get-get_or (viable all) i one is.member.1 ∙ ap (λ r. Some r) is.member.2 in
    ap (choice_by graph all (viable all)) (chosen_by_verdict graph (viable all) (Best i) numbered (best_at graph (viable all) one i numbered at_i is.member.1 is) ∙ at_i)
    ∙ choice_of graph all (viable all) one

-- ---- none is viable

nothing_viable : (all : List Rated) (lines : List Evidence) → AreRefused all lines → viable all ≡ []
nothing_viable [] [] h = refl
nothing_viable [] (line ∷ lines) h = absurd h
nothing_viable (one ∷ others) [] h = absurd h
nothing_viable (one ∷ others) (line ∷ lines) h =
    ap (λ o. cond (is_viable o) (one ∷ viable others) (viable others)) h.0.outcome ∙ nothing_viable others lines h.1

lines_same : (all : List Rated) (lines : List Evidence) → AreRefused all lines → refusals all ≡ lines
unfolding refusals
lines_same [] [] h = refl
lines_same [] (line ∷ lines) h = absurd h
lines_same (one ∷ others) [] h = absurd h
lines_same (one ∷ others) (line ∷ lines) h =
    ap (λ o. cons_option (refusal_by one.candidate o) (filter_map refusal others)) h.0.outcome
    ∙ ap (λ l. l ∷ filter_map refusal others) (sym h.0.line_is)
    ∙ ap (λ ls. line ∷ ls) (lines_same others lines h.1)

refused_step : (one : Rated) (others : List Rated) (o : Outcome) → one.outcome ≡ o → cond (is_viable o) (one ∷ viable others) (viable others) ≡ [] → (viable others ≡ [] → AreRefused others (filter_map refusal others)) → AreRefused (one ∷ others) (cons_option (refusal_by one.candidate o) (filter_map refusal others))
refused_step one others Viable is none later = absurd cc
refused_step one others (NotViable reason) is none later = (record { reason = reason; outcome = is; line_is = refl }, later none)

are_refused : (all : List Rated) → viable all ≡ [] → AreRefused all (filter_map refusal all)
are_refused [] none = tt
are_refused (one ∷ others) none = refused_step one others one.outcome refl none (λ h. are_refused others h)

none_by : (graph : CxxGraph) (all contenders : List Rated) (o : Option Rated) (lines : List Evidence) → choice_by graph all contenders o ≡ none_viable lines → (contenders ≡ []) × (refusals all ≡ lines)
none_by graph all [] (Some x) lines e = absurd cc
none_by graph all (y ∷ ys) (Some x) lines e = absurd cc
none_by graph all [] None lines e = (refl, cc)
none_by graph all (x ∷ xs) None lines e = absurd cc

pub none_refused : (graph : CxxGraph) (all : List Rated) (lines : List Evidence) → choice graph all ≡ none_viable lines → AreRefused all lines
unfolding choice refusals
none_refused graph all lines e =
    let h = none_by graph all (viable all) (chosen graph (viable all)) lines e in
    subst (AreRefused all) h.1 (are_refused all h.0)

pub refused_none : (graph : CxxGraph) (all : List Rated) (lines : List Evidence) → AreRefused all lines → choice graph all ≡ none_viable lines
unfolding choice chosen
refused_none graph all lines h =
    ap (λ contenders. choice_by graph all contenders (chosen graph contenders)) (nothing_viable all lines h)
    ∙ ap none_viable (lines_same all lines h)

-- ---- ties

pub record FirstFound {X : Type 0} (p : X → Bool) (xs : List X) (y : X) : Type 0 where
  pub place : ℕ
  pub stands : slice_get xs place ≡ Some y
  pub passes : p y ≡ true
  pub fail : (k : ℕ) (z : X) → k < place → slice_get xs k ≡ Some z → p z ≡ false

fail_more : {X : Type 0} (p : X → Bool) (x : X) (xs : List X) (place : ℕ) → p x ≡ false → ((k : ℕ) (z : X) → k < place → slice_get xs k ≡ Some z → p z ≡ false) → (k : ℕ) (z : X) → k < suc place → slice_get (x ∷ xs) k ≡ Some z → p z ≡ false
fail_more p x xs place is fail zero z below at = let same : x ≡ z = cc in ap p (sym same) ∙ is
fail_more p x xs place is fail (suc k) z below at = fail k z (omega (arith, below)) at

first_step : {X : Type 0} (p : X → Bool) (x : X) (xs : List X) (y : X) (b : Bool) → p x ≡ b → (find p xs ≡ Some y → FirstFound p xs y) → cond b (Some x) (find p xs) ≡ Some y → FirstFound p (x ∷ xs) y
first_step p x xs y true is later e =
    let same : x ≡ y = cc in
    record { place = 0; stands = ap (λ z. Some z) same; passes = ap p (sym same) ∙ is; fail = λ k z below at. absurd (omega (arith, below)) }
first_step p x xs y false is later e =
    let h = later e in
    record { place = suc h.place; stands = h.stands; passes = h.passes; fail = fail_more p x xs h.place is h.fail }

first_found : {X : Type 0} (p : X → Bool) (xs : List X) (y : X) → find p xs ≡ Some y → FirstFound p xs y
first_found p [] y e = absurd cc
first_found p (x ∷ xs) y e = first_step p x xs y (p x) refl (λ e. first_found p xs y e) e

not_either : (a b : Bool) → not (a || b) ≡ true → (a ≡ false) × (b ≡ false)
not_either true b e = absurd cc
not_either false true e = absurd cc
not_either false false e = (refl, refl)

one_of_two : (a b : Bool) → not (a || b) ≡ false → a ≡ false → b ≢ false
one_of_two true b e f g = absurd cc
one_of_two false true e f g = absurd cc
one_of_two false false e f g = absurd cc

unlike : (a b : ℕ) → eqb a b ≡ false → a ≢ b
unlike a b e same = let yes = eqb_same a b same in cc

like_not : (a b : ℕ) → a ≢ b → eqb a b ≡ false
like_not a b ne = eqb_of_other a b ne

tie_by : (graph : CxxGraph) (contenders : List Rated) (one : Rated) (line : Evidence) (found : Option Rated) → counter position_of (beats graph) contenders one ≡ found → option_map (λ other. DoesNotBeat (shown one.candidate) (shown other.candidate)) found ≡ Some line → ShowsTie graph contenders one line
tie_by graph contenders one line None e is = absurd cc
tie_by graph contenders one line (Some other) e is =
    let h = first_found (λ g. not (beats_if_other position_of (beats graph) one g)) contenders other e in
    let parts = not_either (eqb (position_of other) (position_of one)) (beats graph one other) h.passes in
    let same : DoesNotBeat (shown one.candidate) (shown other.candidate) ≡ line = cc in
    record {
      place = h.place;
      other = other;
      stands = h.stands;
      is_other = unlike (position_of other) (position_of one) parts.0;
      unbeaten = parts.1;
      first = λ k earlier below at ne. one_of_two (eqb (position_of earlier) (position_of one)) (beats graph one earlier) (h.fail k earlier below at) (like_not (position_of earlier) (position_of one) ne);
      line_is = sym same;
    }

pub tie_is : (graph : CxxGraph) (contenders : List Rated) (one : Rated) (line : Evidence) → tie graph contenders one ≡ Some line → ShowsTie graph contenders one line
tie_is graph contenders one line e = tie_by graph contenders one line (counter position_of (beats graph) contenders one) refl e

-- ---- none is the best

-- one that has no counter is better than every other
without_counter : (graph : CxxGraph) (contenders : List Rated) (one : Rated) (k : ℕ) → slice_get contenders k ≡ Some one → counter position_of (beats graph) contenders one ≡ None → IsBest position_of (beats graph) contenders one
without_counter graph contenders one k at none = record {
  member = (k, there_below contenders k one at, get_or_from_slice_get contenders k one one at);
  beats_others = λ other there unlike_it.
      let stands = slice_get-get_or contenders there.0 other there.1 ∙ ap (λ r. Some r) there.2 in
      beaten (eqb (position_of other) (position_of one)) (beats graph one other)
      (missed (λ g. not (beats_if_other position_of (beats graph) one g)) contenders none there.0 other stands)
      (eqb_of_other (position_of other) (position_of one) unlike_it);
}
  where
    beaten : (a b : Bool) → not (a || b) ≡ false → a ≡ false → b ≡ true
    beaten true b e f = absurd cc
    beaten false true e f = refl
    beaten false false e f = absurd cc

shown_by : (graph : CxxGraph) (contenders : List Rated) (one : Rated) (others : List Rated) (o : Option Rated) → counter position_of (beats graph) contenders one ≡ o → (counter position_of (beats graph) contenders one ≡ None → ⊥) → ShowTies graph contenders others (filter_map (tie graph contenders) others) → ShowTies graph contenders (one ∷ others) (cons_option (option_map (λ other. DoesNotBeat (shown one.candidate) (shown other.candidate)) o) (filter_map (tie graph contenders) others))
shown_by graph contenders one others None is some later = absurd (some is)
shown_by graph contenders one others (Some other) is some later =
    (tie_is graph contenders one (DoesNotBeat (shown one.candidate) (shown other.candidate)) (ap (option_map (λ (r : Rated). DoesNotBeat (shown one.candidate) (shown r.candidate))) is), later)

ties_shown : (graph : CxxGraph) (contenders : List Rated) → ((one : Rated) → IsBest position_of (beats graph) contenders one → ⊥) → (rest : List Rated) → ((k : ℕ) (one : Rated) → slice_get rest k ≡ Some one → (j : ℕ) × (slice_get contenders j ≡ Some one)) → ShowTies graph contenders rest (filter_map (tie graph contenders) rest)
ties_shown graph contenders none_best [] among = tt
ties_shown graph contenders none_best (one ∷ rest) among =
    let there = among 0 one refl in
    shown_by graph contenders one rest (counter position_of (beats graph) contenders one) refl
    (λ none. none_best one (without_counter graph contenders one there.0 there.1 none))
    (ties_shown graph contenders none_best rest (λ k other at. among (suc k) other at))

ambiguous_by : (graph : CxxGraph) (all contenders : List Rated) (o : Option Rated) (lines : List Evidence) → choice_by graph all contenders o ≡ ambiguous lines → (contenders ≢ []) × ((o ≡ None) × (ties graph contenders ≡ lines))
ambiguous_by graph all [] (Some x) lines e = absurd cc
ambiguous_by graph all (y ∷ ys) (Some x) lines e = absurd cc
ambiguous_by graph all [] None lines e = absurd cc
ambiguous_by graph all (x ∷ xs) None lines e = (λ h. cc, (refl, cc))

choice_unfolded : (graph : CxxGraph) (all : List Rated) → choice_by graph all (viable all) (chosen graph (viable all)) ≡ choice graph all
unfolding choice
choice_unfolded graph all = refl

not_both : (one : Rated) (lines : List Evidence) → ambiguous lines ≡ chosen_one one → ⊥
not_both one lines e = cc

pub ambiguous_tied : (graph : CxxGraph) (all : List Rated) (lines : List Evidence) → AreNumbered position_of 1 all → choice graph all ≡ ambiguous lines → IsTied graph (viable all) lines
unfolding ties
ambiguous_tied graph all lines n e =
    let h = ambiguous_by graph all (viable all) (chosen graph (viable all)) lines (choice_unfolded graph all ∙ e) in
    let none_best = λ (one : Rated) (is : IsBest position_of (beats graph) (viable all) one). not_both one lines (sym e ∙ best_chosen graph all one n is) in
    record {
      some = h.0;
      none_best = none_best;
      shown_so = subst (ShowTies graph (viable all) (viable all)) h.1.1 (ties_shown graph (viable all) none_best (viable all) (λ k one at. (k, at)));
    }

tied_by : (graph : CxxGraph) (all contenders : List Rated) (o : Option Rated) → contenders ≢ [] → (o ≡ None) → choice_by graph all contenders o ≡ ambiguous (ties graph contenders)
tied_by graph all [] o some none = absurd (some refl)
tied_by graph all (x ∷ xs) None some none = refl
tied_by graph all (x ∷ xs) (Some y) some none = absurd cc

not_chosen : (graph : CxxGraph) (contenders : List Rated) (o : Option Rated) → chosen graph contenders ≡ o → ((one : Rated) → IsBest position_of (beats graph) contenders one → ⊥) → o ≡ None
unfolding chosen
not_chosen graph contenders None e none_best = refl
not_chosen graph contenders (Some one) e none_best = absurd (none_best one (best_is_best position_of (beats graph) contenders one e))

pub tied_ambiguous : (graph : CxxGraph) (all : List Rated) → viable all ≢ [] → ((one : Rated) → IsBest position_of (beats graph) (viable all) one → ⊥) → choice graph all ≡ ambiguous (ties graph (viable all))
unfolding choice
tied_ambiguous graph all some none_best = tied_by graph all (viable all) (chosen graph (viable all)) some (not_chosen graph (viable all) (chosen graph (viable all)) refl none_best)
