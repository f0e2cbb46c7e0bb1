-- The contender that the definition chooses is the best of the contest, and a counter is the first other that one does
-- not beat.
use Rattle.std.proofs.Common.{◌≡◌, ◌≢◌, ℕ, zero, suc, ◌+◌, ◌<◌, ◌≤◌, Bool, true, false, not, cond, ◌&&◌, ◌||◌, eqb, List, [], ◌∷◌, length, Option, Some, None, refl, sym, ◌∙◌, ap, ◌⊎◌, inl, inr, arith, IfSome, map, drop, drop-cons, get_or, ◌++◌, append_assoc, add-one}
use Rattle.std.proofs.lemmas.List.{map-append}
use Rattle.std.specs.Option.{option_map}
use Rattle.std.proofs.lemmas.Option.{slice_get-map, slice_get-get_or}
use Rattle.std.proofs.lemmas.List.Elements.{All-push}
use Rattle.std.specs.List.{All, slice_get, find, list_all, filter, filter_map, cons_option}
use Rattle.cxx_model.specs.declared.evidence.Evidence.{Evidence}
use Rattle.cxx_model.specs.Types.Trees.{CxxType}
use Rattle.cxx_overload.specs.declared.contender.Contender.{Contender}
use Rattle.cxx_overload.specs.declared.object.Object.{Object}
use Rattle.cxx_overload.specs.Views.{with_option}
use Rattle.std.proofs.lemmas.Bool.{cases_order}
use Rattle.cxx_model.specs.Choice.Better.{beats_if_other, best, counter}
use Rattle.cxx_model.specs.Facts.Declarations.{CxxGraph}
use Rattle.cxx_model.proofs.Champion.{and_true, or_false, eqb_of_other}
use Rattle.cxx_champion.specs.Contests.{IsAsymmetric, IsBest, IsLeastCounter}
use Rattle.cxx_champion.specs.Verdicts.{IsVerdict}
use Rattle.cxx_champion.specs.declared.Verdict.{Verdict}
use Rattle.cxx_champion.specs.declared.Verdict.TheVariants.{Best, NoBest, Empty}
use Rattle.cxx_champion.proofs.Champions.{best_same}
use Rattle.cxx_model.specs.declared.sequence.Operand.{Operand}
use Rattle.cxx_overload.specs.Choices.{beats, chosen, position_of, tie}
use Rattle.cxx_overload.specs.Viability.{Rated, is_viable, viable}
use Rattle.cxx_overload.specs.Asymmetry.{wins_asymmetric}
use Rattle.cxx_overload.specs.Gathering.{AreNumbered}
use Rattle.cxx_overload.specs.Contests.{contender_at, contenders_at, line_of, member_at, member_of, tie_at, wins_between, wins_at}

-- ---- lists by place

all_at : {X : Type 0} (p : X → Bool) (xs : List X) → list_all p xs ≡ true → (k : ℕ) (y : X) → slice_get xs k ≡ Some y → p y ≡ true
all_at p [] h k y e = absurd cc
all_at p (x ∷ xs) h zero y e = let same : x ≡ y = cc in ap p (sym same) ∙ (and_true (p x) (list_all p xs) h).0
all_at p (x ∷ xs) h (suc k) y e = all_at p xs (and_true (p x) (list_all p xs) h).1 k y e

all_from : {X : Type 0} (p : X → Bool) (xs : List X) → ((k : ℕ) (y : X) → slice_get xs k ≡ Some y → p y ≡ true) → list_all p xs ≡ true
all_from p [] h = refl
all_from p (x ∷ xs) h = ap (λ b. b && list_all p xs) (h 0 x refl) ∙ all_from p xs (λ k y e. h (suc k) y e)

pub there_below : {X : Type 0} (xs : List X) (k : ℕ) (y : X) → slice_get xs k ≡ Some y → k < length xs
there_below [] k y e = absurd cc
there_below (x ∷ xs) zero y e = omega arith
there_below (x ∷ xs) (suc k) y e = let h = there_below xs k y e in omega arith

pub below_there : {X : Type 0} (xs : List X) (k : ℕ) → k < length xs → (y : X) × (slice_get xs k ≡ Some y)
below_there [] k h = absurd (omega arith)
below_there (x ∷ xs) zero h = (x, refl)
below_there (x ∷ xs) (suc k) h = below_there xs k (omega arith)

Found : {X : Type 0} → (X → Bool) → List X → X → Type 0
Found p xs y = (k : ℕ) × (slice_get xs k ≡ Some y) × (p y ≡ true)

found_step : {X : Type 0} (p : X → Bool) (x : X) (xs : List X) (b : Bool) → p x ≡ b → ((y : X) → find p xs ≡ Some y → Found p xs y) → (y : X) → cond b (Some x) (find p xs) ≡ Some y → Found p (x ∷ xs) y
unfolding Found
found_step p x xs true is later y e = let same : x ≡ y = cc in (0, ap (λ z. Some z) same, ap p (sym same) ∙ is)
found_step p x xs false is later y e = let h = later y e in (suc h.0, h.1, h.2)

found_at : {X : Type 0} (p : X → Bool) (xs : List X) (y : X) → find p xs ≡ Some y → Found p xs y
found_at p [] y e = absurd cc
found_at p (x ∷ xs) y e = found_step p x xs (p x) refl (λ y e. found_at p xs y e) y e

missed_step : {X : Type 0} (p : X → Bool) (x : X) (xs : List X) (b : Bool) → p x ≡ b → cond b (Some x) (find p xs) ≡ None → (find p xs ≡ None → (k : ℕ) (y : X) → slice_get xs k ≡ Some y → p y ≡ false) → (k : ℕ) (y : X) → slice_get (x ∷ xs) k ≡ Some y → p y ≡ false
missed_step p x xs true is none later k y e = absurd cc
missed_step p x xs false is none later zero y e = let same : x ≡ y = cc in ap p (sym same) ∙ is
missed_step p x xs false is none later (suc k) y e = later none k y e

pub missed : {X : Type 0} (p : X → Bool) (xs : List X) → find p xs ≡ None → (k : ℕ) (y : X) → slice_get xs k ≡ Some y → p y ≡ false
missed p [] none k y e = absurd cc
missed p (x ∷ xs) none k y e = missed_step p x xs (p x) refl none (λ none k y e. missed p xs none k y e) k y e

find_none : {X : Type 0} (p : X → Bool) (xs : List X) → ((k : ℕ) (y : X) → slice_get xs k ≡ Some y → p y ≡ false) → find p xs ≡ None
find_none p [] h = refl
find_none p (x ∷ xs) h = ap (λ b. cond b (Some x) (find p xs)) (h 0 x refl) ∙ find_none p xs (λ k y e. h (suc k) y e)

find_first : {X : Type 0} (p : X → Bool) (xs : List X) (k : ℕ) (y : X) → slice_get xs k ≡ Some y → p y ≡ true → ((j : ℕ) (z : X) → j < k → slice_get xs j ≡ Some z → p z ≡ false) → find p xs ≡ Some y
find_first p [] k y e is before = absurd cc
find_first p (x ∷ xs) zero y e is before = let same : x ≡ y = cc in ap (λ b. cond b (Some x) (find p xs)) (ap p same ∙ is) ∙ e
find_first p (x ∷ xs) (suc k) y e is before = ap (λ b. cond b (Some x) (find p xs)) (before 0 x (omega arith) refl) ∙ find_first p xs k y e is (λ j z below at. before (suc j) z (omega (arith, below)) at)

-- ---- numbers

numbered_from : {F : Type 0} (number : F → ℕ) (least other : ℕ) (all : List F) → other ≤ least → AreNumbered number least all → AreNumbered number other all
numbered_from number least other [] h n = tt
numbered_from number least other (one ∷ others) h n = let up : other ≤ number one = omega (arith, h, n.0) in (up, n.1)

numbered_step : {F : Type 0} (number : F → ℕ) (least : ℕ) (one : F) (rest : List F) (b : Bool) → least ≤ number one → AreNumbered number (number one + 1) rest → AreNumbered number least (cond b (one ∷ rest) rest)
numbered_step number least one rest true h n = (h, n)
numbered_step number least one rest false h n = numbered_from number (number one + 1) least rest (omega (arith, h)) n

-- what is left of a list whose numbers rise has rising numbers
pub numbered_kept : {F : Type 0} (number : F → ℕ) (p : F → Bool) (least : ℕ) (all : List F) → AreNumbered number least all → AreNumbered number least (filter p all)
numbered_kept number p least [] n = tt
numbered_kept number p least (one ∷ others) n = numbered_step number least one (filter p others) (p one) n.0 (numbered_kept number p (number one + 1) others n.1)

pub viable_numbered : (all : List Rated) → AreNumbered position_of 1 all → AreNumbered position_of 1 (viable all)
viable_numbered all n = numbered_kept position_of (λ one. is_viable one.outcome) 1 all n

at_least : {F : Type 0} (number : F → ℕ) (least : ℕ) (all : List F) → AreNumbered number least all → (k : ℕ) (f : F) → slice_get all k ≡ Some f → least ≤ number f
at_least number least [] n k f e = absurd cc
at_least number least (one ∷ others) n zero f e = let same : one ≡ f = cc in let equal : number one ≡ number f = ap number same in omega (arith, n.0, equal)
at_least number least (one ∷ others) n (suc k) f e = let h = at_least number (number one + 1) others n.1 k f e in omega (arith, n.0, h)

pub apart : {F : Type 0} (number : F → ℕ) (least : ℕ) (all : List F) → AreNumbered number least all → (i j : ℕ) (f g : F) → slice_get all i ≡ Some f → slice_get all j ≡ Some g → i ≢ j → number g ≢ number f
apart number least [] n i j f g at_i at_j ne = absurd cc
apart number least (one ∷ others) n zero zero f g at_i at_j ne = absurd (ne refl)
apart number least (one ∷ others) n zero (suc j) f g at_i at_j ne = λ e.
    let same : one ≡ f = cc in
    let equal : number one ≡ number f = ap number same in
    let h = at_least number (number one + 1) others n.1 j g at_j in omega (arith, e, equal, h)
apart number least (one ∷ others) n (suc i) zero f g at_i at_j ne = λ e.
    let same : one ≡ g = cc in
    let equal : number one ≡ number g = ap number same in
    let h = at_least number (number one + 1) others n.1 i f at_i in omega (arith, e, equal, h)
apart number least (one ∷ others) n (suc i) (suc j) f g at_i at_j ne = apart number (number one + 1) others n.1 i j f g at_i at_j (λ e. ne (ap (λ k. suc k) e))

-- ---- the contest

pub wins_of : {F : Type 0} (beats : F → F → Bool) (all : List F) (i j : ℕ) (f g : F) → slice_get all i ≡ Some f → slice_get all j ≡ Some g → wins_at beats all i j ≡ beats f g
wins_of beats all i j f g at_i at_j = ap (λ o. wins_between beats o (slice_get all j)) at_i ∙ ap (λ o. wins_between beats (Some f) o) at_j

beats_all : {F : Type 0} → (F → ℕ) → (F → F → Bool) → List F → F → Bool
beats_all number beats all f = list_all (beats_if_other number beats f) all

or_left : (a b : Bool) → a ≡ true → (a || b) ≡ true
or_left true b e = refl
or_left false b e = absurd cc

or_right : (a b : Bool) → b ≡ true → (a || b) ≡ true
or_right true b e = refl
or_right false b e = e

pub eqb_same : (a b : ℕ) → a ≡ b → eqb a b ≡ true
eqb_same a b e = grind (arith, e)

-- it is the same one, or it is beaten
passes_at : {F : Type 0} (number : F → ℕ) (beats : F → F → Bool) (all : List F) (i : ℕ) (f : F) → slice_get all i ≡ Some f → (k : ℕ) (g : F) → slice_get all k ≡ Some g → (k ≢ i → wins_at beats all i k ≡ true) → beats_if_other number beats f g ≡ true
passes_at {F = F} number beats all i f at_i k g at_k wins = by (cases_order k i)
  where
    beaten : k ≢ i → beats f g ≡ true
    beaten ne = sym (wins_of beats all i k f g at_i at_k) ∙ wins ne

    by : (k ≡ i) ⊎ ((k < i) ⊎ (i < k)) → beats_if_other number beats f g ≡ true
    by (inl same) =
        let both : Some g ≡ Some f = sym at_k ∙ ap (λ n. slice_get all n) same ∙ at_i in
        let one : g ≡ f = cc in
        or_left (eqb (number g) (number f)) (beats f g) (eqb_same (number g) (number f) (ap number one))
    by (inr (inl less)) = or_right (eqb (number g) (number f)) (beats f g) (beaten (λ e. omega (arith, e, less)))
    by (inr (inr more)) = or_right (eqb (number g) (number f)) (beats f g) (beaten (λ e. omega (arith, e, more)))

best_passes : {F : Type 0} (number : F → ℕ) (beats : F → F → Bool) (all : List F) (i : ℕ) (f : F) → slice_get all i ≡ Some f → IsBest (wins_at beats all) (length all) i → beats_all number beats all f ≡ true
unfolding beats_all
best_passes number beats all i f at_i best = all_from (beats_if_other number beats f) all (λ k g at_k. passes_at number beats all i f at_i k g at_k (λ ne. best.beats_others k (there_below all k g at_k) ne))

passes_best : {F : Type 0} (number : F → ℕ) (beats : F → F → Bool) (all : List F) → AreNumbered number 1 all → (i : ℕ) (f : F) → slice_get all i ≡ Some f → beats_all number beats all f ≡ true → IsBest (wins_at beats all) (length all) i
unfolding beats_all
passes_best number beats all n i f at_i passes = record {
  within = there_below all i f at_i;
  beats_others = λ k below ne.
      let there = below_there all k below in
      wins_of beats all i k f there.0 at_i there.1
      ∙ or_false (eqb (number there.0) (number f)) (beats f there.0)
      (all_at (beats_if_other number beats f) all passes k there.0 there.1)
      (eqb_of_other (number there.0) (number f) (apart number 1 all n i k f there.0 at_i there.1 (λ e. ne (sym e))));
}

by_found : {F : Type 0} (number : F → ℕ) (beats : F → F → Bool) (all : List F) → IsAsymmetric (wins_at beats all) (length all) → AreNumbered number 1 all → (verdict : Verdict) → IsVerdict (wins_at beats all) (length all) verdict
    → (found : Option F) → find (beats_all number beats all) all ≡ found → found ≡ member_of all verdict
unfolding Found
by_found number beats all asymmetric n (Best member) is (Some f) e =
    let h = found_at (beats_all number beats all) all f e in
    let same = best_same (wins_at beats all) (length all) h.0 member asymmetric (passes_best number beats all n h.0 f h.1 h.2) is in
    sym h.1 ∙ ap (λ k. slice_get all k) same
by_found number beats all asymmetric n (Best member) is None e =
    let there = below_there all member is.within in
    let passes = best_passes number beats all member there.0 there.1 is in
    let misses = missed (beats_all number beats all) all e member there.0 there.1 in
    absurd cc
by_found number beats all asymmetric n (NoBest champion counter) is (Some f) e =
    let h = found_at (beats_all number beats all) all f e in
    absurd (is.2 h.0 (passes_best number beats all n h.0 f h.1 h.2))
by_found number beats all asymmetric n (NoBest champion counter) is None e = refl
by_found number beats all asymmetric n Empty is (Some f) e =
    let h = found_at (beats_all number beats all) all f e in
    let below = there_below all h.0 f h.1 in
    absurd (omega (arith, is, below))
by_found number beats all asymmetric n Empty is None e = refl

-- what the definition chooses is the member that the verdict calls the best
pub chosen_by_verdict : (graph : CxxGraph) (all : List Rated) (verdict : Verdict) → AreNumbered position_of 1 all → IsVerdict (wins_at (beats graph) all) (length all) verdict → chosen graph all ≡ member_of all verdict
unfolding chosen beats_all
chosen_by_verdict graph all verdict n is = by_found position_of (beats graph) all (wins_asymmetric graph all (length all)) n verdict is (find (beats_all position_of (beats graph) all) all) refl

-- ---- counters

not_true : (b : Bool) → b ≡ true → not b ≡ false
not_true true e = refl
not_true false e = absurd cc

neither : (a b : Bool) → a ≡ false → b ≡ false → not (a || b) ≡ true
neither true b e f = absurd cc
neither false true e f = absurd cc
neither false false e f = refl

pub counter_by_least : {F : Type 0} (number : F → ℕ) (beats : F → F → Bool) (all : List F) → AreNumbered number 1 all → (i : ℕ) (f : F) → slice_get all i ≡ Some f → (rival : Option ℕ) → IsLeastCounter (wins_at beats all) (length all) i rival → counter number beats all f ≡ member_at all rival
counter_by_least number beats all n i f at_i None beaten =
    find_none (λ g. not (beats_if_other number beats f g)) all (λ k g at_k. not_true (beats_if_other number beats f g) (passes_at number beats all i f at_i k g at_k (λ ne. beaten k (there_below all k g at_k) ne)))
counter_by_least number beats all n i f at_i (Some other) found =
    let there = below_there all other found.0.within in
    find_first (λ g. not (beats_if_other number beats f g)) all other there.0 there.1
    (neither (eqb (number there.0) (number f)) (beats f there.0)
    (eqb_of_other (number there.0) (number f) (apart number 1 all n i other f there.0 at_i there.1 (λ e. found.0.apart (sym e))))
    (sym (wins_of beats all i other f there.0 at_i there.1) ∙ found.0.unbeaten))
    (λ j g below at_j. not_true (beats_if_other number beats f g) (passes_at number beats all i f at_i j g at_j (λ ne. found.1 j below ne)))
    ∙ sym there.1

-- the line of the contender at a place
pub tie_by_least : (graph : CxxGraph) (all : List Rated) (i : ℕ) (f : Rated) (rival : Option ℕ) → AreNumbered position_of 1 all → slice_get all i ≡ Some f → IsLeastCounter (wins_at (beats graph) all) (length all) i rival → tie_at graph all (slice_get all i) ≡ line_of f (member_at all rival)
tie_by_least graph all i f rival n at_i least =
    ap (tie_at graph all) at_i ∙ ap (line_of f) (counter_by_least position_of (beats graph) all n i f at_i rival least)

-- ---- the lines of all

pub contender_here : (types : List CxxType) (object : Option Object) (operands : List Operand) (all : List Contender) (i : ℕ) (one else_ : Contender) → i < length all → one ≡ get_or all i else_ → slice_get (contenders_at types object operands all) i ≡ Some (contender_at types object operands one)
contender_here types object operands all i one else_ below is =
    slice_get-map (contender_at types object operands) all i ∙ ap (option_map (contender_at types object operands)) (slice_get-get_or all i else_ below) ∙ ap (λ c. Some (contender_at types object operands c)) (sym is)

drop_there : {X : Type 0} (xs : List X) (i : ℕ) (y : X) → slice_get xs i ≡ Some y → drop i xs ≡ y ∷ drop (suc i) xs
drop_there [] i y e = absurd cc
drop_there (x ∷ xs) zero y e = let same : x ≡ y = cc in ap (λ z. z ∷ xs) same
drop_there (x ∷ xs) (suc i) y e = drop_there xs i y e

joined : {E : Type 0} (items : List E) (o : Option E) (rest : List E) → items ++ cons_option o rest ≡ with_option items o ++ rest
joined items None rest = refl
joined items (Some e) rest = sym (append_assoc items (e ∷ []) rest)

pub ties_step : (graph : CxxGraph) (all : List Rated) (items : List Evidence) (i : ℕ) (o : Option Evidence) → i < length all → o ≡ tie_at graph all (slice_get all i) → items ++ filter_map (tie graph all) (drop i all) ≡ with_option items o ++ filter_map (tie graph all) (drop (i + 1) all)
ties_step graph all items i o below is =
    let there = below_there all i below in
    let made : tie graph all there.0 ≡ o = sym (is ∙ ap (tie_at graph all) there.1) in
    ap (λ xs. items ++ filter_map (tie graph all) xs) (drop_there all i there.0 there.1)
    ∙ ap (λ o. items ++ cons_option o (filter_map (tie graph all) (drop (suc i) all))) made
    ∙ joined items o (filter_map (tie graph all) (drop (suc i) all))
    ∙ ap (λ k. with_option items o ++ filter_map (tie graph all) (drop k all)) (sym (add-one i))

-- ---- the viable ones

contended : {A B : Type 0} (f : A → Rated) (g : B → Rated) (found : List A) (rest : List Rated) (one : B) (o : Option A) (b : Bool) → option_map f o ≡ cond b (Some (g one)) None → map f (with_option found o) ++ rest ≡ map f found ++ cond b (g one ∷ rest) rest
contended f g found rest one None true e = absurd cc
contended f g found rest one None false e = refl
contended f g found rest one (Some this) true e =
    let same : f this ≡ g one = cc in
    ap (λ xs. xs ++ rest) (map-append f found (this ∷ []))
    ∙ append_assoc (map f found) (f this ∷ []) rest
    ∙ ap (λ r. map f found ++ r ∷ rest) same
contended f g found rest one (Some this) false e = absurd cc

pub contended_step : {A B : Type 0} (f : A → Rated) (g : B → Rated) (found new : List A) (given all : List B) (i : ℕ) (one d : B) (o : Option A) → given ≡ all → i < length given → one ≡ get_or given i d → option_map f o ≡ cond (is_viable (g one).outcome) (Some (g one)) None → new ≡ with_option found o → map f new ++ viable (map g (drop (i + 1) all)) ≡ map f found ++ viable (map g (drop i all))
contended_step f g found new given all i one d o same below is made grows =
    let next : drop i all ≡ one ∷ drop (i + 1) all = ap (drop i) (sym same) ∙ drop-cons given i d below ∙ ap (λ y. y ∷ drop (suc i) given) (sym is) ∙ ap (λ k. one ∷ drop k given) (sym (add-one i)) ∙ ap (λ xs. one ∷ drop (i + 1) xs) same in
    ap (λ xs. map f xs ++ viable (map g (drop (i + 1) all))) grows
    ∙ contended f g found (viable (map g (drop (i + 1) all))) one o (is_viable (g one).outcome) made
    ∙ ap (λ xs. map f found ++ viable (map g xs)) (sym next)

pub all_with : {A : Type 0} (P : A → Type 0) (found : List A) (o : Option A) → All P found → IfSome o P → All P (with_option found o)
all_with P found None each is = each
all_with P found (Some one) each is = All-push P found one each is
