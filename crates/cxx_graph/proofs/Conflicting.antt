-- The conflict that is found is the first one.
use Rattle.std.specs.Prelude.{ℕ, zero, suc, ◌≡◌, ◌<◌, ◌+◌, Bool, true, false, if◌then◌else◌, List, [], ◌∷◌, Option, Some, None, refl}
use Rattle.std.specs.List.{slice_get}
use Rattle.std.proofs.Common.{arith, subst}
use Rattle.cxx_model.specs.Facts.Conflicts.{conflicts, conflict_among, first_conflict, IsFirstConflict, IsFree}
use Rattle.cxx_model.specs.Facts.Declarations.{CxxFact, CxxGraph}

-- the same of a part of the facts, the first of which has a number
record IsFirstAmong (graph : CxxGraph) (start : ℕ) (facts : List CxxFact) (new : CxxFact) (number : ℕ) : Type 0 where
  at : ℕ
  at_is : number ≡ start + at
  old : CxxFact
  stored : slice_get facts at ≡ Some old
  conflicting : conflicts graph number old new ≡ true
  none_before : (n : ℕ) (fact : CxxFact) → n < at → slice_get facts n ≡ Some fact → conflicts graph (start + n) fact new ≡ false

is-here : (graph : CxxGraph) (start : ℕ) (x : CxxFact) (xs : List CxxFact) (new : CxxFact) (number : ℕ) → conflicts graph start x new ≡ true → start ≡ number → IsFirstAmong graph start (x ∷ xs) new number
is-here graph start x xs new number is same = record {
  at = 0;
  at_is = omega (arith, same);
  old = x;
  stored = refl;
  conflicting = subst (λ (n : ℕ). conflicts graph n x new ≡ true) same is;
  none_before = λ n fact within. absurd (omega (arith, within));
}

before-later : (graph : CxxGraph) (start : ℕ) (x : CxxFact) (xs : List CxxFact) (new : CxxFact) (end : ℕ) → conflicts graph start x new ≡ false → ((n : ℕ) (fact : CxxFact) → n < end → slice_get xs n ≡ Some fact → conflicts graph (suc start + n) fact new ≡ false) → (n : ℕ) (fact : CxxFact) → n < suc end → slice_get (x ∷ xs) n ≡ Some fact → conflicts graph (start + n) fact new ≡ false
before-later graph start x xs new end none rest zero fact within is =
    let same : x ≡ fact = cc in
    let zeroed : start ≡ start + zero = omega arith in
    subst (λ (n : ℕ). conflicts graph n fact new ≡ false) zeroed (subst (λ (f : CxxFact). conflicts graph start f new ≡ false) same none)
before-later graph start x xs new end none rest (suc n) fact within is =
    let moved : suc start + n ≡ start + suc n = omega arith in
    subst (λ (m : ℕ). conflicts graph m fact new ≡ false) moved (rest n fact (omega (arith, within)) is)

is-later : (graph : CxxGraph) (start : ℕ) (x : CxxFact) (xs : List CxxFact) (new : CxxFact) (number : ℕ) → conflicts graph start x new ≡ false → IsFirstAmong graph (suc start) xs new number → IsFirstAmong graph start (x ∷ xs) new number
is-later graph start x xs new number none rest = record {
  at = suc rest.at;
  at_is = (let e : number ≡ suc start + rest.at = rest.at_is in omega arith);
  old = rest.old;
  stored = rest.stored;
  conflicting = rest.conflicting;
  none_before = before-later graph start x xs new rest.at none rest.none_before;
}

among-first : (graph : CxxGraph) (start : ℕ) (facts : List CxxFact) (new : CxxFact) (number : ℕ) → conflict_among graph start facts new ≡ Some number → IsFirstAmong graph start facts new number
among-first graph start [] new number e = cc
among-first graph start (x ∷ xs) new number e = by (conflicts graph start x new) refl (among-first graph (suc start) xs new number)
  where
    by : (b : Bool) → conflicts graph start x new ≡ b → (conflict_among graph (suc start) xs new ≡ Some number → IsFirstAmong graph (suc start) xs new number) → IsFirstAmong graph start (x ∷ xs) new number
    by true is rest = (let found : Some start ≡ Some number = cc in let same : start ≡ number = cc in is-here graph start x xs new number is same)
    by false is rest = (let found : conflict_among graph (suc start) xs new ≡ Some number = cc in is-later graph start x xs new number is (rest found))

zero-more : (n : ℕ) → 0 + n ≡ n
zero-more n = omega arith

pub conflict-is-first : (graph : CxxGraph) (new : CxxFact) (number : ℕ) → first_conflict graph new ≡ Some number → IsFirstConflict graph new number
conflict-is-first graph new number e =
    let among : IsFirstAmong graph 0 graph.facts new number = among-first graph 0 graph.facts new number e in
    let same : among.at ≡ number = (let is : number ≡ 0 + among.at = among.at_is in omega arith) in
    record {
      old = among.old;
      stored = subst (λ (n : ℕ). slice_get graph.facts n ≡ Some among.old) same among.stored;
      conflicting = among.conflicting;
      none_before = λ n fact within is. subst (λ (m : ℕ). conflicts graph m fact new ≡ false) (zero-more n) (among.none_before n fact (omega (arith, within, same)) is);
    }

no-pick : (b : Bool) (s : ℕ) (rest : Option ℕ) → b ≡ true → (if b then Some s else rest) ≡ None → ⊥
no-pick true s rest p e = cc
no-pick false s rest p e = cc

pick-rest : (b : Bool) (s : ℕ) (rest : Option ℕ) → b ≡ false → (if b then Some s else rest) ≡ None → rest ≡ None
pick-rest true s rest p e = cc
pick-rest false s rest p e = e

none-among : (graph : CxxGraph) (start : ℕ) (facts : List CxxFact) (new : CxxFact) → conflict_among graph start facts new ≡ None → (n : ℕ) (fact : CxxFact) → slice_get facts n ≡ Some fact → conflicts graph (start + n) fact new ≡ false
none-among graph start [] new e n fact is = cc
none-among graph start (x ∷ xs) new e n fact is = by (conflicts graph start x new) refl (none-among graph (suc start) xs new)
  where
    by : (b : Bool) → conflicts graph start x new ≡ b → (conflict_among graph (suc start) xs new ≡ None → (n : ℕ) (fact : CxxFact) → slice_get xs n ≡ Some fact → conflicts graph (suc start + n) fact new ≡ false) → conflicts graph (start + n) fact new ≡ false
    by true found rest = absurd (no-pick (conflicts graph start x new) start (conflict_among graph (suc start) xs new) found e)
    by false found rest = (let none : conflict_among graph (suc start) xs new ≡ None = pick-rest (conflicts graph start x new) start (conflict_among graph (suc start) xs new) found e in before-later graph start x xs new (suc n) found (λ m f within at. rest none m f at) n fact (omega arith) is)

pub no-conflict : (graph : CxxGraph) (new : CxxFact) → first_conflict graph new ≡ None → IsFree graph new
no-conflict graph new e n fact is = subst (λ (m : ℕ). conflicts graph m fact new ≡ false) (zero-more n) (none-among graph 0 graph.facts new e n fact is)
