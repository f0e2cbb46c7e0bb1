-- The walk from a class to the facts of its bases.
use Rattle.std.proofs.Common.{ℕ, zero, suc, ◌≡◌, ◌<◌, ◌≤◌, ◌+◌, Bool, true, false, ◌||◌, nat_eq, List, [], ◌∷◌, ◌++◌, length, Option, Some, None, refl, ap, sym, subst, ◌∙◌, inl, inr, arith, get_or, take, take_all, length-append}
use Rattle.std.specs.Prelude.{if◌then◌else◌}
use Rattle.std.specs.List.{list_any}
use Rattle.std.specs.BTreeSet.{insert_key}
use Rattle.std.specs.declared.cmp.Ordering.{Ordering}
use Rattle.std.specs.declared.cmp.Ordering.TheVariants.{Less, Equal, Greater}
use Rattle.std.specs.Ordering.{nat_cmp, match_ordering}
use Rattle.std.proofs.lemmas.Bool.{eqb-true, eq-eqb, false≢true, or_cases, or_left, or_right}
use Rattle.std.proofs.lemmas.Map.Views.{All-insert_key}
use Rattle.std.proofs.lemmas.List.Folds.{list_any-append, list_any_more}
use Rattle.std.proofs.Math.Seq.{get_or-append_seam}
use Rattle.cxx_model.specs.declared.facts.Entity.{Entity}
use Rattle.cxx_model.specs.declared.facts.Entity.TheVariants as entity
use Rattle.cxx_model.specs.declared.facts.Fact.{Fact}
use Rattle.cxx_model.specs.declared.types.FactId.{FactId}
use Rattle.cxx_graph.specs.Numbered.{is_ancestor_of, numbers_from, numbers_of}
use Rattle.cxx_subobjects.specs.declared.direct.DirectBase.{DirectBase}
use Rattle.cxx_subobjects.specs.Direct.{direct_base_at, direct_base_named}
use Rattle.cxx_subobjects.specs.Reached.{AreAllBelow, AreNoted, Descends, IsFollowed, IsFollowedBy, IsWalk, has, is_of, noted}

-- ---- numbers that are noted

pub below_inserted : (count : ℕ) (old new : List ℕ) (n : ℕ) → AreAllBelow count old → n < count → new ≡ insert_key nat_cmp old n → AreAllBelow count new
below_inserted count old new n all within is =
    let P : ℕ → Type 0 = λ k. k < count in
    subst (λ (ks : List ℕ). AreAllBelow count ks) (sym is) (All-insert_key nat_cmp n P old all within)

-- what is there before a number is put at its place is there afterwards
stays : (good : ℕ → Bool) (x n : ℕ) (xs more : List ℕ) (r : Ordering) → (list_any good xs ≡ true → list_any good more ≡ true) → list_any good (x ∷ xs) ≡ true → list_any good (match_ordering r (n ∷ x ∷ xs) (x ∷ xs) (x ∷ more)) ≡ true
stays good x n xs more Less rest h = or_right (good n) (list_any good (x ∷ xs)) h
stays good x n xs more Equal rest h = h
stays good x n xs more Greater rest h = by (good x) h
  where
    by : (b : Bool) → (b || list_any good xs) ≡ true → (b || list_any good more) ≡ true
    by true e = refl
    by false e = rest e

stays_all : (good : ℕ → Bool) (keys : List ℕ) (n : ℕ) → list_any good keys ≡ true → list_any good (insert_key nat_cmp keys n) ≡ true
stays_all good [] n h = absurd (false≢true h)
stays_all good (x ∷ xs) n h = stays good x n xs (insert_key nat_cmp xs n) (nat_cmp n x) (stays_all good xs n) h

pub has_kept : (old new : List ℕ) (n j : ℕ) → new ≡ insert_key nat_cmp old n → has old j ≡ true → has new j ≡ true
has_kept old new n j is h = ap (λ ks. has ks j) is ∙ stays_all (nat_eq j) old n h

pub last_below : (count : ℕ) (keys rest : List ℕ) (n : ℕ) → AreAllBelow count keys → keys ≡ rest ++ n ∷ [] → n < count
last_below count keys rest n all is =
    let whole : AreAllBelow count (rest ++ n ∷ []) = subst (λ (ks : List ℕ). AreAllBelow count ks) is all in
    let within : length rest < length (rest ++ n ∷ []) = grind (arith, length-append) in
    let at : get_or (rest ++ n ∷ []) (length rest) 0 ≡ n = get_or-append_seam rest n [] 0 in
    let P : ℕ → Type 0 = λ k. k < count in
    subst P at (whole (length rest) 0 within)

-- ---- the facts of the bases of a class

pub among : List FactId → ℕ → Bool
among numbers j = list_any (λ number. nat_eq j number.0) numbers

of_ancestor : (class : ℕ) (fact : Fact) (what : Entity) → is_of class (direct_base_named what) ≡ true → is_ancestor_of class (record fact { what = what }) ≡ true
of_ancestor class fact (entity.Ancestor derived parent index access) h = h
of_ancestor class fact _ h = absurd (false≢true h)

cons_or_not : (b : Bool) (i j : ℕ) (rest : List FactId) → among rest j ≡ true → among (if b then record { 0 = i } ∷ rest else rest) j ≡ true
unfolding among
cons_or_not true i j rest h = or_right (nat_eq j i) (among rest j) h
cons_or_not false i j rest h = h

cons_here : (b : Bool) (i j : ℕ) (rest : List FactId) → b ≡ true → j ≡ i → among (if b then record { 0 = i } ∷ rest else rest) j ≡ true
unfolding among
cons_here true i j rest e is = or_left (nat_eq j i) (among rest j) (eq-eqb j i is)
cons_here false i j rest e is = absurd (false≢true e)

among_from : (class i j : ℕ) (facts : List Fact) → is_of class (direct_base_at facts j) ≡ true → among (numbers_from i (is_ancestor_of class) facts) (i + j) ≡ true
among_from class i j [] h = absurd (false≢true h)
among_from class i zero (fact ∷ facts) h = cons_here (is_ancestor_of class fact) i (i + 0) (numbers_from (suc i) (is_ancestor_of class) facts) (of_ancestor class fact fact.what h) (omega arith)
among_from class i (suc j) (fact ∷ facts) h =
    let next : suc i + j ≡ i + suc j = omega arith in
    cons_or_not (is_ancestor_of class fact) i (i + suc j) (numbers_from (suc i) (is_ancestor_of class) facts) (subst (λ (n : ℕ). among (numbers_from (suc i) (is_ancestor_of class) facts) n ≡ true) next (among_from class (suc i) j facts h))

among_all : (class j : ℕ) (facts : List Fact) → is_of class (direct_base_at facts j) ≡ true → among (numbers_of (is_ancestor_of class) facts) j ≡ true
among_all class j facts h =
    let zeroth : 0 + j ≡ j = omega arith in
    subst (λ (n : ℕ). among (numbers_of (is_ancestor_of class) facts) n ≡ true) zeroth (among_from class 0 j facts h)

pub none_among : (j : ℕ) → among [] j ≡ true → (P : Type 0) → P
unfolding among
none_among j h P = absurd (false≢true h)

pub noted_more : (keys new : List ℕ) (numbers : List FactId) (i before : ℕ) (number d : FactId) → i < length numbers → number ≡ get_or numbers i d → ((j : ℕ) → j < before → among (take i numbers) j ≡ true → has keys j ≡ true) → ((j : ℕ) → has keys j ≡ true → has new j ≡ true) → (number.0 < before → has new number.0 ≡ true) → (j : ℕ) → j < before → among (take (i + 1) numbers) j ≡ true → has new j ≡ true
unfolding among
noted_more keys new numbers i before number d within is so_far kept here j lt h =
    let more : among (take (i + 1) numbers) j ≡ (among (take i numbers) j || nat_eq j (get_or numbers i d).0) = list_any_more (λ number. nat_eq j number.0) numbers i d within in
    elim (or_cases (among (take i numbers) j) (nat_eq j (get_or numbers i d).0) (sym more ∙ h)) [
      | inl before_it ↦ kept j (so_far j lt before_it)
      | inr last ↦ (let e : number.0 ≡ j = ap (λ (f : FactId). f.0) is ∙ sym (eqb-true j (get_or numbers i d).0 last) in
          subst (λ (n : ℕ). has new n ≡ true) e (here (subst (λ (n : ℕ). n < before) (sym e) lt)))
    ]

pub noted_all : (facts : List Fact) (keys : List ℕ) (numbers : List FactId) (i class before : ℕ) → length numbers ≤ i → numbers ≡ numbers_of (is_ancestor_of class) facts → ((j : ℕ) → j < before → among (take i numbers) j ≡ true → has keys j ≡ true) → AreNoted facts (has keys) class before
noted_all facts keys numbers i class before past is so_far j lt h =
    let whole : take i numbers ≡ numbers_of (is_ancestor_of class) facts = take_all i numbers past ∙ is in
    so_far j lt (ap (λ (ns : List FactId). among ns j) whole ∙ among_all class j facts h)

-- ---- the walk

has_pushed : (order : List ℕ) (n j : ℕ) → has (order ++ n ∷ []) j ≡ true → (has order j ≡ true → ⊥) → j ≡ n
has_pushed order n j h denied = elim (or_cases (has order j) (has (n ∷ []) j) (sym (list_any-append (nat_eq j) order (n ∷ [])) ∙ h)) [
  | inl there ↦ absurd (denied there)
  | inr here ↦ elim (or_cases (nat_eq j n) false here) [
    | inl is ↦ eqb-true j n is
    | inr none ↦ absurd (false≢true none)
  ]
]

-- a number in a longer list is the last one, or was there before
pushed_cases : (P : ℕ → Type 0) (order : List ℕ) (n j : ℕ) → has (order ++ n ∷ []) j ≡ true → (has order j ≡ true → P j) → P n → P j
pushed_cases P order n j h before last = by (has order j) refl
  where
    by : (b : Bool) → has order j ≡ b → P j
    by true e = before e
    by false e = subst P (sym (has_pushed order n j h (λ t. false≢true (sym e ∙ t)))) last

-- what waited last is taken
moved : (order rest waiting : List ℕ) (n j : ℕ) → waiting ≡ rest ++ n ∷ [] → noted order waiting j ≡ true → noted (order ++ n ∷ []) rest j ≡ true
moved order rest waiting n j is h =
    let a : has (order ++ n ∷ []) j ≡ (has order j || has (n ∷ []) j) = list_any-append (nat_eq j) order (n ∷ []) in
    let w : has waiting j ≡ (has rest j || has (n ∷ []) j) = ap (λ ks. has ks j) is ∙ list_any-append (nat_eq j) rest (n ∷ []) in
    ap (λ b. b || has rest j) a ∙ by (has order j) (has rest j) (has (n ∷ []) j) (ap (λ b. has order j || b) (sym w) ∙ h)
  where
    by : (a b c : Bool) → (a || (b || c)) ≡ true → ((a || c) || b) ≡ true
    by true b c e = refl
    by false true true e = refl
    by false true false e = refl
    by false false c e = or_left c false e

followed_by : (facts : List Fact) (one two : ℕ → Bool) (k : ℕ) (base : Option DirectBase) → ((j : ℕ) → one j ≡ true → two j ≡ true) → IsFollowedBy facts one k base → IsFollowedBy facts two k base
followed_by facts one two k None more h = tt
followed_by facts one two k (Some base) more h = λ j lt is. more j (h j lt is)

followed : (facts : List Fact) (one two : ℕ → Bool) (k : ℕ) → ((j : ℕ) → one j ≡ true → two j ≡ true) → IsFollowed facts one k → IsFollowed facts two k
followed facts one two k more h = followed_by facts one two k (direct_base_at facts k) more h

descends_more : (order : List ℕ) (n : ℕ) → ((k : ℕ) → has order k ≡ true → n < k) → Descends order → Descends (order ++ n ∷ [])
descends_more [] n above down = ((λ j h. absurd (false≢true h)), tt)
descends_more (k ∷ ks) n above down =
    ((λ j h. pushed_cases (λ i. i < k) ks n j h (down.0 j) (above k (or_left (nat_eq k k) (has ks k) (eq-eqb k k refl)))), descends_more ks n (λ j h. above j (or_right (nat_eq j k) (has ks j) h)) down.1)

pub walk_taken : (facts : List Fact) (class : ℕ) (order waiting longer rest : List ℕ) (seen : ℕ → Bool) (bound n : ℕ) → IsWalk facts class order waiting seen bound bound → waiting ≡ rest ++ n ∷ [] → longer ≡ order ++ n ∷ [] → AreAllBelow n rest → IsWalk facts class longer rest seen n (n + 1)
walk_taken facts class order waiting longer rest seen bound n walk is made below =
    let lt : n < bound = last_below bound waiting rest n walk.below is in
    let kept : (j : ℕ) → noted order waiting j ≡ true → noted (order ++ n ∷ []) rest j ≡ true = λ j h. moved order rest waiting n j is h in
    subst (λ (ks : List ℕ). IsWalk facts class ks rest seen n (n + 1)) (sym made) (record {
      within = omega (arith, walk.within);
      below = below;
      above = λ k h. pushed_cases (λ i. n ≤ i) order n k h (λ t. let le : bound ≤ k = walk.above k t in omega arith) (omega arith);
      inside = λ k h. pushed_cases (λ i. i < length facts) order n k h (walk.inside k) (omega (arith, walk.within));
      descends = descends_more order n (λ k h. let le : bound ≤ k = walk.above k h in omega arith) walk.descends;
      start = λ j l h. kept j (walk.start j l h);
      known = λ c s j l h. kept j (walk.known c s j (omega arith) h);
      each = λ k h le. pushed_cases (λ i. n + 1 ≤ i → IsFollowed facts (noted (order ++ n ∷ []) rest) i) order n k h (λ t _. followed facts (noted order waiting) (noted (order ++ n ∷ []) rest) k kept (walk.each k t (walk.above k t))) (λ above_it. absurd (omega arith)) le;
    })
