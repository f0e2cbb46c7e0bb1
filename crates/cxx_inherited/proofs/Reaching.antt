-- The facts of bases that matter, as they are gathered.
use Rattle.std.specs.Prelude.{ℕ, zero, suc, ◌≡◌, ◌<◌, ◌≤◌, ◌+◌, Bool, true, false, ◌&&◌, ◌||◌, nat_eq, nat_lt, if◌then◌else◌, List, [], ◌∷◌, ◌++◌, length, Option, Some, None, refl}
use Rattle.std.specs.List.{slice_get, list_any}
use Rattle.std.specs.BTreeSet.{insert_key}
use Rattle.std.specs.declared.cmp.Ordering.{Ordering}
use Rattle.std.specs.declared.cmp.Ordering.TheVariants.{Less, Equal, Greater}
use Rattle.std.specs.Cmp.{ranks}
use Rattle.std.specs.Ordering.{nat_cmp, match_ordering, MatchOrdering}
use Rattle.std.proofs.lemmas.Map.Views.{All-insert_key}
use Rattle.std.proofs.lemmas.List.Folds.{list_any-append}
use Rattle.std.proofs.Math.Seq.{get_or-append_seam}
use Rattle.std.proofs.Common.{ap, sym, subst, ◌∙◌, arith, get_or, length-append}
use Rattle.cxx_model.specs.declared.facts.Entity.{Entity}
use Rattle.cxx_model.specs.declared.facts.Entity.TheVariants as entity
use Rattle.cxx_model.specs.declared.facts.Fact.{Fact}
use Rattle.cxx_model.specs.declared.types.ClassId.{ClassId}
use Rattle.cxx_model.specs.declared.types.FactId.{FactId}
use Rattle.cxx_model.specs.Facts.Declarations.{CxxFact, declares_at, fact_at, facts_at}
use Rattle.cxx_model.specs.Types.Trees.{CxxType}
use Rattle.cxx_graph.specs.Numbered.{is_ancestor_of, numbers_from, numbers_of}
use Rattle.cxx_inherited.specs.Reached.{AreAllBelow, AreCovered, Covers, CoversSome, Descends, IsGathering, IsReached, holds, holds_either, is_base_of, last_or, parent_in, passes_below}

-- ---- one number is noted

either_last : (a b : Bool) → (a || b) ≡ (b || a)
either_last true true = refl
either_last true false = refl
either_last false true = refl
either_last false false = refl

either_assoc : (a b c : Bool) → (a || (b || c)) ≡ ((a || b) || c)
either_assoc true b c = refl
either_assoc false b c = refl

either_same : (a b c : Bool) → c ≡ a → (a || b) ≡ ((a || b) || c)
either_same true b c is = refl
either_same false true c is = refl
either_same false false c is = sym is

is_less : (i n : ℕ) → i < n → nat_lt i n ≡ true
is_less i n h = grind arith

not_less : (i n : ℕ) → n ≤ i → nat_lt i n ≡ false
not_less i n h = grind arith

inserted : (good : ℕ → Bool) (x n : ℕ) (xs more : List ℕ) (r : Ordering) → MatchOrdering r (n < x) (n ≡ x) (x < n) → list_any good more ≡ (list_any good xs || good n) → list_any good (match_ordering r (n ∷ x ∷ xs) (x ∷ xs) (x ∷ more)) ≡ ((good x || list_any good xs) || good n)
inserted good x n xs more Less h rest = either_last (good n) (good x || list_any good xs)
inserted good x n xs more Equal h rest = either_same (good x) (list_any good xs) (good n) (ap good h)
inserted good x n xs more Greater h rest = ap (λ b. good x || b) rest ∙ either_assoc (good x) (list_any good xs) (good n)

any_inserted : (good : ℕ → Bool) (keys : List ℕ) (n : ℕ) → list_any good (insert_key nat_cmp keys n) ≡ (list_any good keys || good n)
any_inserted good [] n = either_last (good n) false
any_inserted good (x ∷ xs) n = inserted good x n xs (insert_key nat_cmp xs n) (nat_cmp n x) (ranks n x) (any_inserted good xs n)

pub noted_one : (good : ℕ → Bool) (old new : List ℕ) (number before : ℕ) → number < before → new ≡ insert_key nat_cmp old number → list_any good new ≡ (list_any good old || (nat_lt number before && good number))
noted_one good old new number before h is = ap (list_any good) is ∙ any_inserted good old number ∙ ap (λ b. list_any good old || (b && good number)) (sym (is_less number before h))

pub below_inserted : (count : ℕ) (old new : List ℕ) (n : ℕ) → AreAllBelow count old → n < count → new ≡ insert_key nat_cmp old n → AreAllBelow count new
below_inserted count old new n all within is =
    let P : ℕ → Type 0 = λ k. k < count in
    subst (λ (ks : List ℕ). AreAllBelow count ks) (sym is) (All-insert_key nat_cmp n P old all within)

-- ---- the facts of the bases of a class

base_is : (types : List CxxType) (class : ClassId) (fact : Fact) → is_base_of class (Some (fact_at types fact)) ≡ is_ancestor_of class.0 fact
base_is types class fact = by fact.what
  where
    by : (what : Entity) → is_base_of class (Some (record (fact_at types fact) { what = declares_at types what })) ≡ is_ancestor_of class.0 (record fact { what = what })
    by (entity.Ancestor derived parent index access) = refl
    by _ = refl

same_number : (m n : ℕ) → m ≡ n → nat_eq n m ≡ true
same_number m n e = grind arith

any_here : (good : FactId → Bool) (t : Bool) (one : FactId) (others : List FactId) → t ≡ true → good one ≡ true → list_any good (if t then one ∷ others else others) ≡ true
any_here good true one others e h = ap (λ b. b || list_any good others) h
any_here good false one others e h = absurd cc

any_there : (good : FactId → Bool) (t : Bool) (one : FactId) (others : List FactId) → list_any good others ≡ true → list_any good (if t then one ∷ others else others) ≡ true
any_there good true one others h = ap (λ b. good one || b) h ∙ or_true (good one)
  where
    or_true : (b : Bool) → (b || true) ≡ true
    or_true true = refl
    or_true false = refl
any_there good false one others h = h

among_from : (types : List CxxType) (class : ClassId) (before n i k : ℕ) (facts : List Fact) → n < before → i + k ≡ n → is_base_of class (slice_get (facts_at types facts) k) ≡ true → list_any (passes_below before (nat_eq n)) (numbers_from i (is_ancestor_of class.0) facts) ≡ true
among_from types class before n i k [] lt e base = absurd cc
among_from types class before n i zero (fact ∷ facts) lt e base =
    any_here (passes_below before (nat_eq n)) (is_ancestor_of class.0 fact) (record { 0 = i }) (numbers_from (suc i) (is_ancestor_of class.0) facts) (sym (base_is types class fact) ∙ base) (ap (λ t. t && nat_eq n i) (is_less i before (omega (arith, e))) ∙ same_number i n (omega (arith, e)))
among_from types class before n i (suc k) (fact ∷ facts) lt e base =
    any_there (passes_below before (nat_eq n)) (is_ancestor_of class.0 fact) (record { 0 = i }) (numbers_from (suc i) (is_ancestor_of class.0) facts) (among_from types class before n (suc i) k facts lt (omega (arith, e)) base)

either_right : (a b : Bool) → b ≡ true → (a || b) ≡ true
either_right true b h = refl
either_right false b h = h

either_left : (a b : Bool) → a ≡ true → (a || b) ≡ true
either_left true b h = refl
either_left false b h = absurd cc

pub noted_keep : (old new : List ℕ) (more : Bool) (n : ℕ) → holds new n ≡ (holds old n || more) → holds old n ≡ true → holds new n ≡ true
noted_keep old new more n e h = e ∙ either_left (holds old n) more h

-- what was noted covers the class
pub noted_cover : (types : List CxxType) (declares : ClassId → Bool) (facts : List Fact) (class : ClassId) (before : ℕ) (old new : List ℕ) (numbers : List FactId) → numbers ≡ numbers_of (is_ancestor_of class.0) facts → ((good : ℕ → Bool) → list_any good new ≡ (list_any good old || list_any (passes_below before good) numbers)) → Covers declares (facts_at types facts) (holds new) before class
noted_cover types declares facts class before old new numbers are noted = λ free n lt base.
    noted (nat_eq n) ∙ either_right (holds old n) (list_any (passes_below before (nat_eq n)) numbers) (ap (list_any (passes_below before (nat_eq n))) are ∙ among_from types class before n 0 n facts lt (omega arith) base)

pub declared_cover : (declares : ClassId → Bool) (all : List CxxFact) (among : ℕ → Bool) (before : ℕ) (class : ClassId) → declares class ≡ true → Covers declares all among before class
declared_cover declares all among before class owns = λ free n lt base. (let no : true ≡ false = sym owns ∙ free in absurd cc)

-- ---- one more is reached

wider : (declares : ClassId → Bool) (all : List CxxFact) (among more : ℕ → Bool) (before : ℕ) (class : ClassId) → ((n : ℕ) → among n ≡ true → more n ≡ true) → Covers declares all among before class → Covers declares all more before class
wider declares all among more before class grow covers = λ free n lt base. grow n (covers free n lt base)

wider_some : (declares : ClassId → Bool) (all : List CxxFact) (among more : ℕ → Bool) (before : ℕ) (class : Option ClassId) → ((n : ℕ) → among n ≡ true → more n ≡ true) → CoversSome declares all among before class → CoversSome declares all more before class
wider_some declares all among more before None grow covers = tt
wider_some declares all among more before (Some class) grow covers = wider declares all among more before class grow covers

wider_all : (declares : ClassId → Bool) (all : List CxxFact) (among more : ℕ → Bool) (numbers : List ℕ) → ((n : ℕ) → among n ≡ true → more n ≡ true) → AreCovered declares all among numbers → AreCovered declares all more numbers
wider_all declares all among more [] grow covered = tt
wider_all declares all among more (n ∷ numbers) grow covered = (wider_some declares all among more n (parent_in (slice_get all n)) grow covered.0, wider_all declares all among more numbers grow covered.1)

covered_push : (declares : ClassId → Bool) (all : List CxxFact) (among : ℕ → Bool) (numbers : List ℕ) (k : ℕ) → AreCovered declares all among numbers → CoversSome declares all among k (parent_in (slice_get all k)) → AreCovered declares all among (numbers ++ k ∷ [])
covered_push declares all among [] k covered one = (one, tt)
covered_push declares all among (n ∷ numbers) k covered one = (covered.0, covered_push declares all among numbers k covered.1 one)

descends_push : (bound : ℕ) (numbers : List ℕ) (k : ℕ) → Descends bound numbers → k < last_or bound numbers → Descends bound (numbers ++ k ∷ [])
descends_push bound [] k descends lt = (lt, tt)
descends_push bound (n ∷ numbers) k descends lt = (descends.0, descends_push n numbers k descends.1 lt)

last_push : (bound : ℕ) (numbers : List ℕ) (k : ℕ) → last_or bound (numbers ++ k ∷ []) ≡ k
last_push bound [] k = refl
last_push bound (n ∷ numbers) k = last_push n numbers k

pub last_below : (count : ℕ) (keys rest : List ℕ) (n : ℕ) → AreAllBelow count keys → keys ≡ rest ++ n ∷ [] → n < count
last_below count keys rest n all is =
    let whole : AreAllBelow count (rest ++ n ∷ []) = subst (λ (ks : List ℕ). AreAllBelow count ks) is all in
    let within : length rest < length (rest ++ n ∷ []) = grind (arith, length-append) in
    let at : get_or (rest ++ n ∷ []) (length rest) 0 ≡ n = get_or-append_seam rest n [] 0 in
    let P : ℕ → Type 0 = λ k. k < count in
    subst P at (whole (length rest) 0 within)

moved : (r w k more : Bool) → (w ≡ true → more ≡ true) → (r || (w || (k || false))) ≡ true → ((r || (k || false)) || more) ≡ true
moved true w k more keep h = refl
moved false w true more keep h = refl
moved false true false more keep h = keep refl
moved false false false more keep h = absurd cc

pub gathering_more : (declares : ClassId → Bool) (all : List CxxFact) (bound now : ℕ) (class : ClassId) (reached after waiting rest new : List ℕ) (k : ℕ)
    → IsGathering declares all bound now class reached waiting → waiting ≡ rest ++ k ∷ [] → after ≡ reached ++ k ∷ []
    → AreAllBelow k new → ((n : ℕ) → holds rest n ≡ true → holds new n ≡ true) → CoversSome declares all (holds new) k (parent_in (slice_get all k))
    → IsGathering declares all bound k class after new
gathering_more declares all bound now class reached after waiting rest new k so_far taken pushed below keep covers =
    subst (λ (xs : List ℕ). IsGathering declares all bound k class xs new) (sym pushed) (record {
      within = omega (arith, lt, so_far.within);
      below = below;
      descends = descends_push bound reached k so_far.descends (omega (arith, lt, so_far.at_end));
      at_end = last_push bound reached k;
      closed = covered_push declares all among reached k (wider_all declares all (holds_either reached waiting) among reached grow so_far.closed) (wider_some declares all (holds new) among k (parent_in (slice_get all k)) (λ n h. either_right (holds (reached ++ k ∷ []) n) (holds new n) h) covers);
      covers = wider declares all (holds_either reached waiting) among bound class grow so_far.covers;
    })
  where
    lt : k < now
    lt = last_below now waiting rest k so_far.below taken

    among : ℕ → Bool
    among = holds_either (reached ++ k ∷ []) new

    grow : (n : ℕ) → holds_either reached waiting n ≡ true → among n ≡ true
    grow n h = ap (λ b. b || holds new n) (list_any-append (nat_eq n) reached (k ∷ [])) ∙ moved (holds reached n) (holds rest n) (nat_eq n k) (holds new n) (keep n) (sym (ap (λ b. holds reached n || b) (ap (λ (ks : List ℕ). holds ks n) taken ∙ list_any-append (nat_eq n) rest (k ∷ []))) ∙ h)

pub gathering_first : (declares : ClassId → Bool) (all : List CxxFact) (bound : ℕ) (class : ClassId) (waiting : List ℕ) → AreAllBelow bound waiting → Covers declares all (holds waiting) bound class → IsGathering declares all bound bound class [] waiting
gathering_first declares all bound class waiting below covers = record { within = omega arith; below = below; descends = tt; at_end = refl; closed = tt; covers = covers }

either_false : (b : Bool) → (b || false) ≡ b
either_false true = refl
either_false false = refl

pub gathering_all : (declares : ClassId → Bool) (all : List CxxFact) (bound now : ℕ) (class : ClassId) (reached waiting : List ℕ) → IsGathering declares all bound now class reached waiting → waiting ≡ [] → IsReached declares all bound class reached
gathering_all declares all bound now class reached waiting done none = record {
  descends = done.descends;
  closed = wider_all declares all (holds_either reached waiting) (holds reached) reached only done.closed;
  covers = wider declares all (holds_either reached waiting) (holds reached) bound class only done.covers;
}
  where
    only : (n : ℕ) → holds_either reached waiting n ≡ true → holds reached n ≡ true
    only n h = sym (ap (λ (ks : List ℕ). holds reached n || holds ks n) none ∙ either_false (holds reached n)) ∙ h
