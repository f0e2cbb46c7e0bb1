-- The ways that are kept of classes, base after base.
use Rattle.std.proofs.Common.{◌≡◌, ℕ, ◌+◌, ◌<◌, ◌≤◌, Bool, true, false, cond, not, ◌&&◌, List, [], ◌∷◌, ◌++◌, length, map, take, get_or, Option, Some, None, refl, ap, ◌∙◌, sym, subst, arith, nat_eq, append-nil}
use Rattle.std.specs.BTreeMap.{BTreeMap, get, is_at}
use Rattle.std.specs.Cmp.{ranks}
use Rattle.std.specs.Ordering.{MatchOrdering, is_eq, nat_cmp}
use Rattle.std.specs.declared.cmp.Ordering.{Ordering}
use Rattle.std.specs.declared.cmp.Ordering.TheVariants.{Less, Equal, Greater}
use Rattle.std.specs.List.{find, slice_get}
use Rattle.std.specs.Prelude.{IfSome}
use Rattle.std.proofs.lemmas.Bool.{eqb-true}
use Rattle.std.proofs.lemmas.List.{take_more}
use Rattle.cxx_model.specs.declared.types.ClassId.{ClassId}
use Rattle.cxx_model.specs.Facts.Declarations.{CxxFact, CxxGraph, CxxName}
use Rattle.cxx_meaning.specs.Lookups.Member.{Way as WayMeant, at_base, breaks, declared_in, has_nonstatic, member_by, member_of, same_class, through}
use Rattle.cxx_meaning.specs.Lookups.Wanted.{Wanted}
use Rattle.cxx_members.specs.Answers.{member_of_three}
use Rattle.cxx_members.specs.Tables.{ways_given}
use Rattle.cxx_members.specs.Ways.{Grows, ThreeMeant, first_way, is_elsewhere, joined, three_of, through_all}
use Rattle.cxx_members.proofs.Joining.{three_joined, three_through}
use Rattle.cxx_inherited.specs.declared.ways.Three.{Three}
use Rattle.cxx_inherited.specs.declared.ways.Way.{Way}
use Rattle.cxx_inherited.specs.Tables.{IsSound, IsTable, entry_of, kept_of, own_by, ways_by}
use Rattle.cxx_inherited.specs.Ways.{AreKnown, IsWayKnown, three_at}
use Rattle.cxx_inherited.proofs.Joining.{three_kept, three_known}

-- ---- before the first base

pub table_first : (paths : List (List ℕ)) (declares : ClassId → Bool) (records : BTreeMap ℕ Three) → records.entries ≡ [] → IsTable paths declares records (own_by declares)
table_first paths declares records e = record { is = λ class. ap (entry_of paths declares class) (none class.0) }
  where
    none : (class : ℕ) → kept_of records class ≡ None
    none class = rw e refl

pub sound_first : (paths : List (List ℕ)) (records : BTreeMap ℕ Three) → paths ≡ [] ∷ [] → records.entries ≡ [] → IsSound paths records
sound_first paths records e none = record {
  known = λ class. subst (λ o. IfSome o (AreKnown (length paths))) (sym (nothing class)) tt;
  empty = ap (λ xs. get_or xs 0 []) e;
  some = omega (arith, ap length e);
}
  where
    nothing : (class : ℕ) → kept_of records class ≡ None
    nothing class = rw none refl

-- ---- one more base

abbrev Keeps : BTreeMap ℕ Three → BTreeMap ℕ Three → ℕ → Three → Type 0
Keeps before after class ways = (q : ℕ) → kept_of after q ≡ cond (is_at (nat_cmp class) q) (Some ways) (kept_of before q)

at_is : (m n : ℕ) → is_at (nat_cmp m) n ≡ nat_eq m n
at_is m n = by (nat_cmp m n) (ranks m n)
  where
    by : (r : Ordering) → MatchOrdering r (m < n) (m ≡ n) (n < m) → is_eq r ≡ nat_eq m n
    by Less h = grind arith
    by Equal h = grind arith
    by Greater h = grind arith

option_known : (least count : ℕ) (o : Option Three) → least ≤ count → IfSome o (AreKnown least) → IfSome o (AreKnown count)
option_known least count None le known = tt
option_known least count (Some three) le known = three_known least count three le known

pub sound_more : (old new : List (List ℕ)) (before after : BTreeMap ℕ Three) (class : ℕ) (ways : Three) → IsSound old before → Grows old new → AreKnown (length new) ways → Keeps before after class ways → IsSound new after
sound_more old new before after class ways sound grows known keeps = record {
  known = λ q. subst (λ o. IfSome o (AreKnown (length new))) (sym (keeps q)) (by q (is_at (nat_cmp class) q));
  empty = grows.same 0 sound.some ∙ sound.empty;
  some = omega (arith, sound.some, grows.more);
}
  where
    by : (q : ℕ) (t : Bool) → IfSome (cond t (Some ways) (kept_of before q)) (AreKnown (length new))
    by q true = known
    by q false = option_known (length old) (length new) (kept_of before q) grows.more (sound.known q)

entry_kept : (old new : List (List ℕ)) (declares : ClassId → Bool) (class : ClassId) (o : Option Three) → Grows old new → IfSome o (AreKnown (length old)) → entry_of new declares class o ≡ entry_of old declares class o
entry_kept old new declares class None grows known = refl
entry_kept old new declares class (Some three) grows known = three_kept old new three grows known

class_is : (one two : ClassId) → nat_eq one.0 two.0 ≡ true → one ≡ two
class_is one two e = ap (λ n. record { 0 = n }) (eqb-true one.0 two.0 e)

-- the table with the ways of one class through one more base
pub table_more : (old new : List (List ℕ)) (declares : ClassId → Bool) (before after : BTreeMap ℕ Three) (derived parent : ClassId) (index : ℕ) (own base more ways : Three) (now : ClassId → List WayMeant)
    → IsSound old before → IsTable old declares before now → declares derived ≡ false → Grows old new
    → three_at old own ≡ entry_of old declares derived (kept_of before derived.0) → AreKnown (length old) own
    → three_at old base ≡ entry_of old declares parent (kept_of before parent.0)
    → three_at new more ≡ through_all index (three_at old base)
    → three_at new ways ≡ joined (three_at new own) (three_at new more)
    → Keeps before after derived.0 ways
    → IsTable new declares after (at_base declares derived parent index now)
table_more old new declares before after derived parent index own base more ways now sound table free grows o ok b m w keeps = record { is = at }
  where
    made : three_at new ways ≡ three_of (now derived ++ map (through index) (now parent))
    made = w ∙ (ap (λ t. joined t (three_at new more)) (three_kept old new own grows ok ∙ (o ∙ table.is derived)) ∙ (ap (joined (three_of (now derived))) (m ∙ (ap (through_all index) (b ∙ table.is parent) ∙ sym (three_through index (now parent)))) ∙ sym (three_joined (now derived) (map (through index) (now parent)))))

    other : (class : ClassId) → entry_of new declares class (kept_of before class.0) ≡ three_of (now class)
    other class = entry_kept old new declares class (kept_of before class.0) grows (sound.known class.0) ∙ table.is class

    by : (class : ClassId) (t : Bool) → nat_eq derived.0 class.0 ≡ t → entry_of new declares class (cond t (Some ways) (kept_of before class.0)) ≡ three_of (cond (t && not (declares class)) (now class ++ map (through index) (now parent)) (now class))
    by class true h =
        let c = class_is derived class h in
        subst (λ k. three_at new ways ≡ three_of (cond (not (declares k)) (now k ++ map (through index) (now parent)) (now k))) c (made ∙ ap (λ u. three_of (cond (not u) (now derived ++ map (through index) (now parent)) (now derived))) (sym free))
    by class false h = other class

    at : (class : ClassId) → entry_of new declares class (kept_of after class.0) ≡ three_of (at_base declares derived parent index now class)
    at class = ap (entry_of new declares class) (keeps class.0 ∙ ap (λ t. cond t (Some ways) (kept_of before class.0)) (at_is derived.0 class.0)) ∙ by class (nat_eq derived.0 class.0) refl

-- a class that declares the name has nothing by its bases
pub table_declared : (paths : List (List ℕ)) (declares : ClassId → Bool) (records : BTreeMap ℕ Three) (derived parent : ClassId) (index : ℕ) (now : ClassId → List WayMeant) → IsTable paths declares records now → declares derived ≡ true → IsTable paths declares records (at_base declares derived parent index now)
table_declared paths declares records derived parent index now table owns = record { is = λ class. table.is class ∙ ap three_of (by class (nat_eq derived.0 class.0) refl) }
  where
    by : (class : ClassId) (t : Bool) → nat_eq derived.0 class.0 ≡ t → now class ≡ cond (t && not (declares class)) (now class ++ map (through index) (now parent)) (now class)
    by class true h = ap (λ u. cond (not u) (now class ++ map (through index) (now parent)) (now class)) (sym owns ∙ ap declares (class_is derived class h))
    by class false h = refl

-- nor through a base that has nothing
pub table_none : (paths : List (List ℕ)) (declares : ClassId → Bool) (records : BTreeMap ℕ Three) (derived parent : ClassId) (index : ℕ) (base : Three) (now : ClassId → List WayMeant) → IsTable paths declares records now → three_at paths base ≡ entry_of paths declares parent (kept_of records parent.0) → base.first ≡ None → IsTable paths declares records (at_base declares derived parent index now)
table_none paths declares records derived parent index base now table b none = record { is = λ class. table.is class ∙ ap three_of (by class (nat_eq derived.0 class.0 && not (declares class))) }
  where
    nothing : (ways : List WayMeant) → first_way ways ≡ None → ways ≡ []
    nothing [] e = refl
    nothing (way ∷ ways) e = absurd cc

    first : (three_at paths base).first ≡ None
    first = rw none refl

    empty : now parent ≡ []
    empty = nothing (now parent) (ap (λ (t : ThreeMeant). t.first) (sym (b ∙ table.is parent)) ∙ first)

    by : (class : ClassId) (t : Bool) → now class ≡ cond t (now class ++ map (through index) (now parent)) (now class)
    by class true = sym (append-nil (now class)) ∙ ap (λ ws. now class ++ map (through index) ws) (sym empty)
    by class false = refl

-- ---- some facts

by_push : (declares : ClassId → Bool) (all : List CxxFact) (now : ClassId → List WayMeant) (numbers : List ℕ) (n : ℕ) → ways_by declares all now (numbers ++ n ∷ []) ≡ ways_given declares (ways_by declares all now numbers) (slice_get all n)
by_push declares all now [] n = refl
by_push declares all now (one ∷ numbers) n = by_push declares all (ways_given declares now (slice_get all one)) numbers n

pub by_more : (declares : ClassId → Bool) (all : List CxxFact) (now : ClassId → List WayMeant) (numbers : List ℕ) (i d : ℕ) → i < length numbers → ways_by declares all now (take (i + 1) numbers) ≡ ways_given declares (ways_by declares all now (take i numbers)) (slice_get all (get_or numbers i d))
by_more declares all now numbers i d lt = ap (ways_by declares all now) (take_more numbers i d lt) ∙ by_push declares all now (take i numbers) (get_or numbers i d)

-- ---- what is found

pub first_known : (count : ℕ) (three : Three) (one : Way) → AreKnown count three → three.first ≡ Some one → IsWayKnown count one
first_known count three one known e = subst (λ o. IfSome o (IsWayKnown count)) e known.first

pub rival_known : (count : ℕ) (three : Three) (t : Bool) (rival : Option Way) → AreKnown count three → rival ≡ cond t three.second three.other → IfSome rival (IsWayKnown count)
rival_known count three true rival known e = subst (λ o. IfSome o (IsWayKnown count)) (sym e) known.second
rival_known count three false rival known e = subst (λ o. IfSome o (IsWayKnown count)) (sym e) known.other

find_breaks : (t : Bool) (one : WayMeant) (others : List WayMeant) → find (breaks t one) others ≡ cond t (first_way others) (find (is_elsewhere one) others)
find_breaks true one [] = refl
find_breaks true one (other ∷ others) = refl
find_breaks false one others = refl

three_of_all : (graph : CxxGraph) (wanted : Wanted) (name : CxxName) (ways : List WayMeant) → member_of_three graph wanted name (three_of ways) ≡ member_of graph wanted name ways
unfolding member_of
three_of_all graph wanted name [] = refl
three_of_all graph wanted name (one ∷ others) = ap (member_by graph wanted name one) (sym (find_breaks (has_nonstatic (declared_in graph wanted name one.holder)) one others))

pub three_is : (graph : CxxGraph) (wanted : Wanted) (name : CxxName) (three kept : ThreeMeant) (ways : List WayMeant) → three ≡ kept → kept ≡ three_of ways → member_of_three graph wanted name three ≡ member_of graph wanted name ways
three_is graph wanted name three kept ways e f = ap (member_of_three graph wanted name) (e ∙ f) ∙ three_of_all graph wanted name ways
