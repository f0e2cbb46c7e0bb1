-- The ways of all classes, one fact after another.
use Rattle.std.proofs.Common.{◌≡◌, ℕ, ◌≤◌, Bool, true, false, cond, not, ◌&&◌, List, [], ◌∷◌, ◌++◌, length, map, Option, Some, None, refl, ap, ◌∙◌, sym, subst, arith}
use Rattle.std.proofs.lemmas.Bool.{eqb-true}
use Rattle.cxx_model.specs.declared.types.ClassId.{ClassId}
use Rattle.cxx_meaning.specs.Lookups.Member.{Way as WayMeant, at_base, same_class, through}
use Rattle.cxx_members.specs.declared.ways.Record.{Record}
use Rattle.cxx_members.specs.declared.ways.Three.{Three}
use Rattle.cxx_members.specs.Tables.{AllKnown, IsSound, IsTable, entry_of, holds, own_by}
use Rattle.cxx_members.specs.Ways.{AreKnown, Grows, joined, latest, three_at, three_of, through_all}
use Rattle.cxx_members.proofs.Joining.{three_joined, three_kept, three_known, three_through}

-- a latest record is a known one
pub latest_known : (count : ℕ) (class : ClassId) (records : List Record) (three : Three) → AllKnown count records → latest class None records ≡ Some three → AreKnown count three
latest_known count class records three known e = by records None known (λ t f. absurd cc) e
  where
    at_one : (b : Bool) (ways : Three) (found : Option Three) (t : Three) → AreKnown count ways → ((u : Three) → found ≡ Some u → AreKnown count u) → cond b (Some ways) found ≡ Some t → AreKnown count t
    at_one true ways found t k before f = subst (AreKnown count) (some_is ways t f) k
      where
        some_is : (x y : Three) → Some x ≡ Some y → x ≡ y
        some_is x y h = cc
    at_one false ways found t k before f = before t f

    by : (rs : List Record) (found : Option Three) → AllKnown count rs → ((t : Three) → found ≡ Some t → AreKnown count t) → latest class found rs ≡ Some three → AreKnown count three
    by [] found all before f = before three f
    by (one ∷ others) found all before f = by others (cond (same_class one.class class) (Some one.ways) found) all.1 (λ t h. at_one (same_class one.class class) one.ways found t all.0 before h) f

all_known : (least count : ℕ) (records : List Record) → least ≤ count → AllKnown least records → AllKnown count records
all_known least count [] le known = tt
all_known least count (one ∷ others) le known = (three_known least count one.ways le known.0, all_known least count others le known.1)

known_push : (count : ℕ) (records : List Record) (one : Record) → AllKnown count records → AreKnown count one.ways → AllKnown count (records ++ one ∷ [])
known_push count [] one all known = (known, tt)
known_push count (other ∷ records) one all known = (all.0, known_push count records one all.1 known)

-- one more record, after paths that grew
pub sound_more : (old new : List (List ℕ)) (before after : List Record) (one : Record) → IsSound old before → Grows old new → AreKnown (length new) one.ways → after ≡ before ++ one ∷ [] → IsSound new after
sound_more old new before after one sound grows known e = record {
  known = subst (AllKnown (length new)) (sym e) (known_push (length new) before one (all_known (length old) (length new) before grows.more sound.known) known);
  empty = grows.same 0 sound.some ∙ sound.empty;
  some = omega (arith, sound.some, grows.more);
}

latest_push : (class : ClassId) (found : Option Three) (records : List Record) (one : Record) → latest class found (records ++ one ∷ []) ≡ cond (same_class one.class class) (Some one.ways) (latest class found records)
latest_push class found [] one = refl
latest_push class found (other ∷ records) one = latest_push class (cond (same_class other.class class) (Some other.ways) found) records one

entry_kept : (old new : List (List ℕ)) (holders : List ClassId) (class : ClassId) (o : Option Three) → Grows old new → ((t : Three) → o ≡ Some t → AreKnown (length old) t) → entry_of new holders class o ≡ entry_of old holders class o
entry_kept old new holders class None grows known = refl
entry_kept old new holders class (Some three) grows known = three_kept old new three grows (known three refl)

class_is : (one two : ClassId) → same_class one two ≡ true → one ≡ two
class_is one two e = ap (λ n. record { 0 = n }) (eqb-true one.0 two.0 e)

-- the table with one more record
pub table_more : (old new : List (List ℕ)) (holders : List ClassId) (before after : List Record) (derived parent : ClassId) (index : ℕ) (own base more ways : Three) (now : ClassId → List WayMeant)
    → IsSound old before → IsTable old holders before now → holds holders derived ≡ false → Grows old new
    → three_at old own ≡ entry_of old holders derived (latest derived None before) → AreKnown (length old) own
    → three_at old base ≡ entry_of old holders parent (latest parent None before)
    → three_at new more ≡ through_all index (three_at old base)
    → three_at new ways ≡ joined (three_at new own) (three_at new more)
    → after ≡ before ++ record { class = derived; ways = ways } ∷ []
    → IsTable new holders after (at_base (holds holders) derived parent index now)
table_more old new holders before after derived parent index own base more ways now sound table free grows o ok b m w e = record { is = at }
  where
    made : three_at new ways ≡ three_of (now derived ++ map (through index) (now parent))
    made = w ∙ (ap (λ t. joined t (three_at new more)) (three_kept old new own grows ok ∙ (o ∙ table.is derived)) ∙ (ap (joined (three_of (now derived))) (m ∙ (ap (through_all index) (b ∙ table.is parent) ∙ sym (three_through index (now parent)))) ∙ sym (three_joined (now derived) (map (through index) (now parent)))))

    other : (class : ClassId) → entry_of new holders class (latest class None before) ≡ three_of (now class)
    other class = entry_kept old new holders class (latest class None before) grows (λ t f. latest_known (length old) class before t sound.known f) ∙ table.is class

    by : (class : ClassId) (t : Bool) → same_class derived class ≡ t → entry_of new holders class (cond t (Some ways) (latest class None before)) ≡ three_of (cond (t && not (holds holders class)) (now class ++ map (through index) (now parent)) (now class))
    by class true h =
        let c = class_is derived class h in
        subst (λ k. three_at new ways ≡ three_of (cond (not (holds holders k)) (now k ++ map (through index) (now parent)) (now k))) c (made ∙ ap (λ u. three_of (cond (not u) (now derived ++ map (through index) (now parent)) (now derived))) (sym free))
    by class false h = other class

    at : (class : ClassId) → entry_of new holders class (latest class None after) ≡ three_of (at_base (holds holders) derived parent index now class)
    at class = ap (λ rs. entry_of new holders class (latest class None rs)) e ∙ (ap (entry_of new holders class) (latest_push class None before (record { class = derived; ways = ways })) ∙ by class (same_class derived class) refl)

pub table_as : (paths : List (List ℕ)) (holders : List ClassId) (records : List Record) (now after : ClassId → List WayMeant) → IsTable paths holders records now → ((class : ClassId) → now class ≡ after class) → IsTable paths holders records after
table_as paths holders records now after table same = record { is = λ class. table.is class ∙ ap three_of (same class) }

-- before the first fact
pub table_first : (holders : List ClassId) → IsTable ([] ∷ []) holders [] (own_by holders)
table_first holders = record { is = λ class. refl }

pub sound_first : IsSound ([] ∷ []) []
sound_first = record { known = tt; empty = refl; some = omega arith }
