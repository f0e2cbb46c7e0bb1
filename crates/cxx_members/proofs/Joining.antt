-- The first, the second and the first other of some ways.
use Rattle.std.proofs.Common.{◌≡◌, ℕ, ◌<◌, ◌≤◌, Bool, true, false, cond, not, List, [], ◌∷◌, ◌++◌, length, map, get_or, Option, Some, None, option_map, refl, ap, ◌∙◌, arith}
use Rattle.std.specs.List.{find}
use Rattle.std.specs.Prelude.{IfSome}
use Rattle.std.proofs.lemmas.Bool.{eqb-true}
use Rattle.std.proofs.Math.Seq.{get_or-append_seam}
use Rattle.std.proofs.lemmas.List.{length-append, get_or_append_left}
use Rattle.cxx_meaning.specs.Lookups.Member.{Way as WayMeant, same_class, through}
use Rattle.cxx_members.specs.declared.ways.Three.{Three}
use Rattle.cxx_members.specs.declared.ways.Way.{Way}
use Rattle.cxx_members.specs.Ways.{Grows, IsWayKnown, AreKnown, first_way, is_elsewhere, joined, or_else, other_after, path_at, three_at, three_of, through_all, way_at}

pub grows_none : (paths : List (List ℕ)) → Grows paths paths
grows_none paths = record { more = omega arith; same = λ n lt. refl }

pub grows_one : (old new : List (List ℕ)) (path : List ℕ) → new ≡ old ++ path ∷ [] → Grows old new
grows_one old new path e = record {
  more = omega (arith, ap length e, length-append old (path ∷ []));
  same = λ n lt. ap (λ xs. get_or xs n []) e ∙ get_or_append_left old (path ∷ []) [] n lt;
}

pub grows_both : (old middle new : List (List ℕ)) → Grows old middle → Grows middle new → Grows old new
grows_both old middle new one two = record {
  more = omega (arith, one.more, two.more);
  same = λ n lt. let l : n < length middle = omega (arith, one.more) in two.same n l ∙ one.same n lt;
}

pub through_is : (old new : List (List ℕ)) (index : ℕ) (way longer : Way) (path : List ℕ) → new ≡ old ++ path ∷ [] → path ≡ index ∷ path_at old way.path → longer.path ≡ length old → longer.holder ≡ way.holder → way_at new longer ≡ through index (way_at old way)
through_is old new index way longer path e is number holder =
    let p : path_at new longer.path ≡ index ∷ path_at old way.path = ap (λ n. path_at new n) number ∙ (ap (λ xs. get_or xs (length old) []) e ∙ (get_or-append_seam old path [] [] ∙ is)) in
    ap (λ xs. record { path = xs; holder = longer.holder }) p ∙ ap (λ h. record { path = index ∷ path_at old way.path; holder = h }) holder

-- a way that was known is as it was
pub way_kept : (old new : List (List ℕ)) (way : Way) → Grows old new → IsWayKnown (length old) way → way_at new way ≡ way_at old way
way_kept old new way grows known = ap (λ xs. record { path = xs; holder = way.holder }) (grows.same way.path known)

pub option_kept : (old new : List (List ℕ)) (way : Option Way) → Grows old new → IfSome way (IsWayKnown (length old)) → option_map (way_at new) way ≡ option_map (way_at old) way
option_kept old new None grows known = refl
option_kept old new (Some way) grows known = ap Some (way_kept old new way grows known)

pub three_kept : (old new : List (List ℕ)) (three : Three) → Grows old new → AreKnown (length old) three → three_at new three ≡ three_at old three
three_kept old new three grows known =
    let f = option_kept old new three.first grows known.first in
    let s = option_kept old new three.second grows known.second in
    let o = option_kept old new three.other grows known.other in
    ap (λ x. record { first = x; second = option_map (way_at new) three.second; other = option_map (way_at new) three.other }) f ∙ (ap (λ x. record { first = option_map (way_at old) three.first; second = x; other = option_map (way_at new) three.other }) s ∙ ap (λ x. record { first = option_map (way_at old) three.first; second = option_map (way_at old) three.second; other = x }) o)

-- ---- lists of ways

find_append : (test : WayMeant → Bool) (xs ys : List WayMeant) → find test (xs ++ ys) ≡ or_else (find test xs) (find test ys)
find_append test [] ys = refl
find_append test (x ∷ xs) ys = by (test x) (find_append test xs ys)
  where
    by : (t : Bool) → find test (xs ++ ys) ≡ or_else (find test xs) (find test ys) → cond t (Some x) (find test (xs ++ ys)) ≡ or_else (cond t (Some x) (find test xs)) (find test ys)
    by true rest = refl
    by false rest = rest

-- of two ways to one class, the ways to another class are the same
find_elsewhere : (one two : WayMeant) (others : List WayMeant) → is_elsewhere one two ≡ false → find (is_elsewhere one) others ≡ find (is_elsewhere two) others
find_elsewhere one two others e = ap (λ class. find (λ way. not (same_class class way.holder)) others) (class_is (same_class one.holder two.holder) refl e)
  where
    class_is : (t : Bool) → same_class one.holder two.holder ≡ t → not t ≡ false → one.holder ≡ two.holder
    class_is true h f = ap (λ n. record { 0 = n }) (eqb-true one.holder.0 two.holder.0 h)
    class_is false h f = absurd cc

found_after : (one : WayMeant) (twos : List WayMeant) → find (is_elsewhere one) twos ≡ other_after one (three_of twos)
found_after one [] = refl
found_after one (two ∷ others) = by (is_elsewhere one two) refl
  where
    by : (t : Bool) → is_elsewhere one two ≡ t → cond t (Some two) (find (is_elsewhere one) others) ≡ cond t (Some two) (find (is_elsewhere two) others)
    by true e = refl
    by false e = find_elsewhere one two others e

pub three_joined : (ones twos : List WayMeant) → three_of (ones ++ twos) ≡ joined (three_of ones) (three_of twos)
three_joined [] twos = refl
three_joined (one ∷ ones) twos =
    let s = by ones twos in
    let o = find_append (is_elsewhere one) ones twos ∙ ap (or_else (find (is_elsewhere one) ones)) (found_after one twos) in
    ap (λ x. record { first = Some one; second = x; other = find (is_elsewhere one) (ones ++ twos) }) s ∙ ap (λ x. record { first = Some one; second = or_else (first_way ones) (first_way twos); other = x }) o
  where
    by : (xs ys : List WayMeant) → first_way (xs ++ ys) ≡ or_else (first_way xs) (first_way ys)
    by [] ys = refl
    by (x ∷ xs) ys = refl

find_through : (index : ℕ) (one : WayMeant) (others : List WayMeant) → find (is_elsewhere one) (map (through index) others) ≡ option_map (through index) (find (is_elsewhere one) others)
find_through index one [] = refl
find_through index one (two ∷ others) = by (is_elsewhere one two) (find_through index one others)
  where
    by : (t : Bool) → find (is_elsewhere one) (map (through index) others) ≡ option_map (through index) (find (is_elsewhere one) others) → cond t (Some (through index two)) (find (is_elsewhere one) (map (through index) others)) ≡ option_map (through index) (cond t (Some two) (find (is_elsewhere one) others))
    by true rest = refl
    by false rest = rest

pub three_through : (index : ℕ) (ways : List WayMeant) → three_of (map (through index) ways) ≡ through_all index (three_of ways)
three_through index [] = refl
three_through index (one ∷ others) =
    let o = find_through index one others in
    let s = first_through others in
    ap (λ x. record { first = Some (through index one); second = x; other = find (is_elsewhere one) (map (through index) others) }) s ∙ ap (λ x. record { first = Some (through index one); second = option_map (through index) (first_way others); other = x }) o
  where
    first_through : (ways : List WayMeant) → first_way (map (through index) ways) ≡ option_map (through index) (first_way ways)
    first_through [] = refl
    first_through (way ∷ ways) = refl

-- three ways, each made longer in turn
pub through_made : (zero_ one two three : List (List ℕ)) (index : ℕ) (ways longer : Three) → AreKnown (length zero_) ways → Grows zero_ one → Grows one two → Grows two three
    → option_map (way_at one) longer.first ≡ option_map (through index) (option_map (way_at zero_) ways.first) → IfSome longer.first (IsWayKnown (length one))
    → option_map (way_at two) longer.second ≡ option_map (through index) (option_map (way_at one) ways.second) → IfSome longer.second (IsWayKnown (length two))
    → option_map (way_at three) longer.other ≡ option_map (through index) (option_map (way_at two) ways.other)
    → three_at three longer ≡ through_all index (three_at zero_ ways)
through_made zero_ one two three index ways longer known g h k f fk s sk o =
    let e = option_kept one three longer.first (grows_both one two three h k) fk ∙ f in
    let d = option_kept two three longer.second k sk ∙ (s ∙ ap (option_map (through index)) (option_kept zero_ one ways.second g known.second)) in
    let c = o ∙ ap (option_map (through index)) (option_kept zero_ two ways.other (grows_both zero_ one two g h) known.other) in
    ap (λ x. record { first = x; second = option_map (way_at three) longer.second; other = option_map (way_at three) longer.other }) e ∙ (ap (λ x. record { first = option_map (through index) (option_map (way_at zero_) ways.first); second = x; other = option_map (way_at three) longer.other }) d ∙ ap (λ x. record { first = option_map (through index) (option_map (way_at zero_) ways.first); second = option_map (through index) (option_map (way_at zero_) ways.second); other = x }) c)

pub option_known : (least count : ℕ) (way : Option Way) → least ≤ count → IfSome way (IsWayKnown least) → IfSome way (IsWayKnown count)
option_known least count None le known = tt
option_known least count (Some way) le known = omega (arith, known)

pub three_known : (least count : ℕ) (three : Three) → least ≤ count → AreKnown least three → AreKnown count three
three_known least count three le known = record { first = option_known least count three.first le known.first; second = option_known least count three.second le known.second; other = option_known least count three.other le known.other }
