-- Ways by the numbers of their paths, while paths are added.
use Rattle.std.proofs.Common.{◌≡◌, ℕ, ◌<◌, ◌≤◌, List, [], ◌∷◌, ◌++◌, length, get_or, Option, Some, None, option_map, refl, ap, ◌∙◌, arith}
use Rattle.std.specs.Prelude.{IfSome}
use Rattle.std.proofs.Math.Seq.{get_or-append_seam}
use Rattle.cxx_meaning.specs.Lookups.Member.{through}
use Rattle.cxx_members.specs.Ways.{Grows, path_at, through_all}
use Rattle.cxx_members.proofs.Joining.{grows_both, grows_none, grows_one}
use Rattle.cxx_inherited.specs.declared.ways.Three.{Three}
use Rattle.cxx_inherited.specs.declared.ways.Way.{Way}
use Rattle.cxx_inherited.specs.Ways.{AreKnown, IsWayKnown, three_at, way_at}

pub through_is : (old new : List (List ℕ)) (index : ℕ) (way longer : Way) → new ≡ old ++ (index ∷ path_at old way.path) ∷ [] → longer.path ≡ length old → longer.holder ≡ way.holder → way_at new longer ≡ through index (way_at old way)
through_is old new index way longer e number holder =
    let p : path_at new longer.path ≡ index ∷ path_at old way.path = ap (λ n. path_at new n) number ∙ (ap (λ xs. get_or xs (length old) []) e ∙ get_or-append_seam old (index ∷ path_at old way.path) [] []) in
    ap (λ xs. record { path = xs; holder = longer.holder }) p ∙ ap (λ h. record { path = index ∷ path_at old way.path; holder = h }) holder

-- a way that was known is as it was
pub way_kept : (old new : List (List ℕ)) (way : Way) → Grows old new → IsWayKnown (length old) way → way_at new way ≡ way_at old way
way_kept old new way grows known = ap (λ xs. record { path = xs; holder = way.holder }) (grows.same way.path known)

pub option_kept : (old new : List (List ℕ)) (way : Option Way) → Grows old new → IfSome way (IsWayKnown (length old)) → option_map (way_at new) way ≡ option_map (way_at old) way
option_kept old new None grows known = refl
option_kept old new (Some way) grows known = ap Some (way_kept old new way grows known)

pub three_kept : (old new : List (List ℕ)) (three : Three) → Grows old new → AreKnown (length old) three → three_at new three ≡ three_at old three
three_kept old new three grows known =
    let f = option_kept old new three.first grows known.first in
    let s = option_kept old new three.second grows known.second in
    let o = option_kept old new three.other grows known.other in
    ap (λ x. record { first = x; second = option_map (way_at new) three.second; other = option_map (way_at new) three.other }) f ∙ (ap (λ x. record { first = option_map (way_at old) three.first; second = x; other = option_map (way_at new) three.other }) s ∙ ap (λ x. record { first = option_map (way_at old) three.first; second = option_map (way_at old) three.second; other = x }) o)

-- three ways, each made longer in turn
pub through_made : (zero_ one two three : List (List ℕ)) (index : ℕ) (ways longer : Three) → AreKnown (length zero_) ways → Grows zero_ one → Grows one two → Grows two three
    → option_map (way_at one) longer.first ≡ option_map (through index) (option_map (way_at zero_) ways.first) → IfSome longer.first (IsWayKnown (length one))
    → option_map (way_at two) longer.second ≡ option_map (through index) (option_map (way_at one) ways.second) → IfSome longer.second (IsWayKnown (length two))
    → option_map (way_at three) longer.other ≡ option_map (through index) (option_map (way_at two) ways.other)
    → three_at three longer ≡ through_all index (three_at zero_ ways)
through_made zero_ one two three index ways longer known g h k f fk s sk o =
    let e = option_kept one three longer.first (grows_both one two three h k) fk ∙ f in
    let d = option_kept two three longer.second k sk ∙ (s ∙ ap (option_map (through index)) (option_kept zero_ one ways.second g known.second)) in
    let c = o ∙ ap (option_map (through index)) (option_kept zero_ two ways.other (grows_both zero_ one two g h) known.other) in
    ap (λ x. record { first = x; second = option_map (way_at three) longer.second; other = option_map (way_at three) longer.other }) e ∙ (ap (λ x. record { first = option_map (through index) (option_map (way_at zero_) ways.first); second = x; other = option_map (way_at three) longer.other }) d ∙ ap (λ x. record { first = option_map (through index) (option_map (way_at zero_) ways.first); second = option_map (through index) (option_map (way_at zero_) ways.second); other = x }) c)

pub option_known : (least count : ℕ) (way : Option Way) → least ≤ count → IfSome way (IsWayKnown least) → IfSome way (IsWayKnown count)
option_known least count None le known = tt
option_known least count (Some way) le known = omega (arith, known)

pub three_known : (least count : ℕ) (three : Three) → least ≤ count → AreKnown least three → AreKnown count three
three_known least count three le known = record { first = option_known least count three.first le known.first; second = option_known least count three.second le known.second; other = option_known least count three.other le known.other }
