-- The parts of a name before its last one (7.3.3 p4).
use Rattle.std.specs.Prelude.{ℕ, ◌≡◌, ◌<◌, ◌≤◌, ◌-◌, Bool, true, false, List, [], ◌∷◌, length, take, Result, refl}
use Rattle.std.proofs.Common.{ap, arith, eqb, subst, sym, ◌∙◌}
use Rattle.std.proofs.lemmas.Bool.{eqb-true}
use Rattle.cxx_model.specs.declared.stop.Stop.{Stop}
use Rattle.cxx_model.specs.declared.tree.PathPart.{PathPart}
use Rattle.cxx_model.specs.Facts.Declarations.{CxxGraph}
use Rattle.cxx_model.specs.Stops.{Gives}
use Rattle.cxx_reading.specs.declared.region.Region.{Region}
use Rattle.cxx_reading.specs.Trees.{CxxPathPart}
use Rattle.cxx_tree.specs.Arena.{path_part_at, path_parts_at}
use Rattle.cxx_paths.specs.Asked.{same}
use Rattle.cxx_paths.specs.Using.{class_behind, members_behind, qualifiers}

before_last : (part : PathPart) (others : List PathPart) → path_parts_at (take (length others) (part ∷ others)) ≡ qualifiers (path_parts_at (part ∷ others))
before_last part [] = refl
before_last part (next ∷ others) = ap (λ ps. path_part_at part ∷ ps) (before_last next others)

pub qualifiers_are : (parts : List PathPart) → 1 ≤ length parts → path_parts_at (take (length parts - 1) parts) ≡ qualifiers (path_parts_at parts)
qualifiers_are [] some = absurd (omega (arith, some))
qualifiers_are (part ∷ others) some =
    let count : length (part ∷ others) - 1 ≡ length others = omega arith in
    ap (λ n. path_parts_at (take n (part ∷ others))) count ∙ before_last part others

pub qualifiers_none : (parts : List PathPart) → length parts < 1 → [] ≡ qualifiers (path_parts_at parts)
qualifiers_none [] none = refl
qualifiers_none (part ∷ parts) none = absurd (omega (arith, none))

-- ---- whether there are some

none_is : (graph : CxxGraph) (first : Region) (name : CxxPathPart) (before : List PathPart) → length before ≡ 0 → members_behind graph first name [] ≡ members_behind graph first name (path_parts_at before)
none_is graph first name [] none = refl
none_is graph first name (part ∷ others) none = absurd (omega (arith, none))

pub none_behind : (graph : CxxGraph) (first : Region) (name : CxxPathPart) (before : List PathPart) (parts : List CxxPathPart) (b : Bool) (r : Result Region Stop) → path_parts_at before ≡ parts → b ≡ eqb (length before) 0 → b ≡ true → Gives same r (members_behind graph first name []) → Gives same r (members_behind graph first name parts)
none_behind graph first name before parts b r are is none gives =
    subst (λ a. Gives same r a) (none_is graph first name before (eqb-true (length before) 0 (sym is ∙ none)) ∙ ap (λ ps. members_behind graph first name ps) are) gives

some_is : (graph : CxxGraph) (first : Region) (name : CxxPathPart) (before : List PathPart) → eqb (length before) 0 ≡ false → class_behind graph first (path_parts_at before) ≡ members_behind graph first name (path_parts_at before)
some_is graph first name [] some = absurd (cc)
some_is graph first name (part ∷ others) some = refl

pub some_behind : (graph : CxxGraph) (first : Region) (name : CxxPathPart) (before : List PathPart) (parts : List CxxPathPart) (b : Bool) (r : Result Region Stop) → path_parts_at before ≡ parts → b ≡ eqb (length before) 0 → b ≡ false → Gives same r (class_behind graph first (path_parts_at before)) → Gives same r (members_behind graph first name parts)
some_behind graph first name before parts b r are is some gives =
    subst (λ a. Gives same r a) (some_is graph first name before (sym is ∙ some) ∙ ap (λ ps. members_behind graph first name ps) are) gives
