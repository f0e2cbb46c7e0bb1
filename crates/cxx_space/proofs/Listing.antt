-- The list of the members of a class, by the room that is left.
use Rattle.std.specs.Prelude.{ℕ, zero, suc, ◌≡◌, ◌<◌, ◌-◌, List, refl}
use Rattle.std.proofs.Common.{sym, subst, arith}
use Rattle.cxx_model.specs.declared.stop.LimitKind.TheVariants.{Nesting}
use Rattle.cxx_reading.specs.Reads.{Ahead, count_ahead, limited, repeat}
use Rattle.cxx_reading.specs.State.{CxxState}
use Rattle.cxx_reading.specs.Trees.{CxxTree}
use Rattle.cxx_language.specs.Classes.{Head, behind_bases, class_at, give_members, list_at, list_step}

none : (head : Head) (bases : List CxxTree) (state : CxxState) (ahead : Ahead) → list_at zero head bases state ahead ≡ limited Nesting state ahead
unfolding list_at
none head bases state ahead = refl

pub list_zero : (room : ℕ) (head : Head) (bases : List CxxTree) (state : CxxState) (ahead : Ahead) → room ≡ 0 → list_at room head bases state ahead ≡ limited Nesting state ahead
list_zero room head bases state ahead e =
    let P : ℕ → Type 0 = λ n. list_at n head bases state ahead ≡ limited Nesting state ahead in
    subst P (sym e) (none head bases state ahead)

more : (room : ℕ) (head : Head) (bases : List CxxTree) (state : CxxState) (ahead : Ahead) → list_at (suc room) head bases state ahead ≡ repeat (list_step room head.name) give_members (count_ahead ahead) (behind_bases bases head.access) state ahead
unfolding list_at class_at
more room head bases state ahead = refl

pub list_more : (room : ℕ) (head : Head) (bases : List CxxTree) (state : CxxState) (ahead : Ahead) → 0 < room → list_at room head bases state ahead ≡ repeat (list_step (room - 1) head.name) give_members (count_ahead ahead) (behind_bases bases head.access) state ahead
list_more room head bases state ahead within =
    let count : room ≡ suc (room - 1) = omega arith in
    let P : ℕ → Type 0 = λ n. list_at n head bases state ahead ≡ repeat (list_step (room - 1) head.name) give_members (count_ahead ahead) (behind_bases bases head.access) state ahead in
    subst P (sym count) (more (room - 1) head bases state ahead)
