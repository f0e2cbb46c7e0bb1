-- The declarations behind a brace of a linkage, by the room that is left.
use Rattle.std.specs.Prelude.{ℕ, zero, suc, ◌≡◌, ◌<◌, ◌-◌, [], refl}
use Rattle.std.proofs.Common.{sym, subst, arith}
use Rattle.cxx_model.specs.declared.stop.LimitKind.TheVariants.{Nesting}
use Rattle.cxx_reading.specs.Reads.{Ahead, count_ahead, give, limited, repeat}
use Rattle.cxx_reading.specs.State.{CxxState}
use Rattle.cxx_reading.specs.Units.{inside_step}
use Rattle.cxx_language.specs.Units.{declaration_at, linkage_opened}

none : (state : CxxState) (ahead : Ahead) → linkage_opened zero state ahead ≡ limited Nesting state ahead
unfolding linkage_opened
none state ahead = refl

pub opened_zero : (room : ℕ) (state : CxxState) (ahead : Ahead) → room ≡ 0 → linkage_opened room state ahead ≡ limited Nesting state ahead
opened_zero room state ahead e =
    let P : ℕ → Type 0 = λ n. linkage_opened n state ahead ≡ limited Nesting state ahead in
    subst P (sym e) (none state ahead)

more : (room : ℕ) (state : CxxState) (ahead : Ahead) → linkage_opened (suc room) state ahead ≡ repeat (inside_step (declaration_at room)) give (count_ahead ahead) [] state ahead
unfolding linkage_opened declaration_at
more room state ahead = refl

pub opened_more : (room : ℕ) (state : CxxState) (ahead : Ahead) → 0 < room → linkage_opened room state ahead ≡ repeat (inside_step (declaration_at (room - 1))) give (count_ahead ahead) [] state ahead
opened_more room state ahead within =
    let count : room ≡ suc (room - 1) = omega arith in
    let P : ℕ → Type 0 = λ n. linkage_opened n state ahead ≡ repeat (inside_step (declaration_at (room - 1))) give (count_ahead ahead) [] state ahead in
    subst P (sym count) (more (room - 1) state ahead)
