-- The statements of a body by the room that is left, and what is kept of numbers and types.
use Rattle.std.specs.Prelude.{ℕ, zero, suc, ◌≡◌, ◌<◌, ◌-◌, length, refl}
use Rattle.std.proofs.Common.{sym, subst, arith}
use Rattle.cxx_model.specs.declared.stop.LimitKind.TheVariants.{Nesting}
use Rattle.cxx_model.specs.Types.Trees.{CxxType}
use Rattle.cxx_reading.specs.Reads.{Ahead, limited}
use Rattle.cxx_reading.specs.State.{CxxState}
use Rattle.cxx_body.specs.Opened.{statements_opened}
use Rattle.cxx_language.specs.Bodies.{statements_within}
use Rattle.cxx_tree.specs.Held.{Held, meaning}
use Rattle.cxx_tree.proofs.Graphs.{length_facts}

none : (list number : ℕ) (result : CxxType) (state : CxxState) (ahead : Ahead) → statements_within zero list number result state ahead ≡ limited Nesting state ahead
unfolding statements_within
none list number result state ahead = refl

pub within_zero : (room list number : ℕ) (result : CxxType) (state : CxxState) (ahead : Ahead) → room ≡ 0 → statements_within room list number result state ahead ≡ limited Nesting state ahead
within_zero room list number result state ahead e =
    let P : ℕ → Type 0 = λ n. statements_within n list number result state ahead ≡ limited Nesting state ahead in
    subst P (sym e) (none list number result state ahead)

more : (room list number : ℕ) (result : CxxType) (state : CxxState) (ahead : Ahead) → statements_within (suc room) list number result state ahead ≡ statements_opened room list number result state ahead
unfolding statements_within
more room list number result state ahead = refl

pub within_more : (room list number : ℕ) (result : CxxType) (state : CxxState) (ahead : Ahead) → 0 < room → statements_within room list number result state ahead ≡ statements_opened (room - 1) list number result state ahead
within_more room list number result state ahead within =
    let count : room ≡ suc (room - 1) = omega arith in
    let P : ℕ → Type 0 = λ n. statements_within n list number result state ahead ≡ statements_opened (room - 1) list number result state ahead in
    subst P (sym count) (more (room - 1) list number result state ahead)

pub next_is : (held : Held) → length held.graph.facts ≡ length (meaning held).graph.facts
unfolding meaning
next_is held = sym (length_facts held.types held.graph.facts)
