use Rattle.std.proofs.Common.{◌≡◌, [], sym, ◌∙◌, arith}
use Rattle.std.proofs.lemmas.List.{nil_from_length}
use Rattle.cxx_strings.proofs.Spaced.{writes_end}
use Rattle.cxx_strings.proofs.join.spaced.Goals as goal

pub returns : goal.returns
returns c =
    let rest = c.loop-rest.rest.now in
    let none : rest ≡ [] = nil_from_length rest (grind arith) in
    sym c.loop-rest.invariant ∙ writes_end c.loop-rest.spaced.items c.loop-rest.fresh rest none
