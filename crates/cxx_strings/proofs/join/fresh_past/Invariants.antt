use Rattle.std.proofs.Common.{◌≡◌, take}
use Rattle.cxx_model.specs.Text.Tokens.{fresh_past}
use Rattle.cxx_strings.proofs.join.fresh_past.Given as goal

abbrev pub invariant-loop-b : goal.invariant-loop-b
invariant-loop-b l = l.fresh ≡ fresh_past (take l.b-index l.text) l.initial.fresh
