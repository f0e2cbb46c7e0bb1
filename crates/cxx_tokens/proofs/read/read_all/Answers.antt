use Rattle.std.proofs.Common.{◌≡◌, [], arith, refl}
use Rattle.std.proofs.lemmas.List.{nil_from_length}
use Rattle.std.proofs.lemmas.Result.{err_from_is_err_and}
use Rattle.cxx_tokens.proofs.Steps.{begins_list, ends_list, refuses_end}
use Rattle.cxx_tokens.specs.Pieces.{width_seen}
use Rattle.cxx_tokens.proofs.read.read_all.Goals as goal

pub loop-tokens-init : goal.loop-tokens-init
loop-tokens-init c = (
  rw (c.new-tokens.ensures.items, c.new-reader.ensures.at, c.new-reader.ensures.place, c.new-reader.ensures.rest, c.new-reader.ensures.fresh, c.new-reader.ensures.before) (begins_list c.args.bytes.now),
  rw c.new-tokens.ensures.items (omega arith),
  rw (c.new-tokens.ensures.items, c.new-reader.ensures.before) (record { apart = refl; ends = refl }),
)

pub returns-in_err-put : goal.returns-in_err-put
returns-in_err-put c =
    let reader = c.loop-tokens.reader in
    let tokens = c.loop-tokens.tokens.items in
    let none : reader.rest.now ≡ [] = nil_from_length reader.rest.now (grind arith) in
    let p = err_from_is_err_and c.from_residual-in_err-put.result c.from_residual-in_err-put.ensures.1 in
    rw (p.1, p.2, ← c.loop-tokens.invariant.0, none) (refuses_end tokens (width_seen reader.before) reader.fresh reader.at reader.place _ c.in_err-put.ensures.refused)

pub returns : goal.returns
returns c =
    let reader = c.loop-tokens.reader in
    let tokens = c.loop-tokens.tokens.items in
    let none : reader.rest.now ≡ [] = nil_from_length reader.rest.now (grind arith) in
    let added = c.in_ok-put.ensures.added in
    rw (← c.loop-tokens.invariant.0, none, added.0, c.token-end.ensures) (ends_list tokens (width_seen reader.before) reader.fresh reader.at reader.place c.loop-tokens.invariant.2 added.1)
