use Rattle.std.proofs.Common.{◌≡◌, sym, None}
use Rattle.std.proofs.lemmas.Result.{err_from_is_err_and}
use Rattle.cxx_model.specs.Text.Tokens.{IsLongest, reason_at, is_mixed, width_of}
use Rattle.cxx_model.specs.Text.Spelling.{Blank, Good, Ill}
use Rattle.cxx_model.proofs.Readings.{ill_has_reason}
use Rattle.cxx_tokens.specs.Pieces.{spelled, width_seen}
use Rattle.cxx_tokens.proofs.Steps.{passes_blank, passes_token, added_fits, added_sound, refuses_token, finds_bad}
use Rattle.cxx_tokens.proofs.read.next.Goals as goal

pub returns-in-Some-clause-stops : goal.returns-in-Some-clause-stops
returns-in-Some-clause-stops c =
    let reader = c.args.reader.now in
    finds_bad c.args.tokens.now.items reader.rest.now c.front-piece.result.len (spelled c.front-piece.result.spells) c.in-Some.reason (width_seen reader.before) reader.fresh reader.at reader.place c.front-piece.ensures (sym c.in-Some.ensures)

pub returns-in-Blank-clause-goes : goal.returns-in-Blank-clause-goes
returns-in-Blank-clause-goes c =
    let reader = c.args.reader.now in
    let front : IsLongest reader.fresh reader.rest.now (record { len = c.front-piece.result.len; spells = Blank }) = rw c.in-Blank.is at c.front-piece.ensures in
    rw (c.pass-in-Blank.ensures.rest, c.pass-in-Blank.ensures.at, c.pass-in-Blank.ensures.place, c.pass-in-Blank.ensures.fresh, c.pass-in-Blank.ensures.before)
    (passes_blank c.args.tokens.now.items reader.rest.now c.front-piece.result.len (width_seen reader.before) reader.fresh reader.at reader.place front)

pub returns-in-Ill-clause-stops : goal.returns-in-Ill-clause-stops
returns-in-Ill-clause-stops c =
    let reader = c.args.reader.now in
    let sound : reason_at (width_seen reader.before) reader.rest.now (Ill c.in-Ill.reason) ≡ None = rw c.in-Ill.is at (sym c.in_default.ensures) in
    absurd (ill_has_reason (is_mixed (width_seen reader.before) (width_of reader.rest.now)) c.in-Ill.reason sound)

pub returns-in_ok-add-in-Good-clause-goes : goal.returns-in_ok-add-in-Good-clause-goes
returns-in_ok-add-in-Good-clause-goes c =
    let reader = c.args.reader.now in
    let front : IsLongest reader.fresh reader.rest.now (record { len = c.front-piece.result.len; spells = Good c.in-Good.kind }) = rw c.in-Good.is at c.front-piece.ensures in
    let sound : reason_at (width_seen reader.before) reader.rest.now (Good c.in-Good.kind) ≡ None = rw c.in-Good.is at (sym c.in_default.ensures) in
    rw (c.pass.ensures.rest, c.pass.ensures.at, c.pass.ensures.place, c.pass.ensures.fresh, c.pass.ensures.before, c.width_behind-behind.ensures)
    (passes_token c.args.tokens.now.items c.add.new.tokens.items reader.rest.now c.front-piece.result.len c.in-Good.kind (width_seen reader.before) reader.fresh reader.at reader.place c.joins.result front sound c.requires.sound c.joins.ensures (rw c.token-token.ensures at c.in_ok-add-in-Good.ensures.added))

pub returns-in_ok-add-in-Good-clause-room : goal.returns-in_ok-add-in-Good-clause-room
returns-in_ok-add-in-Good-clause-room c = added_fits c.args.tokens.now.items c.add.new.tokens.items c.token-token.result c.joins.result c.in_ok-add-in-Good.ensures.added c.requires.room

pub returns-in_ok-add-in-Good-clause-sound : goal.returns-in_ok-add-in-Good-clause-sound
returns-in_ok-add-in-Good-clause-sound c =
    let reader = c.args.reader.now in
    let front : IsLongest reader.fresh reader.rest.now (record { len = c.front-piece.result.len; spells = Good c.in-Good.kind }) = rw c.in-Good.is at c.front-piece.ensures in
    rw (c.pass.ensures.before, c.width_behind-behind.ensures)
    (added_sound c.args.tokens.now.items c.add.new.tokens.items reader.rest.now c.front-piece.result.len c.in-Good.kind (width_seen reader.before) reader.fresh reader.at reader.place c.joins.result front c.requires.sound c.joins.ensures (rw c.token-token.ensures at c.in_ok-add-in-Good.ensures.added))

pub returns-in_err-add-in-Good-clause-stops : goal.returns-in_err-add-in-Good-clause-stops
returns-in_err-add-in-Good-clause-stops c =
    let reader = c.args.reader.now in
    let front : IsLongest reader.fresh reader.rest.now (record { len = c.front-piece.result.len; spells = Good c.in-Good.kind }) = rw c.in-Good.is at c.front-piece.ensures in
    let sound : reason_at (width_seen reader.before) reader.rest.now (Good c.in-Good.kind) ≡ None = rw c.in-Good.is at (sym c.in_default.ensures) in
    let p = err_from_is_err_and c.from_residual.result c.from_residual.ensures.1 in
    rw (p.1, p.2) (refuses_token c.args.tokens.now.items reader.rest.now c.front-piece.result.len c.in-Good.kind (width_seen reader.before) reader.fresh reader.at reader.place _ c.joins.result front sound c.joins.ensures c.in_err-add-in-Good.ensures.refused)
