use Rattle.std.proofs.Common.{◌≡◌, ◌<◌, true, length, get_or, take, sym, arith}
use Rattle.std.proofs.lemmas.List.{take_more}
use Rattle.cxx_model.specs.Text.Continuing.{number_goes_on, last_of}
use Rattle.cxx_tokens.proofs.Pushes.{number_rest_push, last_of_push}
use Rattle.cxx_tokens.proofs.numbers.number_len.Goals as goal

pub loop-i-preserved : goal.loop-i-preserved
loop-i-preserved c =
    let rest = c.args.rest.now in
    let i = c.loop-i.i in
    let inside : i < length rest = omega arith in
    let goes : number_goes_on (last_of c.args.first (take i rest)) (get_or rest i 0) ≡ true = rw (← c.loop-i.invariant.1) (cc) in (
      rw (take_more rest i 0 inside) (number_rest_push c.args.first (take i rest) (get_or rest i 0) c.loop-i.invariant.0 goes),
      rw (take_more rest i 0 inside) (sym (last_of_push c.args.first (take i rest) (get_or rest i 0))),
    )
