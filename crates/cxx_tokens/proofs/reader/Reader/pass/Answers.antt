use Rattle.std.proofs.Common.{take, ap, arith, length-take-le}
use Rattle.cxx_tokens.proofs.Pushes.{past_line, past_column}
use Rattle.cxx_tokens.proofs.reader.Reader.pass.Goals as goal

pub invariant_of-self-clause-line : goal.invariant_of-self-clause-line
invariant_of-self-clause-line c =
    let rest = c.args.self.now.rest.now in
    omega (arith, ap (λ p. p.line) c.past-place.ensures, past_line (take c.args.len rest) c.args.self.now.place, length-take-le c.args.len rest c.requires, c.args.self.now.line)

pub invariant_of-self-clause-column : goal.invariant_of-self-clause-column
invariant_of-self-clause-column c =
    let rest = c.args.self.now.rest.now in
    omega (arith, ap (λ p. p.column) c.past-place.ensures, past_column (take c.args.len rest) c.args.self.now.place, length-take-le c.args.len rest c.requires, c.args.self.now.column)
