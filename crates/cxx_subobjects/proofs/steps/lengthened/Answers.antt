use Rattle.std.proofs.Common.{◌≡◌, ◌+◌, length, arith}
use Rattle.std.proofs.lemmas.Grind.{common_steps}
use Rattle.cxx_subobjects.proofs.Sharing.{grows_one, new_path}
use Rattle.cxx_subobjects.proofs.steps.lengthened.Goals as goal

pub returns-clause-is : goal.returns-clause-is
returns-clause-is c =
    let one_more : c.len.result ≡ length c.args.steps.now.items + 1 = grind (arith, common_steps) in
    new_path c.args.steps.now.items c.push.new.self.items c.args.index c.args.rest c.len.result one_more c.in_ok-push.ensures.items

pub returns-clause-grows : goal.returns-clause-grows
returns-clause-grows c = grows_one c.args.steps.now.items c.push.new.self.items (record { index = c.args.index; rest = c.args.rest }) c.in_ok-push.ensures.items
