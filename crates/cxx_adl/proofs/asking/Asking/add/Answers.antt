use Rattle.std.proofs.Common.{◌∙◌, ap, map, sym}
use Rattle.cxx_meaning.specs.Lookups.Associated.{holds_part}
use Rattle.cxx_adl.specs.Views.{part_at}
use Rattle.cxx_adl.proofs.Growing.{becomes_more}
use Rattle.cxx_adl.proofs.asking.Asking.add.Goals as goal

pub returns : goal.returns
returns c =
    let types = c.args.self.now.types.now in
    let absent = ap (λ xs. holds_part (map (part_at types) xs) (part_at types c.args.part)) (sym c.deref.ensures.value) ∙ (sym c.holds.ensures ∙ c.if-holds.false) in
    becomes_more types c.args.parts.now.items c.push.new.self.items c.args.part absent c.in_ok-push.ensures.items c.requires.part
