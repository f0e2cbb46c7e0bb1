use Rattle.std.proofs.Common.{◌∙◌, [], ◌∷◌, cond, not, sym, subst}
use Rattle.cxx_members.specs.Sighted.{Adds, sighting_at}
use Rattle.cxx_members.proofs.Adding.{adds_one}
use Rattle.cxx_members.proofs.looking.Looking.keep_unhidden.Goals as goal

pub returns : goal.returns
returns c =
    let types = c.args.self.now.types.now in
    let shown = sym c.if-is_hidden_among.false ∙ c.is_hidden_among.ensures in
    subst (λ t. Adds types c.args.kept.now.items c.push.new.self.items (cond (not t) (sighting_at types c.args.one ∷ []) [])) shown (adds_one types c.args.kept.now.items c.push.new.self.items c.args.one c.in_ok-push.ensures.items c.requires)
