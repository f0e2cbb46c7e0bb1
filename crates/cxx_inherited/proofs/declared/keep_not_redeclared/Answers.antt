use Rattle.std.proofs.Common.{◌∙◌, [], ◌∷◌, cond, not, sym, subst}
use Rattle.cxx_members.specs.Sighted.{Adds, sighting_at}
use Rattle.cxx_members.proofs.Adding.{adds_one, adds_none}
use Rattle.cxx_inherited.proofs.declared.keep_not_redeclared.Goals as goal

pub returns : goal.returns
returns c =
    let types = c.args.types.now in
    let stays = sym c.if-is_redeclared.false ∙ c.is_redeclared.ensures in
    subst (λ t. Adds types c.args.kept.now.items c.push.new.self.items (cond (not t) (sighting_at types c.args.one ∷ []) [])) stays (adds_one types c.args.kept.now.items c.push.new.self.items c.args.one c.in_ok-push.ensures.items c.requires.one)

pub returns-then-is_redeclared : goal.returns-then-is_redeclared
returns-then-is_redeclared c =
    let types = c.args.types.now in
    let goes = sym c.if-is_redeclared.true ∙ c.is_redeclared.ensures in
    subst (λ t. Adds types c.args.kept.now.items c.args.kept.now.items (cond (not t) (sighting_at types c.args.one ∷ []) [])) goes (adds_none types c.args.kept.now.items)
