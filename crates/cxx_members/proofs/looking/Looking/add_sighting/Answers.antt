use Rattle.std.proofs.Common.{[], length, option_map, sym, subst}
use Rattle.std.specs.Prelude.{IfSome}
use Rattle.cxx_model.specs.Facts.Fitted.{IsEntityBelow}
use Rattle.cxx_meaning.specs.Lookups.Gathered.{before}
use Rattle.cxx_members.specs.Sighted.{Adds, sighting_at}
use Rattle.cxx_members.proofs.Adding.{adds_one}
use Rattle.cxx_members.proofs.looking.Looking.add_sighting.Goals as goal

pub returns-in_ok-push-in-Some : goal.returns-in_ok-push-in-Some
returns-in_ok-push-in-Some c =
    let types = c.args.self.now.types.now in
    let below = subst (λ o. IfSome o (λ one. IsEntityBelow (length types) one.what)) c.in-Some.is c.requires in
    subst (λ o. Adds types c.args.found.now.items c.push.new.self.items (before (option_map (sighting_at types) o) [])) (sym c.in-Some.is) (adds_one types c.args.found.now.items c.push.new.self.items c.in-Some.one c.in_ok-push-in-Some.ensures.items below)
