use Rattle.std.proofs.Common.{[], ◌∷◌, ap, length, option_map, subst, sym, Option}
use Rattle.cxx_meaning.specs.Lookups.Gathered.{before}
use Rattle.cxx_tree.specs.Held.{trees}
use Rattle.cxx_form.specs.declared.lines.Line.{Line}
use Rattle.cxx_form.specs.Lines.{line_at, IsGivenBelow, IsLineBelow}
use Rattle.cxx_form.proofs.Lined.{adds_same, line_added}
use Rattle.cxx_form.proofs.lines.add.Goals as goal

pub returns : goal.returns
returns c =
    let all = trees c.args.state.now in
    let within : IsLineBelow (length all) c.in-Some.line = subst (λ (o : Option Line). IsGivenBelow (length all) o) c.in-Some.is c.requires in
    adds_same all c.args.lines.now.items c.push.new.self.items (line_at all c.in-Some.line ∷ []) (before (option_map (line_at all) c.args.line) []) (ap (λ (o : Option Line). before (option_map (line_at all) o) []) (sym c.in-Some.is)) (line_added all c.args.lines.now.items c.push.new.self.items c.in-Some.line c.in_ok-push.ensures.items within)
