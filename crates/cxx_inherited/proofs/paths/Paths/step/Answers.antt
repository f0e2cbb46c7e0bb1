use Rattle.std.proofs.Common.{◌∙◌, ◌-◌, ◌<◌, Some, ap, length, subst, sym}
use Rattle.std.specs.List.{slice_get}
use Rattle.cxx_inherited.proofs.Linking.{step_before, step_is, step_there}
use Rattle.cxx_inherited.proofs.paths.Paths.step.Goals as goal

pub step_at-requires : goal.step_at-requires
step_at-requires c = subst (λ steps. c.args.number - 1 < length steps) (sym c.as_slice.ensures.value) (step_there c.self.inside.steps.items c.args.self.now c.args.number c.self.view_is c.requires.known c.requires.some)

pub returns-clause-is : goal.returns-clause-is
returns-clause-is c = step_is c.self.inside.steps.items c.args.self.now c.args.number c.step_at.result c.self.view_is c.self.invariant c.requires.known c.requires.some (ap (λ steps. slice_get steps (c.args.number - 1)) (sym c.as_slice.ensures.value) ∙ c.step_at.ensures)

pub returns-clause-earlier : goal.returns-clause-earlier
returns-clause-earlier c = step_before c.self.inside.steps.items c.args.self.now c.args.number c.step_at.result c.self.view_is c.self.invariant c.requires.known c.requires.some (ap (λ steps. slice_get steps (c.args.number - 1)) (sym c.as_slice.ensures.value) ∙ c.step_at.ensures)
