-- The forms in which statements are written (clause 6).
use Rattle.std.specs.Prelude.{ℕ, nat_eq, if◌then◌else◌}
use Rattle.cxx_statement_text.specs.declared.form.Form.{Form}
use Rattle.cxx_statement_text.specs.declared.form.Form.TheVariants as form
use Rattle.cxx_statement_text.specs.Productions as production

-- the form of a production
abbrev pub form_of : ℕ → Form
form_of n =
    if nat_eq n production.block then form.Block else (
    if nat_eq n production.declaration_statement then form.Declaration else (
    if nat_eq n production.if_ then form.If else (
    if nat_eq n production.switch then form.Switch else (
    if nat_eq n production.label then form.Label else (
    if nat_eq n production.while then form.While else (
    if nat_eq n production.do_ then form.Do else (
    if nat_eq n production.for_ then form.For else (
    if nat_eq n production.jump then form.Jump else (
    if nat_eq n production.return then form.Return else
    form.Expression)))))))))
