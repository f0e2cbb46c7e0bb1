-- The forms in which expressions are written (clause 5, 8.5).
use Rattle.std.specs.Prelude.{ℕ, nat_eq, if◌then◌else◌}
use Rattle.cxx_reading.specs.Productions as read
use Rattle.cxx_phrase_text.specs.declared.form.Form.{Form}
use Rattle.cxx_phrase_text.specs.declared.form.Form.TheVariants as form
use Rattle.cxx_phrase_text.specs.Productions as production

-- the form of a production; a literal and a size are their spelling
abbrev pub form_of : ℕ → Form
form_of n =
    if nat_eq n read.initializer then form.Initial else (
    if nat_eq n production.name then form.Name else (
    if nat_eq n production.parenthesis then form.Parenthesis else (
    if nat_eq n read.call then form.Call else (
    if nat_eq n production.functional_cast then form.Zero else (
    if nat_eq n production.member then form.Member else (
    if nat_eq n production.arrow then form.Arrow else (
    if nat_eq n production.subscript then form.Subscript else (
    if nat_eq n production.postfix_step then form.Postfix else (
    if nat_eq n production.prefix then form.Prefix else (
    if nat_eq n read.cast then form.Cast else (
    if nat_eq n production.binary then form.Infix else (
    if nat_eq n production.conditional then form.Conditional else (
    if nat_eq n production.assignment then form.Infix else
    form.Spelled)))))))))))))
