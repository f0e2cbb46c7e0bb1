-- what is left to write on the page is what was to be written on the first one
use Rattle.std.proofs.Common.{true, ◌≡◌, drop, map}
use Rattle.cxx_page.specs.Sheets.{put}
use Rattle.cxx_phrase_text.specs.Listed.{listed_words}
use Rattle.cxx_form.specs.Parts.{parameter_at}
use Rattle.cxx_form.proofs.heads.write_parameters.Given as goal

abbrev pub invariant-loop-number : goal.invariant-loop-number
invariant-loop-number l = put (listed_words l.is_first (map (parameter_at l.book) (drop l.number-index l.numbers))) l.page ≡ put (listed_words true (map (parameter_at l.book) l.numbers)) l.initial.page
