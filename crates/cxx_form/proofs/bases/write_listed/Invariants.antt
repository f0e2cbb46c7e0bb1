-- what is left to write on the page is what was to be written on the first one
use Rattle.std.proofs.Common.{true, ◌≡◌, drop, map}
use Rattle.cxx_page.specs.Sheets.{put}
use Rattle.cxx_phrase_text.specs.Listed.{listed_words}
use Rattle.cxx_form.specs.Parts.{base_at}
use Rattle.cxx_form.proofs.bases.write_listed.Given as goal

abbrev pub invariant-loop-number : goal.invariant-loop-number
invariant-loop-number l = put (listed_words l.is_first (map (base_at l.book) (drop l.number-index l.numbers))) l.page ≡ put (listed_words true (map (base_at l.book) l.numbers)) l.initial.page
