use Rattle.std.proofs.Common.{◌≡◌, ◌∙◌, ap, sym, get_or}
use Rattle.std.specs.Prelude.{None, Some, option_map, string_bytes}
use Rattle.cxx_words.specs.Reader.{next_of}
use Rattle.cxx_words.specs.Words.{job_of}
use Rattle.cxx_words.proofs.Reading.{all_words, none_more, one_more}
use Rattle.cxx_words.proofs.words.read_each.Goals as goal

pub loop-word-preserved : goal.loop-word-preserved
loop-word-preserved c =
    let next : Some c.in_ok-reader.reader ≡ next_of c.loop-word.reader (string_bytes (get_or c.args.words.now c.loop-word.word-index c.word-item.result)) =
    sym c.in_ok-reader.was ∙ c.next.ensures ∙ ap (next_of c.loop-word.reader) (c.as_bytes.ensures.value ∙ ap string_bytes c.word-item.is) in
    one_more string_bytes c.args.words.now c.loop-word.word-index c.word-item.result c.loop-word.reader c.in_ok-reader.reader _ c.loop-word-test.true next c.loop-word.invariant

pub returns-in_err-reader : goal.returns-in_err-reader
returns-in_err-reader c =
    let next : None ≡ next_of c.loop-word.reader (string_bytes (get_or c.args.words.now c.loop-word.word-index c.word-item.result)) =
    sym c.in_err-reader.was ∙ c.next.ensures ∙ ap (next_of c.loop-word.reader) (c.as_bytes.ensures.value ∙ ap string_bytes c.word-item.is) in
    c.from_residual.ensures ∙ ap (option_map job_of) (sym (none_more string_bytes c.args.words.now c.loop-word.word-index c.word-item.result c.loop-word.reader _ c.loop-word-test.true next c.loop-word.invariant))

pub returns : goal.returns
returns c = c.job.ensures ∙ ap (option_map job_of) (all_words string_bytes c.args.words.now c.loop-word.word-index c.loop-word.reader _ c.loop-word-test.false c.loop-word.invariant)
