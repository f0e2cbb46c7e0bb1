use Rattle.std.proofs.Common.{◌≡◌, ◌∙◌, ap, arith, map, Err, true}
use Rattle.std.proofs.lemmas.Grind.{common_steps}
use Rattle.cxx_model.specs.declared.options.Options.{Options}
use Rattle.cxx_page.specs.declared.fault.PlainFault.{PlainFault}
use Rattle.cxx_page.specs.declared.fault.PlainFault.TheVariants as fault
use Rattle.cxx_phrase_text.specs.Listing.{call_of}
use Rattle.cxx_reading.specs.Units.{CxxReading}
use Rattle.cxx_tree.specs.Held.{meaning, Held}
use Rattle.cxx_form.specs.Called.{is_past_output, target_of, targets}
use Rattle.cxx_form.proofs.CallLines.{functions_past, is_printed, text_past}
use Rattle.cxx_form.proofs.Calling.{all_targets}
use Rattle.cxx_form.proofs.form.printed_by.Goals as goal

abbrev reading_by : Options → Held → CxxReading
reading_by options held = record { options = options; state = meaning held }

pub returns-in_err-text-clause-full : goal.returns-in_err-text-clause-full
returns-in_err-text-clause-full c options =
    let past : c.in_err-text.field-0.0 ≡ fault.Limit → is_past_output (reading_by options c.args.book.now.state.now) ≡ true = text_past (reading_by options c.args.book.now.state.now) c.in_err-text.field-0.0 (λ limit. c.in_err-text.ensures.full options (ap (λ (e : PlainFault). Err e) limit)) in
    grind (arith, common_steps, past)

targets_are : (c : goal.After-drop-calls-2) → map target_of c.as_slice.result.now ≡ targets (meaning c.args.book.now.state.now)
targets_are c = all_targets c.args.book.now.state.now c.args.lines.now c.as_slice.result.now c.requires.is (ap (map call_of) c.as_slice.ensures.value ∙ c.in_ok-calls.ensures)

pub returns-in_err-functions-clause-full : goal.returns-in_err-functions-clause-full
returns-in_err-functions-clause-full c options =
    let are : map target_of c.as_slice.result.now ≡ targets (meaning c.args.book.now.state.now) = all_targets c.args.book.now.state.now c.args.lines.now c.as_slice.result.now c.requires.is (ap (map call_of) c.as_slice.ensures.value ∙ c.in_ok-calls.ensures) in
    let past : c.in_err-functions.field-0.0 ≡ fault.Limit → is_past_output (reading_by options c.args.book.now.state.now) ≡ true = functions_past (reading_by options c.args.book.now.state.now) c.as_slice.result.now c.in_err-functions.field-0.0 are (λ limit. c.in_err-functions.ensures.full (ap (λ (e : PlainFault). Err e) limit)) in
    grind (arith, common_steps, past)

pub returns-clause-is : goal.returns-clause-is
returns-clause-is c options = is_printed (reading_by options c.args.book.now.state.now) (record { text = c.in_ok-text.text; functions = c.in_ok-functions.functions }) c.as_slice.result.now (targets_are c) (c.in_ok-text.ensures.text options) c.in_ok-text.ensures.within c.in_ok-functions.ensures.text c.in_ok-functions.ensures.within
