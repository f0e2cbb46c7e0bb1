-- The calls on lines, one line after another.
use Rattle.std.proofs.Common.{◌≡◌, List, map, refl, ap, sym, ◌∙◌}
use Rattle.std.specs.Prelude.{flat_map}
use Rattle.cxx_phrase_text.specs.declared.calls.ListedCall.{ListedCall}
use Rattle.cxx_phrase_text.specs.Listing.{call_of}
use Rattle.cxx_form.specs.Order.{lines}
use Rattle.cxx_tree.specs.Held.{meaning, trees, Held}
use Rattle.cxx_form.specs.declared.lines.Line.{Line}
use Rattle.cxx_form.specs.Called.{target_of, targets}
use Rattle.cxx_form.specs.Lines.{lines_at}
use Rattle.cxx_form.specs.Text.{calls_on, printed_calls}
use Rattle.cxx_form.specs.Views.{facts_in}
use Rattle.cxx_form.proofs.Lining.{map_map}

by_lines : (held : Held) → flat_map (calls_on (facts_in held)) (lines (meaning held)) ≡ printed_calls (meaning held)
unfolding printed_calls meaning
by_lines held = refl

pub all_calls : (held : Held) (found : List Line) (calls : List ListedCall) → lines_at (trees held) found ≡ lines (meaning held) → map call_of calls ≡ flat_map (calls_on (facts_in held)) (lines_at (trees held) found) → map call_of calls ≡ printed_calls (meaning held)
all_calls held found calls are is = is ∙ ap (flat_map (calls_on (facts_in held))) are ∙ by_lines held

by_calls : (held : Held) → map (λ call. call.target) (printed_calls (meaning held)) ≡ targets (meaning held)
unfolding targets
by_calls held = refl

pub all_targets : (held : Held) (found : List Line) (calls : List ListedCall) → lines_at (trees held) found ≡ lines (meaning held) → map call_of calls ≡ flat_map (calls_on (facts_in held)) (lines_at (trees held) found) → map target_of calls ≡ targets (meaning held)
all_targets held found calls are is = sym (map_map call_of (λ call. call.target) calls) ∙ ap (map (λ call. call.target)) (all_calls held found calls are is) ∙ by_calls held
