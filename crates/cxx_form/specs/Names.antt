-- The printed names of a state's plain form.
use Rattle.std.specs.Prelude.{ℕ, zero, ◌≡◌, ◌<◌, List, length}
use Rattle.std.specs.List.{slice_get}
use Rattle.cxx_model.specs.Facts.Graph.{enumerations}
use Rattle.cxx_page.specs.Views.{text_or_none}
use Rattle.cxx_reading.specs.Plain.{number_of_enumeration, NamesOfText}
use Rattle.cxx_reading.specs.TextOrder.{text_name}
use Rattle.cxx_form.specs.Order.{number_of_class, text_order}
use Rattle.cxx_form.specs.Shared.{representative}
use Rattle.cxx_tree.specs.Held.{meaning, Held}
use Rattle.cxx_form.specs.Views.{facts_in}

unfoldable pub names_in : Held → NamesOfText
names_in held = record {
  name_of = λ number. text_name (facts_in held) (text_order (meaning held)) (representative (facts_in held) number);
  tags = record { class_name = λ n. text_name (facts_in held) (text_order (meaning held)) (number_of_class n zero (facts_in held)); enumeration_name = λ n. text_name (facts_in held) (text_order (meaning held)) (number_of_enumeration n zero (facts_in held)) };
}

-- Texts are the names of the classes that there are.
abbrev pub AreClassTags : Held → List (List ℕ) → Type 0
AreClassTags held texts = (n : ℕ) → n < length held.graph.classes → text_or_none (slice_get texts n) ≡ (names_in held).tags.class_name n

-- Texts are the names of the enumerations that there are.
abbrev pub AreTags : Held → List (List ℕ) → Type 0
AreTags held texts = (n : ℕ) → n < enumerations held.graph.facts → text_or_none (slice_get texts n) ≡ (names_in held).tags.enumeration_name n
