-- What the names that the code holds stand for.
use Rattle.std.specs.Prelude.{ℕ, List, [], Option, Some, None}
use Rattle.std.specs.List.{slice_get}
use Rattle.cxx_page.specs.declared.tags.Tags.{Tags}
use Rattle.cxx_reading.specs.Words.{Tags as TagsOf}

abbrev pub text_or_none : Option (List ℕ) → List ℕ
text_or_none None = []
text_or_none (Some text) = text

-- the names of classes and of enumerations; what is past the end has none
abbrev pub tags_of : Tags → TagsOf
tags_of tags = record { class_name = λ n. text_or_none (slice_get tags.classes n); enumeration_name = λ n. text_or_none (slice_get tags.enumerations n) }
