-- Words of fundamental types, as the code has them.
use Rattle.std.specs.Prelude.{Option, Some, None}
use Rattle.cxx_reading.specs.Declarators as definition
use Rattle.cxx_reading.specs.Declarators.{of_core, of_sign, of_size}
use Rattle.cxx_cursor.specs.declared.words.TypeWord.{TypeWord}
use Rattle.cxx_cursor.specs.declared.words.TypeWord.TheVariants as word

abbrev pub word_of : TypeWord → definition.TypeWord
word_of (word.Core core) = of_core core
word_of (word.Sign sign) = of_sign sign
word_of (word.Size size) = of_size size

abbrev pub word_of_option : Option TypeWord → Option definition.TypeWord
word_of_option None = None
word_of_option (Some word) = Some (word_of word)
