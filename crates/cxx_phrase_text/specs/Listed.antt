-- Lists of words with commas between them, as they are written one after another.
use Rattle.std.specs.Prelude.{Bool, false, List, [], ◌∷◌, ◌++◌}
use Rattle.cxx_page.specs.Sides.{comma_unless}
use Rattle.cxx_reading.specs.Words.{Word}

-- elements with a comma before each but the first, given whether the next is that
abbrev pub listed_words : Bool → List (List Word) → List Word
listed_words is_first [] = []
listed_words is_first (one ∷ others) = (comma_unless is_first ++ one) ++ listed_words false others
