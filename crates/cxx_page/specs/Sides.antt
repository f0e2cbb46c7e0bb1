-- A declared type as it is written: the words before the declared name, and those behind it.
use Rattle.std.specs.Prelude.{Bool, true, false, List, [], ◌∷◌, ◌++◌, codes}
use Rattle.cxx_model.specs.declared.types.Cv.{Cv}
use Rattle.cxx_model.specs.Types.Trees.{CxxType, fundamental, class_type, enumeration, pointer_to, reference_to, array_of, function_of, qualified, type_parameter, specialisation, nested_in, CxxTypes, no_types, type_then, CxxBound, merged}
use Rattle.cxx_reading.specs.Declarators.{no_cv}
use Rattle.cxx_reading.specs.Words.{Word, Tags, type_name_word, open_word, close_word, open_bracket_word, close_bracket_word, comma_word, star_word, ampersand_word, base_words, cv_words, bound_words, is_bracketed, declared, one_word}

-- the bracket before a declarator, and behind it
abbrev pub opened : Bool → List Word
opened true = open_word ∷ []
opened false = []

abbrev pub closed : Bool → List Word
closed true = close_word ∷ []
closed false = []

abbrev pub comma_unless : Bool → List Word
comma_unless true = []
comma_unless false = comma_word ∷ []

abbrev pub dots : Bool → Bool → List Word
dots is_first true = comma_unless is_first ++ one_word (codes "...")
dots is_first false = []

-- the parameters of a list, and an ellipsis, with commas; whether nothing stands before them
unfoldable pub listed : Tags → Bool → CxxTypes → Bool → List Word
listed tags is_first no_types ellipsis = dots is_first ellipsis
listed tags is_first (type_then of others) ellipsis = (comma_unless is_first ++ declared tags no_cv of []) ++ listed tags false others ellipsis

abbrev pub front : Tags → Cv → CxxType → List Word
front tags cv (fundamental of) = cv_words cv ++ base_words of
front tags cv (class_type n) = cv_words cv ++ type_name_word (tags.class_name n) ∷ []
front tags cv (enumeration n) = cv_words cv ++ type_name_word (tags.enumeration_name n) ∷ []
front tags cv (pointer_to of) = front tags no_cv of ++ (opened (is_bracketed of) ++ (star_word ∷ [] ++ cv_words cv))
front tags cv (reference_to of) = front tags no_cv of ++ (opened (is_bracketed of) ++ ampersand_word ∷ [])
front tags cv (array_of of bound) = front tags cv of
front tags cv (function_of result parameters ellipsis own) = front tags no_cv result
front tags cv (qualified own of) = front tags (merged cv own) of
front tags cv (type_parameter depth index) = []
front tags cv (specialisation n _) = []
front tags cv (nested_in of word) = []

-- the bound of an array, in its brackets
unfoldable pub bound_part : CxxBound → List Word
bound_part bound = open_bracket_word ∷ [] ++ (bound_words bound ++ close_bracket_word ∷ [])

-- the parameters of a function in their brackets, and the words behind them
unfoldable pub list_part : Tags → CxxTypes → Bool → Cv → List Word
list_part tags parameters ellipsis own = open_word ∷ [] ++ (listed tags true parameters ellipsis ++ (close_word ∷ [] ++ cv_words own))

abbrev pub back : Tags → CxxType → List Word
back tags (pointer_to of) = closed (is_bracketed of) ++ back tags of
back tags (reference_to of) = closed (is_bracketed of) ++ back tags of
back tags (array_of of bound) = bound_part bound ++ back tags of
back tags (function_of result parameters ellipsis own) = list_part tags parameters ellipsis own ++ back tags result
back tags (qualified own of) = back tags of
back tags (fundamental of) = []
back tags (class_type n) = []
back tags (enumeration n) = []
back tags (type_parameter depth index) = []
back tags (specialisation n _) = []
back tags (nested_in of word) = []
