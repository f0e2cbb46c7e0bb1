-- What is declared is what stands before the name, the name, and what stands behind it.
use Rattle.std.proofs.Common.{◌≡◌, Bool, true, false, List, [], ◌∷◌, ◌++◌, refl, sym, ap, ◌∙◌}
use Rattle.std.proofs.lemmas.List.{append-nil, append_assoc}
use Rattle.std.specs.Prelude.{if◌then◌else◌, codes}
use Rattle.cxx_model.specs.declared.types.Cv.{Cv}
use Rattle.cxx_model.specs.Types.Trees.{CxxType, fundamental, class_type, enumeration, pointer_to, reference_to, array_of, function_of, qualified, type_parameter, specialisation, nested_in, CxxTypes, no_types, type_then, CxxBound, merged}
use Rattle.cxx_reading.specs.Declarators.{no_cv}
use Rattle.cxx_reading.specs.Words.{Word, Tags, type_name_word, open_word, close_word, open_bracket_word, close_bracket_word, comma_word, star_word, ampersand_word, base_words, cv_words, bound_words, is_bracketed, within, declared, declared_each, separated, others_separated, one_word}
use Rattle.cxx_page.specs.Sides.{opened, closed, listed, front, bound_part, list_part, back}

others_listed : (tags : Tags) (ts : CxxTypes) (ellipsis : Bool) → others_separated (declared_each tags ts ++ (if ellipsis then one_word (codes "...") ∷ [] else [])) ≡ listed tags false ts ellipsis
unfolding listed
others_listed tags no_types true = refl
others_listed tags no_types false = refl
others_listed tags (type_then of others) ellipsis = ap (λ ws. comma_word ∷ declared tags no_cv of [] ++ ws) (others_listed tags others ellipsis)

pub all_listed : (tags : Tags) (ts : CxxTypes) (ellipsis : Bool) → separated (declared_each tags ts ++ (if ellipsis then one_word (codes "...") ∷ [] else [])) ≡ listed tags true ts ellipsis
unfolding listed
all_listed tags no_types true = refl
all_listed tags no_types false = refl
all_listed tags (type_then of others) ellipsis = ap (λ ws. declared tags no_cv of [] ++ ws) (others_listed tags others ellipsis)

bracketed : (b : Bool) (f ws inner bk : List Word) → f ++ (within b (ws ++ inner) ++ bk) ≡ (f ++ (opened b ++ ws)) ++ (inner ++ (closed b ++ bk))
bracketed true f ws inner bk = simp append_assoc
bracketed false f ws inner bk = simp append_assoc

three : (f g inner : List Word) → f ++ (g ++ inner) ≡ (f ++ g) ++ (inner ++ [])
three f g inner = simp (append_assoc, append-nil)

behind : (f inner part bk : List Word) → f ++ ((inner ++ part) ++ bk) ≡ f ++ (inner ++ (part ++ bk))
behind f inner part bk = simp append_assoc

bound_in : (inner : List Word) (bound : CxxBound) → inner ++ open_bracket_word ∷ bound_words bound ++ close_bracket_word ∷ [] ≡ inner ++ bound_part bound
unfolding bound_part
bound_in inner bound = simp append_assoc

listed_in : (tags : Tags) (inner : List Word) (parameters : CxxTypes) (ellipsis : Bool) (own : Cv) → inner ++ open_word ∷ listed tags true parameters ellipsis ++ close_word ∷ cv_words own ≡ inner ++ list_part tags parameters ellipsis own
unfolding list_part
listed_in tags inner parameters ellipsis own = simp append_assoc

pub split : (tags : Tags) (cv : Cv) (t : CxxType) (inner : List Word) → declared tags cv t inner ≡ front tags cv t ++ (inner ++ back tags t)
split tags cv (fundamental of) inner = three (cv_words cv) (base_words of) inner
split tags cv (class_type n) inner = three (cv_words cv) (type_name_word (tags.class_name n) ∷ []) inner
split tags cv (enumeration n) inner = three (cv_words cv) (type_name_word (tags.enumeration_name n) ∷ []) inner
split tags cv (pointer_to of) inner = split tags no_cv of (within (is_bracketed of) (star_word ∷ cv_words cv ++ inner)) ∙ bracketed (is_bracketed of) (front tags no_cv of) (star_word ∷ cv_words cv) inner (back tags of)
split tags cv (reference_to of) inner = split tags no_cv of (within (is_bracketed of) (ampersand_word ∷ inner)) ∙ bracketed (is_bracketed of) (front tags no_cv of) (ampersand_word ∷ []) inner (back tags of)
split tags cv (array_of of bound) inner =
    ap (λ ws. declared tags cv of ws) (bound_in inner bound)
    ∙ (split tags cv of (inner ++ bound_part bound) ∙ behind (front tags cv of) inner (bound_part bound) (back tags of))
split tags cv (function_of result parameters ellipsis own) inner =
    ap (λ ws. declared tags no_cv result (inner ++ open_word ∷ ws ++ close_word ∷ cv_words own)) (all_listed tags parameters ellipsis)
    ∙ (ap (λ ws. declared tags no_cv result ws) (listed_in tags inner parameters ellipsis own)
    ∙ (split tags no_cv result (inner ++ list_part tags parameters ellipsis own) ∙ behind (front tags no_cv result) inner (list_part tags parameters ellipsis own) (back tags result)))
split tags cv (qualified own of) inner = split tags (merged cv own) of inner
split tags cv (type_parameter depth index) inner = sym (append-nil inner)
split tags cv (specialisation n _) inner = sym (append-nil inner)
split tags cv (nested_in of word) inner = sym (append-nil inner)
