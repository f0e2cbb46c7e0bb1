-- Names with their qualifiers, as they are passed.
use Rattle.std.specs.Prelude.{ℕ, suc, ◌≡◌, ◌+◌, ◌-◌, ◌≤◌, ◌++◌, Bool, true, false, not, List, [], ◌∷◌, length, Option, refl}
use Rattle.std.specs.List.{slice_get}
use Rattle.std.proofs.Common.{ap, sym, ◌∙◌, arith}
use Rattle.std.proofs.lemmas.Bool.{not-true}
use Rattle.std.proofs.lemmas.List.{append-nil, append_assoc}
use Rattle.cxx_model.proofs.Champion.{and_true}
use Rattle.cxx_model.specs.declared.place.Place.{Place}
use Rattle.cxx_model.specs.declared.punct.TheConstants as punct
use Rattle.cxx_model.specs.declared.token.TokenKind.{TokenKind}
use Rattle.cxx_model.specs.declared.token.TokenKind.TheVariants as kind
use Rattle.cxx_model.specs.Text.Lexemes.{Lexeme, kind_of}
use Rattle.cxx_reading.specs.Reads.{Ahead, behind, count_ahead, kind_ahead}
use Rattle.cxx_reading.specs.Specifiers.{path_of}
use Rattle.cxx_reading.specs.Tokens.{Passed, is_name, is_plain_name, is_punct, passed_from, path_ahead, token_in}
use Rattle.cxx_reading.specs.Trees.{CxxPathPart, last_part}
use Rattle.cxx_model.specs.declared.tree.PathPart.{PathPart}
use Rattle.cxx_tree.specs.Arena.{path_part_at, path_parts_at}
use Rattle.cxx_cursor.specs.Passing.{IsCollecting, IsPassing, goes_on, part_or, part_there, passed_at}

-- ---- one token

abbrev ahead_at : Place → List Lexeme → Ahead
ahead_at last tokens = record { last = last; tokens = tokens }

rest_more : (wanted : Bool) (last : Place) (tokens : List Lexeme) → goes_on wanted (kind_of tokens) ≡ true
    → (passed_from wanted last tokens).rest ≡ (passed_at (not wanted) (behind (ahead_at last tokens))).rest
unfolding passed_from is_name is_punct
rest_more true last [] goes = absurd cc
rest_more false last [] goes = absurd cc
rest_more true last (token ∷ tokens) goes = rw goes refl
rest_more false last (token ∷ tokens) goes = rw goes refl

whole_more : (wanted : Bool) (last : Place) (tokens : List Lexeme) → goes_on wanted (kind_of tokens) ≡ true
    → (passed_from wanted last tokens).is_whole ≡ (passed_at (not wanted) (behind (ahead_at last tokens))).is_whole
unfolding passed_from is_name is_punct
whole_more true last [] goes = absurd cc
whole_more false last [] goes = absurd cc
whole_more true last (token ∷ tokens) goes = rw goes refl
whole_more false last (token ∷ tokens) goes = rw goes refl

parts_more : (wanted : Bool) (last : Place) (tokens : List Lexeme) → goes_on wanted (kind_of tokens) ≡ true
    → (passed_from wanted last tokens).parts ≡ part_there wanted (ahead_at last tokens) ++ (passed_at (not wanted) (behind (ahead_at last tokens))).parts
unfolding passed_from is_name is_punct
parts_more true last [] goes = absurd cc
parts_more false last [] goes = absurd cc
parts_more true last (token ∷ tokens) goes = rw goes refl
parts_more false last (token ∷ tokens) goes = rw goes refl

count_more : (wanted : Bool) (last : Place) (tokens : List Lexeme) → goes_on wanted (kind_of tokens) ≡ true → count_ahead (behind (ahead_at last tokens)) + 1 ≡ length tokens
unfolding is_name is_punct
count_more true last [] goes = absurd cc
count_more false last [] goes = absurd cc
count_more wanted last (token ∷ tokens) goes = omega arith

-- ---- where it ends

rest_ends : (wanted : Bool) (last : Place) (tokens : List Lexeme) → goes_on wanted (kind_of tokens) ≡ false → (passed_from wanted last tokens).rest ≡ ahead_at last tokens
unfolding passed_from
rest_ends true last [] stops = refl
rest_ends false last [] stops = refl
rest_ends true last (token ∷ tokens) stops = rw stops refl
rest_ends false last (token ∷ tokens) stops = rw stops refl

whole_ends : (wanted : Bool) (last : Place) (tokens : List Lexeme) → goes_on wanted (kind_of tokens) ≡ false → (passed_from wanted last tokens).is_whole ≡ not wanted
unfolding passed_from
whole_ends true last [] stops = refl
whole_ends false last [] stops = refl
whole_ends true last (token ∷ tokens) stops = rw stops refl
whole_ends false last (token ∷ tokens) stops = rw stops refl

parts_end : (wanted : Bool) (last : Place) (tokens : List Lexeme) → goes_on wanted (kind_of tokens) ≡ false → (passed_from wanted last tokens).parts ≡ []
unfolding passed_from
parts_end true last [] stops = refl
parts_end false last [] stops = refl
parts_end true last (token ∷ tokens) stops = rw stops refl
parts_end false last (token ∷ tokens) stops = rw stops refl

none_left : (wanted : Bool) (tokens : List Lexeme) → length tokens ≡ 0 → goes_on wanted (kind_of tokens) ≡ false
unfolding is_name is_punct
none_left true [] none = refl
none_left false [] none = refl
none_left wanted (token ∷ tokens) none = absurd (omega arith)

-- ---- parts

pub parts_append : (one two : List PathPart) → path_parts_at (one ++ two) ≡ path_parts_at one ++ path_parts_at two
parts_append [] two = refl
parts_append (part ∷ parts) two = ap (λ ps. path_part_at part ∷ ps) (parts_append parts two)

last_by : (parts : List PathPart) → part_or (slice_get parts (length parts - 1)) ≡ last_part (path_parts_at parts)
last_by [] = refl
last_by (part ∷ []) = refl
last_by (part ∷ next ∷ parts) =
    let count : suc (suc (length parts)) - 1 ≡ suc (suc (length parts) - 1) = omega arith in
    ap (λ n. part_or (slice_get (part ∷ next ∷ parts) n)) count ∙ last_by (next ∷ parts)

pub last_is : (parts : List PathPart) (last : Option PathPart) → last ≡ slice_get parts (length parts - 1) → part_or last ≡ last_part (path_parts_at parts)
last_is parts last is = ap part_or is ∙ last_by parts

-- ---- turns

pub passing_more : (wanted : Bool) (left : Ahead) (whole : Passed) (turn end : ℕ) → IsPassing wanted left whole turn end → goes_on wanted (kind_ahead left) ≡ true → IsPassing (not wanted) (behind left) whole (turn + 1) end
passing_more wanted left whole turn end is goes = record {
  rest = sym (rest_more wanted left.last left.tokens goes) ∙ is.rest;
  is_whole = sym (whole_more wanted left.last left.tokens goes) ∙ is.is_whole;
  count = (let more : count_ahead (behind left) + 1 ≡ length left.tokens = count_more wanted left.last left.tokens goes in let count : count_ahead left + turn ≡ end = is.count in omega arith);
}

pub passing_rest : (wanted : Bool) (left : Ahead) (whole : Passed) (turn end : ℕ) → IsPassing wanted left whole turn end → goes_on wanted (kind_ahead left) ≡ false → left ≡ whole.rest
passing_rest wanted left whole turn end is stops = sym (rest_ends wanted left.last left.tokens stops) ∙ is.rest

pub passing_whole : (wanted : Bool) (left : Ahead) (whole : Passed) (turn end : ℕ) → IsPassing wanted left whole turn end → goes_on wanted (kind_ahead left) ≡ false → not wanted ≡ whole.is_whole
passing_whole wanted left whole turn end is stops = sym (whole_ends wanted left.last left.tokens stops) ∙ is.is_whole

pub passing_over : (wanted : Bool) (left : Ahead) (whole : Passed) (turn end : ℕ) → IsPassing wanted left whole turn end → end ≤ turn → goes_on wanted (kind_ahead left) ≡ false
passing_over wanted left whole turn end is past = none_left wanted left.tokens (let count : count_ahead left + turn ≡ end = is.count in omega arith)

pub collecting_more : (so_far : List CxxPathPart) (wanted : Bool) (left : Ahead) (whole : Passed) (turn end : ℕ) → IsCollecting so_far wanted left whole turn end → goes_on wanted (kind_ahead left) ≡ true → IsCollecting (so_far ++ part_there wanted left) (not wanted) (behind left) whole (turn + 1) end
collecting_more so_far wanted left whole turn end is goes = record {
  parts = append_assoc so_far (part_there wanted left) (passed_at (not wanted) (behind left)).parts ∙ (ap (λ ps. so_far ++ ps) (sym (parts_more wanted left.last left.tokens goes)) ∙ is.parts);
  count = (let more : count_ahead (behind left) + 1 ≡ length left.tokens = count_more wanted left.last left.tokens goes in let count : count_ahead left + turn ≡ end = is.count in omega arith);
}

pub collecting_ends : (so_far : List CxxPathPart) (wanted : Bool) (left : Ahead) (whole : Passed) (turn end : ℕ) → IsCollecting so_far wanted left whole turn end → goes_on wanted (kind_ahead left) ≡ false → so_far ≡ whole.parts
collecting_ends so_far wanted left whole turn end is stops =
    sym (append-nil so_far) ∙ (ap (λ ps. so_far ++ ps) (sym (parts_end wanted left.last left.tokens stops)) ∙ is.parts)

pub collecting_over : (so_far : List CxxPathPart) (wanted : Bool) (left : Ahead) (whole : Passed) (turn end : ℕ) → IsCollecting so_far wanted left whole turn end → end ≤ turn → goes_on wanted (kind_ahead left) ≡ false
collecting_over so_far wanted left whole turn end is past = none_left wanted left.tokens (let count : count_ahead left + turn ≡ end = is.count in omega arith)

-- ---- a name without qualifiers

name_is_no_punct : (n : ℕ) (kind : TokenKind) → is_name kind ≡ true → is_punct n kind ≡ false
unfolding is_name is_punct
name_is_no_punct n kind.Name name = refl
name_is_no_punct n (kind.Keyword m) name = absurd cc
name_is_no_punct n (kind.Punct m) name = absurd cc
name_is_no_punct n kind.Integer name = absurd cc
name_is_no_punct n kind.Character name = absurd cc
name_is_no_punct n kind.Text name = absurd cc
name_is_no_punct n kind.End name = absurd cc

plain_parts : (last : Place) (tokens : List Lexeme) → is_name (kind_of tokens) ≡ true → is_punct punct.SCOPE (kind_ahead (behind (ahead_at last tokens))) ≡ false
    → (passed_from true last tokens).parts ≡ part_there true (ahead_at last tokens)
plain_parts last tokens name alone =
    parts_more true last tokens name ∙ ap (λ ps. part_there true (ahead_at last tokens) ++ ps) (parts_end false (behind (ahead_at last tokens)).last (behind (ahead_at last tokens)).tokens alone)

pub plain_path : (ahead : Ahead) → is_plain_name ahead ≡ true → path_ahead ahead ≡ path_of (token_in ahead.tokens)
plain_path ahead plain =
    let both = and_true (is_name (kind_ahead ahead)) (not (is_punct punct.SCOPE (kind_ahead (behind ahead)))) plain in
    let alone : is_punct punct.SCOPE (kind_ahead (behind ahead)) ≡ false = not-true (is_punct punct.SCOPE (kind_ahead (behind ahead))) both.1 in
    let no : is_punct punct.SCOPE (kind_ahead ahead) ≡ false = name_is_no_punct punct.SCOPE (kind_ahead ahead) both.0 in
    rw no (ap (λ (ps : List CxxPathPart). record { global = false; parts = ps }) (plain_parts ahead.last ahead.tokens both.0 alone))
