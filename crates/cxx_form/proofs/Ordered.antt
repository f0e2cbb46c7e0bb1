-- What lines declare, one line after another.
use Rattle.std.proofs.Common.{◌≡◌, ℕ, ◌+◌, ◌<◌, ◌≤◌, List, [], ◌∷◌, ◌++◌, length, drop, take, get_or, map, refl, ap, sym, subst, ◌∙◌, append-nil, append_assoc}
use Rattle.std.specs.Prelude.{flat_map}
use Rattle.std.proofs.lemmas.List.{at_drop_more, at_drop_all, map-append, take_more}
use Rattle.cxx_model.specs.declared.types.EnumId.{EnumId}
use Rattle.cxx_model.specs.declared.types.FactId.{FactId}
use Rattle.cxx_model.specs.Facts.Declarations.{CxxFact}
use Rattle.cxx_reading.specs.TextOrder.{enumerators_of, with_each_new, with_new}
use Rattle.cxx_form.specs.Order.{declared_on, lines, text_order}
use Rattle.cxx_reading.specs.Trees.{CxxTree}
use Rattle.cxx_tree.specs.Held.{meaning, trees, Held}
use Rattle.cxx_form.specs.declared.lines.Line.{Line}
use Rattle.cxx_form.specs.Giving.{AreEnumerators}
use Rattle.cxx_form.specs.Lines.{line_at, lines_at, number_in, numbers_in}
use Rattle.cxx_form.specs.Numbered.{IsNumbering}
use Rattle.cxx_form.specs.Shared.{representative}
use Rattle.cxx_form.specs.Rows.{row_at}
use Rattle.cxx_form.specs.Views.{facts_in}
use Rattle.cxx_form.proofs.Enumerated.{enumerators_gathered}

pub one_declared : (old new : List FactId) (number : FactId) → new ≡ old ++ number ∷ [] → numbers_in new ≡ numbers_in old ++ number.0 ∷ []
one_declared old new number more = ap numbers_in more ∙ map-append number_in old (number ∷ [])

pub enumeration_declared : (all : List CxxFact) (rows : List (List FactId)) (n : EnumId) (old mid new row : List FactId) (number : FactId) → AreEnumerators all rows → mid ≡ old ++ number ∷ [] → row ≡ row_at rows n.0 → new ≡ mid ++ row → numbers_in new ≡ numbers_in old ++ number.0 ∷ enumerators_of n.0 0 all
enumeration_declared all rows n old mid new row number are first is second =
    ap numbers_in second ∙ map-append number_in mid row
    ∙ ap (λ (ns : List ℕ). ns ++ numbers_in row) (one_declared old mid number first)
    ∙ append_assoc (numbers_in old) (number.0 ∷ []) (numbers_in row)
    ∙ ap (λ (ns : List ℕ). numbers_in old ++ number.0 ∷ ns) (ap numbers_in (is ∙ are n.0) ∙ sym (enumerators_gathered n.0 0 all))

pub declared_more : (all : List CxxFact) (trees : List CxxTree) (lines : List Line) (i : ℕ) (d : Line) (old new : List ℕ) (whole : List ℕ) → i < length lines → new ≡ old ++ declared_on all (line_at trees (get_or lines i d)) → old ++ flat_map (declared_on all) (lines_at trees (drop i lines)) ≡ whole → new ++ flat_map (declared_on all) (lines_at trees (drop (i + 1) lines)) ≡ whole
declared_more all trees lines i d old new whole within more so =
    let left : List ℕ = flat_map (declared_on all) (lines_at trees (drop (i + 1) lines)) in
    ap (λ (ns : List ℕ). ns ++ left) more ∙ append_assoc old (declared_on all (line_at trees (get_or lines i d))) left ∙ ap (λ (ns : List ℕ). old ++ ns) (sym (at_drop_more (λ (xs : List Line). flat_map (declared_on all) (lines_at trees xs)) lines i d within)) ∙ so

pub declared_all : (all : List CxxFact) (trees : List CxxTree) (lines : List Line) (i : ℕ) (now : List ℕ) (whole : List ℕ) → length lines ≤ i → now ++ flat_map (declared_on all) (lines_at trees (drop i lines)) ≡ whole → now ≡ whole
declared_all all trees lines i now whole past so = sym (append-nil now) ∙ ap (λ (ns : List ℕ). now ++ ns) (sym (at_drop_all (λ (xs : List Line). flat_map (declared_on all) (lines_at trees xs)) lines i past)) ∙ so

-- ---- numbers

each_more : (order ones : List ℕ) (n : ℕ) → with_each_new order (ones ++ n ∷ []) ≡ with_new (with_each_new order ones) n
each_more order [] n = refl
each_more order (one ∷ ones) n = each_more (with_new order one) ones n

one_mapped : (f : ℕ → ℕ) (ones : List FactId) (one : FactId) → map f (numbers_in (ones ++ one ∷ [])) ≡ map f (numbers_in ones) ++ f one.0 ∷ []
one_mapped f ones one = ap (map f) (map-append number_in ones (one ∷ [])) ∙ map-append f (numbers_in ones) (one.0 ∷ [])

-- those of the first so many declarations, each as the one whose number it has
abbrev pub numbered_by : List CxxFact → List FactId → List ℕ
numbered_by all numbers = with_each_new [] (map (representative all) (numbers_in numbers))

pub numbered_more : (all : List CxxFact) (numbers : List FactId) (i : ℕ) (d : FactId) (first count : ℕ) (slots : List ℕ) → i < length numbers → first ≡ representative all (get_or numbers i d).0 → IsNumbering (with_new (numbered_by all (take i numbers)) first) count slots → IsNumbering (numbered_by all (take (i + 1) numbers)) count slots
numbered_more all numbers i d first count slots within at is =
    let earlier : List ℕ = map (representative all) (numbers_in (take i numbers)) in
    let same : numbered_by all (take (i + 1) numbers) ≡ with_new (numbered_by all (take i numbers)) first =
    ap (numbered_by all) (take_more numbers i d within) ∙ ap (with_each_new []) (one_mapped (representative all) (take i numbers) (get_or numbers i d)) ∙ each_more [] earlier (representative all (get_or numbers i d).0) ∙ ap (with_new (with_each_new [] earlier)) (sym at) in
    subst (λ (order : List ℕ). IsNumbering order count slots) (sym same) is

pub in_order : (held : Held) (found : List Line) (numbers : List FactId) (count : ℕ) (slots : List ℕ) → lines_at (trees held) found ≡ lines (meaning held) → numbers_in numbers ≡ flat_map (declared_on (facts_in held)) (lines_at (trees held) found) → IsNumbering (numbered_by (facts_in held) numbers) count slots → IsNumbering (text_order (meaning held)) count slots
unfolding text_order meaning
in_order held found numbers count slots are is numbered =
    subst (λ (order : List ℕ). IsNumbering order count slots) (ap (λ (ns : List ℕ). with_each_new [] (map (representative (facts_in held)) ns)) (is ∙ ap (flat_map (declared_on (facts_in held))) are)) numbered
