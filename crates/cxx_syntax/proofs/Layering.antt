-- What layers make of a type, one after another, from the type of the specifiers inward.
use Rattle.std.specs.Prelude.{ℕ, zero, suc, ◌≡◌, ◌<◌, ◌≤◌, Bool, true, false, if◌then◌else◌, List, [], ◌∷◌, length, drop, Option, None, Some, Result, Ok, Err, refl}
use Rattle.std.proofs.Common.{ap, sym, subst, ◌∙◌, arith}
use Rattle.std.proofs.lemmas.List.{drop_all}
use Rattle.cxx_model.specs.declared.evidence.SubstitutionText.{SubstitutionText}
use Rattle.cxx_model.specs.declared.memory.OutOfMemory.{OutOfMemory}
use Rattle.cxx_model.specs.declared.types.Cv.{Cv}
use Rattle.cxx_model.specs.declared.types.TypeId.{TypeId}
use Rattle.cxx_model.specs.Types.Numbers.{type_at, types_at}
use Rattle.cxx_model.specs.Types.Trees.{CxxType, CxxTypes, any_cv, pointer_to, qualified, type_then, adjusted}
use Rattle.cxx_types.specs.Parameters as parameters
use Rattle.cxx_reading.specs.Declarators as definition
use Rattle.cxx_reading.specs.Declarators.{pointer_layer, reference_layer, array_layer, function_layer, adjusted_types, declared_type, is_void, layer_on, member_layer_on, or_later, own_cv, refused_in, refused_on}
use Rattle.cxx_cursor.specs.declared.declarator.Layer.{Layer}
use Rattle.cxx_syntax.specs.declared.layers.Footing.{Footing}
use Rattle.cxx_syntax.specs.Layering.{IsDeclaredFrom, IsFooting, footing_of, footing_on, refused_by}
use Rattle.cxx_cursor.specs.Views.{AreLayersBelow, IsLayerBelow, layer_in, layers_in, types_in}
use Rattle.cxx_cursor.proofs.Kept as kept
use Rattle.cxx_tree.specs.Held.{Held, type_of}
use Rattle.cxx_tree.specs.Later.{MakesType}

-- ---- parameters

-- the types of parameters are adjusted as a table has them and as a list
pub adjusted_same : (types : List CxxType) (numbers : List TypeId) → parameters.adjusted_types (types_at types numbers) ≡ adjusted_types (types_in types numbers)
adjusted_same types [] = refl
adjusted_same types (n ∷ others) = ap (λ (ts : CxxTypes). type_then (adjusted (type_at types n.0)) ts) (adjusted_same types others)

-- ---- one layer

cv_footing : (has : Bool) (cv : Cv) (of : CxxType) → footing_of (if has then qualified cv (pointer_to of) else pointer_to of) ≡ record { is_void = false; is_reference = false; is_function = false }
cv_footing true cv of = refl
cv_footing false cv of = refl

pub footing_is : (layer : definition.Layer) (of : CxxType) → footing_of (layer_on layer of) ≡ footing_on layer
footing_is (pointer_layer cv) of = cv_footing (any_cv cv) cv of
footing_is reference_layer of = refl
footing_is (array_layer bound) of = refl
footing_is (function_layer parameters ellipsis scope) of = refl

footing_no_void : (layer : definition.Layer) → (footing_on layer).is_void ≡ false
footing_no_void (pointer_layer cv) = refl
footing_no_void reference_layer = refl
footing_no_void (array_layer bound) = refl
footing_no_void (function_layer parameters ellipsis scope) = refl

pub no_void : (layer : definition.Layer) (layers : List definition.Layer) (of : CxxType) → is_void (declared_type (layer ∷ layers) of) ≡ false
unfolding declared_type
no_void layer layers of = ap (λ (f : Footing). f.is_void) (footing_is layer (declared_type layers of)) ∙ footing_no_void layer

refused_is : (layer : definition.Layer) (of : CxxType) → refused_on layer of ≡ refused_by layer (footing_of of)
refused_is (pointer_layer cv) of = refl
refused_is reference_layer of = refl
refused_is (array_layer bound) of = refl
refused_is (function_layer parameters ellipsis scope) of = refl

-- ---- what is refused

refused_step : (layer : definition.Layer) (layers : List definition.Layer) (of : CxxType) → refused_in (layer ∷ layers) of ≡ or_later (refused_in layers of) (refused_on layer (declared_type layers of))
unfolding refused_in
refused_step layer layers of = refl

declared_step : (layer : definition.Layer) (layers : List definition.Layer) (of : CxxType) → declared_type (layer ∷ layers) of ≡ layer_on layer (declared_type layers of)
unfolding declared_type
declared_step layer layers of = refl

front_is : (layer : definition.Layer) (layers : List definition.Layer) (of : CxxType) (footing : Footing) → refused_in layers of ≡ None → footing_of (declared_type layers of) ≡ footing → refused_in (layer ∷ layers) of ≡ refused_by layer footing
front_is layer layers of footing fits is =
    refused_step layer layers of
    ∙ ap (λ (first : Option SubstitutionText). or_later first (refused_on layer (declared_type layers of))) fits
    ∙ refused_is layer (declared_type layers of)
    ∙ ap (λ (f : Footing). refused_by layer f) is

front_footing : (layer : definition.Layer) (layers : List definition.Layer) (of : CxxType) → footing_of (declared_type (layer ∷ layers) of) ≡ footing_on layer
front_footing layer layers of = ap (λ (t : CxxType). footing_of t) (declared_step layer layers of) ∙ footing_is layer (declared_type layers of)

pub stands : (at : ℕ) (types : List CxxType) (layers : List Layer) (of : CxxType) → at ≡ length layers → IsFooting at types layers of (footing_of of)
unfolding refused_in declared_type
stands at types layers of e =
    let none : drop at layers ≡ [] = drop_all at layers (omega (arith, e)) in
    record {
      fits = ap (λ (ls : List Layer). refused_in (layers_in types ls) of) none;
      is = ap (λ (ls : List Layer). footing_of (declared_type (layers_in types ls) of)) none;
    }

pub goes_on : (at next : ℕ) (types : List CxxType) (layers : List Layer) (layer : Layer) (of : CxxType) (footing : Footing) → IsFooting at types layers of footing → drop next layers ≡ layer ∷ drop at layers → refused_by (layer_in types layer) footing ≡ None → IsFooting next types layers of (footing_on (layer_in types layer))
goes_on at next types layers layer of footing standing front fits = record {
  fits = ap (λ (ls : List Layer). refused_in (layers_in types ls) of) front ∙ front_is (layer_in types layer) (layers_in types (drop at layers)) of footing standing.fits standing.is ∙ fits;
  is = ap (λ (ls : List Layer). footing_of (declared_type (layers_in types ls) of)) front ∙ front_footing (layer_in types layer) (layers_in types (drop at layers)) of;
}

early : (n : ℕ) (types : List CxxType) (layers : List Layer) (of : CxxType) (why : SubstitutionText) → refused_in (layers_in types (drop n layers)) of ≡ Some why → refused_in (layers_in types layers) of ≡ Some why
early zero types layers of why h = h
early (suc n) types [] of why h = h
early (suc n) types (layer ∷ layers) of why h =
    refused_step (layer_in types layer) (layers_in types layers) of
    ∙ ap (λ (first : Option SubstitutionText). or_later first (refused_on (layer_in types layer) (declared_type (layers_in types layers) of))) (early n types layers of why h)

pub stops : (at next : ℕ) (types : List CxxType) (layers : List Layer) (layer : Layer) (of : CxxType) (footing : Footing) (why : SubstitutionText) → IsFooting at types layers of footing → drop next layers ≡ layer ∷ drop at layers → refused_by (layer_in types layer) footing ≡ Some why → refused_in (layers_in types layers) of ≡ Some why
stops at next types layers layer of footing why standing front refused =
    early next types layers of why (ap (λ (ls : List Layer). refused_in (layers_in types ls) of) front ∙ front_is (layer_in types layer) (layers_in types (drop at layers)) of footing standing.fits standing.is ∙ refused)

pub stands_at : (at : ℕ) (types : List CxxType) (layers : List Layer) (of : CxxType) (footing : Footing) → at ≡ length layers → footing ≡ footing_of of → IsFooting at types layers of footing
stands_at at types layers of footing e is = subst (λ (f : Footing). IsFooting at types layers of f) (sym is) (stands at types layers of e)

pub stops_at : (at next : ℕ) (types : List CxxType) (layers : List Layer) (layer : Layer) (of : CxxType) (footing : Footing) (why : SubstitutionText) {result : Option SubstitutionText} → IsFooting at types layers of footing → drop next layers ≡ layer ∷ drop at layers → result ≡ refused_by (layer_in types layer) footing → result ≡ Some why → Some why ≡ refused_in (layers_in types layers) of
stops_at at next types layers layer of footing why standing front by is = sym (stops at next types layers layer of footing why standing front (sym by ∙ is))

pub goes_on_at : (at next : ℕ) (types : List CxxType) (layers : List Layer) (layer : Layer) (of : CxxType) (footing more : Footing) {result : Option SubstitutionText} → IsFooting at types layers of footing → drop next layers ≡ layer ∷ drop at layers → result ≡ refused_by (layer_in types layer) footing → result ≡ None → more ≡ footing_on (layer_in types layer) → IsFooting next types layers of more
goes_on_at at next types layers layer of footing more standing front by is made =
    subst (λ (f : Footing). IsFooting next types layers of f) (sym made) (goes_on at next types layers layer of footing standing front (sym by ∙ is))

pub fits : (at : ℕ) (types : List CxxType) (layers : List Layer) (of : CxxType) (footing : Footing) → IsFooting at types layers of footing → at ≡ 0 → refused_in (layers_in types layers) of ≡ None
fits at types layers of footing standing e = subst (λ n. refused_in (layers_in types (drop n layers)) of ≡ None) e standing.fits

-- ---- what is declared

pub declared_none : (at : ℕ) (layers : List Layer) (held : Held) (of : TypeId) → at ≡ length layers → of.0 < length held.types → IsDeclaredFrom at layers held held of of
unfolding declared_type
declared_none at layers held of e known =
    let none : drop at layers ≡ [] = drop_all at layers (omega (arith, e)) in
    record {
      is = sym (ap (λ (ls : List Layer). declared_type (layers_in held.types ls) (type_of held of)) none);
      known = known;
      later = kept.later_refl held;
      same = refl;
    }

one_below : (count : ℕ) (layers : List Layer) (layer : Layer) (rest : List Layer) → layers ≡ layer ∷ rest → AreLayersBelow count layers → IsLayerBelow count layer
one_below count layers layer rest e below = (let all : AreLayersBelow count (layer ∷ rest) = subst (λ (ls : List Layer). AreLayersBelow count ls) e below in all.0)

drop_below : (count n : ℕ) (layers : List Layer) → AreLayersBelow count layers → AreLayersBelow count (drop n layers)
drop_below count zero layers below = below
drop_below count (suc n) [] below = tt
drop_below count (suc n) (layer ∷ layers) below = drop_below count n layers below.1

front_below : (count next : ℕ) (layers : List Layer) (layer : Layer) (rest : List Layer) → drop next layers ≡ layer ∷ rest → AreLayersBelow count layers → IsLayerBelow count layer
front_below count next layers layer rest e below = one_below count (drop next layers) layer rest e (drop_below count next layers below)

pub layer_below : (at next : ℕ) (layers : List Layer) (layer : Layer) (old new : Held) (of made : TypeId) → IsDeclaredFrom at layers old new of made → drop next layers ≡ layer ∷ drop at layers → AreLayersBelow (length old.types) layers → IsLayerBelow (length new.types) layer
layer_below at next layers layer old new of made so_far front below = kept.layer_later old new layer so_far.later (front_below (length old.types) next layers layer (drop at layers) front below)

made_more : (at next : ℕ) (layers : List Layer) (layer : Layer) (old mid new : Held) (of made more : TypeId) → IsDeclaredFrom at layers old mid of made → drop next layers ≡ layer ∷ drop at layers → AreLayersBelow (length old.types) layers → MakesType mid new (Ok more) (layer_on (layer_in mid.types layer) (type_of mid made)) → IsDeclaredFrom next layers old new of more
made_more at next layers layer old mid new of made more so_far front below makes = record {
  is =
      makes.made.1
      ∙ ap (λ (l : definition.Layer). layer_on l (type_of mid made)) (kept.layer_kept old mid layer so_far.later (front_below (length old.types) next layers layer (drop at layers) front below))
      ∙ ap (λ (t : CxxType). layer_on (layer_in old.types layer) t) so_far.is
      ∙ sym (declared_step (layer_in old.types layer) (layers_in old.types (drop at layers)) (type_of old of))
      ∙ sym (ap (λ (ls : List Layer). declared_type (layers_in old.types ls) (type_of old of)) front);
  known = makes.made.0;
  later = kept.later_trans old mid new so_far.later makes.later;
  same = makes.same ∙ so_far.same;
}

pub declared_more : (at next : ℕ) (layers : List Layer) (layer : Layer) (old mid new : Held) (of made more : TypeId) (result : Result TypeId OutOfMemory) → IsDeclaredFrom at layers old mid of made → drop next layers ≡ layer ∷ drop at layers → AreLayersBelow (length old.types) layers → MakesType mid new result (layer_on (layer_in mid.types layer) (type_of mid made)) → result ≡ Ok more → IsDeclaredFrom next layers old new of more
declared_more at next layers layer old mid new of made more result so_far front below makes is =
    made_more at next layers layer old mid new of made more so_far front below (subst (λ (r : Result TypeId OutOfMemory). MakesType mid new r (layer_on (layer_in mid.types layer) (type_of mid made))) is makes)

pub declared_stops : (at : ℕ) (layers : List Layer) (old mid new : Held) (of made : TypeId) (memory other : OutOfMemory) (one two : CxxType) → IsDeclaredFrom at layers old mid of made → MakesType mid new (Err memory) one → MakesType old new (Err other) two
declared_stops at layers old mid new of made memory other one two so_far makes = record {
  later = kept.later_trans old mid new so_far.later makes.later;
  same = makes.same ∙ so_far.same;
  made = tt;
}

pub declared_all : (at : ℕ) (layers : List Layer) (old new : Held) (of made : TypeId) → IsDeclaredFrom at layers old new of made → at ≡ 0 → MakesType old new (Ok made) (declared_type (layers_in old.types layers) (type_of old of))
declared_all at layers old new of made so_far e = record {
  later = so_far.later;
  same = so_far.same;
  made = (so_far.known, subst (λ n. type_of new made ≡ declared_type (layers_in old.types (drop n layers)) (type_of old of)) e so_far.is);
}

-- ---- of members (9.3.1)

pub member_below : (layer : Layer) (old mid : Held) (made : TypeId) (result : Result TypeId OutOfMemory) (one : CxxType) → MakesType old mid result one → IsLayerBelow (length old.types) layer → IsLayerBelow (length mid.types) layer
member_below layer old mid made result one makes below = kept.layer_later old mid layer makes.later below

pub member_made : (layer : Layer) (others : List Layer) (words : Cv) (old mid new : Held) (of made : TypeId) (first result : Result TypeId OutOfMemory) → IsLayerBelow (length old.types) layer → MakesType old mid first (declared_type (layers_in old.types others) (type_of old of)) → first ≡ Ok made
    → MakesType mid new result (member_layer_on words (layer_in mid.types layer) (type_of mid made)) → MakesType old new result (member_layer_on words (layer_in old.types layer) (declared_type (layers_in old.types others) (type_of old of)))
member_made layer others words old mid new of made first result below start is makes =
    let begun : MakesType old mid (Ok made) (declared_type (layers_in old.types others) (type_of old of)) = subst (λ (r : Result TypeId OutOfMemory). MakesType old mid r (declared_type (layers_in old.types others) (type_of old of))) is start in
    let same_type : member_layer_on words (layer_in mid.types layer) (type_of mid made) ≡ member_layer_on words (layer_in old.types layer) (declared_type (layers_in old.types others) (type_of old of)) =
    ap (λ (l : definition.Layer). member_layer_on words l (type_of mid made)) (kept.layer_kept old mid layer begun.later below)
    ∙ ap (λ (t : CxxType). member_layer_on words (layer_in old.types layer) t) begun.made.1 in
    let ended : MakesType mid new result (member_layer_on words (layer_in old.types layer) (declared_type (layers_in old.types others) (type_of old of))) = subst (λ (t : CxxType). MakesType mid new result t) same_type makes in
    record { later = kept.later_trans old mid new begun.later ended.later; same = ended.same ∙ begun.same; made = ended.made }

pub member_stops : (old mid : Held) (memory : OutOfMemory) (first : Result TypeId OutOfMemory) (one two : CxxType) → MakesType old mid first one → first ≡ Err memory → MakesType old mid (Err memory) two
member_stops old mid memory first one two makes is =
    let stopped : MakesType old mid (Err memory) one = subst (λ (r : Result TypeId OutOfMemory). MakesType old mid r one) is makes in
    record { later = stopped.later; same = stopped.same; made = tt }

pub own_of_some : (types : List CxxType) (layers : List Layer) (words before : Cv) → 1 ≤ length layers → before ≡ own_cv (layers_in types layers) words before
own_of_some types [] words before some = absurd (omega (arith, some))
own_of_some types (layer ∷ layers) words before some = refl

pub void_of_none : (types : List CxxType) (layers : List Layer) (of : CxxType) → length layers < 1 → is_void (declared_type (layers_in types layers) of) ≡ is_void of
unfolding declared_type
void_of_none types [] of short = refl
void_of_none types (layer ∷ layers) of short = absurd (omega (arith, short))

pub void_of_some : (types : List CxxType) (layers : List Layer) (of : CxxType) → 1 ≤ length layers → is_void (declared_type (layers_in types layers) of) ≡ false
void_of_some types [] of some = absurd (omega (arith, some))
void_of_some types (layer ∷ layers) of some = no_void (layer_in types layer) (layers_in types layers) of
