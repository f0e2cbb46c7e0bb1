-- Types of parameters that are made in turn.
use Rattle.std.specs.Prelude.{ℕ, ◌≡◌, ◌<◌, ◌+◌, List, [], ◌∷◌, ◌++◌, length, map, take, Option, Some, None, Result, Ok, Err, IsErr, refl}
use Rattle.std.proofs.Common.{ap, sym, subst, ◌∙◌, get_or}
use Rattle.std.specs.List.{All}
use Rattle.std.proofs.lemmas.List.{map-append, take_more}
use Rattle.std.proofs.lemmas.List.Elements.{All-get_or, All-head, All-push, All-tail, All-weaker}
use Rattle.cxx_model.specs.declared.memory.OutOfMemory.{OutOfMemory}
use Rattle.cxx_model.specs.declared.types.TypeId.{TypeId}
use Rattle.cxx_model.specs.Facts.Fitted.{Fitted}
use Rattle.cxx_model.specs.Facts.Graph.{Graph, IsTypeInRange}
use Rattle.cxx_model.specs.Types.Numbers.{type_at, AreTypesBelow, Keeps}
use Rattle.cxx_model.specs.Types.Trees.{CxxType, pointer_to, reference_to}
use Rattle.cxx_model.proofs.TypeTrees.{Keeps-trans}
use Rattle.cxx_types.specs.Makes.{Makes}
use Rattle.cxx_types.proofs.Making.{makes_then, makes_same, makes_stopped}
use Rattle.cxx_builtin.specs.Built.{MakesList, list_at}
use Rattle.cxx_builtin.proofs.Drawing.{fitted_later, list_later, number_later, numbers_later, with_cv_in_range}
use Rattle.cxx_candidates.specs.declared.shapes.Form.{Form}
use Rattle.cxx_candidates.specs.declared.shapes.Form.TheVariants as form
use Rattle.cxx_candidates.specs.declared.shapes.Shape.{Shape}
use Rattle.cxx_candidates.specs.declared.shapes.Slot.{Slot}
use Rattle.cxx_candidates.specs.declared.shapes.Slot.TheVariants as slot
use Rattle.cxx_candidates.specs.Candidates.{volatile}
use Rattle.cxx_candidates.specs.Shapes.{AreListsBelow, AreShapesKnown, IsSecondKnown, IsShapeKnown, IsSlotKnown, MakesLists, formed, lists_at, second_at, shape_at, shapes_at, slot_at}

-- ---- references

pub reference_made : (old mid new : List CxxType) (of : TypeId) (result : Result TypeId OutOfMemory) (t : CxxType) → Makes old mid (Ok of) t → Makes mid new result (reference_to (type_at mid of.0)) → Makes old new result (reference_to t)
reference_made old mid new of result t one two =
    makes_then old mid new (Ok of) result t (reference_to t) one (makes_same mid new result (reference_to (type_at mid of.0)) (reference_to t) (ap reference_to one.made.1) two) (λ graph all whole. whole)

pub reference_stopped : (old new : List CxxType) (first result : Result TypeId OutOfMemory) (t : CxxType) → IsErr result → Makes old new first t → Makes old new result (reference_to t)
reference_stopped old new first result t stopped one = makes_stopped old new first result t (reference_to t) stopped one (λ graph all whole. whole)

-- ---- what slots are of is in range, and stays the same

slot_in_range : (graph : Graph) (types : List CxxType) (one : Slot) → Fitted graph types → IsSlotKnown graph (length types) one → IsTypeInRange graph (slot_at types one)
slot_in_range graph types (slot.Plain of) fitted known = tt
slot_in_range graph types (slot.PointerTo to) fitted known = fitted.names to.0 known
slot_in_range graph types (slot.Enumeration number) fitted known = known

formed_in_range : (graph : Graph) (how : Form) (t : CxxType) → IsTypeInRange graph t → IsTypeInRange graph (formed how t)
formed_in_range graph form.Value t ok = ok
formed_in_range graph form.Reference t ok = ok
formed_in_range graph form.VolatileReference t ok = with_cv_in_range graph volatile t ok

slot_known_later : (graph : Graph) (old new : List CxxType) (one : Slot) → IsSlotKnown graph (length old) one → Keeps old new → IsSlotKnown graph (length new) one
slot_known_later graph old new (slot.Plain of) known keeps = tt
slot_known_later graph old new (slot.PointerTo to) known keeps = number_later old new to known keeps
slot_known_later graph old new (slot.Enumeration number) known keeps = known

slot_later : (graph : Graph) (old new : List CxxType) (one : Slot) → IsSlotKnown graph (length old) one → Keeps old new → slot_at new one ≡ slot_at old one
slot_later graph old new (slot.Plain of) known keeps = refl
slot_later graph old new (slot.PointerTo to) known keeps = ap pointer_to (keeps.same to.0 known)
slot_later graph old new (slot.Enumeration number) known keeps = refl

-- ---- one list

pub one_stopped : (graph : Graph) (old new : List CxxType) (how : Form) (one : Slot) (first : Result TypeId OutOfMemory) (result : Result (List TypeId) OutOfMemory) (ts : List CxxType) → Fitted graph old → IsSlotKnown graph (length old) one → Makes old new first (formed how (slot_at old one)) → IsErr result → MakesList graph old new result ts
one_stopped graph old new how one first (Ok numbers) ts fitted known makes stopped = absurd (cc)
one_stopped graph old new how one first (Err fault) ts fitted known makes stopped = record { keeps = makes.keeps; made = tt; fitted = fitted_later graph old new first (formed how (slot_at old one)) fitted (formed_in_range graph how (slot_at old one) (slot_in_range graph old one fitted known)) makes }

pub list_of_one : (graph : Graph) (old new : List CxxType) (how : Form) (one : Slot) (number : TypeId) (before numbers : List TypeId) → Fitted graph old → IsSlotKnown graph (length old) one → Makes old new (Ok number) (formed how (slot_at old one)) → before ≡ [] → numbers ≡ before ++ number ∷ [] → MakesList graph old new (Ok numbers) (formed how (slot_at old one) ∷ [])
list_of_one graph old new how one number before numbers fitted known makes none is =
    let P : List TypeId → Type 0 = λ (ns : List TypeId). MakesList graph old new (Ok ns) (formed how (slot_at old one) ∷ []) in
    let all : number ∷ [] ≡ numbers = sym (is ∙ ap (λ ns. ns ++ number ∷ []) none) in
    subst P all (record { keeps = makes.keeps; made = ((makes.made.0, tt), ap (λ t. t ∷ []) makes.made.1); fitted = fitted_later graph old new (Ok number) (formed how (slot_at old one)) fitted (formed_in_range graph how (slot_at old one) (slot_in_range graph old one fitted known)) makes })

-- a further type behind a list that was made
pub two_stopped : (graph : Graph) (old mid new : List CxxType) (one : Slot) (done : List TypeId) (first : Result TypeId OutOfMemory) (result : Result (List TypeId) OutOfMemory) (some ts : List CxxType) → MakesList graph old mid (Ok done) some → IsSlotKnown graph (length old) one → Makes mid new first (slot_at mid one) → IsErr result → MakesList graph old new result ts
two_stopped graph old mid new one done first (Ok numbers) some ts list known makes stopped = absurd (cc)
two_stopped graph old mid new one done first (Err fault) some ts list known makes stopped = record {
  keeps = Keeps-trans old mid new list.keeps makes.keeps;
  made = tt;
  fitted = fitted_later graph mid new first (slot_at mid one) list.fitted (slot_in_range graph mid one list.fitted (slot_known_later graph old mid one known list.keeps)) makes;
}

list_more : (types : List CxxType) (ns : List TypeId) (n : TypeId) → list_at types (ns ++ n ∷ []) ≡ list_at types ns ++ type_at types n.0 ∷ []
list_more types ns n = map-append (λ (m : TypeId). type_at types m.0) ns (n ∷ [])

numbers_more : (count : ℕ) (ns : List TypeId) (n : TypeId) → AreTypesBelow count ns → n.0 < count → AreTypesBelow count (ns ++ n ∷ [])
numbers_more count [] n known last = (last, tt)
numbers_more count (m ∷ ms) n known last = (known.0, numbers_more count ms n known.1 last)

pub list_of_two : (graph : Graph) (old mid new : List CxxType) (one : Slot) (done numbers : List TypeId) (number : TypeId) (some : List CxxType) → MakesList graph old mid (Ok done) some → IsSlotKnown graph (length old) one → Makes mid new (Ok number) (slot_at mid one) → numbers ≡ done ++ number ∷ [] → MakesList graph old new (Ok numbers) (some ++ slot_at old one ∷ [])
list_of_two graph old mid new one done numbers number some list known makes is =
    let P : List TypeId → Type 0 = λ (ns : List TypeId). MakesList graph old new (Ok ns) (some ++ slot_at old one ∷ []) in
    let here : list_at new (done ++ number ∷ []) ≡ some ++ slot_at old one ∷ [] = (
    list_more new done number ∙ ap (λ ts. ts ++ type_at new number.0 ∷ []) (list_later mid new done list.made.0 makes.keeps ∙ list.made.1) ∙ ap (λ t. some ++ t ∷ []) (makes.made.1 ∙ slot_later graph old mid one known list.keeps)
    ) in
    subst P (sym is) (record {
      keeps = Keeps-trans old mid new list.keeps makes.keeps;
      made = (numbers_more (length new) done number (numbers_later mid new done list.made.0 makes.keeps) makes.made.0, here);
      fitted = fitted_later graph mid new (Ok number) (slot_at mid one) list.fitted (slot_in_range graph mid one list.fitted (slot_known_later graph old mid one known list.keeps)) makes;
    })

-- ---- all lists

second_later : (graph : Graph) (old new : List CxxType) (other : Option Slot) → IsSecondKnown graph (length old) other → Keeps old new → second_at new other ≡ second_at old other
second_later graph old new None known keeps = refl
second_later graph old new (Some one) known keeps = ap (λ t. t ∷ []) (slot_later graph old new one known keeps)

shape_later : (graph : Graph) (old new : List CxxType) (one : Shape) → IsShapeKnown graph (length old) one → Keeps old new → shape_at new one ≡ shape_at old one
shape_later graph old new one known keeps =
    ap (λ t. formed one.form t ∷ second_at new one.second) (slot_later graph old new one.first known.first keeps) ∙ ap (λ ts. formed one.form (slot_at old one.first) ∷ ts) (second_later graph old new one.second known.second keeps)

lists_later : (old new : List CxxType) (lists : List (List TypeId)) → AreListsBelow (length old) lists → Keeps old new → lists_at new lists ≡ lists_at old lists
lists_later old new [] known keeps = refl
lists_later old new (ns ∷ rest) known keeps =
    ap (λ ts. ts ∷ lists_at new rest) (list_later old new ns (All-head (AreTypesBelow (length old)) ns rest known) keeps) ∙ ap (λ more. list_at old ns ∷ more) (lists_later old new rest (All-tail (AreTypesBelow (length old)) ns rest known) keeps)

lists_below_later : (old new : List CxxType) (lists : List (List TypeId)) → AreListsBelow (length old) lists → Keeps old new → AreListsBelow (length new) lists
lists_below_later old new lists known keeps = All-weaker (AreTypesBelow (length old)) (AreTypesBelow (length new)) (λ ns below. numbers_later old new ns below keeps) lists known

pub one_more_made : (graph : Graph) (old now new : List CxxType) (lists more : List (List TypeId)) (numbers : List TypeId) (shapes : List Shape) (one : Shape) → MakesLists graph old now (Ok lists) (shapes_at old shapes) → IsShapeKnown graph (length old) one → MakesList graph now new (Ok numbers) (shape_at now one) → more ≡ lists ++ numbers ∷ [] → MakesLists graph old new (Ok more) (shapes_at old (shapes ++ one ∷ []))
one_more_made graph old now new lists more numbers shapes one so known made is =
    let P : List (List TypeId) → Type 0 = λ ls. MakesLists graph old new (Ok ls) (shapes_at old (shapes ++ one ∷ [])) in
    let here : lists_at new (lists ++ numbers ∷ []) ≡ shapes_at old (shapes ++ one ∷ []) = (
    map-append (list_at new) lists (numbers ∷ []) ∙
    ap (λ ls. ls ++ list_at new numbers ∷ []) (lists_later now new lists so.made.0 made.keeps ∙ so.made.1) ∙
    ap (λ ts. shapes_at old shapes ++ ts ∷ []) (made.made.1 ∙ shape_later graph old now one known so.keeps) ∙
    sym (map-append (shape_at old) shapes (one ∷ []))
    ) in
    subst P (sym is) (record {
      keeps = Keeps-trans old now new so.keeps made.keeps;
      made = (All-push (AreTypesBelow (length new)) lists numbers (lists_below_later now new lists so.made.0 made.keeps) made.made.0, here);
      fitted = made.fitted;
    })

pub all_more : (graph : Graph) (old now new : List CxxType) (lists more : List (List TypeId)) (numbers : List TypeId) (shapes : List Shape) (i : ℕ) (d : Shape) → i < length shapes → AreShapesKnown graph (length old) shapes → MakesLists graph old now (Ok lists) (shapes_at old (take i shapes)) → MakesList graph now new (Ok numbers) (shape_at now (get_or shapes i d)) → more ≡ lists ++ numbers ∷ [] → MakesLists graph old new (Ok more) (shapes_at old (take (i + 1) shapes))
all_more graph old now new lists more numbers shapes i d h known so made e =
    let P : List Shape → Type 0 = λ ss. MakesLists graph old new (Ok more) (shapes_at old ss) in
    subst P (sym (take_more shapes i d h)) (one_more_made graph old now new lists more numbers (take i shapes) (get_or shapes i d) so (All-get_or (IsShapeKnown graph (length old)) shapes i d h known) made e)
