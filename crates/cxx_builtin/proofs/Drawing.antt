-- Makers in turn, and what is in range of a graph where the table is.
use Rattle.std.specs.Prelude.{ℕ, ◌≡◌, ◌<◌, ◌≤◌, ◌++◌, Bool, true, false, List, [], ◌∷◌, length, Result, Ok, Err, IsErr, if◌then◌else◌, refl}
use Rattle.std.proofs.Common.{ap, sym, subst, ◌∙◌, arith}
use Rattle.cxx_model.specs.declared.memory.OutOfMemory.{OutOfMemory}
use Rattle.cxx_model.specs.declared.overload.BuiltIn.{BuiltIn}
use Rattle.cxx_model.specs.declared.types.Cv.{Cv}
use Rattle.cxx_model.specs.declared.types.TypeId.{TypeId}
use Rattle.cxx_model.specs.Facts.Fitted.{Fitted}
use Rattle.cxx_model.specs.Facts.Graph.{Graph, IsTypeInRange}
use Rattle.cxx_model.specs.Types.Numbers.{type_at, AreTypesBelow, Keeps}
use Rattle.cxx_model.specs.Types.Trees.{CxxType, fundamental, class_type, enumeration, pointer_to, reference_to, array_of, function_of, qualified, type_parameter, specialisation, nested_in, any_cv, merged, layered, with_cv, adjusted, unqualified}
use Rattle.cxx_graph.proofs.Fitting.{fitted-table}
use Rattle.cxx_types.specs.Makes.{Makes}
use Rattle.cxx_types.proofs.Making.{makes_then, makes_same, makes_stopped}
use Rattle.cxx_types.proofs.Ranges.{with-cv-range}
use Rattle.cxx_meaning.specs.Conversions.BuiltIn.{CxxBuiltIn}
use Rattle.cxx_meaning.specs.Conversions.Kinds.{cv_of, signature}
use Rattle.cxx_meaning.specs.Conversions.Pointers.{common_similar, joined, leveled}
use Rattle.cxx_builtin.specs.Built.{Builds, MakesList, built_at, list_at}
use Rattle.cxx_builtin.specs.declared.plan.Plan.{Plan}
use Rattle.cxx_builtin.specs.declared.plan.Sketch.{Sketch}
use Rattle.cxx_builtin.specs.declared.plan.Sketch.TheVariants as sketch
use Rattle.cxx_builtin.specs.Plans.{IsSketchBelow, plan_at, second_at, sketch_at}

-- ---- a pointer to a type with further words

pub added_made : (old mid new : List CxxType) (of : TypeId) (result : Result TypeId OutOfMemory) (cv : Cv) (t : CxxType) → Makes old mid (Ok of) (with_cv cv t) → Makes mid new result (pointer_to (type_at mid of.0)) → Makes old new result (pointer_to (with_cv cv t))
added_made old mid new of result cv t one two =
    makes_then old mid new (Ok of) result (with_cv cv t) (pointer_to (with_cv cv t)) one (makes_same mid new result (pointer_to (type_at mid of.0)) (pointer_to (with_cv cv t)) (ap pointer_to one.made.1) two) (λ graph all whole. whole)

pub added_stopped : (old new : List CxxType) (first result : Result TypeId OutOfMemory) (cv : Cv) (t : CxxType) → IsErr result → Makes old new first (with_cv cv t) → Makes old new result (pointer_to (with_cv cv t))
added_stopped old new first result cv t stopped one = makes_stopped old new first result (with_cv cv t) (pointer_to (with_cv cv t)) stopped one (λ graph all whole. whole)

-- ---- other words on a type that is made first

pub words_made : (old mid new : List CxxType) (of : TypeId) (result : Result TypeId OutOfMemory) (cv : Cv) (t : CxxType) → Makes old mid (Ok of) t → Makes mid new result (with_cv cv (type_at mid of.0)) → Makes old new result (with_cv cv t)
words_made old mid new of result cv t one two =
    makes_then old mid new (Ok of) result t (with_cv cv t) one (makes_same mid new result (with_cv cv (type_at mid of.0)) (with_cv cv t) (ap (with_cv cv) one.made.1) two) (λ graph all whole. with-cv-range graph cv t whole)

pub words_stopped : (old new : List CxxType) (first result : Result TypeId OutOfMemory) (cv : Cv) (t : CxxType) → IsErr result → Makes old new first t → Makes old new result (with_cv cv t)
words_stopped old new first result cv t stopped one = makes_stopped old new first result t (with_cv cv t) stopped one (λ graph all whole. with-cv-range graph cv t whole)

-- ---- ranges

layered_in_range : (graph : Graph) (cv : Cv) (t : CxxType) → IsTypeInRange graph t → IsTypeInRange graph (layered cv t)
layered_in_range graph cv t = by (any_cv cv)
  where
    by : (b : Bool) → IsTypeInRange graph t → IsTypeInRange graph (if b then qualified cv t else t)
    by true ok = ok
    by false ok = ok

pub with_cv_in_range : (graph : Graph) (cv : Cv) (t : CxxType) → IsTypeInRange graph t → IsTypeInRange graph (with_cv cv t)
with_cv_in_range graph cv (fundamental of) ok = layered_in_range graph cv (fundamental of) ok
with_cv_in_range graph cv (class_type n) ok = layered_in_range graph cv (class_type n) ok
with_cv_in_range graph cv (enumeration n) ok = layered_in_range graph cv (enumeration n) ok
with_cv_in_range graph cv (pointer_to t) ok = layered_in_range graph cv (pointer_to t) ok
with_cv_in_range graph cv (reference_to t) ok = ok
with_cv_in_range graph cv (array_of t bound) ok = (with_cv_in_range graph cv t ok.0, ok.1)
with_cv_in_range graph cv (function_of r ts ellipsis own) ok = ok
with_cv_in_range graph cv (qualified own t) ok = layered_in_range graph (merged cv own) t ok
with_cv_in_range graph cv (type_parameter depth index) ok = layered_in_range graph cv (type_parameter depth index) ok
with_cv_in_range graph cv (specialisation n given) ok = layered_in_range graph cv (specialisation n given) ok
with_cv_in_range graph cv (nested_in t word) ok = layered_in_range graph cv (nested_in t word) ok

pub unqualified_in_range : (graph : Graph) (t : CxxType) → IsTypeInRange graph t → IsTypeInRange graph (unqualified t)
unqualified_in_range graph (fundamental of) ok = ok
unqualified_in_range graph (class_type n) ok = ok
unqualified_in_range graph (enumeration n) ok = ok
unqualified_in_range graph (pointer_to t) ok = ok
unqualified_in_range graph (reference_to t) ok = ok
unqualified_in_range graph (array_of t bound) ok = (unqualified_in_range graph t ok.0, ok.1)
unqualified_in_range graph (function_of r ts ellipsis own) ok = ok
unqualified_in_range graph (qualified own t) ok = ok
unqualified_in_range graph (type_parameter depth index) ok = ok
unqualified_in_range graph (specialisation n given) ok = ok
unqualified_in_range graph (nested_in t word) ok = ok

pub adjusted_in_range : (graph : Graph) (t : CxxType) → IsTypeInRange graph t → IsTypeInRange graph (adjusted t)
adjusted_in_range graph (fundamental of) ok = ok
adjusted_in_range graph (class_type n) ok = ok
adjusted_in_range graph (enumeration n) ok = ok
adjusted_in_range graph (pointer_to t) ok = ok
adjusted_in_range graph (reference_to t) ok = ok
adjusted_in_range graph (array_of t bound) ok = ok.0
adjusted_in_range graph (function_of r ts ellipsis own) ok = ok
adjusted_in_range graph (qualified own t) ok = ok
adjusted_in_range graph (type_parameter depth index) ok = ok
adjusted_in_range graph (specialisation n given) ok = ok
adjusted_in_range graph (nested_in t word) ok = ok

-- ---- a table that grew, beside its graph

pub fitted_later : (graph : Graph) (old new : List CxxType) (result : Result TypeId OutOfMemory) (t : CxxType) → Fitted graph old → IsTypeInRange graph t → Makes old new result t → Fitted graph new
fitted_later graph old new result t fitted ok made = fitted-table graph old new fitted made.keeps (λ i from below. made.fits graph fitted.names ok i below)

pub number_later : (old new : List CxxType) (n : TypeId) → n.0 < length old → Keeps old new → n.0 < length new
number_later old new n known keeps = (let grown : length old ≤ length new = keeps.grows in omega arith)

pub numbers_later : (old new : List CxxType) (ns : List TypeId) → AreTypesBelow (length old) ns → Keeps old new → AreTypesBelow (length new) ns
numbers_later old new [] known keeps = tt
numbers_later old new (n ∷ ns) known keeps = (number_later old new n known.0 keeps, numbers_later old new ns known.1 keeps)

pub list_later : (old new : List CxxType) (ns : List TypeId) → AreTypesBelow (length old) ns → Keeps old new → list_at new ns ≡ list_at old ns
list_later old new [] known keeps = refl
list_later old new (n ∷ ns) known keeps =
    let first : type_at new n.0 ≡ type_at old n.0 = keeps.same n.0 known.0 in
    let rest : list_at new ns ≡ list_at old ns = list_later old new ns known.1 keeps in
    cc

numbers_more : (count : ℕ) (ns : List TypeId) (n : TypeId) → AreTypesBelow count ns → n.0 < count → AreTypesBelow count (ns ++ n ∷ [])
numbers_more count [] n known last = (last, tt)
numbers_more count (m ∷ ms) n known last = (known.0, numbers_more count ms n known.1 last)

list_more : (types : List CxxType) (ns : List TypeId) (n : TypeId) → list_at types (ns ++ n ∷ []) ≡ list_at types ns ++ type_at types n.0 ∷ []
list_more types [] n = refl
list_more types (m ∷ ms) n = ap (λ rest. type_at types m.0 ∷ rest) (list_more types ms n)

-- ---- what a sketch is of is in range, and stays the same

pub leveled_in_range : (graph : Graph) (levels : List Cv) (t : CxxType) → IsTypeInRange graph t → IsTypeInRange graph (leveled levels t)
leveled_in_range graph [] t ok = ok
leveled_in_range graph (cv ∷ cvs) (pointer_to t) ok = with_cv_in_range graph cv (pointer_to (leveled cvs t)) (leveled_in_range graph cvs t ok)
leveled_in_range graph (cv ∷ cvs) (qualified own t) ok = leveled_in_range graph (cv ∷ cvs) t ok
leveled_in_range graph (cv ∷ cvs) (fundamental of) ok = with_cv_in_range graph cv (fundamental of) ok
leveled_in_range graph (cv ∷ cvs) (class_type n) ok = with_cv_in_range graph cv (class_type n) ok
leveled_in_range graph (cv ∷ cvs) (enumeration n) ok = with_cv_in_range graph cv (enumeration n) ok
leveled_in_range graph (cv ∷ cvs) (reference_to t) ok = ok
leveled_in_range graph (cv ∷ cvs) (array_of t bound) ok = with_cv_in_range graph cv (unqualified (array_of t bound)) (unqualified_in_range graph (array_of t bound) ok)
leveled_in_range graph (cv ∷ cvs) (function_of r ts ellipsis own) ok = ok
leveled_in_range graph (cv ∷ cvs) (type_parameter depth index) ok = with_cv_in_range graph cv (type_parameter depth index) ok
leveled_in_range graph (cv ∷ cvs) (specialisation n given) ok = with_cv_in_range graph cv (specialisation n given) ok
leveled_in_range graph (cv ∷ cvs) (nested_in t word) ok = with_cv_in_range graph cv (nested_in t word) ok

pub sketch_in_range : (graph : Graph) (types : List CxxType) (one : Sketch) → Fitted graph types → IsSketchBelow (length types) one → IsTypeInRange graph (sketch_at types one)
sketch_in_range graph types (sketch.Plain of) fitted known = tt
sketch_in_range graph types (sketch.Known of) fitted known = fitted.names of.0 known
sketch_in_range graph types (sketch.Value of) fitted known = adjusted_in_range graph (type_at types of.0) (fitted.names of.0 known)
sketch_in_range graph types (sketch.Bare of) fitted known = unqualified_in_range graph (type_at types of.0) (fitted.names of.0 known)
sketch_in_range graph types (sketch.PointerTo of) fitted known = fitted.names of.0 known
sketch_in_range graph types (sketch.Added of cv) fitted known = with_cv_in_range graph cv (type_at types of.0) (fitted.names of.0 known)
sketch_in_range graph types (sketch.Similar one two) fitted known = leveled_in_range graph ((joined (cv_of (type_at types one.0) ∷ signature (type_at types one.0)) (cv_of (type_at types two.0) ∷ signature (type_at types two.0))).levels) (type_at types one.0) (fitted.names one.0 known.0)

pub sketch_below_later : (old new : List CxxType) (one : Sketch) → IsSketchBelow (length old) one → Keeps old new → IsSketchBelow (length new) one
sketch_below_later old new (sketch.Plain of) known keeps = tt
sketch_below_later old new (sketch.Known of) known keeps = number_later old new of known keeps
sketch_below_later old new (sketch.Value of) known keeps = number_later old new of known keeps
sketch_below_later old new (sketch.Bare of) known keeps = number_later old new of known keeps
sketch_below_later old new (sketch.PointerTo of) known keeps = number_later old new of known keeps
sketch_below_later old new (sketch.Added of cv) known keeps = number_later old new of known keeps
sketch_below_later old new (sketch.Similar one two) known keeps = (number_later old new one known.0 keeps, number_later old new two known.1 keeps)

pub sketch_later : (old new : List CxxType) (one : Sketch) → IsSketchBelow (length old) one → Keeps old new → sketch_at new one ≡ sketch_at old one
sketch_later old new (sketch.Plain of) known keeps = refl
sketch_later old new (sketch.Known of) known keeps = keeps.same of.0 known
sketch_later old new (sketch.Value of) known keeps = ap adjusted (keeps.same of.0 known)
sketch_later old new (sketch.Bare of) known keeps = ap unqualified (keeps.same of.0 known)
sketch_later old new (sketch.PointerTo of) known keeps = ap pointer_to (keeps.same of.0 known)
sketch_later old new (sketch.Added of cv) known keeps = ap (λ t. pointer_to (with_cv cv t)) (keeps.same of.0 known)
sketch_later old new (sketch.Similar one two) known keeps =
    ap (λ t. common_similar t (type_at new two.0)) (keeps.same one.0 known.0) ∙ ap (λ t. common_similar (type_at old one.0) t) (keeps.same two.0 known.1)

-- ---- lists of types

pub list_stopped : (graph : Graph) (old new : List CxxType) (one : Sketch) (first : Result TypeId OutOfMemory) (result : Result (List TypeId) OutOfMemory) (ts : List CxxType) → Fitted graph old → IsSketchBelow (length old) one → Makes old new first (sketch_at old one) → IsErr result → MakesList graph old new result ts
list_stopped graph old new one first (Ok numbers) ts fitted known makes stopped = absurd (cc)
list_stopped graph old new one first (Err fault) ts fitted known makes stopped = record { keeps = makes.keeps; made = tt; fitted = fitted_later graph old new first (sketch_at old one) fitted (sketch_in_range graph old one fitted known) makes }

pub list_of_one : (graph : Graph) (old new : List CxxType) (one : Sketch) (number : TypeId) (before numbers : List TypeId) → Fitted graph old → IsSketchBelow (length old) one → Makes old new (Ok number) (sketch_at old one) → before ≡ [] → numbers ≡ before ++ number ∷ [] → MakesList graph old new (Ok numbers) (sketch_at old one ∷ [])
list_of_one graph old new one number before numbers fitted known makes none is =
    let P : List TypeId → Type 0 = λ (ns : List TypeId). MakesList graph old new (Ok ns) (sketch_at old one ∷ []) in
    let all : number ∷ [] ≡ numbers = sym (is ∙ ap (λ ns. ns ++ number ∷ []) none) in
    subst P all (record { keeps = makes.keeps; made = ((makes.made.0, tt), ap (λ t. t ∷ []) makes.made.1); fitted = fitted_later graph old new (Ok number) (sketch_at old one) fitted (sketch_in_range graph old one fitted known) makes })

Keeps-then : (old mid new : List CxxType) → Keeps old mid → Keeps mid new → Keeps old new
Keeps-then old mid new one two = record {
  grows = (let a : length old ≤ length mid = one.grows in let b : length mid ≤ length new = two.grows in omega arith);
  same = λ i known. two.same i (let a : length old ≤ length mid = one.grows in omega arith) ∙ one.same i known;
}

-- a further type behind a list that was made
pub list_then_stopped : (graph : Graph) (old mid new : List CxxType) (one : Sketch) (done : List TypeId) (first : Result TypeId OutOfMemory) (result : Result (List TypeId) OutOfMemory) (some ts : List CxxType) → MakesList graph old mid (Ok done) some → IsSketchBelow (length old) one → Makes mid new first (sketch_at mid one) → IsErr result → MakesList graph old new result ts
list_then_stopped graph old mid new one done first (Ok numbers) some ts list known makes stopped = absurd (cc)
list_then_stopped graph old mid new one done first (Err fault) some ts list known makes stopped = record {
  keeps = Keeps-then old mid new list.keeps makes.keeps;
  made = tt;
  fitted = fitted_later graph mid new first (sketch_at mid one) list.fitted (sketch_in_range graph mid one list.fitted (sketch_below_later old mid one known list.keeps)) makes;
}

pub list_then : (graph : Graph) (old mid new : List CxxType) (one : Sketch) (done numbers : List TypeId) (number : TypeId) (some : List CxxType) → MakesList graph old mid (Ok done) some → IsSketchBelow (length old) one → Makes mid new (Ok number) (sketch_at mid one) → numbers ≡ done ++ number ∷ [] → MakesList graph old new (Ok numbers) (some ++ sketch_at old one ∷ [])
list_then graph old mid new one done numbers number some list known makes is =
    let P : List TypeId → Type 0 = λ (ns : List TypeId). MakesList graph old new (Ok ns) (some ++ sketch_at old one ∷ []) in
    let here : list_at new (done ++ number ∷ []) ≡ some ++ sketch_at old one ∷ [] = (
    list_more new done number ∙ ap (λ ts. ts ++ type_at new number.0 ∷ []) (list_later mid new done list.made.0 makes.keeps ∙ list.made.1) ∙ ap (λ t. some ++ t ∷ []) (makes.made.1 ∙ sketch_later old mid one known list.keeps)
    ) in
    subst P (sym is) (record {
      keeps = Keeps-then old mid new list.keeps makes.keeps;
      made = (numbers_more (length new) done number (numbers_later mid new done list.made.0 makes.keeps) makes.made.0, here);
      fitted = fitted_later graph mid new (Ok number) (sketch_at mid one) list.fitted (sketch_in_range graph mid one list.fitted (sketch_below_later old mid one known list.keeps)) makes;
    })

-- ---- the whole

pub built_stopped : (graph : Graph) (old mid new : List CxxType) (plan : Plan) (done : List TypeId) (first : Result TypeId OutOfMemory) (result : Result BuiltIn OutOfMemory) (some : List CxxType) → MakesList graph old mid (Ok done) some → IsSketchBelow (length old) plan.result → Makes mid new first (sketch_at mid plan.result) → IsErr result → Builds graph old new result (plan_at old plan)
built_stopped graph old mid new plan done first (Ok numbers) some list known makes stopped = absurd (cc)
built_stopped graph old mid new plan done first (Err fault) some list known makes stopped = record {
  keeps = Keeps-then old mid new list.keeps makes.keeps;
  built = tt;
  fitted = fitted_later graph mid new first (sketch_at mid plan.result) list.fitted (sketch_in_range graph mid plan.result list.fitted (sketch_below_later old mid plan.result known list.keeps)) makes;
}

pub built_whole : (graph : Graph) (old mid new : List CxxType) (plan : Plan) (done : List TypeId) (number : TypeId) → MakesList graph old mid (Ok done) (sketch_at old plan.first ∷ second_at old plan.second) → IsSketchBelow (length old) plan.result → Makes mid new (Ok number) (sketch_at mid plan.result) → Builds graph old new (Ok (record { operands = done; result = number; lvalue = plan.lvalue })) (plan_at old plan)
built_whole graph old mid new plan done number list known makes =
    let listed : list_at new done ≡ sketch_at old plan.first ∷ second_at old plan.second = list_later mid new done list.made.0 makes.keeps ∙ list.made.1 in
    let whole : type_at new number.0 ≡ sketch_at old plan.result = makes.made.1 ∙ sketch_later old mid plan.result known list.keeps in
    let is : built_at new (record { operands = done; result = number; lvalue = plan.lvalue }) ≡ plan_at old plan = (
    ap (λ (ts : List CxxType). let b : CxxBuiltIn = record { operands = ts; result = type_at new number.0; lvalue = plan.lvalue } in b) listed ∙
    ap (λ (t : CxxType). let b : CxxBuiltIn = record { operands = sketch_at old plan.first ∷ second_at old plan.second; result = t; lvalue = plan.lvalue } in b) whole
    ) in
    record {
      keeps = Keeps-then old mid new list.keeps makes.keeps;
      built = (record { operands = numbers_later mid new done list.made.0 makes.keeps; result = makes.made.0 }, is);
      fitted = fitted_later graph mid new (Ok number) (sketch_at mid plan.result) list.fitted (sketch_in_range graph mid plan.result list.fitted (sketch_below_later old mid plan.result known list.keeps)) makes;
    }
