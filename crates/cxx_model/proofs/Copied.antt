-- A formula made of copies is a copy.
use Rattle.std.specs.Prelude.{ℕ, ◌≡◌, ◌<◌, ◌+◌, List, [], ◌∷◌, ◌++◌, length, Box, refl}
use Rattle.std.proofs.Common.{ap, sym, subst, ◌∙◌, take, get_or}
use Rattle.std.proofs.lemmas.List.{take_more}
use Rattle.std.specs.declared.alloc.Global.{Global}
use Rattle.cxx_model.specs.declared.types.Formula as formula
use Rattle.cxx_model.specs.declared.types.Formula.{Formula}
use Rattle.cxx_model.specs.declared.types.Bound.{Bound}
use Rattle.cxx_model.specs.declared.types.Bound.TheVariants as bound
use Rattle.cxx_model.specs.declared.types.Argument.{Argument}
use Rattle.cxx_model.specs.declared.types.Argument.TheVariants as argument
use Rattle.cxx_model.specs.declared.types.TypeId.{TypeId}
use Rattle.cxx_model.specs.Types.Trees.{CxxType, CxxArgument, CxxArguments, no_arguments, argument_then, formula_bound, formula_argument, cast_to, unary, binary}
use Rattle.cxx_model.specs.Types.Numbers.{type_at, formula_at, argument_at, arguments_at, IsArgumentBelow, AreArgumentsBelow}
use Rattle.cxx_model.specs.Types.Copies.{CopiesFormula, CopiesBound, CopiesArgument, CopiesArguments}

pub boxed : (f g : Formula) (a b : Box Formula Global) → CopiesFormula f g → f ≡ a.value → b.value ≡ g → CopiesFormula a.value b.value
boxed f g a b h p q = subst (λ (x : Formula). CopiesFormula x b.value) p (subst (λ (y : Formula). CopiesFormula f y) (sym q) h)

pub copied-cast : (whole : Formula) (of : TypeId) (a b : Box Formula Global) → whole ≡ formula.Cast of a → CopiesFormula a.value b.value → CopiesFormula whole (formula.Cast of b)
copied-cast whole of a b e h = subst (λ (x : Formula). CopiesFormula x (formula.Cast of b)) (sym e) (record {
  at = λ types. ap (cast_to (type_at types of.0)) (h.at types);
  below = λ count ok. (ok.0, h.below count ok.1);
})

pub copied-unary : (whole : Formula) (operator : ℕ) (a b : Box Formula Global) → whole ≡ formula.Unary operator a → CopiesFormula a.value b.value → CopiesFormula whole (formula.Unary operator b)
copied-unary whole operator a b e h = subst (λ (x : Formula). CopiesFormula x (formula.Unary operator b)) (sym e) (record {
  at = λ types. ap (unary operator) (h.at types);
  below = λ count ok. h.below count ok;
})

pub copied-binary : (whole : Formula) (operator : ℕ) (a b c d : Box Formula Global) → whole ≡ formula.Binary operator a c → CopiesFormula a.value b.value → CopiesFormula c.value d.value → CopiesFormula whole (formula.Binary operator b d)
copied-binary whole operator a b c d e h k = subst (λ (x : Formula). CopiesFormula x (formula.Binary operator b d)) (sym e) (record {
  at = λ types. ap (λ f. binary operator f (formula_at types d.value)) (h.at types) ∙ ap (binary operator (formula_at types a.value)) (k.at types);
  below = λ count ok. (h.below count ok.0, k.below count ok.1);
})

pub copied-conditional : (whole : Formula) (a b c d f g : Box Formula Global) → whole ≡ formula.Conditional a c f → CopiesFormula a.value b.value → CopiesFormula c.value d.value → CopiesFormula f.value g.value → CopiesFormula whole (formula.Conditional b d g)
copied-conditional whole a b c d f g e h k l = subst (λ (x : Formula). CopiesFormula x (formula.Conditional b d g)) (sym e) (record {
  at = λ types.
      (let p : formula_at types b.value ≡ formula_at types a.value = h.at types in
      let q : formula_at types d.value ≡ formula_at types c.value = k.at types in
      let r : formula_at types g.value ≡ formula_at types f.value = l.at types in
      cc);
  below = λ count ok. (h.below count ok.0, k.below count ok.1, l.below count ok.2);
})

pub copied-bound : (whole : Bound) (a b : Box Formula Global) → whole ≡ bound.Computed a → CopiesFormula a.value b.value → CopiesBound whole (bound.Computed b)
copied-bound whole a b e h = subst (λ (x : Bound). CopiesBound x (bound.Computed b)) (sym e) (record {
  at = λ types. ap formula_bound (h.at types);
  below = λ count ok. h.below count ok;
})

pub copied-argument : (whole : Argument) (a b : Box Formula Global) → whole ≡ argument.Computed a → CopiesFormula a.value b.value → CopiesArgument whole (argument.Computed b)
copied-argument whole a b e h = subst (λ (x : Argument). CopiesArgument x (argument.Computed b)) (sym e) (record {
  at = λ types. ap formula_argument (h.at types);
  below = λ count ok. h.below count ok;
})

-- one more argument
abbrev more : CxxArguments → CxxArgument → CxxArguments
more no_arguments a = argument_then a no_arguments
more (argument_then b others) a = argument_then b (more others a)

arguments-more : (types : List CxxType) (xs : List Argument) (x : Argument) → arguments_at types (xs ++ x ∷ []) ≡ more (arguments_at types xs) (argument_at types x)
arguments-more types [] x = refl
arguments-more types (y ∷ ys) x = ap (argument_then (argument_at types y)) (arguments-more types ys x)

below-first : (count : ℕ) (xs : List Argument) (x : Argument) → AreArgumentsBelow count (xs ++ x ∷ []) → AreArgumentsBelow count xs × IsArgumentBelow count x
below-first count [] x ok = (tt, ok.0)
below-first count (y ∷ ys) x ok = (let rest : AreArgumentsBelow count ys × IsArgumentBelow count x = below-first count ys x ok.1 in ((ok.0, rest.0), rest.1))

below-more : (count : ℕ) (xs : List Argument) (x : Argument) → AreArgumentsBelow count xs → IsArgumentBelow count x → AreArgumentsBelow count (xs ++ x ∷ [])
below-more count [] x ok last = (last, tt)
below-more count (y ∷ ys) x ok last = (ok.0, below-more count ys x ok.1 last)

pub copied-more : (xs ys : List Argument) (x y : Argument) → CopiesArguments xs ys → CopiesArgument x y → CopiesArguments (xs ++ x ∷ []) (ys ++ y ∷ [])
copied-more xs ys x y h k = record {
  at = λ types.
      (let p : arguments_at types ys ≡ arguments_at types xs = h.at types in
      let q : argument_at types y ≡ argument_at types x = k.at types in
      arguments-more types ys y ∙ ap (λ a. more a (argument_at types y)) p ∙ ap (more (arguments_at types xs)) q ∙ sym (arguments-more types xs x));
  below = λ count ok. (let parts : AreArgumentsBelow count xs × IsArgumentBelow count x = below-first count xs x ok in below-more count ys y (h.below count parts.0) (k.below count parts.1));
}

pub copied-none : CopiesArguments [] []
copied-none = record { at = λ types. refl; below = λ count ok. ok }

pub copied-next : (xs : List Argument) (i : ℕ) (x y : Argument) (ys : List Argument) → i < length xs → x ≡ get_or xs i x → CopiesArguments (take i xs) ys → CopiesArgument x y → CopiesArguments (take (i + 1) xs) (ys ++ y ∷ [])
copied-next xs i x y ys within is h k =
    let last : take (i + 1) xs ≡ take i xs ++ x ∷ [] = take_more xs i x within ∙ ap (λ z. take i xs ++ z ∷ []) (sym is) in
    subst (λ (zs : List Argument). CopiesArguments zs (ys ++ y ∷ [])) (sym last) (copied-more (take i xs) ys x y h k)
