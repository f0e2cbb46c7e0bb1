-- Parameters that are written one after another.
use Rattle.std.proofs.Common.{◌≡◌, ◌<◌, ◌+◌, ℕ, Bool, false, List, [], ◌++◌, length, drop, get_or, Option, Some, None, Err, sym, ap, ◌∙◌}
use Rattle.std.proofs.lemmas.List.{at_drop_more}
use Rattle.cxx_model.specs.declared.types.TypeId.{TypeId}
use Rattle.cxx_model.specs.Types.Trees.{CxxType}
use Rattle.cxx_model.specs.Types.Numbers.{type_at, types_at}
use Rattle.cxx_reading.specs.Declarators.{no_cv}
use Rattle.cxx_reading.specs.Words.{Tags, declared}
use Rattle.cxx_page.specs.declared.fault.PlainFault.{PlainFault}
use Rattle.cxx_page.specs.declared.fault.PlainFault.TheVariants as fault
use Rattle.cxx_page.specs.Sheets.{Sheet, and_then, put, Writes}
use Rattle.cxx_page.specs.Sides.{comma_unless, listed}
use Rattle.cxx_page.proofs.Put.{put_append}

-- what is left is the next parameter and what is left behind it
cut : (tags : Tags) (types : List CxxType) (ps : List TypeId) (ellipsis is_first : Bool) (i : ℕ) (d : TypeId) (page : Sheet) → i < length ps
    → put (listed tags is_first (types_at types (drop i ps)) ellipsis) page
    ≡ and_then (put (comma_unless is_first ++ declared tags no_cv (type_at types (get_or ps i d).0) []) page) (put (listed tags false (types_at types (drop (i + 1) ps)) ellipsis))
unfolding listed
cut tags types ps ellipsis is_first i d page within =
    at_drop_more (λ rest. put (listed tags is_first (types_at types rest) ellipsis) page) ps i d within
    ∙ put_append (comma_unless is_first ++ declared tags no_cv (type_at types (get_or ps i d).0) []) (listed tags false (types_at types (drop (i + 1) ps)) ellipsis) page

pub goes_on : (tags : Tags) (types : List CxxType) (ps : List TypeId) (ellipsis is_first : Bool) (i : ℕ) (d : TypeId) (page new : Sheet) (whole : Option Sheet) → i < length ps
    → put (listed tags is_first (types_at types (drop i ps)) ellipsis) page ≡ whole
    → put (comma_unless is_first ++ declared tags no_cv (type_at types (get_or ps i d).0) []) page ≡ Some new
    → put (listed tags false (types_at types (drop (i + 1) ps)) ellipsis) new ≡ whole
goes_on tags types ps ellipsis is_first i d page new whole within so written =
    sym (ap (λ one. and_then one (put (listed tags false (types_at types (drop (i + 1) ps)) ellipsis))) written)
    ∙ (sym (cut tags types ps ellipsis is_first i d page within) ∙ so)

pub no_room : (tags : Tags) (types : List CxxType) (ps : List TypeId) (ellipsis is_first : Bool) (i : ℕ) (d : TypeId) (page : Sheet) (whole : Option Sheet) → i < length ps
    → put (listed tags is_first (types_at types (drop i ps)) ellipsis) page ≡ whole
    → put (comma_unless is_first ++ declared tags no_cv (type_at types (get_or ps i d).0) []) page ≡ None
    → whole ≡ None
no_room tags types ps ellipsis is_first i d page whole within so written =
    sym so ∙ (cut tags types ps ellipsis is_first i d page within ∙ ap (λ one. and_then one (put (listed tags false (types_at types (drop (i + 1) ps)) ellipsis))) written)

-- where a part does not fit, the whole does not
pub fails : (e : PlainFault) (new : Sheet) (part whole : Option Sheet) → (part ≡ None → whole ≡ None) → Writes (Err e) new part → Writes (Err e) new whole
fails fault.Limit new part whole none is = none is
fails fault.OutOfMemory new part whole none is = tt
