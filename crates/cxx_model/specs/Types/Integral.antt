-- The values of the integral types (3.9.1), in the widths of this profile: `char` has 8 bits and is signed, `short` 16,
-- `int` and `wchar_t` 32, `long` 64.
use Rattle.std.specs.Prelude.{ℕ, ◌^◌, ◌-◌, Bool, true, false, ◌&&◌, List, [], ◌∷◌, Option, find, ℤ, pos, negsuc}
use Rattle.std.specs.Bool.{nat_lt}
use Rattle.std.specs.List.{list_all, list_any}
use Rattle.cxx_model.specs.declared.base.Base.{Base}
use Rattle.cxx_model.specs.declared.base.Base.TheVariants as base
use Rattle.cxx_model.specs.Types.Bases.{base_row}

-- how many bits the values of an integral type take, the sign among them
abbrev pub width : Base → ℕ
width of = (base_row of).width

-- whether an integral type has values below 0
abbrev pub signed : Base → Bool
signed of = (base_row of).is_signed

abbrev holds_by : ℕ → Bool → ℤ → Bool
holds_by bits true (pos n) = nat_lt n (2 ^ (bits - 1))
holds_by bits true (negsuc n) = nat_lt n (2 ^ (bits - 1))
holds_by bits false (pos n) = nat_lt n (2 ^ bits)
holds_by bits false (negsuc n) = false

-- 3.9.1: whether the type has the value
-- whether the values of a type are integers, and this is one of them
abbrev pub holds : Base → ℤ → Bool
holds of value = nat_lt 0 (width of) && holds_by (width of) (signed of) value

-- 4.5: the types to which an enumeration may be promoted, the first that holds its values
abbrev pub promotions : List Base
promotions = base.Int ∷ base.Unsigned ∷ base.Long ∷ base.UnsignedLong ∷ []

-- 7.2: one type holds all the values of an enumeration
abbrev pub one_holds : List ℤ → Bool
one_holds values = list_any (λ of. list_all (holds of) values) promotions

-- 4.5: the type to which an enumeration with these values is promoted
abbrev pub promoted_of_values : List ℤ → Option Base
promoted_of_values values = find (λ of. list_all (holds of) values) promotions
