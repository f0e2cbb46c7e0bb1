-- The fundamental types (3.9.1), one row for each. What the standard and the profile say of a type by itself stands
-- here alone, so that a further type is a further row.
use Rattle.std.specs.Prelude.{ℕ, Bool, true, false}
use Rattle.cxx_model.specs.declared.base.Base.{Base}
use Rattle.cxx_model.specs.declared.base.Base.TheVariants as base

pub record BaseRow : Type 0 where
  -- its place in the table, by which two types are told apart
  pub number : ℕ
  -- 3.9.1: a floating type, and else an integral one or `void`
  pub is_floating : Bool
  -- 4.5, 4.6: the type to which it is promoted, and else itself
  pub promoted : Base
  -- 3.9.1: how many bits the values of an integral type take, the sign among them; other types have none of these values
  pub width : ℕ
  -- 3.9.1: whether an integral type has values below 0
  pub is_signed : Bool
  -- 5.3.3: its size in bytes, which is also its alignment; `void` has none
  pub size : ℕ

abbrev pub base_row : Base → BaseRow
base_row base.Void = record { number = 0; is_floating = false; promoted = base.Void; width = 0; is_signed = false; size = 0 }
base_row base.Bool = record { number = 1; is_floating = false; promoted = base.Int; width = 1; is_signed = false; size = 1 }
base_row base.Char = record { number = 2; is_floating = false; promoted = base.Int; width = 8; is_signed = true; size = 1 }
base_row base.SignedChar = record { number = 3; is_floating = false; promoted = base.Int; width = 8; is_signed = true; size = 1 }
base_row base.UnsignedChar = record { number = 4; is_floating = false; promoted = base.Int; width = 8; is_signed = false; size = 1 }
base_row base.Short = record { number = 5; is_floating = false; promoted = base.Int; width = 16; is_signed = true; size = 2 }
base_row base.UnsignedShort = record { number = 6; is_floating = false; promoted = base.Int; width = 16; is_signed = false; size = 2 }
base_row base.Int = record { number = 7; is_floating = false; promoted = base.Int; width = 32; is_signed = true; size = 4 }
base_row base.Unsigned = record { number = 8; is_floating = false; promoted = base.Unsigned; width = 32; is_signed = false; size = 4 }
base_row base.Long = record { number = 9; is_floating = false; promoted = base.Long; width = 64; is_signed = true; size = 8 }
base_row base.UnsignedLong = record { number = 10; is_floating = false; promoted = base.UnsignedLong; width = 64; is_signed = false; size = 8 }
base_row base.WideChar = record { number = 11; is_floating = false; promoted = base.Int; width = 32; is_signed = true; size = 4 }
base_row base.Float = record { number = 12; is_floating = true; promoted = base.Double; width = 0; is_signed = false; size = 4 }
base_row base.Double = record { number = 13; is_floating = true; promoted = base.Double; width = 0; is_signed = false; size = 8 }
base_row base.LongDouble = record { number = 14; is_floating = true; promoted = base.LongDouble; width = 0; is_signed = false; size = 16 }
