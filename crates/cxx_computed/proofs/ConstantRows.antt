-- Constant expressions, as clause 5 has them; clang++ and g++ give the same values.
use Rattle.std.specs.Prelude.{◌≡◌, [], Option, Some, None, Ok, ℤ, pos, negsuc, refl}
use Rattle.cxx_model.specs.declared.base.Base.TheVariants as base
use Rattle.cxx_model.specs.declared.punct.TheConstants as punct
use Rattle.cxx_model.specs.Facts.Declarations.{CxxGraph}
use Rattle.cxx_model.specs.Facts.Pending.{is_pending}
use Rattle.cxx_model.specs.Types.Trees.{CxxFormula, fundamental, value_of, value_parameter, size_of, cast_to, unary, binary, conditional}
use Rattle.cxx_meaning.specs.Conversions.Arithmetic.{usual}
use Rattle.cxx_meaning.specs.Conversions.Asking.{Asked}
use Rattle.cxx_meaning.specs.Conversions.Sizes as sizes
use Rattle.cxx_meaning.specs.Conversions.Sizes.{class_in, extent_of, object_extent}
use Rattle.cxx_computed.specs.Formulas.{computed, constant_of, needed}
use Rattle.cxx_computed.specs.Values.{binary_value, converted_value, unary_value, value_in}

abbrev nothing : CxxGraph
nothing = record { facts = []; classes = []; patterns = [] }

abbrev int : ℤ → CxxFormula
int value = value_of value (fundamental base.Int)

abbrev unsigned : ℤ → CxxFormula
unsigned value = value_of value (fundamental base.Unsigned)

abbrev long : ℤ → CxxFormula
long value = value_of value (fundamental base.Long)

abbrev value : CxxFormula → Asked (Option ℤ)
value f = computed nothing f

-- -7 / 2
row_1 : value (binary punct.SLASH (int (negsuc 6)) (int (pos 2))) ≡ Ok (Some (negsuc 2))
unfolding computed constant_of needed converted_value binary_value unary_value value_in usual sizes.size_of class_in object_extent extent_of is_pending
row_1 = refl

-- -7 % 2
row_2 : value (binary punct.PERCENT (int (negsuc 6)) (int (pos 2))) ≡ Ok (Some (negsuc 0))
unfolding computed constant_of needed converted_value binary_value unary_value value_in usual sizes.size_of class_in object_extent extent_of is_pending
row_2 = refl

-- 7 % -2
row_3 : value (binary punct.PERCENT (int (pos 7)) (int (negsuc 1))) ≡ Ok (Some (pos 1))
unfolding computed constant_of needed converted_value binary_value unary_value value_in usual sizes.size_of class_in object_extent extent_of is_pending
row_3 = refl

-- -7 >> 1
row_4 : value (binary punct.SHIFT_RIGHT (int (negsuc 6)) (int (pos 1))) ≡ Ok (Some (negsuc 3))
unfolding computed constant_of needed converted_value binary_value unary_value value_in usual sizes.size_of class_in object_extent extent_of is_pending
row_4 = refl

-- 1 / 0
row_5 : value (binary punct.SLASH (int (pos 1)) (int (pos 0))) ≡ Ok (None)
unfolding computed constant_of needed converted_value binary_value unary_value value_in usual sizes.size_of class_in object_extent extent_of is_pending
row_5 = refl

-- 2147483647 + 1
row_6 : value (binary punct.PLUS (int (pos 2147483647)) (int (pos 1))) ≡ Ok (None)
unfolding computed constant_of needed converted_value binary_value unary_value value_in usual sizes.size_of class_in object_extent extent_of is_pending
row_6 = refl

-- 2147483647 + 1u
row_7 : value (binary punct.PLUS (int (pos 2147483647)) (unsigned (pos 1))) ≡ Ok (Some (pos 2147483648))
unfolding computed constant_of needed converted_value binary_value unary_value value_in usual sizes.size_of class_in object_extent extent_of is_pending
row_7 = refl

-- 0u - 1u
row_8 : value (binary punct.MINUS (unsigned (pos 0)) (unsigned (pos 1))) ≡ Ok (Some (pos 4294967295))
unfolding computed constant_of needed converted_value binary_value unary_value value_in usual sizes.size_of class_in object_extent extent_of is_pending
row_8 = refl

-- -1 < 0u
row_9 : value (binary punct.LESS (int (negsuc 0)) (unsigned (pos 0))) ≡ Ok (Some (pos 0))
unfolding computed constant_of needed converted_value binary_value unary_value value_in usual sizes.size_of class_in object_extent extent_of is_pending
row_9 = refl

-- -1L < 0u
row_10 : value (binary punct.LESS (long (negsuc 0)) (unsigned (pos 0))) ≡ Ok (Some (pos 1))
unfolding computed constant_of needed converted_value binary_value unary_value value_in usual sizes.size_of class_in object_extent extent_of is_pending
row_10 = refl

-- 1 << 3L
row_11 : value (binary punct.SHIFT_LEFT (int (pos 1)) (long (pos 3))) ≡ Ok (Some (pos 8))
unfolding computed constant_of needed converted_value binary_value unary_value value_in usual sizes.size_of class_in object_extent extent_of is_pending
row_11 = refl

-- 1 << 32
row_12 : value (binary punct.SHIFT_LEFT (int (pos 1)) (int (pos 32))) ≡ Ok (None)
unfolding computed constant_of needed converted_value binary_value unary_value value_in usual sizes.size_of class_in object_extent extent_of is_pending
row_12 = refl

-- (char)200
row_13 : value (cast_to (fundamental base.Char) (int (pos 200))) ≡ Ok (Some (negsuc 55))
unfolding computed constant_of needed converted_value binary_value unary_value value_in usual sizes.size_of class_in object_extent extent_of is_pending
row_13 = refl

-- (bool)256
row_14 : value (cast_to (fundamental base.Bool) (int (pos 256))) ≡ Ok (Some (pos 1))
unfolding computed constant_of needed converted_value binary_value unary_value value_in usual sizes.size_of class_in object_extent extent_of is_pending
row_14 = refl

-- (unsigned)-1
row_15 : value (cast_to (fundamental base.Unsigned) (int (negsuc 0))) ≡ Ok (Some (pos 4294967295))
unfolding computed constant_of needed converted_value binary_value unary_value value_in usual sizes.size_of class_in object_extent extent_of is_pending
row_15 = refl

-- ~0u
row_16 : value (unary punct.TILDE (unsigned (pos 0))) ≡ Ok (Some (pos 4294967295))
unfolding computed constant_of needed converted_value binary_value unary_value value_in usual sizes.size_of class_in object_extent extent_of is_pending
row_16 = refl

-- -1L & 12
row_17 : value (binary punct.AMPERSAND (long (negsuc 0)) (int (pos 12))) ≡ Ok (Some (pos 12))
unfolding computed constant_of needed converted_value binary_value unary_value value_in usual sizes.size_of class_in object_extent extent_of is_pending
row_17 = refl

-- 0 && 1 / 0
row_18 : value (binary punct.LOGICAL_AND (int (pos 0)) (binary punct.SLASH (int (pos 1)) (int (pos 0)))) ≡ Ok (Some (pos 0))
unfolding computed constant_of needed converted_value binary_value unary_value value_in usual sizes.size_of class_in object_extent extent_of is_pending
row_18 = refl

-- 1 ? -1 : 0u
row_19 : value (conditional (int (pos 1)) (int (negsuc 0)) (unsigned (pos 0))) ≡ Ok (Some (pos 4294967295))
unfolding computed constant_of needed converted_value binary_value unary_value value_in usual sizes.size_of class_in object_extent extent_of is_pending
row_19 = refl

-- sizeof(int) - sizeof(long)
row_20 : value (binary punct.MINUS (size_of (fundamental base.Int)) (size_of (fundamental base.Long))) ≡ Ok (Some (pos 18446744073709551612))
unfolding computed constant_of needed converted_value binary_value unary_value value_in usual sizes.size_of class_in object_extent extent_of is_pending
row_20 = refl

-- a parameter of a template has no value
row_parameter : value (binary punct.PLUS (value_parameter 0 0) (int (pos 1))) ≡ Ok None
unfolding computed constant_of needed
row_parameter = refl
