-- Worked words.
use Rattle.std.proofs.Common.{◌≡◌, [], ◌∷◌, refl}
use Rattle.std.specs.Prelude.{Some, None, codes}
use Rattle.cxx_words.specs.declared.job.Mode.TheVariants.{Bind, Calls}
use Rattle.cxx_words.specs.Words.{understood, opening_of}

no_words : understood [] ≡ Some (record { mode = Bind; depth = 64 })
unfolding understood opening_of
no_words = refl

dashes : understood (codes "--" ∷ []) ≡ Some (record { mode = Bind; depth = 64 })
unfolding understood opening_of
dashes = refl

mode_and_depth : understood (codes "--mode" ∷ codes "calls" ∷ codes "--depth=3" ∷ codes "--" ∷ []) ≡ Some (record { mode = Calls; depth = 3 })
unfolding understood opening_of
mode_and_depth = refl

depth_and_mode : understood (codes "--depth" ∷ codes "256" ∷ codes "--mode=bind" ∷ []) ≡ Some (record { mode = Bind; depth = 256 })
unfolding understood opening_of
depth_and_mode = refl

least_depth : understood (codes "--depth=1" ∷ []) ≡ Some (record { mode = Bind; depth = 1 })
unfolding understood opening_of
least_depth = refl

no_depth : understood (codes "--depth=0" ∷ []) ≡ None
unfolding understood opening_of
no_depth = refl

too_deep : understood (codes "--depth=257" ∷ []) ≡ None
unfolding understood opening_of
too_deep = refl

far_too_deep : understood (codes "--depth" ∷ codes "18446744073709551617" ∷ []) ≡ None
unfolding understood opening_of
far_too_deep = refl

zero_in_front : understood (codes "--depth=064" ∷ []) ≡ None
unfolding understood opening_of
zero_in_front = refl

sign_in_front : understood (codes "--depth=+64" ∷ []) ≡ None
unfolding understood opening_of
sign_in_front = refl

space_behind : understood (codes "--depth" ∷ codes "64 " ∷ []) ≡ None
unfolding understood opening_of
space_behind = refl

depth_twice : understood (codes "--depth" ∷ codes "256" ∷ codes "--depth" ∷ codes "1" ∷ []) ≡ None
unfolding understood opening_of
depth_twice = refl

mode_twice : understood (codes "--mode=calls" ∷ codes "--mode" ∷ codes "calls" ∷ []) ≡ None
unfolding understood opening_of
mode_twice = refl

dashes_twice : understood (codes "--" ∷ codes "--" ∷ []) ≡ None
unfolding understood opening_of
dashes_twice = refl

dashes_before_others : understood (codes "--mode" ∷ codes "bind" ∷ codes "--" ∷ codes "--depth" ∷ codes "3" ∷ []) ≡ None
unfolding understood opening_of
dashes_before_others = refl

dashes_as_value : understood (codes "--mode" ∷ codes "--" ∷ []) ≡ None
unfolding understood opening_of
dashes_as_value = refl

empty_value : understood (codes "--mode=" ∷ []) ≡ None
unfolding understood opening_of
empty_value = refl

empty_word : understood ([] ∷ []) ≡ None
unfolding understood opening_of
empty_word = refl

empty_word_as_value : understood (codes "--depth" ∷ [] ∷ []) ≡ None
unfolding understood opening_of
empty_word_as_value = refl

name_as_value : understood (codes "--mode" ∷ codes "--depth" ∷ codes "3" ∷ []) ≡ None
unfolding understood opening_of
name_as_value = refl

no_value : understood (codes "--depth" ∷ []) ≡ None
unfolding understood opening_of
no_value = refl

short_name : understood (codes "--m" ∷ codes "calls" ∷ []) ≡ None
unfolding understood opening_of
short_name = refl

large_letters : understood (codes "--MODE" ∷ codes "calls" ∷ []) ≡ None
unfolding understood opening_of
large_letters = refl

other_word : understood (codes "bind" ∷ []) ≡ None
unfolding understood opening_of
other_word = refl

other_mode : understood (codes "--mode=generate" ∷ codes "--size=1" ∷ []) ≡ None
unfolding understood opening_of
other_mode = refl
