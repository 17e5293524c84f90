-- The definitions at numbers. Assumes nothing.
use mathlib.Core.Path.{◌≡◌, refl}
use mathlib.Core.Bool.{true, false}
use mathlib.Core.List.{[], ◌∷◌}
use Rattle.ground.specs.Cases.{has}
use Rattle.desk_slots.specs.Slots.{slot_of, characteristic_of, only_slots, insert, remove, union, inter, minus, owing}
use Rattle.desk_slots.specs.Round.{next, dist}

order_slot : slot_of 15 ≡ 11
unfolding slot_of
order_slot = refl

-- the orders supported have no slot, nor have the objects of the current track's segments
no_slot : slot_of 16 ≡ 14
unfolding slot_of
no_slot = refl

no_segments_slot : slot_of 10 ≡ 14
unfolding slot_of
no_segments_slot = refl

-- the objects of the current track and of the current group
track_object_slot : slot_of 11 ≡ 7
unfolding slot_of
track_object_slot = refl

group_object_slot : slot_of 14 ≡ 10
unfolding slot_of
group_object_slot = refl

last_characteristic : characteristic_of 13 ≡ 18
unfolding characteristic_of
last_characteristic = refl

fourteen_bits : only_slots 0b11_1111_1111_1111 ≡ true
unfolding only_slots
fourteen_bits = refl

fifteenth_bit : only_slots 0b100_0000_0000_0000 ≡ false
unfolding only_slots
fifteenth_bit = refl

put_in : insert 0b0001 2 ≡ 0b0101
unfolding insert
put_in = refl

taken_out : remove 0b0101 2 ≡ 0b0001
unfolding remove
taken_out = refl

either : union 0b0101 0b0011 ≡ 0b0111
unfolding union
either = refl

both : inter 0b0101 0b0011 ≡ 0b0001
unfolding inter
both = refl

first_only : minus 0b0101 0b0011 ≡ 0b0100
unfolding minus
first_only = refl

-- after slot 0 comes slot 13, and after slot 13 slot 0
after_0 : next 14 (has 0b10_0000_0000_0001) 0 ≡ 13
unfolding next has
after_0 = refl

after_13 : next 14 (has 0b10_0000_0000_0001) 13 ≡ 0
unfolding next has
after_13 = refl

-- the mark itself comes last
alone : next 14 (has 0b0000_1000) 3 ≡ 3
unfolding next has
alone = refl

nothing : next 14 (has 0) 3 ≡ 14
unfolding next has
nothing = refl

client : next 4 (owing (0 ∷ 5 ∷ 0 ∷ 1 ∷ [])) 1 ≡ 3
unfolding next owing
client = refl

whole_round : dist 14 7 7 ≡ 14
unfolding dist
whole_round = refl

back_to_front : dist 14 13 0 ≡ 1
unfolding dist
back_to_front = refl
