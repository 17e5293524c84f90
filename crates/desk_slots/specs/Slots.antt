-- The slots (SCOPE 16.2), and sets of slots as numbers: slot s is in a set where its bit s is set (`has`).
-- Assumes nothing.
use Rattle.std.specs.Prelude.{Bool, not, List, [], ◌∷◌, ℕ, suc, ◌+◌, ◌-◌, ◌*◌, ◌/◌, ◌%◌, ◌^◌, eqb, ltb, get_or}
use Rattle.std.specs.Int.Bits.{bit_and, bit_or, bit_xor}
use Rattle.ground.specs.Cases.{pick}
use Rattle.desk_slots.specs.Table.{characteristics, numbers_of}

-- how many there are in a service. SCOPE 16.2: "The fourteen that may be subscribed to are the slots"
abbrev pub slot_count : ℕ
slot_count = 14

-- SCOPE 17.1: "service 0 is the generic one, and service 1 that of one named player"
abbrev pub service_count : ℕ
service_count = 2

-- the places of a client's round. SCOPE 19.3: "the client's 28 places: the slots of service 0 and then those of service 1"
abbrev pub place_count : ℕ
place_count = service_count * slot_count

-- the place of a service's slot; the service and the slot of a place
abbrev pub place_of : ℕ → ℕ → ℕ
place_of service slot = service * slot_count + slot

unfoldable pub service_of : ℕ → ℕ
service_of place = place / slot_count

unfoldable pub slot_at : ℕ → ℕ
slot_at place = place % slot_count

-- SCOPE 17.1: "Clients are numbered 0 to 3."
abbrev pub client_count : ℕ
client_count = 4

-- the characteristics that may be subscribed to, by the number of their slot
abbrev pub slot_table : List ℕ
slot_table = numbers_of (λ c. c.slot) characteristics

-- the first place at which x stands; the length where it stands nowhere
abbrev pub place_in : List ℕ → ℕ → ℕ
place_in [] x = 0
place_in (y ∷ s) x = pick (eqb x y) 0 (suc (place_in s x))

-- the slot of a characteristic; slotCount where it has none
unfoldable pub slot_of : ℕ → ℕ
slot_of characteristic = place_in slot_table characteristic

abbrev pub has_slot : ℕ → Bool
has_slot characteristic = ltb (slot_of characteristic) slot_count

unfoldable pub characteristic_of : ℕ → ℕ
characteristic_of slot = get_or slot_table slot 0

-- the set of all slots
abbrev pub every_slot : ℕ
every_slot = 2 ^ slot_count - 1

-- no bit outside the slots is set
unfoldable pub only_slots : ℕ → Bool
only_slots w = ltb w (2 ^ slot_count)

-- w with the slot s
unfoldable pub insert : ℕ → ℕ → ℕ
insert w s = bit_or w (2 ^ s)

-- w without the slot s
unfoldable pub remove : ℕ → ℕ → ℕ
remove w s = bit_xor w (bit_and w (2 ^ s))

-- what is in w or in v
unfoldable pub union : ℕ → ℕ → ℕ
union w v = bit_or w v

-- what is in w and in v
unfoldable pub inter : ℕ → ℕ → ℕ
inter w v = bit_and w v

-- what is in w and not in v
unfoldable pub minus : ℕ → ℕ → ℕ
minus w v = bit_xor w (bit_and w v)

-- the sets of slots that the services have, service 0's first, as one set of places
unfoldable pub places_of : List ℕ → ℕ
places_of [] = 0
places_of (w ∷ sets) = bit_or w (places_of sets * 2 ^ slot_count)

-- client c is owed something, by the clients' sets
unfoldable pub owing : List ℕ → ℕ → Bool
owing sets c = not (eqb (get_or sets c 0) 0)
