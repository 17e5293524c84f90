-- What a call tells C, and what it leaves of the state's octets. SCOPE 20.1: "A refusal returns its number, and what the number carries. It alters nothing"
-- Assumes nothing.
use Rattle.std.specs.Prelude.{◌≡◌, Bool, true, not, ◌&&◌, List, [], ◌∷◌, ℕ, ◌%◌, ◌<◌, ltb, length, take, get_or, Result, Ok, Err}
use Rattle.ground.specs.Cases.{pick}
use Rattle.ground.specs.declared.Refusal.{Refusal}
use Rattle.ground.specs.Refusals.{Said, answer_said, Left}
use Rattle.catalogue_titles.specs.declared.Part.{Part}
use Rattle.catalogue_titles.specs.Titles.{part_values}
use Rattle.desk_state.specs.declared.Desk.{Desk}
use Rattle.desk_goto.specs.declared.Arrival.{Arrival}
use Rattle.desk_goto.specs.Manual.{made_values, place_values}
use Rattle.mcs_state.specs.Codec.{desk_of}
use Rattle.desk_replies.specs.Replies.{state_after}
use Rattle.mcs_told.specs.declared.Told.{Told}

-- each of these is below 2^32
abbrev pub AllWords : List ℕ → Type 0
AllWords [] = Unit
AllWords (x ∷ xs) = (x < 4294967296) × AllWords xs

-- the low 32 bits of a number
abbrev pub low_word : ℕ → ℕ
low_word n = n % 4294967296

-- a refusal that carries something besides its number
abbrev pub carries : Said → Bool
carries said = not said.is_granted && ltb 0 (length said.values)

-- one that carries two values
abbrev pub carries_two : Said → Bool
carries_two said = not said.is_granted && ltb 1 (length said.values)

-- what C is told: whether the call is accepted, or else whether its refusal carries something, and whether it carries two values; the number; and four values
abbrev pub told_of : Said → Told
told_of said =
    record {
      granted = said.is_granted;
      carries = carries said;
      titled = carries_two said;
      number = said.number;
      values = low_word (get_or said.values 0 0) ∷ low_word (get_or said.values 1 0) ∷ low_word (get_or said.values 2 0) ∷ low_word (get_or said.values 3 0) ∷ [];
    }

-- words afterwards that are for values: as many of them as there are words, or as they were
abbrev pub told_after : Bool → List ℕ → List ℕ → List ℕ
told_after on values old = pick on (take (length old) values) old

-- the values that are said, 0 where there is none
abbrev pub said_words : Said → List ℕ
said_words said = get_or said.values 0 0 ∷ get_or said.values 1 0 ∷ get_or said.values 2 0 ∷ get_or said.values 3 0 ∷ []

-- the words for a call's values; as they were where it is refused. A read's is its number of octets; a take's are client, service, characteristic and number of
-- octets, and 0, 0, 0, 0 where nothing is owed; a card load's are the four counts, a card write's is the number of blocks
abbrev pub words_after : Said → List ℕ → List ℕ
words_after said old = told_after said.is_granted (said_words said) old

-- those for what a refusal carries; as they were where it carries nothing, and where the call is accepted
abbrev pub carried_after : Said → List ℕ → List ℕ
carried_after said old = told_after (carries said) (said_words said) old

-- where a text is wrong (SCOPE 20.4): 200 for a bad title carries its track and the offset, 207 the offset alone. The word for the track, and the one for the
-- offset; as they were where none is carried
abbrev pub track_after : Said → List ℕ → List ℕ
track_after said old = told_after (carries_two said) (said_words said) old

abbrev pub offset_after : Said → List ℕ → List ℕ
offset_after said old = told_after (carries said) (pick (carries_two said) (get_or said.values 1 0) (get_or said.values 0 0) ∷ []) old

-- what is said of an answer that has words of its own, and those words; as they were where it is refused
abbrev pub shown_said : {A : Type 0} → Result A Refusal → Said
shown_said = answer_said (λ _. [])

abbrev pub shown_after : {A : Type 0} → (A → List ℕ) → Result A Refusal → List ℕ → List ℕ
shown_after values (Ok a) old = told_after true (values a) old
shown_after values (Err r) old = old

-- the words for a title's part; as they were where it is refused
abbrev pub part_after : Left Part → List ℕ → List ℕ
part_after l old = told_after l.said.is_granted (part_values l.state) old

-- the words for what a manual's Goto comes to, and those for where the player would be; as they were where it is refused
abbrev pub made_after : Left Arrival → List ℕ → List ℕ
made_after l old = told_after l.said.is_granted (made_values l.state) old

abbrev pub arrival_after : Left Arrival → List ℕ → List ℕ
arrival_after l old = told_after l.said.is_granted (place_values l.state) old

-- the number, the octets afterwards, and the state that they are
pub record Leaves (l : Left Desk) (old : List ℕ) (number : ℕ) (new : List ℕ) : Type 0 where
  pub told : number ≡ l.said.number
  pub octets : new ≡ state_after l old
  pub state : desk_of new ≡ pick l.said.is_granted l.state (desk_of old)

-- what every call on a state leaves: that, and the words for where a text is wrong
pub record Ends (l : Left Desk) (old track offset : List ℕ) (number : ℕ) (new track' offset' : List ℕ) : Type 0 where
  pub leaves : Leaves l old number new
  pub track_told : track' ≡ track_after l.said track
  pub offset_told : offset' ≡ offset_after l.said offset
