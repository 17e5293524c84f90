-- What a call on the whole says and leaves (SCOPE 20.1), and the rows of the table of refusals that many calls share (SCOPE 20.2 and 20.3).
-- Assumes nothing.
use Rattle.std.specs.Prelude.{◌≡◌, Bool, false, not, List, [], ◌∷◌, ◌++◌, ℕ, leb, drop, Result, Ok, Err}
use Rattle.ground.specs.Cases.{pick}
use Rattle.ground.specs.Refusals.{Said, granted, refused_with, number_of, carried_of, answer_said, Left, keeping, Row, row, answered}
use Rattle.catalogue_titles.specs.Lent.{Lent, fit_rows}
use Rattle.desk_slots.specs.Slots.{service_count, client_count}
use Rattle.desk_slots.specs.Characteristics.{every_one, is_in}
use Rattle.desk_client.specs.declared.Link.{Link}
use Rattle.desk_client.specs.declared.Account.{Account}
use Rattle.desk_state.specs.declared.Desk.{Desk}
use Rattle.desk_state.specs.Desk.{link_at, service_at, account_in, desk_rule}
use Rattle.mcs_state.specs.Codec.{desk_of, desk_octets}
use Rattle.ground.specs.declared.Refusal.{Refusal}
use Rattle.desk_replies.specs.declared.Reply.{Reply}
use Rattle.desk_replies.specs.declared.Reply.TheVariants.{Done, Octets, Served, Handed}
use Rattle.desk_replies.specs.declared.Barred.{Barred}
use Rattle.desk_replies.specs.declared.Barred.TheVariants.{Shared, Own}

-- the values of each reply (SCOPE 20.2), and what an answer says
abbrev pub values_of : Reply → List ℕ
values_of Done = []
values_of (Octets n) = n ∷ []
values_of (Served who service characteristic n) = who ∷ service ∷ characteristic ∷ n ∷ []
values_of (Handed service characteristic n) = service ∷ characteristic ∷ n ∷ []

abbrev pub said_of : Result Reply Refusal → Said
said_of = answer_said values_of

-- the octets of the next state, or as they were
abbrev pub state_after : Left Desk → List ℕ → List ℕ
state_after l old = pick l.said.is_granted (desk_octets l.state ++ drop 649 old) old

-- what a call on a state's octets comes to: what it says, the octets that it leaves, and the state that they are
pub record Answers (l : Left Desk) (old : List ℕ) (answer : Result Reply Refusal) (new : List ℕ) : Type 0 where
  pub said : said_of answer ≡ l.said
  pub octets : new ≡ state_after l old
  pub state : desk_of new ≡ pick l.said.is_granted l.state (desk_of old)

-- SCOPE 20.2: 200, 224; 205, "the lent output of a read or take is under 128 octets" (SCOPE 17.16). `small` is false where no output is lent.
abbrev pub lent_rows : Lent → Bool → List Row
lent_rows k small = fit_rows k ++ (row 205 small ∷ [])

-- SCOPE 20.2: 201, "the state breaks a rule"
abbrev pub state_row : Bool → Row
state_row stands = row 201 (not stands)

-- over the whole
abbrev pub state_right : Lent → Desk → Bool
state_right k d = desk_rule k.groups k.tracks d

-- 200, 224, 205, 201: what every call on the whole asks first
abbrev pub fronted : Lent → Bool → Desk → List Row
fronted k small d = lent_rows k small ++ (state_row (state_right k d) ∷ [])

-- SCOPE 20.2: 202, "the client's number is over 3"
abbrev pub client_row : ℕ → Row
client_row who = row 202 (leb client_count who)

-- SCOPE 20.2: 219, "the service's number is over 1"
abbrev pub service_row : ℕ → Row
service_row service = row 219 (leb service_count service)

-- 200, 224, 205 of no output, 201, 219: what every call asks that is on a service, and of no client
abbrev pub on_service : Lent → Desk → ℕ → List Row
on_service k d service = fronted k false d ++ (service_row service ∷ [])

-- SCOPE 20.2: 203, "the client is not connected"
abbrev pub connected_row : Bool → Row
connected_row connected = row 203 (not connected)

-- what every call of a connected client on a service asks
abbrev pub of_caller : ℕ → ℕ → Bool → List Row
of_caller who service connected = client_row who ∷ service_row service ∷ connected_row connected ∷ []

-- SCOPE 20.2: 0x01, "the characteristic is not one of the eighteen"; the number by which what is asked of the characteristic is not allowed; 0x0F, "by a client
-- that is connected unencrypted"
abbrev pub of_characteristic : Bool → ℕ → ℕ → Bool → List Row
of_characteristic encrypted characteristic number allowed =
    row 0x01 (not (is_in every_one characteristic)) ∷ row number (not allowed) ∷ row 0x0F (not encrypted) ∷ []

-- what a gate says that asks these: of its own row that has the number by which the call reads the name that it gave
abbrev pub barred_number : {R : Type 0} → (R → ℕ) → Barred R → ℕ
barred_number number (Shared r) = number_of r.reason
barred_number number (Own name) = number name

abbrev pub barred_values : {R : Type 0} → Barred R → List ℕ
barred_values (Shared r) = carried_of r.carried
barred_values (Own name) = []

abbrev pub barred_of : {R : Type 0} → (R → ℕ) → Barred R → Said
barred_of number b = refused_with (barred_number number b) (barred_values b)

abbrev pub barred_said : {R : Type 0} → (R → ℕ) → Result Unit (Barred R) → Said
barred_said number (Ok u) = granted []
barred_said number (Err b) = barred_of number b

-- what a call says and leaves, by these and by its own rows
abbrev pub asked : Lent → Bool → Desk → List Row → Left Desk → Left Desk
asked k small d rows work = answered (keeping d) (fronted k small d ++ rows) work

-- the link of the client that calls; its account with the service that it calls
abbrev pub link_of : Desk → ℕ → Link
link_of d who = link_at d.links who

abbrev pub account_of : Desk → ℕ → ℕ → Account
account_of d who service = account_in (service_at d service) who
