-- A contract of the form `r ≡ f inputs` settles the outcome: two outcomes that meet it at the same inputs are the same. Each public call cites this
-- at its own contract as the check reads it (`Reads.Post`), so a clause that says less is refused there. Assumes nothing.
use mathlib.Core.Path.{◌≡◌, refl, sym, ap, ◌∙◌}
use mathlib.Core.List.{List, [], ◌∷◌}
use Prim.Native.Nat.{ℕ}
use mathlib.Core.Bool.{false}
use lib.Dec.{eqb}
use lib.ListN.{get_or}
use Rattle.std.specs.Prelude.{Result, Ok, Err}
use Rattle.ground.specs.Cases.{pick}
use Rattle.ground.specs.declared.Reason.{Reason}
use Rattle.ground.specs.declared.Reason.TheVariants.{BadCatalogue, BadRenames, SmallOutput, BadState, NoClient, NoService, NotConnected, AlreadyConnected, BadMtu, NoCharacteristic, NoSlot, NotReadable, NotWritable, NotEncrypted, ValueChanged, BeyondEnd, BadLength, NotAllowed, TooManyResults, BadName, BadGroup, BadCardLength, BadCheck, BadBlockNumber, BadKind, BadCount, NotFull, BadPadding, NoRoom, NoCardRoom, BadEntries, NoObjectRoom, LongSheet, BadLine, NotRising, ManyStarts}
use Rattle.ground.specs.declared.Carried.{Carried}
use Rattle.ground.specs.declared.Carried.TheVariants.{Nothing, One, Two}
use Rattle.ground.specs.declared.Refusal.{Refusal}
use Rattle.ground.specs.Refusals.{Said, number_of, carried_of, refusal_of, answer_said, done_said, count_said}
use Rattle.ground.specs.Lists.{table_after}

pub settled : {O : Type 0} {f o₁ o₂ : O} → o₁ ≡ f → o₂ ≡ f → o₁ ≡ o₂
settled p q = p ∙ sym q

-- an answer is settled by what it says, where it can be told from that
pub settled_by : {A : Type 0} (said_of : A → Said) (back : Said → A) → ((a : A) → back (said_of a) ≡ a) → (a b : A) → said_of a ≡ said_of b → a ≡ b
settled_by said_of back told a b e = sym (told a) ∙ ap back e ∙ told b

-- a lent table, by what the call says; a refusal leaves it as it was
pub table_settled : (said₁ said₂ : Said) (front old t₁ t₂ : List ℕ) → said₁ ≡ said₂ → t₁ ≡ table_after said₁ front old → t₂ ≡ table_after said₂ front old → t₁ ≡ t₂
table_settled said₁ said₂ front old t₁ t₂ e p q = p ∙ ap (λ (said : Said). table_after said front old) e ∙ sym q

pub table_kept : (said : Said) (front old t : List ℕ) → said.is_granted ≡ false → t ≡ table_after said front old → t ≡ old
table_kept said front old t h e = rw h at e

-- a refusal, back from what it says
reason_as : ℕ → Reason
reason_as n =
    pick (eqb n 200) BadCatalogue
    (pick (eqb n 224) BadRenames
    (pick (eqb n 205) SmallOutput
    (pick (eqb n 201) BadState
    (pick (eqb n 202) NoClient
    (pick (eqb n 219) NoService
    (pick (eqb n 203) NotConnected
    (pick (eqb n 204) AlreadyConnected
    (pick (eqb n 206) BadMtu
    (pick (eqb n 0x01) NoCharacteristic
    (pick (eqb n 209) NoSlot
    (pick (eqb n 0x02) NotReadable
    (pick (eqb n 0x03) NotWritable
    (pick (eqb n 0x0F) NotEncrypted
    (pick (eqb n 0x80) ValueChanged
    (pick (eqb n 0x07) BeyondEnd
    (pick (eqb n 0x0D) BadLength
    (pick (eqb n 0x13) NotAllowed
    (pick (eqb n 0x11) TooManyResults
    (pick (eqb n 207) BadName
    (pick (eqb n 208) BadGroup
    (pick (eqb n 210) BadCardLength
    (pick (eqb n 211) BadCheck
    (pick (eqb n 215) BadBlockNumber
    (pick (eqb n 216) BadKind
    (pick (eqb n 217) BadCount
    (pick (eqb n 214) NotFull
    (pick (eqb n 218) BadPadding
    (pick (eqb n 212) NoRoom
    (pick (eqb n 213) NoCardRoom
    (pick (eqb n 222) BadEntries
    (pick (eqb n 223) NoObjectRoom
    (pick (eqb n 225) LongSheet
    (pick (eqb n 226) BadLine
    (pick (eqb n 227) NotRising
    ManyStarts))))))))))))))))))))))))))))))))))

reason_back : (r : Reason) → reason_as (number_of r) ≡ r
unfolding reason_as
reason_back BadCatalogue = refl
reason_back BadRenames = refl
reason_back SmallOutput = refl
reason_back BadState = refl
reason_back NoClient = refl
reason_back NoService = refl
reason_back NotConnected = refl
reason_back AlreadyConnected = refl
reason_back BadMtu = refl
reason_back NoCharacteristic = refl
reason_back NoSlot = refl
reason_back NotReadable = refl
reason_back NotWritable = refl
reason_back NotEncrypted = refl
reason_back ValueChanged = refl
reason_back BeyondEnd = refl
reason_back BadLength = refl
reason_back NotAllowed = refl
reason_back TooManyResults = refl
reason_back BadName = refl
reason_back BadGroup = refl
reason_back BadCardLength = refl
reason_back BadCheck = refl
reason_back BadBlockNumber = refl
reason_back BadKind = refl
reason_back BadCount = refl
reason_back NotFull = refl
reason_back BadPadding = refl
reason_back NoRoom = refl
reason_back NoCardRoom = refl
reason_back BadEntries = refl
reason_back NoObjectRoom = refl
reason_back LongSheet = refl
reason_back BadLine = refl
reason_back NotRising = refl
reason_back ManyStarts = refl

carried_as : List ℕ → Carried
carried_as [] = Nothing
carried_as (a ∷ []) = One a
carried_as (a ∷ b ∷ l) = Two a b

refusal_as : Said → Refusal
refusal_as said = record { reason = reason_as said.number; carried = carried_as said.values }

carried_back : (c : Carried) → carried_as (carried_of c) ≡ c
unfolding carried_as
carried_back Nothing = refl
carried_back (One a) = refl
carried_back (Two a b) = refl

refusal_back : (r : Refusal) → refusal_as (refusal_of r) ≡ r
unfolding refusal_as
refusal_back r = λ k. record { reason = reason_back r.reason k; carried = carried_back r.carried k }

-- an answer is settled by what it says, where its value can be told from the values that are said
module _ {A : Type 0} (values : A → List ℕ) (back : List ℕ → A) (told : (a : A) → back (values a) ≡ a) where
  answer_as : Said → Result A Refusal
  answer_as said = pick said.is_granted (Ok (back said.values)) (Err (refusal_as said))

  answer_back : (r : Result A Refusal) → answer_as (answer_said values r) ≡ r
  unfolding answer_as
  answer_back (Ok a) = ap Ok (told a)
  answer_back (Err r) = ap Err (refusal_back r)

  pub said_settles : (r₁ r₂ : Result A Refusal) → answer_said values r₁ ≡ answer_said values r₂ → r₁ ≡ r₂
  said_settles = settled_by (answer_said values) answer_as answer_back

pub done_settles : (r₁ r₂ : Result Unit Refusal) → done_said r₁ ≡ done_said r₂ → r₁ ≡ r₂
done_settles = said_settles (λ _. []) (λ _. tt) (λ u. refl)

pub count_settles : (r₁ r₂ : Result ℕ Refusal) → count_said r₁ ≡ count_said r₂ → r₁ ≡ r₂
count_settles = said_settles (λ n. n ∷ []) (λ values. get_or values 0 0) (λ n. refl)
