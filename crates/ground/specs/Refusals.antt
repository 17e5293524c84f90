-- What a call says, and the table of refusals as a chain of rows. SCOPE 20.2: "Where several refusals apply, the first in this table is given."
-- Assumes nothing.
use Rattle.std.specs.Prelude.{Bool, true, false, ◌&&◌, not, List, [], ◌∷◌, ℕ, eqb, Result, Ok, Err}
use Rattle.ground.specs.Cases.{pick}
use Rattle.ground.specs.declared.Reason.{Reason}
use Rattle.ground.specs.declared.Reason.TheVariants.{BadCatalogue, BadRenames, SmallOutput, BadState, NoClient, NoService, NotConnected, AlreadyConnected, BadMtu, NoCharacteristic, NoSlot, NotReadable, NotWritable, NotEncrypted, ValueChanged, BeyondEnd, BadLength, NotAllowed, TooManyResults, BadName, BadGroup, BadCardLength, BadCheck, BadBlockNumber, BadKind, BadCount, NotFull, BadPadding, NoRoom, NoCardRoom, BadEntries, NoObjectRoom, LongSheet, BadLine, NotRising, ManyStarts}
use Rattle.ground.specs.declared.Carried.{Carried}
use Rattle.ground.specs.declared.Carried.TheVariants.{Nothing, One, Two}
use Rattle.ground.specs.declared.Refusal.{Refusal}

-- What a call says: that it is granted, which is number 0, with the values of its answer; or the number of a refusal, with what it carries (SCOPE 20.1).
pub record Said : Type 0 where
  pub is_granted : Bool
  pub number : ℕ
  pub values : List ℕ

abbrev pub granted : List ℕ → Said
granted values = record { is_granted = true; number = 0; values = values }

abbrev pub refused_with : ℕ → List ℕ → Said
refused_with number values = record { is_granted = false; number = number; values = values }

-- a refusal that carries nothing
abbrev pub refused : ℕ → Said
refused number = refused_with number []

-- SCOPE 20.2: the number of a reason
abbrev pub number_of : Reason → ℕ
number_of BadCatalogue = 200
number_of BadRenames = 224
number_of SmallOutput = 205
number_of BadState = 201
number_of NoClient = 202
number_of NoService = 219
number_of NotConnected = 203
number_of AlreadyConnected = 204
number_of BadMtu = 206
number_of NoCharacteristic = 0x01
number_of NoSlot = 209
number_of NotReadable = 0x02
number_of NotWritable = 0x03
number_of NotEncrypted = 0x0F
number_of ValueChanged = 0x80
number_of BeyondEnd = 0x07
number_of BadLength = 0x0D
number_of NotAllowed = 0x13
number_of TooManyResults = 0x11
number_of BadName = 207
number_of BadGroup = 208
number_of BadCardLength = 210
number_of BadCheck = 211
number_of BadBlockNumber = 215
number_of BadKind = 216
number_of BadCount = 217
number_of NotFull = 214
number_of BadPadding = 218
number_of NoRoom = 212
number_of NoCardRoom = 213
number_of BadEntries = 222
number_of NoObjectRoom = 223
number_of LongSheet = 225
number_of BadLine = 226
number_of NotRising = 227
number_of ManyStarts = 228

-- the values that a refusal carries (SCOPE 20.4)
abbrev pub carried_of : Carried → List ℕ
carried_of Nothing = []
carried_of (One a) = a ∷ []
carried_of (Two a b) = a ∷ b ∷ []

abbrev pub refusal_of : Refusal → Said
refusal_of r = refused_with (number_of r.reason) (carried_of r.carried)

-- what a call says that answers with a value or refuses: `values` are those of its answer (SCOPE 20.1)
abbrev pub answer_said : {A : Type 0} → (A → List ℕ) → Result A Refusal → Said
answer_said values (Ok a) = granted (values a)
answer_said values (Err r) = refusal_of r

-- of a call that answers nothing but that it is done, and of one that answers how many
abbrev pub done_said : Result Unit Refusal → Said
done_said = answer_said (λ _. [])

abbrev pub count_said : Result ℕ Refusal → Said
count_said = answer_said (λ n. n ∷ [])

-- a row of the table: whether it applies to the call, its number, and what the refusal carries
pub record Row : Type 0 where
  pub applies : Bool
  pub number : ℕ
  pub values : List ℕ

abbrev pub row_with : ℕ → List ℕ → Bool → Row
row_with number values applies = record { applies = applies; number = number; values = values }

abbrev pub row : ℕ → Bool → Row
row number applies = row_with number [] applies

-- SCOPE 20.2: "A refusal is given exactly when its row applies to the call and no earlier row does." Where no row applies, the work is done.
abbrev pub answered : {A : Type 0} → (Said → A) → List Row → A → A
answered refuse [] work = work
answered refuse (r ∷ rows) work = pick r.applies (refuse (refused_with r.number r.values)) (answered refuse rows work)

-- no row applies
abbrev pub accepted : List Row → Bool
accepted [] = true
accepted (r ∷ rows) = not r.applies && accepted rows

-- what a call says: the refusal of the first row that applies, or else `work`
abbrev pub said_through : List Row → Said → Said
said_through rows work = answered (λ said. said) rows work

abbrev pub said_by : List Row → Said
said_by rows = said_through rows (granted [])

-- what a call says, and the state that it leaves
pub record Left (S : Type 0) : Type 0 where
  pub said : Said
  pub state : S

abbrev pub leaves : {S : Type 0} → Said → S → Left S
leaves said s = record { said = said; state = s }

-- SCOPE 20.1: a refusal "alters nothing", so that the state stays
abbrev pub keeping : {S : Type 0} → S → Said → Left S
keeping s said = leaves said s

-- the numbers of the table of SCOPE 20.2, in its order
abbrev pub table : List ℕ
table =
    number_of BadCatalogue ∷ number_of BadRenames ∷ number_of SmallOutput ∷ number_of BadState ∷ number_of NoClient ∷ number_of NoService ∷
    number_of NotConnected ∷ number_of AlreadyConnected ∷ number_of BadMtu ∷ number_of NoCharacteristic ∷ number_of NoSlot ∷ number_of NotReadable ∷
    number_of NotWritable ∷ number_of NotEncrypted ∷ number_of ValueChanged ∷ number_of BeyondEnd ∷ number_of BadLength ∷ number_of NotAllowed ∷
    number_of TooManyResults ∷ number_of BadName ∷ number_of BadGroup ∷ number_of BadCardLength ∷ number_of BadCheck ∷ number_of BadBlockNumber ∷
    number_of BadKind ∷ number_of BadCount ∷ number_of NotFull ∷ number_of BadPadding ∷ number_of NoRoom ∷ number_of NoCardRoom ∷
    number_of BadEntries ∷ number_of NoObjectRoom ∷ number_of LongSheet ∷ number_of BadLine ∷ number_of NotRising ∷ number_of ManyStarts ∷ []

-- the rows have their numbers in the order of the table, and each number at most once
abbrev pub in_order : List ℕ → List Row → Bool
in_order numbers [] = true
in_order [] (r ∷ rows) = false
in_order (n ∷ numbers) (r ∷ rows) = pick (eqb n r.number) (in_order numbers rows) (in_order numbers (r ∷ rows))
