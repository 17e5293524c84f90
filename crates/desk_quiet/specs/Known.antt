-- SCOPE 21.12: "Then for every subscribed slot but 7 and 18 that changed since subscribing, what the client last took, or itself wrote with success since, is
-- the present value as far as ATT_MTU − 3 reaches." Here is what has changed, and what a client has learnt, from the calls, their numbers and what the takes
-- handed out. Nothing here looks at what is owed.
-- Assumes nothing.
use Rattle.std.specs.Prelude.{◌≡◌, Bool, false, ◌&&◌, ◌||◌, List, [], ◌∷◌, ◌++◌, ℕ, ◌<◌, eqb}
use Rattle.std.proofs.Math.Option.{Option, none, some}
use Rattle.ground.specs.Cases.{pick}
use Rattle.ground.specs.Lists.{Each}
use Rattle.ground.specs.Words.{Octs}
use Rattle.catalogue_titles.specs.Lent.{Lent}
use Rattle.player_state.specs.declared.Player.{Player}
use Rattle.player_values.specs.Values.{source_of}
use Rattle.desk_slots.specs.Slots.{slot_count, characteristic_of}
use Rattle.desk_notices.specs.Changes.{changed, track_changed}
use Rattle.desk_notices.specs.Owed.{falls_due}
use Rattle.desk_console.specs.Console.{Beginning}
use Rattle.desk_history.specs.Calls.{Call, set_name, activate, deactivate, advance, connect, disconnect, subscribe, unsubscribe, read, write, take, left}
use Rattle.desk_history.specs.Rounds.{Handout, prepend}
use Rattle.desk_history.specs.History.{octets_in, handed_out, ledger_at, desk_at, subscribed_at, handouts_to}

-- SCOPE 21.12: "every subscribed slot but 7 and 18"
pub record Claimed (s : ℕ) : Type 0 where
  pub slot : s < slot_count
  pub but_position : characteristic_of s ≡ 7 → ⊥
  pub but_results : characteristic_of s ≡ 18 → ⊥

-- what client who "itself wrote with success" (SCOPE 21.12) to slot s of service v, by a call that answered this number; 0 says that it was accepted
abbrev pub own_write : ℕ → ℕ → ℕ → ℕ → Call → List (List ℕ)
own_write who v s number (set_name w name) = []
own_write who v s number (activate w g) = []
own_write who v s number (deactivate w) = []
own_write who v s number (advance w step) = []
own_write who v s number (connect by mtu encrypted) = []
own_write who v s number (disconnect by) = []
own_write who v s number (subscribe by w c) = []
own_write who v s number (unsubscribe by w c) = []
own_write who v s number (read by w c offset room) = []
own_write who v s number (write by w c value) =
    pick (eqb number 0 && (eqb who by && (eqb v w && eqb (characteristic_of s) c))) (value ∷ []) []
own_write who v s number (take room) = []

-- what it learns of the slot by a call that answered this number and handed out this: what it took, and what it wrote
abbrev pub learnt_by : ℕ → ℕ → ℕ → Call → ℕ → Option Handout → List (List ℕ)
learnt_by who v s call number o = handouts_to who v s (prepend o []) ++ own_write who v s number call

-- the newest of what was learnt
abbrev pub newest : List (List ℕ) → Option (List ℕ)
newest [] = none
newest (o ∷ l) = some o

-- a call that finds the player p and leaves q "changes its value" (SCOPE 18.1); that of 4 is always empty, and it changes with the track number (SCOPE 18.2)
abbrev pub slot_changes : Lent → ℕ → Player → Player → Bool
slot_changes k s p q = falls_due (changed (source_of k) p q (characteristic_of s)) (track_changed p q) (characteristic_of s)

module _ (k : Lent) (generic named : Beginning) (who v s : ℕ) where
  abbrev pub player_at : List Call → Player
  player_at h = ((ledger_at k generic named h).service v).player

  -- the call c, made after h, changes the slot
  abbrev pub changed_by : Call → List Call → Bool
  changed_by c h = slot_changes k s (player_at h) (player_at (c ∷ h))

  -- "changed since subscribing" (SCOPE 21.12): by a call that found the client subscribed, since the last one that did not
  abbrev pub changed_since : List Call → Bool
  changed_since [] = false
  changed_since (c ∷ h) = subscribed_at k generic named who v s h && (changed_by c h || changed_since h)

  -- all that the client has learnt of the slot since it subscribed, newest first
  abbrev pub learnt : List Call → List (List ℕ)
  learnt [] = []
  learnt (c ∷ h) =
      pick (subscribed_at k generic named who v s h)
      (learnt_by who v s c (left k c (desk_at k generic named h)).said.number (handed_out k c (desk_at k generic named h)) ++ learnt h) []

  -- "the present value as far as ATT_MTU − 3 reaches" (SCOPE 21.12)
  abbrev pub present_at : List Call → List ℕ
  present_at h = octets_in k ((ledger_at k generic named h).service v) who ((ledger_at k generic named h).link who) s

-- what a call writes is octets, each below 256; and so of every call of a history
abbrev pub WritesOctets : Call → Type 0
WritesOctets (set_name w name) = Unit {0}
WritesOctets (activate w g) = Unit {0}
WritesOctets (deactivate w) = Unit {0}
WritesOctets (advance w step) = Unit {0}
WritesOctets (connect by mtu encrypted) = Unit {0}
WritesOctets (disconnect by) = Unit {0}
WritesOctets (subscribe by w c) = Unit {0}
WritesOctets (unsubscribe by w c) = Unit {0}
WritesOctets (read by w c offset room) = Unit {0}
WritesOctets (write by w c value) = Octs value
WritesOctets (take room) = Unit {0}

abbrev pub AllOctets : List Call → Type 0
AllOctets h = Each WritesOctets h
