-- `mcs::mcs_manual_goto`: `desk_goto::manual_goto`, and what it says.
use mathlib.Core.Path.{◌≡◌, ap, ◌∙◌}
use mathlib.Core.List.{List, [], ◌∷◌}
use Prim.Native.Nat.{ℕ}
use lib.ListN.{get_or}
use Rattle.std.specs.Prelude.{Result, Ok, Err}
use Rattle.ground.specs.Cases.{pick}
use Rattle.ground.specs.declared.Refusal.{Refusal}
use Rattle.ground.specs.Refusals.{Left}
use Rattle.desk_goto.specs.declared.Arrival.{Arrival}
use Rattle.desk_goto.specs.Manual.{shown_by, made_values, place_values}
use Rattle.mcs_told.specs.declared.Told.{Told}
use Rattle.mcs_told.specs.Calls.{AllWords, shown_said, shown_after, told_of, told_after, track_after, offset_after, made_after, arrival_after}
use Rattle.mcs_told.proofs.Words.{place_as_said}
use Rattle.mcs.proofs.Short.{manual_words}
use Rattle.mcs.proofs.mcs_manual_goto.Goals as goal

-- what is told of the answer is told of the call, and so are the words for the arrival
told_is : {t : Told} {l : Left Arrival} (answer : Result Arrival Refusal) → t ≡ told_of (shown_said answer) → shown_by answer ≡ l → t ≡ told_of l.said
told_is (Ok arrival) told said = told ∙ ap (λ (x : Left Arrival). told_of x.said) said
told_is (Err r) told said = told ∙ ap (λ (x : Left Arrival). told_of x.said) said

made_is : {l : Left Arrival} (answer : Result Arrival Refusal) (old : List ℕ) → shown_by answer ≡ l → shown_after made_values answer old ≡ made_after l old
made_is (Ok arrival) old said = ap (λ (x : Left Arrival). made_after x old) said
made_is (Err r) old said = ap (λ (x : Left Arrival). made_after x old) said

arrival_is : {l : Left Arrival} (answer : Result Arrival Refusal) (old : List ℕ) → shown_by answer ≡ l
    → shown_after place_values answer old ≡ arrival_after l old
arrival_is (Ok arrival) old said = ap (λ (x : Left Arrival). arrival_after x old) said
arrival_is (Err r) old said = ap (λ (x : Left Arrival). arrival_after x old) said

pub returns-clause-value : goal.returns-clause-value
returns-clause-value c =
    ap (λ (x : Told). x.number) (told_is c.manual_goto-s.result c.told_of_shown-t.ensures c.manual_goto-s.ensures)

pub returns-clause-made_after : goal.returns-clause-made_after
returns-clause-made_after c =
    c.tell_arrival.ensures.made_after ∙ made_is c.manual_goto-s.result c.args.made.now c.manual_goto-s.ensures

pub returns-clause-place_after : goal.returns-clause-place_after
returns-clause-place_after c =
    c.tell_arrival.ensures.place_after ∙ arrival_is c.manual_goto-s.result c.args.place.now c.manual_goto-s.ensures

place_is : {t : Told} {l : Left Arrival} (answer : Result Arrival Refusal) → t ≡ told_of (shown_said answer) → shown_by answer ≡ l → AllWords l.said.values
    → (track octet track' octet' : List ℕ)
    → (track' ≡ told_after t.titled t.values track) × (octet' ≡ told_after t.carries (pick t.titled (get_or t.values 1 0) (get_or t.values 0 0) ∷ []) octet)
    → (track' ≡ track_after l.said track) × (octet' ≡ offset_after l.said octet)
place_is {t} {l} answer told said = place_as_said t l.said (told_is answer told said)

pub returns-clause-track_after : goal.returns-clause-track_after
returns-clause-track_after c =
    (place_is c.manual_goto-s.result c.told_of_shown-t.ensures c.manual_goto-s.ensures (manual_words _ _ _ _ _ _) c.args.track.now c.args.octet.now _ _ (c.tell_place.ensures.track_after, c.tell_place.ensures.octet_after)).0

pub returns-clause-octet_after : goal.returns-clause-octet_after
returns-clause-octet_after c =
    (place_is c.manual_goto-s.result c.told_of_shown-t.ensures c.manual_goto-s.ensures (manual_words _ _ _ _ _ _) c.args.track.now c.args.octet.now _ _ (c.tell_place.ensures.track_after, c.tell_place.ensures.octet_after)).1
