-- `mcs::mcs_title`: `desk_title::which`, and what it says.
use mathlib.Core.Path.{◌≡◌, ap, ◌∙◌}
use mathlib.Core.List.{List, [], ◌∷◌}
use Prim.Native.Nat.{ℕ}
use lib.ListN.{get_or}
use Rattle.std.specs.Prelude.{Result, Ok, Err}
use Rattle.ground.specs.Cases.{pick}
use Rattle.ground.specs.declared.Refusal.{Refusal}
use Rattle.ground.specs.Refusals.{Left}
use Rattle.catalogue_titles.specs.declared.Part.{Part}
use Rattle.catalogue_titles.specs.Titles.{part_values}
use Rattle.desk_title.specs.Title.{titled_by}
use Rattle.mcs_told.specs.declared.Told.{Told}
use Rattle.mcs_told.specs.Calls.{AllWords, shown_said, shown_after, told_of, told_after, track_after, offset_after, part_after}
use Rattle.mcs_told.proofs.Words.{place_as_said}
use Rattle.mcs.proofs.Short.{titled_words}
use Rattle.mcs.proofs.mcs_title.Goals as goal

-- what is told of the answer is told of the call, and so are the words for its part
told_is : {t : Told} {l : Left Part} (answer : Result Part Refusal) → t ≡ told_of (shown_said answer) → titled_by answer ≡ l → t ≡ told_of l.said
told_is (Ok part) told said = told ∙ ap (λ (x : Left Part). told_of x.said) said
told_is (Err r) told said = told ∙ ap (λ (x : Left Part). told_of x.said) said

part_is : {l : Left Part} (answer : Result Part Refusal) (old : List ℕ) → titled_by answer ≡ l → shown_after part_values answer old ≡ part_after l old
part_is (Ok part) old said = ap (λ (x : Left Part). part_after x old) said
part_is (Err r) old said = ap (λ (x : Left Part). part_after x old) said

pub returns-clause-value : goal.returns-clause-value
returns-clause-value c =
    ap (λ (x : Told). x.number) (told_is c.which-w.result c.told_of_shown-t.ensures c.which-w.ensures)

pub returns-clause-part_after : goal.returns-clause-part_after
returns-clause-part_after c =
    c.tell_part.ensures ∙ part_is c.which-w.result c.args.part.now c.which-w.ensures

place_is : {t : Told} {l : Left Part} (answer : Result Part Refusal) → t ≡ told_of (shown_said answer) → titled_by answer ≡ l → AllWords l.said.values
    → (track octet track' octet' : List ℕ)
    → (track' ≡ told_after t.titled t.values track) × (octet' ≡ told_after t.carries (pick t.titled (get_or t.values 1 0) (get_or t.values 0 0) ∷ []) octet)
    → (track' ≡ track_after l.said track) × (octet' ≡ offset_after l.said octet)
place_is {t} {l} answer told said = place_as_said t l.said (told_is answer told said)

pub returns-clause-track_after : goal.returns-clause-track_after
returns-clause-track_after c =
    (place_is c.which-w.result c.told_of_shown-t.ensures c.which-w.ensures (titled_words _ _ _) c.args.track.now c.args.octet.now _ _ (c.tell_place.ensures.track_after, c.tell_place.ensures.octet_after)).0

pub returns-clause-octet_after : goal.returns-clause-octet_after
returns-clause-octet_after c =
    (place_is c.which-w.result c.told_of_shown-t.ensures c.which-w.ensures (titled_words _ _ _) c.args.track.now c.args.octet.now _ _ (c.tell_place.ensures.track_after, c.tell_place.ensures.octet_after)).1
