-- What `finish` tells of an answer is what `Ends` says, which settles number, octets and words; and a call that changes nothing leaves every octet as it was. Assumes nothing.
use mathlib.Core.Path.{◌≡◌, refl, sym, ap, subst, ◌∙◌}
use mathlib.Core.Bool.{Bool, true, false}
use mathlib.Core.List.{List, ◌++◌}
use Prim.Native.Nat.{ℕ, ◌≤◌}
use borrow.Author.Tests.{not-false}
use lib.ListN.{length, drop}
use Rattle.std.specs.Prelude.{Result}
use Rattle.ground.specs.Cases.{pick}
use Rattle.ground.specs.declared.Refusal.{Refusal}
use Rattle.ground.specs.Refusals.{Said, Row, accepted, said_by, Left}
use Rattle.ground.proofs.Cases.{clash}
use Rattle.ground.proofs.Rows.{accepted_said, none_of, said_of_lem}
use Rattle.catalogue_titles.specs.Lent.{Lent}
use Rattle.desk_state.specs.declared.Desk.{Desk}
use Rattle.desk_replies.specs.declared.Reply.{Reply}
use Rattle.desk_replies.specs.Replies.{said_of, state_after, Answers, state_right, fronted, asked}
use Rattle.mcs_state.specs.Codec.{desk_of, desk_octets}
use Rattle.mcs_state.specs.Stored.{Octets}
use Rattle.mcs_state.proofs.Plain.{plain}
use Rattle.mcs_told.specs.Calls.{AllWords, track_after, offset_after, Ends}

-- a call's answer, and the words for where a text is wrong that are told by it
pub ends : {l : Left Desk} {old track offset new track' offset' : List ℕ} {number : ℕ} {answer : Result Reply Refusal} → Answers l old answer new
    → (number ≡ (said_of answer).number) × ((track' ≡ track_after (said_of answer) track) × (offset' ≡ offset_after (said_of answer) offset))
    → Ends l old track offset number new track' offset'
ends {l} {old} {track} {offset} a h =
    record {
      leaves = record { told = h.0 ∙ ap (λ (x : Said). x.number) a.said; octets = a.octets; state = a.state };
      track_told = h.1.0 ∙ ap (λ (x : Said). track_after x track) a.said;
      offset_told = h.1.1 ∙ ap (λ (x : Said). offset_after x offset) a.said;
    }

pub ends_settled : {l : Left Desk} {old track offset new₁ new₂ t₁ t₂ o₁ o₂ : List ℕ} {n₁ n₂ : ℕ}
    → Ends l old track offset n₁ new₁ t₁ o₁ → Ends l old track offset n₂ new₂ t₂ o₂ → ((n₁ ≡ n₂) × (new₁ ≡ new₂)) × (t₁ ≡ t₂) × (o₁ ≡ o₂)
ends_settled a b = (
  (a.leaves.told ∙ sym b.leaves.told, a.leaves.octets ∙ sym b.leaves.octets),
  a.track_told ∙ sym b.track_told,
  a.offset_told ∙ sym b.offset_told,
)

-- an answer says small numbers, as the call does
pub small_said : {l : Left Desk} {old new : List ℕ} {answer : Result Reply Refusal} → Answers l old answer new → AllWords l.said.values → AllWords (said_of answer).values
small_said a h = subst (λ (x : Said). AllWords x.values) (sym a.said) h

-- a call that is accepted found a state that stands
stood : (k : Lent) (small : Bool) (d : Desk) (rows : List Row) (work : Left Desk) → (asked k small d rows work).said.is_granted ≡ true → state_right k d ≡ true
stood k small d rows work e = go (accepted all) refl (sym (ap (λ (s : Said). s.is_granted) (said_of_lem d all work)) ∙ e)
  where
    all : List Row
    all = fronted k small d ++ rows

    go : (t : Bool) → accepted all ≡ t → (pick t work.said (said_by all)).is_granted ≡ true → state_right k d ≡ true
    go true q h = not-false _ (none_of all q).1.1.1.0
    go false q h = clash (sym (accepted_said all ∙ q) ∙ h)

-- Every call on a state has this form (`asked`). Where it leaves the state that the octets were, it leaves every octet as it was, those that mean nothing
-- too; a refusal does so anyway.
pub unchanged : (k : Lent) (small : Bool) (rows : List Row) (work : Left Desk) (old : List ℕ) → 649 ≤ length old → Octets old
    → (asked k small (desk_of old) rows work).state ≡ desk_of old → state_after (asked k small (desk_of old) rows work) old ≡ old
unchanged k small rows work old long octets same = go l.said.is_granted refl
  where
    l : Left Desk
    l = asked k small (desk_of old) rows work

    go : (t : Bool) → (asked k small (desk_of old) rows work).said.is_granted ≡ t
        → pick t (desk_octets (asked k small (desk_of old) rows work).state ++ drop 649 old) old ≡ old
    go true e = ap (λ (d : Desk). desk_octets d ++ drop 649 old) same ∙ plain k.groups k.tracks old long octets (stood k small (desk_of old) rows work e)
    go false e = refl
