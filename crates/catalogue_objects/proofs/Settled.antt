-- The contracts of `write_group`, `write_segments` and `read` settle the answer and what is lent: two outcomes that meet one at the same arguments are the
-- same; and a refusal leaves what is lent as it was. Assumes nothing.
use mathlib.Core.Path.{◌≡◌, sym, ◌∙◌}
use mathlib.Core.Bool.{false}
use mathlib.Core.List.{List}
use Prim.Native.Nat.{ℕ}
use contract.Lifetimes.{Lfts}
use denote.Ref.{Bor, MutBor, at_last}
use Rattle.ground.specs.Lists.{table_after}
use Rattle.ground.specs.Refusals.{Said, count_said}
use Rattle.ground.proofs.Settled.{count_settles, table_settled, table_kept}
use Rattle.catalogue_tables.specs.declared.GroupNo.{GroupNo}
use Rattle.catalogue_tables.specs.declared.TrackNo.{TrackNo}
use Rattle.std.specs.Prelude.{Result}
use Rattle.ground.specs.declared.Refusal.{Refusal}
use Rattle.catalogue_objects.specs.declared.Kind.{Kind}
use Rattle.catalogue_objects.specs.Objects.{group_octets, segments_octets}
use Rattle.catalogue_objects.specs.Reading.{entries_of}
use Rattle.catalogue_objects.proofs.read.Reads as read
use Rattle.catalogue_objects.proofs.write_group.Reads as write-group
use Rattle.catalogue_objects.proofs.write_segments.Reads as write-segments

-- a contract that says what the answer says, and what is then lent
module _ (said : Said) (front old : List ℕ) where
  abbrev Leaves : Result ℕ Refusal → List ℕ → Type 0
  Leaves a t = (count_said a ≡ said) × (t ≡ table_after (count_said a) front old)

  settled : (a b : Result ℕ Refusal) (t u : List ℕ) → Leaves a t → Leaves b u → (a ≡ b) × (t ≡ u)
  settled a b t u p q =
      let e : count_said a ≡ count_said b = p.0 ∙ sym q.0 in
      (count_settles a b e, table_settled _ _ front old t u e p.1 q.1)

  keeps : (a : Result ℕ Refusal) (t : List ℕ) → Leaves a t → (count_said a).is_granted ≡ false → t ≡ old
  keeps a t p h = table_kept (count_said a) front old t h p.1

module _ (κs : Lfts 5) (groups tracks segments text : Bor (List ℕ)) (out : MutBor (List ℕ)) where
  module _ (g : GroupNo) where
    -- an answer and lent octets at exit that meet the contract
    abbrev pub MeetsGroup : Result ℕ Refusal → List ℕ → Type 0
    MeetsGroup a t =
        write-group.Post κs
        (groups, (tracks, (segments, (text, (g, (out, tt)))))) a (groups, (tracks, (segments, (text, (g, (at_last out t, tt))))))

    pub write_group_settled : (a b : Result ℕ Refusal) (t u : List ℕ) → MeetsGroup a t → MeetsGroup b u → (a ≡ b) × (t ≡ u)
    write_group_settled = settled _ (group_octets groups.now g.0) out.now

    pub write_group_keeps : (a : Result ℕ Refusal) (t : List ℕ) → MeetsGroup a t → (count_said a).is_granted ≡ false → t ≡ out.now
    write_group_keeps = keeps _ (group_octets groups.now g.0) out.now

  module _ (track : TrackNo) where
    abbrev pub MeetsSegments : Result ℕ Refusal → List ℕ → Type 0
    MeetsSegments a t =
        write-segments.Post κs
        (groups, (tracks, (segments, (text, (track, (out, tt)))))) a (groups, (tracks, (segments, (text, (track, (at_last out t, tt))))))

    pub write_segments_settled : (a b : Result ℕ Refusal) (t u : List ℕ) → MeetsSegments a t → MeetsSegments b u → (a ≡ b) × (t ≡ u)
    write_segments_settled = settled _ (segments_octets tracks.now segments.now track.0) out.now

    pub write_segments_keeps : (a : Result ℕ Refusal) (t : List ℕ) → MeetsSegments a t → (count_said a).is_granted ≡ false → t ≡ out.now
    write_segments_keeps = keeps _ (segments_octets tracks.now segments.now track.0) out.now

module _ (κs : Lfts 2) (octets : Bor (List ℕ)) (out : MutBor (List ℕ)) (kind : Kind) where
  abbrev pub MeetsRead : Result ℕ Refusal → List ℕ → Type 0
  MeetsRead a t = read.Post κs (octets, (kind, (out, tt))) a (octets, (kind, (at_last out t, tt)))

  pub read_settled : (a b : Result ℕ Refusal) (t u : List ℕ) → MeetsRead a t → MeetsRead b u → (a ≡ b) × (t ≡ u)
  read_settled = settled _ (entries_of kind octets.now).words out.now

  pub read_keeps : (a : Result ℕ Refusal) (t : List ℕ) → MeetsRead a t → (count_said a).is_granted ≡ false → t ≡ out.now
  read_keeps = keeps _ (entries_of kind octets.now).words out.now
