-- The player's part of 201: what a state of a player keeps, so that it stands in a catalogue (SCOPE 20.5). And what is asked of a name and of a group that are
-- handed in, which is 207 and 208 (SCOPE 20.2).
-- Assumes nothing.
use Rattle.std.specs.Prelude.{Bool, true, false, ◌&&◌, not, List, [], ◌∷◌, ℕ, ◌+◌, ◌-◌, eqb, ltb, leb, length, take}
use Rattle.ground.specs.Cases.{pick, within}
use Rattle.ground.specs.Refusals.{Row, row, row_with}
use Rattle.ground.specs.Limits.{most_title}
use Rattle.text.specs.Utf8.{text_of, text_said, is_fine}
use Rattle.catalogue_tables.specs.Tables.{group_count, first_track_of, tracks_in, end_of}
use Rattle.player_clock.specs.Clock.{rest_rule}
use Rattle.player_state.specs.declared.Name.{Name}
use Rattle.player_state.specs.declared.Mode.{Mode}
use Rattle.player_state.specs.declared.Place.{Place}
use Rattle.player_state.specs.declared.Player.{Player}
use Rattle.player_state.specs.Player.{inactive, seeking}
use Rattle.player_state.specs.Modes.{rungs}

-- SCOPE 20.2: 207 is given when "the name has over 128 octets or is not UTF-8"
unfoldable pub text_rule : List ℕ → Bool
text_rule name = leb (length name) most_title && is_fine (text_of name)

-- SCOPE 20.4: it carries "an offset in the name, which is 128 for a name over 128 octets, tested first, and else by 2.6"
unfoldable pub name_carries : List ℕ → List ℕ
name_carries name = pick (leb (length name) most_title) (text_said name).values (most_title ∷ [])

-- the row of 207
abbrev pub name_row : List ℕ → Row
name_row name = row_with 207 (name_carries name) (not (text_rule name))

-- a stored name keeps SCOPE 8.3 too; its array always has 128 octets, so the stored length is asked by itself
unfoldable pub name_rule : Name → Bool
name_rule n = leb n.len most_title && is_fine (text_of (take n.len n.octets))

-- SCOPE 8.9: "A group that is absent or has no tracks is refused with 208."
unfoldable pub group_rule : List ℕ → ℕ → Bool
group_rule groups g = ltb g (group_count groups) && ltb 0 (tracks_in groups g)

abbrev pub group_row : List ℕ → ℕ → Row
group_row groups g = row 208 (not (group_rule groups g))

-- x is in the list
abbrev pub member : ℕ → List ℕ → Bool
member x [] = false
member x (y ∷ l) = pick (eqb x y) true (member x l)

-- the media state is one of four (SCOPE 8.1) and the order one of eight (SCOPE 8.4); the seeking speed is a rung while Seeking, and 0 outside it (SCOPE 8.5)
unfoldable pub mode_rule : Mode → Bool
mode_rule m =
    leb m.media seeking
    && within 1 8 m.order
    && pick (eqb m.media seeking) (member m.seeking rungs) (eqb m.seeking 0)

-- SCOPE 20.5: a state is wrong where, "while Inactive, its group, track or position is not 0; otherwise the group is absent, the track is not in it, or the
-- position is above D"
abbrev pub no_place : Place → Bool
no_place l = eqb l.group.0 0 && eqb l.track.0 0 && eqb l.position.0 0

-- the group is there, and the track is in it
abbrev pub in_group : List ℕ → ℕ → ℕ → Bool
in_group groups g t =
    ltb g (group_count groups) && leb (first_track_of groups g) t && ltb t (first_track_of groups g + tracks_in groups g)

abbrev pub some_place : List ℕ → List ℕ → Place → Bool
some_place groups tracks l =
    in_group groups l.group.0 l.track.0 && leb l.position.0 (end_of tracks l.track.0)

unfoldable pub place_rule : List ℕ → List ℕ → Bool → Place → Bool
place_rule groups tracks active l = pick active (some_place groups tracks l) (no_place l)

-- SCOPE 20.5: a state is wrong where "a next track is named while Inactive, or one that is not of the current group"
unfoldable pub upcoming_rule : List ℕ → Bool → ℕ → ℕ → Bool
upcoming_rule groups active g upcoming = pick (eqb upcoming 0) true (active && in_group groups g (upcoming - 1))

-- all of the player's part; the rest is 0 to 65,535 in every state (SCOPE 8.6)
unfoldable pub player_rule : List ℕ → List ℕ → Player → Bool
player_rule groups tracks p =
    name_rule p.name
    && mode_rule p.mode
    && place_rule groups tracks (ltb inactive p.mode.media) p.place
    && upcoming_rule groups (ltb inactive p.mode.media) p.place.group.0 p.upcoming
    && rest_rule p.place.rest
