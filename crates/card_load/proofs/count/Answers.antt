-- `card_load::count`: the counts are weighed as `room_rule` weighs them.
use mathlib.Core.Path.{◌≡◌, sym, ap, ◌∙◌}
use mathlib.Core.Bool.{Bool, not, ◌&&◌}
use mathlib.Core.List.{List, [], ◌∷◌}
use Prim.Native.Nat.{ℕ, ◌/◌}
use Rattle.ground.specs.Refusals.{granted, refused}
use Rattle.ground.specs.Limits.{most_groups, most_tracks, most_segments, most_text}
use Rattle.ground.proofs.Cases.{past, here}
use Rattle.card_load.specs.Card.{blocks, record_count}
use Rattle.card_load.specs.Load.{fits, room_rule}
-- where the counts are taken
use Rattle.card_load.proofs.count.Goals as goal

room_by : (bs : List (List ℕ)) (groups tracks segments text : ℕ) {g t s x : ℕ} {a b c d : Bool}
    → g ≡ record_count 1 bs → t ≡ record_count 2 bs → s ≡ record_count 3 bs → x ≡ record_count 4 bs
    → a ≡ fits g most_groups (groups / 3) → b ≡ fits t most_tracks (tracks / 6) → c ≡ fits s most_segments segments → d ≡ fits x most_text text
    → room_rule bs groups tracks segments text ≡ (a && b && c && d)
unfolding room_rule
room_by bs groups tracks segments text g t s x a b c d =
    (λ k. fits (sym g k) most_groups (groups / 3) && fits (sym t k) most_tracks (tracks / 6) && fits (sym s k) most_segments segments && fits (sym x k) most_text text)
    ∙ (λ k. sym a k && sym b k && sym c k && sym d k)

pub returns-then-a-b : goal.returns-then-a-b
returns-then-a-b c =
    let room_is : let a = c.args in
    room_rule (blocks a.n a.card.now) a.groups a.tracks a.segments a.text
    ≡ (c.within-a.result && c.within-b.result && c.within-c.result && c.within-d.result) = room_by _ _ _ _ _
    c.record_count-g.ensures.0
    c.record_count-t.ensures.0
    c.record_count-s.ensures.0
    c.record_count-x.ensures.0
    c.within-a.ensures
    c.within-b.ensures
    c.within-c.ensures
    c.within-d.ensures in
    let g = c.record_count-g.ensures.0 in
    let t = c.record_count-t.ensures.0 in
    let s = c.record_count-s.ensures.0 in
    let x = c.record_count-x.ensures.0 in
    past (refused 212) (ap not (room_is ∙ c.if-a-b.true)) (λ k. granted (g k ∷ t k ∷ s k ∷ x k ∷ []))

pub returns : goal.returns
returns c =
    let room_is : let a = c.args in
    room_rule (blocks a.n a.card.now) a.groups a.tracks a.segments a.text
    ≡ (c.within-a.result && c.within-b.result && c.within-c.result && c.within-d.result) = room_by _ _ _ _ _
    c.record_count-g.ensures.0
    c.record_count-t.ensures.0
    c.record_count-s.ensures.0
    c.record_count-x.ensures.0
    c.within-a.ensures
    c.within-b.ensures
    c.within-c.ensures
    c.within-d.ensures in
    here _ (ap not (room_is ∙ c.if-a-b.false)) c.from.ensures
