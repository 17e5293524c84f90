-- `desk_notices::same_next`: each of the comparisons.
use mathlib.Core.Path.{◌≡◌, refl, ap}
use mathlib.Core.Bool.{Bool, true, false, not, ◌&&◌, beq}
use borrow.Author.Tests.{eqb-true}
use lib.Dec.{eqb}
use Rattle.ground.proofs.Cases.{clash, and_left, and_right}
use Rattle.desk_notices.proofs.same_next.Goals as goal

alike : (a b : Bool) → beq a b ≡ true → a ≡ b
alike true true e = refl
alike true false e = clash e
alike false true e = clash e
alike false false e = refl

pub returns : goal.returns
returns c same =
    let a = c.args in
    let p = a.p in
    let q = a.q in
    let active = beq (eqb p.mode.media 0) (eqb q.mode.media 0) in
    let place = eqb p.place.group.0 q.place.group.0 && eqb p.place.track.0 q.place.track.0 in
    let order = eqb p.mode.order q.mode.order in
    let all-but-name = and_left (active && place && order) _ same in
    let seat = and_left (active && place) _ all-but-name in
    let both = and_right active place seat in
    record {
      active = ap not (alike (eqb p.mode.media 0) (eqb q.mode.media 0) (and_left active place seat));
      order = eqb-true _ _ (and_right (active && place) order all-but-name);
      group = eqb-true _ _ (and_left (eqb p.place.group.0 q.place.group.0) _ both);
      track = eqb-true _ _ (and_right (eqb p.place.group.0 q.place.group.0) _ both);
      upcoming = eqb-true _ _ (and_right (active && place && order) _ same);
    }
