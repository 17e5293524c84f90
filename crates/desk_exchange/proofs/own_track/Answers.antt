-- `desk_exchange::own_track`: a track of the current group, by its object.
use mathlib.Core.Path.{◌≡◌, sym, ap, subst, ◌∙◌}
use mathlib.Core.Bool.{Bool, ◌||◌}
use Prim.Native.Nat.{ℕ, ◌-◌}
use lib.Dec.{eqb, ltb}
use Rattle.catalogue_tables.specs.Objects.{track_objects}
use Rattle.player_state.specs.Player.{inactive}
use Rattle.player_check.specs.Standing.{in_group}
use Rattle.desk_exchange.specs.Write.{object_of, own_track}
use Rattle.desk_exchange.proofs.Written.{not_looked_up, not_below, looked_up}
use Rattle.desk_exchange.proofs.own_track.Goals as goal

pub returns-then-p-object : goal.returns-then-p-object
unfolding own_track
returns-then-p-object c =
    let idle : Bool = eqb c.args.p.mode.media inactive in
    let tests : (t : Bool) → (idle || ltb c.six_at-object.result track_objects) ≡ t
    → (idle || ltb (object_of c.args.value.now) track_objects) ≡ t = λ t e. subst (λ (n : ℕ). (idle || ltb n track_objects) ≡ t) c.six_at-object.ensures.0 e in
    sym (not_looked_up (idle) track_objects (object_of c.args.value.now) _ (tests _ c.if-p-object.true))

pub overflow_sub-object : goal.overflow_sub-object
overflow_sub-object c =
    let idle : Bool = eqb c.args.p.mode.media inactive in
    not_below (idle) track_objects c.six_at-object.result c.if-p-object.false

pub returns : goal.returns
unfolding own_track
returns c =
    let idle : Bool = eqb c.args.p.mode.media inactive in
    let tests : (t : Bool) → (idle || ltb c.six_at-object.result track_objects) ≡ t
    → (idle || ltb (object_of c.args.value.now) track_objects) ≡ t = λ t e. subst (λ (n : ℕ). (idle || ltb n track_objects) ≡ t) c.six_at-object.ensures.0 e in
    c.in_group.ensures
    ∙ ap (λ (n : ℕ). in_group c.args.groups.now c.args.p.place.group.0 (n - track_objects)) c.six_at-object.ensures.0
    ∙ sym (looked_up (idle) track_objects (object_of c.args.value.now) _ (tests _ c.if-p-object.false))
