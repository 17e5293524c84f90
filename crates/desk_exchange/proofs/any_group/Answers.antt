-- `desk_exchange::any_group`: a group that has tracks, by its object; there are no more than 64.
use mathlib.Core.Path.{◌≡◌, sym, ap, subst, ◌∙◌}
use mathlib.Core.Bool.{Bool, false, ◌||◌}
use mathlib.Core.List.{List}
use Prim.Native.Nat.{ℕ, ◌-◌, ◌≤◌}
use native.Mathlib.Omega.{arith}
use borrow.Author.Tests.{le-ltb}
use lib.Dec.{eqb, ltb}
use Rattle.catalogue_tables.specs.Tables.{group_count}
use Rattle.catalogue_tables.specs.Objects.{group_objects}
use Rattle.player_state.specs.Player.{inactive}
use Rattle.player_check.specs.Standing.{group_rule}
use Rattle.desk_exchange.specs.Write.{object_of, group_at, any_group}
use Rattle.desk_exchange.proofs.Written.{not_looked_up, not_below, looked_up}
use Rattle.desk_exchange.proofs.any_group.Goals as goal

-- behind the last group there is none
no_group : (groups : List ℕ) (g : ℕ) → group_count groups ≤ g → group_rule groups g ≡ false
unfolding group_rule
no_group groups g h = rw (le-ltb g (group_count groups) h)

pub returns-then-p-object : goal.returns-then-p-object
unfolding any_group
returns-then-p-object c =
    let idle : Bool = eqb c.args.p.mode.media inactive in
    let tests : (t : Bool) → (idle || ltb c.six_at-object.result group_objects) ≡ t
    → (idle || ltb (object_of c.args.value.now) group_objects) ≡ t = λ t e. subst (λ (n : ℕ). (idle || ltb n group_objects) ≡ t) c.six_at-object.ensures.0 e in
    sym (not_looked_up (idle) group_objects (object_of c.args.value.now) _ (tests _ c.if-p-object.true))

pub overflow_sub-number : goal.overflow_sub-number
overflow_sub-number c =
    let idle : Bool = eqb c.args.p.mode.media inactive in
    not_below (idle) group_objects c.six_at-object.result c.if-p-object.false

pub returns-then-number-ge-MOST_GROUPS : goal.returns-then-number-ge-MOST_GROUPS
unfolding any_group
returns-then-number-ge-MOST_GROUPS c =
    let idle : Bool = eqb c.args.p.mode.media inactive in
    let tests : (t : Bool) → (idle || ltb c.six_at-object.result group_objects) ≡ t
    → (idle || ltb (object_of c.args.value.now) group_objects) ≡ t = λ t e. subst (λ (n : ℕ). (idle || ltb n group_objects) ≡ t) c.six_at-object.ensures.0 e in
    let beyond = no_group c.args.groups.now (group_at c.args.value.now) (omega (arith, c.requires.groups_bound, c.six_at-object.ensures.0, c.if-number-ge-MOST_GROUPS.true)) in
    sym (looked_up (idle) group_objects (object_of c.args.value.now) _ (tests _ c.if-p-object.false) ∙ beyond)

pub returns : goal.returns
unfolding any_group
returns c =
    let idle : Bool = eqb c.args.p.mode.media inactive in
    let tests : (t : Bool) → (idle || ltb c.six_at-object.result group_objects) ≡ t
    → (idle || ltb (object_of c.args.value.now) group_objects) ≡ t = λ t e. subst (λ (n : ℕ). (idle || ltb n group_objects) ≡ t) c.six_at-object.ensures.0 e in
    c.group_right.ensures
    ∙ ap (λ (n : ℕ). group_rule c.args.groups.now (n - group_objects)) c.six_at-object.ensures.0
    ∙ sym (looked_up (idle) group_objects (object_of c.args.value.now) _ (tests _ c.if-p-object.false))
