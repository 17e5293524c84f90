-- `desk_client::account_right`: a test for each part of the rule.
use mathlib.Core.Path.{◌≡◌, sym, ap, ◌∙◌}
use mathlib.Core.Bool.{Bool, false, ◌&&◌}
use Rattle.std.proofs.lemmas.Bool.{lt-leb}
use lib.Bits.{bit_and}
use lib.Dec.{eqb, ltb, leb}
use Rattle.ground.specs.Cases.{has}
use Rattle.ground.proofs.Cases.{and_fails}
use Rattle.desk_slots.specs.Slots.{only_slots, inter}
use Rattle.desk_slots.proofs.SetLaws.{readable_word}
use Rattle.desk_client.specs.Client.{only_readable, alike, control_slot, codes_right, account_rule}
use Rattle.desk_client.specs.declared.Account.{Account}
-- too many results fail the rule, whatever else holds
use Rattle.desk_client.proofs.account_right.Goals as goal

many : (a : Account) → leb a.waiting 8 ≡ false → false ≡ account_rule a
unfolding account_rule
many a e =
    let front = only_slots a.subscribed && only_slots a.owed && only_readable a.fresh
    && eqb (inter a.owed a.subscribed) a.owed && alike (has a.owed control_slot) (ltb 0 a.waiting) in
    sym (ap (λ (t : Bool). t && codes_right a.waiting a.results) (and_fails front e))

pub returns-then-not-few : goal.returns-then-not-few
unfolding account_rule
returns-then-not-few c =
    many c.args.a (lt-leb _ _ c.if-not-few.true)

pub returns : goal.returns
unfolding account_rule inter
returns c =
    let x = c.args.a in
    λ i.
    c.only_slots-subscribed.ensures i
    && c.only_slots-owed.ensures i
    && eqb (bit_and x.fresh (sym readable_word i)) x.fresh
    && eqb (bit_and x.owed x.subscribed) x.owed
    && (c.agree-told.ensures ∙ ap (λ (t : Bool). alike t (ltb 0 x.waiting)) c.has_bit-control.ensures) i
    && leb x.waiting 8
    && c.codes_right-codes.ensures i
