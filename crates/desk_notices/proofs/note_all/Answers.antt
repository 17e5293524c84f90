-- `desk_notices::note_all`: after i turns, the first i accounts are told.
use mathlib.Core.Path.{refl, ap, ◌∙◌}
use Prim.Native.Nat.{ℕ}
use native.Mathlib.Omega.{arith}
use lib.ListN.{get_or}
use Rattle.ground.proofs.Sweep.{turn, swept}
use Rattle.desk_client.specs.Client.{no_account}
use Rattle.desk_client.specs.Duties.{noted}
use Rattle.desk_notices.specs.Owed.{noticed}
use borrow.Author.Rules.{rules}
use Rattle.desk_notices.proofs.note_all.Goals as goal

pub loop-i-init : goal.loop-i-init
loop-i-init c =
    record { four = search rules; told = refl }

pub loop-i-preserved : goal.loop-i-preserved
loop-i-preserved c =
    let l = c.loop-i in
    let a = c.args in
    record {
      four = l.invariant.four;
      told = turn (noticed a.altered a.track a.cause) l.i _ l.out no_account _ (omega arith) l.invariant.told (c.note.ensures ∙ ap (λ (due : ℕ). noted due a.altered (get_or l.out l.i no_account)) c.due_to-due.ensures);
    }

pub returns : goal.returns
returns c =
    let l = c.loop-i in
    swept _ l.i _ l.out (omega arith) l.invariant.told
