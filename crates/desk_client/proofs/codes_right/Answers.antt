-- `desk_client::codes_right`: after i turns, the first i codes.
use mathlib.Core.Path.{refl, ap}
use native.Mathlib.Omega.{arith}
use borrow.Author.Rules.{rules}
use lib.Seq.{get_or-take}
use Rattle.ground.specs.Cases.{within}
use Rattle.ground.specs.Lists.{all_below}
use Rattle.ground.proofs.Bounded.{all_turn, all_end}
use Rattle.desk_client.specs.Client.{blank_entry}
use Rattle.desk_client.specs.declared.Entry.{Entry}
use Rattle.desk_client.proofs.codes_right.Goals as goal

pub loop-e-init : goal.loop-e-init
unfolding all_below
loop-e-init c = record { all_waiting = search rules; first_right = refl }

pub loop-e-preserved : goal.loop-e-preserved
loop-e-preserved c =
    let h = c.loop-e.invariant in
    record {
      all_waiting = h.all_waiting;
      first_right = all_turn _ _ _ _ h.first_right (ap (λ (e : Entry). within 1 4 e.code) (get_or-take c.args.waiting c.args.results c.loop-e.e-index blank_entry (omega arith)));
    }

pub returns : goal.returns
returns c =
    all_end _ (omega arith) (omega arith) c.loop-e.invariant.first_right
