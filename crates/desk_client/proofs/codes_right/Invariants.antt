-- `desk_client::codes_right`: after i turns, the first i codes.
use mathlib.Core.Path.{◌≡◌}
use lib.ListN.{length, get_or}
use Rattle.ground.specs.Cases.{within}
use Rattle.ground.specs.Lists.{all_below}
use Rattle.desk_client.specs.Client.{blank_entry}
use Rattle.desk_client.proofs.codes_right.Given as goal

abbrev pub invariant-loop-e : goal.invariant-loop-e
invariant-loop-e l = record {
  all_waiting : length l.e-items ≡ l.waiting;
  first_right : l.good ≡ all_below l.e-index (λ j. within 1 4 (get_or l.fn.results j blank_entry).code);
}
