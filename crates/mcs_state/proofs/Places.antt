-- Each part of a state is read out of the octets at its own place. Assumes nothing.
use mathlib.Core.Path.{◌≡◌, ap, ◌∙◌}
use mathlib.Core.List.{List}
use Prim.Native.Nat.{ℕ, ◌+◌, ◌*◌, ◌<◌}
use Rattle.ground.specs.Lists.{part}
use Rattle.desk_client.specs.Client.{no_account}
use Rattle.desk_state.specs.declared.Service.{Service}
use Rattle.desk_state.specs.Desk.{no_link, no_service, link_at, service_at, account_in}
use Rattle.mcs_state.specs.Codec.{link_from, account_from, service_from, desk_of}
use Rattle.mcs_state.proofs.Each.{each_at}

pub link_there : (s : List ℕ) (who : ℕ) → who < 4 → link_at (desk_of s).links who ≡ link_from (part s (5 + who * 10) (5 + who * 10 + 10))
unfolding desk_of
link_there s who h = each_at link_from 10 no_link s 5 4 who h

pub service_there : (s : List ℕ) (v : ℕ) → v < 2 → service_at (desk_of s) v ≡ service_from (part s (45 + v * 302) (45 + v * 302 + 302))
unfolding desk_of
service_there s v h = each_at service_from 302 no_service s 45 2 v h

pub account_there : (s : List ℕ) (v who : ℕ) → v < 2 → who < 4
    → let o = part s (45 + v * 302) (45 + v * 302 + 302) in
    account_in (service_at (desk_of s) v) who ≡ account_from (part o (158 + who * 36) (158 + who * 36 + 36))
unfolding service_from
account_there s v who hv hw =
    let o = part s (45 + v * 302) (45 + v * 302 + 302) in
    ap (λ (x : Service). account_in x who) (service_there s v hv) ∙ each_at account_from 36 no_account o 158 4 who hw
