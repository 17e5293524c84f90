-- `mcs_state::player_from`: each part at its place; the name covers the zeros.
use mathlib.Core.Path.{◌≡◌, ◌∙◌, ap}
use mathlib.Core.List.{List, ◌++◌, append-nil}
use Prim.Native.Nat.{ℕ}
use native.Mathlib.Omega.{arith}
use lib.ListN.{get_or, length, replicate, drop_of_length-le}
use Rattle.mcs_state.specs.Codec.{player_from}
use Rattle.mcs_state.proofs.player_from.Goals as goal

pub returns : goal.returns
unfolding player_from
returns c =
    let s = c.args.s.now in
    let name = c.args.name.now in
    let called : c.fill-octets.result ≡ name =
    c.fill-octets.ensures ∙ ap (λ (l : List ℕ). name ++ l) (drop_of_length-le (replicate 128 0) {i = length name} (omega (arith, c.requires.0))) ∙ append-nil name in
    λ i.
    record {
      name = record { octets = called i; len = get_or s 0 0 };
      offer = record { mask = c.word_at.ensures i; ccid = get_or s 1 0 };
      mode = record { media = get_or s 2 0; order = get_or s 3 0; speed = get_or s 4 0; seeking = get_or s 5 0 };
      place =
          record {
            group = record { 0 = c.word_at-2.ensures i };
            track = record { 0 = c.word_at-3.ensures i };
            position = record { 0 = c.word_at-4.ensures i };
            rest = c.word_at-5.ensures i;
          };
      upcoming = c.word_at-6.ensures i;
    }
