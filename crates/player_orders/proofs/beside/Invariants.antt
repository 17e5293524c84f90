-- `player_orders::beside`: of the tracks before i, best is the least key at or above x, turned where the scan looks back.
use Rattle.player_orders.specs.Keys.{key_of}
use Rattle.player_orders.proofs.Nearest.{Least, turn}
use Rattle.player_orders.proofs.beside.Given as goal

abbrev pub invariant-loop-i : goal.invariant-loop-i
invariant-loop-i l =
    Least (λ u. turn l.back 0xFFFF_FFFF_FFFF_FFFE (key_of l.by l.tracks u)) l.from l.initial.i l.i l.best
