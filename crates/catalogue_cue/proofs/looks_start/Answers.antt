-- `catalogue_cue::looks_start`: the room, and three octets.
use borrow.Author.Tests.{lt-leb, le-leb}
use Rattle.catalogue_cue.specs.Scan.{looks_start}
use Rattle.catalogue_cue.proofs.looks_start.Goals as goal

pub returns-then-sheet-at-lt-START_OCTETS : goal.returns-then-sheet-at-lt-START_OCTETS
unfolding looks_start
returns-then-sheet-at-lt-START_OCTETS c =
    rw (lt-leb _ _ c.if-sheet-at-lt-START_OCTETS.true)

pub returns : goal.returns
unfolding looks_start
returns c =
    rw (le-leb 17 _ c.if-sheet-at-lt-START_OCTETS.false)
