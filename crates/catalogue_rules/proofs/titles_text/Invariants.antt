-- `catalogue_rules::titles_text`: what is kept is what is said of the titles from `track` on.
use mathlib.Core.Path.{◌≡◌}
use Prim.Native.Nat.{◌-◌}
use Rattle.catalogue_tables.specs.Tables.{track_count}
use Rattle.catalogue_rules.specs.Rules.{bad_title_from, titles_of}
use Rattle.catalogue_rules.proofs.titles_text.Given as goal

abbrev pub invariant-loop-track : goal.invariant-loop-track
invariant-loop-track l = titles_of l.found ≡ bad_title_from l.tracks l.text (track_count l.tracks - l.track) l.track
