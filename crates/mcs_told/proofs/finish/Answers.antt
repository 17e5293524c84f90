-- `mcs_told::finish`: the number, and where a text is wrong.
use mathlib.Core.Path.{ap, ◌∙◌}
use mathlib.Core.List.{[], ◌∷◌}
use lib.ListN.{get_or}
use Rattle.ground.specs.Cases.{pick}
use Rattle.desk_replies.specs.Replies.{said_of}
use Rattle.mcs_told.specs.declared.Told.{Told}
use Rattle.mcs_told.specs.Calls.{told_after}
use Rattle.mcs_told.proofs.Words.{track_as_said, offset_as_said}
use Rattle.mcs_told.proofs.finish.Goals as goal

pub returns-clause-value : goal.returns-clause-value
returns-clause-value c =
    ap (λ (x : Told). x.number) c.told_of-t.ensures

pub returns-clause-track_after : goal.returns-clause-track_after
returns-clause-track_after c =
    let said = said_of c.args.answer in
    let told = c.told_of-t.ensures in c.tell_place.ensures.track_after
    ∙ ap (λ (x : Told). told_after x.titled x.values c.args.track.now) told
    ∙ track_as_said said c.args.track.now c.requires.all_words

pub returns-clause-octet_after : goal.returns-clause-octet_after
returns-clause-octet_after c =
    let said = said_of c.args.answer in
    let told = c.told_of-t.ensures in c.tell_place.ensures.octet_after
    ∙ ap (λ (x : Told). told_after x.carries (pick x.titled (get_or x.values 1 0) (get_or x.values 0 0) ∷ []) c.args.octet.now) told
    ∙ offset_as_said said c.args.octet.now c.requires.all_words
