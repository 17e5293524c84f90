-- `mcs::mcs_take`: `desk_take::take`, what it says of it, then the end that every call has.
use mathlib.Core.Path.{ap, ◌∙◌}
use lib.ListN.{length}
use Rattle.ground.specs.Refusals.{Said}
use Rattle.ground.specs.Lists.{table_after}
use Rattle.desk_take.specs.Take.{take_call, take_octets}
use Rattle.mcs_state.specs.Codec.{desk_of}
use Rattle.catalogue_titles.specs.Lent.{lending}
use Rattle.mcs_told.specs.declared.Told.{Told}
use Rattle.mcs_told.specs.Calls.{told_of, told_after}
use Rattle.mcs.proofs.Leaving.{ends, small_said}
use Rattle.mcs_told.proofs.Words.{told_as_said}
use Rattle.mcs.proofs.Short.{take_words}
use Rattle.mcs.proofs.mcs_take.Goals as goal

pub finish-requires-clause-all_words : goal.finish-requires-clause-all_words
finish-requires-clause-all_words c =
    small_said c.take-o.ensures.answers (take_words _ _ _)

pub returns-clause-ends : goal.returns-clause-ends
returns-clause-ends c =
    let o = c.take-o in
    ends o.ensures.answers (c.finish.ensures.value, (c.finish.ensures.track_after, c.finish.ensures.octet_after))

pub returns-clause-out_after : goal.returns-clause-out_after
returns-clause-out_after c =
    let k = lending c.args.groups.now c.args.tracks.now c.args.segments.now c.args.text.now c.args.renames.now c.args.office.now in
    let o = c.take-o in
    let said = o.ensures.answers.said in o.ensures.out_after ∙ ap (λ (x : Said). table_after x (take_octets k (desk_of c.args.state.now)) c.args.out.now) said

pub returns-clause-served_after : goal.returns-clause-served_after
returns-clause-served_after c =
    let k = lending c.args.groups.now c.args.tracks.now c.args.segments.now c.args.text.now c.args.renames.now c.args.office.now in
    let o = c.take-o in
    let said = o.ensures.answers.said in c.tell.ensures
    ∙ ap (λ (t : Told). told_after t.granted t.values c.args.served.now) (c.told_of-t.ensures ∙ ap told_of said)
    ∙ told_as_said (take_call k (desk_of c.args.state.now) (length c.args.out.now)).said c.args.served.now (take_words k (desk_of c.args.state.now) (length c.args.out.now))
