-- `desk_notices::settle`: what the two players differ in is what each account is told.
use mathlib.Core.Path.{◌≡◌, ◌∙◌}
use Rattle.ground.specs.Lists.{map_from}
use Rattle.desk_client.specs.Duties.{noted}
use Rattle.desk_notices.specs.Owed.{noticed, due_to, altered_of, settled}
use Rattle.desk_notices.proofs.Laws.{due_is}
use Rattle.player_values.specs.Values.{source}
use Rattle.desk_notices.proofs.settle.Goals as goal

pub returns : goal.returns
unfolding altered_of settled
returns c =
    let a = c.args in
    let altered = c.changed_word-altered.ensures in
    let track = c.track_changed-track.ensures in
    let p = a.s.player in
    let from = source a.groups.now a.tracks.now a.text.now a.renames.now a.office.now in
    let told : c.note_all-told.result ≡ map_from (λ who r. noted (due_to from p a.q a.cause who) (altered_of from p a.q) r) 0 a.s.accounts =
    c.note_all-told.ensures
    ∙ (λ k. map_from (noticed (altered k) (track k) a.cause) 0 a.s.accounts)
    ∙ (λ k. map_from (λ who r. noted (due_is from p a.q a.cause who k) (altered_of from p a.q) r) 0 a.s.accounts) in
    λ k. record { player = a.q; accounts = told k }
