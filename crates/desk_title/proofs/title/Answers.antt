-- `desk_title::title`: the part that `which` says lies in its text, so nothing is cut off.
use mathlib.Core.Path.{◌≡◌, refl, ap, sym, subst, ◌∙◌}
use lib.ListN.{length}
use Rattle.std.specs.Prelude.{Result, Ok, Err}
use Rattle.std.specs.Result.{result_unwrap_or}
use Rattle.ground.specs.declared.Refusal.{Refusal}
use Rattle.ground.specs.Refusals.{Left}
use Rattle.catalogue_titles.specs.declared.Part.{Part}
use Rattle.catalogue_titles.specs.Titles.{front, Inside, IsPart}
use Rattle.catalogue_titles.specs.Lent.{lending}
use Rattle.mcs_state.specs.Codec.{desk_of}
use Rattle.desk_title.specs.Title.{titled_by}
use Rattle.desk_title.proofs.Lying.{title_inside}
use Rattle.desk_title.proofs.title.Goals as goal

-- the front stands beside a refusal
beside : (t : Result Part Refusal) → result_unwrap_or t front ≡ (titled_by t).state
beside (Ok part) = refl
beside (Err r) = refl

pub returns : goal.returns
returns c =
    let a = c.args in
    let is =
    c.unwrap_or-part.ensures ∙ ap (result_unwrap_or c.which.result) c.front_part.ensures ∙ beside c.which.result ∙ ap (λ (l : Left Part). l.state) c.which.ensures in
    let k = lending a.groups.now a.tracks.now a.segments.now a.text.now a.renames.now a.office.now in
    subst (λ (part : Part). IsPart part a.text a.office c.cut.result) is
    (c.cut.ensures.part (subst (λ (part : Part). Inside part (length a.text.now) (length a.office.now)) (sym is) (title_inside k (desk_of a.state.now) a.service)))
