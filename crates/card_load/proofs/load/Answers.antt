-- `card_load::load`: a refusal comes before anything is lent, and after counts are answered each table is filled by its own call.
use mathlib.Core.Path.{◌≡◌, sym, ap, ◌∙◌}
use Prim.Native.Nat.{ℕ}
use mathlib.Core.List.{List}
use Rattle.std.specs.Prelude.{Result, Ok}
use Rattle.ground.specs.Refusals.{Said}
use Rattle.ground.specs.declared.Refusal.{Refusal}
use Rattle.card_load.specs.declared.Counts.{Counts}
use Rattle.card_load.specs.Load.{said_of, load_said}
use Rattle.card_load.proofs.Sound.{Sound, sound}
use Rattle.card_load.proofs.load.Goals as goal

-- an answer of the survey says what the survey says
answered : {v r : Result Counts Refusal} {said : Said} → said_of v ≡ said → v ≡ r → said_of r ≡ said
answered e q = sym (ap said_of q) ∙ e

-- where it has counts, the card is sound
module _ {v : Result Counts Refusal} {counts : Counts} {card : List ℕ} {groups tracks segments text : ℕ} where
  is_sound : said_of v ≡ load_said card groups tracks segments text → v ≡ Ok counts → Sound card groups tracks segments text
  is_sound e q = sound _ _ _ _ _ _ (answered e q)

pub fill_words-requires-clause-counts_fit : goal.fill_words-requires-clause-counts_fit
fill_words-requires-clause-counts_fit c =
    (is_sound c.survey.ensures c.in_ok-counts.was).fit

pub fill_words-requires-clause-card_in_bounds : goal.fill_words-requires-clause-card_in_bounds
fill_words-requires-clause-card_in_bounds c =
    (is_sound c.survey.ensures c.in_ok-counts.was).groups_room

pub fill_words-requires-2-clause-counts_fit : goal.fill_words-requires-2-clause-counts_fit
fill_words-requires-2-clause-counts_fit c =
    (is_sound c.survey.ensures c.in_ok-counts.was).fit

pub fill_words-requires-2-clause-card_in_bounds : goal.fill_words-requires-2-clause-card_in_bounds
fill_words-requires-2-clause-card_in_bounds c =
    (is_sound c.survey.ensures c.in_ok-counts.was).tracks_room

pub fill_words-requires-3-clause-counts_fit : goal.fill_words-requires-3-clause-counts_fit
fill_words-requires-3-clause-counts_fit c =
    (is_sound c.survey.ensures c.in_ok-counts.was).fit

pub fill_words-requires-3-clause-card_in_bounds : goal.fill_words-requires-3-clause-card_in_bounds
fill_words-requires-3-clause-card_in_bounds c =
    (is_sound c.survey.ensures c.in_ok-counts.was).segments_room

pub fill_octets-requires-clause-counts_fit : goal.fill_octets-requires-clause-counts_fit
fill_octets-requires-clause-counts_fit c =
    (is_sound c.survey.ensures c.in_ok-counts.was).fit

pub fill_octets-requires-clause-card_in_bounds : goal.fill_octets-requires-clause-card_in_bounds
fill_octets-requires-clause-card_in_bounds c =
    (is_sound c.survey.ensures c.in_ok-counts.was).text_room
