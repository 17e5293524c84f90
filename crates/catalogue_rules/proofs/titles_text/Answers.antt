-- `catalogue_rules::titles_text`: what is kept is what is said of the titles from `track` on.
use mathlib.Core.Path.{◌≡◌, refl, sym, ap, ◌∙◌}
use mathlib.Core.Bool.{true, false}
use mathlib.Core.List.{List, ◌∷◌}
use Prim.Native.Nat.{ℕ, suc, ◌+◌, ◌-◌, ◌<◌}
use native.Mathlib.Omega.{arith}
use Rattle.ground.specs.Refusals.{Said}
use Rattle.text.specs.Utf8.{text_said}
use Rattle.catalogue_tables.specs.Tables.{track_count, title_of}
use Rattle.catalogue_rules.specs.Rules.{bad_title_from}
use Rattle.catalogue_rules.proofs.Runs.{run_part}
use Rattle.catalogue_rules.proofs.BadTitles.{plain_text}
use Rattle.catalogue_rules.proofs.titles_text.Goals as goal

-- the title of track i is asked, and then those behind it
module _ (tracks text : List ℕ) (n i : ℕ) (h : i < n) {said : Said} (e : said ≡ text_said (title_of tracks text i)) where
  pub goes_on : said.is_granted ≡ true → bad_title_from tracks text (n - (i + 1)) (i + 1) ≡ bad_title_from tracks text (n - i) i
  unfolding bad_title_from
  goes_on fine =
      let m : n - i ≡ suc (n - (i + 1)) = omega arith in
      let f : (text_said (title_of tracks text i)).is_granted ≡ true = ap (λ (s : Said). s.is_granted) (sym e) ∙ fine in
      let s : i + 1 ≡ suc i = omega arith in
      rw (m, f, s)

  pub stops : said.is_granted ≡ false → i ∷ said.values ≡ bad_title_from tracks text (n - i) i
  unfolding bad_title_from
  stops bad =
      let m : n - i ≡ suc (n - (i + 1)) = omega arith in
      let f : (text_said (title_of tracks text i)).is_granted ≡ false = ap (λ (s : Said). s.is_granted) (sym e) ∙ bad in
      rw (m, f, ← e)

pub returns-then-is_plain : goal.returns-then-is_plain
returns-then-is_plain c =
    sym (plain_text _ _ (c.is_plain.ensures c.if-is_plain.true))

pub loop-track-init : goal.loop-track-init
unfolding bad_title_from
loop-track-init c =
    let n = track_count c.args.tracks.now in
    let e : n - n ≡ 0 = omega arith in
    sym (ap (λ (m : ℕ). bad_title_from c.args.tracks.now c.args.text.now m n) e)

pub loop-track-preserved-in-Ok : goal.loop-track-preserved-in-Ok
unfolding title_of
loop-track-preserved-in-Ok c =
    let i = c.loop-track.track - 1 in
    let n = track_count c.args.tracks.now in
    let e : c.loop-track.track ≡ i + 1 = omega arith in
    let part = run_part c.args.text.now c.wide_word-offset.result c.wide_word-len.result c.wide_word-offset.ensures.0 c.wide_word-len.ensures.0 in
    c.loop-track.invariant ∙ ap (λ (j : ℕ). bad_title_from c.args.tracks.now c.args.text.now (n - j) j) e
    ∙ goes_on _ _ n i (omega arith) (c.in-Ok.ensures ∙ ap text_said part) refl

pub loop-track-preserved : goal.loop-track-preserved
unfolding title_of
loop-track-preserved c =
    let part = run_part c.args.text.now c.wide_word-offset.result c.wide_word-len.result c.wide_word-offset.ensures.0 c.wide_word-len.ensures.0 in
    stops _ _ (track_count c.args.tracks.now) (c.loop-track.track - 1) (omega arith) (c.in-Err.ensures ∙ ap text_said part) refl

pub returns : goal.returns
returns c =
    let z : c.loop-track.track ≡ 0 = omega arith in
    let e : track_count c.args.tracks.now - c.loop-track.track ≡ track_count c.args.tracks.now = omega arith in
    c.loop-track.invariant ∙ (λ k. bad_title_from c.args.tracks.now c.args.text.now (e k) (z k))
