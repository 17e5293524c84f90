-- A line that is `INDEX 01 mm:ss:ff` from its first octet on: where its LF stands, without a search. Assumes nothing.
use mathlib.Core.Path.{◌≡◌, sym, ap, ◌∙◌}
use mathlib.Core.Bool.{true, false, false≢true}
use mathlib.Core.List.{List}
use mathlib.Core.Logic.{⊎_elim}
use Prim.Native.Nat.{ℕ, ◌+◌, ◌-◌, ◌<◌, ◌≤◌}
use native.Mathlib.Omega.{arith}
use borrow.Author.Tests.{eq-eqb, ne_eqb}
use lib.ListN.{length, get_or}
use Rattle.ground.specs.Lists.{part}
use Rattle.ground.proofs.Cases.{true_or}
use Rattle.catalogue_cue.specs.Sheet.{lf, cr, is_start}
use Rattle.catalogue_cue.specs.Scan.{is_lf, ahead_end, CutAt, StartLine, NoStartLine}
use Rattle.catalogue_cue.proofs.Ahead.{ahead_stops, ahead_goes, ahead_ends, ahead_past}
use Rattle.catalogue_cue.proofs.Form.{start_form, start_octets}
use Rattle.catalogue_cue.proofs.Lines.{part_length, part_at, cut_last, cut_plain, cut_cr}

module _ (sheet : List ℕ) (at : ℕ) (fits : at + 17 ≤ length sheet) (form : is_start (part sheet at (at + 17)) ≡ true) where
  -- none of its octets lies below the space, so that none is an LF or a CR
  octet : (j : ℕ) → j < 17 → 32 ≤ get_or sheet (at + j) 0
  octet j h =
      let e : j < at + 17 - at = omega arith in
      rw (part_at sheet at (at + 17) j e) at (start_octets (part sheet at (at + 17)) (start_form _ form) j h)

  pub no_lf_within : ahead_end is_lf sheet (at + 17) ≡ ahead_end is_lf sheet at
  no_lf_within = ahead_past is_lf 17 sheet at fits (λ j h. ne_eqb (get_or sheet (at + j) 0) lf (λ q. omega (arith, octet j h)))

  made : {next : ℕ} → CutAt sheet at (at + 17) next → StartLine sheet at next
  made c = record { fits = fits; form = form; cut = c }

  -- at the text's end, before an LF, and before a CR LF
  pub ends_last : at + 17 ≡ length sheet → StartLine sheet at (at + 17 + 1)
  ends_last e = made (cut_last sheet at (omega arith) (at + 17) (ahead_ends is_lf sheet (at + 17) (omega arith) ∙ no_lf_within) (omega arith))

  pub ends_lf : at + 17 < length sheet → get_or sheet (at + 17) 0 ≡ lf → StartLine sheet at (at + 17 + 1)
  ends_lf h e =
      let last : at + 17 - 1 ≡ at + 16 = omega arith in
      made (cut_plain sheet at (omega arith) (at + 17) (ahead_stops is_lf sheet (at + 17) h (eq-eqb _ _ e) ∙ no_lf_within) h (omega arith) (λ q. omega (arith, octet 16 (omega arith), sym (ap (λ (i : ℕ). get_or sheet i 0) last) ∙ q)))

  pub ends_cr_lf : at + 17 + 1 < length sheet → get_or sheet (at + 17) 0 ≡ cr → get_or sheet (at + 17 + 1) 0 ≡ lf → StartLine sheet at (at + 17 + 2)
  ends_cr_lf h e f =
      let n = at + 17 + 1 in
      let place : n ≡ ahead_end is_lf sheet at =
      ahead_stops is_lf sheet n h (eq-eqb _ _ f) ∙ ahead_goes is_lf sheet (at + 17) (omega arith) (ne_eqb (get_or sheet (at + 17) 0) lf (λ q. omega (arith, e, q))) ∙ no_lf_within in
      let last : n - 1 ≡ at + 17 = omega arith in
      let next : n + 1 ≡ at + 17 + 2 = omega arith in
      made (rw (last, next) at (cut_cr sheet at (omega arith) n place h (omega arith) (ap (λ (i : ℕ). get_or sheet i 0) last ∙ e)))

-- a line that is no start: it has too few octets, or another form, or goes on behind them
module _ (sheet : List ℕ) (at : ℕ) where
  by : ((end : ℕ) → end ≤ length sheet → end ≡ at + 17 → is_start (part sheet at end) ≡ true → (next : ℕ) → CutAt sheet at end next → ⊥) → NoStartLine sheet at
  by none end next c =
      ⊎_elim
      (λ s. absurd (none end c.high (omega (arith, c.low, (start_form _ s).long, part_length sheet at end c.high)) s next c))
      (λ s. s)
      (true_or (is_start (part sheet at end)))

  pub no_room : length sheet - at < 17 → NoStartLine sheet at
  no_room h = by (λ end k e s next c. omega arith)

  pub no_form : is_start (part sheet at (at + 17)) ≡ false → NoStartLine sheet at
  no_form f = by (λ end k e s next c. false≢true (sym f ∙ (rw e at s)))

  pub no_end : at + 17 < length sheet → (get_or sheet (at + 17) 0 ≡ lf → ⊥) → (get_or sheet (at + 17) 0 ≡ cr → get_or sheet (at + 17 + 1) 0 ≡ lf → ⊥) → NoStartLine sheet at
  no_end h f g =
      by (λ end k e s next c.
      ⊎_elim
      (λ q. f (sym (ap (λ (i : ℕ). get_or sheet i 0) e) ∙ q))
      (λ q. g (sym (ap (λ (i : ℕ). get_or sheet i 0) e) ∙ q.0) (sym (ap (λ (i : ℕ). get_or sheet (i + 1) 0) e) ∙ q.1))
      (c.stop (omega arith)))
