-- What a gate tells the call that asked it. Assumes nothing.
use mathlib.Core.Path.{◌≡◌, refl, sym, ap, ◌∙◌}
use mathlib.Core.Bool.{Bool, true, false}
use mathlib.Core.List.{List, [], ◌++◌}
use lib.ListN.{length, drop}
use Prim.Native.Nat.{ℕ, ◌≤◌, ◌<◌}
use borrow.Author.Tests.{not-false}
use Rattle.ground.specs.Refusals.{Said, granted, refusal_of, Left, leaves, keeping, Row, answered, said_by}
use Rattle.ground.proofs.Passed.{passed_on}
use Rattle.ground.specs.Lists.{filled, table_after}
use Rattle.ground.proofs.Cases.{past, here}
use Rattle.ground.proofs.Rows.{NoneApplies, shut, kept, more, beyond, all_of}
use Rattle.catalogue_titles.specs.Lent.{Lent, fit_rows, lent_said, Fit}
use Rattle.player_check.specs.Standing.{player_rule}
use Rattle.desk_slots.specs.Slots.{service_count}
use Rattle.desk_state.specs.declared.Desk.{Desk}
use Rattle.desk_state.specs.Desk.{service_at}
use Rattle.desk_state.proofs.Laws.{player_stands}
use Rattle.mcs_state.specs.Codec.{desk_of, desk_octets}
use Rattle.mcs_state.specs.Stored.{Octets, Plain, Stored}
use Rattle.mcs_state.proofs.Stored.{stands_plain}
use Rattle.std.specs.Prelude.{Result}
use Rattle.std.specs.Result.{IsErrAnd}
use Rattle.ground.specs.declared.Refusal.{Refusal}
use Rattle.desk_replies.specs.declared.Reply.{Reply}
use Rattle.desk_replies.specs.Replies.{values_of, said_of, state_right, fronted, Answers}

-- what is said of rows that are asked first
module _ (rows : List Row) {said : Said} (e : said ≡ said_by rows) where
  -- they refuse: that is what a call says, whatever rows and work stand behind
  pub refuses : {A : Type 0} → said.is_granted ≡ false → (refuse : Said → A) (behind : List Row) (work : A) → refuse said ≡ answered refuse (rows ++ behind) work
  refuses {A} h refuse behind work =
      let q = more rows behind (sym (ap (λ (s : Said). s.is_granted) e) ∙ h) in
      ap refuse (e ∙ q) ∙ shut refuse (rows ++ behind) work (sym (ap (λ (s : Said). s.is_granted) (e ∙ q)) ∙ h)

  -- and what more rows say
  pub stays_shut : said.is_granted ≡ false → (behind : List Row) → said ≡ said_by (rows ++ behind)
  stays_shut h behind = e ∙ more rows behind (sym (ap (λ (s : Said). s.is_granted) e) ∙ h)

  -- they do not: none of them applies
  pub none : said.is_granted ≡ true → NoneApplies rows
  none h = kept rows (granted []) (sym (ap (λ (s : Said). s.is_granted) e) ∙ h)

  -- and what stands behind them is said
  pub says_behind : said.is_granted ≡ true → {own : Said} (behind : List Row) → own ≡ said_by behind → own ≡ said_by (rows ++ behind)
  says_behind h behind q = beyond rows behind (none h) q

-- neither 200 nor 224 applies: what is lent is fit
pub none_fit : (k : Lent) → NoneApplies (fit_rows k) → Fit k
unfolding lent_said
none_fit k n = sym (all_of (fit_rows k) n)

-- what the first rows tell where none of them applies
module _ (k : Lent) (small : Bool) (d : Desk) (behind : List Row) (passed : NoneApplies (fronted k small d ++ behind)) where
  pub fit : Fit k
  fit = none_fit k (passed.0, (passed.1.0, tt))

  pub stands : state_right k d ≡ true
  stands = not-false _ passed.1.1.1.0

  pub player : (v : ℕ) → v < service_count → player_rule k.groups k.tracks (service_at d v).player ≡ true
  player = player_stands k.groups k.tracks d stands

-- and that the octets of the state are those that it is written as
pub plain_so : (k : Lent) (small : Bool) (old : List ℕ) (behind : List Row) → NoneApplies (fronted k small (desk_of old) ++ behind) → 649 ≤ length old → Octets old → Plain old
plain_so k small old behind n long octets = stands_plain k.groups k.tracks old long octets (stands k small (desk_of old) behind n)

-- the lent output: as it was where the call is refused, its front filled where it is accepted
pub as_it_was : (said : Said) → said.is_granted ≡ false → (octets old : List ℕ) → old ≡ table_after said octets old
as_it_was said h octets old = past _ h refl

pub shown : (said : Said) (values octets old : List ℕ) → said ≡ granted values → filled octets old ≡ table_after said octets old
shown said values octets old e = here _ (ap (λ (s : Said). s.is_granted) e) refl

-- a call that is refused leaves what there was, whatever state stands beside its refusal
pub refused_as : (l : Left Desk) (old : List ℕ) (answer : Result Reply Refusal) → said_of answer ≡ l.said → (said_of answer).is_granted ≡ false → Answers l old answer old
refused_as l old answer said shut-so =
    let not-accepted : l.said.is_granted ≡ false = sym (ap (λ (s : Said). s.is_granted) said) ∙ shut-so in
    record { said = said; octets = past _ not-accepted refl; state = past _ not-accepted refl }

pub refused_so : (l : Left Desk) (old : List ℕ) (answer : Result Reply Refusal) → leaves (said_of answer) (desk_of old) ≡ l → (said_of answer).is_granted ≡ false → Answers l old answer old
refused_so l old answer e = refused_as l old answer (ap (λ (x : Left Desk). x.said) e)

-- a call that is accepted leaves the octets of the next state
pub accepted_so : (l : Left Desk) (old : List ℕ) (answer : Result Reply Refusal) (d : Desk) (new : List ℕ) → leaves (said_of answer) d ≡ l → (said_of answer).is_granted ≡ true → Stored d old new → Answers l old answer new
accepted_so l old answer d new e open-so stored =
    let said : said_of answer ≡ l.said = ap (λ (x : Left Desk). x.said) e in
    let accepted : l.said.is_granted ≡ true = sym (ap (λ (s : Said). s.is_granted) said) ∙ open-so in
    let next : d ≡ l.state = ap (λ (x : Left Desk). x.state) e in
    record {
      said = said;
      octets = here _ accepted (stored.octets ∙ ap (λ (x : Desk). desk_octets x ++ drop 649 old) next);
      state = here _ accepted (stored.state ∙ next);
    }

-- a call whose gate refuses says what the gate says, and leaves what there was
pub gate_shuts : (rows behind : List Row) (old : List ℕ) (work : Left Desk) (answer : Result Reply Refusal) {said : Said}
    → said_of answer ≡ said → said.is_granted ≡ false → said ≡ said_by rows → Answers (answered (keeping (desk_of old)) (rows ++ behind) work) old answer old
gate_shuts rows behind old work answer e shut-so known =
    refused_so _ old answer (ap (keeping (desk_of old)) e ∙ refuses rows known shut-so (keeping (desk_of old)) behind work) (ap (λ (s : Said). s.is_granted) e ∙ shut-so)

-- so it does where it hands on the gate's own refusal
pub gate_refuses : (rows behind : List Row) (old : List ℕ) (work : Left Desk) (answer : Result Reply Refusal) (e : Refusal)
    → IsErrAnd answer (λ x. x ≡ e) → refusal_of e ≡ said_by rows → Answers (answered (keeping (desk_of old)) (rows ++ behind) work) old answer old
gate_refuses rows behind old work answer e handed = gate_shuts rows behind old work answer (passed_on values_of answer e handed refl) refl
