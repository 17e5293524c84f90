-- `desk_console::start`: 200, 224, 207 of the generic player's name and then of the other's, then fresh players and nobody connected.
use mathlib.Core.Path.{◌≡◌, refl, ap, ◌∙◌}
use mathlib.Core.Bool.{false}
use mathlib.Core.List.{List, [], ◌∷◌}
use Prim.Native.Nat.{ℕ}
use denote.Bor.{Bor}
use borrow.Author.Tests.{not-false}
use Rattle.std.specs.Prelude.{Result, Ok}
use Rattle.ground.specs.declared.Refusal.{Refusal}
use Rattle.ground.specs.Refusals.{Said, granted, Left, leaves, keeping, said_by}
use Rattle.ground.proofs.Passed.{passed_on, turned_into}
use Rattle.ground.proofs.Cases.{past}
use Rattle.ground.proofs.Rows.{through}
use Rattle.catalogue_titles.specs.Lent.{Lent, lent}
use Rattle.player_check.specs.Standing.{name_row}
use Rattle.player_check.proofs.Laws.{text_short}
use Rattle.desk_state.specs.declared.Desk.{Desk}
use Rattle.desk_state.specs.Desk.{started_desk}
use Rattle.desk_replies.specs.declared.Reply.{Reply}
use Rattle.desk_replies.specs.declared.Reply.TheVariants.{Done}
use Rattle.desk_replies.specs.Replies.{values_of, said_of, lent_rows, Answers}
use Rattle.desk_replies.proofs.Gates.{refuses, stays_shut, says_behind, none, refused_as, accepted_so}
use Rattle.desk_console.specs.Console.{Beginning, freshly, nameless, start_rows, start_call}
use Rattle.desk_console.proofs.start.Goals as goal

-- what is told of a player
abbrev told : Bor (List ℕ) → ℕ → ℕ → Beginning
told name mask ccid = record { name = name.now; mask = mask; ccid = ccid }

-- the state beside a refusal
abbrev nobody : Beginning → Beginning → Desk
nobody generic named =
    started_desk (freshly (nameless generic)) (freshly (nameless named))

-- what the rows refuse is what the call says
refused_by : (k : Lent) (generic named : Beginning) (old : List ℕ) (answer : Result Reply Refusal) {said : Said} → said_of answer ≡ said → said ≡ said_by (start_rows k generic named)
    → said.is_granted ≡ false → Answers (start_call k generic named) old answer old
unfolding start_call
refused_by k generic named old answer e known shut =
    refused_as _ old answer
    (e ∙ ap (λ (l : Left Desk). l.said) (refuses (start_rows k generic named) known shut (keeping (nobody generic named)) [] (leaves (granted []) (started_desk (freshly generic) (freshly named)))))
    (ap (λ (s : Said). s.is_granted) e ∙ shut)

pub returns-in_err-lent_gate : goal.returns-in_err-lent_gate
returns-in_err-lent_gate c =
    let a = c.args in
    refused_by (lent a.loan.now) (told a.name0 a.mask0 a.ccid0) (told a.name1 a.mask1 a.ccid1) a.state.now _
    (passed_on values_of _ _ c.from_residual.ensures.1 refl)
    (stays_shut (lent_rows (lent a.loan.now) false) c.in_err-lent_gate.ensures refl (name_row a.name0.now ∷ name_row a.name1.now ∷ [])) refl

pub returns-in_err-check_name : goal.returns-in_err-check_name
returns-in_err-check_name c =
    let a = c.args in
    refused_by (lent a.loan.now) (told a.name0 a.mask0 a.ccid0) (told a.name1 a.mask1 a.ccid1) a.state.now _
    (turned_into values_of _ _ c.from_residual-in_err-check_name.ensures.1)
    (says_behind (lent_rows (lent a.loan.now) false) c.in_ok-lent_gate.ensures refl (name_row a.name0.now ∷ name_row a.name1.now ∷ [])
    (stays_shut (name_row a.name0.now ∷ []) c.in_err-check_name.ensures refl (name_row a.name1.now ∷ []))) refl

pub returns-in_err-check_name-2 : goal.returns-in_err-check_name-2
returns-in_err-check_name-2 c =
    let a = c.args in
    refused_by (lent a.loan.now) (told a.name0 a.mask0 a.ccid0) (told a.name1 a.mask1 a.ccid1) a.state.now _
    (turned_into values_of _ _ c.from_residual-in_err-check_name-2.ensures.1)
    (says_behind (lent_rows (lent a.loan.now) false) c.in_ok-lent_gate.ensures refl (name_row a.name0.now ∷ name_row a.name1.now ∷ [])
    (says_behind (name_row a.name0.now ∷ []) c.in_ok-check_name.ensures refl (name_row a.name1.now ∷ []) c.in_err-check_name-2.ensures)) refl

pub fresh-d-requires : goal.fresh-d-requires
fresh-d-requires c =
    let a = c.args in (
      text_short _ (not-false _ (none (name_row a.name0.now ∷ []) c.in_ok-check_name.ensures refl).0),
      text_short _ (not-false _ (none (name_row a.name1.now ∷ []) c.in_ok-check_name-2.ensures refl).0),
    )

pub returns : goal.returns
unfolding start_call
returns c =
    let a = c.args in
    accepted_so _ a.state.now (Ok Done) c.fresh-d.result _
    (through (keeping (nobody (told a.name0 a.mask0 a.ccid0) (told a.name1 a.mask1 a.ccid1))) (lent_rows (lent a.loan.now) false) (none (lent_rows (lent a.loan.now) false) c.in_ok-lent_gate.ensures refl)
    (past _ (none (name_row a.name0.now ∷ []) c.in_ok-check_name.ensures refl).0
    (past _ (none (name_row a.name1.now ∷ []) c.in_ok-check_name-2.ensures refl).0 (ap (leaves (granted [])) c.fresh-d.ensures))))
    refl (record { octets = c.encode.ensures.s_after; state = c.encode.ensures.s_after_2 })
