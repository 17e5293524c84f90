-- The contracts of the calls settle their outcomes: two outcomes that meet one at the same arguments are the same. Assumes nothing.
use mathlib.Core.Path.{◌≡◌, refl, sym, ap, ◌∙◌}
use mathlib.Core.List.{List}
use Prim.Native.Nat.{ℕ}
use contract.Lifetimes.{Lfts}
use denote.Bor.{Bor}
use denote.Ref.{MutBor, at_last}
use Rattle.std.specs.Prelude.{Result, Ok, Err}
use Rattle.ground.specs.declared.Refusal.{Refusal}
use Rattle.catalogue_titles.specs.declared.Loan.{Loan}
use Rattle.catalogue_titles.specs.Lent.{Lent, lent}
use Rattle.player_state.specs.declared.Player.{Player}
use Rattle.ground.specs.Lists.{table_after}
use Rattle.ground.specs.Refusals.{Left}
use Rattle.desk_client.specs.declared.Client.{Client}
use Rattle.mcs_state.specs.Codec.{desk_of}
use Rattle.desk_replies.specs.declared.Reply.{Reply}
use Rattle.desk_replies.specs.Replies.{said_of}
use Rattle.desk_replies.proofs.Settled.{answer_settles, one_answer}
use Rattle.desk_take.specs.declared.Own.{Own}
use Rattle.desk_take.specs.Serving.{own_octets, OwnTake, answer_by, record_by}
use Rattle.desk_take.specs.Take.{take_octets}
use Rattle.desk_take.proofs.take.Reads as take
use Rattle.desk_take.proofs.take_own.Reads as take_own

module _ (κs : Lfts 4) (loan : Bor Loan) (state out : MutBor (List ℕ)) (new₁ new₂ out₁ out₂ : List ℕ) where
  pub take_settled : (a₁ a₂ : Result Reply Refusal)
      → take.Post κs (loan, (state, (out, tt))) a₁ (loan, (at_last state new₁, (at_last out out₁, tt)))
      → take.Post κs (loan, (state, (out, tt))) a₂ (loan, (at_last state new₂, (at_last out out₂, tt)))
      → (a₁ ≡ a₂) × (new₁ ≡ new₂) × (out₁ ≡ out₂)
  take_settled a₁ a₂ p q =
      let e = one_answer a₁ a₂ new₁ new₂ p.0 q.0 in
      let octets = take_octets (lent loan.now) (desk_of state.now) in
      (e.0, e.1, p.1 ∙ ap (λ (a : Result Reply Refusal). table_after (said_of a) octets out.now) e.0 ∙ sym q.1)

-- a take of one's own record, lent or by value: the answer, the record and the output
pub own_settled : (k : Lent) (players : List Player) (c : Client) (out : List ℕ) (a₁ a₂ : Result Reply Refusal) (c₁ c₂ : Client) (out₁ out₂ : List ℕ)
    → OwnTake k players c out a₁ c₁ out₁ → OwnTake k players c out a₂ c₂ out₂ → (a₁ ≡ a₂) × (c₁ ≡ c₂) × (out₁ ≡ out₂)
own_settled k players c out a₁ a₂ c₁ c₂ out₁ out₂ h g =
    let e = h.0 ∙ sym g.0 in
    let a = answer_settles a₁ a₂ (ap (λ (l : Left Client). l.said) e) in
    (a, ap (λ (l : Left Client). l.state) e, h.1 ∙ ap (λ (x : Result Reply Refusal). table_after (said_of x) (own_octets k players c) out) a ∙ sym g.1)

-- the take by value is its answer and the record afterwards
taking : Result Reply Refusal → Client → Result Own Refusal
taking (Ok reply) c = Ok (record { reply = reply; client = c })
taking (Err r) c = Err r

taking_back : (c : Client) (r : Result Own Refusal) → taking (answer_by r) (record_by c r) ≡ r
unfolding taking
taking_back c (Ok own) = refl
taking_back c (Err r) = refl

module _ (κs : Lfts 3) (loan : Bor Loan) (out : MutBor (List ℕ)) (out₁ out₂ : List ℕ) (players : List Player) (c : Client) (h₁ h₂ : Result Own Refusal) where
  pub take_own_settled : take_own.Post κs (c, (loan, (players, (out, tt)))) h₁ (c, (loan, (players, (at_last out out₁, tt))))
      → take_own.Post κs (c, (loan, (players, (out, tt)))) h₂ (c, (loan, (players, (at_last out out₂, tt))))
      → (h₁ ≡ h₂) × (out₁ ≡ out₂)
  take_own_settled f g =
      let e = own_settled (lent loan.now) players c out.now (answer_by h₁) (answer_by h₂) (record_by c h₁) (record_by c h₂) out₁ out₂ f g in
      (sym (taking_back c h₁) ∙ (λ i. taking (e.0 i) (e.1 i)) ∙ taking_back c h₂, e.2)
