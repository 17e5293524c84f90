-- The contracts of the calls settle what they come to: two answers, and two contents of the state's octets, that meet one at the same arguments are the same.
-- Assumes nothing.
use mathlib.Core.Path.{◌≡◌}
use mathlib.Core.Bool.{Bool}
use mathlib.Core.List.{List}
use Prim.Native.Nat.{ℕ}
use contract.Lifetimes.{Lfts}
use denote.Bor.{Bor}
use denote.Ref.{MutBor, at_last}
use Rattle.std.specs.Prelude.{Result}
use Rattle.ground.specs.declared.Refusal.{Refusal}
use Rattle.catalogue_titles.specs.declared.Loan.{Loan}
use Rattle.desk_replies.specs.declared.Reply.{Reply}
use Rattle.desk_replies.proofs.Settled.{one_answer}
use Rattle.desk_links.proofs.connect.Reads as connect
use Rattle.desk_links.proofs.disconnect.Reads as disconnect
use Rattle.desk_links.proofs.subscribe.Reads as subscribe
use Rattle.desk_links.proofs.unsubscribe.Reads as unsubscribe

module _ (κs : Lfts 3) (loan : Bor Loan) (state : MutBor (List ℕ)) (who : ℕ) (a₁ a₂ : Result Reply Refusal) (new₁ new₂ : List ℕ) where
  -- no two answers, and no two states
  abbrev Settles : (Result Reply Refusal → List ℕ → Type 0) → Type 0
  Settles Met = Met a₁ new₁ → Met a₂ new₂ → (a₁ ≡ a₂) × (new₁ ≡ new₂)

  pub connect_settled : (mtu : ℕ) (encrypted : Bool)
      → Settles (λ a new. connect.Post κs (loan, (state, (who, (mtu, (encrypted, tt))))) a (loan, (at_last state new, (who, (mtu, (encrypted, tt))))))
  connect_settled mtu encrypted = one_answer a₁ a₂ new₁ new₂

  pub disconnect_settled : Settles (λ a new. disconnect.Post κs (loan, (state, (who, tt))) a (loan, (at_last state new, (who, tt))))
  disconnect_settled = one_answer a₁ a₂ new₁ new₂

  module _ (service characteristic : ℕ) where
    pub subscribe_settled : Settles (λ a new. subscribe.Post κs (loan, (state, (who, (service, (characteristic, tt))))) a (loan, (at_last state new, (who, (service, (characteristic, tt))))))
    subscribe_settled = one_answer a₁ a₂ new₁ new₂

    pub unsubscribe_settled : Settles (λ a new. unsubscribe.Post κs (loan, (state, (who, (service, (characteristic, tt))))) a (loan, (at_last state new, (who, (service, (characteristic, tt))))))
    unsubscribe_settled = one_answer a₁ a₂ new₁ new₂
