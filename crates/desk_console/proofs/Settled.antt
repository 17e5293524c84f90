-- The contracts of the calls settle their outcomes: two answers, and two contents of the state, that meet one at the same arguments are the same. Assumes
-- nothing.
use mathlib.Core.Path.{◌≡◌}
use mathlib.Core.List.{List}
use Prim.Native.Nat.{ℕ}
use contract.Lifetimes.{Lfts}
use denote.Bor.{Bor}
use denote.Ref.{MutBor, at_last}
use Rattle.std.specs.Prelude.{Result}
use Rattle.ground.specs.declared.Refusal.{Refusal}
use Rattle.catalogue_tables.specs.declared.GroupNo.{GroupNo}
use Rattle.catalogue_titles.specs.declared.Loan.{Loan}
use Rattle.desk_replies.specs.declared.Reply.{Reply}
use Rattle.desk_replies.proofs.Settled.{one_answer}
use Rattle.desk_console.proofs.activate.Reads as activate
use Rattle.desk_console.proofs.advance.Reads as advance
use Rattle.desk_console.proofs.deactivate.Reads as deactivate
use Rattle.desk_console.proofs.set_name.Reads as set-name
use Rattle.desk_console.proofs.start.Reads as start

module _ (loan : Bor Loan) (state : MutBor (List ℕ)) (a₁ a₂ : Result Reply Refusal) (new₁ new₂ : List ℕ) where
  -- no two answers, and no two states
  abbrev Settles : (Result Reply Refusal → List ℕ → Type 0) → Type 0
  Settles Met = Met a₁ new₁ → Met a₂ new₂ → (a₁ ≡ a₂) × (new₁ ≡ new₂)

  module _ (κs : Lfts 3) (service : ℕ) where
    pub activate_settled : (group : GroupNo) → Settles (λ a new. activate.Post κs (loan, (state, (service, (group, tt)))) a (loan, (at_last state new, (service, (group, tt)))))
    activate_settled group = one_answer a₁ a₂ new₁ new₂

    pub deactivate_settled : Settles (λ a new. deactivate.Post κs (loan, (state, (service, tt))) a (loan, (at_last state new, (service, tt))))
    deactivate_settled = one_answer a₁ a₂ new₁ new₂

    pub advance_settled : (step : ℕ) → Settles (λ a new. advance.Post κs (loan, (state, (service, (step, tt)))) a (loan, (at_last state new, (service, (step, tt)))))
    advance_settled step = one_answer a₁ a₂ new₁ new₂

  pub start_settled : (κs : Lfts 5) (name0 name1 : Bor (List ℕ)) (mask0 ccid0 mask1 ccid1 : ℕ)
      → Settles (λ a new. start.Post κs (loan, (name0, (mask0, (ccid0, (name1, (mask1, (ccid1, (state, tt)))))))) a (loan, (name0, (mask0, (ccid0, (name1, (mask1, (ccid1, (at_last state new, tt)))))))))
  start_settled κs name0 name1 mask0 ccid0 mask1 ccid1 = one_answer a₁ a₂ new₁ new₂

  pub set_name_settled : (κs : Lfts 4) (service : ℕ) (name : Bor (List ℕ))
      → Settles (λ a new. set-name.Post κs (loan, (state, (service, (name, tt)))) a (loan, (at_last state new, (service, (name, tt)))))
  set_name_settled κs service name = one_answer a₁ a₂ new₁ new₂
