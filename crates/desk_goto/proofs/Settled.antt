-- The contract of the call settles all that it answers. Assumes nothing.
use mathlib.Core.Path.{◌≡◌, sym, ap, ◌∙◌}
use mathlib.Core.List.{List}
use Prim.Native.Nat.{ℕ}
use contract.Lifetimes.{Lfts}
use denote.Ref.{Bor}
use Rattle.std.specs.Prelude.{Result, Ok, Err}
use Rattle.ground.specs.declared.Refusal.{Refusal}
use Rattle.ground.specs.Refusals.{Left}
use Rattle.ground.proofs.Cases.{clash}
use Rattle.ground.proofs.Settled.{done_settles}
use Rattle.catalogue_titles.specs.declared.Loan.{Loan}
use Rattle.desk_goto.specs.declared.Arrival.{Arrival}
use Rattle.desk_goto.specs.Manual.{no_arrival, shown_by}
use Rattle.desk_goto.proofs.manual_goto.Reads as manual-goto

-- what is done shows an arrival
showing : Arrival → Result Unit Refusal → Result Arrival Refusal
showing a (Ok u) = Ok a
showing a (Err r) = Err r

-- no two answers come to the same
settles : (s₁ s₂ : Result Arrival Refusal) → shown_by s₁ ≡ shown_by s₂ → s₁ ≡ s₂
unfolding showing
settles (Ok a) (Ok b) e = ap (λ (l : Left Arrival). Ok l.state) e
settles (Ok a) (Err r) e = clash (sym (ap (λ (l : Left Arrival). l.said.is_granted) e))
settles (Err r) (Ok b) e = clash (ap (λ (l : Left Arrival). l.said.is_granted) e)
settles (Err r) (Err s) e = ap (showing no_arrival) (done_settles (Err r) (Err s) (ap (λ (l : Left Arrival). l.said) e))

module _ (loan : Bor Loan) (state : Bor (List ℕ)) (service opcode n allowed : ℕ) where
  pub manual_goto_settled : (κs : Lfts 3) (s₁ s₂ : Result Arrival Refusal)
      → manual-goto.Post κs (loan, (state, (service, (opcode, (n, (allowed, tt)))))) s₁ (loan, (state, (service, (opcode, (n, (allowed, tt))))))
      → manual-goto.Post κs (loan, (state, (service, (opcode, (n, (allowed, tt)))))) s₂ (loan, (state, (service, (opcode, (n, (allowed, tt))))))
      → s₁ ≡ s₂
  manual_goto_settled κs s₁ s₂ p q = settles s₁ s₂ (p ∙ sym q)
