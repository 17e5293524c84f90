-- The contracts of the calls settle their outcomes: two answers, and two contents of all that is lent for writing, that meet one at the same arguments are the
-- same. Assumes nothing.
use mathlib.Core.Path.{◌≡◌, sym, ap, ◌∙◌}
use mathlib.Core.List.{List}
use Prim.Native.Nat.{ℕ}
use contract.Lifetimes.{Lfts}
use denote.Bor.{Bor}
use denote.Ref.{MutBor, at_last}
use Rattle.std.specs.Prelude.{Result}
use Rattle.ground.specs.declared.Refusal.{Refusal}
use Rattle.catalogue_titles.specs.declared.Loan.{Loan}
use Rattle.catalogue_titles.specs.Lent.{lent}
use Rattle.ground.specs.Lists.{table_after}
use Rattle.mcs_state.specs.Codec.{desk_of}
use Rattle.desk_replies.specs.declared.Reply.{Reply}
use Rattle.desk_replies.specs.Replies.{said_of}
use Rattle.desk_replies.proofs.Settled.{one_answer}
use Rattle.desk_exchange.specs.Read.{read_octets}
use Rattle.desk_exchange.proofs.read.Reads as read
use Rattle.desk_exchange.proofs.write.Reads as write

module _ (loan : Bor Loan) (state : MutBor (List ℕ)) (who service characteristic : ℕ) (a₁ a₂ : Result Reply Refusal) (new₁ new₂ : List ℕ) where
  pub write_settled : (κs : Lfts 4) (value : Bor (List ℕ))
      → write.Post κs (loan, (state, (who, (service, (characteristic, (value, tt)))))) a₁ (loan, (at_last state new₁, (who, (service, (characteristic, (value, tt))))))
      → write.Post κs (loan, (state, (who, (service, (characteristic, (value, tt)))))) a₂ (loan, (at_last state new₂, (who, (service, (characteristic, (value, tt))))))
      → (a₁ ≡ a₂) × (new₁ ≡ new₂)
  write_settled κs value = one_answer a₁ a₂ new₁ new₂

  -- the lent output too
  pub read_settled : (κs : Lfts 4) (offset : ℕ) (out : MutBor (List ℕ)) (out₁ out₂ : List ℕ)
      → read.Post κs (loan, (state, (who, (service, (characteristic, (offset, (out, tt))))))) a₁ (loan, (at_last state new₁, (who, (service, (characteristic, (offset, (at_last out out₁, tt)))))))
      → read.Post κs (loan, (state, (who, (service, (characteristic, (offset, (out, tt))))))) a₂ (loan, (at_last state new₂, (who, (service, (characteristic, (offset, (at_last out out₂, tt)))))))
      → ((a₁ ≡ a₂) × (new₁ ≡ new₂)) × (out₁ ≡ out₂)
  read_settled κs offset out out₁ out₂ p q =
      let e = one_answer a₁ a₂ new₁ new₂ p.0 q.0 in
      let octets = read_octets (lent loan.now) (desk_of state.now) who service characteristic offset in
      (e, p.1 ∙ ap (λ (a : Result Reply Refusal). table_after (said_of a) octets out.now) e.0 ∙ sym q.1)
