-- What the contracts of the two calls settle. Of the one that says which part it is, all. Of a part that is handed back, all that the machine has of it, a pointer and a
-- count, and the octets: which octets, from which text, at which place. A lent part has no name under which the checker tracks it, so that nothing is left.
-- Assumes nothing.
use mathlib.Core.Path.{◌≡◌, sym, ap, ◌∙◌}
use mathlib.Core.List.{List}
use Prim.Native.Nat.{ℕ}
use contract.Lifetimes.{Lfts}
use base.Fml.{GName}
use denote.Bor.{Bor}
use denote.MutBor.{as_bor}
use denote.Slice.{shr_slice_vals}
use Rattle.std.specs.Prelude.{Result, Ok, Err}
use Rattle.ground.specs.declared.Refusal.{Refusal}
use Rattle.ground.specs.Refusals.{Left}
use Rattle.ground.proofs.Cases.{clash}
use Rattle.ground.proofs.Settled.{done_settles}
use Rattle.catalogue_titles.specs.declared.Loan.{Loan}
use Rattle.catalogue_titles.specs.declared.Part.{Part}
use Rattle.catalogue_titles.specs.Titles.{front, IsPart}
use Rattle.desk_title.specs.Title.{titled_by}
use Rattle.desk_title.proofs.which.Reads as which
use Rattle.desk_title.proofs.title.Reads as title

-- two parts that differ in nothing
pub record Same (r₁ r₂ : Bor (List ℕ)) : Type 0 where
  pub place : r₁.ref_ptr ≡ r₂.ref_ptr
  pub octets : r₁.now ≡ r₂.now
  pub machine : shr_slice_vals r₁ ≡ shr_slice_vals r₂

same : {text office : Bor (List ℕ)} {part : Part} {r₁ r₂ : Bor (List ℕ)} → IsPart part text office r₁ → IsPart part text office r₂ → Same r₁ r₂
same {text} {office} {part} {r₁} {r₂} a b =
    let place : r₁.ref_ptr ≡ r₂.ref_ptr = λ i. ((a.block ∙ sym b.block) i, (a.start ∙ sym b.start) i) in
    let octets : r₁.now ≡ r₂.now = a.octets ∙ sym b.octets in
    record { place = place; octets = octets; machine = λ i. shr_slice_vals (record { ref_ptr = place i; now = octets i }) }

-- so they are one
pub one : {r₁ r₂ : Bor (List ℕ)} → Same r₁ r₂ → r₁ ≡ r₂
one s = λ i. record { ref_ptr = s.place i; now = s.octets i }

-- and a name would be left open: the contract holds of a part out of a loan under any name, if of one
pub any_name : {text office : Bor (List ℕ)} {part : Part} {r : Bor (List ℕ)} → IsPart part text office r → (other : GName)
    → IsPart part text office (as_bor (record { ref_ptr = r.ref_ptr; ghost_name = other; now = r.now }))
any_name a other = record { block = a.block; start = a.start; many = a.many; octets = a.octets }

-- what is done says a part
saying : Part → Result Unit Refusal → Result Part Refusal
saying part (Ok u) = Ok part
saying part (Err r) = Err r

-- no two answers come to the same
settles : (t₁ t₂ : Result Part Refusal) → titled_by t₁ ≡ titled_by t₂ → t₁ ≡ t₂
unfolding saying
settles (Ok p) (Ok q) e = ap (λ (l : Left Part). Ok l.state) e
settles (Ok p) (Err r) e = clash (sym (ap (λ (l : Left Part). l.said.is_granted) e))
settles (Err r) (Ok q) e = clash (ap (λ (l : Left Part). l.said.is_granted) e)
settles (Err r) (Err s) e = ap (saying front) (done_settles (Err r) (Err s) (ap (λ (l : Left Part). l.said) e))

module _ (loan : Bor Loan) (state : Bor (List ℕ)) (service : ℕ) where
  -- the arguments of the call that hands the title back
  abbrev pieces : Bor (List ℕ) × (Bor (List ℕ) × (Bor (List ℕ) × (Bor (List ℕ) × (Bor (List ℕ) × (Bor (List ℕ) × (Bor (List ℕ) × (ℕ × Unit {0})))))))
  pieces =
      let k = loan.now in
      (k.groups, (k.tracks, (k.segments, (k.text, (k.renames, (k.office, (state, (service, tt))))))))

  pub title_settled : (κs : Lfts 6) (r₁ r₂ : Bor (List ℕ)) → title.Post κs pieces r₁ pieces → title.Post κs pieces r₂ pieces → Same r₁ r₂
  title_settled κs r₁ r₂ = same

  pub which_settled : (κs : Lfts 3) (t₁ t₂ : Result Part Refusal)
      → which.Post κs (loan, (state, (service, tt))) t₁ (loan, (state, (service, tt)))
      → which.Post κs (loan, (state, (service, tt))) t₂ (loan, (state, (service, tt)))
      → t₁ ≡ t₂
  which_settled κs t₁ t₂ p q = settles t₁ t₂ (p ∙ sym q)

  -- the two calls with the same inputs: what the one hands back is the part that the other says
  pub agree : (κs : Lfts 6) (κs' : Lfts 3) (r : Bor (List ℕ)) (t : Result Part Refusal)
      → title.Post κs pieces r pieces
      → which.Post κs' (loan, (state, (service, tt))) t (loan, (state, (service, tt)))
      → IsPart (titled_by t).state loan.now.text loan.now.office r
  agree κs κs' r t a b = rw (ap (λ (l : Left Part). l.state) b) a
