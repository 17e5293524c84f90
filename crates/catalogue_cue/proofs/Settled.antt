-- The contract of `read` settles the answer and the table: two outcomes that meet it at the same arguments are the same. Assumes nothing.
use mathlib.Core.Path.{◌≡◌, sym, ◌∙◌}
use mathlib.Core.Bool.{false}
use mathlib.Core.List.{List}
use Prim.Native.Nat.{ℕ}
use contract.Lifetimes.{Lfts}
use denote.Ref.{Bor, MutBor, at_last}
use Rattle.ground.specs.Refusals.{count_said}
use Rattle.ground.proofs.Settled.{count_settles, table_settled, table_kept}
use Rattle.std.specs.Prelude.{Result}
use Rattle.ground.specs.declared.Refusal.{Refusal}
use Rattle.catalogue_cue.specs.Sheet.{sheet_lines, starts_of}
use Rattle.catalogue_cue.proofs.read.Reads as read

module _ (κs : Lfts 2) (sheet : Bor (List ℕ)) (starts : MutBor (List ℕ)) where
  -- an answer and a table at exit that meet the contract
  abbrev Meets : Result ℕ Refusal → List ℕ → Type 0
  Meets r t = read.Post κs (sheet, (starts, tt)) r (sheet, (at_last starts t, tt))

  pub read_settled : (r₁ r₂ : Result ℕ Refusal) (t₁ t₂ : List ℕ) → Meets r₁ t₁ → Meets r₂ t₂ → (r₁ ≡ r₂) × (t₁ ≡ t₂)
  read_settled r₁ r₂ t₁ t₂ p q =
      let e : count_said r₁ ≡ count_said r₂ = p.0 ∙ sym q.0 in
      (count_settles r₁ r₂ e, table_settled _ _ (starts_of (sheet_lines sheet.now)) starts.now t₁ t₂ e p.1 q.1)

  -- a refusal leaves the table as it was
  pub read_keeps : (r : Result ℕ Refusal) (t : List ℕ) → Meets r t → (count_said r).is_granted ≡ false → t ≡ starts.now
  read_keeps r t p h = table_kept (count_said r) (starts_of (sheet_lines sheet.now)) starts.now t h p.1
