-- What a call comes to is settled by what it says and leaves. Assumes nothing.
use mathlib.Core.Path.{◌≡◌, refl, sym, ◌∙◌}
use mathlib.Core.List.{List, [], ◌∷◌}
use Prim.Native.Nat.{ℕ}
use Rattle.ground.specs.Refusals.{Left}
use Rattle.ground.proofs.Settled.{said_settles}
use Rattle.desk_state.specs.declared.Desk.{Desk}
use Rattle.std.specs.Prelude.{Result}
use Rattle.ground.specs.declared.Refusal.{Refusal}
use Rattle.desk_replies.specs.declared.Reply.{Reply}
use Rattle.desk_replies.specs.declared.Reply.TheVariants.{Done, Octets, Served, Handed}
use Rattle.desk_replies.specs.Replies.{values_of, said_of, Answers}

-- the reply, back from its values
reply_as : List ℕ → Reply
reply_as [] = Done
reply_as (n ∷ []) = Octets n
reply_as (a ∷ b ∷ []) = Done
reply_as (a ∷ b ∷ c ∷ []) = Handed a b c
reply_as (a ∷ b ∷ c ∷ d ∷ l) = Served a b c d

reply_back : (r : Reply) → reply_as (values_of r) ≡ r
unfolding reply_as
reply_back Done = refl
reply_back (Octets n) = refl
reply_back (Served who v c n) = refl
reply_back (Handed v c n) = refl

-- an answer is settled by what it says
pub answer_settles : (a b : Result Reply Refusal) → said_of a ≡ said_of b → a ≡ b
answer_settles = said_settles values_of reply_as reply_back

-- what a call on a state's octets comes to is settled: its answer and the octets
pub one_answer : {l : Left Desk} {old : List ℕ} (a₁ a₂ : Result Reply Refusal) (new₁ new₂ : List ℕ) → Answers l old a₁ new₁ → Answers l old a₂ new₂ → (a₁ ≡ a₂) × (new₁ ≡ new₂)
one_answer a₁ a₂ new₁ new₂ p q = (answer_settles a₁ a₂ (p.said ∙ sym q.said), p.octets ∙ sym q.octets)
