-- Lent elements that a loop lays over piece by piece: what is laid so far, with what is left, is all that there is to lay. Assumes nothing.
use mathlib.Core.Path.{◌≡◌, refl, sym, ap, ◌∙◌}
use mathlib.Core.List.{List, [], ◌++◌, append_assoc, append-nil}
use Prim.Native.Nat.{ℕ, ◌+◌, ◌≤◌}
use native.Mathlib.Omega.{arith}
use lib.ListN.{length, length-append}
use Rattle.ground.specs.Lists.{laid}
use Rattle.ground.proofs.Laying.{laid_nothing, laid_length, turn}

-- of `all`, which has room, n elements are laid from the place `from` on, and `left` is left
pub record Pieces (all left old dst : List ℕ) (from n : ℕ) : Type 0 where
  pub front : List ℕ
  pub parts : front ++ left ≡ all
  pub long : length front ≡ n
  pub room : from + length all ≤ length old
  pub put : dst ≡ laid old from front

pub pieces_start : {all left : List ℕ} (old : List ℕ) (from : ℕ) → left ≡ all → from + length all ≤ length old → Pieces all left old old from 0
pieces_start old from e room = record { front = []; parts = e; long = refl; room = room; put = laid_nothing old from }

module _ {all left old dst : List ℕ} {from n : ℕ} (P : Pieces all left old dst from n) where
  pub pieces_end : left ≡ [] → dst ≡ laid old from all
  pieces_end e = P.put ∙ ap (laid old from) (sym (append-nil P.front) ∙ (rw e at P.parts))

  as_many : n + length left ≡ length all
  as_many = omega (arith, P.long, ap length P.parts, length-append P.front left)

  pub pieces_same : length dst ≡ length old
  pieces_same = ap length P.put ∙ laid_length old from P.front (omega (arith, as_many, P.long, P.room))

  -- the next piece, which is v, has room; behind it `rest` is left
  module _ (v rest : List ℕ) (e : left ≡ v ++ rest) where
    in_all : n + length v ≤ length all
    in_all = omega (arith, as_many, ap length e, length-append v rest)

    pub pieces_room : from + n + length v ≤ length dst
    pieces_room = omega (arith, in_all, pieces_same, P.room)

    pub pieces_go : (new : List ℕ) (at m : ℕ) → at ≡ from + n → m ≡ n + length v → new ≡ laid dst at v → Pieces all rest old new from m
    pieces_go new at m p k q =
        record {
          front = P.front ++ v;
          parts = append_assoc P.front v rest ∙ (rw e at P.parts);
          long = omega (arith, length-append P.front v, P.long);
          room = P.room;
          put = turn old from P.front v dst new at P.put q (omega (arith, P.long)) (omega (arith, in_all, P.room));
        }
