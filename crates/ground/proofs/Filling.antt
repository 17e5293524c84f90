-- A loop that fills the front of a table, piece by piece: the front of the table with what is left to write is all there is to write, and the rest of the
-- table is as it was. Assumes nothing.
use mathlib.Core.Path.{◌≡◌, refl, sym, ap, ◌∙◌}
use mathlib.Core.List.{List, [], ◌++◌, append_assoc, append-nil}
use Prim.Native.Nat.{ℕ, ◌+◌, ◌≤◌, zero-le}
use native.Mathlib.Omega.{arith}
use lib.ListN.{length, take, drop, length-append, length-drop, take-append-drop}
use lib.Seq.{paste, length-take-le, take_at, drop_at, drop-drop}
use Rattle.ground.specs.Lists.{filled}

pub record Filling (all left old dst : List ℕ) (at : ℕ) : Type 0 where
  pub within : at ≤ length dst
  pub same : length dst ≡ length old
  pub front : take at dst ++ left ≡ all
  pub back : drop at dst ≡ drop at old

module _ (all old : List ℕ) where
  pub filling_starts : {left : List ℕ} → left ≡ all → Filling all left old old 0
  filling_starts e = record { within = zero-le; same = refl; front = e; back = refl }

  pub filling_ends : (left dst : List ℕ) (at : ℕ) → left ≡ [] → Filling all left old dst at → dst ≡ filled all old
  filling_ends left dst at e F =
      let w : take at dst ≡ all = sym (append-nil (take at dst)) ∙ (rw e at F.front) in
      let m : length all ≡ at = sym (ap length w) ∙ length-take-le at dst F.within in
      sym (take-append-drop at dst) ∙ (λ k. w k ++ F.back k) ∙ ap (λ (l : ℕ). all ++ drop l old) (sym m)

  -- the next piece is v, of m elements; behind it `rest` is left
  module _ (left dst : List ℕ) (at : ℕ) (F : Filling all left old dst at) (v rest : List ℕ) (e : left ≡ v ++ rest) (m : ℕ) (long : length v ≡ m) where
    split : take at dst ++ (v ++ rest) ≡ all
    split = rw e at F.front

    -- there is room for it
    pub filling_room : length all ≤ length old → at + m ≤ length dst
    filling_room r =
        omega (arith, F.same, long, length-take-le at dst F.within, ap length split, length-append (take at dst) (v ++ rest), length-append v rest)

    -- it is written, as the front of w
    pub filling_goes : (to w : List ℕ) → take m w ≡ v → at + m ≤ length dst → to ≡ paste dst at w m → Filling all rest old to (at + m)
    filling_goes to w q r p =
        let u = take m w in
        let head : length (take at dst ++ u) ≡ at + m =
        omega (arith, long, ap length q, length-append (take at dst) u, length-take-le at dst F.within) in
        let same : length to ≡ length dst =
        omega (arith, ap length p, length-append (take at dst ++ u) (drop (at + m) dst), length-drop (at + m) dst) in
        record {
          within = omega arith;
          same = same ∙ F.same;
          front =
              ap (λ (l : List ℕ). take (at + m) l ++ rest) p
              ∙ ap (λ (l : List ℕ). l ++ rest) (take_at (take at dst ++ u) (drop (at + m) dst) (at + m) head)
              ∙ append_assoc (take at dst) u rest
              ∙ ap (λ (l : List ℕ). take at dst ++ (l ++ rest)) q
              ∙ split;
          back =
              ap (drop (at + m)) p
              ∙ drop_at (take at dst ++ u) (drop (at + m) dst) (at + m) head
              ∙ sym (drop-drop m at dst)
              ∙ ap (drop m) F.back
              ∙ drop-drop m at old;
        }
