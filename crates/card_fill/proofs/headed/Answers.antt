-- `card_fill::headed`: the five octets of the head are laid over the first zeros. Of a number of 16 bits the second octet is all that is left.
use mathlib.Core.Path.{◌≡◌, ap, ◌∙◌}
use mathlib.Core.List.{List, [], ◌∷◌, ◌++◌}
use Prim.Native.Nat.{ℕ, ◌/◌, ◌%◌}
use native.Mathlib.Omega.{arith}
use lib.ListN.{get_or}
use Rattle.card_fill.specs.Filled.{head_of, zeros}
use Rattle.card_fill.proofs.headed.Goals as goal

pub returns : goal.returns
returns c =
    let a = c.args in
    let n : a.number / 256 % 256 ≡ a.number / 256 = omega arith in
    let m : a.count / 256 % 256 ≡ a.count / 256 = omega arith in
    let p = c.to_le_bytes.ensures in
    let q = c.to_le_bytes-2.ensures in
    let head : c.copy.new.to ≡ head_of a.number a.kind a.count =
    c.copy.ensures.after
    ∙ (λ k. get_or (p k) 0 0 ∷ get_or (p k) 1 0 ∷ a.kind ∷ get_or (q k) 0 0 ∷ get_or (q k) 1 0 ∷ [])
    ∙ (λ k. a.number % 256 ∷ n k ∷ a.kind ∷ a.count % 256 ∷ m k ∷ []) in
    ap (λ (h : List ℕ). h ++ zeros 507) head
