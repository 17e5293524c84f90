-- What `?` hands on: the refusal that it came to, and so what that says (SCOPE 20.1). Assumes nothing.
use mathlib.Core.Path.{◌≡◌, ap, ◌∙◌}
use mathlib.Core.List.{List}
use Prim.Native.Nat.{ℕ}
use Rattle.std.specs.Prelude.{Result}
use Rattle.std.specs.Result.{IsErrAnd}
use Rattle.std.proofs.lemmas.Result.{err_from_is_err_and}
use Rattle.ground.specs.declared.Refusal.{Refusal}
use Rattle.ground.specs.Refusals.{Said, refusal_of, answer_said}

pub passed_on : {A : Type 0} (values : A → List ℕ) (r : Result A Refusal) (e : Refusal) {said : Said}
    → IsErrAnd r (λ x. x ≡ e) → refusal_of e ≡ said → answer_said values r ≡ said
passed_on values r e handed known =
    let p = err_from_is_err_and r handed in
    ap (answer_said values) p.1 ∙ ap refusal_of p.2 ∙ known

-- where `?` makes the refusal of another error
pub turned_into : {A : Type 0} (values : A → List ℕ) (r : Result A Refusal) (said : Said) → IsErrAnd r (λ x. refusal_of x ≡ said) → answer_said values r ≡ said
turned_into values r said handed =
    let p = err_from_is_err_and r handed in
    ap (answer_said values) p.1 ∙ p.2
