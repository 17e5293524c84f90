-- `desk_take::take_in`: what `take_own` says of the record that is lent.
use mathlib.Core.Path.{sym, ap, ◌∙◌, subst}
use Rattle.std.specs.Prelude.{Result, Err}
use Rattle.std.proofs.lemmas.Result.{err_from_is_err_and}
use Rattle.ground.specs.declared.Refusal.{Refusal}
use Rattle.catalogue_titles.specs.Lent.{lent}
use Rattle.desk_replies.specs.declared.Reply.{Reply}
use Rattle.desk_take.specs.Serving.{OwnTake}
use Rattle.desk_take.proofs.take_in.Goals as goal

pub returns-in_err-own : goal.returns-in_err-own
returns-in_err-own c =
    let a = c.args in
    let p = err_from_is_err_and c.from_residual.result c.from_residual.ensures.1 in
    subst (λ (r : Result Reply Refusal). OwnTake (lent a.loan.now) a.players a.c.now a.out.now r a.c.now c.take_own.new.out) (sym (p.1 ∙ ap Err p.2)) c.in_err-own.ensures

pub returns : goal.returns
returns c =
    c.in_ok-own.ensures
