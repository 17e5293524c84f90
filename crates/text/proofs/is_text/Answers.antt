-- `text::is_text`: an answer that is `Ok` is the one that is granted.
use mathlib.Core.Path.{◌≡◌, refl, ap, ◌∙◌}
use Rattle.std.specs.Prelude.{Result, Ok, Err}
use Rattle.std.specs.Result.{is_ok}
use Rattle.ground.specs.Refusals.{Said}
use Rattle.text.specs.declared.NotText.{NotText}
use Rattle.text.specs.Utf8.{text_said, is_fine}
use Rattle.text.proofs.is_text.Goals as goal

fine_if_ok : (r : Result Unit NotText) → is_ok r ≡ is_fine r
fine_if_ok (Ok u) = refl
fine_if_ok (Err e) = refl

pub returns : goal.returns
unfolding text_said
returns c =
    c.is_ok.ensures.value ∙ fine_if_ok c.check.result ∙ ap (λ (said : Said). said.is_granted) c.check.ensures
