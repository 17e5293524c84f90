-- The part that is handed back lies in its text: the front where the call is refused, and else the title of what is fit. Assumes nothing.
use mathlib.Core.Path.{◌≡◌}
use mathlib.Core.Bool.{false}
use mathlib.Core.List.{[], ◌∷◌}
use mathlib.Core.Logic.{⊎_elim}
use Prim.Native.Nat.{ℕ}
use native.Mathlib.Omega.{arith}
use borrow.Author.Tests.{leb-false}
use lib.ListN.{length}
use Rattle.ground.specs.Cases.{pick}
use Rattle.ground.specs.Refusals.{granted, leaves, accepted}
use Rattle.ground.proofs.Cases.{true_or}
use Rattle.ground.proofs.Rows.{state_of, none_of}
use Rattle.catalogue_titles.specs.Titles.{front, Inside}
use Rattle.catalogue_titles.specs.Lent.{Lent}
use Rattle.player_values.specs.Values.{title_part}
use Rattle.player_values.proofs.Fits.{title_lies}
use Rattle.desk_state.specs.declared.Desk.{Desk}
use Rattle.desk_state.specs.Desk.{service_at}
use Rattle.desk_replies.specs.Replies.{service_row, on_service}
use Rattle.desk_replies.proofs.Gates.{fit, player}
use Rattle.desk_title.specs.Title.{title_call}

module _ (k : Lent) (d : Desk) (service : ℕ) where
  by_rows : (title_call k d service).state ≡ pick (accepted (on_service k d service)) (title_part k.tracks k.renames (service_at d service).player) front
  unfolding title_call
  by_rows = state_of front (on_service k d service) (leaves (granted []) (title_part k.tracks k.renames (service_at d service).player))

  pub title_inside : Inside (title_call k d service).state (length k.text) (length k.office)
  title_inside =
      rw by_rows
      (⊎_elim
      (λ e.
      let n = none_of (on_service k d service) e in
      let behind = service_row service ∷ [] in
      rw e (title_lies k (fit k false d behind n) (service_at d service).player (player k false d behind n service (leb-false _ _ n.1.1.1.1.0))))
      (λ e. rw e (omega arith))
      (true_or (accepted (on_service k d service))))
