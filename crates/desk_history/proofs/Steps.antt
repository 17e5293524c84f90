-- Each call takes a desk that stands and agrees with the ledger to one that does, too. Assumes nothing.
use mathlib.Core.Path.{◌≡◌, refl, sym, ap, ◌∙◌, subst}
use mathlib.Core.Bool.{Bool, true, false, not, ◌&&◌, ◌||◌}
use mathlib.Core.Logic.{⊎_elim}
use mathlib.Core.List.{List, [], ◌∷◌, ◌++◌}
use Prim.Native.Nat.{ℕ, ◌≤◌, ◌<◌}
use borrow.Author.Tests.{eq-eqb, ne_eqb, ltb-true, le-leb, leb-false, not-false}
use lib.Dec.{eqb, leb}
use Rattle.ground.specs.Cases.{pick}
use Rattle.ground.proofs.Cases.{le_or}
use Rattle.ground.proofs.Rows.{none_of, state_of}
use Rattle.catalogue_titles.specs.Lent.{Lent, catalogue_of, lent_rule}
use Rattle.catalogue_titles.proofs.Laws.{rules_kept, renames_kept}
use Rattle.catalogue_check.proofs.Laws.{is_right}
use Rattle.player_state.specs.declared.Player.{Player}
use Rattle.player_state.specs.Player.{renamed, deactivated}
use Rattle.player_check.specs.Standing.{player_rule}
use Rattle.player_check.proofs.Laws.{group_there, group_used}
use Rattle.player_moves.specs.Clock.{advanced, activated}
use Rattle.player_moves.proofs.Ready.{shaped}
use Rattle.player_moves.proofs.Kept.{kept_deactivated, kept_renamed, kept_advanced, kept_activated}
use Rattle.desk_slots.specs.Slots.{slot_count, service_count, client_count, slot_of, has_slot}
use Rattle.ground.specs.Refusals.{Row, row, accepted, Left}
use Rattle.desk_client.specs.declared.Link.{Link}
use Rattle.desk_client.specs.declared.Account.{Account}
use Rattle.desk_client.specs.Client.{mtu_right, link_rule, account_fits, blank_account, no_account, account_with, start_link, connected_link, blank_client}
use Rattle.desk_client.specs.Duties.{joined, dropped}
use Rattle.desk_client.proofs.Laws.{start_link_stands, connected_link_stands, blank_client_stands}
use Rattle.desk_client.proofs.Rule.{Sound, Fit, connected_fit, fit_connected}
use Rattle.desk_client.proofs.Kept.{kept_joined, kept_dropped}
use Rattle.desk_state.specs.declared.Service.{Service}
use Rattle.desk_state.specs.declared.Desk.{Desk}
use Rattle.desk_state.specs.Desk.{link_at, service_at, account_in, service_rule, with_account, with_service, with_client}
use Rattle.desk_state.proofs.Laws.{service_there, service_player, service_account, kept_service}
use Rattle.desk_notices.specs.declared.Cause.{Cause}
use Rattle.desk_notices.specs.Owed.{settled, no_writer}
use Rattle.desk_replies.specs.Replies.{state_right, fronted, client_row, service_row, connected_row, of_characteristic, asked, link_of, account_of}
use Rattle.desk_links.specs.Links.{connect_rows, connect_call, disconnect_rows, disconnect_call, slot_rows, slot_call, subscribe_call, unsubscribe_call}
use Rattle.desk_console.specs.Console.{name_rows, name_call, activate_rows, activate_call, service_rows, deactivate_call, quiet_advance, advance_call}
use Rattle.desk_history.specs.Ledger.{Line, Claims, Book, Ledger, no_claims, line_of, no_line, in_service, changing, relinking, becoming, joining, leaving, may_connect, may_leave, may_join}
use Rattle.desk_history.specs.Stored.{LikeLink, LikeAccount, LikeService, Agrees}
use Rattle.desk_history.proofs.Likeness.{like_blank, like_start, like_connected, like_joined, like_dropped}
use Rattle.player_values.specs.Values.{source_of}
use Rattle.desk_history.proofs.Agreement.{same_throughout, like_changing, account_kept, like_becoming, settled_stands, agree_service, agree_client, client_kept}

-- ---- alike and standing: the whole, and a service beside the clients' links
module _ (k : Lent) where
  abbrev pub Ok : Ledger → Desk → Type 0
  Ok L d = Agrees L d × (state_right k d ≡ true)

  abbrev pub OkService : List Link → Book → Service → Type 0
  OkService links b s = LikeService b s × (service_rule k.groups k.tracks links s ≡ true)

-- ---- within a service
module _ (k : Lent) (links : List Link) (b : Book) (s : Service) (ok : OkService k links b s) where
  pub fine : player_rule k.groups k.tracks s.player ≡ true
  fine = service_player k.groups k.tracks links s ok.1

  -- the player is another, and every client is told
  pub ok_becoming : (cause : Player → Cause) (f : Player → Player) → player_rule k.groups k.tracks (f s.player) ≡ true
      → OkService k links (becoming k (cause b.player) (f b.player) b) (settled (source_of k) (cause s.player) (f s.player) s)
  ok_becoming cause f h = (like_becoming k b s ok.0 cause f, settled_stands k b s ok.0 links ok.1 (cause s.player) (f s.player) h)

  -- a client that asks: its account, which fits its link
  module _ (who : ℕ) (h : who < client_count) where
    pub fits : account_fits (link_at links who) (account_in s who) ≡ true
    fits = service_account k.groups k.tracks links s ok.1 who h

    module _ (on : (link_at links who).connected ≡ true) where
      pub fit : Fit (link_at links who) (account_in s who)
      fit = connected_fit (link_at links who) (account_in s who) fits on

      -- its account is another, which asks for nothing where the link is not encrypted
      pub ok_account : (a : Account) (f : Claims → Claims) → LikeAccount (f (b.account who)) a → Sound a → ((link_at links who).encrypted || eqb a.subscribed 0) ≡ true
          → OkService k links (changing who f b) (with_account who a s)
      ok_account a f alike sound safe = (
        like_changing b s ok.0 who h a f alike,
        account_kept b s ok.0 who h a k.groups k.tracks links ok.1 (fit_connected (link_at links who) a on (record { account = sound; safe = safe })),
      )

-- ---- the whole
module _ (k : Lent) (right : lent_rule k ≡ true) (L : Ledger) (d : Desk) (ok : Ok k L d) where
  -- the rows behind 200 and 201
  pub guard : (small : Bool) (rows : List Row) → accepted (fronted k small d ++ rows) ≡ accepted (row 205 small ∷ rows)
  guard small rows = λ i. not (not (rules_kept k right i)) && (not (not (renames_kept k right i)) && (not small && (not (not (ok.1 i)) && accepted rows)))

  -- a call that is accepted exactly where the ledger's rows accept
  pub ok_call : (small t : Bool) (rows : List Row) (work : Left Desk) (M : Ledger) → accepted (row 205 small ∷ rows) ≡ t → (t ≡ true → Ok k M work.state)
      → Ok k (pick t M L) (asked k small d rows work).state
  ok_call small t rows work M e f =
      subst (Ok k (pick t M L)) (sym (state_of d (fronted k small d ++ rows) work ∙ ap (λ (b : Bool). pick b work.state d) (guard small rows ∙ e))) (choose t f)
    where
      choose : (u : Bool) → (u ≡ true → Ok k M work.state) → Ok k (pick u M L) (pick u work.state d)
      choose true g = g refl
      choose false g = ok

  pub like_link : (who : ℕ) → who < client_count → LikeLink (L.link who) (link_of d who)
  like_link who h = ok.0.link who h

  -- a service: what becomes of it becomes of the whole
  module _ (v : ℕ) (h : v < service_count) where
    pub within : OkService k d.links (L.service v) (service_at d v)
    within = (ok.0.service v h, service_there k.groups k.tracks d ok.1 v h)

    pub ok_service : (f : Book → Book) (s : Service) → OkService k d.links (f (L.service v)) s → Ok k (in_service v f L) (with_service v s d)
    ok_service f s new = (
      agree_service L d ok.0 v h f s new.0,
      kept_service k.groups k.tracks d ok.1 v s (subst (λ (n : ℕ). v < n) (sym ok.0.services) h) new.1,
    )

  -- ---- the calls of the desk itself
  -- the player of a service becomes f of it
  player_step : (v : ℕ) → v < service_count → (cause : Player → Cause) (f : Player → Player)
      → ((p : Player) → player_rule k.groups k.tracks p ≡ true → player_rule k.groups k.tracks (f p) ≡ true)
      → Ok k (in_service v (λ b. becoming k (cause b.player) (f b.player) b) L)
      (with_service v (settled (source_of k) (cause (service_at d v).player) (f (service_at d v).player) (service_at d v)) d)
  player_step v h cause f kept =
      ok_service v h (λ b. becoming k (cause b.player) (f b.player) b) _
      (ok_becoming k d.links (L.service v) (service_at d v) (within v h) cause f
      (kept (service_at d v).player (fine k d.links (L.service v) (service_at d v) (within v h))))

  pub name_step : (v : ℕ) (name : List ℕ)
      → Ok k (pick (accepted (name_rows v name)) (in_service v (λ b. becoming k (no_writer false) (renamed name b.player) b) L) L) (name_call k d v name).state
  unfolding name_call
  name_step v name =
      ok_call false (accepted (name_rows v name)) (name_rows v name) _ _ refl
      (λ e.
      let n = none_of (name_rows v name) e in
      player_step v (leb-false service_count v n.0) (λ p. no_writer false) (renamed name)
      (λ p stands. kept_renamed k.groups k.tracks p stands name (not-false _ n.1.0)))

  pub activate_step : (v g : ℕ)
      → Ok k (pick (accepted (activate_rows k v g)) (in_service v (λ b. becoming k (no_writer false) (activated k.groups k.tracks g b.player) b) L) L)
      (activate_call k d v g).state
  unfolding activate_call
  activate_step v g =
      ok_call false (accepted (activate_rows k v g)) (activate_rows k v g) _ _ refl
      (λ e.
      let n = none_of (activate_rows k v g) e in
      let there = not-false _ n.1.0 in
      player_step v (leb-false service_count v n.0) (λ p. no_writer false) (activated k.groups k.tracks g)
      (λ p stands.
      kept_activated k.groups k.tracks k.segments (shaped (catalogue_of k) (is_right (catalogue_of k) (rules_kept k right))) p stands g (group_there k.groups g there) (group_used k.groups g there)))

  pub deactivate_step : (v : ℕ)
      → Ok k (pick (accepted (service_rows v)) (in_service v (λ b. becoming k (no_writer false) (deactivated b.player) b) L) L) (deactivate_call k d v).state
  unfolding deactivate_call
  deactivate_step v =
      ok_call false (accepted (service_rows v)) (service_rows v) _ _ refl
      (λ e. player_step v (leb-false service_count v (none_of (service_rows v) e).0) (λ p. no_writer false) deactivated
      (λ p stands. kept_deactivated k.groups k.tracks p stands))

  pub advance_step : (v step : ℕ)
      → Ok k
      (pick (accepted (service_rows v))
      (in_service v (λ b. becoming k (no_writer (quiet_advance k.tracks step b.player)) (advanced k.groups k.tracks step b.player) b) L) L)
      (advance_call k d v step).state
  unfolding advance_call
  advance_step v step =
      ok_call false (accepted (service_rows v)) (service_rows v) _ _ refl
      (λ e. player_step v (leb-false service_count v (none_of (service_rows v) e).0) (λ p. no_writer (quiet_advance k.tracks step p)) (advanced k.groups k.tracks step)
      (λ p stands. kept_advanced k.groups k.tracks k.segments (shaped (catalogue_of k) (is_right (catalogue_of k) (rules_kept k right))) p stands step))

  -- ---- the calls of the clients
  -- 202, 219: of a number out of range both say no; of another what stands behind is alike
  pub same_rows : (number n i : ℕ) (rows others : List Row) → (i < n → accepted rows ≡ accepted others)
      → accepted (row number (leb n i) ∷ rows) ≡ accepted (row number (leb n i) ∷ others)
  same_rows number n i rows others f =
      ⊎_elim
      (λ (h : n ≤ i). (λ j. not (le-leb n i h j) && accepted rows) ∙ sym (λ j. not (le-leb n i h j) && accepted others))
      (λ (h : i < n). ap (λ (b : Bool). not (leb n i) && b) (f h))
      (le_or n i)

  -- a client's link is another, and every account of it is blank
  relink_step : (who : ℕ) → who < client_count → (line : Line) (l : Link) → LikeLink line l → link_rule l ≡ true
      → Ok k (relinking who line L) (with_client who (blank_client l) d)
  unfolding with_client
  relink_step who h line l alike stands = (
    agree_client L d ok.0 who h (blank_client l) (relinking who line L)
        (subst (λ (t : Bool). LikeLink (pick t line (L.link who)) l) (sym (eq-eqb who who refl)) alike)
        (λ c n. ap (λ (t : Bool). pick t line (L.link c)) (ne_eqb c who n))
        (λ v t. like_changing (L.service v) (service_at d v) (ok.0.service v t) who h (account_with (blank_client l) v) (λ a. no_claims)
        (subst (LikeAccount no_claims) (sym (same_throughout service_count v blank_account no_account t)) like_blank))
        d.turn ok.0.turn,
    client_kept L d ok.0 who h (blank_client l) k.groups k.tracks ok.1 (blank_client_stands l stands),
  )

  pub connect_step : (who mtu : ℕ) (encrypted : Bool)
      → Ok k (pick (may_connect L who mtu) (relinking who (line_of true encrypted mtu) L) L) (connect_call k d who mtu encrypted).state
  unfolding connect_call
  connect_step who mtu encrypted =
      ok_call false (may_connect L who mtu) (connect_rows who (link_of d who).connected mtu) _ (relinking who (line_of true encrypted mtu) L)
      (same_rows 202 client_count who (rest (link_of d who).connected) (rest (L.link who).on) (λ h i. accepted (rest ((like_link who h).on i))))
      (λ e.
      let n = none_of (connect_rows who (L.link who).on mtu) e in
      relink_step who (leb-false client_count who n.0) (line_of true encrypted mtu) (connected_link mtu encrypted) (like_connected mtu encrypted)
      (connected_link_stands mtu encrypted (not-false _ n.1.1.0)))
    where
      rest : Bool → List Row
      rest on = row 204 on ∷ row 206 (not (mtu_right mtu)) ∷ []

  pub disconnect_step : (who : ℕ) → Ok k (pick (may_leave L who) (relinking who no_line L) L) (disconnect_call k d who).state
  unfolding disconnect_call
  disconnect_step who =
      ok_call false (may_leave L who) (disconnect_rows who (link_of d who).connected) _ (relinking who no_line L)
      (same_rows 202 client_count who (connected_row (link_of d who).connected ∷ []) (connected_row (L.link who).on ∷ []) (λ h i. accepted (connected_row ((like_link who h).on i) ∷ [])))
      (λ e. relink_step who (leb-false client_count who (none_of (disconnect_rows who (L.link who).on) e).0) no_line start_link like_start start_link_stands)

  -- a call of a client on a service: its rows behind 202 and 219
  pub caller_rows : (who v : ℕ) (rows others : List Row) → (who < client_count → v < service_count → accepted rows ≡ accepted others)
      → accepted (client_row who ∷ service_row v ∷ rows) ≡ accepted (client_row who ∷ service_row v ∷ others)
  caller_rows who v rows others f =
      same_rows 202 client_count who (service_row v ∷ rows) (service_row v ∷ others) (λ h. same_rows 219 service_count v rows others (f h))

  join_rows : (who v c : ℕ) → accepted (slot_rows who v (link_of d who).connected (link_of d who).encrypted c) ≡ may_join L who v c
  join_rows who v c =
      caller_rows who v (rest (link_of d who).connected (link_of d who).encrypted) (rest (L.link who).on (L.link who).safe)
      (λ h l i. accepted (rest ((like_link who h).on i) ((like_link who h).safe i)))
    where
      rest : Bool → Bool → List Row
      rest on safe = connected_row on ∷ of_characteristic safe c 209 (has_slot c)

  -- what becomes of the account, by the slot
  slot_step : (who v c : ℕ) (f : ℕ → Claims → Claims) (g : ℕ → Account → Account)
      → ((s : ℕ) (x : Claims) (a : Account) → LikeAccount x a → LikeAccount (f s x) (g s a))
      → ((s : ℕ) (a : Account) → Sound a → s < slot_count → Sound (g s a))
      → Ok k (pick (may_join L who v c) (in_service v (changing who (f (slot_of c))) L) L) (slot_call k d who v c g).state
  unfolding slot_call
  slot_step who v c f g alike kept =
      ok_call false (may_join L who v c) (slot_rows who v (link_of d who).connected (link_of d who).encrypted c) _ (in_service v (changing who (f (slot_of c))) L) (join_rows who v c)
      (λ e.
      let n = none_of (slot_rows who v (L.link who).on (L.link who).safe c) e in
      let h = leb-false client_count who n.0 in
      let l = leb-false service_count v n.1.0 in
      let on = (like_link who h).on ∙ not-false _ n.1.1.0 in
      let safe = (like_link who h).safe ∙ not-false _ n.1.1.1.1.1.0 in
      let own = account_of d who v in
      let sound = (fit k d.links (L.service v) (service_at d v) (within v l) who h on).account in
      ok_service v l (changing who (f (slot_of c))) _
      (ok_account k d.links (L.service v) (service_at d v) (within v l) who h on (g (slot_of c) own) (f (slot_of c))
      (alike (slot_of c) ((L.service v).account who) own ((ok.0.service v l).account who h))
      (kept (slot_of c) own sound (ltb-true (slot_of c) slot_count (not-false _ n.1.1.1.1.0)))
      (ap (λ (b : Bool). b || eqb (g (slot_of c) own).subscribed 0) safe)))

  pub subscribe_step : (who v c : ℕ) → Ok k (pick (may_join L who v c) (in_service v (changing who (joining (slot_of c))) L) L) (subscribe_call k d who v c).state
  subscribe_step who v c = slot_step who v c joining joined (λ s x a l. like_joined x a l s) (λ s a sound h. kept_joined a sound s h)

  pub unsubscribe_step : (who v c : ℕ) → Ok k (pick (may_join L who v c) (in_service v (changing who (leaving (slot_of c))) L) L) (unsubscribe_call k d who v c).state
  unsubscribe_step who v c = slot_step who v c leaving dropped (λ s x a l. like_dropped x a l s) (λ s a sound h. kept_dropped a sound s)
