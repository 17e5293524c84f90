-- States that keep 201: what the rule tells, that start's does, and that another service, another record or another turn that stands keeps it.
-- Assumes nothing.
use mathlib.Core.Path.{◌≡◌, sym, ap, ◌∙◌, subst}
use mathlib.Core.Bool.{true, ◌&&◌}
use mathlib.Core.List.{List, map}
use Prim.Native.Nat.{ℕ, zero, suc, ◌+◌, ◌<◌}
use native.Mathlib.Decide.{ℕ_discrete}
use native.Mathlib.Nat.{le_of_suc-le-suc, not-suc-le-zero, zero-add, add-zero, add-suc, suc-add}
use borrow.Author.Tests.{ltb-true, lt-ltb}
use lib.Dec.{ltb}
use lib.ListN.{length, get_or, set}
use lib.Seq.{get_or-set_same, get_or-set_other}
use Rattle.ground.specs.Lists.{all_below, span}
use Rattle.ground.proofs.Bounded.{all_at, all_intro}
use Rattle.ground.proofs.Cases.{and_left, and_right, and_both}
use Rattle.player_state.specs.declared.Player.{Player}
use Rattle.player_check.specs.Standing.{player_rule}
use Rattle.desk_slots.specs.Slots.{service_count, client_count}
use Rattle.desk_client.specs.declared.Link.{Link}
use Rattle.desk_client.specs.declared.Client.{Client}
use Rattle.desk_client.specs.Client.{link_rule, account_fits, no_account, account_with, client_rule}
use Rattle.desk_client.proofs.Rule.{client_link, client_account, client_stands as record_stands}
use Rattle.desk_client.proofs.Laws.{start_link_stands, blank_fits}
use Rattle.desk_state.specs.declared.Service.{Service}
use Rattle.desk_state.specs.declared.Desk.{Desk}
use Rattle.desk_state.specs.Desk.{no_link, no_service, link_at, service_at, account_in, client_at, accounts_fit, service_rule, services_rule, links_rule, desk_rule, started_desk, with_account, with_service, with_client}

-- what stands at a place of a list that f makes of the numbers from a on
spanned : {A : Type 0} (f : ℕ → A) (n a i : ℕ) (e : A) → i < n → get_or (map f (span a n)) i e ≡ f (a + i)
spanned f zero a i e h = absurd (not-suc-le-zero h)
spanned f (suc n) a zero e h = ap f (sym (add-zero a))
spanned f (suc n) a (suc i) e h = spanned f n (suc a) i e (le_of_suc-le-suc h) ∙ ap f (suc-add a i ∙ sym (add-suc a i))

pub listed : {A : Type 0} (f : ℕ → A) (n i : ℕ) (e : A) → i < n → get_or (map f (span 0 n)) i e ≡ f i
listed f n i e h = spanned f n 0 i e h ∙ ap f (zero-add i)

-- a client's own record, part by part
pub own_account : (d : Desk) (who v : ℕ) → v < service_count → account_with (client_at d who) v ≡ account_in (service_at d v) who
unfolding client_at
own_account d who v h = listed (λ (v : ℕ). account_in (service_at d v) who) service_count v no_account h

-- what a list has at each place where one is another
module _ {A : Type 0} (holds : A → Type 0) (s : List A) (i : ℕ) (x e : A) (l : i < length s) (new : holds x) where
  at_each : (j : ℕ) → holds (get_or s j e) → holds (get_or (set s i x) j e)
  at_each j old =
      elim (ℕ_discrete j i) [
        | yes q ↦ subst holds (sym (ap (λ (n : ℕ). get_or (set s i x) n e) q ∙ get_or-set_same s i x e l)) new
        | no q ↦ subst holds (sym (get_or-set_other s i j x e q)) old
      ]

module _ (groups tracks : List ℕ) where
  -- a service that stands, beside links
  module _ (links : List Link) (s : Service) (right : service_rule groups tracks links s ≡ true) where
    pub service_player : player_rule groups tracks s.player ≡ true
    unfolding service_rule
    service_player = and_left (player_rule groups tracks s.player) (accounts_fit links s.accounts) right

    pub service_account : (who : ℕ) → who < client_count → account_fits (link_at links who) (account_in s who) ≡ true
    unfolding service_rule accounts_fit
    service_account who h = all_at _ client_count (and_right (player_rule groups tracks s.player) (accounts_fit links s.accounts) right) who h

  pub service_stands : (links : List Link) (s : Service) → player_rule groups tracks s.player ≡ true
      → ((who : ℕ) → who < client_count → account_fits (link_at links who) (account_in s who) ≡ true) → service_rule groups tracks links s ≡ true
  unfolding service_rule accounts_fit
  service_stands links s p f = and_both p (all_intro _ client_count f)

  module _ (d : Desk) (right : desk_rule groups tracks d ≡ true) where
    both : (services_rule groups tracks d.links d.services && links_rule d.links) ≡ true
    unfolding desk_rule
    both = and_left (services_rule groups tracks d.links d.services && links_rule d.links) (ltb d.turn client_count) right

    pub service_there : (v : ℕ) → v < service_count → service_rule groups tracks d.links (service_at d v) ≡ true
    unfolding services_rule
    service_there v h = all_at _ service_count (and_left (services_rule groups tracks d.links d.services) (links_rule d.links) both) v h

    pub link_stands : (who : ℕ) → who < client_count → link_rule (link_at d.links who) ≡ true
    unfolding links_rule
    link_stands who h = all_at _ client_count (and_right (services_rule groups tracks d.links d.services) (links_rule d.links) both) who h

    pub turn_there : d.turn < client_count
    unfolding desk_rule
    turn_there = ltb-true _ _ (and_right (services_rule groups tracks d.links d.services && links_rule d.links) (ltb d.turn client_count) right)

    pub player_stands : (v : ℕ) → v < service_count → player_rule groups tracks (service_at d v).player ≡ true
    player_stands v h = service_player d.links (service_at d v) (service_there v h)

    pub account_stands : (v who : ℕ) → v < service_count → who < client_count → account_fits (link_at d.links who) (account_in (service_at d v) who) ≡ true
    account_stands v who h l = service_account d.links (service_at d v) (service_there v h) who l

    pub client_stands : (who : ℕ) → who < client_count → client_rule (client_at d who) ≡ true
    unfolding client_at
    client_stands who h =
        record_stands (client_at d who) (link_stands who h)
        (λ v l. ap (account_fits (link_at d.links who)) (own_account d who v l) ∙ account_stands v who l h)

  -- the parts of a desk that stands, put together
  pub desk_stands : (d : Desk) → ((v : ℕ) → v < service_count → service_rule groups tracks d.links (service_at d v) ≡ true)
      → ((who : ℕ) → who < client_count → link_rule (link_at d.links who) ≡ true) → d.turn < client_count → desk_rule groups tracks d ≡ true
  unfolding desk_rule services_rule links_rule
  desk_stands d f g h = and_both (and_both (all_intro _ service_count f) (all_intro _ client_count g)) (lt-ltb _ _ h)

  -- another service that stands
  pub kept_service : (d : Desk) → desk_rule groups tracks d ≡ true → (v : ℕ) (s : Service) → v < length d.services
      → service_rule groups tracks d.links s ≡ true → desk_rule groups tracks (with_service v s d) ≡ true
  unfolding with_service
  kept_service d right v s l new =
      desk_stands (with_service v s d)
      (λ w h. at_each (λ (t : Service). service_rule groups tracks d.links t ≡ true) d.services v s no_service l new w (service_there d right w h))
      (link_stands d right) (turn_there d right)

  -- another record that stands
  pub kept_client : (d : Desk) → desk_rule groups tracks d ≡ true → (who : ℕ) (c : Client) → who < length d.links
      → ((v : ℕ) → v < service_count → who < length (service_at d v).accounts) → client_rule c ≡ true → desk_rule groups tracks (with_client who c d) ≡ true
  unfolding with_client with_account
  kept_client d right who c l la new =
      desk_stands (with_client who c d) services
      (λ j h. at_each (λ (k : Link). link_rule k ≡ true) d.links who c.link no_link l (client_link c new) j (link_stands d right j h))
      (turn_there d right)
    where
      links : List Link
      links = set d.links who c.link

      fits : (v : ℕ) → v < service_count → (j : ℕ) → j < client_count → account_fits (link_at links j) (get_or (set (service_at d v).accounts who (account_with c v)) j no_account) ≡ true
      fits v h j lj =
          elim (ℕ_discrete j who) [
            | yes q ↦
                ap (λ (n : ℕ). account_fits (link_at links n) (get_or (set (service_at d v).accounts who (account_with c v)) n no_account)) q
                ∙ (λ k. account_fits (get_or-set_same d.links who c.link no_link l k) (get_or-set_same (service_at d v).accounts who (account_with c v) no_account (la v h) k))
                ∙ client_account c new v h
            | no q ↦
                (λ k. account_fits (get_or-set_other d.links who j c.link no_link q k) (get_or-set_other (service_at d v).accounts who j (account_with c v) no_account q k))
                ∙ account_stands d right v j h lj
          ]

      services : (v : ℕ) → v < service_count → service_rule groups tracks links (service_at (with_client who c d) v) ≡ true
      services v h =
          ap (service_rule groups tracks links) (listed (λ (v : ℕ). with_account who (account_with c v) (service_at d v)) service_count v no_service h)
          ∙ service_stands links (with_account who (account_with c v) (service_at d v)) (player_stands d right v h) (fits v h)

  pub start_keeps : (p q : Player) → player_rule groups tracks p ≡ true → player_rule groups tracks q ≡ true → desk_rule groups tracks (started_desk p q) ≡ true
  unfolding desk_rule started_desk services_rule service_rule accounts_fit links_rule all_below
  start_keeps p q hp hq = rw (hp, hq, start_link_stands, blank_fits)
