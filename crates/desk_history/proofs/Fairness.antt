-- What waits is handed out in time: a potential falls with each answer, and no other call raises it. For any number of clients and slots. Assumes nothing.
use mathlib.Core.Path.{◌≡◌, refl, sym, ◌∙◌}
use mathlib.Core.Bool.{Bool, true, false, true≢false}
use mathlib.Core.Logic.{⊎_elim}
use mathlib.Core.Option.{Option, none, some}
use mathlib.Core.List.{List, [], ◌∷◌}
use Prim.Native.Nat.{ℕ, zero, suc, ◌+◌, ◌*◌, ◌≤◌, ◌<◌, zero-le, suc-le-suc}
use native.Mathlib.Nat.{mul-le-mul_right, le_trans, le_of_suc-le-suc}
use native.Mathlib.Omega.{arith}
use borrow.Author.Tests.{eqb-true, eqb-false}
use lib.Arith.{lt_of_le-ne}
use lib.Dec.{eqb}
use lib.ListN.{length, take}
use Rattle.desk_slots.specs.Round.{dist}
use Rattle.desk_slots.proofs.RoundLaws.{dist_cases, dist_range, dist_inj, dist_sub}
use Rattle.desk_history.specs.Rounds.{Handout, is_for, count_for, System, prepend, answers, AllKeep, Laws}

-- all the way round
dist_self : (n a : ℕ) → a < n → dist n a a ≡ n
dist_self n a h = ⊎_elim (λ w. omega arith) (λ w. omega arith) (dist_cases n a a)

-- b comes before c, seen from a: so c is nearer from b than it was from a
dist_falls : (n a b c : ℕ) → a < n → b < n → c < n → (c ≡ b → ⊥) → dist n a b ≤ dist n a c → dist n b c < dist n a c
dist_falls n a b c ha hb hc ne le =
    let less : dist n a b < dist n a c = lt_of_le-ne le (λ q. ne (sym (dist_inj n a b c ha hb hc q))) in
    omega (arith, dist_sub n a b c ha hb hc less, dist_range n a b ha hb)

module _ (S : System) (m n : ℕ) (L : Laws S m n) (c s : ℕ) (hc : c < m) (hs : s < n) where
  -- the slot's distance, a round of clients for each step of it, and then the client's distance
  potential : S.State → ℕ
  potential st = dist n (S.slast st c) s * m + dist m (S.last st) c

  potential_pos : (st : S.State) → S.Good st → m < potential st
  unfolding potential
  potential_pos st g =
      omega (arith, (dist_range m (S.last st) c (L.last< st g) hc).0, mul-le-mul_right m (dist_range n (S.slast st c) s (L.slast< st c g hc) hs).0)

  potential_le : (st : S.State) → S.Good st → potential st ≤ m * n + m
  unfolding potential
  potential_le st g =
      omega (arith, (dist_range m (S.last st) c (L.last< st g) hc).1, mul-le-mul_right m (dist_range n (S.slast st c) s (L.slast< st c g hc) hs).1)

  same : (k : S.Call) (st : S.State) → S.Good st → S.Keeps c s k st → S.out k st ≡ none → potential (S.step k st) ≡ potential st
  unfolding potential
  same k st g kp e = rw (L.last_kept k st c s g kp e, L.slast_kept k st c s g kp e)

  falls : (k : S.Call) (st : S.State) (a : Handout) → S.Good st → S.out k st ≡ some a → is_for c s a ≡ false → 1 ≤ S.backlog st c s
      → potential (S.step k st) < potential st
  unfolding potential
  falls k st a g e other w = go (eqb c a.client) refl (eqb s a.place) refl
    where
      -- another slot of the same client
      slot : c ≡ a.client → (s ≡ a.place → ⊥) → potential (S.step k st) < potential st
      slot ec ns =
          let moved : S.slast (S.step k st) c ≡ a.place = rw ec (L.slast_served k st a g e) in
          let last : S.last (S.step k st) ≡ c = L.last_served k st a g e ∙ sym ec in
          let first : dist n (S.slast st c) a.place ≤ dist n (S.slast st c) s = rw ec (L.first_slot k st a g e s hs (rw (← ec) w)) in
          let nearer : dist n a.place s < dist n (S.slast st c) s =
          dist_falls n (S.slast st c) a.place s (L.slast< st c g hc) (L.slot< k st a g e) hs ns first in
          rw (moved, last) (omega (arith, mul-le-mul_right m nearer, dist_self m c hc, (dist_range m (S.last st) c (L.last< st g) hc).0))

      -- another client
      client : (c ≡ a.client → ⊥) → potential (S.step k st) < potential st
      client nc =
          let first : dist m (S.last st) a.client ≤ dist m (S.last st) c = L.first_client k st a g e c s hc hs w in
          rw (L.slast_other k st a g e c nc, L.last_served k st a g e)
          (omega (arith, dist_falls m (S.last st) a.client c (L.last< st g) (L.client< k st a g e) hc nc first))

      go : (t : Bool) → eqb c a.client ≡ t → (u : Bool) → eqb s a.place ≡ u → potential (S.step k st) < potential st
      go true p true q = absurd (true≢false (rw (p, q) at other))
      go true p false q = slot (eqb-true c a.client p) (eqb-false s a.place q)
      go false p u q = client (eqb-false c a.client p)

  -- from st on, with the answers l to come: of what waits now, the thing at place j, 0 the oldest, is count_for by the answer N, once N is as large as
  -- the potential
  abbrev Timely : S.State → List Handout → Type 0
  Timely st l = (j N : ℕ) → suc j ≤ S.backlog st c s → potential st + m * n * j ≤ N + m → N ≤ length l → suc j ≤ count_for c s (take N l)

  answered : (k : S.Call) (st : S.State) (a : Handout) (l : List Handout) → S.Good st → S.out k st ≡ some a
      → Timely (S.step k st) l → (t : Bool) → is_for c s a ≡ t → Timely st (a ∷ l)
  answered k st a l g e ih t p j zero w h le = omega (arith, potential_pos st g)
  answered k st a l g e ih false p j (suc N) w h le =
      rw p (ih j N (le_trans w (L.others_kept k st a c s g e p)) (omega (arith, falls k st a g e p (le_trans (suc-le-suc zero-le) w))) (le_of_suc-le-suc le))
  answered k st a l g e ih true p zero (suc N) w h le = rw p (suc-le-suc zero-le)
  answered k st a l g e ih true p (suc j) (suc N) w h le =
      rw p
      (suc-le-suc (ih j N (le_of_suc-le-suc (le_trans w (L.one_less k st a c s g e p)))
      (omega (arith, potential_pos st g, potential_le (S.step k st) (L.good k st g))) (le_of_suc-le-suc le)))

  any_call : (k : S.Call) (st : S.State) (l : List Handout) → S.Good st → S.Keeps c s k st
      → Timely (S.step k st) l → (o : Option Handout) → S.out k st ≡ o → Timely st (prepend o l)
  any_call k st l g kp ih none e = λ j N w h le. ih j N (le_trans w (L.kept k st c s g kp e)) (rw (same k st g kp e) h) le
  any_call k st l g kp ih (some a) e = answered k st a l g e ih (is_for c s a) refl

  timely : (ks : List S.Call) (st : S.State) → S.Good st → AllKeep S c s ks st → Timely st (answers S ks st)
  timely [] st g kp = λ j N w h le. omega (arith, potential_pos st g)
  timely (k ∷ ks) st g kp =
      any_call k st (answers S ks (S.step k st)) g kp.0 (timely ks (S.step k st) (L.good k st g) kp.1) (S.out k st) refl

  -- of what waits for client c at slot s, the k oldest things are count_for by the answer m * n * k
  pub in_time : (k : ℕ) (ks : List S.Call) (st : S.State) → S.Good st → AllKeep S c s ks st → k ≤ S.backlog st c s
      → m * n * k ≤ length (answers S ks st) → k ≤ count_for c s (take (m * n * k) (answers S ks st))
  in_time zero ks st g kp w le = zero-le
  in_time (suc j) ks st g kp w le = timely ks st g kp j (m * n * suc j) w (omega (arith, potential_le st g)) le
