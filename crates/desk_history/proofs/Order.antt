-- Of each service results come at most once each, in the order of the client's own writes to it. Assumes nothing.
use mathlib.Core.Path.{◌≡◌, refl, sym, ap, ◌∙◌, subst}
use mathlib.Core.Bool.{Bool, true, false, ◌&&◌}
use mathlib.Core.Logic.{◌⊎◌, inl, inr}
use mathlib.Core.Option.{Option, none, some}
use mathlib.Core.List.{List, [], ◌∷◌, ◌++◌, append-nil, append_assoc}
use Prim.Native.Nat.{ℕ, zero, suc, ◌≤◌, ◌<◌, zero-le}
use native.Mathlib.Nat.{le_refl, le_of_suc-le-suc, not-suc-le-zero}
use native.Mathlib.Omega.{arith}
use borrow.Author.Tests.{eq-eqb, ne_eqb}
use lib.Dec.{eqb}
use lib.ListN.{length, take as firsts, drop, take-append-drop}
use Rattle.ground.specs.Cases.{pick}
use Rattle.ground.proofs.Cases.{past, here}
use Rattle.catalogue_titles.specs.Lent.{Lent, lent_rule}
use Rattle.player_check.specs.Standing.{text_rule}
use Rattle.desk_slots.specs.Slots.{client_count, place_of}
use Rattle.desk_client.specs.Client.{control_slot}
use Rattle.desk_console.specs.Console.{Beginning}
use Rattle.desk_take.specs.Serving.{result_octets}
use Rattle.desk_history.specs.Calls.{Call, set_name, activate, deactivate, advance, connect, disconnect, subscribe, unsubscribe, read, write, take}
use Rattle.desk_history.specs.Ledger.{Ledger, may_write, result_of}
use Rattle.desk_history.specs.Rounds.{Handout, is_for, count_for, prepend}
use Rattle.desk_history.specs.History.{handed_out, result_by, ledger_at, desk_at, onward, given, Stays, result_at, written_in, handouts_to, shown, Handed, handed_by, all_handed, OwnWrites}
use Rattle.desk_history.proofs.Results.{Turn, adds, drops, hands, turn}
use Rattle.desk_history.proofs.Agree.{hands_at, in_range, mtu_at}

-- ---- lists of results
abbrev Lists : Type 0
Lists = List (List ℕ)

front_of_lem : (j : ℕ) (x y : Lists) → j ≤ length x → firsts j (x ++ y) ≡ firsts j x
front_of_lem zero x y h = refl
front_of_lem (suc j) [] y h = absurd (not-suc-le-zero h)
front_of_lem (suc j) (a ∷ x) y h = ap (λ (r : Lists). a ∷ r) (front_of_lem j x y (le_of_suc-le-suc h))

module _ (c v s : ℕ) where
  handed_append : (x y : List Handout) → handouts_to c v s (x ++ y) ≡ handouts_to c v s x ++ handouts_to c v s y
  handed_append [] y = refl
  handed_append (a ∷ x) y = go (is_for c (place_of v s) a) (handed_append x y)
    where
      go : (t : Bool) → handouts_to c v s (x ++ y) ≡ handouts_to c v s x ++ handouts_to c v s y
          → pick t (a.octets ∷ handouts_to c v s (x ++ y)) (handouts_to c v s (x ++ y)) ≡ pick t (a.octets ∷ handouts_to c v s x) (handouts_to c v s x) ++ handouts_to c v s y
      go true e = ap (λ (r : Lists). a.octets ∷ r) e
      go false e = e

  handed_prepend : (o : Option Handout) (l : List Handout) → handouts_to c v s (prepend o l) ≡ handouts_to c v s (prepend o []) ++ handouts_to c v s l
  handed_prepend none l = refl
  handed_prepend (some a) l = handed_append (a ∷ []) l

  pub handed_served : (l : List Handout) → length (handouts_to c v s l) ≡ count_for c (place_of v s) l
  handed_served [] = refl
  handed_served (a ∷ l) = go (is_for c (place_of v s) a) (handed_served l)
    where
      go : (t : Bool) → length (handouts_to c v s l) ≡ count_for c (place_of v s) l → length (pick t (a.octets ∷ handouts_to c v s l) (handouts_to c v s l)) ≡ pick t (suc (count_for c (place_of v s) l)) (count_for c (place_of v s) l)
      go true e = ap suc e
      go false e = e

-- ---- over a history
module _ (k : Lent) (right : lent_rule k ≡ true) (gen nam : Beginning) (gt : text_rule gen.name ≡ true) (nt : text_rule nam.name ≡ true) (who v : ℕ) (there : who < client_count) where
  abbrev L : List Call → Ledger
  L h = ledger_at k gen nam h

  abbrev waits : List Call → Lists
  waits h = shown (((L h).service v).account who).waiting

  abbrev out : Call → List Call → Lists
  out c h = handouts_to who v control_slot (prepend (handed_out k c (desk_at k gen nam h)) [])

  a_turn : (c : Call) (h : List Call) → Turn ((((L (c ∷ h)).service v).account who).wants control_slot) (waits h) (result_by k who v c (L h)) (out c h) (waits (c ∷ h))
  a_turn c h =
      subst (λ (o : Option Handout). Turn ((((L (c ∷ h)).service v).account who).wants control_slot) (waits h) (result_by k who v c (L h)) (handouts_to who v control_slot (prepend o [])) (waits (c ∷ h)))
      (sym (hands_at k right gen nam gt nt c h)) (turn k who v c (L h) (in_range k right gen nam gt nt h) (mtu_at k right gen nam gt nt h who there))

  -- one call, while subscribed: what waited, with the call's own result, is what it hands out and what then waits
  in_turn : (c : Call) (h : List Call) → (((L (c ∷ h)).service v).account who).wants control_slot ≡ true → waits h ++ result_by k who v c (L h) ≡ out c h ++ waits (c ∷ h)
  in_turn c h later = go (a_turn c h)
    where
      go : Turn ((((L (c ∷ h)).service v).account who).wants control_slot) (waits h) (result_by k who v c (L h)) (out c h) (waits (c ∷ h)) → waits h ++ result_by k who v c (L h) ≡ out c h ++ waits (c ∷ h)
      go (adds e f) = sym ((λ i. e i ++ waits (c ∷ h)) ∙ f)
      go (drops e f g n) = absurd (n later)
      go (hands e f) = (λ i. waits h ++ e i) ∙ append-nil (waits h) ∙ f

  still : (h ks : List Call) → Stays k gen nam who v control_slot h ks → (((L h).service v).account who).wants control_slot ≡ true
  still h [] st = st
  still h (c ∷ ks) st = st.0

  pub in_order_lem : (h ks : List Call) → Stays k gen nam who v control_slot h ks
      → waits h ++ written_in k gen nam who v h ks ≡ handouts_to who v control_slot (given k gen nam h ks) ++ waits (onward k gen nam h ks)
  in_order_lem h [] st = append-nil (waits h)
  in_order_lem h (c ∷ ks) st =
      let r = result_by k who v c (L h) in
      let ws = written_in k gen nam who v (c ∷ h) ks in
      let gs = handouts_to who v control_slot (given k gen nam (c ∷ h) ks) in
      let end = waits (onward k gen nam (c ∷ h) ks) in
      sym (append_assoc (waits h) r ws)
      ∙ ap (λ (l : Lists). l ++ ws) (in_turn c h (still (c ∷ h) ks st.1))
      ∙ append_assoc (out c h) (waits (c ∷ h)) ws
      ∙ ap (λ (l : Lists). out c h ++ l) (in_order_lem (c ∷ h) ks st.1)
      ∙ sym (append_assoc (out c h) gs end)
      ∙ ap (λ (l : Lists). l ++ end) (sym (handed_prepend who v control_slot (handed_out k c (desk_at k gen nam h)) (given k gen nam (c ∷ h) ks)))

  -- the first j that are handed out are the j oldest that wait, once there are so many among the first N answers
  pub oldest_first : (h ks : List Call) → Stays k gen nam who v control_slot h ks → (j N : ℕ) → j ≤ length (waits h)
      → j ≤ count_for who (place_of v control_slot) (firsts N (given k gen nam h ks))
      → firsts j (handouts_to who v control_slot (firsts N (given k gen nam h ks))) ≡ firsts j (waits h)
  oldest_first h ks st j N w enough =
      let G = given k gen nam h ks in
      let end = waits (onward k gen nam h ks) in
      let front = handouts_to who v control_slot (firsts N G) in
      let rest = handouts_to who v control_slot (drop N G) in
      sym (front_of_lem j front (rest ++ end) (subst (λ (n : ℕ). j ≤ n) (sym (handed_served who v control_slot (firsts N G))) enough))
      ∙ ap (firsts j) (sym (append_assoc front rest end))
      ∙ ap (λ (l : Lists). firsts j (l ++ end)) (sym (ap (handouts_to who v control_slot) (sym (take-append-drop N G)) ∙ handed_append who v control_slot (firsts N G) (drop N G)))
      ∙ ap (firsts j) (sym (in_order_lem h ks st))
      ∙ front_of_lem j (waits h) (written_in k gen nam who v h ks) w

  -- ---- places of writes
  abbrev Own : List Call → ℕ → List ℕ → List Handed → Type 0
  Own h n ps l = OwnWrites k gen nam who v h n ps l

  -- no place is at or behind n
  abbrev Below : ℕ → List Handed → Type 0
  Below n [] = Unit {0}
  Below n (a ∷ l) = (a.place ≤ n) × Below n l

  below_both : (n : ℕ) (x y : List Handed) → Below n x → Below n y → Below n (x ++ y)
  below_both n [] y b d = d
  below_both n (a ∷ x) y b d = (b.0, below_both n x y b.1 d)

  below_by : (n m : ℕ) (l : Lists) → m ≤ n → Below n (handed_by m l)
  below_by n m [] h = tt
  below_by n m (o ∷ l) h = (h, below_by n m l h)

  below_more : (n : ℕ) (l : List Handed) → Below n l → Below (suc n) l
  below_more n [] b = tt
  below_more n (a ∷ l) b = (omega (arith, b.0), below_more n l b.1)

  -- one call more, and the writes before it are where they were
  still_own : (c : Call) (h : List Call) (n : ℕ) (ps : List ℕ) (l : List Handed) → Below (length h) l → Own h n ps l → Own (c ∷ h) n ps l
  still_own c h n [] [] b o = tt
  still_own c h n [] (a ∷ l) b o = o
  still_own c h n (p ∷ ps) [] b o = o
  still_own c h n (p ∷ ps) (a ∷ l) b o = (
    o.0,
    o.1,
    sym (past _ (ne_eqb p (length h) (λ e. let z : ⊥ = omega (arith, o.1, b.0) in z)) refl) ∙ o.2,
    still_own c h (suc p) ps l b.1 o.3,
  )

  -- what waits may be handed out by a later call
  later_own : (h : List Call) (m n : ℕ) (ps : List ℕ) (x : List Handed) (l : Lists) (y : List Handed)
      → Own h n ps (x ++ (handed_by m l ++ y)) → Own h n ps (x ++ (handed_by (suc m) l ++ y))
  later_own h m n ps [] [] y o = o
  later_own h m n [] [] (a ∷ l) y o = o
  later_own h m n (p ∷ ps) [] (a ∷ l) y o = (o.0, omega (arith, o.1), o.2, later_own h m (suc p) ps [] l y o.3)
  later_own h m n [] (a ∷ x) l y o = o
  later_own h m n (p ∷ ps) (a ∷ x) l y o = (o.0, o.1, o.2, later_own h m (suc p) ps x l y o.3)

  -- the front has its own places
  front_own : (h : List Call) (n : ℕ) (ps : List ℕ) (x y : List Handed) → Own h n ps (x ++ y) → (qs : List ℕ) × Own h n qs x
  front_own h n ps [] y o = ([], tt)
  front_own h n [] (a ∷ x) y o = absurd o
  front_own h n (p ∷ ps) (a ∷ x) y o = let f = front_own h (suc p) ps x y o.3 in (p ∷ f.0, (o.0, o.1, o.2, f.1))

  -- one write more, behind all others
  one_more : (h : List Call) (m n : ℕ) (ps : List ℕ) (l : List Handed) (o : List ℕ) → n ≤ m → Below m l → result_at k gen nam who v h m ≡ o ∷ []
      → Own h n ps l → (qs : List ℕ) × Own h n qs (l ++ handed_by (suc m) (o ∷ []))
  one_more h m n [] [] o b d e own = (m ∷ [], (b, omega arith, e, tt))
  one_more h m n (p ∷ ps) [] o b d e own = absurd own
  one_more h m n [] (a ∷ l) o b d e own = absurd own
  one_more h m n (p ∷ ps) (a ∷ l) o b d e own =
      let f = one_more h m (suc p) ps l o (omega (arith, own.1, d.0)) d.1 e own.3 in
      (p ∷ f.0, (own.0, own.1, own.2, f.1))

  -- what was handed out, and then what waits, as if the next call handed it out
  abbrev all : List Call → List Handed
  all h = all_handed k gen nam who v h

  abbrev Stands : List Call → Type 0
  Stands h = (ps : List ℕ) × Own h 0 ps (all h ++ handed_by (length h) (waits h))

  all_below_lem : (h : List Call) → Below (length h) (all h)
  all_below_lem [] = tt
  all_below_lem (c ∷ h) =
      below_both (suc (length h)) (all h) (handed_by (length h) (out c h)) (below_more (length h) (all h) (all_below_lem h)) (below_by (suc (length h)) (length h) (out c h) (omega arith))

  one_or_none : (c : Call) (h : List Call) → (result_by k who v c (L h) ≡ []) ⊎ ((o : List ℕ) × (result_by k who v c (L h) ≡ o ∷ []))
  one_or_none (set_name w n) h = inl refl
  one_or_none (activate w g) h = inl refl
  one_or_none (deactivate w) h = inl refl
  one_or_none (advance w n) h = inl refl
  one_or_none (connect w mtu e) h = inl refl
  one_or_none (disconnect w) h = inl refl
  one_or_none (subscribe c w x) h = inl refl
  one_or_none (unsubscribe c w x) h = inl refl
  one_or_none (read c w x offset room) h = inl refl
  one_or_none (write c w x value) h = go (may_write k (L h) c w x value) (eqb who c && (eqb v w && (eqb x 18 && (((L h).service v).account who).wants control_slot)))
    where
      R : Bool → Bool → Lists
      R t u = pick t (pick u (result_octets (result_of k ((L h).service v) value) ∷ []) []) []

      go : (t u : Bool) → (R t u ≡ []) ⊎ ((o : List ℕ) × (R t u ≡ o ∷ []))
      go true true = inr (result_octets (result_of k ((L h).service v) value), refl)
      go true false = inl refl
      go false u = inl refl
  one_or_none (take room) h = inl refl

  handed_both : (m : ℕ) (x y : Lists) → handed_by m (x ++ y) ≡ handed_by m x ++ handed_by m y
  handed_both m [] y = refl
  handed_both m (o ∷ x) y = ap (λ (l : List Handed). record { place = m; octets = o } ∷ l) (handed_both m x y)

  -- one call more: it adds a result of its own to what waits, drops what waits, or hands some of it out
  module _ (c : Call) (h : List Call) (was : Stands h) where
    abbrev N : ℕ
    N = length h

    abbrev X : List Handed
    X = all h

    abbrev W : Lists
    W = waits h

    abbrev Among : List Handed → Type 0
    Among l = (ps : List ℕ) × Own (c ∷ h) 0 ps l

    through : {x y : List Handed} → x ≡ y → Among x → Among y
    through e o = subst Among e o

    later : (x : List Handed) (l : Lists) (y : List Handed) → Among (x ++ (handed_by N l ++ y)) → Among (x ++ (handed_by (suc N) l ++ y))
    later x l y o = (o.0, later_own (c ∷ h) N 0 o.0 x l y o.1)

    so_far_below : Below N (X ++ handed_by N W)
    so_far_below = below_both N X (handed_by N W) (all_below_lem h) (below_by N N W (le_refl N))

    so_far : Among (X ++ handed_by N W)
    so_far = (was.0, still_own c h 0 was.0 (X ++ handed_by N W) so_far_below was.1)

    -- nothing was handed out
    unhanded : out c h ≡ [] → (T : Lists) → waits (c ∷ h) ≡ T → X ++ handed_by (suc N) T ≡ all (c ∷ h) ++ handed_by (suc N) (waits (c ∷ h))
    unhanded e T f = λ i. (sym (append-nil X) ∙ (λ j. X ++ handed_by N (sym e j))) i ++ handed_by (suc N) (sym f i)

    with_result_lem : (R : Lists) → result_by k who v c (L h) ≡ R → (R ≡ []) ⊎ ((o : List ℕ) × (R ≡ o ∷ [])) → Among (X ++ handed_by (suc N) (W ++ R))
    with_result_lem R e (inl r) =
        through ((λ i. X ++ sym (handed_both (suc N) W []) i) ∙ (λ i. X ++ handed_by (suc N) (W ++ sym r i)))
        (later X W [] (through (λ i. X ++ sym (append-nil (handed_by N W)) i) so_far))
    with_result_lem R e (inr (o, r)) =
        let written = sym (here _ (eq-eqb N N refl) refl) ∙ e ∙ r in
        let one = one_more (c ∷ h) N 0 so_far.0 (X ++ handed_by N W) o zero-le so_far_below written so_far.1 in
        through ((λ i. X ++ sym (handed_both (suc N) W (o ∷ [])) i) ∙ (λ i. X ++ handed_by (suc N) (W ++ sym r i)))
        (later X W (handed_by (suc N) (o ∷ [])) (through (append_assoc X (handed_by N W) (handed_by (suc N) (o ∷ []))) one))

    goes_on_lem : Turn ((((L (c ∷ h)).service v).account who).wants control_slot) (waits h) (result_by k who v c (L h)) (out c h) (waits (c ∷ h)) → Stands (c ∷ h)
    goes_on_lem (adds e f) = through (unhanded e (W ++ result_by k who v c (L h)) f) (with_result_lem (result_by k who v c (L h)) refl (one_or_none c h))
    goes_on_lem (drops e r f n) =
        let q = front_own (c ∷ h) 0 so_far.0 X (handed_by N W) so_far.1 in
        through (unhanded e [] f) (through (sym (append-nil X)) q)
    goes_on_lem (hands r f) =
        let T = waits (c ∷ h) in
        let x = X ++ handed_by N (out c h) in
        through (λ i. x ++ append-nil (handed_by (suc N) T) i)
        (later x T []
        (through
        ((λ i. X ++ handed_by N (f i)) ∙ (λ i. X ++ handed_both N (out c h) T i) ∙ sym (append_assoc X (handed_by N (out c h)) (handed_by N T))
        ∙ (λ i. x ++ sym (append-nil (handed_by N T)) i))
        so_far))

  stands : (h : List Call) → Stands h
  stands [] = ([], tt)
  stands (c ∷ h) = goes_on_lem c h (stands h) (a_turn c h)

  -- "Results come at most once each, in the order of that client's own writes."
  pub own_writes : (h : List Call) → (ps : List ℕ) × OwnWrites k gen nam who v h 0 ps (all_handed k gen nam who v h)
  own_writes h = let s = stands h in front_own h 0 s.0 (all h) (handed_by (length h) (waits h)) s.1
