-- Fair service of a round of clients, each with a round of slots, of any numbers: what is asked of a system, and how its answers are counted.
-- Assumes nothing.
use Rattle.std.specs.Prelude.{◌≡◌, Bool, true, false, ◌&&◌, List, [], ◌∷◌, ℕ, suc, ◌≤◌, ◌<◌, eqb}
use Rattle.std.proofs.Math.Option.{Option, none, some}
use Rattle.ground.specs.Cases.{pick}
use Rattle.desk_slots.specs.Round.{dist}

-- SCOPE 19.6: "An answered take is one that serves a slot." It has the client, the place of the service's slot, and the octets handed out.
pub record Handout : Type 0 where
  pub client : ℕ
  pub place : ℕ
  pub octets : List ℕ

abbrev pub is_for : ℕ → ℕ → Handout → Bool
is_for c s a = eqb c a.client && eqb s a.place

-- how many of these answers are for slot s of client c
abbrev pub count_for : ℕ → ℕ → List Handout → ℕ
count_for c s [] = 0
count_for c s (a ∷ l) = pick (is_for c s a) (suc (count_for c s l)) (count_for c s l)

-- one more in front, where there is one
abbrev pub prepend : {A : Type 0} → Option A → List A → List A
prepend none l = l
prepend (some a) l = a ∷ l

-- a system of calls: what a call does to the state, and what it hands out, if anything
pub record System : Type 1 where
  pub State : Type 0
  pub Call : Type 0
  pub step : Call → State → State
  pub out : Call → State → Option Handout
  -- how many things wait for client c at slot s: 0 or 1 where a value does, as many as there are where results do
  pub backlog : State → ℕ → ℕ → ℕ
  -- the client served last; of client c, the slot served last
  pub last : State → ℕ
  pub slast : State → ℕ → ℕ
  -- the call, made in this state, does not end c's interest in s
  pub Keeps : ℕ → ℕ → Call → State → Type 0
  pub Good : State → Type 0

module _ (S : System) where
  -- the answers of these calls, first call first
  abbrev pub answers : List S.Call → S.State → List Handout
  answers [] st = []
  answers (k ∷ ks) st = prepend (S.out k st) (answers ks (S.step k st))

  abbrev pub AllKeep : ℕ → ℕ → List S.Call → S.State → Type 0
  AllKeep c s [] st = Unit {0}
  AllKeep c s (k ∷ ks) st = S.Keeps c s k st × AllKeep c s ks (S.step k st)

  -- what fairness asks of a system with m clients of n slots
  pub record Laws (m n : ℕ) : Type 0 where
    pub good : (k : S.Call) (st : S.State) → S.Good st → S.Good (S.step k st)
    pub last< : (st : S.State) → S.Good st → S.last st < m
    pub slast< : (st : S.State) (c : ℕ) → S.Good st → c < m → S.slast st c < n
    -- an answer is for the first client after the one served last that anything waits for, and for the first slot after the one served last to it
    pub client< : (k : S.Call) (st : S.State) (a : Handout) → S.Good st → S.out k st ≡ some a → a.client < m
    pub slot< : (k : S.Call) (st : S.State) (a : Handout) → S.Good st → S.out k st ≡ some a → a.place < n
    pub first_client : (k : S.Call) (st : S.State) (a : Handout) → S.Good st → S.out k st ≡ some a
        → (c s : ℕ) → c < m → s < n → 1 ≤ S.backlog st c s → dist m (S.last st) a.client ≤ dist m (S.last st) c
    pub first_slot : (k : S.Call) (st : S.State) (a : Handout) → S.Good st → S.out k st ≡ some a
        → (s : ℕ) → s < n → 1 ≤ S.backlog st a.client s → dist n (S.slast st a.client) a.place ≤ dist n (S.slast st a.client) s
    -- the marks move to what was handed out, and to nothing else
    pub last_served : (k : S.Call) (st : S.State) (a : Handout) → S.Good st → S.out k st ≡ some a → S.last (S.step k st) ≡ a.client
    pub slast_served : (k : S.Call) (st : S.State) (a : Handout) → S.Good st → S.out k st ≡ some a → S.slast (S.step k st) a.client ≡ a.place
    pub slast_other : (k : S.Call) (st : S.State) (a : Handout) → S.Good st → S.out k st ≡ some a
        → (c : ℕ) → (c ≡ a.client → ⊥) → S.slast (S.step k st) c ≡ S.slast st c
    pub last_kept : (k : S.Call) (st : S.State) (c s : ℕ) → S.Good st → S.Keeps c s k st → S.out k st ≡ none → S.last (S.step k st) ≡ S.last st
    pub slast_kept : (k : S.Call) (st : S.State) (c s : ℕ) → S.Good st → S.Keeps c s k st → S.out k st ≡ none
        → S.slast (S.step k st) c ≡ S.slast st c
    -- an answer takes one thing from where it was handed out; nothing else that waits is lost while the interest in it is kept
    pub one_less : (k : S.Call) (st : S.State) (a : Handout) (c s : ℕ) → S.Good st → S.out k st ≡ some a → is_for c s a ≡ true
        → S.backlog st c s ≤ suc (S.backlog (S.step k st) c s)
    pub others_kept : (k : S.Call) (st : S.State) (a : Handout) (c s : ℕ) → S.Good st → S.out k st ≡ some a → is_for c s a ≡ false
        → S.backlog st c s ≤ S.backlog (S.step k st) c s
    pub kept : (k : S.Call) (st : S.State) (c s : ℕ) → S.Good st → S.Keeps c s k st → S.out k st ≡ none
        → S.backlog st c s ≤ S.backlog (S.step k st) c s
