-- Laws of the rows of refusals (SCOPE 20.2): rows that are asked first, and what stands behind them. Assumes nothing.
use mathlib.Core.Path.{◌≡◌, refl, sym, ap, ◌∙◌}
use mathlib.Core.Bool.{Bool, true, false, ◌&&◌, not}
use mathlib.Core.List.{List, [], ◌∷◌, ◌++◌}
use Prim.Native.Nat.{ℕ}
use borrow.Author.Tests.{eqb-true, not-true}
use lib.Dec.{eqb}
use Rattle.ground.specs.Cases.{pick}
use Rattle.ground.specs.Refusals.{Said, granted, refused_with, Row, answered, accepted, said_through, said_by, Left, keeping, table, in_order}
use Rattle.ground.proofs.Cases.{past, clash, and_left, and_right, and_both}

-- no row applies
abbrev pub NoneApplies : List Row → Type 0
NoneApplies [] = Unit
NoneApplies (r ∷ rows) = (r.applies ≡ false) × NoneApplies rows

-- what the first row that applies says, or else the work
pub by_accepted : {A : Type 0} (refuse : Said → A) (rows : List Row) (work : A) → answered refuse rows work ≡ pick (accepted rows) work (refuse (said_by rows))
by_accepted refuse [] work = refl
by_accepted {A} refuse (r ∷ rows) work = at r.applies (by_accepted refuse rows work)
  where
    at : (t : Bool) → answered refuse rows work ≡ pick (accepted rows) work (refuse (said_by rows))
        → pick t (refuse (refused_with r.number r.values)) (answered refuse rows work)
        ≡ pick (not t && accepted rows) work (refuse (pick t (refused_with r.number r.values) (said_by rows)))
    at true ih = refl
    at false ih = ih

-- whether rows accept is seen from what they say
pub accepted_said : (rows : List Row) → (said_by rows).is_granted ≡ accepted rows
accepted_said [] = refl
accepted_said (r ∷ rows) = at r.applies (accepted_said rows)
  where
    at : (t : Bool) → (said_by rows).is_granted ≡ accepted rows → (pick t (refused_with r.number r.values) (said_by rows)).is_granted ≡ (not t && accepted rows)
    at true ih = refl
    at false ih = ih

-- rows one behind the other are asked one behind the other
pub in_turn : {A : Type 0} (refuse : Said → A) (rows behind : List Row) (work : A)
    → answered refuse (rows ++ behind) work ≡ answered refuse rows (answered refuse behind work)
in_turn refuse [] behind work = refl
in_turn refuse (r ∷ rows) behind work = ap (pick r.applies (refuse (refused_with r.number r.values))) (in_turn refuse rows behind work)

pub both_accept : (rows behind : List Row) → accepted (rows ++ behind) ≡ (accepted rows && accepted behind)
both_accept [] behind = refl
both_accept (r ∷ rows) behind = at (not r.applies) (both_accept rows behind)
  where
    at : (t : Bool) → accepted (rows ++ behind) ≡ (accepted rows && accepted behind) → (t && accepted (rows ++ behind)) ≡ ((t && accepted rows) && accepted behind)
    at true ih = ih
    at false ih = refl

-- a row applies: its refusal is the answer, whatever stands behind
pub shut : {A : Type 0} (refuse : Said → A) (rows : List Row) (rest : A) → (said_by rows).is_granted ≡ false → refuse (said_by rows) ≡ answered refuse rows rest
shut refuse [] rest e = clash (sym e)
shut {A} refuse (r ∷ rows) rest e = at r.applies e (shut refuse rows rest)
  where
    at : (t : Bool) → (pick t (refused_with r.number r.values) (said_by rows)).is_granted ≡ false
        → ((said_by rows).is_granted ≡ false → refuse (said_by rows) ≡ answered refuse rows rest)
        → refuse (pick t (refused_with r.number r.values) (said_by rows)) ≡ pick t (refuse (refused_with r.number r.values)) (answered refuse rows rest)
    at true h ih = refl
    at false h ih = ih h

-- no refusal was said, so no row applies
pub kept : (rows : List Row) (work : Said) → (said_through rows work).is_granted ≡ true → NoneApplies rows
kept [] work e = tt
kept (r ∷ rows) work e = at r.applies refl e (kept rows work)
  where
    at : (t : Bool) → r.applies ≡ t → (pick t (refused_with r.number r.values) (said_through rows work)).is_granted ≡ true
        → ((said_through rows work).is_granted ≡ true → NoneApplies rows) → NoneApplies (r ∷ rows)
    at true q h ih = clash h
    at false q h ih = (q, ih h)

-- where no row applies, the answer is what stands behind the rows
pub through : {A : Type 0} (refuse : Said → A) (rows : List Row) {left rest : A} → NoneApplies rows → left ≡ rest → left ≡ answered refuse rows rest
through refuse [] none h = h
through refuse (r ∷ rows) none h = past _ none.0 (through refuse rows none.1 h)

-- rows behind one that applies are not asked
pub more : (rows behind : List Row) → (said_by rows).is_granted ≡ false → said_by rows ≡ said_by (rows ++ behind)
more [] behind e = clash (sym e)
more (r ∷ rows) behind e = at r.applies e (more rows behind)
  where
    at : (t : Bool) → (pick t (refused_with r.number r.values) (said_by rows)).is_granted ≡ false → ((said_by rows).is_granted ≡ false → said_by rows ≡ said_by (rows ++ behind))
        → pick t (refused_with r.number r.values) (said_by rows) ≡ pick t (refused_with r.number r.values) (said_by (rows ++ behind))
    at true h ih = refl
    at false h ih = ih h

-- where all rows carry the same, what they say carries it
abbrev AllCarry : List ℕ → List Row → Type 0
AllCarry values [] = Unit
AllCarry values (r ∷ rows) = (r.values ≡ values) × AllCarry values rows

pub all_carry : (values : List ℕ) (rows : List Row) → AllCarry values rows → (said_by rows).is_granted ≡ false → (said_by rows).values ≡ values
all_carry values [] same e = clash (sym e)
all_carry values (r ∷ rows) same e = at r.applies e (all_carry values rows same.1)
  where
    at : (t : Bool) → (pick t (refused_with r.number r.values) (said_by rows)).is_granted ≡ false → ((said_by rows).is_granted ≡ false → (said_by rows).values ≡ values)
        → (pick t (refused_with r.number r.values) (said_by rows)).values ≡ values
    at true h ih = same.0
    at false h ih = ih h

-- what the rows behind say, where none of the first applies
pub beyond : (rows behind : List Row) {said : Said} → NoneApplies rows → said ≡ said_by behind → said ≡ said_by (rows ++ behind)
beyond [] behind none e = e
beyond (r ∷ rows) behind none e = past _ none.0 (beyond rows behind none.1 e)

-- rows of which none applies refuse nothing
pub all_of : (rows : List Row) → NoneApplies rows → granted [] ≡ said_by rows
all_of rows none = through (λ said. said) rows none refl

-- no row of two lists applies exactly where none of the first applies and none of the second
pub both : (rows behind : List Row) → NoneApplies rows → NoneApplies behind → NoneApplies (rows ++ behind)
both [] behind p q = q
both (r ∷ rows) behind p q = (p.0, both rows behind p.1 q)

pub parted : (rows behind : List Row) → NoneApplies (rows ++ behind) → NoneApplies rows × NoneApplies behind
parted [] behind n = (tt, n)
parted (r ∷ rows) behind n = let p = parted rows behind n.1 in ((n.0, p.0), p.1)

-- rows that accept are rows of which none applies
pub none_of : (rows : List Row) → accepted rows ≡ true → NoneApplies rows
none_of rows e = kept rows (granted []) (accepted_said rows ∙ e)

pub of_none : (rows : List Row) → NoneApplies rows → accepted rows ≡ true
of_none [] n = refl
of_none (r ∷ rows) n = and_both (ap not n.0) (of_none rows n.1)

-- the state that a call leaves, and what it says, by whether its rows accept
pub state_of : {S : Type 0} (s : S) (rows : List Row) (work : Left S) → (answered (keeping s) rows work).state ≡ pick (accepted rows) work.state s
state_of {S} s rows work = ap (λ (l : Left S). l.state) (by_accepted (keeping s) rows work) ∙ at (accepted rows)
  where
    at : (t : Bool) → (pick t work (keeping s (said_by rows))).state ≡ pick t work.state s
    at true = refl
    at false = refl

pub said_of_lem : {S : Type 0} (s : S) (rows : List Row) (work : Left S) → (answered (keeping s) rows work).said ≡ pick (accepted rows) work.said (said_by rows)
said_of_lem {S} s rows work = ap (λ (l : Left S). l.said) (by_accepted (keeping s) rows work) ∙ at (accepted rows)
  where
    at : (t : Bool) → (pick t work (keeping s (said_by rows))).said ≡ pick t work.said (said_by rows)
    at true = refl
    at false = refl

-- a call whose work says 0 has the number that its rows say
pub number_of_lem : {S : Type 0} (s : S) (rows : List Row) (work : Left S) → work.said.number ≡ 0 → (answered (keeping s) rows work).said.number ≡ (said_by rows).number
number_of_lem s rows work zero = ap (λ (said : Said). said.number) (said_of_lem s rows work) ∙ at (accepted rows) refl
  where
    at : (t : Bool) → accepted rows ≡ t → (pick t work.said (said_by rows)).number ≡ (said_by rows).number
    at true e = zero ∙ ap (λ (said : Said). said.number) (all_of rows (none_of rows e))
    at false e = refl

-- no refusal has the number 0, so that rows of the table say 0 exactly where they accept
abbrev none_is_zero : List ℕ → Bool
none_is_zero [] = true
none_is_zero (n ∷ numbers) = not (eqb n 0) && none_is_zero numbers

zero_accepted : (numbers : List ℕ) (rows : List Row) → none_is_zero numbers ≡ true → in_order numbers rows ≡ true → eqb (said_by rows).number 0 ≡ accepted rows
zero_accepted numbers [] nonzero ordered = refl
zero_accepted [] (r ∷ rows) nonzero ordered = clash ordered
zero_accepted (n ∷ numbers) (r ∷ rows) nonzero ordered =
    at (eqb n r.number) refl ordered (zero_accepted numbers rows others) (zero_accepted numbers (r ∷ rows) others)
  where
    others : none_is_zero numbers ≡ true
    others = and_right (not (eqb n 0)) (none_is_zero numbers) nonzero

    first : (t : Bool) → eqb r.number 0 ≡ false → eqb (said_by rows).number 0 ≡ accepted rows
        → eqb (pick t (refused_with r.number r.values) (said_by rows)).number 0 ≡ (not t && accepted rows)
    first true e ih = e
    first false e ih = ih

    at : (t : Bool) → eqb n r.number ≡ t → pick t (in_order numbers rows) (in_order numbers (r ∷ rows)) ≡ true
        → (in_order numbers rows ≡ true → eqb (said_by rows).number 0 ≡ accepted rows)
        → (in_order numbers (r ∷ rows) ≡ true → eqb (said_by (r ∷ rows)).number 0 ≡ accepted (r ∷ rows))
        → eqb (said_by (r ∷ rows)).number 0 ≡ accepted (r ∷ rows)
    at true e h behind same =
        first r.applies
        (ap (λ (m : ℕ). eqb m 0) (sym (eqb-true n r.number e)) ∙ not-true (eqb n 0) (and_left (not (eqb n 0)) (none_is_zero numbers) nonzero)) (behind h)
    at false e h behind same = same h

pub zero_accepts : (rows : List Row) → in_order table rows ≡ true → eqb (said_by rows).number 0 ≡ accepted rows
zero_accepts rows ordered = zero_accepted table rows refl ordered
