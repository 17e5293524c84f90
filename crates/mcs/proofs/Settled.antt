-- The contracts of the calls settle their outcomes: two numbers, and two contents of everything that is lent for writing, that meet one contract at the same
-- arguments are the same. Assumes nothing.
use mathlib.Core.Path.{◌≡◌, sym, ◌∙◌}
use mathlib.Core.List.{List}
use Prim.Native.Nat.{ℕ}
use contract.Lifetimes.{Lfts}
use denote.Bor.{Bor}
use denote.Ref.{MutBor, at_last}
use Rattle.mcs.proofs.Leaving.{ends_settled}
use Rattle.mcs.proofs.mcs_card_load.Reads as card-load
use Rattle.mcs.proofs.mcs_card_write.Reads as card-write
use Rattle.mcs.proofs.mcs_cue_sheet.Reads as cue-sheet
use Rattle.mcs.proofs.mcs_group_object_write.Reads as group_object_lem
use Rattle.mcs.proofs.mcs_segments_object_write.Reads as segments_object_lem
use Rattle.mcs.proofs.mcs_group_object_read.Reads as group-entries
use Rattle.mcs.proofs.mcs_segments_object_read.Reads as segment-entries
use Rattle.mcs.proofs.mcs_start.Reads as start
use Rattle.mcs.proofs.mcs_set_name.Reads as set-name
use Rattle.mcs.proofs.mcs_activate.Reads as activate
use Rattle.mcs.proofs.mcs_deactivate.Reads as deactivate
use Rattle.mcs.proofs.mcs_advance.Reads as advance
use Rattle.mcs.proofs.mcs_connect.Reads as connect
use Rattle.mcs.proofs.mcs_disconnect.Reads as disconnect
use Rattle.mcs.proofs.mcs_subscribe.Reads as subscribe
use Rattle.mcs.proofs.mcs_unsubscribe.Reads as unsubscribe
use Rattle.mcs.proofs.mcs_read.Reads as read
use Rattle.mcs.proofs.mcs_write.Reads as write
use Rattle.mcs.proofs.mcs_take.Reads as take
use Rattle.mcs.proofs.mcs_title.Reads as title
use Rattle.mcs.proofs.mcs_manual_goto.Reads as manual-goto

-- no two numbers, no two states, and no two words for where a text is wrong
abbrev Settles : (ℕ → List ℕ → List ℕ → List ℕ → Type 0) → Type 0
Settles Met =
    (n₁ n₂ : ℕ) (new₁ new₂ t₁ t₂ o₁ o₂ : List ℕ) → Met n₁ new₁ t₁ o₁ → Met n₂ new₂ t₂ o₂ → ((n₁ ≡ n₂) × (new₁ ≡ new₂)) × (t₁ ≡ t₂) × (o₁ ≡ o₂)

-- a number, and four contents
five : {n n₁ n₂ : ℕ} {a a₁ a₂ b b₁ b₂ c c₁ c₂ d d₁ d₂ : List ℕ} → (n₁ ≡ n) × ((a₁ ≡ a) × ((b₁ ≡ b) × ((c₁ ≡ c) × (d₁ ≡ d))))
    → (n₂ ≡ n) × ((a₂ ≡ a) × ((b₂ ≡ b) × ((c₂ ≡ c) × (d₂ ≡ d)))) → (n₁ ≡ n₂) × (a₁ ≡ a₂) × (b₁ ≡ b₂) × (c₁ ≡ c₂) × (d₁ ≡ d₂)
five p q = (
  p.0 ∙ sym q.0,
  p.1.0 ∙ sym q.1.0,
  p.1.1.0 ∙ sym q.1.1.0,
  p.1.1.1.0 ∙ sym q.1.1.1.0,
  p.1.1.1.1 ∙ sym q.1.1.1.1,
)

module _ (groups tracks segments text renames office : Bor (List ℕ)) (state track octet : MutBor (List ℕ)) where
  -- the catalogue and the titles before the other arguments, and the words for where a text is wrong behind them
  abbrev lent : {A : Type 0} → A → Bor (List ℕ) × (Bor (List ℕ) × (Bor (List ℕ) × (Bor (List ℕ) × (Bor (List ℕ) × (Bor (List ℕ) × A)))))
  lent rest = (groups, (tracks, (segments, (text, (renames, (office, rest))))))

  abbrev words : MutBor (List ℕ) × (MutBor (List ℕ) × Unit {0})
  words = (track, (octet, tt))

  abbrev told : List ℕ → List ℕ → MutBor (List ℕ) × (MutBor (List ℕ) × Unit {0})
  told t o = (at_last track t, (at_last octet o, tt))

  -- one lifetime for both texts, where a title may be handed out
  module _ (κs : Lfts 8) where
    pub activate_settled : (service group : ℕ) → Settles (λ n new t o. activate.Post κs (lent (state, (service, (group, words)))) n (lent (at_last state new, (service, (group, told t o)))))
    activate_settled service group n₁ n₂ new₁ new₂ t₁ t₂ o₁ o₂ = ends_settled

    pub deactivate_settled : (service : ℕ) → Settles (λ n new t o. deactivate.Post κs (lent (state, (service, words))) n (lent (at_last state new, (service, told t o))))
    deactivate_settled service n₁ n₂ new₁ new₂ t₁ t₂ o₁ o₂ = ends_settled

    pub advance_settled : (service step : ℕ) → Settles (λ n new t o. advance.Post κs (lent (state, (service, (step, words)))) n (lent (at_last state new, (service, (step, told t o)))))
    advance_settled service step n₁ n₂ new₁ new₂ t₁ t₂ o₁ o₂ = ends_settled

  module _ (κs : Lfts 9) where
    pub connect_settled : (client mtu encrypted : ℕ)
        → Settles (λ n new t o. connect.Post κs (lent (state, (client, (mtu, (encrypted, words))))) n (lent (at_last state new, (client, (mtu, (encrypted, told t o))))))
    connect_settled client mtu encrypted n₁ n₂ new₁ new₂ t₁ t₂ o₁ o₂ = ends_settled

    pub disconnect_settled : (client : ℕ) → Settles (λ n new t o. disconnect.Post κs (lent (state, (client, words))) n (lent (at_last state new, (client, told t o))))
    disconnect_settled client n₁ n₂ new₁ new₂ t₁ t₂ o₁ o₂ = ends_settled

    pub subscribe_settled : (client service x : ℕ)
        → Settles (λ n new t o. subscribe.Post κs (lent (state, (client, (service, (x, words))))) n (lent (at_last state new, (client, (service, (x, told t o))))))
    subscribe_settled client service x n₁ n₂ new₁ new₂ t₁ t₂ o₁ o₂ = ends_settled

    pub unsubscribe_settled : (client service x : ℕ)
        → Settles (λ n new t o. unsubscribe.Post κs (lent (state, (client, (service, (x, words))))) n (lent (at_last state new, (client, (service, (x, told t o))))))
    unsubscribe_settled client service x n₁ n₂ new₁ new₂ t₁ t₂ o₁ o₂ = ends_settled

  module _ (κs : Lfts 11) where
    pub start_settled : (name0 name1 : Bor (List ℕ)) (mask0 ccid0 mask1 ccid1 : ℕ)
        → Settles (λ n new t o. start.Post κs (lent (name0, (mask0, (ccid0, (name1, (mask1, (ccid1, (state, words)))))))) n (lent (name0, (mask0, (ccid0, (name1, (mask1, (ccid1, (at_last state new, told t o)))))))))
    start_settled name0 name1 mask0 ccid0 mask1 ccid1 n₁ n₂ new₁ new₂ t₁ t₂ o₁ o₂ = ends_settled

  module _ (κs : Lfts 9) where
    pub set_name_settled : (service : ℕ) (name : Bor (List ℕ))
        → Settles (λ n new t o. set-name.Post κs (lent (state, (service, (name, words)))) n (lent (at_last state new, (service, (name, told t o)))))
    set_name_settled service name n₁ n₂ new₁ new₂ t₁ t₂ o₁ o₂ = ends_settled

    pub write_settled : (client service x : ℕ) (value : Bor (List ℕ))
        → Settles (λ n new t o. write.Post κs (lent (state, (client, (service, (x, (value, words)))))) n (lent (at_last state new, (client, (service, (x, (value, told t o)))))))
    write_settled client service x value n₁ n₂ new₁ new₂ t₁ t₂ o₁ o₂ = ends_settled

  -- the lent output and the words for what is said too
  module _ (κs : Lfts 10) (out said : MutBor (List ℕ)) (out₁ out₂ said₁ said₂ : List ℕ) where
    pub read_settled : (client service x offset : ℕ) (n₁ n₂ : ℕ) (new₁ new₂ t₁ t₂ o₁ o₂ : List ℕ)
        → read.Post κs (lent (state, (client, (service, (x, (offset, (out, (said, words)))))))) n₁ (lent (at_last state new₁, (client, (service, (x, (offset, (at_last out out₁, (at_last said said₁, told t₁ o₁))))))))
        → read.Post κs (lent (state, (client, (service, (x, (offset, (out, (said, words)))))))) n₂ (lent (at_last state new₂, (client, (service, (x, (offset, (at_last out out₂, (at_last said said₂, told t₂ o₂))))))))
        → (((n₁ ≡ n₂) × (new₁ ≡ new₂)) × (t₁ ≡ t₂) × (o₁ ≡ o₂)) × (out₁ ≡ out₂) × (said₁ ≡ said₂)
    read_settled client service x offset n₁ n₂ new₁ new₂ t₁ t₂ o₁ o₂ p q = (ends_settled p.0 q.0, p.1.0 ∙ sym q.1.0, p.1.1 ∙ sym q.1.1)

    pub take_settled : (n₁ n₂ : ℕ) (new₁ new₂ t₁ t₂ o₁ o₂ : List ℕ)
        → take.Post κs (lent (state, (out, (said, words)))) n₁ (lent (at_last state new₁, (at_last out out₁, (at_last said said₁, told t₁ o₁))))
        → take.Post κs (lent (state, (out, (said, words)))) n₂ (lent (at_last state new₂, (at_last out out₂, (at_last said said₂, told t₂ o₂))))
        → (((n₁ ≡ n₂) × (new₁ ≡ new₂)) × (t₁ ≡ t₂) × (o₁ ≡ o₂)) × (out₁ ≡ out₂) × (said₁ ≡ said₂)
    take_settled n₁ n₂ new₁ new₂ t₁ t₂ o₁ o₂ p q = (ends_settled p.0 q.0, p.1.0 ∙ sym q.1.0, p.1.1 ∙ sym q.1.1)

  -- a title's part, and the words for where a text is wrong; the state is not lent for writing
  module _ (κs : Lfts 10) (held : Bor (List ℕ)) (part : MutBor (List ℕ)) where
    pub title_settled : (service : ℕ) (n₁ n₂ : ℕ) (p₁ p₂ t₁ t₂ o₁ o₂ : List ℕ)
        → title.Post κs (lent (held, (service, (part, words)))) n₁ (lent (held, (service, (at_last part p₁, told t₁ o₁))))
        → title.Post κs (lent (held, (service, (part, words)))) n₂ (lent (held, (service, (at_last part p₂, told t₂ o₂))))
        → (n₁ ≡ n₂) × (p₁ ≡ p₂) × (t₁ ≡ t₂) × (o₁ ≡ o₂)
    title_settled service n₁ n₂ p₁ p₂ t₁ t₂ o₁ o₂ p q = (p.0 ∙ sym q.0, p.1.0 ∙ sym q.1.0, p.1.1.0 ∙ sym q.1.1.0, p.1.1.1 ∙ sym q.1.1.1)

  -- what a manual's Goto comes to, where the player would be, and the words for where a text is wrong; nor is the state lent for writing
  module _ (κs : Lfts 11) (held : Bor (List ℕ)) (made place : MutBor (List ℕ)) where
    pub manual_goto_settled : (service opcode number allowed : ℕ) (n₁ n₂ : ℕ) (m₁ m₂ p₁ p₂ t₁ t₂ o₁ o₂ : List ℕ)
        → manual-goto.Post κs (lent (held, (service, (opcode, (number, (allowed, (made, (place, words)))))))) n₁ (lent (held, (service, (opcode, (number, (allowed, (at_last made m₁, (at_last place p₁, told t₁ o₁))))))))
        → manual-goto.Post κs (lent (held, (service, (opcode, (number, (allowed, (made, (place, words)))))))) n₂ (lent (held, (service, (opcode, (number, (allowed, (at_last made m₂, (at_last place p₂, told t₂ o₂))))))))
        → (n₁ ≡ n₂) × (m₁ ≡ m₂) × (p₁ ≡ p₂) × (t₁ ≡ t₂) × (o₁ ≡ o₂)
    manual_goto_settled service opcode number allowed n₁ n₂ m₁ m₂ p₁ p₂ t₁ t₂ o₁ o₂ = five

-- a card load's four tables, its counts and its block
module _ (κs : Lfts 7) (card : Bor (List ℕ)) (groups tracks segments text counts block : MutBor (List ℕ)) where
  -- what is lent, with other contents
  abbrev loaded : List ℕ → List ℕ → List ℕ → List ℕ → List ℕ → List ℕ
      → Bor (List ℕ) × (MutBor (List ℕ) × (MutBor (List ℕ) × (MutBor (List ℕ) × (MutBor (List ℕ) × (MutBor (List ℕ) × (MutBor (List ℕ) × Unit {0}))))))
  loaded g t s x c b = (card, (at_last groups g, (at_last tracks t, (at_last segments s, (at_last text x, (at_last counts c, (at_last block b, tt)))))))

  pub card_load_settled : (n₁ n₂ : ℕ) (g₁ g₂ t₁ t₂ s₁ s₂ x₁ x₂ c₁ c₂ b₁ b₂ : List ℕ)
      → card-load.Post κs (card, (groups, (tracks, (segments, (text, (counts, (block, tt))))))) n₁ (loaded g₁ t₁ s₁ x₁ c₁ b₁)
      → card-load.Post κs (card, (groups, (tracks, (segments, (text, (counts, (block, tt))))))) n₂ (loaded g₂ t₂ s₂ x₂ c₂ b₂)
      → (n₁ ≡ n₂) × (g₁ ≡ g₂) × (t₁ ≡ t₂) × (s₁ ≡ s₂) × (x₁ ≡ x₂) × (c₁ ≡ c₂) × (b₁ ≡ b₂)
  card_load_settled n₁ n₂ g₁ g₂ t₁ t₂ s₁ s₂ x₁ x₂ c₁ c₂ b₁ b₂ p q = (
    p.0 ∙ sym q.0,
    p.1.0 ∙ sym q.1.0,
    p.1.1.0 ∙ sym q.1.1.0,
    p.1.1.1.0 ∙ sym q.1.1.1.0,
    p.1.1.1.1.0 ∙ sym q.1.1.1.1.0,
    p.1.1.1.1.1.0 ∙ sym q.1.1.1.1.1.0,
    p.1.1.1.1.1.1 ∙ sym q.1.1.1.1.1.1,
  )

-- a card write's card, its number of blocks, and the words for where a title is wrong
module _ (κs : Lfts 8) (groups tracks segments text : Bor (List ℕ)) (card blocks track octet : MutBor (List ℕ)) where
  -- what is lent, with other contents
  abbrev written : List ℕ → List ℕ → List ℕ → List ℕ
      → Bor (List ℕ) × (Bor (List ℕ) × (Bor (List ℕ) × (Bor (List ℕ) × (MutBor (List ℕ) × (MutBor (List ℕ) × (MutBor (List ℕ) × (MutBor (List ℕ) × Unit {0})))))))
  written c b t o = (groups, (tracks, (segments, (text, (at_last card c, (at_last blocks b, (at_last track t, (at_last octet o, tt))))))))

  pub card_write_settled : (n₁ n₂ : ℕ) (c₁ c₂ b₁ b₂ t₁ t₂ o₁ o₂ : List ℕ)
      → card-write.Post κs (groups, (tracks, (segments, (text, (card, (blocks, (track, (octet, tt)))))))) n₁ (written c₁ b₁ t₁ o₁)
      → card-write.Post κs (groups, (tracks, (segments, (text, (card, (blocks, (track, (octet, tt)))))))) n₂ (written c₂ b₂ t₂ o₂)
      → (n₁ ≡ n₂) × (c₁ ≡ c₂) × (b₁ ≡ b₂) × (t₁ ≡ t₂) × (o₁ ≡ o₂)
  card_write_settled n₁ n₂ c₁ c₂ b₁ b₂ t₁ t₂ o₁ o₂ = five

-- a cue sheet's starts, its count and its line
module _ (κs : Lfts 4) (sheet : Bor (List ℕ)) (starts count line : MutBor (List ℕ)) where
  -- what is lent, with other contents
  abbrev cued : List ℕ → List ℕ → List ℕ → Bor (List ℕ) × (MutBor (List ℕ) × (MutBor (List ℕ) × (MutBor (List ℕ) × Unit {0})))
  cued s c l = (sheet, (at_last starts s, (at_last count c, (at_last line l, tt))))

  pub cue_sheet_settled : (n₁ n₂ : ℕ) (s₁ s₂ c₁ c₂ l₁ l₂ : List ℕ)
      → cue-sheet.Post κs (sheet, (starts, (count, (line, tt)))) n₁ (cued s₁ c₁ l₁)
      → cue-sheet.Post κs (sheet, (starts, (count, (line, tt)))) n₂ (cued s₂ c₂ l₂)
      → (n₁ ≡ n₂) × (s₁ ≡ s₂) × (c₁ ≡ c₂) × (l₁ ≡ l₂)
  cue_sheet_settled n₁ n₂ s₁ s₂ c₁ c₂ l₁ l₂ p q = (
    p.0 ∙ sym q.0,
    p.1.0 ∙ sym q.1.0,
    p.1.1.0 ∙ sym q.1.1.0,
    p.1.1.1 ∙ sym q.1.1.1,
  )

-- an object's octets, their number, and the words for where a title is wrong
module _ (κs : Lfts 8) (groups tracks segments text : Bor (List ℕ)) (out length track octet : MutBor (List ℕ)) (number : ℕ) where
  -- what is lent, and with other contents
  abbrev asked : Bor (List ℕ) × (Bor (List ℕ) × (Bor (List ℕ) × (Bor (List ℕ) × (ℕ × (MutBor (List ℕ) × (MutBor (List ℕ) × (MutBor (List ℕ) × (MutBor (List ℕ) × Unit {0}))))))))
  asked = (groups, (tracks, (segments, (text, (number, (out, (length, (track, (octet, tt)))))))))

  abbrev object : List ℕ → List ℕ → List ℕ → List ℕ
      → Bor (List ℕ) × (Bor (List ℕ) × (Bor (List ℕ) × (Bor (List ℕ) × (ℕ × (MutBor (List ℕ) × (MutBor (List ℕ) × (MutBor (List ℕ) × (MutBor (List ℕ) × Unit {0}))))))))
  object c l t o = (groups, (tracks, (segments, (text, (number, (at_last out c, (at_last length l, (at_last track t, (at_last octet o, tt)))))))))

  pub group_object_settled : (n₁ n₂ : ℕ) (c₁ c₂ l₁ l₂ t₁ t₂ o₁ o₂ : List ℕ) → group_object_lem.Post κs asked n₁ (object c₁ l₁ t₁ o₁) → group_object_lem.Post κs asked n₂ (object c₂ l₂ t₂ o₂)
      → (n₁ ≡ n₂) × (c₁ ≡ c₂) × (l₁ ≡ l₂) × (t₁ ≡ t₂) × (o₁ ≡ o₂)
  group_object_settled n₁ n₂ c₁ c₂ l₁ l₂ t₁ t₂ o₁ o₂ = five

  pub segments_object_settled : (n₁ n₂ : ℕ) (c₁ c₂ l₁ l₂ t₁ t₂ o₁ o₂ : List ℕ) → segments_object_lem.Post κs asked n₁ (object c₁ l₁ t₁ o₁) → segments_object_lem.Post κs asked n₂ (object c₂ l₂ t₂ o₂)
      → (n₁ ≡ n₂) × (c₁ ≡ c₂) × (l₁ ≡ l₂) × (t₁ ≡ t₂) × (o₁ ≡ o₂)
  segments_object_settled n₁ n₂ c₁ c₂ l₁ l₂ t₁ t₂ o₁ o₂ = five

-- the words of entries, and their number
module _ (κs : Lfts 3) (octets : Bor (List ℕ)) (words count : MutBor (List ℕ)) where
  three : {n n₁ n₂ : ℕ} {a a₁ a₂ b b₁ b₂ : List ℕ} → (n₁ ≡ n) × ((a₁ ≡ a) × (b₁ ≡ b)) → (n₂ ≡ n) × ((a₂ ≡ a) × (b₂ ≡ b)) → (n₁ ≡ n₂) × (a₁ ≡ a₂) × (b₁ ≡ b₂)
  three p q = (p.0 ∙ sym q.0, p.1.0 ∙ sym q.1.0, p.1.1 ∙ sym q.1.1)

  -- what is lent, with other contents
  abbrev entries : List ℕ → List ℕ → Bor (List ℕ) × (MutBor (List ℕ) × (MutBor (List ℕ) × Unit {0}))
  entries w c = (octets, (at_last words w, (at_last count c, tt)))

  pub group_entries_settled : (n₁ n₂ : ℕ) (w₁ w₂ c₁ c₂ : List ℕ) → group-entries.Post κs (octets, (words, (count, tt))) n₁ (entries w₁ c₁) → group-entries.Post κs (octets, (words, (count, tt))) n₂ (entries w₂ c₂)
      → (n₁ ≡ n₂) × (w₁ ≡ w₂) × (c₁ ≡ c₂)
  group_entries_settled n₁ n₂ w₁ w₂ c₁ c₂ = three

  pub segment_entries_settled : (n₁ n₂ : ℕ) (w₁ w₂ c₁ c₂ : List ℕ) → segment-entries.Post κs (octets, (words, (count, tt))) n₁ (entries w₁ c₁) → segment-entries.Post κs (octets, (words, (count, tt))) n₂ (entries w₂ c₂)
      → (n₁ ≡ n₂) × (w₁ ≡ w₂) × (c₁ ≡ c₂)
  segment_entries_settled n₁ n₂ w₁ w₂ c₁ c₂ = three
