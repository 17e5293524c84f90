-- The contracts of the library's functions, as the check reads them, are what the calls of a history are said to do. Assumes nothing.
use mathlib.Core.Path.{◌≡◌, refl, subst}
use mathlib.Core.Option.{none}
use mathlib.Core.List.{List, [], ◌∷◌}
use Prim.Native.Nat.{ℕ}
use contract.Lifetimes.{Lfts}
use denote.Bor.{Bor}
use denote.Ref.{MutBor, at_last}
use lib.ListN.{length}
use Rattle.catalogue_titles.specs.Lent.{Lent, lending}
use Rattle.desk_history.specs.Calls.{Call, set_name, activate, deactivate, advance, connect, disconnect, subscribe, unsubscribe, read, write, take}
use Rattle.mcs_state.specs.Codec.{flag, desk_of}
use Rattle.mcs.proofs.mcs_start.Reads as start-call
use Rattle.mcs.proofs.mcs_set_name.Reads as set-name-call
use Rattle.mcs.proofs.mcs_activate.Reads as activate-call
use Rattle.mcs.proofs.mcs_deactivate.Reads as deactivate-call
use Rattle.mcs.proofs.mcs_advance.Reads as advance-call
use Rattle.mcs.proofs.mcs_connect.Reads as connect-call
use Rattle.mcs.proofs.mcs_disconnect.Reads as disconnect-call
use Rattle.mcs.proofs.mcs_subscribe.Reads as subscribe-call
use Rattle.mcs.proofs.mcs_unsubscribe.Reads as unsubscribe-call
use Rattle.mcs.proofs.mcs_read.Reads as read-call
use Rattle.mcs.proofs.mcs_write.Reads as write-call
use Rattle.mcs.proofs.mcs_take.Reads as take-call
use Rattle.mcs_history.specs.Library.{Shown, Taken, heard, Made, other, taken, Run, started}

module _ (groups tracks segments text renames office : Bor (List ℕ)) (state track octet : MutBor (List ℕ)) (n : ℕ) (new t o : List ℕ) where
  -- what every call is lent first, and last
  abbrev lent : {A : Type 0} → A → Bor (List ℕ) × (Bor (List ℕ) × (Bor (List ℕ) × (Bor (List ℕ) × (Bor (List ℕ) × (Bor (List ℕ) × A)))))
  lent rest = (groups, (tracks, (segments, (text, (renames, (office, rest))))))

  abbrev words : MutBor (List ℕ) × (MutBor (List ℕ) × Unit {0})
  words = (track, (octet, tt))

  abbrev told : MutBor (List ℕ) × (MutBor (List ℕ) × Unit {0})
  told = (at_last track t, (at_last octet o, tt))

  abbrev k : Lent
  k = lending groups.now tracks.now segments.now text.now renames.now office.now

  abbrev MadeBy : Call → Type 0
  MadeBy call = Made k call state.now new none

  module _ (κs : Lfts 8) where
    pub activate_made : (v group : ℕ) → activate-call.Post κs (lent (state, (v, (group, words)))) n (lent (at_last state new, (v, (group, told)))) → MadeBy (activate v group)
    activate_made v group p = other (activate v group) refl p.leaves

    pub deactivate_made : (v : ℕ) → deactivate-call.Post κs (lent (state, (v, words))) n (lent (at_last state new, (v, told))) → MadeBy (deactivate v)
    deactivate_made v p = other (deactivate v) refl p.leaves

    pub advance_made : (v step : ℕ) → advance-call.Post κs (lent (state, (v, (step, words)))) n (lent (at_last state new, (v, (step, told)))) → MadeBy (advance v step)
    advance_made v step p = other (advance v step) refl p.leaves

  module _ (κs : Lfts 9) where
    pub connect_made : (client mtu encrypted : ℕ) → connect-call.Post κs (lent (state, (client, (mtu, (encrypted, words))))) n (lent (at_last state new, (client, (mtu, (encrypted, told)))))
        → MadeBy (connect client mtu (flag encrypted))
    connect_made client mtu encrypted p = other (connect client mtu (flag encrypted)) refl p.leaves

    pub disconnect_made : (client : ℕ) → disconnect-call.Post κs (lent (state, (client, words))) n (lent (at_last state new, (client, told))) → MadeBy (disconnect client)
    disconnect_made client p = other (disconnect client) refl p.leaves

    pub subscribe_made : (client v x : ℕ) → subscribe-call.Post κs (lent (state, (client, (v, (x, words))))) n (lent (at_last state new, (client, (v, (x, told)))))
        → MadeBy (subscribe client v x)
    subscribe_made client v x p = other (subscribe client v x) refl p.leaves

    pub unsubscribe_made : (client v x : ℕ) → unsubscribe-call.Post κs (lent (state, (client, (v, (x, words))))) n (lent (at_last state new, (client, (v, (x, told)))))
        → MadeBy (unsubscribe client v x)
    unsubscribe_made client v x p = other (unsubscribe client v x) refl p.leaves

  module _ (κs : Lfts 11) where
    -- a start that answers 0 begins a history
    pub start_begins : (name0 name1 : Bor (List ℕ)) (mask0 ccid0 mask1 ccid1 : ℕ)
        → start-call.Post κs (lent (name0, (mask0, (ccid0, (name1, (mask1, (ccid1, (state, words)))))))) 0 (lent (name0, (mask0, (ccid0, (name1, (mask1, (ccid1, (at_last state new, told))))))))
        → Run k (record { name = name0.now; mask = mask0; ccid = ccid0 }) (record { name = name1.now; mask = mask1; ccid = ccid1 }) [] new
    start_begins name0 name1 mask0 ccid0 mask1 ccid1 p = started p.leaves

  module _ (κs : Lfts 9) where
    pub set_name_made : (v : ℕ) (name : Bor (List ℕ)) → set-name-call.Post κs (lent (state, (v, (name, words)))) n (lent (at_last state new, (v, (name, told)))) → MadeBy (set_name v name.now)
    set_name_made v name p = other (set_name v name.now) refl p.leaves

    pub write_made : (client v x : ℕ) (value : Bor (List ℕ))
        → write-call.Post κs (lent (state, (client, (v, (x, (value, words)))))) n (lent (at_last state new, (client, (v, (x, (value, told))))))
        → MadeBy (write client v x value.now)
    write_made client v x value p = other (write client v x value.now) refl p.leaves

  module _ (κs : Lfts 10) (out said : MutBor (List ℕ)) (out' said' : List ℕ) where
    pub read_made : (client v x offset : ℕ)
        → read-call.Post κs (lent (state, (client, (v, (x, (offset, (out, (said, words)))))))) n (lent (at_last state new, (client, (v, (x, (offset, (at_last out out', (at_last said said', told))))))))
        → MadeBy (read client v x offset (length out.now))
    read_made client v x offset p = other (read client v x offset (length out.now)) refl p.0.leaves

    pub read_shown : (client v x offset : ℕ)
        → read-call.Post κs (lent (state, (client, (v, (x, (offset, (out, (said, words)))))))) n (lent (at_last state new, (client, (v, (x, (offset, (at_last out out', (at_last said said', told))))))))
        → Shown k (desk_of state.now) client v x offset out.now said.now out' said'
    read_shown client v x offset p = record { output = p.1.0; word = p.1.1 }

    -- the four words that a take is lent
    pub take_made : (a b c e : ℕ) → said.now ≡ a ∷ b ∷ c ∷ e ∷ []
        → take-call.Post κs (lent (state, (out, (said, words)))) n (lent (at_last state new, (at_last out out', (at_last said said', told))))
        → Made k (take (length out.now)) state.now new (heard n said' out')
    take_made a b c e four p =
        taken (subst (λ (w : List ℕ). Taken k state.now out.now w n new out' said') four (record { leaves = p.0.leaves; output = p.1.0; words = p.1.1 }))
