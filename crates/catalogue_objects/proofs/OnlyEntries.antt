-- The other way round: octets that are read as whole entries are the octets of records, or of labels, that have the words that are read. Assumes nothing.
use mathlib.Core.Path.{◌≡◌, refl, sym, ap, ◌∙◌}
use mathlib.Core.Bool.{true}
use mathlib.Core.List.{List, [], ◌∷◌, ◌++◌, append_assoc}
use Prim.Native.Nat.{ℕ, zero, suc, ◌+◌, ◌-◌, ◌*◌, ◌/◌, ◌%◌, ◌<◌, ◌≤◌}
use native.Mathlib.Nat.{add-zero}
use native.Mathlib.Numerals.{add-one}
use native.Mathlib.Omega.{arith}
use borrow.Author.Tests.{leb-true, ltb-true}
use lib.Dec.{ltb}
use lib.ListN.{length, get_or, take, drop, length-drop, take-append-drop}
use lib.Seq.{length-take-le, drop-drop}
use Rattle.ground.specs.Lists.{Each}
use Rattle.ground.specs.Words.{Octs, half_of, word_of, word_at, six_octets, octets_of_word, words, octets_of}
use Rattle.ground.specs.Words.Octs.{no_octets, octet}
use Rattle.ground.proofs.Cases.{and_left, and_right}
use Rattle.ground.proofs.Octets.{octs_drop, octets_words}
use Rattle.ground.proofs.Words.{word_drop}
use Rattle.text.specs.Utf8.{text_of, is_fine}
use Rattle.text.proofs.Law.{only_fine, fine_is_text}
use Rattle.catalogue_objects.specs.declared.Kind.{Kind}
use Rattle.catalogue_objects.specs.declared.Kind.TheVariants.{Group, Segments}
use Rattle.catalogue_objects.specs.Entries.{member_octets, label_octets, all_octets}
use Rattle.catalogue_objects.specs.Reading.{size_of, label_sound, is_entry, words_of, Entries, entries_of}
use Rattle.catalogue_objects.proofs.RoundTrip.{MemberFits, member_words, LabelFits, label_words}
use Rattle.catalogue_objects.proofs.Steps.{some_octets, entries_end, entries_next, whole_next, entry_fits, entry_sound}

module _ (kind : Kind) {A : Type 0} (octets words : A → List ℕ) (Fits : A → Type 0) where
  -- octets begin with those of something
  pub record Front (s : List ℕ) : Type 0 where
    pub entry : A
    pub fits : Fits entry
    pub is : s ≡ octets entry ++ drop (size_of kind s) s
    pub means : words_of kind s ≡ words entry

  -- octets are those of a list of such things
  pub record Written (s : List ℕ) : Type 0 where
    pub entries : List A
    pub each : Each Fits entries
    pub are : s ≡ all_octets octets entries
    pub many : (entries_of kind s).count ≡ length entries
    pub mean : (entries_of kind s).words ≡ all_octets words entries

  -- THE law: where each entry begins so, whole entries are such a list
  module _ (front : (s : List ℕ) → Octs s → is_entry kind s ≡ true → Front s) where
    step : (s : List ℕ) → Octs s → (entries_of kind s).whole ≡ true
        → ((t : List ℕ) → length t < length s → Octs t → (entries_of kind t).whole ≡ true → Written t) → Written s
    unfolding all_octets
    step [] o w shorter =
        let none = entries_end kind [] refl in
        record { entries = []; each = tt; are = refl; many = ap (λ (e : Entries). e.count) none; mean = ap (λ (e : Entries). e.words) none }
    step (x ∷ t) o w shorter =
        let s = x ∷ t in
        let some : 0 < length s = omega arith in
        let e = whole_next kind s some w in
        let f = front s o e in
        let next = entries_next kind s some e in
        let size = size_of kind s in
        let r = shorter (drop size s) (omega (arith, some_octets kind s, length-drop size s)) (octs_drop size o) (sym (ap (λ (e : Entries). e.whole) next) ∙ w) in
        record {
          entries = f.entry ∷ r.entries;
          each = (f.fits, r.each);
          are = f.is ∙ ap (λ (l : List ℕ). octets f.entry ++ l) r.are;
          many = ap (λ (e : Entries). e.count) next ∙ ap suc r.many;
          mean = ap (λ (e : Entries). e.words) next ∙ (λ i. f.means i ++ r.mean i);
        }

    by_length : (n : ℕ) (s : List ℕ) → length s ≤ n → Octs s → (entries_of kind s).whole ≡ true → Written s
    by_length zero s h o w = step s o w (λ t k p v. absurd (let z : ⊥ = omega arith in z))
    by_length (suc n) s h o w = step s o w (λ t k p v. by_length n t (omega arith) p v)

    pub only : (s : List ℕ) → Octs s → (entries_of kind s).whole ≡ true → Written s
    only s o w = by_length (length s) s (omega arith) o w

-- six octets are those of their number
six_again : (a b c d e f : ℕ) → a < 256 → b < 256 → c < 256 → d < 256 → e < 256 → f < 256
    → a ∷ b ∷ c ∷ d ∷ e ∷ f ∷ [] ≡ six_octets (word_of a b c d + half_of e f * 4294967296)
unfolding six_octets
six_again a b c d e f ha hb hc hd he hf =
    let n = word_of a b c d + half_of e f * 4294967296 in
    let q5 : n / 1099511627776 ≡ f = omega arith in
    let q4 : n / 4294967296 ≡ e + f * 256 = omega arith in
    let q3 : n / 16777216 ≡ d + (e + f * 256) * 256 = omega arith in
    let q2 : n / 65536 ≡ c + (d + (e + f * 256) * 256) * 256 = omega arith in
    let q1 : n / 256 ≡ b + (c + (d + (e + f * 256) * 256) * 256) * 256 = omega arith in
    let q0 : n ≡ a + (b + (c + (d + (e + f * 256) * 256) * 256) * 256) * 256 = omega arith in
    λ i.
    low a _ n ha q0 i ∷ low b _ (n / 256) hb q1 i ∷ low c _ (n / 65536) hc q2 i ∷ low d _ (n / 16777216) hd q3 i ∷ low e f (n / 4294967296) he q4 i
    ∷ low f 0 (n / 1099511627776) hf (omega arith) i ∷ []
  where
    low : (x y n : ℕ) → x < 256 → n ≡ x + y * 256 → x ≡ n % 256
    low x y n h e = omega arith

-- a record in front
seven : {s : List ℕ} → Octs s → 7 ≤ length s → get_or s 0 0 ≤ 1 → Front Group member_octets member_words MemberFits s
unfolding member_octets words_of word_at
seven no_octets long type = absurd (let z : ⊥ = omega arith in z)
seven (octet h0 no_octets) long type = absurd (let z : ⊥ = omega arith in z)
seven (octet h0 (octet h1 no_octets)) long type = absurd (let z : ⊥ = omega arith in z)
seven (octet h0 (octet h1 (octet h2 no_octets))) long type = absurd (let z : ⊥ = omega arith in z)
seven (octet h0 (octet h1 (octet h2 (octet h3 no_octets)))) long type = absurd (let z : ⊥ = omega arith in z)
seven (octet h0 (octet h1 (octet h2 (octet h3 (octet h4 no_octets))))) long type = absurd (let z : ⊥ = omega arith in z)
seven (octet h0 (octet h1 (octet h2 (octet h3 (octet h4 (octet h5 no_octets)))))) long type = absurd (let z : ⊥ = omega arith in z)
seven (octet {x = k} hk (octet {x = a} ha (octet {x = b} hb (octet {x = c} hc (octet {x = d} hd (octet {x = e} he (octet {x = f} {s = r} hf o))))))) long type =
    let low = word_of a b c d in
    let high = half_of e f in
    let n = low + high * 4294967296 in
    let below : low < 4294967296 = omega arith in
    let l : low ≡ n % 4294967296 = omega arith in
    let h : high ≡ n / 4294967296 = omega arith in
    record {
      entry = record { kind = k; object = n };
      fits = record { type = type; number = omega arith };
      is = ap (λ (six : List ℕ). k ∷ (six ++ r)) (six_again a b c d e f ha hb hc hd he hf);
      means = λ i. k ∷ l i ∷ h i ∷ [];
    }

member_front : (s : List ℕ) → Octs s → is_entry Group s ≡ true → Front Group member_octets member_words MemberFits s
member_front s o e = seven o (entry_fits Group s e) (leb-true _ _ (entry_sound Group s e))

pub only_members : (s : List ℕ) → Octs s → (entries_of Group s).whole ≡ true → Written Group member_octets member_words MemberFits s
only_members = only Group member_octets member_words MemberFits member_front

-- four octets in front are those of the word that they are
four : {s : List ℕ} → Octs s → 4 ≤ length s → s ≡ octets_of_word (word_at s 0) ++ drop 4 s
unfolding word_at words octets_of
four no_octets long = absurd (let z : ⊥ = omega arith in z)
four (octet ha no_octets) long = absurd (let z : ⊥ = omega arith in z)
four (octet ha (octet hb no_octets)) long = absurd (let z : ⊥ = omega arith in z)
four (octet ha (octet hb (octet hc no_octets))) long = absurd (let z : ⊥ = omega arith in z)
four (octet ha (octet hb (octet hc (octet {s = s} hd o)))) long =
    ap (λ (word : List ℕ). word ++ s) (sym (octets_words 1 (octet ha (octet hb (octet hc (octet hd no_octets)))) refl))

-- a label in front: n octets of a name, and a word behind them
module _ (n : ℕ) (t : List ℕ) where
  position_at : word_at (n ∷ t) (n + 1) ≡ word_at (drop n t) 0
  position_at = ap (word_at (n ∷ t)) (sym (add-zero (n + 1))) ∙ sym (word_drop (n ∷ t) (n + 1) 0) ∙ ap (λ (k : ℕ). word_at (drop k (n ∷ t)) 0) (add-one n)

  behind_it : drop 4 (drop n t) ≡ drop (n + 1 + 4) (n ∷ t)
  behind_it =
      let k : suc (n + 4) ≡ n + 1 + 4 = omega arith in
      drop-drop 4 n t ∙ ap (λ (i : ℕ). drop i (n ∷ t)) k

  label_at : n < 256 → Octs t → n + 4 ≤ length t → label_sound (n ∷ t) ≡ true → Front Segments label_octets label_words LabelFits (n ∷ t)
  unfolding label_octets words_of label_sound
  label_at h o long sound =
      let name = take n t in
      let word = octets_of_word (word_at (drop n t) 0) in
      let named : is_fine (text_of (take (n + 1 - 1) t)) ≡ true = and_left (is_fine (text_of (take (n + 1 - 1) t))) (ltb (word_at (n ∷ t) (n + 1)) 0x8000_0000) sound in
      let positive : ltb (word_at (n ∷ t) (n + 1)) 0x8000_0000 ≡ true = and_right (is_fine (text_of (take (n + 1 - 1) t))) (ltb (word_at (n ∷ t) (n + 1)) 0x8000_0000) sound in
      let one : n + 1 - 1 ≡ n = omega arith in
      let many : length name ≡ n = length-take-le n t (omega arith) in
      let fits : 4 ≤ length (drop n t) = omega (arith, length-drop n t) in
      let body : t ≡ (name ++ word) ++ drop (n + 1 + 4) (n ∷ t) =
      sym (take-append-drop n t)
      ∙ ap (λ (s : List ℕ). name ++ s) (four (octs_drop n o) fits)
      ∙ sym (append_assoc name word (drop 4 (drop n t)))
      ∙ ap (λ (s : List ℕ). (name ++ word) ++ s) behind_it in
      record {
        entry = record { name = name; position = word_at (drop n t) 0 };
        fits = record {
          named = (fine_is_text name).0 (ap (λ (k : ℕ). text_of (take k t)) (sym one) ∙ only_fine _ named);
          short = omega arith;
          positive = omega (arith, position_at, ltb-true (word_at (n ∷ t) (n + 1)) 0x8000_0000 positive);
        };
        is = λ i. sym many i ∷ body i;
        means = ap (λ (x : ℕ). x ∷ []) position_at;
      }

label_front : (s : List ℕ) → Octs s → is_entry Segments s ≡ true → Front Segments label_octets label_words LabelFits s
label_front s no_octets e = absurd (let z : ⊥ = omega (arith, entry_fits Segments [] e) in z)
label_front s (octet {x = n} {s = t} h o) e = label_at n t h o (omega (arith, entry_fits Segments (n ∷ t) e)) (entry_sound Segments (n ∷ t) e)

pub only_labels : (s : List ℕ) → Octs s → (entries_of Segments s).whole ≡ true → Written Segments label_octets label_words LabelFits s
only_labels = only Segments label_octets label_words LabelFits label_front
