-- What arrivals and reads do to a usable block: it stays usable, and what its two FIFOs then hold.
-- Assumes nothing.
use Rattle.std.proofs.Common.{◌≡◌, ℕ, suc, ◌+◌, ◌-◌, ◌%◌, ◌<◌, ◌≤◌, Bool, true, false, cond, eqb, ◌≢◌, List, [], ◌∷◌, length, get_or, set, sym, refl, ap, ◌∙◌, zero-le, arith, get_or-set_other}
use lib.Seq.{sets, length-sets}
use Rattle.word.specs.Word.{index}
use Rattle.word.specs.Parity.{error_mark}
use Rattle.ring.specs.Ring.{slot, slots, next}
use Rattle.ring.proofs.Words.{sets_other}
use Rattle.ring.proofs.Laws.{take-oldest}
use Rattle.block.specs.Layout.{word, parity, stamps, receive_mode, settings, receive_level, receive_position, receive_size, receive_accepted, receive_read, receive_overwritten, receive_ring, receive_ring_at, message_mark, mailboxes, Whole}
use Rattle.block.specs.Ranges.{leasts, greatests, Usable}
use Rattle.fifos.specs.Counts.{counted}
use Rattle.status.specs.Status.{parity_error_signal}
use Rattle.fifos.specs.Fifos.{Offsets, receive_offsets, transmit_offsets, entry_appended, entry_overwriting, Fifo, fifo, accepts, gives, overwrites, changed, overwritten_after}
use Rattle.fifos.specs.Mailboxes.{mailbox_at, new_mark, unlisted}
use Rattle.block.proofs.Words.{words}
use Rattle.fifos.proofs.Marks.{unlist_before, unlist_fifo, unlist_usable}
use Rattle.block.proofs.Sound.{in_range_lem, usable_level, usable_beyond}
use Rattle.settings.proofs.Keeps.{usable_store, usable_behind}
use Rattle.fifos.proofs.Fifos.{Apart, receive_proper, store_apart, take_law, append_law, overwrite_law}
use Rattle.arrival.specs.Arrival.{arrival}
use Rattle.receive.specs.Entries.{stamp_of, word_entry, index_entry, entry_of, mail_of, mailed}
use Rattle.receive.specs.Arrived.{overwriting, stored, arrived, error_signal, signalled, arrival_signal}
use Rattle.receive_reads.specs.Reading.{shown, read_answer, read_after}
use Rattle.receive.specs.Fates.{arrival_change}
use Rattle.arrival.specs.declared.Arrival.{Arrival}
use Rattle.arrival.specs.declared.Arrival.TheVariants.{Ignored, Filtered, Appended, Dropped, Overwriting, AlreadyListed}
use Rattle.fifos.proofs.Bounds.{bounds}
use Rattle.receive.proofs.Stores.{mark_le, room, full, mail_keeps, mail_before}

-- ---- entries

pub entry_width : (stamp w : ℕ) (b : List ℕ) → length (entry_of stamp w b) ≡ 3
unfolding entry_of
entry_width stamp w b = go (eqb (word b receive_mode) 0)
  where
    go : (t : Bool) → length (cond t (word_entry stamp w b) (index_entry w)) ≡ 3
    go true = refl
    go false = refl

-- the status of an entry is below 4, so that a read shows the entry as it was stored
pub entry_shown : (stamp w : ℕ) (b : List ℕ) → shown (entry_of stamp w b) ≡ entry_of stamp w b
unfolding entry_of
entry_shown stamp w b = go (eqb (word b receive_mode) 0)
  where
    low : error_mark (word b parity) w % 4 ≡ error_mark (word b parity) w
    low = omega (arith, mark_le (word b parity) w)

    go : (t : Bool) → shown (cond t (word_entry stamp w b) (index_entry w)) ≡ cond t (word_entry stamp w b) (index_entry w)
    go true = ap (λ (x : ℕ). x ∷ w ∷ stamp_of (word b stamps) stamp ∷ []) low
    go false = refl

-- an entry goes by the settings alone
pub entry_by_settings : (stamp w : ℕ) (b c : List ℕ) → ((i : ℕ) → i < settings → word c i ≡ word b i) → entry_of stamp w c ≡ entry_of stamp w b
unfolding entry_of
entry_by_settings stamp w b c h = rw (h receive_mode (omega arith), h parity (omega arith), h stamps (omega arith))

-- ---- stores in the block

-- stores at words that are none of a FIFO's leave it
sets_apart : (p : Offsets) (b : List ℕ) (s : ℕ) (e : List ℕ) → 0 < p.ring.slots → ((i : ℕ) → s ≤ i → i < s + length e → Apart p i)
    → fifo p (sets b s e) ≡ fifo p b
sets_apart p b s [] h a = refl
sets_apart p b s (x ∷ e) h a =
    sets_apart p (set b s x) (suc s) e h (λ i l u. a i (omega arith) (omega arith)) ∙ store_apart p b s x h (a s (omega arith) (omega arith))

-- a word that is neither a setting, nor the message mark, nor one of the transmit FIFO's
record Free (i : ℕ) : Type 0 where
  setting : settings ≤ i
  mark : message_mark ≢ i
  transmit : Apart transmit_offsets i

-- what receiving leaves of a block `b`, with the block `c` after it
pub record Leaves (b c : List ℕ) : Type 0 where
  pub setting : (i : ℕ) → i < settings → word c i ≡ word b i
  pub mark : word c message_mark ≡ word b message_mark
  pub transmit : fifo transmit_offsets c ≡ fifo transmit_offsets b

same_left : (b : List ℕ) → Leaves b b
same_left b = record { setting = λ i h. refl; mark = refl; transmit = refl }

then : {b c d : List ℕ} → Leaves b c → Leaves c d → Leaves b d
then p q = record { setting = λ i h. q.setting i h ∙ p.setting i h; mark = q.mark ∙ p.mark; transmit = q.transmit ∙ p.transmit }

store_leaves : {b c : List ℕ} (i v : ℕ) → Free i → Leaves b c → Leaves b (set c i v)
store_leaves {b} {c} i v f p =
    then p
    (record {
      setting = λ j h. get_or-set_other c i j v 0 (omega (arith, f.setting));
      mark = get_or-set_other c i message_mark v 0 f.mark;
      transmit = store_apart transmit_offsets c i v (omega arith) f.transmit;
    })

stores_leave : (b : List ℕ) (s : ℕ) (e : List ℕ) → message_mark < s → ((i : ℕ) → s ≤ i → i < s + length e → Apart transmit_offsets i)
    → Leaves b (sets b s e)
stores_leave b s e h a =
    record {
      setting = λ j l. sets_other b s e j (λ x y. omega arith);
      mark = sets_other b s e message_mark (λ x y. omega arith);
      transmit = sets_apart transmit_offsets b s e (omega arith) a;
    }

-- ---- a mailbox takes the word

mail_fifo : (p : Offsets) (mark stamp w : ℕ) (b : List ℕ) → 0 < p.ring.slots → ((i : ℕ) → mailboxes ≤ i → Apart p i)
    → fifo p (mailed mark stamp w b) ≡ fifo p b
unfolding mailed
mail_fifo p mark stamp w b h a = go (eqb (word b receive_mode) 0)
  where
    go : (t : Bool) → fifo p (cond t b (sets b (mailbox_at (index w)) (mail_of mark stamp w b))) ≡ fifo p b
    go true = refl
    go false = sets_apart p b (mailbox_at (index w)) (mail_of mark stamp w b) h (λ i l u. a i (omega arith))

mail_leaves : (mark stamp w : ℕ) (b : List ℕ) → Leaves b (mailed mark stamp w b)
mail_leaves mark stamp w b =
    record {
      setting = λ i h. mail_before mark stamp w b i (omega arith);
      mark = mail_before mark stamp w b message_mark (omega arith);
      transmit = mail_fifo transmit_offsets mark stamp w b (omega arith) (λ i h. omega arith);
    }

-- the oldest entry's mailbox loses its mark
unlist_leaves : (b : List ℕ) → Leaves b (unlisted 1 b)
unlist_leaves b =
    record {
      setting = λ i h. unlist_before 1 b i (omega arith);
      mark = unlist_before 1 b message_mark (omega arith);
      transmit = unlist_fifo 1 b transmit_offsets (omega arith) (λ i h. omega arith);
    }

-- ---- an entry is accepted

-- an entry stored in the ring leaves the words before it
before_ring : (b e : List ℕ) (k i : ℕ) → i < receive_ring_at → word (sets b (slot receive_ring k) e) i ≡ word b i
before_ring b e k i h = sets_other b (slot receive_ring k) e i (λ l u. omega arith)

module _ {b : List ℕ} (u : Usable b) (e : List ℕ) where
  ring_keeps : (k : ℕ) → Usable (sets b (slot receive_ring k) e)
  ring_keeps k = usable_beyond b (slot receive_ring k) e u (omega arith)

  append_keeps : word b receive_level < word b receive_size → Usable (entry_appended receive_offsets b e)
  append_keeps h =
      let k : ℕ = word b receive_position + word b receive_level in
      let s = before_ring b e k receive_size (omega arith) in
      usable_behind (usable_level (ring_keeps k) (word b receive_level + 1) (rw s (omega arith))) receive_accepted _ (omega arith)

  overwrite_keeps : Usable (overwriting b e)
  unfolding leasts greatests
  overwrite_keeps =
      let p : ℕ = next slots (word b receive_position) in
      let k : ℕ = word b receive_position + word b receive_level in
      let s = usable_store (ring_keeps k) receive_position p (omega arith) (in_range_lem receive_position p zero-le (omega arith)) in
      usable_behind (usable_behind s receive_accepted _ (omega arith)) _ _ (omega arith)

module _ (b e : List ℕ) (long : length e ≡ 3) where
  ring_leaves : (k : ℕ) → Leaves b (sets b (slot receive_ring k) e)
  ring_leaves k = stores_leave b (slot receive_ring k) e (omega arith) (λ i l u. omega arith)

  append_leaves : Leaves b (entry_appended receive_offsets b e)
  append_leaves =
      store_leaves receive_accepted _ (omega arith) (store_leaves receive_level _ (omega arith) (ring_leaves (word b receive_position + word b receive_level)))

  overwrite_leaves : Leaves b (overwriting b e)
  overwrite_leaves =
      store_leaves _ _ (omega arith)
      (store_leaves receive_accepted _ (omega arith)
      (store_leaves receive_position _ (omega arith) (ring_leaves (word b receive_position + word b receive_level))))

-- the count of the overwritten
append_overwritten : (b e : List ℕ) → word (entry_appended receive_offsets b e) receive_overwritten ≡ word b receive_overwritten
append_overwritten b e = search (words, before_ring b e (word b receive_position + word b receive_level) receive_overwritten (omega arith))

overwrite_overwritten : (b e : List ℕ) → Whole b → word (overwriting b e) receive_overwritten ≡ counted (word b receive_overwritten) 1
overwrite_overwritten b e h =
    let m : Whole (sets b (slot receive_ring (word b receive_position + word b receive_level)) e) = length-sets b _ e ∙ h in search words

-- ---- an arrival, by its decision

module _ {b : List ℕ} (u : Usable b) (stamp w : ℕ) where
  abbrev mail : List ℕ
  mail = mailed new_mark stamp w b

  usable : Usable mail
  usable = mail_keeps u new_mark stamp w

  -- the same with the oldest entry's mark taken first
  abbrev over : List ℕ
  over = mailed new_mark stamp w (unlisted 1 b)

  over_usable : Usable over
  over_usable = mail_keeps (unlist_usable 1 u) new_mark stamp w

  over_leaves : Leaves b over
  over_leaves = then (unlist_leaves b) (mail_leaves new_mark stamp w (unlisted 1 b))

  over_before : (i : ℕ) → i < mailboxes → word over i ≡ word b i
  over_before i h = mail_before new_mark stamp w (unlisted 1 b) i h ∙ unlist_before 1 b i h

  over_fifo : fifo receive_offsets over ≡ fifo receive_offsets b
  over_fifo =
      mail_fifo receive_offsets new_mark stamp w (unlisted 1 b) (omega arith) (λ i h. omega arith)
      ∙ unlist_fifo 1 b receive_offsets (omega arith) (λ i h. omega arith)

  has_room : arrival w b ≡ Appended → word mail receive_level < word mail receive_size
  has_room e = rw (mail_before new_mark stamp w b receive_level (omega arith), mail_before new_mark stamp w b receive_size (omega arith)) (room w b e)

  is_full : arrival w b ≡ Overwriting → word over receive_size ≤ word over receive_level
  is_full e = rw (over_before receive_level (omega arith), over_before receive_size (omega arith)) (full w b e)

  pub arrive_keeps : Usable (arrived stamp w b)
  unfolding stored
  arrive_keeps = go (arrival w b) refl
    where
      go : (a : Arrival) → arrival w b ≡ a → Usable (stored a stamp w b)
      go Ignored d = u
      go Filtered d = u
      go Appended d = append_keeps usable (entry_of stamp w b) (has_room d)
      go Dropped d = mail_keeps u 0 stamp w
      go Overwriting d = overwrite_keeps over_usable (entry_of stamp w b)
      go AlreadyListed d = usable

  pub arrive_leaves : Leaves b (arrived stamp w b)
  unfolding stored
  arrive_leaves = go (arrival w b)
    where
      go : (a : Arrival) → Leaves b (stored a stamp w b)
      go Ignored = same_left b
      go Filtered = same_left b
      go Appended = then (mail_leaves new_mark stamp w b) (append_leaves mail (entry_of stamp w b) (entry_width stamp w b))
      go Dropped = mail_leaves 0 stamp w b
      go Overwriting = then over_leaves (overwrite_leaves over (entry_of stamp w b) (entry_width stamp w b))
      go AlreadyListed = mail_leaves new_mark stamp w b

  -- the receive FIFO
  pub arrive_fifo : fifo receive_offsets (arrived stamp w b) ≡ changed counted (arrival_change (arrival w b) (entry_of stamp w b)) (fifo receive_offsets b)
  unfolding stored
  arrive_fifo = go (arrival w b) refl
    where
      mail_left : (mark : ℕ) → fifo receive_offsets (mailed mark stamp w b) ≡ fifo receive_offsets b
      mail_left mark = mail_fifo receive_offsets mark stamp w b (omega arith) (λ i h. omega arith)

      go : (a : Arrival) → arrival w b ≡ a → fifo receive_offsets (stored a stamp w b) ≡ changed counted (arrival_change a (entry_of stamp w b)) (fifo receive_offsets b)
      go Ignored d = refl
      go Filtered d = refl
      go Appended d =
          append_law receive_offsets receive_proper mail usable.whole (entry_of stamp w b) (entry_width stamp w b) (omega (arith, has_room d, bounds usable))
          ∙ ap (λ (f : Fifo). accepts counted f (entry_of stamp w b)) (mail_left new_mark)
      go Dropped d = mail_left 0
      go Overwriting d =
          store_apart receive_offsets (entry_overwriting receive_offsets over (entry_of stamp w b)) _ _ (omega arith) (omega arith)
          ∙ overwrite_law receive_offsets receive_proper over over_usable.whole (entry_of stamp w b) (entry_width stamp w b)
          (omega (arith, is_full d, bounds over_usable)) (omega (arith, bounds over_usable))
          ∙ ap (λ (f : Fifo). overwrites counted f (entry_of stamp w b)) over_fifo
      go AlreadyListed d = mail_left new_mark

  -- the count of the overwritten grows on overwriting alone
  pub arrive_overwritten : word (arrived stamp w b) receive_overwritten ≡ overwritten_after counted (arrival_change (arrival w b) (entry_of stamp w b)) (word b receive_overwritten)
  unfolding stored
  arrive_overwritten = go (arrival w b)
    where
      mail_left : (mark : ℕ) → word (mailed mark stamp w b) receive_overwritten ≡ word b receive_overwritten
      mail_left mark = mail_before mark stamp w b receive_overwritten (omega arith)

      go : (a : Arrival) → word (stored a stamp w b) receive_overwritten ≡ overwritten_after counted (arrival_change a (entry_of stamp w b)) (word b receive_overwritten)
      go Ignored = refl
      go Filtered = refl
      go Appended = append_overwritten mail (entry_of stamp w b) ∙ mail_left new_mark
      go Dropped = mail_left 0
      go Overwriting =
          overwrite_overwritten over (entry_of stamp w b) over_usable.whole ∙ ap (λ (n : ℕ). counted n 1) (over_before receive_overwritten (omega arith))
      go AlreadyListed = mail_left new_mark

-- an arrival signals a parity error or nothing
pub arrive_signal : (w : ℕ) (b : List ℕ) → arrival_signal w b ≤ parity_error_signal
unfolding signalled
arrive_signal w b = go (arrival w b)
  where
    error : error_signal w b ≤ parity_error_signal
    error = omega (arith, mark_le (word b parity) w)

    dropped : (t : Bool) → cond t 0 (error_signal w b) ≤ parity_error_signal
    dropped true = zero-le
    dropped false = error

    go : (a : Arrival) → signalled a w b ≤ parity_error_signal
    go Ignored = zero-le
    go Filtered = zero-le
    go Appended = error
    go Dropped = dropped (eqb (word b receive_mode) 0)
    go Overwriting = error
    go AlreadyListed = error

-- ---- a FIFO read

pub read_keeps : {b : List ℕ} → Usable b → Usable (read_after b)
unfolding leasts greatests
read_keeps {b} u =
    let p : ℕ = next slots (word b receive_position) in
    let l = usable_level u (word b receive_level - 1) (omega (arith, bounds u)) in
    usable_behind (usable_store l receive_position p (omega arith) (in_range_lem receive_position p zero-le (omega arith))) receive_read _ (omega arith)

pub read_leaves : (b : List ℕ) → Leaves b (read_after b)
read_leaves b =
    store_leaves receive_read _ (omega arith) (store_leaves receive_position _ (omega arith) (store_leaves receive_level _ (omega arith) (same_left b)))

pub read_fifo : {b : List ℕ} → Usable b → 0 < word b receive_level → fifo receive_offsets (read_after b) ≡ gives counted (fifo receive_offsets b)
read_fifo {b} u h = take_law receive_offsets receive_proper b u.whole h

pub read_overwritten : (b : List ℕ) → word (read_after b) receive_overwritten ≡ word b receive_overwritten
read_overwritten b = search words

-- the answer is the oldest of the held entries
pub read_answer_lem : (b : List ℕ) → 0 < word b receive_level → read_answer b ≡ shown (get_or (fifo receive_offsets b).held 0 [])
read_answer_lem b h =
    ap (λ (l : List (List ℕ)). shown (get_or l 0 [])) (sym (take-oldest receive_ring b (word b receive_position) (word b receive_level) h))
