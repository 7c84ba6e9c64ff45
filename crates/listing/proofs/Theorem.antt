-- What a service desk may rely on in mailbox mode, for every list of accesses, every memory and every number of lent words.
-- Assumes nothing.
use Prim.Native.Nat.{ℕ, suc, ◌/◌, ◌%◌, ◌≤◌, ◌<◌}
use mathlib.Core.Path.{◌≡◌, refl, sym, ap, ◌∙◌, subst}
use mathlib.Core.List.{List, ◌++◌}
use native.Mathlib.Omega.{arith}
use borrow.Author.Tests.{le-ltb}
use lib.Dec.{eqb}
use lib.ListN.{length, take, drop, length-take, take-append-drop}
use Rattle.ring.specs.Ring.{words}
use Rattle.block.specs.Layout.{word, indexes, last_index}
use Rattle.fifos.specs.Mailboxes.{mailbox_at, new_mark, is_new}
use Rattle.channel_calls.specs.Refusals.{above}
use Rattle.channel_calls.specs.declared.calls.ReceiveCall.TheVariants.{ReadMailbox}
use Rattle.channel_calls.specs.declared.calls.ChannelCall.TheVariants.{Receive}
use Rattle.channel_calls.specs.Answer.{Answer}
use Rattle.channel_laws.specs.Listing.{ListedBy}
use Rattle.frame.specs.Layout.{count, need, block}
use Rattle.module.specs.OnChannel.{on_refusal}
use Rattle.module.specs.Perform.{answer}
use Rattle.module.specs.declared.calls.Call.TheVariants.{On}
use Rattle.registers.specs.declared.accesses.Access.{Access}
use Rattle.registers.specs.declared.accesses.Access.TheVariants.{Direct}
use Rattle.module_laws.specs.Sane.{Sane}
use Rattle.module_laws.proofs.Sane.{sane_address}
use Rattle.module_laws.proofs.Lent.{Alike, front, front_on}
use Rattle.fates.specs.Run.{run, answer_behind, told_by}
use Rattle.fates.specs.History.{history}
use Rattle.fates.specs.Agrees.{Agrees}
use Rattle.fates.specs.Theorem.{Started}
use Rattle.fates.proofs.Theorem.{agrees}
use Rattle.fates.proofs.Along.{along}
use Rattle.listing.specs.Marks.{marked}
use Rattle.listing.specs.Theorem.{Shows, Reliable, MailboxRules}
use Rattle.listing.proofs.Marks.{Holds, marks, Told}
use Rattle.listing.proofs.Rules.{told_at, mark_stays, listed_once, listed_few}

-- a mailbox read shows the stored mark
reads_mark : {m : List ℕ} → Sane m → (ch i : ℕ) → 1 ≤ ch → ch ≤ word m count → i < indexes
    → Shows (answer (On ch (Receive (ReadMailbox i))) m) (is_new i (block m ch))
unfolding on_refusal above words
reads_mark {m} s ch i low high h =
    let x : ℕ = word (block m ch) (mailbox_at i) in
    let d : x % 4 / new_mark % 2 ≡ x / new_mark % 2 = omega arith in
    record {
      status = x % 4;
      word = word (block m ch) (suc (mailbox_at i));
      stamp = word (block m ch) (suc (suc (mailbox_at i)));
      is = rw (sane_address s low high, le-ltb last_index i (omega arith)) refl;
      mark = ap (λ (n : ℕ). eqb n 1) d;
    }

module _ (m : List ℕ) (accesses : List (ℕ × Access)) (s : Started m accesses) (ch i : ℕ) (low : 1 ≤ ch) (high : ch ≤ (history (told_by m accesses)).count) (below : i < indexes) where
  g : Agrees (history (told_by m accesses)) (run m accesses)
  g = agrees m accesses s

  p : Holds (told_by m accesses) (run m accesses)
  p = along marks m accesses s

  shown : (n : ℕ) → need (history (told_by m accesses)).count ≤ n → Shows (answer_behind m accesses n (Direct (On ch (Receive (ReadMailbox i))))) (marked ch i (told_by m accesses))
  shown n enough =
      let l : List ℕ = take n (run m accesses) in
      let whole : l ++ drop n (run m accesses) ≡ run m accesses = take-append-drop n (run m accesses) in
      let same : Sane (l ++ drop n (run m accesses)) = subst Sane (sym whole) g.sane in
      let room : need (word (run m accesses) count) ≤ length (run m accesses) = g.sane.frame.room in
      let needed : need (word (run m accesses) count) ≤ n = rw g.count enough in
      let fits : need (word (run m accesses) count) ≤ length l = omega (arith, length-take n (run m accesses)) in
      let alike : Alike (On ch (Receive (ReadMailbox i))) l (drop n (run m accesses)) = front_on (front l (drop n (run m accesses)) same (rw whole fits)) ch (Receive (ReadMailbox i)) in
      subst (λ (a : Answer). Shows a (marked ch i (told_by m accesses)))
      (sym (alike.answers ∙ ap (answer (On ch (Receive (ReadMailbox i)))) whole))
      (subst (Shows (answer (On ch (Receive (ReadMailbox i))) (run m accesses))) (p.stored ch i low high below)
      (reads_mark g.sane ch i low (rw g.count high) below))

  pub reliable : Reliable m accesses ch i
  reliable =
      record {
        shown = shown;
        by_mark = λ later before e is x.
            subst (λ (j : ℕ). ListedBy (marked ch j before) x.outcome) x.of_index
            (told_at ch i later before e (subst Told is p.told) ch x.word x.outcome x.tells x.mode);
        once = λ later between before e f is x y u. listed_once ch i below later between before e f (subst Told is p.told) x y u;
        few = λ mode. listed_few ch i below (told_by m accesses) p.told mode;
        stays = λ later before e is x u. ap (marked ch i) is ∙ mark_stays ch i below later before e (subst Told is p.told) x u;
      }

pub mailbox_rules : MailboxRules
mailbox_rules m accesses s ch low high i below = reliable m accesses s ch i low high below
