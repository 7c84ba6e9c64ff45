-- The ledger with the arrival's entry held, one access more: the entry moves up, or departs with its fate.
-- Assumes nothing.
use Prim.Native.Nat.{ℕ, ◌+◌}
use mathlib.Core.Path.{◌≡◌, refl, sym, ap, ◌∙◌, subst}
use mathlib.Core.Bool.{false, true≢false}
use mathlib.Core.List.{List, [], ◌∷◌, ◌++◌, map, append_assoc}
use native.Mathlib.Omega.{arith}
use borrow.Author.Tests.{ne_eqb}
use lib.Dec.{eqb}
use lib.ListN.{length, take, drop, length-append, length-drop}
use lib.Seq.{take-length, drop-length}
use Rattle.fifos.specs.Fifos.{Change, Stays, Adds, Overwrites, Takes, Clears, Begins}
use Rattle.fates.specs.Ledger.{Fate, TakenOut, Cleared, Overwritten, Accepted, Ledger, enters, depart, ledger_after}
use Rattle.fates.proofs.Ledger.{fated}
use Rattle.receive_changes.specs.Changes.{happening}
use Rattle.following.specs.Reasons.{is_begun, call_place, fate_reason}
use Rattle.following.specs.Course.{level_after, gone, waiting_after}
use Rattle.following.specs.Follows.{HeldBehind}
use Rattle.following.specs.declared.course.Course.{Course}
use Rattle.following.specs.declared.course.Course.TheVariants as course
use Rattle.following.proofs.Lookup.{OlderOnes, OlderGone, Found, found_one, found_all, gone_more}

-- how many are held
pub held_after : (n : ℕ) (c : Change) (l : Ledger) → level_after (length l.held) (happening c) ≡ length (ledger_after n c l).held
held_after n Stays l = refl
held_after n (Adds e) l = sym (length-append l.held _)
held_after n (Overwrites e) l = sym (length-append (drop 1 l.held) _ ∙ ap (λ (k : ℕ). k + 1) (length-drop 1 l.held))
held_after n (Takes e) l = sym (length-drop 1 l.held)
held_after n Clears l = sym (ap length (drop-length l.held))
held_after n Begins l = refl

-- ---- one access and the ledger, with the entry held

-- the entry is held behind so many older ones, and every other entry older than it is of an earlier place
pub record Behind (at ahead : ℕ) (l : Ledger) : Type 0 where
  pub held : HeldBehind at ahead l
  pub older : OlderOnes at held.older
  pub departed : OlderGone at l.departed

module _ (at : ℕ) where
  -- what a course says of the ledger
  abbrev pub InLedger : Ledger → Course → Type 0
  InLedger l (course.Coming n) = ⊥
  InLedger l (course.Waiting n) = Behind at n l
  InLedger l (course.Known r) = Found at l.departed r

  module _ (p : ℕ) where
    entered_behind : (n : ℕ) (l : Ledger) (e : List ℕ) → Behind at n l → Behind at n (enters p l e)
    entered_behind n l e b =
        let h = b.held in
        let x : Accepted = record { entry = e; place = p } in
        record {
          held =
              record {
                older = h.older;
                entry = h.entry;
                newer = h.newer ++ x ∷ [];
                is = ap (λ (s : List Accepted). s ++ x ∷ []) h.is ∙ append_assoc h.older (h.entry ∷ h.newer) (x ∷ []);
                many = h.many;
                place = h.place;
              };
          older = b.older;
          departed = b.departed;
        }

    entered_in : (l : Ledger) (e : List ℕ) (k : Course) → InLedger l k → InLedger (enters p l e) k
    entered_in l e (course.Coming n) i = i
    entered_in l e (course.Waiting n) i = entered_behind n l e i
    entered_in l e (course.Known r) i = i

    -- the oldest departs: the entry itself, or one of those ahead of it
    oldest_in : (n : ℕ) (l : Ledger) (w : Fate) → Behind at n l → InLedger (depart p l 1 w) (gone n (fate_reason w p))
    oldest_in n l w b = go h.older h.is h.many b.older
      where
        h : HeldBehind at n l
        h = b.held

        go : (older : List Accepted) → l.held ≡ older ++ h.entry ∷ h.newer → length older ≡ n → OlderOnes at older
            → InLedger (depart p l 1 w) (gone n (fate_reason w p))
        go [] e many o =
            rw (← many)
            (subst (λ (s : List Accepted). Found at (l.departed ++ map (fated p w) (take 1 s)) (fate_reason w p)) (sym e)
            (found_one at l.departed b.departed p w h.entry [] h.place))
        go (x ∷ older) e many o =
            let some : eqb n 0 ≡ false = ne_eqb n 0 (omega arith) in
            rw some
            (record {
              held =
                  record {
                    older = older;
                    entry = h.entry;
                    newer = h.newer;
                    is = ap (drop 1) e;
                    many = omega arith;
                    place = h.place;
                  };
              older = o.1;
              departed =
                  gone_more at l.departed (map (fated p w) (take 1 l.held)) b.departed
                  (subst (λ (s : List Accepted). OlderGone at (map (fated p w) (take 1 s))) (sym e) (o.0, tt));
            })

    cleared_in : (n : ℕ) (l : Ledger) → Behind at n l → Found at (depart p l (length l.held) Cleared).departed (fate_reason Cleared p)
    cleared_in n l b =
        let h = b.held in
        subst (λ (s : List Accepted). Found at (l.departed ++ map (fated p Cleared) s) (fate_reason Cleared p))
        (sym (take-length l.held ∙ h.is))
        (found_all at l.departed b.departed p Cleared h.older b.older h.entry h.newer h.place)

    -- every change but a power-up
    pub change_in : (n : ℕ) (l : Ledger) → Behind at n l → (c : Change) → is_begun c ≡ false → InLedger (ledger_after p c l) (waiting_after n (happening c) (call_place p))
    change_in n l b Stays z = b
    change_in n l b (Adds e) z = entered_behind n l e b
    change_in n l b (Overwrites e) z = entered_in (depart p l 1 Overwritten) e (gone n (fate_reason Overwritten p)) (oldest_in n l Overwritten b)
    change_in n l b (Takes e) z = oldest_in n l (TakenOut e) b
    change_in n l b Clears z = cleared_in n l b
    change_in n l b Begins z = absurd (true≢false z)
