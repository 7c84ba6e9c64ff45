-- The reason that a ledger gives of the entry accepted at a place: where it is found, and that a fate once given stays.
-- Assumes nothing.
use Prim.Native.Nat.{ℕ, suc, ◌≤◌, ◌<◌}
use mathlib.Core.Path.{◌≡◌, refl, sym, ap, ◌∙◌, subst}
use mathlib.Core.Bool.{Bool, true, false, cond, true≢false, ◌&&◌}
use mathlib.Core.List.{List, [], ◌∷◌, ◌++◌, map, append_assoc, append-nil}
use native.Mathlib.Omega.{arith}
use borrow.Author.Tests.{lt-ltb, le-ltb, eq-eqb, ne_eqb}
use lib.Dec.{eqb, ltb}
use lib.ListN.{length}
use Rattle.fifos.specs.Fifos.{Change, Stays, Adds, Overwrites, Takes, Clears, Begins}
use Rattle.fates.specs.History.{Telling}
use Rattle.fates.specs.Ledger.{Receiving, Fate, Accepted, Departed, Ledger, ledger_after, change_behind, ledger}
use Rattle.fates.specs.Theorem.{Every}
use Rattle.fates.proofs.Ledger.{map-append, fated}
use Rattle.following.specs.Reasons.{Span, is_begun, span, fate_reason, held_reason, among_held, among_departed, entry_reason}
use Rattle.following.specs.declared.course.Reason.{Reason}

pub both : (a b : Bool) → (a && b) ≡ true → (a ≡ true) × (b ≡ true)
both true true e = (refl, refl)
both true false e = absurd (true≢false (sym e))
both false b e = absurd (true≢false (sym e))

module _ (at : ℕ) where
  -- ---- entries of other places are passed over

  abbrev pub OlderOnes : List Accepted → Type 0
  OlderOnes xs = Every (λ x. x.place < at) xs

  abbrev pub OlderGone : List Departed → Type 0
  OlderGone ds = Every (λ d. d.accepted.place < at) ds

  pub past_held : (xs : List Accepted) → OlderOnes xs → (x : Accepted) (ys : List Accepted) (r : Reason) → x.place ≡ at → among_held at (xs ++ x ∷ ys) r ≡ r
  past_held [] h x ys r e = rw (eq-eqb x.place at e) refl
  past_held (y ∷ xs) h x ys r e =
      let low : y.place < at = h.0 in
      rw (ne_eqb y.place at (omega (arith, low))) (past_held xs h.1 x ys r e)

  pub past_departed : (ds : List Departed) → OlderGone ds → (es : List Departed) (r : Reason) → among_departed at (ds ++ es) r ≡ among_departed at es r
  past_departed [] h es r = refl
  past_departed (d ∷ ds) h es r =
      let low : d.accepted.place < at = h.0 in
      rw (ne_eqb d.accepted.place at (omega (arith, low))) (past_departed ds h.1 es r)

  -- ---- an entry with a fate keeps it

  -- the reason is found among those with a fate, whatever departs behind them
  abbrev pub Found : List Departed → Reason → Type 0
  Found ds q = (more : List Departed) (r : Reason) → among_departed at (ds ++ more) r ≡ q

  found_more : (ds es : List Departed) (q : Reason) → Found ds q → Found (ds ++ es) q
  found_more ds es q f more r = ap (λ (s : List Departed). among_departed at s r) (append_assoc ds es more) ∙ f (es ++ more) r

  found_after : (n : ℕ) (c : Change) (l : Ledger) (q : Reason) → is_begun c ≡ false → Found l.departed q → Found (ledger_after n c l).departed q
  found_after n Stays l q e f = f
  found_after n (Adds x) l q e f = f
  found_after n (Overwrites x) l q e f = found_more l.departed _ q f
  found_after n (Takes x) l q e f = found_more l.departed _ q f
  found_after n Clears l q e f = found_more l.departed _ q f
  found_after n Begins l q e f = absurd (true≢false e)

  -- one entry departs with a fate, behind older ones
  pub found_one : (ds : List Departed) → OlderGone ds → (n : ℕ) (w : Fate) (x : Accepted) (ys : List Accepted) → x.place ≡ at
      → Found (ds ++ map (fated n w) (x ∷ ys)) (fate_reason w n)
  found_one ds h n w x ys e more r =
      ap (λ (s : List Departed). among_departed at s r) (append_assoc ds (map (fated n w) (x ∷ ys)) more)
      ∙ past_departed ds h (map (fated n w) (x ∷ ys) ++ more) r
      ∙ rw (eq-eqb x.place at e) refl

  older_gone : (n : ℕ) (w : Fate) (xs : List Accepted) → OlderOnes xs → OlderGone (map (fated n w) xs)
  older_gone n w [] h = tt
  older_gone n w (x ∷ xs) h = (h.0, older_gone n w xs h.1)

  pub gone_more : (ds es : List Departed) → OlderGone ds → OlderGone es → OlderGone (ds ++ es)
  gone_more [] es p q = q
  gone_more (d ∷ ds) es p q = (p.0, gone_more ds es p.1 q)

  -- all depart with a fate
  pub found_all : (ds : List Departed) → OlderGone ds → (n : ℕ) (w : Fate) (xs : List Accepted) → OlderOnes xs → (x : Accepted) (ys : List Accepted)
      → x.place ≡ at → Found (ds ++ map (fated n w) (xs ++ x ∷ ys)) (fate_reason w n)
  found_all ds h n w xs o x ys e =
      subst (λ (s : List Departed). Found s (fate_reason w n))
      (append_assoc ds (map (fated n w) xs) (map (fated n w) (x ∷ ys))
      ∙ ap (λ (s : List Departed). ds ++ s) (sym (map-append (fated n w) xs (x ∷ ys))))
      (found_one (ds ++ map (fated n w) xs) (gone_more ds (map (fated n w) xs) h (older_gone n w xs o)) n w x ys e)

-- ---- the accesses that count

module _ (ch at : ℕ) where
  abbrev whole : List Telling → Span
  whole ts = record { told = ts; ended = 0 }

  -- before the arrival all count
  pub span_before : (ts : List Telling) → length ts < at → span ch at ts ≡ whole ts
  span_before [] h = refl
  span_before (t ∷ before) h =
      let none : ltb at (suc (length before)) ≡ false = le-ltb at (suc (length before)) (omega arith) in
      rw (span_before before (omega arith), none) (go (is_begun (change_behind Receiving ch before t)))
    where
      go : (b : Bool) → cond (b && false) (record { told = before; ended = suc (length before) }) (whole (t ∷ before)) ≡ whole (t ∷ before)
      go true = refl
      go false = refl

  -- where no power-up ended them, all count
  pub span_told : (ts : List Telling) → eqb (span ch at ts).ended 0 ≡ true → (span ch at ts).told ≡ ts
  span_told [] h = refl
  span_told (t ∷ before) h = go (eqb (span ch at before).ended 0) refl (is_begun (change_behind Receiving ch before t) && ltb at (suc (length before))) h
    where
      go : (b : Bool) → eqb (span ch at before).ended 0 ≡ b → (d : Bool) →
          let s : Span = cond b (cond d (record { told = before; ended = suc (length before) }) (whole (t ∷ before))) (span ch at before) in
          eqb s.ended 0 ≡ true → s.told ≡ t ∷ before
      go true e true h = absurd (true≢false (sym h ∙ ne_eqb (suc (length before)) 0 (omega arith)))
      go true e false h = refl
      go false e d h = absurd (true≢false (sym h ∙ e))

  -- behind a power-up none counts
  pub span_ended : (ts : List Telling) → eqb (span ch at ts).ended 0 ≡ false → (later : List Telling) → span ch at (later ++ ts) ≡ span ch at ts
  span_ended ts h [] = refl
  span_ended ts h (t ∷ later) =
      let e = span_ended ts h later in
      let z : eqb (span ch at (later ++ ts)).ended 0 ≡ false = ap (λ (s : Span). eqb s.ended 0) e ∙ h in
      rw z e

  abbrev FoundIn : Span → Reason → Type 0
  FoundIn s q = Found at (ledger Receiving ch s.told).departed q

  abbrev pub FoundBy : List Telling → Reason → Type 0
  FoundBy ts q = FoundIn (span ch at ts) q

  length_later : (later ts : List Telling) → length ts ≤ length (later ++ ts)
  length_later [] ts = omega arith
  length_later (t ∷ later) ts = omega (arith, length_later later ts)

  -- a fate stays, one access more
  found_next : (t : Telling) (ts : List Telling) (q : Reason) → at ≤ length ts → FoundBy ts q → FoundBy (t ∷ ts) q
  found_next t ts q here f =
      let low : ltb at (suc (length ts)) ≡ true = lt-ltb at (suc (length ts)) (omega arith) in
      rw low (by_end (eqb (span ch at ts).ended 0) refl)
    where
      by_begin : (span ch at ts).told ≡ ts → (b : Bool) → is_begun (change_behind Receiving ch ts t) ≡ b
          → FoundIn (cond (b && true) (record { told = ts; ended = suc (length ts) }) (whole (t ∷ ts))) q
      by_begin e true h = subst (λ (s : List Telling). Found at (ledger Receiving ch s).departed q) e f
      by_begin e false h =
          found_after at (suc (length ts)) (change_behind Receiving ch ts t) (ledger Receiving ch ts) q h
          (subst (λ (s : List Telling). Found at (ledger Receiving ch s).departed q) e f)

      by_end : (b : Bool) → eqb (span ch at ts).ended 0 ≡ b
          → FoundIn (cond b (cond (is_begun (change_behind Receiving ch ts t) && true) (record { told = ts; ended = suc (length ts) }) (whole (t ∷ ts))) (span ch at ts)) q
      by_end true e = by_begin (span_told ts e) (is_begun (change_behind Receiving ch ts t)) refl
      by_end false e = f

  found_stays : (ts : List Telling) (q : Reason) → at ≤ length ts → FoundBy ts q → (later : List Telling) → FoundBy (later ++ ts) q
  found_stays ts q here f [] = f
  found_stays ts q here f (t ∷ later) =
      let far : at ≤ length (later ++ ts) = omega (arith, length_later later ts) in
      found_next t (later ++ ts) q far (found_stays ts q here f later)

  -- the reason of an entry with a fate
  pub fate_stays : (ts : List Telling) (q : Reason) → at ≤ length ts → FoundBy ts q → (later : List Telling) → entry_reason ch at (later ++ ts) ≡ q
  fate_stays ts q here f later =
      let l : Ledger = ledger Receiving ch (span ch at (later ++ ts)).told in
      let r : Reason = among_held at l.held (held_reason (span ch at (later ++ ts)).ended) in
      ap (λ (s : List Departed). among_departed at s r) (sym (append-nil l.departed)) ∙ found_stays ts q here f later [] r
