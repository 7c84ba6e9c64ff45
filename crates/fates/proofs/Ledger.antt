-- Where every change fits what is held, the ledger of a FIFO accounts for every entry.
-- Assumes nothing.
use Prim.Native.Nat.{ℕ, zero, suc, ◌+◌, ◌<◌}
use mathlib.Core.Path.{◌≡◌, refl, sym, ap, ◌∙◌}
use mathlib.Core.Bool.{Bool, true, false, cond}
use mathlib.Core.List.{List, [], ◌∷◌, ◌++◌, map, append_assoc}
use native.Mathlib.Omega.{arith}
use lib.ListN.{length, get_or, take, drop, length-append, take-append-drop}
use Rattle.fifos.specs.Fifos.{Fifo, Change, Stays, Adds, Overwrites, Takes, Clears, Begins, changed, overwritten_after}
use Rattle.fates.specs.Ledger.{Side, Receiving, Transmitting, aside, Fate, TakenOut, Cleared, Overwritten, Accepted, Departed, Ledger, enters, depart, ledger_after, accepted_after, Fits, numbered, entries, by_fate, number}
use Rattle.fates.specs.Theorem.{Every, AsAccepted, Accounts}

-- ---- lists

pub map-append : {A B : Type 0} (f : A → B) (s t : List A) → map f (s ++ t) ≡ map f s ++ map f t
map-append f [] t = refl
map-append f (x ∷ s) t = ap (λ (u : List _). f x ∷ u) (map-append f s t)

map-drop : {A B : Type 0} (f : A → B) (n : ℕ) (s : List A) → map f (drop n s) ≡ drop n (map f s)
map-drop f zero s = refl
map-drop f (suc n) [] = refl
map-drop f (suc n) (x ∷ s) = map-drop f n s

pub map-length : {A B : Type 0} (f : A → B) (s : List A) → length (map f s) ≡ length s
map-length f [] = refl
map-length f (x ∷ s) = ap suc (map-length f s)

drop_all : {A : Type 0} (s : List A) → drop (length s) s ≡ []
drop_all [] = refl
drop_all (x ∷ s) = drop_all s

take_all : {A : Type 0} (s : List A) → length (take (length s) s) ≡ length s
take_all [] = refl
take_all (x ∷ s) = ap suc (take_all s)

take_one : {A : Type 0} (s : List A) → 0 < length s → length (take 1 s) ≡ 1
take_one [] h = absurd (omega arith)
take_one (x ∷ s) h = refl

pub every_append : {A : Type 0} (P : A → Type 0) (s t : List A) → Every P s → Every P t → Every P (s ++ t)
every_append P [] t p q = q
every_append P (x ∷ s) t p q = (p.0, every_append P s t p.1 q)

-- ---- the entries in number order

module _ (at : ℕ) where
  -- an entry with a fate that the call at this place gives
  abbrev pub fated : Fate → Accepted → Departed
  fated w x = record { accepted = x; fate = w; place = at }

  unfated : (w : Fate) (s : List Accepted) → map (λ (d : Departed). d.accepted) (map (fated w) s) ≡ s
  unfated w [] = refl
  unfated w (x ∷ s) = ap (λ (t : List Accepted). x ∷ t) (unfated w s)

  -- a fate leaves the entry its number
  depart_numbered : (l : Ledger) (n : ℕ) (w : Fate) → numbered (depart at l n w) ≡ numbered l
  depart_numbered l n w =
      let back : List Departed → List Accepted = map (λ (d : Departed). d.accepted) in
      ap (λ (s : List Accepted). s ++ drop n l.held) (map-append (λ (d : Departed). d.accepted) l.departed (map (fated w) (take n l.held)) ∙ ap (λ (s : List Accepted). back l.departed ++ s) (unfated w (take n l.held)))
      ∙ append_assoc (back l.departed) (take n l.held) (drop n l.held)
      ∙ ap (λ (s : List Accepted). back l.departed ++ s) (take-append-drop n l.held)

  enters_numbered : (l : Ledger) (e : List ℕ) → numbered (enters at l e) ≡ numbered l ++ (record { entry = e; place = at } ∷ [])
  enters_numbered l e = sym (append_assoc (map (λ (d : Departed). d.accepted) l.departed) l.held (record { entry = e; place = at } ∷ []))

  pub numbered-after : (c : Change) (l : Ledger) → numbered (ledger_after at c l) ≡ accepted_after at c (numbered l)
  numbered-after Stays l = refl
  numbered-after (Adds e) l = enters_numbered l e
  numbered-after (Overwrites e) l =
      enters_numbered (depart at l 1 Overwritten) e
      ∙ ap (λ (s : List Accepted). s ++ (record { entry = e; place = at } ∷ [])) (depart_numbered l 1 Overwritten)
  numbered-after (Takes e) l = depart_numbered l 1 (TakenOut e)
  numbered-after Clears l = depart_numbered l (length l.held) Cleared
  numbered-after Begins l = refl

-- ---- how many have a fate

number_append : (is : Fate → Bool) (s t : List Departed) → number is (s ++ t) ≡ number is s + number is t
number_append is [] t = omega arith
number_append is (d ∷ s) t =
    let h = number_append is s t in
    let one : ℕ = cond (is d.fate) 1 0 in
    let e : one + (number is s + number is t) ≡ one + number is s + number is t = omega arith in
    ap (λ (n : ℕ). one + n) h ∙ e

number_given : (is : Fate → Bool) (at : ℕ) (w : Fate) (s : List Accepted) (t : Bool) → is w ≡ t → number is (map (fated at w) s) ≡ cond t (length s) 0
number_given is at w [] true e = refl
number_given is at w [] false e = refl
number_given is at w (x ∷ s) true e = rw e (omega (arith, number_given is at w s true e))
number_given is at w (x ∷ s) false e = rw e (omega (arith, number_given is at w s false e))

-- ---- one call

module _ {l : Ledger} {f : Fifo} {o : ℕ} (a : Accounts l f o) (at : ℕ) where
  as_many : length l.held ≡ length f.held
  as_many = sym (map-length (λ (x : Accepted). x.entry) l.held) ∙ ap length a.held

  -- k of those held get a fate, and f' and o' are what becomes of the FIFO
  departs : (w : Fate) (n k : ℕ) (f' : Fifo) (o' : ℕ) → length (take n l.held) ≡ k → drop n f.held ≡ f'.held → f.accepted ≡ f'.accepted
      → f.taken + cond (by_fate true false false w) k 0 ≡ f'.taken → f.cleared + cond (by_fate false true false w) k 0 ≡ f'.cleared → o + cond (by_fate false false true w) k 0 ≡ o'
      → Accounts (depart at l n w) f' o'
  departs w n k f' o' many h x t c r =
      record {
        held = map-drop (λ (y : Accepted). y.entry) n l.held ∙ ap (drop n) a.held ∙ h;
        accepted = ap length (depart_numbered at l n w) ∙ a.accepted ∙ x;
        taken = counts (by_fate true false false) f.taken a.taken ∙ t;
        cleared = counts (by_fate false true false) f.cleared a.cleared ∙ c;
        overwritten = counts (by_fate false false true) o a.overwritten ∙ r;
      }
    where
      counts : (is : Fate → Bool) (before : ℕ) → number is l.departed ≡ before
          → number is (l.departed ++ map (fated at w) (take n l.held)) ≡ before + cond (is w) k 0
      counts is before e =
          number_append is l.departed (map (fated at w) (take n l.held))
          ∙ ap (λ (b : ℕ). b + number is (map (fated at w) (take n l.held))) e
          ∙ ap (λ (b : ℕ). before + b) (number_given is at w (take n l.held) (is w) refl ∙ ap (λ (j : ℕ). cond (is w) j 0) many)

  entered_accounts : (e : List ℕ) → Accounts (enters at l e) (changed ◌+◌ (Adds e) f) o
  entered_accounts e =
      let x : Accepted = record { entry = e; place = at } in
      record {
        held = map-append (λ (y : Accepted). y.entry) l.held (x ∷ []) ∙ ap (λ (s : List (List ℕ)). s ++ e ∷ []) a.held;
        accepted = ap length (enters_numbered at l e) ∙ length-append (numbered l) (x ∷ []) ∙ ap (λ (n : ℕ). n + 1) a.accepted;
        taken = a.taken;
        cleared = a.cleared;
        overwritten = a.overwritten;
      }

  -- the oldest is overwritten
  overwritten_accounts : 0 < length f.held
      → Accounts (depart at l 1 Overwritten) (record { held = drop 1 f.held; accepted = f.accepted; taken = f.taken; cleared = f.cleared }) (o + 1)
  overwritten_accounts h =
      departs Overwritten 1 1 _ (o + 1) (take_one l.held (omega (arith, as_many))) refl refl (omega arith) (omega arith) refl

pub accounts_after : {l : Ledger} {f : Fifo} {o : ℕ} → Accounts l f o → (side : Side) (at : ℕ) (c : Change) → Fits side c f
    → Accounts (ledger_after at c l) (changed ◌+◌ c f) (overwritten_after ◌+◌ c o)
accounts_after a side at Stays h = a
accounts_after a side at (Adds e) h = entered_accounts a at e
accounts_after a Receiving at (Overwrites e) h = entered_accounts (overwritten_accounts a at h) at e
accounts_after a Transmitting at (Overwrites e) h = absurd h
accounts_after {l} {f} {o} a side at (Takes e) h =
    departs a at (TakenOut e) 1 1 (changed ◌+◌ (Takes e) f) o (take_one l.held (omega (arith, h.0, as_many a at))) refl refl refl (omega arith) (omega arith)
accounts_after {l} {f} {o} a side at Clears h =
    departs a at Cleared (length l.held) (length f.held) (changed ◌+◌ Clears f) o (take_all l.held ∙ as_many a at)
    (ap (λ (n : ℕ). drop n f.held) (as_many a at) ∙ drop_all f.held) refl (omega arith) refl (omega arith)
accounts_after a side at Begins h = record { held = refl; accepted = refl; taken = refl; cleared = refl; overwritten = refl }

-- ---- what was taken out

module _ (side : Side) where
  abbrev GivenBack : Departed → Type 0
  GivenBack d = AsAccepted side d.accepted.entry d.fate

  -- a fate that gives nothing out
  none_given : (at : ℕ) (w : Fate) (s : List Accepted) → ((x : List ℕ) → AsAccepted side x w) → Every GivenBack (map (fated at w) s)
  none_given at w [] h = tt
  none_given at w (x ∷ s) h = (h x.entry, none_given at w s h)

  first_given : (at : ℕ) (e : List ℕ) (s : List Accepted) → aside side e ≡ aside side (get_or (entries s) 0 [])
      → Every GivenBack (map (fated at (TakenOut e)) (take 1 s))
  first_given at e [] h = tt
  first_given at e (x ∷ s) h = (h, tt)

  pub given_back : {l : Ledger} {f : Fifo} {o : ℕ} → Accounts l f o → (at : ℕ) (c : Change) → Fits side c f → Every GivenBack l.departed
      → Every GivenBack (ledger_after at c l).departed
  given_back a at Stays h g = g
  given_back a at (Adds e) h g = g
  given_back {l} a at (Overwrites e) h g = every_append GivenBack l.departed _ g (none_given at Overwritten (take 1 l.held) (λ x. tt))
  given_back {l} a at (Takes e) h g =
      every_append GivenBack l.departed _ g
      (first_given at e l.held (h.1 ∙ ap (λ (s : List (List ℕ)). aside side (get_or s 0 [])) (sym a.held)))
  given_back {l} a at Clears h g = every_append GivenBack l.departed _ g (none_given at Cleared (take (length l.held) l.held) (λ x. tt))
  given_back a at Begins h g = tt
