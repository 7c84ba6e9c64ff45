-- The places of a ledger are those of the calls that accepted the entries and gave the fates, in order.
-- Assumes nothing.
use Prim.Native.Nat.{ℕ, zero, suc, ◌≤◌, ◌<◌}
use mathlib.Core.Path.{◌≡◌, refl, sym, ap, ◌∙◌, subst}
use mathlib.Core.List.{List, [], ◌∷◌, ◌++◌, map}
use native.Mathlib.Omega.{arith}
use lib.ListN.{length, take}
use Rattle.fifos.specs.Fifos.{Change, Stays, Adds, Overwrites, Takes, Clears, Begins}
use Rattle.fates.specs.History.{Telling}
use Rattle.fates.specs.Ledger.{Side, Fate, TakenOut, Cleared, Overwritten, Accepted, Departed, Ledger, ledger_after, accepted_after, change_behind, ledger, accepted_by, numbered}
use Rattle.fates.specs.Theorem.{Every}
use Rattle.fates.specs.Beyond.{Ordered, GivesFate, GivenAt, Placed}
use Rattle.fates.proofs.Ledger.{map-append, every_append, fated, numbered-after}

-- ---- lists

every_weaker : {A : Type 0} (P Q : A → Type 0) → ((x : A) → P x → Q x) → (s : List A) → Every P s → Every Q s
every_weaker P Q h [] p = tt
every_weaker P Q h (x ∷ s) p = (h x p.0, every_weaker P Q h s p.1)

every_take : {A : Type 0} (P : A → Type 0) (n : ℕ) (s : List A) → Every P s → Every P (take n s)
every_take P zero s p = tt
every_take P (suc n) [] p = tt
every_take P (suc n) (x ∷ s) p = (p.0, every_take P n s p.1)

every_last : {A : Type 0} (P : A → Type 0) (s t : List A) → Every P (s ++ t) → Every P t
every_last P [] t p = p
every_last P (x ∷ s) t p = every_last P s t p.1

every_map : {A B : Type 0} (P : B → Type 0) (f : A → B) (s : List A) → Every P (map f s) → Every (λ x. P (f x)) s
every_map P f [] p = tt
every_map P f (x ∷ s) p = (p.0, every_map P f s p.1)

map_every : {A B : Type 0} (P : B → Type 0) (f : A → B) (s : List A) → Every (λ x. P (f x)) s → Every P (map f s)
map_every P f [] p = tt
map_every P f (x ∷ s) p = (p.0, map_every P f s p.1)

-- places in order, with others behind them
ordered_append : (R : ℕ → ℕ → Type 0) (s t : List ℕ) → Ordered R s → Ordered R t → Every (λ x. Every (R x) t) s → Ordered R (s ++ t)
ordered_append R [] t p q h = q
ordered_append R (x ∷ s) t p q h = (every_append (R x) s t p.0 h.0, ordered_append R s t p.1 q h.1)

-- ---- the entries that were accepted, by the first n accesses and by one more

abbrev pub PlacesWithin : ℕ → List Accepted → Type 0
PlacesWithin n xs = Every (λ x. x.place ≤ n) xs

within-next : (n : ℕ) (xs : List Accepted) → PlacesWithin n xs → PlacesWithin (suc n) xs
within-next n xs h = every_weaker (λ x. x.place ≤ n) (λ x. x.place ≤ suc n) (λ x p. omega (arith, p)) xs h

within-after : (n : ℕ) (c : Change) (xs : List Accepted) → PlacesWithin n xs → PlacesWithin (suc n) (accepted_after (suc n) c xs)
within-after n Stays xs h = within-next n xs h
within-after n (Adds e) xs h = every_append (λ x. x.place ≤ suc n) xs _ (within-next n xs h) (omega arith, tt)
within-after n (Overwrites e) xs h = every_append (λ x. x.place ≤ suc n) xs _ (within-next n xs h) (omega arith, tt)
within-after n (Takes e) xs h = within-next n xs h
within-after n Clears xs h = within-next n xs h
within-after n Begins xs h = tt

one_more : (n : ℕ) (e : List ℕ) (xs : List Accepted) → PlacesWithin n xs → Ordered ◌<◌ (map (λ (x : Accepted). x.place) xs)
    → Ordered ◌<◌ (map (λ (x : Accepted). x.place) (xs ++ (record { entry = e; place = suc n } ∷ [])))
one_more n e xs h o =
    let place : Accepted → ℕ = λ x. x.place in
    subst (Ordered ◌<◌) (sym (map-append place xs (record { entry = e; place = suc n } ∷ [])))
    (ordered_append ◌<◌ (map place xs) (suc n ∷ []) o (tt, tt)
    (map_every (λ y. Every (◌<◌ y) (suc n ∷ [])) place xs
    (every_weaker (λ x. x.place ≤ n) (λ x. Every (◌<◌ x.place) (suc n ∷ [])) (λ x p. (omega (arith, p), tt)) xs h)))

ordered_after : (n : ℕ) (c : Change) (xs : List Accepted) → PlacesWithin n xs → Ordered ◌<◌ (map (λ (x : Accepted). x.place) xs)
    → Ordered ◌<◌ (map (λ (x : Accepted). x.place) (accepted_after (suc n) c xs))
ordered_after n Stays xs h o = o
ordered_after n (Adds e) xs h o = one_more n e xs h o
ordered_after n (Overwrites e) xs h o = one_more n e xs h o
ordered_after n (Takes e) xs h o = o
ordered_after n Clears xs h o = o
ordered_after n Begins xs h o = tt

-- ---- the fates, by the first n accesses and by one more

pub record InOrder (n : ℕ) (s : List ℕ) : Type 0 where
  within : Every (λ x. x ≤ n) s
  pub ordered : Ordered ◌≤◌ s

order_next : (n : ℕ) (s : List ℕ) → InOrder n s → InOrder (suc n) s
order_next n s h = record { within = every_weaker (λ x. x ≤ n) (λ x. x ≤ suc n) (λ x p. omega (arith, p)) s h.within; ordered = h.ordered }

module _ (n : ℕ) (w : Fate) where
  abbrev fresh : List Accepted → List ℕ
  fresh xs = map (λ (d : Departed). d.place) (map (fated (suc n) w) xs)

  fresh_above : (x : ℕ) → x ≤ suc n → (xs : List Accepted) → Every (◌≤◌ x) (fresh xs)
  fresh_above x h [] = tt
  fresh_above x h (y ∷ xs) = (h, fresh_above x h xs)

  fresh_order : (xs : List Accepted) → InOrder (suc n) (fresh xs)
  fresh_order [] = record { within = tt; ordered = tt }
  fresh_order (y ∷ xs) =
      let r = fresh_order xs in
      record { within = (omega arith, r.within); ordered = (fresh_above (suc n) (omega arith) xs, r.ordered) }

  order_more : (l : Ledger) (xs : List Accepted) → InOrder n (map (λ (d : Departed). d.place) l.departed)
      → InOrder (suc n) (map (λ (d : Departed). d.place) (l.departed ++ map (fated (suc n) w) xs))
  order_more l xs h =
      let place : Departed → ℕ = λ d. d.place in
      let s : List ℕ = map place l.departed in
      let f = fresh_order xs in
      subst (InOrder (suc n)) (sym (map-append place l.departed (map (fated (suc n) w) xs)))
      (record {
        within = every_append (λ x. x ≤ suc n) s (fresh xs) (order_next n s h).within f.within;
        ordered =
            ordered_append ◌≤◌ s (fresh xs) h.ordered f.ordered
            (every_weaker (λ x. x ≤ n) (λ x. Every (◌≤◌ x) (fresh xs)) (λ x p. fresh_above x (omega (arith, p)) xs) s h.within);
      })

order_after : (n : ℕ) (c : Change) (l : Ledger) → InOrder n (map (λ (d : Departed). d.place) l.departed)
    → InOrder (suc n) (map (λ (d : Departed). d.place) (ledger_after (suc n) c l).departed)
order_after n Stays l h = order_next n _ h
order_after n (Adds e) l h = order_next n _ h
order_after n (Overwrites e) l h = order_more n Overwritten l (take 1 l.held) h
order_after n (Takes e) l h = order_more n (TakenOut e) l (take 1 l.held) h
order_after n Clears l h = order_more n Cleared l (take (length l.held) l.held) h
order_after n Begins l h = record { within = tt; ordered = tt }

-- ---- a list of accesses

module _ (side : Side) (ch : ℕ) where
  -- the ledger has the entries that were accepted, in number order
  pub all_numbered : (es : List Telling) → numbered (ledger side ch es) ≡ accepted_by side ch es
  all_numbered [] = refl
  all_numbered (e ∷ before) =
      numbered-after _ (change_behind side ch before e) (ledger side ch before)
      ∙ ap (accepted_after _ (change_behind side ch before e)) (all_numbered before)

  pub within : (es : List Telling) → PlacesWithin (length es) (accepted_by side ch es)
  within [] = tt
  within (e ∷ before) = within-after (length before) (change_behind side ch before e) (accepted_by side ch before) (within before)

  ordered : (es : List Telling) → Ordered ◌<◌ (map (λ (x : Accepted). x.place) (accepted_by side ch es))
  ordered [] = tt
  ordered (e ∷ before) = ordered_after (length before) (change_behind side ch before e) (accepted_by side ch before) (within before) (ordered before)

  in_order : (es : List Telling) → InOrder (length es) (map (λ (d : Departed). d.place) (ledger side ch es).departed)
  in_order [] = record { within = tt; ordered = tt }
  in_order (e ∷ before) = order_after (length before) (change_behind side ch before e) (ledger side ch before) (in_order before)

  -- one access more
  later_list : (e : Telling) (es : List Telling) (d : Departed) → GivenAt side ch es d → GivenAt side ch (e ∷ es) d
  later_list e es d g =
      record {
        after = e ∷ g.after;
        telling = g.telling;
        before = g.before;
        is = ap (λ (s : List Telling). e ∷ s) g.is;
        place = g.place;
        gives = g.gives;
        later = g.later;
      }

  module _ (e : Telling) (before : List Telling) where
    abbrev l : Ledger
    l = ledger side ch before

    held-within : PlacesWithin (length before) l.held
    held-within =
        every_last (λ x. x.place ≤ length before) (map (λ (d : Departed). d.accepted) l.departed) l.held
        (subst (PlacesWithin (length before)) (sym (all_numbered before)) (within before))

    -- the fates that this access gives
    newly : (w : Fate) (n : ℕ) → GivesFate (change_behind side ch before e) w
        → Every (GivenAt side ch (e ∷ before)) (map (fated (suc (length before)) w) (take n l.held))
    newly w n g =
        map_every (GivenAt side ch (e ∷ before)) (fated (suc (length before)) w) (take n l.held)
        (every_weaker (λ x. x.place ≤ length before) (λ x. GivenAt side ch (e ∷ before) (fated (suc (length before)) w x))
        (λ x p. record { after = []; telling = e; before = before; is = refl; place = refl; gives = g; later = omega (arith, p) }) (take n l.held)
        (every_take (λ x. x.place ≤ length before) n l.held held-within))

    given_after : Every (GivenAt side ch before) l.departed → (c : Change) → change_behind side ch before e ≡ c
        → Every (GivenAt side ch (e ∷ before)) (ledger_after (suc (length before)) c l).departed
    given_after g c q = go c q
      where
        older : Every (GivenAt side ch (e ∷ before)) l.departed
        older = every_weaker (GivenAt side ch before) (GivenAt side ch (e ∷ before)) (later_list e before) l.departed g

        more : (w : Fate) (n : ℕ) → GivesFate (change_behind side ch before e) w
            → Every (GivenAt side ch (e ∷ before)) (l.departed ++ map (fated (suc (length before)) w) (take n l.held))
        more w n h = every_append (GivenAt side ch (e ∷ before)) l.departed _ older (newly w n h)

        go : (c : Change) → change_behind side ch before e ≡ c → Every (GivenAt side ch (e ∷ before)) (ledger_after (suc (length before)) c l).departed
        go Stays q = older
        go (Adds x) q = older
        go (Overwrites x) q = more Overwritten 1 (subst (λ (z : Change). GivesFate z Overwritten) (sym q) refl)
        go (Takes x) q = more (TakenOut x) 1 (subst (λ (z : Change). GivesFate z (TakenOut x)) (sym q) refl)
        go Clears q = more Cleared (length l.held) (subst (λ (z : Change). GivesFate z Cleared) (sym q) refl)
        go Begins q = tt

  given : (es : List Telling) → Every (GivenAt side ch es) (ledger side ch es).departed
  given [] = tt
  given (e ∷ before) = given_after e before (given before) (change_behind side ch before e) refl

  pub placed : (es : List Telling) → Placed side ch es
  placed es =
      record {
        accepted = subst (λ (xs : List Accepted). Ordered ◌<◌ (map (λ (x : Accepted). x.place) xs)) (sym (all_numbered es)) (ordered es);
        given = given es;
        in_order = (in_order es).ordered;
      }
