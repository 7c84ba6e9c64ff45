use Rattle.std.proofs.Common.{◌≡◌, ℕ, ◌+◌, List, [], ◌∷◌, ◌++◌, None, Some, length, refl, sym, ap, ◌∙◌, subst, append_assoc, append-nil, arith, take, of_calls}
use Rattle.std.proofs.KnownBytes.{Consumes-nil, Consumes-trans}
use Rattle.std.proofs.lemmas.List.{length_push}
use Rattle.std.proofs.lemmas.List.Elements.{All-nil, All-push}
use Rattle.std.specs.List.{FoldsTo, concat}
use Rattle.std.specs.Io.KnownBytes.{Consumes}
use Rattle.streams.proofs.each_part.Goals as goal
use Rattle.streams.proofs.each_part.Goals.{else-loop-test, then-loop-test+then-n-lt4096}

FoldsTo-push : {A B : Type 0} (R : A → B → A → Type 0) (xs : List B) (f g h : A) (x : B) → FoldsTo R f xs g → R g x h → FoldsTo R f (xs ++ x ∷ []) h
FoldsTo-push R [] f g h x p q = (h, subst (λ k. R k x h) (sym p) q, refl)
FoldsTo-push R (y ∷ ys) f g h x p q = (p.0, p.1, FoldsTo-push R ys p.0 g h x p.2 q)

concat-push : (xs : List (List ℕ)) (x : List ℕ) → concat (xs ++ x ∷ []) ≡ concat xs ++ x
concat-push [] x = append-nil x
concat-push (y ∷ ys) x = ap (λ l. y ++ l) (concat-push ys x) ∙ sym (append_assoc y (concat ys) x)

pub loop-init : goal.loop-init
loop-init g c = (search of_calls, ([], refl, refl, Consumes-nil _, All-nil (λ part. length part ≡ 4096)))

pub loop-preserved : goal.loop-preserved
loop-preserved g c =
    let part = take c.read_full-n.result c.read_full-n.new.buffer in
    let at = c.loop.invariant.1 in
    let full : length part ≡ 4096 = sym c.read_full-n.ensures.part ∙ omega (arith, c.read_full-n.ensures.within, c.read_full-n.auto.buffer) in (
      search of_calls,
      (
        at.0 ++ part ∷ [],
        length_push at.0 part ∙ ap (λ n. n + 1) at.1,
        FoldsTo-push _ at.0 _ _ _ part at.2 (record { shown = _; shows = refl; called = c.take.ensures }),
        subst (Consumes _ _) (sym (concat-push at.0 part)) (Consumes-trans _ _ _ _ _ at.3 c.read_full-n.ensures.taken),
        All-push (λ part. length part ≡ 4096) at.0 part at.4 full,
      ),
    )

pub returns : goal.returns
returns g c = let at = c.loop.invariant.1 in elim c.loop-test.branch [
  | else-loop-test w ↦ record {
    full = at.0;
    short = None;
    last = c.loop.take;
    calls = rw (append-nil at.0) at.2;
    lost = rw (w.input-is, append-nil at.0) at.3;
    filled = at.4;
    ends = at.1 ∙ omega (arith, w.loop-test.false, c.loop.auto.counter-end);
  }
  | then-loop-test+then-n-lt4096 w ↦
      let part = take w.read_full-n.result w.read_full-n.new.buffer in record {
        full = at.0;
        short = Some part;
        last = w.take.new.self;
        calls = FoldsTo-push _ at.0 _ _ _ part at.2 (record { shown = _; shows = refl; called = w.take.ensures });
        lost = rw w.input-is (subst (Consumes _ _) (sym (concat-push at.0 part)) (Consumes-trans _ _ _ _ _ at.3 w.read_full-n.ensures.taken));
        filled = at.4;
        ends = omega (arith, w.if-n-lt4096.true, w.read_full-n.ensures.part);
      }
]
