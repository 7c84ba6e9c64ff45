-- A change of every channel's block, channel after channel.
use Rattle.std.specs.Prelude.{ℕ, zero, suc, List}
use Rattle.frame.specs.Layout.{with_block}

-- channels 1 to n, each with the block that f gives it
unfoldable pub each_to : (List ℕ → ℕ → List ℕ) → ℕ → List ℕ → List ℕ
each_to f zero m = m
each_to f (suc n) m = with_block (each_to f n m) (suc n) (f (each_to f n m) (suc n))
