-- `bench_card::judge` meets its contract: of a record of so many numbers it is known how many outputs they are.
-- Assumes nothing.
use Rattle.std.proofs.Common.{◌<◌, ◌≤◌, length, arith}
use Rattle.word.proofs.Branches.{branches}
use Rattle.bench_card.specs.Record.{recorded}
use Rattle.bench_card.specs.Verdict.{verdict, most}
use Rattle.bench_card.proofs.Records.{recorded-most, recorded-least}
use Rattle.bench_card.proofs.judge.Goals as goal

pub returns-then-outputs-gt-MOST_NUMBERS : goal.returns-then-outputs-gt-MOST_NUMBERS
unfolding verdict
returns-then-outputs-gt-MOST_NUMBERS c = let h : most < length (recorded c.args.outputs.now) = omega (arith, recorded-most c.args.outputs.now) in search branches

pub returns : goal.returns
unfolding verdict
returns c = let h : length (recorded c.args.outputs.now) ≤ most = omega (arith, recorded-least c.args.outputs.now) in rw c.compared.ensures (search branches)
