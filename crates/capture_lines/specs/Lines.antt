-- The numbers of a line that tells what stands at an offset of a capture.
use Rattle.std.specs.Prelude.{◌≡◌, ℕ, ◌+◌, ◌%◌, ◌^◌, cond, List, [], ◌∷◌, ◌==◌}
use Rattle.capture.specs.Format.{arrival}
use Rattle.capture.specs.declared.reading.Answer.{Answer}
use Rattle.capture_lines.specs.declared.Line.{Line}
use Rattle.capture_lines.specs.declared.Line.TheVariants.{Last, Image, Arrival}

-- an offset of the bytes at hand, which begin `base` bytes into the capture, as one of the capture
abbrev pub offset_in : ℕ → ℕ → ℕ
offset_in base offset = (base + offset) % 2 ^ 64

-- `NUMBER 0 OFFSET` at the end and at a bad record; else `0 KIND NEXT CHANNEL`, and an arrival's word and stamp behind it
unfoldable pub line_of : ℕ → Answer → List ℕ
line_of base a =
    cond (a.kind == 0) (a.number ∷ 0 ∷ offset_in base a.next.offset ∷ [])
    (cond (a.kind == arrival)
    (0 ∷ a.kind ∷ offset_in base a.next.offset ∷ a.channel ∷ a.word ∷ a.stamp ∷ [])
    (0 ∷ a.kind ∷ offset_in base a.next.offset ∷ a.channel ∷ []))

-- the numbers of a line
abbrev pub numbers_of : Line → List ℕ
numbers_of (Last numbers) = numbers
numbers_of (Image numbers) = numbers
numbers_of (Arrival numbers) = numbers

abbrev pub Lists : Line → List ℕ → Type 0
Lists line l = numbers_of line ≡ l
