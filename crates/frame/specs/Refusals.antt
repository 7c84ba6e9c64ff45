-- When a module's memory is refused, and by which number (paper 01, "Memory and answer numbers", rows 1 to 3).
use Rattle.std.specs.Prelude.{ℕ, zero, suc, List, [], ◌∷◌, Bool, true, cond, ◌&&◌, ltb, length}
use Rattle.block.specs.Layout.{word}
use Rattle.block.specs.Ranges.{all_within, sound}
use Rattle.block.specs.Refusals.{first}
use Rattle.frame.specs.Layout.{count, layout_number, module_words, most, need, block}
use Rattle.frame.specs.Counters.{top}

-- "1 short: memory is below the module part, or below the need of its stored channel count where that is 1 to 12";
-- a count outside 1 to 12 is "2 unsound"
unfoldable pub frame_of : ℕ → ℕ → ℕ
frame_of n k =
    cond (ltb n module_words) 1
    (cond (ltb k 1) 2
    (cond (ltb most k) 2
    (cond (ltb n (need k)) 1 0)))

abbrev pub frame_refusal : List ℕ → ℕ
frame_refusal m = frame_of (length m) (word m count)

-- the settings of the whole module: "stamp resolution, whole module | 0 to 3", "fault threshold, whole module | 1 to 65,535"
abbrev pub most_resolution : ℕ
most_resolution = 3

abbrev pub least_threshold : ℕ
least_threshold = 1

abbrev pub most_threshold : ℕ
most_threshold = 65535

-- the ranges of the module part: count, stamp (any), resolution 0 to 3, fault threshold 1 to 65,535, "fault counters 0 to 65,536", and the
-- layout number, of which paper 02 (vii) says: "any other value there is unsound"
unfoldable pub part_leasts : List ℕ
part_leasts = 1 ∷ 0 ∷ 0 ∷ least_threshold ∷ 0 ∷ 0 ∷ 0 ∷ 0 ∷ 0 ∷ 0 ∷ 0 ∷ 0 ∷ 0 ∷ 0 ∷ 0 ∷ 0 ∷ layout_number ∷ []

unfoldable pub part_greatests : List ℕ
part_greatests =
    most ∷ 0xFFFF_FFFF ∷ most_resolution ∷ most_threshold
    ∷ top ∷ top ∷ top ∷ top ∷ top ∷ top ∷ top ∷ top ∷ top ∷ top ∷ top ∷ top
    ∷ layout_number ∷ []

-- whether every word of the module part is in its range
abbrev pub part_sound : List ℕ → Bool
part_sound m = all_within part_leasts part_greatests m module_words

-- the refusal of the module part: "a stored number of the module part .. is outside its range"
unfoldable pub part_refusal : List ℕ → ℕ
part_refusal m = first (frame_refusal m) (cond (part_sound m) 0 2)

-- the refusal of an addressed channel: "channel number outside 1 to the stored count", "or of the addressed channel"
unfoldable pub channel_of : ℕ → ℕ → ℕ → Bool → ℕ
channel_of part k ch ok =
    first part
    (cond (ltb ch 1) 3
    (cond (ltb k ch) 3
    (cond ok 0 2)))

abbrev pub address_refusal : List ℕ → ℕ → ℕ
address_refusal m ch = channel_of (part_refusal m) (word m count) ch (sound (block m ch))

-- whether the first n channels are sound
unfoldable pub sound_to : List ℕ → ℕ → Bool
sound_to m zero = true
sound_to m (suc n) = sound_to m n && sound (block m (suc n))

-- "(module-wide calls, which name no channel: any channel)"
unfoldable pub wide_refusal : List ℕ → ℕ
wide_refusal m = first (part_refusal m) (cond (sound_to m (word m count)) 0 2)
