-- "each answer is the one the description gives": what an answer is, by the history before the access (demand 3).
use Rattle.std.specs.Prelude.{ℕ, zero, suc, ◌+◌, ◌<◌, ◌≡◌, Bool, false, cond, not, ◌&&◌, ◌||◌, eqb, ltb}
use Rattle.block.specs.Layout.{word, transmitter}
use Rattle.frame.specs.Layout.{most, need}
use Rattle.channel_groups.specs.Told.{Told}
use Rattle.channel_calls.specs.Answers.{answer_unless, is_refused}
use Rattle.channel_calls.specs.Answer.{Answer, Done, Refused, Value}
use Rattle.channel_calls.specs.declared.calls.ChannelCall.{ChannelCall}
use Rattle.wide.specs.Part.{WideTold}
use Rattle.module.specs.declared.calls.Call.{Call}
use Rattle.module.specs.declared.calls.Call.TheVariants.{PowerUp, Reset, Wide, On}
use Rattle.register_map.specs.Shown.{shown}
use Rattle.register_map.specs.Turned.{read_turned, write_turned}
use Rattle.registers.specs.Masked.{bit_if}
use Rattle.registers.specs.declared.accesses.Access.{Access}
use Rattle.registers.specs.declared.accesses.Access.TheVariants.{Direct, ReadRegister, WriteRegister}
use Rattle.register_map.specs.declared.map.Control.{Control}
use Rattle.register_map.specs.declared.map.Control.TheVariants.{TriggerEach, PauseEach, StopEach}
use Rattle.register_map.specs.declared.shown.Bits.{Bits}
use Rattle.register_map.specs.Turns.{Turned, NotTurned, OneCall, EachNamed}
use Rattle.module_laws.specs.Reduced.{reduced}
use Rattle.fates.specs.History.{History}

-- "1 to 12"
abbrev pub is_count : ℕ → Bool
is_count k = not (ltb k 1) && not (ltb most k)

-- the words that a call needs: "at power-up only this: .. the need of the asked count, where that is 1 to 12"
abbrev pub need_of : Call → History → ℕ
need_of (PowerUp k) h = cond (is_count k) (need k) 0
need_of Reset h = need h.count
need_of (Wide k) h = need h.count
need_of (On ch k) h = need h.count

-- "channel number outside 1 to the stored count"
abbrev pub is_outside : Call → History → Bool
is_outside (PowerUp k) h = false
is_outside Reset h = false
is_outside (Wide k) h = false
is_outside (On ch k) h = ltb ch 1 || ltb h.count ch

-- a call that 1 and 3 do not refuse: "a count outside 1 to 12" is 4; the stamp's calls and the threshold's; a call on a channel, which 1 to 3
-- never refuse then
abbrev pub CallTold : Call → Answer → History → Type 0
CallTold (PowerUp k) a h = a ≡ answer_unless (cond (is_count k) 0 4) Done
CallTold Reset a h = a ≡ Done
CallTold (Wide k) a h = WideTold h.part k a
CallTold (On ch k) a h = Told (reduced (h.kept ch)) k a × ((r : ℕ) → a ≡ Refused r → 3 < r)

-- the answer a of a call c that is lent n words. "Tested in number order; the first that applies is given": 1 exactly where n is below the
-- need, 3 exactly for a channel outside, and 2 never
abbrev pub CallAnswered : ℕ → Call → Answer → History → Type 0
CallAnswered n c a h = cond (ltb n (need_of c h)) (a ≡ Refused 1) (cond (is_outside c h) (a ≡ Refused 3) (CallTold c a h))

-- ---- registers

-- a masked write that the module part does not refuse: a channel refuses where its number is above the count, and a trigger "refused with 5 if
-- the transmitter is off"
abbrev pub refuses_by : Control → ℕ → History → Bool
refuses_by TriggerEach ch h = ltb h.count ch || eqb (word (h.kept ch).settings transmitter) 0
refuses_by PauseEach ch h = ltb h.count ch
refuses_by StopEach ch h = ltb h.count ch

-- "the mask of those that refused", of the named ones among channels 1 to n
abbrev pub mask_to : Control → ℕ → History → ℕ → ℕ
mask_to c mask h zero = 0
mask_to c mask h (suc n) = mask_to c mask h n + bit_if mask (suc n) (refuses_by c (suc n) h)

-- a register shows what the call's answer, by the history, has at its bits
pub record ShownTold (n ch : ℕ) (k : ChannelCall) (bits : Bits) (a : Answer) (h : History) : Type 0 where
  pub answer : Answer
  pub told : CallAnswered n (On ch k) answer h
  pub is : a ≡ shown bits answer

-- a write that is done answers 0 and no mask, unless it was a masked one
abbrev pub NoMask : Turned → Answer → Type 0
NoMask (NotTurned r) a = Unit
NoMask (OneCall ch k bits) a = is_refused a ≡ false → a ≡ Value 0
NoMask (EachNamed c mask) a = Unit

-- 30 to 32 "before those of document 01"; the call on the channel; or, with enough words lent, the mask
abbrev pub TurnedTold : ℕ → Turned → Answer → History → Type 0
TurnedTold n (NotTurned r) a h = a ≡ Refused r
TurnedTold n (OneCall ch k bits) a h = ShownTold n ch k bits a h
TurnedTold n (EachNamed c mask) a h = a ≡ cond (ltb n (need h.count)) (Refused 1) (Value (mask_to c mask h most))

-- the answer a of an access that is lent n words
abbrev pub Answered : ℕ → Access → Answer → History → Type 0
Answered n (Direct c) a h = CallAnswered n c a h
Answered n (ReadRegister x) a h = TurnedTold n (read_turned x) a h
Answered n (WriteRegister x v) a h = TurnedTold n (write_turned x v) a h × NoMask (write_turned x v) a
