-- The entry that counts for a word: "Refusals, in order: 60 any entry ..", "61 label not listed" (paper 02, (iv)).
use Rattle.std.specs.Prelude.{ℕ, cond, List, Option, Some, None, Result, Err, ok_or}
use Rattle.word.specs.Word.{label}
use Rattle.label_list.specs.declared.entries.Entry.{Entry}
use Rattle.label_list.specs.Entries.{list_wrong, entry_for}
use Rattle.readings.specs.declared.refusals.Refusal.{Refusal}
use Rattle.readings.specs.declared.refusals.Refusal.TheVariants.{ListRefused, NoEntry}

unfoldable pub listed : List ℕ → ℕ → Result Entry Refusal
listed list w = cond (list_wrong list) (Err ListRefused) (ok_or (entry_for (label w) list) NoEntry)

-- the kind and the divisor of an entry; 0, which is no kind, where there is none
abbrev pub kind_in : Option Entry → ℕ
kind_in None = 0
kind_in (Some entry) = entry.kind

abbrev pub divisor_in : Option Entry → ℕ
divisor_in None = 0
divisor_in (Some entry) = entry.divisor
