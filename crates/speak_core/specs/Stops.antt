-- Why a run ends before its lines do: the status and the text of each stop, and what the counts of the devices say of it.
use Rattle.std.specs.Prelude.{◌≡◌, ◌⊎◌, ℕ, List, [], ◌∷◌, ◌++◌, codes, Result, Ok, Err, Bool, true, false}
use Rattle.norm_base.specs.Counts.{Rose}
use Rattle.speak_core.specs.Devices.{Observed, SomeRose, NoneRose}
use Rattle.speak_core.specs.declared.stop.Stop.{Stop}
use Rattle.speak_core.specs.declared.stop.Stop.TheVariants.{Words, Refused, Outside, Memory, TooLong}

abbrev pub status_of : Stop → ℕ
status_of Words = 2
status_of (Refused text) = 3
status_of Outside = 4
status_of Memory = 5
status_of TooLong = 6

-- what is told of a stop
abbrev pub text_of : Stop → List ℕ
text_of Words = codes "bad arguments" ++ 10 ∷ []
text_of (Refused text) = text.items
text_of Outside = codes "outside fault" ++ 10 ∷ []
text_of Memory = codes "no memory" ++ 10 ∷ []
text_of TooLong = codes "input too long" ++ 10 ∷ []

-- what is told of a stop before memory is wanting for it
abbrev pub last_text : Stop → List ℕ
last_text Memory = []
last_text stop = text_of stop

-- the words and the files of a run were accepted
abbrev pub IsAccepted : {T : Type 0} → Result T Stop → Type 0
IsAccepted (Ok x) = Unit {0}
IsAccepted (Err TooLong) = Unit {0}
IsAccepted (Err stop) = ⊥

-- The count of the one device that a part uses: it rose where the part stops at an outside fault, else it stays.
abbrev pub Counts : {T : Type 0} → ℕ → ℕ → Result T Stop → Type 0
Counts before now (Ok x) = now ≡ before
Counts before now (Err Outside) = Rose before now
Counts before now (Err stop) = now ≡ before

-- a device alone stops a part by an outside fault or for want of memory
abbrev pub IsDeviceStop : Stop → Type 0
IsDeviceStop Outside = Unit {0}
IsDeviceStop Memory = Unit {0}
IsDeviceStop _ = ⊥

-- what ends the reading of the input
abbrev pub IsReadingStop : Stop → Type 0
IsReadingStop Outside = Unit {0}
IsReadingStop Memory = Unit {0}
IsReadingStop TooLong = Unit {0}
IsReadingStop _ = ⊥

-- The counts of the two sinks: both stay where a part ends well, and one of them rose where it stops at an outside fault.
abbrev pub SinkCounts : {T : Type 0} → ℕ → ℕ → ℕ → ℕ → Result T Stop → Type 0
SinkCounts out out' err err' (Ok x) = (out' ≡ out) × (err' ≡ err)
SinkCounts out out' err err' (Err Outside) = Rose out out' ⊎ Rose err err'
SinkCounts out out' err err' (Err stop) = Unit {0}

-- the words are wrong, or what they name is refused
abbrev pub IsRefusalStop : Stop → Type 0
IsRefusalStop Words = Unit {0}
IsRefusalStop (Refused text) = Unit {0}
IsRefusalStop _ = ⊥

-- The counts of all four: they stay where a run ends well or is refused, and one rose where it stops at an outside fault.
abbrev pub AllCounts : {T : Type 0} → Observed → Result T Stop → Type 0
AllCounts d (Err Outside) = SomeRose d
AllCounts d (Err Memory) = Unit {0}
AllCounts d (Ok x) = NoneRose d
AllCounts d (Err stop) = NoneRose d

-- what ends the reading of a setup and its rules
abbrev pub IsReadStop : Stop → Type 0
IsReadStop (Refused text) = Unit {0}
IsReadStop Outside = Unit {0}
IsReadStop Memory = Unit {0}
IsReadStop _ = ⊥

-- what ends the looking up of rules, or their building
abbrev pub IsRuleStop : Stop → Type 0
IsRuleStop (Refused text) = Unit {0}
IsRuleStop Memory = Unit {0}
IsRuleStop _ = ⊥

-- the status of a stop, or that of want of memory
abbrev pub IsStatus : ℕ → Stop → Type 0
IsStatus n stop = (n ≡ status_of stop) ⊎ (n ≡ 5)

-- the status of a run
abbrev pub IsEnd : ℕ → Result Bool Stop → Type 0
IsEnd n (Ok true) = n ≡ 0
IsEnd n (Ok false) = n ≡ 1
IsEnd n (Err stop) = IsStatus n stop
