-- What the read of one file comes to.
use Rattle.std.specs.Prelude.{◌≡◌, ℕ, List, [], ◌∷◌, Option, Result, Ok, Err, Vec}
use Rattle.std.specs.Global.{Global}
use Rattle.rvt_edge.specs.declared.desk.Action.TheVariants.{Read}
use Rattle.rvt_edge.specs.declared.desk.Call.{Call}
use Rattle.rvt_edge.specs.Desk.{Files, call, failed_call}
use Rattle.rvt_run.specs.declared.top.Unread.{Unread}
use Rattle.rvt_run.specs.declared.top.Unread.TheVariants.{Failed, TooLong, Memory}
use Rattle.rvt_run.specs.Answer.{IsWhole, IsLong, cannot_read, too_long}

-- what the desk was asked
abbrev pub unread_calls : List ℕ → Unread → List Call
unread_calls name Failed = failed_call Read name ∷ []
unread_calls name TooLong = call Read name ∷ []
unread_calls name Memory = []

abbrev pub read_calls : {T : Type 0} → List ℕ → Result T Unread → List Call
read_calls name (Ok bytes) = call Read name ∷ []
read_calls name (Err why) = unread_calls name why

-- the whole of the file, or it is too long
abbrev pub IsUnreadBy : Option Files → List ℕ → Unread → Type 0
IsUnreadBy files name TooLong = IsLong files name
IsUnreadBy files name _ = Unit {0}

abbrev pub IsReadBy : Option Files → List ℕ → Result (Vec ℕ Global) Unread → Type 0
IsReadBy files name (Ok bytes) = IsWhole files name bytes.items
IsReadBy files name (Err why) = IsUnreadBy files name why

-- the status and the lines of a file that isn't there
abbrev pub SaysUnread : List ℕ → Unread → ℕ → List (List ℕ) → Type 0
SaysUnread name Failed status lines = (status ≡ 4) × (lines ≡ cannot_read name)
SaysUnread name TooLong status lines = (status ≡ 3) × (lines ≡ too_long name)
SaysUnread name Memory status lines = ⊥
