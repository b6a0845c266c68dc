-- The source and the sinks over memory: the state that each keeps, and how a call changes it.
use Rattle.std.specs.Prelude.{ℕ, ◌+◌, ◌-◌, ◌^◌, min, Bool, ◌&&◌, ◌==◌, nat_lt, List, ◌++◌, length, drop, Option, Some, None}

-- a count that stays at its greatest value
abbrev pub one_more : ℕ → ℕ
one_more n = min (n + 1) (2 ^ 64 - 1)

-- ---- a source that gives its bytes in pieces

-- the bytes that remain, the most that a pull gives, the number of the pull that fails, how many pulls there were,
-- and how many of them failed
pub record Supply : Type 0 where
  pub rest : List ℕ
  pub piece : ℕ
  pub fail_at : ℕ
  pub pulls : ℕ
  pub failures : ℕ

-- the next pull is the one that fails
abbrev pub fails_next : Supply → Bool
fails_next s = nat_lt s.pulls (2 ^ 64 - 1) && (s.pulls + 1 == s.fail_at)

-- how many bytes a pull gives: the least of the piece, of what remains and of the room for them
abbrev pub pull_size : Supply → ℕ → ℕ
pull_size s room = min s.piece (min (length s.rest) room)

-- after a pull of n bytes
abbrev pub after_pull : Supply → ℕ → Supply
after_pull s n = record s { rest = drop n s.rest; pulls = one_more s.pulls }

-- after the pull that fails no byte is gone
abbrev pub after_failed_pull : Supply → Supply
after_failed_pull s = record s { pulls = one_more s.pulls; failures = one_more s.failures }

-- ---- sinks that keep what was sent

-- the bytes that were sent, how many bytes the sink's memory has room for, and how often it failed
pub record Kept : Type 0 where
  pub bytes : List ℕ
  pub capacity : ℕ
  pub failures : ℕ

-- the bytes that were sent, how many bytes the sink's memory has room for, the most that a push takes, the room until
-- the one failure, whether `finish` fails, and how often the sink failed
pub record Store : Type 0 where
  pub bytes : List ℕ
  pub capacity : ℕ
  pub piece : ℕ
  pub room : Option ℕ
  pub finish_fails : Bool
  pub failures : ℕ

-- a count, but no more than the room
abbrev pub up_to_room : Option ℕ → ℕ → ℕ
up_to_room None n = n
up_to_room (Some room) n = min room n

-- the room after n bytes
abbrev pub room_after : Option ℕ → ℕ → Option ℕ
room_after None n = None
room_after (Some room) n = Some (room - n)

-- how many bytes a push takes of so many: the least of the piece, of these and of the room
abbrev pub push_size : Store → ℕ → ℕ
push_size s count = up_to_room s.room (min s.piece count)

-- after a push of these bytes, with memory for so many
abbrev pub after_push : Store → List ℕ → ℕ → Store
after_push s sent capacity = record s { bytes = s.bytes ++ sent; room = room_after s.room (length sent); capacity = capacity }

-- after the push that finds no room left: no push fails for want of room again
abbrev pub without_room : Store → Store
without_room s = record s { room = None; failures = one_more s.failures }

-- after a failure of `finish`
abbrev pub after_failed_finish : Store → Store
after_failed_finish s = record s { failures = one_more s.failures }

-- after a failed growth, with memory for so many
abbrev pub after_failed_growth : Store → ℕ → Store
after_failed_growth s capacity = record s { failures = one_more s.failures; capacity = capacity }
