-- Which correction holds now? (02, request 5.) "For an instant and channel, answer the last record of that channel at or before it. Read from the front and stop
-- at the first record later than the instant."
--
--   Held                 what holds: a record, or none yet
--   later t r            the record r is later than the instant t
--   held_by t c r        it is of the channel c, and at or before t
--   last_of p rs         the last record of the list for which the test p holds, or none yet
--   held_in_file f s h   h with its stamp's start within the file
--   Asked                an answer: the number of records read, and what holds
--   answered f s t c w   the answer, from what reading came to
--   question f s t c     what the question of the instant t and the channel c comes to
--   records_read o       the number of records read, which a refusal carries too: 0
use Rattle.std.specs.Prelude.{ℕ, Bool, not, List, [], ◌∷◌, ℤ, eqb, length}
use Rattle.std.specs.Int.Signed.{le_z}
use Rattle.format.specs.Words.{pick, both, Outcome, accepted, refused, unless}
use Rattle.card.specs.Header.{RecordForm}
use Rattle.card.specs.Records.{Record, in_file}
use Rattle.card.specs.Step.{channel_good}
use Rattle.card.specs.Reading.{Walked, taken, fault, walk_file}

pub data Held : Type 0 where
  none_yet : Held
  holds : Record → Held

abbrev pub later : ℤ → Record → Bool
later t r = not (le_z r.instant t)

unfoldable pub held_by : ℤ → ℕ → Record → Bool
held_by t c r = both (le_z r.instant t) (eqb r.channel c)

-- h is the last one so far
unfoldable pub last_from : (Record → Bool) → Held → List Record → Held
last_from p h [] = h
last_from p h (r ∷ rs) = last_from p (pick (p r) (holds r) h) rs

abbrev pub last_of : (Record → Bool) → List Record → Held
last_of p rs = last_from p none_yet rs

abbrev pub held_in_file : RecordForm → List ℕ → Held → Held
held_in_file f s none_yet = none_yet
held_in_file f s (holds r) = holds (in_file f s r)

-- "The answer carries the number of records read: that one's place counting from one, or all of them if there is none"; "'None yet' is a separate answer."
pub record Asked : Type 0 where
  pub read : ℕ
  pub held : Held

-- of what reading up to the first later record came to: that one is the last record read, so that their number is its place
abbrev pub answered : RecordForm → List ℕ → ℤ → ℕ → Walked → Outcome Asked
answered f s t c (taken rs) = accepted (record { read = length rs; held = held_in_file f s (last_of (held_by t c) rs) })
answered f s t c (fault p n) = refused n

-- "a bad channel is 2, before the file"
unfoldable pub question : RecordForm → List ℕ → ℤ → ℕ → Outcome Asked
question f s t c = unless (channel_good c) 2 (answered f s t c (walk_file f s (later t)))

-- "a refusal carries 0"
abbrev pub records_read : Outcome Asked → ℕ
records_read (accepted a) = a.read
records_read (refused n) = 0
