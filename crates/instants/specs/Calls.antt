-- What each public call promises, whatever it is given: the legend. A contract cites the name, and so does the theorem of one answer
-- (proofs/OneAnswer). `moments/specs/Calls.antt` says what each comes to.
--
--   RefusalNumber f r         `u32::from(refusal)`: 2 or 9
--   InstantNew m r            `Instant::new`: the number of microseconds, right or wrong
--   InstantInRange i r        `Instant::in_range`: whether some stamp has it
--   InstantOf v r             `Instant::try_from(stamp)`: the instant of a stamp, or 2
--   InstantAdd i n r          `Instant::add`: the sum, or 2, or 9
--   InstantDifference a b r   `Instant::difference`: a less b, or 2
--   InstantAt i o r           `Instant::at`: the stamp of an instant at an offset, or 2, or 9
--   Restates v o r            `restate`: a stamp at another offset, or 2, or 9
use Rattle.std.specs.Prelude.{◌≡◌, ℕ, Bool, ℤ, Result}
use Rattle.moments.specs.Instant.{is_instant}
use Rattle.moments.specs.Calls.{instant, add, difference, at, restate}
use Rattle.values.specs.declared.parts.Offset.{Offset}
use Rattle.values.specs.declared.kinds.DatetimeTz.{DatetimeTz}
use Rattle.values.specs.Meaning.{datetime_tz_value}
use Rattle.instants.specs.declared.Instant.{Instant}
use Rattle.instants.specs.declared.Refusal.{Refusal}
use Rattle.instants.specs.Meaning.{refusal_number, found, apart, stated}

-- the number of a refusal
abbrev pub RefusalNumber : Refusal → ℕ → Type 0
RefusalNumber f r = r ≡ refusal_number f

-- the instant of any number of microseconds
abbrev pub InstantNew : ℤ → Instant → Type 0
InstantNew m r = r ≡ record { micros = m }

-- whether it is an instant
abbrev pub InstantInRange : Instant → Bool → Type 0
InstantInRange i r = r ≡ is_instant i.micros

-- the instant of a stamp
abbrev pub InstantOf : DatetimeTz → Result Instant Refusal → Type 0
InstantOf v r = found r ≡ instant (datetime_tz_value v)

-- the sum of an instant and a number of microseconds
abbrev pub InstantAdd : Instant → ℤ → Result Instant Refusal → Type 0
InstantAdd i n r = found r ≡ add i.micros n

-- one less the other
abbrev pub InstantDifference : Instant → Instant → Result ℤ Refusal → Type 0
InstantDifference a b r = apart r ≡ difference a.micros b.micros

-- the stamp of an instant at an offset
abbrev pub InstantAt : Instant → Offset → Result DatetimeTz Refusal → Type 0
InstantAt i o r = stated r ≡ at i.micros o.minutes

-- a stamp at another offset
abbrev pub Restates : DatetimeTz → Offset → Result DatetimeTz Refusal → Type 0
Restates v o r = stated r ≡ restate (datetime_tz_value v) o.minutes
