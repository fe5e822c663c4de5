-- `Counted::date` meets its contract: none where the kind has none; else the day number is in its range, so there is such a date.
-- Assumes nothing.
use mathlib.Core.Path.{◌≡◌, sym, ◌∙◌, ap}
use Prim.Native.Nat.{ℕ}
use native.Mathlib.Omega.{arith}
use borrow.Author.Rules.{rules}
use borrow.Author.Tests.{le-leb}
use Rattle.std.specs.Prelude.{Option, Some, None, IsSome}
use Rattle.calendar.specs.declared.Date.{Date}
use Rattle.format.specs.Words.{accepted}
use Rattle.format.specs.Calendar.{Day, last_number, day_of, day_asked}
use Rattle.format.specs.Local.{day_part}
use Rattle.format.specs.Compact.{per_day}
use Rattle.format.specs.CompactReading.{compact_value}
use Rattle.format.proofs.Cases.{same}
use Rattle.calendar.specs.Meaning.{day_answered}
use Rattle.values.specs.Meaning.{kind_from}
use Rattle.compact.proofs.counted.Counted.date.Goals as goal
use Rattle.compact.proofs.counted.Counted.date.Goals.{After-date_of}

some_day : (o : Option Date) {d : Day} → day_answered o ≡ accepted d → IsSome o
some_day (Some x) e = search rules
some_day None e = absurd (let z : ◌≡◌ {A = ℕ} 0 1 = cc in omega arith)

known : (c : After-date_of) → day_answered c.date_of.result ≡ accepted (day_of (day_part (per_day (kind_from c.args.self.kind)) c.args.self.count))
unfolding day_asked
known c =
    let n = day_part (per_day (kind_from c.args.self.kind)) c.args.self.count in
    c.date_of.ensures ∙ rw (c.day.ensures, le-leb n last_number (c.args.self.has_day (sym c.if-not-dated.ensures)))

pub unwrap-requires : goal.unwrap-requires
unwrap-requires c = some_day _ (known (goal.at.unwrap-requires c).After-date_of)

pub returns : goal.returns
unfolding compact_value
returns c = rw (sym c.if-not-dated.ensures) (same (ap day_answered (sym c.unwrap.ensures) ∙ known (goal.at.returns c).After-date_of))
