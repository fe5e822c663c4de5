-- A proof of each claim, from the laws of `format`. Assumes nothing.
use mathlib.Core.Path.{◌≡◌, refl, sym, ◌∙◌, ap}
use mathlib.Core.Bool.{true, false}
use mathlib.Core.List.{[]}
use Prim.Native.Nat.{ℕ, ◌-◌, ◌*◌, ◌/◌, ◌^◌, ◌≤◌}
use native.Mathlib.Omega.{arith}
use lib.Dec.{eqb}
use Rattle.format.specs.Values.{Kind, Date, DateTz, Time, TimeTz, Datetime, DatetimeTz, dated, timed, Value, compact, Answer}
use Rattle.format.specs.Choice.{form_for, settings_for}
use borrow.Author.Tests.{le-leb, lt-leb}
use Rattle.format.specs.Words.{both, refused}
use Rattle.format.specs.Calendar.{number_asked, day_asked}
use Rattle.format.specs.CompactReading.{shortest, read_compact}
use Rattle.format.specs.Writing.{image_in, has_form, encode}
use Rattle.format.specs.Reading.{form_in, read_in, read}
use Rattle.format.specs.EitherOr.{kind_by01, kind_in, read_either, excepted}
use Rattle.format.specs.Text.{fraction_unit}
use Rattle.format.specs.Keeping.{own, down, cut}
use Rattle.format.proofs.Cases.{never}
use Rattle.format.proofs.Clock.{seven}
use Rattle.format.proofs.Tight.{tight_fewest}
use Rattle.format.proofs.Years.{years_entry}
use Rattle.format.proofs.Dates.{number_small, date_number, number_date}
use Rattle.format.proofs.Choosing.{chosen_has, settings_for_lem, settings_permitted}
use Rattle.format.proofs.Round.{written, written_reads, was_read, read_writes}
use Rattle.format.proofs.Either.{own_kind, exception_compact}
use Rattle.format.proofs.Images.{image_octets_lem, image_size, write_numbers, read_numbers}
use Rattle.format.proofs.Kept.{encode_owned}
use Rattle.format.proofs.Bench as worked
use Rattle.claims.specs.Claims.{AcceptedExactly, ReadsWhatWasWritten, CutTo, NeverRoundedUp, WritesWhatWasRead, OwnKind, TheException, CompactOffsetZero, TextWithoutFraction, Images, PartsLacked}
use Rattle.claims.specs.Refusals.{FirstThatApplies, BufferLast, ZeroOctets, TightIsFewest, RefusalNumbers, RefusedHasNoValue}
use Rattle.claims.specs.Calendar.{NumbersAndDates, DaysAsked, YearStarts}
use Rattle.claims.specs.Examples.{TheFifteen, TheLengths, TheDays, TheSlips}

-- ---- 01's own examples

pub the_fifteen : TheFifteen
the_fifteen = worked.fifteen

pub the_lengths : TheLengths
the_lengths = worked.text_lengths

pub the_days : TheDays
the_days = worked.named_days

pub the_slips : TheSlips
the_slips = (worked.slips, worked.slips_text, worked.slips_binary, worked.slips_forms, worked.slips_kept, worked.slips_chosen, worked.slips_days)

-- ---- there and back

pub accepted_exactly : AcceptedExactly
accepted_exactly k s o = (
  λ p. let r = (was_read k s p.0 o p.1).from in
      (p.0.value, settings_for p.0.form, r.range, settings_permitted k p.0.form r.kind, read_writes k s p.0 o p.1),
  λ p. (_, written_reads k p.1 p.0 s p.4),
)

pub reads_what_was_written : ReadsWhatWasWritten
reads_what_was_written = written_reads

pub writes_what_was_read : WritesWhatWasRead
writes_what_was_read k s a o e =
    let r = (was_read k s a o e).from in
    (ap (λ (x : Answer). x.kind) (was_read k s a o e).answer, r.range, r.image, (settings_for_lem k a.form a.value r.kind).1, read_writes k s a o e)

-- ---- cut, never rounded up

cut_to : (d m : ℕ) → d ≤ 6 → CutTo (10 ^ (6 - d)) m (down (fraction_unit d) m)
unfolding down fraction_unit
cut_to d m h =
    seven (λ d. CutTo (10 ^ (6 - d)) m (m / 10 ^ (6 - d) * 10 ^ (6 - d)))
    (omega arith, omega arith, omega arith)
    (omega arith, omega arith, omega arith)
    (omega arith, omega arith, omega arith)
    (omega arith, omega arith, omega arith)
    (omega arith, omega arith, omega arith)
    (omega arith, omega arith, omega arith)
    (omega arith, omega arith, omega arith)
    d
    h

-- below the end of the day compact keeps the milliseconds
millis_kept : (k : Kind) (v : Value) → timed k ≡ true → both (dated k) (eqb v.micros 86400000000) ≡ false → (cut k compact v).micros ≡ down 1000 v.micros
unfolding cut own
millis_kept Date v t e = never t
millis_kept DateTz v t e = never t
millis_kept Time v t e = refl
millis_kept TimeTz v t e = refl
millis_kept Datetime v t e = rw e
millis_kept DatetimeTz v t e = rw e

pub never_rounded_up : NeverRoundedUp
unfolding cut own fraction_unit
never_rounded_up k v t = (
  λ d h. rw t (cut_to d v.micros h),
  λ e. rw (millis_kept k v t e) (cut_to 3 v.micros (omega arith)),
  rw t,
)

-- ---- either-or

pub the_exception : TheException
unfolding excepted
the_exception k v = (λ d. refl, refl, refl)

pub own_kinds : OwnKind
own_kinds k t v s e x =
    let w = written k t v s e in
    let o = rw w.image at (own_kind k (form_for k t v) v w.range (chosen_has k t v w.digits) w.has x) in
    (o ∙ sym (written_reads k t v s e), o)

pub compact_offset_zero : CompactOffsetZero
unfolding image_in has_form
compact_offset_zero k t v s e p f z =
    let w = written k t v s e in
    let i : image_in k compact v ≡ s = rw f at w.image in
    let h : has_form k compact v ≡ true = rw f at w.has in
    (rw f at (written_reads k t v s e), rw (← i) (exception_compact k v p z w.range h))

pub text_without_fraction : TextWithoutFraction
unfolding excepted
text_without_fraction k t v s e p f =
    let o = own_kinds k t v s e (rw f) in
    (o.0, rw f at o.1)

-- ---- images and refusals

pub images : Images
images k t v s e =
    let w = written k t v s e in
    let z = image_size k (form_for k t v) v w.range (chosen_has k t v w.digits) w.has in
    (rw w.image at (image_octets_lem k (form_for k t v) v), rw w.image at z.0, rw w.image at z.1)

pub parts_lacked : PartsLacked
parts_lacked = encode_owned

pub first_that_applies : FirstThatApplies
unfolding encode
first_that_applies k t v = (λ a. rw a, λ a b. rw (a, b), λ a b d. rw (a, b, d), λ a b d. rw (a, b, d))

pub buffer_last : BufferLast
buffer_last xs room = (λ e. rw e, λ e. rw e)

pub zero_octets : ZeroOctets
unfolding read_either kind_in kind_by01
zero_octets = (none, λ f. none (kind_in f []))
  where
    none : (k : Kind) → read k [] ≡ refused 5
    none Date = unfold read form_in read_in read_compact shortest in refl
    none DateTz = unfold read form_in read_in read_compact shortest in refl
    none Time = unfold read form_in read_in read_compact shortest in refl
    none TimeTz = unfold read form_in read_in read_compact shortest in refl
    none Datetime = unfold read form_in read_in read_compact shortest in refl
    none DatetimeTz = unfold read form_in read_in read_compact shortest in refl

pub tight_is_fewest : TightIsFewest
tight_is_fewest = tight_fewest

pub refusal_numbers : RefusalNumbers
unfolding read_either
refusal_numbers = (write_numbers, read_numbers, λ f s n e. read_numbers (kind_in f s) s n e)

pub refused_has_no_value : RefusedHasNoValue
refused_has_no_value k s n e t v w =
    let r = written_reads k t v s w in
    let z : ◌≡◌ {A = ℕ} 0 1 = cc in omega arith

-- ---- calendar

pub numbers_and_dates : NumbersAndDates
numbers_and_dates = (λ d e. (omega (arith, number_small d e), date_number d e), λ n h. number_date n (omega arith))

pub days_asked : DaysAsked
unfolding number_asked day_asked
days_asked = (λ d. (λ e. rw e, λ e. rw e), λ n. (λ h. rw (lt-leb n 3652058 h), λ h. rw (le-leb n 3652058 h)))

pub year_starts : YearStarts
year_starts = years_entry
