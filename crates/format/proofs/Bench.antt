-- 01's examples come to what 01 says, each table all at once: computed from the definitions. Assumes nothing.
-- A check reports this file before the laws: a definition that is changed wrongly fails here by a value, before a proof no longer fits.
use mathlib.Core.Path.{refl}
use Rattle.format.specs.Octets.{unsigned_octets, unsigned_at, signed_octets, more, signed_of, first_from, fewest_octets}
use Rattle.format.specs.Walk.{sum_from, place}
use Rattle.format.specs.Calendar.{leap, year_length, year_start, month_length, is_day, day_number, day_of}
use Rattle.format.specs.Values.{time_in_range, offset_in_range, in_range}
use Rattle.format.specs.Choice.{form_for, settings_for}
use Rattle.format.specs.Digits.{are_digits, number_at, digits_of}
use Rattle.format.specs.Fields.{width, put, fits_at, says_at, widths, puts, fit, says}
use Rattle.format.specs.Text.{layout, text_length, fraction_unit, text_numbers, text_image}
use Rattle.format.specs.TextReading.{digits_from, digits_found, minus_zero, clock_in_range, numbers_in_range, text_value, read_fields, read_text}
use Rattle.format.specs.Compact.{per_day, start, count, number, greatest, carried, has_compact, padded_to, number_octets, compact_image}
use Rattle.format.specs.CompactReading.{shortest, longest_plain, carried_in, number_in_range, usual, compact_value, read_number, read_compact}
use Rattle.format.specs.Extended.{head_bits, twelve, day_width, extended_image, offset_from, extended_value, read_extended}
use Rattle.format.specs.Writing.{image_in, has_form, encode}
use Rattle.format.specs.Reading.{first_bits, form_in, read_in, read}
use Rattle.format.specs.EitherOr.{kind_by01, kind_in, read_either, excepted}
use Rattle.format.specs.Keeping.{own, down, cut}
use Rattle.format.specs.Bench.{bench, Fifteen, TextLengths, NamedDays}
use Rattle.format.specs.Slips.{Slips, SlipsText, SlipsBinary, SlipsForms, SlipsKept, SlipsChosen, SlipsDays}

pub fifteen : Fifteen
unfolding sum_from place leap year_length month_length is_day day_number time_in_range offset_in_range in_range form_for unsigned_octets signed_octets first_from fewest_octets per_day start count number greatest carried has_compact padded_to number_octets compact_image head_bits twelve day_width extended_image image_in has_form encode bench
fifteen = refl

pub text_lengths : TextLengths
unfolding text_length layout widths width
text_lengths = (refl, refl, refl, refl, refl, refl)

pub named_days : NamedDays
unfolding sum_from leap year_length month_length day_number
named_days = (refl, refl, refl)

pub slips : Slips
unfolding unsigned_octets unsigned_at signed_octets more signed_of first_from fewest_octets sum_from leap year_length month_length is_day day_number time_in_range offset_in_range in_range form_for settings_for are_digits number_at digits_of width put fits_at says_at widths puts fit says layout text_length fraction_unit text_numbers text_image digits_from digits_found minus_zero clock_in_range numbers_in_range text_value read_fields read_text per_day start count number greatest carried has_compact padded_to number_octets compact_image shortest longest_plain carried_in number_in_range usual compact_value read_number read_compact head_bits day_width offset_from extended_value read_extended image_in has_form encode first_bits form_in read_in read
slips = (refl, refl, refl, refl, refl, refl, refl, refl, refl, refl, refl)

pub slips_text : SlipsText
unfolding leap month_length is_day time_in_range offset_in_range in_range form_for settings_for are_digits number_at digits_of width put fits_at says_at widths puts fit says layout text_length fraction_unit text_numbers text_image digits_from digits_found minus_zero clock_in_range numbers_in_range text_value read_fields read_text head_bits image_in has_form encode first_bits form_in read_in read
slips_text = ((refl, refl), (refl, refl), (refl, refl), (refl, refl), (refl, refl), (refl, refl), refl, refl)

pub slips_binary : SlipsBinary
unfolding unsigned_at signed_octets more signed_of first_from fewest_octets sum_from place leap year_length month_length is_day day_number day_of time_in_range offset_in_range in_range form_for settings_for per_day start count number greatest carried has_compact padded_to number_octets compact_image shortest longest_plain carried_in number_in_range usual compact_value read_number read_compact head_bits day_width offset_from extended_value read_extended image_in has_form encode first_bits form_in read_in read
slips_binary = (refl, refl, refl, refl, refl, refl, refl, refl)

pub slips_forms : SlipsForms
unfolding form_for settings_for
slips_forms = (refl, refl, refl, refl, refl, refl, refl)

pub slips_kept : SlipsKept
unfolding sum_from place leap year_length month_length day_number day_of fraction_unit own down cut
slips_kept = (refl, refl, refl)

pub slips_chosen : SlipsChosen
unfolding leap month_length is_day are_digits number_at width fits_at says_at widths fit says layout text_length fraction_unit digits_from digits_found minus_zero clock_in_range numbers_in_range text_value read_fields read_text longest_plain head_bits day_width read_extended first_bits form_in read_in read kind_by01 kind_in read_either excepted
slips_chosen = (refl, refl, refl, refl, refl, refl, refl, refl, refl, refl, refl, refl, refl, refl, refl, refl, refl, refl, refl, refl, refl, refl, refl, refl, refl, refl, refl)

pub slips_days : SlipsDays
unfolding sum_from place leap year_length month_length is_day day_number day_of year_start
slips_days = (refl, refl, refl, refl, refl, refl, refl, refl, refl, refl)
