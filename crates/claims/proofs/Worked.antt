-- Each refusal is met: the two tables, computed from the definitions. Assumes nothing.
use mathlib.Core.Path.{◌≡◌, refl}
use Rattle.format.specs.Octets.{signed_octets, first_from, fewest_octets}
use Rattle.format.specs.Walk.{sum_from, place}
use Rattle.format.specs.Calendar.{leap, year_length, month_length, is_day, day_number}
use Rattle.format.specs.Values.{time_in_range, offset_in_range, in_range}
use Rattle.format.specs.Choice.{form_for}
use Rattle.format.specs.Digits.{are_digits, number_at}
use Rattle.format.specs.Fields.{width, fits_at, says_at, widths, fit, says}
use Rattle.format.specs.Text.{layout, text_length, fraction_unit}
use Rattle.format.specs.TextReading.{digits_from, digits_found, minus_zero, clock_in_range, numbers_in_range, text_value, read_fields, read_text}
use Rattle.format.specs.Compact.{per_day, start, count, number, greatest, carried, has_compact, padded_to, number_octets, compact_image}
use Rattle.format.specs.Extended.{head_bits}
use Rattle.format.specs.Writing.{image_in, has_form, encode}
use Rattle.format.specs.Reading.{first_bits, form_in, read_in, read}
use Rattle.claims.specs.Refusals.{writes, writes_come, reads, reads_come, EachRefusal}

refused_writes : writes ≡ writes_come
unfolding sum_from place leap year_length month_length is_day day_number time_in_range offset_in_range in_range form_for signed_octets first_from fewest_octets per_day start count number greatest carried has_compact padded_to number_octets compact_image image_in has_form encode writes writes_come
refused_writes = refl

refused_reads : reads ≡ reads_come
unfolding leap month_length is_day are_digits number_at width fits_at says_at widths fit says layout text_length digits_from digits_found minus_zero clock_in_range numbers_in_range text_value fraction_unit read_fields head_bits first_bits form_in read_text read_in read reads reads_come
refused_reads = refl

pub each_refusal : EachRefusal
each_refusal = (refused_writes, refused_reads)
