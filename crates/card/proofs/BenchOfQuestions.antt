-- The bench of questions, computed from the definitions. Assumes nothing.
use mathlib.Core.Path.{refl}
use Rattle.format.specs.Octets.{unsigned_octets, unsigned_at, signed_octets, more, signed_of, first_from, fewest_octets}
use Rattle.format.specs.Walk.{sum_from, place}
use Rattle.format.specs.Calendar.{leap, year_length, month_length, is_day, day_number, day_of}
use Rattle.format.specs.Values.{time_in_range, offset_in_range, in_range}
use Rattle.format.specs.Digits.{are_digits, number_at, digits_of}
use Rattle.format.specs.Fields.{width, put, fits_at, says_at, widths, puts, fit, says}
use Rattle.format.specs.Text.{layout, text_length, fraction_unit, text_numbers, text_image}
use Rattle.format.specs.TextReading.{digits_from, digits_found, minus_zero, clock_in_range, numbers_in_range, text_value, read_fields, read_text}
use Rattle.format.specs.Compact.{per_day, start, count, number, greatest, carried, has_compact, padded_to, number_octets, compact_image}
use Rattle.format.specs.CompactReading.{shortest, longest_plain, carried_in, number_in_range, usual, compact_value, read_number, read_compact}
use Rattle.format.specs.Extended.{head_bits, day_width, offset_from, extended_value, read_extended}
use Rattle.format.specs.Reading.{first_bits, form_in, read_in, read}
use Rattle.moments.specs.Instant.{local_of, ahead, instant_of}
use Rattle.card.specs.Header.{count_of, stamp_octets, stamps_start, header_good}
use Rattle.card.specs.Records.{start_at, length_at, channel_at, correction_at, stamp_at, instant_at, record_at}
use Rattle.card.specs.Step.{channel_good, placed, place_good, fields_good, step}
use Rattle.card.specs.Reading.{walk, walk_file}
use Rattle.card.specs.Question.{held_by, last_from, question}
use Rattle.card.specs.Bench.{row_octets, stamps, header_of, file_of, card}
use Rattle.card.specs.BenchOfQuestions.{Holding, LastOfTwo, NoneYet, OfChannels, OfRecordsRead}

pub holding : Holding
unfolding count_of stamp_octets stamps_start header_good start_at length_at channel_at correction_at stamp_at instant_at record_at channel_good placed place_good fields_good step walk walk_file card file_of row_octets stamps header_of local_of ahead instant_of unsigned_octets unsigned_at signed_octets more signed_of first_from fewest_octets sum_from leap year_length month_length is_day day_number time_in_range offset_in_range in_range are_digits number_at digits_of width put fits_at says_at widths puts fit says layout text_length fraction_unit text_numbers text_image digits_from digits_found minus_zero clock_in_range numbers_in_range text_value read_fields read_text per_day start count number greatest carried has_compact padded_to number_octets compact_image shortest longest_plain carried_in number_in_range usual compact_value read_number read_compact head_bits day_width offset_from extended_value read_extended first_bits form_in read_in read place day_of held_by last_from question
holding = (refl, refl, refl, refl, refl, refl, refl, refl, refl)

pub last_of_two : LastOfTwo
unfolding count_of stamp_octets stamps_start header_good start_at length_at channel_at correction_at stamp_at instant_at record_at channel_good placed place_good fields_good step walk walk_file card file_of row_octets stamps header_of local_of ahead instant_of unsigned_octets unsigned_at signed_octets more signed_of first_from fewest_octets sum_from leap year_length month_length is_day day_number time_in_range offset_in_range in_range are_digits number_at digits_of width put fits_at says_at widths puts fit says layout text_length fraction_unit text_numbers text_image digits_from digits_found minus_zero clock_in_range numbers_in_range text_value read_fields read_text per_day start count number greatest carried has_compact padded_to number_octets compact_image shortest longest_plain carried_in number_in_range usual compact_value read_number read_compact head_bits day_width offset_from extended_value read_extended first_bits form_in read_in read place day_of held_by last_from question
last_of_two = (refl, refl)

pub none_yet_lem : NoneYet
unfolding count_of stamp_octets stamps_start header_good start_at length_at channel_at correction_at stamp_at instant_at record_at channel_good placed place_good fields_good step walk walk_file card file_of row_octets stamps header_of local_of ahead instant_of unsigned_octets unsigned_at signed_octets more signed_of first_from fewest_octets sum_from leap year_length month_length is_day day_number time_in_range offset_in_range in_range are_digits number_at digits_of width put fits_at says_at widths puts fit says layout text_length fraction_unit text_numbers text_image digits_from digits_found minus_zero clock_in_range numbers_in_range text_value read_fields read_text per_day start count number greatest carried has_compact padded_to number_octets compact_image shortest longest_plain carried_in number_in_range usual compact_value read_number read_compact head_bits day_width offset_from extended_value read_extended first_bits form_in read_in read place day_of held_by last_from question
none_yet_lem = (refl, refl, refl, refl, refl)

pub of_channels : OfChannels
unfolding count_of stamp_octets stamps_start header_good start_at length_at channel_at correction_at stamp_at instant_at record_at channel_good placed place_good fields_good step walk walk_file card file_of row_octets stamps header_of local_of ahead instant_of unsigned_octets unsigned_at signed_octets more signed_of first_from fewest_octets sum_from leap year_length month_length is_day day_number time_in_range offset_in_range in_range are_digits number_at digits_of width put fits_at says_at widths puts fit says layout text_length fraction_unit text_numbers text_image digits_from digits_found minus_zero clock_in_range numbers_in_range text_value read_fields read_text per_day start count number greatest carried has_compact padded_to number_octets compact_image shortest longest_plain carried_in number_in_range usual compact_value read_number read_compact head_bits day_width offset_from extended_value read_extended first_bits form_in read_in read place day_of held_by last_from question
of_channels = (refl, refl, refl, refl, refl, refl, refl)

pub of_records_read : OfRecordsRead
unfolding count_of stamp_octets stamps_start header_good start_at length_at channel_at correction_at stamp_at instant_at record_at channel_good placed place_good fields_good step walk walk_file card file_of row_octets stamps header_of local_of ahead instant_of unsigned_octets unsigned_at signed_octets more signed_of first_from fewest_octets sum_from leap year_length month_length is_day day_number time_in_range offset_in_range in_range are_digits number_at digits_of width put fits_at says_at widths puts fit says layout text_length fraction_unit text_numbers text_image digits_from digits_found minus_zero clock_in_range numbers_in_range text_value read_fields read_text per_day start count number greatest carried has_compact padded_to number_octets compact_image shortest longest_plain carried_in number_in_range usual compact_value read_number read_compact head_bits day_width offset_from extended_value read_extended first_bits form_in read_in read place day_of held_by last_from question
of_records_read = (refl, refl, refl, refl, refl, refl, refl, refl, refl, refl, refl, refl, refl, refl)
