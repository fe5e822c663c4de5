-- The bench, computed from the definitions. Assumes nothing.
-- A check reports this file before the laws: a definition that is changed wrongly fails here by a value, before a proof no longer fits.
use mathlib.Core.Path.{refl}
use Rattle.format.specs.Octets.{unsigned_octets, unsigned_at, signed_octets, more, signed_of, first_from, fewest_octets}
use Rattle.format.specs.Walk.{sum_from, place}
use Rattle.format.specs.Calendar.{leap, year_length, month_length, is_day, day_number, day_of}
use Rattle.format.specs.Values.{time_in_range, offset_in_range, in_range}
use Rattle.format.specs.Digits.{are_digits, number_at, digits_of}
use Rattle.format.specs.Fields.{width, put, fits_at, says_at, widths, puts, fit, says}
use Rattle.format.specs.Text.{layout, text_length, fraction_unit, text_numbers, text_image}
use Rattle.format.specs.TextReading.{digits_from, digits_found, minus_zero, clock_in_range, numbers_in_range, text_value, read_fields, read_text}
use Rattle.format.specs.Compact.{per_day, start, count, number, greatest, carried, has_compact, padded_to, number_octets, compact_image}
use Rattle.format.specs.CompactReading.{shortest, longest_plain, carried_in, number_in_range, usual, compact_value, read_number, read_compact}
use Rattle.format.specs.Extended.{head_bits, day_width, offset_from, extended_value, read_extended}
use Rattle.format.specs.Reading.{first_bits, form_in, read_in, read}
use Rattle.moments.specs.Instant.{local_of, ahead, instant_of}
use Rattle.card.specs.Header.{count_of, stamp_octets, stamps_start, header_good}
use Rattle.card.specs.Records.{start_at, length_at, channel_at, correction_at, stamp_at, instant_at, record_at}
use Rattle.card.specs.Step.{channel_good, placed, place_good, fields_good, step}
use Rattle.card.specs.Reading.{walk, walk_file, full_reading, record_asked}
use Rattle.card.specs.Bench.{row_octets, stamps, header_of, file_of, zeros, card, TheCard, Accepted, OfHeaders, OfFields, OfPlaces, OfStamps, OfOrder, FirstOfTwo, OfRecords}

pub the_card : TheCard
unfolding card file_of row_octets stamps header_of unsigned_octets signed_octets
the_card = refl

pub accepted : Accepted
unfolding count_of stamp_octets stamps_start header_good start_at length_at channel_at correction_at stamp_at instant_at record_at channel_good placed place_good fields_good step walk walk_file full_reading record_asked card file_of row_octets stamps header_of zeros local_of ahead instant_of unsigned_octets unsigned_at signed_octets more signed_of first_from fewest_octets sum_from leap year_length month_length is_day day_number time_in_range offset_in_range in_range are_digits number_at digits_of width put fits_at says_at widths puts fit says layout text_length fraction_unit text_numbers text_image digits_from digits_found minus_zero clock_in_range numbers_in_range text_value read_fields read_text per_day start count number greatest carried has_compact padded_to number_octets compact_image shortest longest_plain carried_in number_in_range usual compact_value read_number read_compact head_bits day_width offset_from extended_value read_extended first_bits form_in read_in read place day_of
accepted = (refl, refl, refl, refl, refl)

pub of_headers : OfHeaders
unfolding count_of stamp_octets stamps_start header_good start_at length_at channel_at correction_at stamp_at instant_at record_at channel_good placed place_good fields_good step walk walk_file full_reading record_asked card file_of row_octets stamps header_of zeros local_of ahead instant_of unsigned_octets unsigned_at signed_octets more signed_of first_from fewest_octets sum_from leap year_length month_length is_day day_number time_in_range offset_in_range in_range are_digits number_at digits_of width put fits_at says_at widths puts fit says layout text_length fraction_unit text_numbers text_image digits_from digits_found minus_zero clock_in_range numbers_in_range text_value read_fields read_text per_day start count number greatest carried has_compact padded_to number_octets compact_image shortest longest_plain carried_in number_in_range usual compact_value read_number read_compact head_bits day_width offset_from extended_value read_extended first_bits form_in read_in read place day_of
of_headers = (refl, refl, refl, refl, refl, refl, refl, refl, refl, refl, refl, refl, refl, refl, refl, refl, refl)

pub of_fields : OfFields
unfolding count_of stamp_octets stamps_start header_good start_at length_at channel_at correction_at stamp_at instant_at record_at channel_good placed place_good fields_good step walk walk_file full_reading record_asked card file_of row_octets stamps header_of zeros local_of ahead instant_of unsigned_octets unsigned_at signed_octets more signed_of first_from fewest_octets sum_from leap year_length month_length is_day day_number time_in_range offset_in_range in_range are_digits number_at digits_of width put fits_at says_at widths puts fit says layout text_length fraction_unit text_numbers text_image digits_from digits_found minus_zero clock_in_range numbers_in_range text_value read_fields read_text per_day start count number greatest carried has_compact padded_to number_octets compact_image shortest longest_plain carried_in number_in_range usual compact_value read_number read_compact head_bits day_width offset_from extended_value read_extended first_bits form_in read_in read place day_of
of_fields = ((refl, refl, refl), (refl, refl, refl), (refl, refl, refl), (refl, refl, refl), (refl, refl, refl), (refl, refl, refl))

pub of_places : OfPlaces
unfolding count_of stamp_octets stamps_start header_good start_at length_at channel_at correction_at stamp_at instant_at record_at channel_good placed place_good fields_good step walk walk_file full_reading record_asked card file_of row_octets stamps header_of zeros local_of ahead instant_of unsigned_octets unsigned_at signed_octets more signed_of first_from fewest_octets sum_from leap year_length month_length is_day day_number time_in_range offset_in_range in_range are_digits number_at digits_of width put fits_at says_at widths puts fit says layout text_length fraction_unit text_numbers text_image digits_from digits_found minus_zero clock_in_range numbers_in_range text_value read_fields read_text per_day start count number greatest carried has_compact padded_to number_octets compact_image shortest longest_plain carried_in number_in_range usual compact_value read_number read_compact head_bits day_width offset_from extended_value read_extended first_bits form_in read_in read place day_of
of_places = (refl, refl, refl, refl, refl, refl, refl, refl, refl, refl, refl)

pub of_stamps : OfStamps
unfolding count_of stamp_octets stamps_start header_good start_at length_at channel_at correction_at stamp_at instant_at record_at channel_good placed place_good fields_good step walk walk_file full_reading record_asked card file_of row_octets stamps header_of zeros local_of ahead instant_of unsigned_octets unsigned_at signed_octets more signed_of first_from fewest_octets sum_from leap year_length month_length is_day day_number time_in_range offset_in_range in_range are_digits number_at digits_of width put fits_at says_at widths puts fit says layout text_length fraction_unit text_numbers text_image digits_from digits_found minus_zero clock_in_range numbers_in_range text_value read_fields read_text per_day start count number greatest carried has_compact padded_to number_octets compact_image shortest longest_plain carried_in number_in_range usual compact_value read_number read_compact head_bits day_width offset_from extended_value read_extended first_bits form_in read_in read place day_of
of_stamps = ((refl, refl, refl), (refl, refl, refl), (refl, refl, refl), (refl, refl, refl), (refl, refl, refl), (refl, refl, refl))

pub of_order : OfOrder
unfolding count_of stamp_octets stamps_start header_good start_at length_at channel_at correction_at stamp_at instant_at record_at channel_good placed place_good fields_good step walk walk_file full_reading record_asked card file_of row_octets stamps header_of zeros local_of ahead instant_of unsigned_octets unsigned_at signed_octets more signed_of first_from fewest_octets sum_from leap year_length month_length is_day day_number time_in_range offset_in_range in_range are_digits number_at digits_of width put fits_at says_at widths puts fit says layout text_length fraction_unit text_numbers text_image digits_from digits_found minus_zero clock_in_range numbers_in_range text_value read_fields read_text per_day start count number greatest carried has_compact padded_to number_octets compact_image shortest longest_plain carried_in number_in_range usual compact_value read_number read_compact head_bits day_width offset_from extended_value read_extended first_bits form_in read_in read place day_of
of_order = (refl, refl, refl, refl, refl, refl)

pub first_of_two : FirstOfTwo
unfolding count_of stamp_octets stamps_start header_good start_at length_at channel_at correction_at stamp_at instant_at record_at channel_good placed place_good fields_good step walk walk_file full_reading record_asked card file_of row_octets stamps header_of zeros local_of ahead instant_of unsigned_octets unsigned_at signed_octets more signed_of first_from fewest_octets sum_from leap year_length month_length is_day day_number time_in_range offset_in_range in_range are_digits number_at digits_of width put fits_at says_at widths puts fit says layout text_length fraction_unit text_numbers text_image digits_from digits_found minus_zero clock_in_range numbers_in_range text_value read_fields read_text per_day start count number greatest carried has_compact padded_to number_octets compact_image shortest longest_plain carried_in number_in_range usual compact_value read_number read_compact head_bits day_width offset_from extended_value read_extended first_bits form_in read_in read place day_of
first_of_two = (refl, refl, refl, refl, refl)

pub of_records : OfRecords
unfolding count_of stamp_octets stamps_start header_good start_at length_at channel_at correction_at stamp_at instant_at record_at channel_good placed place_good fields_good step walk walk_file full_reading record_asked card file_of row_octets stamps header_of zeros local_of ahead instant_of unsigned_octets unsigned_at signed_octets more signed_of first_from fewest_octets sum_from leap year_length month_length is_day day_number time_in_range offset_in_range in_range are_digits number_at digits_of width put fits_at says_at widths puts fit says layout text_length fraction_unit text_numbers text_image digits_from digits_found minus_zero clock_in_range numbers_in_range text_value read_fields read_text per_day start count number greatest carried has_compact padded_to number_octets compact_image shortest longest_plain carried_in number_in_range usual compact_value read_number read_compact head_bits day_width offset_from extended_value read_extended first_bits form_in read_in read place day_of
of_records = (refl, refl, refl, refl, refl, refl)
