-- One answer for every public call: each is a theorem of the call's own crate. Assumes nothing.
use Rattle.calendar.proofs.OneAnswer as calendar
use Rattle.values.proofs.OneAnswer as values
use Rattle.stamp.proofs.OneAnswer as stamp
use Rattle.instants.proofs.OneAnswer as instants
use Rattle.schedule.proofs.OneAnswer as schedule
use Rattle.boundary.proofs.OneAnswer as boundary
use Rattle.claims.specs.OneAnswer.{CalendarAnswers, PartsAnswers, SettingsAnswers, WritersAnswers, ReadersAnswers, InstantsAnswers, ScheduleAnswers, OverAnswers, BoundaryAnswers, OverForCAnswers}

pub calendar_answers : CalendarAnswers
calendar_answers = (calendar.one_new, calendar.one_in_range, calendar.one_day_number, calendar.one_date_of, calendar.one_year_start)

pub parts_answers : PartsAnswers
parts_answers = (
  values.one_time_new,
  values.one_end_of_day,
  values.one_is_end_of_day,
  values.one_time_in_range,
  values.one_offset_new,
  values.one_offset_in_range,
  values.one_dated,
  values.one_timed,
  values.one_zoned,
  values.one_kind_of_number,
  values.one_kind_number,
  values.one_rest_in_range,
  values.one_value_in_range,
  values.one_decoded_kind,
  values.one_decoded_form,
  values.one_decoded_value,
  values.one_refusal_number,
)

pub settings_answers : SettingsAnswers
settings_answers = (
  values.one_settings_new,
  values.one_settings_default,
  values.one_settings_for_form,
  values.one_settings_form,
  values.one_settings_in_range,
)

pub writers_answers : WritersAnswers
writers_answers = (
  stamp.one_write_date,
  stamp.one_write_date_tz,
  stamp.one_write_time,
  stamp.one_write_time_tz,
  stamp.one_write_datetime,
  stamp.one_write_datetime_tz,
)

pub readers_answers : ReadersAnswers
readers_answers = (
  stamp.one_read_date,
  stamp.one_read_date_tz,
  stamp.one_read_time,
  stamp.one_read_time_tz,
  stamp.one_read_datetime,
  stamp.one_read_datetime_tz,
  stamp.one_read_date_or_date_tz,
  stamp.one_read_time_or_time_tz,
  stamp.one_read_datetime_or_datetime_tz,
  stamp.one_date_kind,
  stamp.one_time_kind,
  stamp.one_datetime_kind,
)

pub instants_answers : InstantsAnswers
instants_answers = (
  instants.one_number,
  instants.one_new,
  instants.one_in_range,
  instants.one_instant_of,
  instants.one_add,
  instants.one_difference,
  instants.one_at,
  instants.one_restate,
)

pub schedule_answers : ScheduleAnswers
schedule_answers = (schedule.one_number, schedule.one_of_stamp, schedule.one_of_fault, schedule.one_read, schedule.one_record_at, schedule.one_holds)

pub over_answers : OverAnswers
over_answers = (schedule.one_part_over, schedule.one_over)

pub boundary_answers : BoundaryAnswers
boundary_answers = (
  boundary.one_stamp_write,
  boundary.one_stamp_read,
  boundary.one_stamp_instant,
  boundary.one_stamp_add,
  boundary.one_stamp_difference,
  boundary.one_stamp_at,
  boundary.one_stamp_restate,
  boundary.one_stamp_schedule_read,
  boundary.one_stamp_schedule_record,
  boundary.one_stamp_schedule_holds,
)

pub over_for_c_answers : OverForCAnswers
over_for_c_answers = boundary.one_stamp_schedule_over
