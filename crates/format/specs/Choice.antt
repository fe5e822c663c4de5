-- Which form a value is written in. (01, Choice of form.)
--
--   form_for k t v    the form for the kind, the settings and the whole value. Kinds without a time have no extended form, and their text has no fraction
--   kind_has k f      the kind has that form: what `form_for` gives and what a reader finds, so a law; no rule asks it
--   settings_for f    settings under which a value is written in this form, where it has it
use Rattle.std.specs.Prelude.{Bool, true, false, ℕ, leb, eqb}
use Rattle.format.specs.Words.{pick, both, either, if_any}
use Rattle.format.specs.Values.{Kind, timed, Value, end_of_day, Settings, most_digits, Form, text, compact, extended}

-- the first version that knows the extended form
abbrev pub extended_from : ℕ
extended_from = 35500

-- Not binary: text. Binary, version at least 35,500, and digits 6 or time 24:00: extended. Otherwise binary: compact.
unfoldable pub form_for : Kind → Settings → Value → Form
form_for k t v =
    pick t.binary
    (pick (both (timed k) (both (leb extended_from t.version) (either (eqb t.digits most_digits) (eqb v.micros end_of_day))))
    extended
    compact)
    (text (if_any (timed k) t.digits))

unfoldable pub kind_has : Kind → Form → Bool
kind_has k (text d) = leb d (if_any (timed k) most_digits)
kind_has k compact = true
kind_has k extended = timed k

-- demand 3: "in the form and digits found". A time's 24:00 is compact only below version 35,500
unfoldable pub settings_for : Form → Settings
settings_for (text d) = record { binary = false; version = 0; digits = d }
settings_for compact = record { binary = true; version = 0; digits = 0 }
settings_for extended = record { binary = true; version = extended_from; digits = most_digits }
