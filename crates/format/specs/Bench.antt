-- 01's own examples, as tables: proved right by computing them from the definitions (`proofs/Bench.antt`).
--
--   bench           the fifteen bench cases A to O, in order: kind, settings, value, and the octets or the refusal that must come
--   Fifteen         every case comes to what the table says
--   lengths_of k    a kind's text lengths, for digits 0 to 6
--   TextLengths     they are those that 01 lists
--   NamedDays       the day numbers that 01 names
--   ascii "12:00"   the octets of a text
use Rattle.std.specs.Prelude.{ℕ, ◌≡◌, true, List, [], ◌∷◌, ℤ, pos, negsuc}
use Prim.Native.Char.{code}
use Prim.Native.String as S
use Rattle.format.specs.Words.{Outcome, accepted, refused}
use Rattle.format.specs.Calendar.{day_number}
use Rattle.format.specs.Values.{Kind, Date, DateTz, Time, TimeTz, Datetime, DatetimeTz, Value, Settings}
use Rattle.format.specs.Text.{text_length}
use Rattle.format.specs.Writing.{encode}

pub record Case : Type 0 where
  pub kind : Kind
  pub settings : Settings
  pub value : Value
  pub comes : Outcome (List ℕ)

-- "Old" is version 0, "new" 35,500; all are binary, digits 3 unless said
abbrev pub old : Settings
old = record { binary = true; version = 0; digits = 3 }

abbrev pub new : Settings
new = record { binary = true; version = 35500; digits = 3 }

abbrev pub new_six : Settings
new_six = record { binary = true; version = 35500; digits = 6 }

-- year, month, day, microseconds of the day, offset (-270 is `negsuc 269`)
abbrev pub of : ℕ → ℕ → ℕ → ℕ → ℤ → Value
of y m d micros offset = record { date = record { year = y; month = m; day = d }; micros = micros; offset = offset }

abbrev pub ascii : S.String → List ℕ
ascii S.[] = []
ascii (S.◌∷◌ c s) = code c ∷ ascii s

abbrev pub row : Kind → Settings → Value → Outcome (List ℕ) → Case
row k s v o = record { kind = k; settings = s; value = v; comes = o }

-- 01, Bench examples: A to F are dates, G a DateTz, H and I 24:00, J and K TimeTz, L a Datetime, M a DatetimeTz, N and O Datetimes
unfoldable pub bench : List Case
bench =
    row Date old (of 2020 1 1 0 (pos 0)) (accepted (0x00 ∷ []))
    ∷ row Date old (of 2019 12 31 0 (pos 0)) (accepted (0xFF ∷ []))
    ∷ row Date old (of 2020 5 7 0 (pos 0)) (accepted (0x7F ∷ []))
    ∷ row Date old (of 2020 5 8 0 (pos 0)) (accepted (0x00 ∷ 0x80 ∷ []))
    ∷ row Date old (of 1 1 1 0 (pos 0)) (accepted (0xF4 ∷ 0xBF ∷ 0x70 ∷ []))
    ∷ row Date old (of 9999 12 31 0 (pos 0)) (accepted (0x2C ∷ 0x79 ∷ 0x4A ∷ []))
    ∷ row DateTz old (of 2020 1 1 0 (negsuc 269)) (accepted (0xFE ∷ 0xF2 ∷ 0x00 ∷ 0x00 ∷ []))
    ∷ row Time new (of 0 0 0 86400000000 (pos 0)) (accepted (0x80 ∷ 0x00 ∷ 0x14 ∷ 0x1D ∷ 0xD7 ∷ 0x60 ∷ 0x00 ∷ []))
    ∷ row Time old (of 0 0 0 86400000000 (pos 0)) (accepted (0x05 ∷ 0x26 ∷ 0x5C ∷ 0x00 ∷ []))
    ∷ row TimeTz old (of 0 0 0 1000 (pos 90)) (accepted (0x00 ∷ 0x5A ∷ 0x00 ∷ 0x00 ∷ 0x01 ∷ []))
    ∷ row TimeTz new_six (of 0 0 0 0 (negsuc 269)) (accepted (0x9E ∷ 0xF2 ∷ 0x00 ∷ 0x00 ∷ 0x00 ∷ 0x00 ∷ 0x00 ∷ []))
    ∷ row Datetime new_six (of 2020 1 1 1 (pos 0)) (accepted (0x80 ∷ 0x00 ∷ 0x0B ∷ 0x40 ∷ 0x90 ∷ 0x00 ∷ 0x00 ∷ 0x00 ∷ 0x00 ∷ 0x01 ∷ []))
    ∷ row DatetimeTz old (of 2019 12 31 86399999999 (negsuc 269)) (accepted (0xFE ∷ 0xF2 ∷ 0xFF ∷ 0xFF ∷ 0xFF ∷ 0xFF ∷ 0xFF ∷ []))
    ∷ row Datetime old (of 6479 10 17 9955327000 (pos 0)) (accepted (0x7F ∷ 0xFF ∷ 0xFF ∷ 0xFF ∷ 0xFF ∷ 0xFF ∷ []))
    ∷ row Datetime old (of 6479 10 17 9955328000 (pos 0)) (refused 3)
    ∷ []

abbrev pub written : List Case → List (Outcome (List ℕ))
written [] = []
written (c ∷ cs) = encode c.kind c.settings c.value ∷ written cs

abbrev pub wanted : List Case → List (Outcome (List ℕ))
wanted [] = []
wanted (c ∷ cs) = c.comes ∷ wanted cs

abbrev pub Fifteen : Type 0
Fifteen = written bench ≡ wanted bench

-- 01, Text: the lengths for 0 to 6 digits
abbrev pub lengths_of : Kind → List ℕ
lengths_of k =
    text_length k 0 ∷ text_length k 1 ∷ text_length k 2 ∷ text_length k 3 ∷ text_length k 4 ∷ text_length k 5 ∷ text_length k 6 ∷ []

abbrev pub TextLengths : Type 0
TextLengths =
    (text_length Date 0 ≡ 10) × (text_length DateTz 0 ≡ 16)
    × (lengths_of Time ≡ (8 ∷ 10 ∷ 11 ∷ 12 ∷ 13 ∷ 14 ∷ 15 ∷ []))
    × (lengths_of TimeTz ≡ (14 ∷ 16 ∷ 17 ∷ 18 ∷ 19 ∷ 20 ∷ 21 ∷ []))
    × (lengths_of Datetime ≡ (19 ∷ 21 ∷ 22 ∷ 23 ∷ 24 ∷ 25 ∷ 26 ∷ []))
    × (lengths_of DatetimeTz ≡ (25 ∷ 27 ∷ 28 ∷ 29 ∷ 30 ∷ 31 ∷ 32 ∷ []))

-- 01, Values and settings: 0 at 0001-01-01, 737,424 at 2020-01-01, 3,652,058 at 9999-12-31
abbrev pub NamedDays : Type 0
NamedDays =
    (day_number (record { year = 1; month = 1; day = 1 }) ≡ 0)
    × (day_number (record { year = 2020; month = 1; day = 1 }) ≡ 737424)
    × (day_number (record { year = 9999; month = 12; day = 31 }) ≡ 3652058)
