-- The bench of manual over plan: two files of `Bench.antt` and `BenchOfQuestions.antt`, and the part that comes back. (02, request 6.)
--
--   parts p m t c           the part of the plan p or the manual schedule m that the instant t and the channel c give
--   part x a n              n octets of the file x from a on
--   one                     the file of the card's first record alone: channel 1 at midnight, as text
--   evening                 a file whose record of channel 1 is one microsecond before midnight
--   of_morning              a file whose record of channel 1 is at day_after: the next day's 00:00, where the card has 24:00
--   others                  a file with records of channel 16 alone
--   year_one, hour_before   files whose record of channel 1 is at the instant 0, and an hour before it: an instant below 0
use Rattle.std.specs.Prelude.{ℕ, ◌≡◌, List, [], ◌∷◌, ℤ, pos}
use Rattle.format.specs.Bench.{ascii}
use Rattle.card.specs.Header.{twelve}
use Rattle.card.specs.Bench.{row, file_of, first, second, third, later, card, with}
use Rattle.card.specs.BenchOfQuestions.{midnight, day_after, least, greatest}
use Rattle.card.specs.Over.{Source, plan, manual, Part, handed_back}

abbrev pub parts : List ℕ → List ℕ → ℤ → ℕ → Part
parts p m t c = handed_back twelve p m t c

abbrev pub part : Source → ℕ → ℕ → Part
part x a n = record { source = x; start = a; size = n }

unfoldable pub one : List ℕ
one = file_of (first ∷ [])

unfoldable pub evening : List ℕ
evening = file_of (row (ascii "2019-12-31T23:59:59.999999+00:00") 1 (pos 5) ∷ [])

unfoldable pub of_morning : List ℕ
of_morning = file_of (row (ascii "2020-01-02T00:00:00+00:00") 1 (pos 5) ∷ [])

unfoldable pub others : List ℕ
others = file_of (second ∷ [])

unfoldable pub year_one : List ℕ
year_one = file_of (row (ascii "0001-01-01T00:00:00+00:00") 1 (pos 5) ∷ [])

unfoldable pub hour_before : List ℕ
hour_before = file_of (row (ascii "0001-01-01T00:00:00+01:00") 1 (pos 5) ∷ [])

-- the later instant, in whichever file, also by a microsecond, and where one is below 0
abbrev pub TheLater : Type 0
TheLater =
    (parts one card day_after 1 ≡ part manual 84 10)
    × (parts card one day_after 1 ≡ part plan 84 10)
    × (parts card evening midnight 1 ≡ part plan 52 25)
    × (parts evening card midnight 1 ≡ part manual 52 25)
    × (parts evening card (pos 63713433599999999) 1 ≡ part plan 28 32)
    × (parts hour_before year_one midnight 1 ≡ part manual 28 25)
    × (parts year_one hour_before midnight 1 ≡ part plan 28 25)

-- the manual one at equality, whatever the forms: 24:00 is the next day's 00:00, and 01:00 at +01:00 is 00:00 UTC
abbrev pub AtEquality : Type 0
AtEquality =
    (parts card one midnight 1 ≡ part manual 28 25)
    × (parts one card midnight 1 ≡ part manual 52 25)
    × (parts card of_morning day_after 1 ≡ part manual 28 25)
    × (parts of_morning card day_after 1 ≡ part manual 84 10)
    × (parts card card midnight 16 ≡ part manual 77 7)
    × (parts (file_of (row first.stamp 16 (pos 5) ∷ [])) others greatest 16 ≡ part manual 28 7)

-- if only one holds, that one
abbrev pub OnlyOne : Type 0
OnlyOne =
    (parts one others midnight 1 ≡ part plan 28 25)
    × (parts others one midnight 1 ≡ part manual 28 25)
    × (parts one (file_of []) midnight 1 ≡ part plan 28 25)
    × (parts (file_of []) one midnight 1 ≡ part manual 28 25)
    × (parts one of_morning midnight 1 ≡ part plan 28 25)
    × (parts of_morning one midnight 1 ≡ part manual 28 25)

-- none in either
abbrev pub Neither : Type 0
Neither =
    (parts card card least 1 ≡ part plan 0 0)
    × (parts card one greatest 2 ≡ part plan 0 0)
    × (parts (file_of []) (file_of []) midnight 1 ≡ part plan 0 0)

-- a question refused, though the other file holds a correction; but what is wrong behind the first later record is not met
abbrev pub OneRefused : Type 0
OneRefused =
    (parts [] card midnight 1 ≡ part plan 0 0)
    × (parts card [] midnight 1 ≡ part plan 0 0)
    × (parts (with 35 17) one midnight 1 ≡ part plan 0 0)
    × (parts one (with 35 17) midnight 1 ≡ part plan 0 0)
    × (parts (with 35 17) (with 11 43) midnight 1 ≡ part plan 0 0)
    × (parts (file_of (later ∷ first ∷ [])) one day_after 1 ≡ part plan 0 0)
    × (parts (file_of (later ∷ first ∷ [])) one midnight 1 ≡ part manual 28 25)
    × (parts one (file_of (second ∷ third ∷ row [] 0 (pos 0) ∷ [])) midnight 1 ≡ part plan 28 25)
    × (parts card card midnight 0 ≡ part plan 0 0)
    × (parts card card midnight 17 ≡ part plan 0 0)
