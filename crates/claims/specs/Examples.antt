-- 01's own examples, which the rules come to: computed, each table under one theorem. The tables stand in `format` (`Bench.antt`, `Slips.antt`).
--
--   TheFifteen      the fifteen bench cases A to O
--   TheLengths      the text lengths that 01 lists
--   TheDays         0 at 0001-01-01, 737,424 at 2020-01-01, 3,652,058 at 9999-12-31
--   TheSlips        what comes instead of each slip that has been seen, and both sides of what is easily taken for its neighbour
use Rattle.format.specs.Bench.{Fifteen, TextLengths, NamedDays}
use Rattle.format.specs.Slips.{Slips, SlipsText, SlipsBinary, SlipsForms, SlipsKept, SlipsChosen, SlipsDays}

abbrev pub TheFifteen : Type 0
TheFifteen = Fifteen

abbrev pub TheLengths : Type 0
TheLengths = TextLengths

abbrev pub TheDays : Type 0
TheDays = NamedDays

abbrev pub TheSlips : Type 0
TheSlips = Slips × SlipsText × SlipsBinary × SlipsForms × SlipsKept × SlipsChosen × SlipsDays
