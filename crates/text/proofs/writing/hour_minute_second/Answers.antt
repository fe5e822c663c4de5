-- `hour_minute_second` meets its contract: the word law, once each part is two digits. Assumes nothing.
use Rattle.std.proofs.Common.{◌-◌, ◌*◌, arith}
use Rattle.text.proofs.PuttingWords.{clock_word}
use Rattle.text.proofs.writing.hour_minute_second.Goals as goal

pub returns : goal.returns
returns c =
    let s = c.args.seconds in
    let hours = c.hours_in-hours.result in
    let minutes = c.minutes_in-minutes.result in
    rw c.clock_digits.ensures.word
    (clock_word s hours (minutes - 60 * hours) (s - 60 * minutes) c.hours_in-hours.ensures (omega (arith, c.hours_in-hours.ensures, c.minutes_in-minutes.ensures)) (omega (arith, c.minutes_in-minutes.ensures)) c.requires)
