-- `put_date` meets its contract: the century in a word of two octets, then a word of eight. Assumes nothing.
use Rattle.std.proofs.Common.{◌-◌, ◌*◌, ◌∙◌, arith}
use Rattle.calendar.specs.Meaning.{day_from}
use Rattle.text.proofs.PuttingWords.{two_word}
use Rattle.text.proofs.Putting.{date_small, date_stored}
use Rattle.text.proofs.writing.put_date.Goals as goal

pub century-century-requires : goal.century-century-requires
century-century-requires c = (date_small (day_from c.args.date) c.requires.0).0

pub two_digits-requires : goal.two_digits-requires
two_digits-requires c =
    omega (arith, c.century-century.ensures, (date_small (day_from c.args.date) c.requires.0).0)

pub year_month_day-requires : goal.year_month_day-requires
year_month_day-requires c =
    let s = date_small (day_from c.args.date) c.requires.0 in
    (omega (arith, c.century-century.ensures), s.1, s.2)

pub returns : goal.returns
returns c =
    let s = date_small (day_from c.args.date) c.requires.0 in
    let h = c.century-century.result in
    c.put_low-2.ensures
    ∙ rw (c.put_low.ensures, c.year_month_day.ensures, c.two_digits.ensures.word, two_word h (omega (arith, c.century-century.ensures, s.0)))
    (date_stored c.args.buf.now (day_from c.args.date) h (c.args.date.year - 100 * h) c.century-century.ensures (omega (arith, c.century-century.ensures)))
