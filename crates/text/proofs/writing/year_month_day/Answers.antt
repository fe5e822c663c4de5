-- `year_month_day` meets its contract: the word law, once each part is two digits. Assumes nothing.
use Rattle.text.proofs.PuttingWords.{date_word}
use Rattle.text.proofs.writing.year_month_day.Goals as goal

pub returns : goal.returns
returns c =
    rw c.clock_digits.ensures.word (date_word c.args.year c.args.month c.args.day c.requires)
