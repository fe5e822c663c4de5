-- `sign_hour_minute` meets its contract: the word law, once each part is two digits. Assumes nothing.
use Rattle.std.proofs.Common.{◌-◌, ◌*◌, ◌/◌, refl, arith, to_z-of_z}
use Rattle.text.proofs.PuttingWords.{offset_word}
use Rattle.text.proofs.writing.sign_hour_minute.Goals as goal

pub returns : goal.returns
returns c =
    let n = c.args.ahead in
    rw (c.offset_digits.ensures.word, c.sign_mark.ensures, to_z-of_z c.ranges.minutes)
    (offset_word c.args.minutes n (n / 60) (n - 60 * (n / 60)) refl (omega arith) c.requires)
