-- `put_time` meets its contract: the clock, and over its end the word that ends with the fraction. Assumes nothing.
use Rattle.std.proofs.Common.{◌/◌, ◌∙◌, arith}
use Rattle.text.proofs.Putting.{time_small, time_stored}
use Rattle.text.proofs.Wholes.{fraction_narrow}
use Rattle.text.proofs.writing.put_time.Goals as goal

pub hour_minute_second-clock-requires : goal.hour_minute_second-clock-requires
hour_minute_second-clock-requires c = omega (arith, time_small c.args.time.micros c.requires.0)

pub shifted-requires : goal.shifted-requires
shifted-requires c =
    (omega (arith, c.fraction_length-octets.ensures, fraction_narrow c.args.digits.number, c.args.digits.few), c.point_digits-fraction.ensures.front)

pub returns : goal.returns
returns c =
    let few = fraction_narrow c.args.digits.number in
    c.put_low-2.ensures
    ∙ rw (c.put_low.ensures, c.shifted.ensures)
    (time_stored c.args.buf.now c.args.at c.args.digits.number c.args.time.micros c.hour_minute_second-clock.result (c.point_digits-fraction.result / 256) c.fraction_length-octets.result
    c.args.digits.few c.fraction_length-octets.ensures (omega (arith, c.fraction_length-octets.ensures, few, c.args.digits.few)) c.hour_minute_second-clock.ensures c.point_digits-fraction.ensures.octets)
