-- What the code's refusals and answers mean in the paper's terms.
--
--   refusal_number f   the number of a refusal: 2 or 9 (02, request 2)
--   outcome f r        what a call answers, in the terms of f, or the refusal's number and nothing else
--   found r            what `Instant::try_from` and `Instant::add` answer: an instant's number, or the refusal's number and nothing else
--   apart r            what `Instant::difference` answers: microseconds, or the refusal's number and nothing else
--   stated r           what `Instant::at` and `restate` answer: a stamp, or the refusal's number and nothing else
use Rattle.std.specs.Prelude.{ℕ, ℤ, Result, Ok, Err}
use Rattle.format.specs.Words.{Outcome, accepted, refused}
use Rattle.format.specs.Values.{Value}
use Rattle.values.specs.declared.kinds.DatetimeTz.{DatetimeTz}
use Rattle.values.specs.Meaning.{datetime_tz_value}
use Rattle.instants.specs.declared.Instant.{Instant}
use Rattle.instants.specs.declared.Refusal.{Refusal}
use Rattle.instants.specs.declared.Refusal.TheVariants as R

abbrev pub refusal_number : Refusal → ℕ
refusal_number R.Value = 2
refusal_number R.NotRepresentable = 9

abbrev pub outcome : {T A : Type 0} → (T → A) → Result T Refusal → Outcome A
outcome f (Ok t) = accepted (f t)
outcome f (Err r) = refused (refusal_number r)

abbrev pub found : Result Instant Refusal → Outcome ℤ
found r = outcome (λ i. i.micros) r

abbrev pub apart : Result ℤ Refusal → Outcome ℤ
apart r = outcome (λ n. n) r

abbrev pub stated : Result DatetimeTz Refusal → Outcome Value
stated r = outcome datetime_tz_value r
