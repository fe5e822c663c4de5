-- `stamp_schedule_record` meets its contract: what `record_at` answers, handed over. Assumes nothing.
use native.Mathlib.Omega.{arith}
use Rattle.boundary.proofs.InWords.{asked_in_words_lem}
use Rattle.boundary.proofs.files.stamp_schedule_record.Goals as goal

pub hand_record-requires : goal.hand_record-requires
hand_record-requires c = rw c.record_at.ensures (asked_in_words_lem _ (λ k. omega (arith, c.type_inv.file k)) _)

pub returns : goal.returns
returns c = rw (← c.record_at.ensures) c.hand_record.ensures
