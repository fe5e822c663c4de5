-- A record that is found lies within few octets, so that start and length of its stamp are numbers of 63 bits. Assumes nothing.
use mathlib.Core.Path.{◌≡◌, refl, subst}
use mathlib.Core.List.{List}
use mathlib.Core.Logic.{⊎_elim}
use Prim.Native.Nat.{ℕ, ◌+◌, ◌-◌, ◌≤◌}
use native.Mathlib.Omega.{arith}
use lib.Dec.{leb}
use lib.IntN.{ℤ}
use Rattle.format.specs.Words.{both, Outcome, accepted, refused}
use Rattle.format.specs.Octets.{Octets}
use Rattle.format.proofs.Cases.{passed, same}
use Rattle.format.proofs.Unsigned.{unsigned_small}
use Rattle.card.specs.Header.{twelve, count_of, stamps_start}
use Rattle.card.specs.Records.{record_start, start_at, length_at, Record, record_at, in_file, records_from}
use Rattle.card.specs.Reading.{FullReading, records, refused_at, full_reading, record_of, record_asked}
use Rattle.card.specs.Question.{held_by, last_of, held_in_file, question}
use Rattle.card.proofs.Exactly.{read_described, header_told}
use Rattle.card.proofs.Asking.{answer_is, bad_channel, bad_header, bad_record, Came, came, last_of_lem}
use Rattle.card.proofs.Asking as ways
use Rattle.boundary.specs.Files.{in_words, held_in_words, asked_in_words}

module _ (s : List ℕ) (o : Octets s) where
  in-file-small : (i : ℕ) → count_of s ≤ 1000 → in_words (accepted (in_file twelve s (record_at twelve s i)))
  unfolding record_at stamps_start start_at length_at
  in-file-small i d =
      (omega (arith, d, unsigned_small s (record_start twelve i) 4 o), omega (arith, unsigned_small s (record_start twelve i + 4) 2 o))

  pub asked_in_words_lem : (p : ℕ) → in_words (record_asked twelve s p)
  unfolding record_asked
  asked_in_words_lem p = go (full_reading twelve s) refl
    where
      found : (n : ℕ) (x : Outcome Record) → full_reading twelve s ≡ records n → record_of twelve s p (records n) ≡ x → in_words x
      found n (accepted r) e h =
          let q = passed (both (leb 1 p) (leb p n)) 2 (accepted (in_file twelve s (record_at twelve s (p - 1)))) r h in
          subst (λ (x : Record). in_words (accepted x)) (same q.1) (in-file-small (p - 1) (read_described twelve s n e).header.few)
      found n (refused m) e h = tt

      go : (w : FullReading) → full_reading twelve s ≡ w → in_words (record_of twelve s p w)
      go (records n) e = found n (record_of twelve s p (records n)) e refl
      go (refused_at q m) e = tt

  pub question_in_words : (t : ℤ) (c : ℕ) → asked_in_words (question twelve s t c)
  question_in_words t c = go (came twelve s t c)
    where
      held : (k : ℕ) → count_of s ≤ 1000 → held_in_words (held_in_file twelve s (last_of (held_by t c) (records_from twelve s 0 k)))
      held k d = ⊎_elim (λ x. rw x.is tt) (λ x. rw x.1.is (in-file-small x.0 d)) (last_of_lem twelve s (held_by t c) k)

      go : Came twelve s t c → asked_in_words (question twelve s t c)
      go (ways.answer k a) = rw (answer_is twelve s t c k a) (held k (header_told twelve s a.header).few)
      go (ways.channel b) = rw (bad_channel twelve s t c b) tt
      go (ways.header a b) = rw (bad_header twelve s t c a b) tt
      go (ways.bad k m a b d) = rw (bad_record twelve s t c k m a b d) tt
