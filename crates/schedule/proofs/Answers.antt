-- What the ending of a walk from the front means for each call: full reading, the record at a place, which correction holds. Assumes nothing.
--     read_ended, read_faulty         full reading is the walk up to the greatest number
--     all_passed                      which passes each record that it reads
--     found_there, found_not, found_faulty    the record at a place, if such a walk read it
--     asked_ended, asked_faulty       the question is the walk up to its instant, and the last record of its channel among those passed
--     bad_header, read_of             what the header's reader answered: a bad header, or the card of this file
use mathlib.Core.Path.{◌≡◌, sym, ap, ◌∙◌}
use mathlib.Core.Logic.{⊎_elim}
use mathlib.Core.Bool.{true, false}
use mathlib.Core.List.{List}
use Prim.Native.Nat.{ℕ, zero, suc, ◌-◌, ◌≤◌, ◌<◌}
use native.Mathlib.Omega.{arith}
use lib.IntN.{ℤ}
use lib.Signed.{le_z}
use Rattle.format.specs.Words.{accepted, refused}
use Rattle.format.specs.Octets.{Octets}
use Rattle.format.proofs.Cases.{never, lt_or_le}
use Rattle.card.specs.Header.{twelve, header_good}
use Rattle.card.specs.Records.{instant_at, record_at, records_from, in_file}
use Rattle.card.specs.Step.{before_at, channel_good}
use Rattle.card.specs.Reading.{Walked, taken, fault, walk_file, records, refused_at, numbered, full_reading, record_asked}
use Rattle.card.specs.Question.{later, held_by, last_of, held_in_file, question, records_read}
use Rattle.card.proofs.Exactly.{described_good, accepted_exactly, file_fault}
use Rattle.card.proofs.Walking.{records_length}
use Rattle.card.proofs.Asking.{reads_so, faulty_so, answer_is, bad_header as asked_bad_header, bad_record, Came, came}
use Rattle.card.proofs.Asking as ways
use Rattle.card.proofs.Greatest.{greatest_asked, not_above, up_to_greatest}
use Rattle.card.proofs.Limits.{record_at_place}
use Rattle.std.specs.Prelude.{Option, Some, None, Ok, Err, ok_or, Result}
use Rattle.schedule.specs.declared.Refusal.{Refusal}
use Rattle.schedule.specs.declared.Record.{Record}
use Rattle.schedule.specs.Meaning.{held_from}
use Rattle.schedule.specs.declared.header.Card.{Card}
use Rattle.schedule.specs.declared.walk.Ended.{Ended}
use Rattle.instants.specs.declared.Instant.{Instant}
use Rattle.schedule.specs.declared.Held.{Held}
use Rattle.schedule.specs.Meaning.{asked}
use Rattle.schedule.specs.Calls.{AsksFile}
use Rattle.schedule.specs.Steps.{HeaderRead, ended, faulty, ending, Stands, EndsBy, held_at, last_place, Latest}
use Rattle.schedule.proofs.Endings.{ended_same}
use Rattle.schedule.proofs.Finding.{asked_refused, held_last, held_before}

-- ---- an ending tells one thing

faulty_same : {p q n m : ℕ} → faulty p n ≡ faulty q m → (p ≡ q) × (n ≡ m)
faulty_same e = (cc, cc)

full_ended : (w : Walked) (n : ℕ) → ending 0 w ≡ ended n → numbered w ≡ records n
full_ended (taken rs) n e = ap records (omega (arith, ended_same e))
full_ended (fault q m) n e = absurd (let z : ◌≡◌ {A = ℕ} 0 1 = cc in omega arith)

full_faulty : (w : Walked) (q m : ℕ) → ending 0 w ≡ faulty q m → numbered w ≡ refused_at q m
full_faulty (taken rs) q m e = absurd (let z : ◌≡◌ {A = ℕ} 0 1 = cc in omega arith)
full_faulty (fault a b) q m e = let x = faulty_same e in rw (x.0, x.1)

pub ends_by : (s : List ℕ) (t : ℤ) (e : Ended) → Stands s t 0 e → EndsBy s e
ends_by s t e h =
    record {
      few = omega (arith, h.few, h.least);
      each = λ j l. (h.each j (omega arith) l).good;
      last = λ j q. h.last j (omega arith) q;
    }

module _ (s : List ℕ) (o : Octets s) where
  -- ---- full reading

  pub read_ended : (n : ℕ) → ending 0 (walk_file twelve s (later greatest_asked)) ≡ ended n → full_reading twelve s ≡ records n
  unfolding full_reading
  read_ended n e = ap numbered (sym (up_to_greatest twelve s o)) ∙ full_ended (walk_file twelve s (later greatest_asked)) n e

  pub read_faulty : (q m : ℕ) → ending 0 (walk_file twelve s (later greatest_asked)) ≡ faulty q m → full_reading twelve s ≡ refused_at q m
  unfolding full_reading
  read_faulty q m e = ap numbered (sym (up_to_greatest twelve s o)) ∙ full_faulty (walk_file twelve s (later greatest_asked)) q m e

  -- ---- the record at a place

  module _ (e : Ended) (h : Stands s greatest_asked 0 e) (w : ending 0 (walk_file twelve s (later greatest_asked)) ≡ ended e.read) where
    all_passed : e.passed ≡ e.read
    all_passed = ⊎_elim (λ l. never (sym (h.late l) ∙ soon l)) (λ l. omega (arith, h.least)) (lt_or_le e.passed e.read)
      where
        soon : e.passed < e.read → le_z (instant_at twelve s e.passed) greatest_asked ≡ true
        soon l =
            let a = (accepted_exactly twelve s e.read).0 (read_ended e.read w) in
            not_above twelve s o e.passed (before_at twelve s e.passed) (described_good twelve s a.0 e.passed (omega (arith, a.1)))

    pub found_there : (p : ℕ) → 0 < p → p ≤ e.passed → record_asked twelve s p ≡ accepted (in_file twelve s (record_at twelve s (p - 1)))
    found_there zero l q = absurd (omega arith)
    found_there (suc i) l q =
        let z : suc i - 1 ≡ i = omega arith in
        rw z ((record_at_place twelve s e.read (read_ended e.read w)).0 i (omega (arith, h.least)))

    pub found_not : (p : ℕ) → e.passed < p → record_asked twelve s p ≡ refused 2
    found_not p l = (record_at_place twelve s e.read (read_ended e.read w)).1 p (omega (arith, all_passed))

    pub found_none : record_asked twelve s 0 ≡ refused 2
    found_none = (record_at_place twelve s e.read (read_ended e.read w)).2

  pub found_faulty : (p q m : ℕ) → ending 0 (walk_file twelve s (later greatest_asked)) ≡ faulty q m → record_asked twelve s p ≡ refused m
  found_faulty p q m e = asked_refused s p q m (read_faulty q m e)

-- ---- the question

module _ (s : List ℕ) (t : ℤ) (c : ℕ) where
  module _ (e : Ended) (h : Stands s t 0 e) where
    last-read : last_of (held_by t c) (records_from twelve s 0 e.read) ≡ held_at s (last_place s c e.passed)
    last-read = ⊎_elim one none (lt_or_le e.passed e.read)
      where
        before : last_of (held_by t c) (records_from twelve s 0 e.passed) ≡ held_at s (last_place s c e.passed)
        before = held_last s t c e.passed (λ j l. (h.each j (omega arith) l).soon)

        one : e.passed < e.read → last_of (held_by t c) (records_from twelve s 0 e.read) ≡ held_at s (last_place s c e.passed)
        one l = let z : e.read ≡ suc e.passed = omega (arith, h.most) in rw z (held_before s t c e.passed (h.late l) ∙ before)

        none : e.read ≤ e.passed → last_of (held_by t c) (records_from twelve s 0 e.read) ≡ held_at s (last_place s c e.passed)
        none l = let z : e.read ≡ e.passed = omega (arith, h.least) in rw z before

    asked-held : channel_good c ≡ true → ending 0 (walk_file twelve s (later t)) ≡ ended e.read
        → question twelve s t c ≡ accepted (record { read = e.read; held = held_in_file twelve s (held_at s (last_place s c e.passed)) })
    asked-held g w = go (came twelve s t c)
      where
        go : Came twelve s t c → question twelve s t c ≡ accepted (record { read = e.read; held = held_in_file twelve s (held_at s (last_place s c e.passed)) })
        go (ways.answer k a) =
            let x = ended_same (sym (ap (ending 0) (reads_so twelve s t c k a)) ∙ w) in
            let l = records_length twelve s 0 k in
            let z : k ≡ e.read = omega arith in
            answer_is twelve s t c k a
            ∙ ap (λ y. accepted (record { read = y; held = held_in_file twelve s (last_of (held_by t c) (records_from twelve s 0 y)) })) z
            ∙ ap (λ y. accepted (record { read = e.read; held = held_in_file twelve s y })) last-read
        go (ways.channel b) = never (sym b ∙ g)
        go (ways.header a b) =
            let x = ap (ending 0) (file_fault twelve s (later t) b) in
            absurd (let z : ◌≡◌ {A = ℕ} 0 1 = cc in omega arith)
        go (ways.bad k m a b d) =
            let x = ap (ending 0) (faulty_so twelve s t c k m b d) in
            absurd (let z : ◌≡◌ {A = ℕ} 0 1 = cc in omega arith)

    pub asked_ended : (r : Option Record) → Latest s c e.passed r → channel_good c ≡ true → ending 0 (walk_file twelve s (later t)) ≡ ended e.read
        → accepted (record { read = e.read; held = held_from r }) ≡ question twelve s t c
    asked_ended r l g w = ap (λ x. accepted (record { read = e.read; held = x })) l ∙ sym (asked-held g w)

  pub asked_faulty : channel_good c ≡ true → (q m : ℕ) → ending 0 (walk_file twelve s (later t)) ≡ faulty q m → question twelve s t c ≡ refused m
  asked_faulty g q m e = go (came twelve s t c)
    where
      go : Came twelve s t c → question twelve s t c ≡ refused m
      go (ways.answer k a) =
          let x = ap (ending 0) (reads_so twelve s t c k a) in
          absurd (let z : ◌≡◌ {A = ℕ} 0 1 = cc in omega arith)
      go (ways.channel b) = never (sym b ∙ g)
      go (ways.header a b) =
          let x = faulty_same (sym (ap (ending 0) (file_fault twelve s (later t) b)) ∙ e) in
          asked_bad_header twelve s t c a b ∙ ap refused x.1
      go (ways.bad k n a b d) =
          let x = faulty_same (sym (ap (ending 0) (faulty_so twelve s t c k n b d)) ∙ e) in
          bad_record twelve s t c k n a b d ∙ ap refused x.1

-- ---- the header, where its reader's answer is asked for

pub bad_header : (s : List ℕ) (r : Option Card) (f e : Refusal) → Err f ≡ ok_or r e → HeaderRead s r → (header_good twelve s ≡ false) × (f ≡ e)
bad_header s None f e x h = (h, cc)
bad_header s (Some g) f e x h = absurd (let z : ◌≡◌ {A = ℕ} 0 1 = cc in omega arith)

pub read_of : (s : List ℕ) (r : Option Card) (c : Card) (e : Refusal) → Ok c ≡ ok_or r e → HeaderRead s r → c.file.now ≡ s
read_of s None c e x h = absurd (let z : ◌≡◌ {A = ℕ} 0 1 = cc in omega arith)
read_of s (Some b) c e x h = let z : b ≡ c = cc in rw z at h

-- ---- in the words of the promise

pub asks : (s : List ℕ) (i : Instant) (c : ℕ) (r : Result Held Refusal) → asked r ≡ question twelve s i.micros c → AsksFile s i c r
asks s i c (Ok h) e = record { answer = e; count = ap records_read e }
asks s i c (Err f) e = record { answer = e; count = ap records_read e }
