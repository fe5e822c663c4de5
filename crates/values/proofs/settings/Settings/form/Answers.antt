-- `Settings::form` meets its contract: at each return the tests that led there settle the choice. Assumes nothing.
use mathlib.Core.Path.{◌≡◌, sym, ◌∙◌}
use mathlib.Core.Bool.{true, false}
use Prim.Native.Nat.{◌<◌, ◌≤◌}
use lib.Dec.{eqb}
use borrow.Author.Tests.{le-leb, lt-leb, eq-eqb, ne_eqb}
use Rattle.format.specs.Values.{Kind, timed, Value, end_of_day, Settings, text, compact, extended}
use Rattle.format.specs.Choice.{form_for}
use Rattle.format.proofs.Cases.{not_true, not_false}
use Rattle.values.proofs.settings.Settings.form.Goals as goal

module _ (k : Kind) (t : Settings) (v : Value) where
  text-timed : t.binary ≡ false → timed k ≡ true → text t.digits ≡ form_for k t v
  unfolding form_for
  text-timed b e = rw (b, e)

  text-whole : t.binary ≡ false → timed k ≡ false → text 0 ≡ form_for k t v
  unfolding form_for
  text-whole b e = rw (b, e)

  compact-day : t.binary ≡ true → timed k ≡ false → compact ≡ form_for k t v
  unfolding form_for
  compact-day b e = rw (b, e)

  compact-old : t.binary ≡ true → timed k ≡ true → t.version < 35500 → compact ≡ form_for k t v
  unfolding form_for
  compact-old b e h = rw (b, e, lt-leb 35500 t.version h)

  extended-six : t.binary ≡ true → timed k ≡ true → 35500 ≤ t.version → t.digits ≡ 6 → extended ≡ form_for k t v
  unfolding form_for
  extended-six b e h d = rw (b, e, le-leb 35500 t.version h, eq-eqb t.digits 6 d)

  extended-end : t.binary ≡ true → timed k ≡ true → 35500 ≤ t.version → (t.digits ≡ 6 → ⊥) → eqb v.micros end_of_day ≡ true → extended ≡ form_for k t v
  unfolding form_for
  extended-end b e h d m = rw (b, e, le-leb 35500 t.version h, ne_eqb t.digits 6 d, m)

  compact-new : t.binary ≡ true → timed k ≡ true → 35500 ≤ t.version → (t.digits ≡ 6 → ⊥) → eqb v.micros end_of_day ≡ false → compact ≡ form_for k t v
  unfolding form_for
  compact-new b e h d m = rw (b, e, le-leb 35500 t.version h, ne_eqb t.digits 6 d, m)

pub returns-then-timed : goal.returns-then-timed
returns-then-timed c = text-timed _ _ _ (not_true _ c.if-not-self.true) (sym c.timed.ensures ∙ c.if-timed.true)

pub returns-then-not-self : goal.returns-then-not-self
returns-then-not-self c = text-whole _ _ _ (not_true _ c.if-not-self.true) (sym c.timed.ensures ∙ c.if-timed.false)

pub returns-then-not-timed : goal.returns-then-not-timed
returns-then-not-timed c = compact-day _ _ _ (not_false _ c.if-not-self.false) (sym c.timed-2.ensures ∙ not_true _ c.if-not-timed.true-raw)

pub returns-then-self-lt-EXTENDED_FROM : goal.returns-then-self-lt-EXTENDED_FROM
returns-then-self-lt-EXTENDED_FROM c = let e = c in compact-old _ _ _ (not_false _ e.if-not-self.false) (sym e.timed-2.ensures ∙ not_false _ e.if-not-timed.false-raw) c.if-self-lt-EXTENDED_FROM.true

pub returns-then-digits-eq-MAX_DIGITS : goal.returns-then-digits-eq-MAX_DIGITS
returns-then-digits-eq-MAX_DIGITS c =
    let e = c in
    extended-six _ _ _ (not_false _ e.if-not-self.false) (sym e.timed-2.ensures ∙ not_false _ e.if-not-timed.false-raw) c.if-self-lt-EXTENDED_FROM.false c.if-digits-eq-MAX_DIGITS.true

pub returns-then-is_end_of_day : goal.returns-then-is_end_of_day
returns-then-is_end_of_day c =
    let f = c in
    let e = f in
    extended-end _ _ _ (not_false _ e.if-not-self.false) (sym e.timed-2.ensures ∙ not_false _ e.if-not-timed.false-raw) f.if-self-lt-EXTENDED_FROM.false f.if-digits-eq-MAX_DIGITS.false (sym c.is_end_of_day.ensures ∙ c.if-is_end_of_day.true)

pub returns : goal.returns
returns c =
    let f = c in
    let e = f in
    compact-new _ _ _ (not_false _ e.if-not-self.false) (sym e.timed-2.ensures ∙ not_false _ e.if-not-timed.false-raw) f.if-self-lt-EXTENDED_FROM.false f.if-digits-eq-MAX_DIGITS.false (sym c.is_end_of_day.ensures ∙ c.if-is_end_of_day.false)
