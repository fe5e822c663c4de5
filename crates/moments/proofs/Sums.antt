-- Sums and differences of instants. Assumes nothing.
--     add_zero           adding zero to an instant changes nothing
--     differ_neg         the difference of a and b is the negative of that of b and a
--     add_differ         adding to a the difference of b and a gives b
--     add_twice          adding twice is adding the sum
use mathlib.Core.Path.{◌≡◌, refl, sym, ◌∙◌, ap}
use mathlib.Core.Bool.{true}
use lib.IntN.{ℤ, pos, neg_ℤ, neg_ℤ-neg_ℤ, neg_ℤ-+ℤ, ◌+ℤ◌, ◌-ℤ◌, +ℤ_idr, +ℤ_comm, +ℤ_assoc, -ℤ-+ℤ_cancel}
use Rattle.format.specs.Words.{accepted, unless}
use Rattle.format.proofs.Cases.{passed, same}
use Rattle.moments.specs.Instant.{is_instant}
use Rattle.moments.specs.Calls.{add, difference}

pub record Added (i n x : ℤ) : Type 0 where
  pub start : is_instant i ≡ true
  pub end : is_instant (i +ℤ n) ≡ true
  pub sum : i +ℤ n ≡ x

pub added : (i n x : ℤ) → add i n ≡ accepted x → Added i n x
unfolding add
added i n x e =
    let p = passed (is_instant i) 2 (unless (is_instant (i +ℤ n)) 9 (accepted (i +ℤ n))) x e in
    let q = passed (is_instant (i +ℤ n)) 9 (accepted (i +ℤ n)) x p.1 in
    record { start = p.0; end = q.0; sum = same q.1 }

pub adds : (i n x : ℤ) → is_instant i ≡ true → is_instant x ≡ true → i +ℤ n ≡ x → add i n ≡ accepted x
unfolding add
adds i n x a b s = rw (s, a, b) refl

pub add_zero : (i : ℤ) → is_instant i ≡ true → add i (pos 0) ≡ accepted i
add_zero i h = adds i (pos 0) i h h (+ℤ_idr i)

pub record Differ (a b x : ℤ) : Type 0 where
  pub first : is_instant a ≡ true
  pub second : is_instant b ≡ true
  pub less : a -ℤ b ≡ x

pub differ : (a b x : ℤ) → difference a b ≡ accepted x → Differ a b x
unfolding difference
differ a b x e =
    let p = passed (is_instant a) 2 (unless (is_instant b) 2 (accepted (a -ℤ b))) x e in
    let q = passed (is_instant b) 2 (accepted (a -ℤ b)) x p.1 in
    record { first = p.0; second = q.0; less = same q.1 }

pub differs : (a b : ℤ) → is_instant a ≡ true → is_instant b ≡ true → difference a b ≡ accepted (a -ℤ b)
unfolding difference
differs a b p q = rw (p, q) refl

neg_less : (a b : ℤ) → b -ℤ a ≡ neg_ℤ (a -ℤ b)
neg_less a b = sym (neg_ℤ-+ℤ a (neg_ℤ b) ∙ ap (λ z. neg_ℤ a +ℤ z) (neg_ℤ-neg_ℤ b) ∙ +ℤ_comm (neg_ℤ a) b)

pub differ_neg : (a b x : ℤ) → difference a b ≡ accepted x → difference b a ≡ accepted (neg_ℤ x)
differ_neg a b x e =
    let d = differ a b x e in
    differs b a d.second d.first ∙ ap accepted (neg_less a b ∙ ap neg_ℤ d.less)

pub add_differ : (a b x : ℤ) → difference b a ≡ accepted x → add a x ≡ accepted b
add_differ a b x e =
    let d = differ b a x e in
    adds a x b d.second d.first (ap (λ z. a +ℤ z) (sym d.less) ∙ +ℤ_comm a (b -ℤ a) ∙ -ℤ-+ℤ_cancel b a)

pub add_twice : (i m n x y : ℤ) → add i m ≡ accepted x → add x n ≡ accepted y → add i (m +ℤ n) ≡ accepted y
add_twice i m n x y e f =
    let p = added i m x e in
    let q = added x n y f in
    let s : i +ℤ (m +ℤ n) ≡ y = sym (+ℤ_assoc i m n) ∙ ap (λ z. z +ℤ n) p.sum ∙ q.sum in
    let g : is_instant y ≡ true = ap is_instant (sym q.sum) ∙ q.end in
    adds i (m +ℤ n) y p.start g s
