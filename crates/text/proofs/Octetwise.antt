-- A word of octets tested all octets at once. Each octet should be a digit or one certain mark. The word's exclusive or with the word of zeros
-- and marks has in each octet the digit, or 0 for the mark. What is over 15, or over 0, shows in the mask; of what is left, adding 6
-- shows what is over 9, and no octet then carries into the next. So an octet goes by itself (`lib.Bits`' blocks), and the law about
-- the word follows from that about one octet. Assumes nothing.
use Rattle.std.proofs.Common.{◌≡◌, ℕ, ◌+◌, ◌-◌, ◌*◌, ◌/◌, ◌%◌, ◌^◌, ◌<◌, ◌≤◌, Bool, true, false, eqb, List, [], ◌∷◌, sym, refl, ap, ◌∙◌, ap₂, mod-eq_of_lt, arith, eq-eqb, eqb-true}
use lib.Bits.{bit_and, bit_xor, and_block, xor_block, xor_lt, and_high, and_mask, xor_self, xor_zero_r, xor_add_and, and_le_l, and_le_r}
use Rattle.format.specs.Words.{both}
use Rattle.format.specs.Digits.{is_digit}
use Rattle.format.proofs.Cases.{both_true, never}
use Rattle.format.proofs.Decimal.{digit, is_digit_lem}
use Rattle.octets.specs.Words.{word}
use Rattle.text.specs.Pairs.{clean}

-- what an octet should be
pub data Want : Type 0 where
  decimal : Want
  mark : ℕ → Want

abbrev pub zero_of : Want → ℕ
zero_of decimal = 48
zero_of (mark m) = m

abbrev pub mask_of : Want → ℕ
mask_of decimal = 240
mask_of (mark m) = 255

abbrev pub six_of : Want → ℕ
six_of decimal = 6
six_of (mark m) = 0

abbrev pub most_of : Want → ℕ
most_of decimal = 15
most_of (mark m) = 0

abbrev pub is_wanted : Want → ℕ → Bool
is_wanted decimal o = is_digit o
is_wanted (mark m) o = eqb o m

abbrev pub value_of : Want → ℕ → ℕ
value_of decimal o = o - 48
value_of (mark m) o = 0

-- the same of a row of octets
abbrev pub each : (Want → ℕ) → List Want → ℕ
each f [] = 0
each f (w ∷ ws) = each f ws * 256 + f w

abbrev pub are_wanted : List Want → List ℕ → Bool
are_wanted [] os = true
are_wanted (w ∷ ws) [] = true
are_wanted (w ∷ ws) (o ∷ os) = both (is_wanted w o) (are_wanted ws os)

abbrev pub values : List Want → List ℕ → List ℕ
values [] os = []
values (w ∷ ws) [] = []
values (w ∷ ws) (o ∷ os) = value_of w o ∷ values ws os

-- as many octets as are wanted
abbrev pub Sized : List Want → List ℕ → Type 0
Sized [] [] = Unit {0}
Sized [] (o ∷ os) = ⊥
Sized (w ∷ ws) [] = ⊥
Sized (w ∷ ws) (o ∷ os) = (zero_of w < 256) × ((o < 256) × Sized ws os)

-- ---- one octet

xor_eq : (a b : ℕ) → bit_xor a b ≡ 0 → a ≡ b
xor_eq a b e = omega (arith, e, xor_add_and a b, and_le_l a b, and_le_r a b)

mask_small : (w : Want) → mask_of w < 256
mask_small decimal = omega arith
mask_small (mark m) = omega arith

most_small : (w : Want) → most_of w < 16
most_small decimal = omega arith
most_small (mark m) = omega arith

six_small : (w : Want) → six_of w < 7
six_small decimal = omega arith
six_small (mark m) = omega arith

-- the four high bits are the mask's
low_bits : (w : Want) (x : ℕ) → x < 256 → bit_and x (mask_of w) ≡ 0 → x ≤ most_of w
low_bits decimal x h e =
    let q : x / 16 < 16 = omega arith in
    omega (arith, e, and_high x 4 4, mod-eq_of_lt q)
low_bits (mark m) x h e = omega (arith, e, and_mask x 8)

no_bits : (w : Want) (x : ℕ) → x ≤ most_of w → bit_and x (mask_of w) ≡ 0
no_bits decimal x h =
    let q : x / 16 ≡ 0 = omega arith in
    and_high x 4 4 ∙ rw q refl
no_bits (mark m) x h = omega (arith, and_mask x 8)

less_48 : (o : ℕ) → bit_xor o 48 ≡ bit_xor (o / 16) 3 * 16 + o % 16
less_48 o =
    let e : o ≡ o / 16 * 2 ^ 4 + o % 16 = omega arith in
    let b = xor_block 4 (o / 16) 3 (o % 16) 0 (omega arith) (omega arith) in
    let z = xor_zero_r (o % 16) in
    let p : bit_xor o 48 ≡ bit_xor (o / 16 * 2 ^ 4 + o % 16) 48 = ap (λ (n : ℕ). bit_xor n 48) e in
    p ∙ b ∙ ap (λ (n : ℕ). bit_xor (o / 16) 3 * 16 + n) z

-- an octet that is wanted is its value, at most 9
wanted : (w : Want) (o : ℕ) → is_wanted w o ≡ true → (bit_xor o (zero_of w) ≡ value_of w o) × (value_of w o + six_of w ≤ most_of w)
wanted decimal o e =
    let d = digit o e in
    let q : o / 16 ≡ 3 = omega (arith, d.low, d.high) in
    let p : bit_xor (o / 16) 3 ≡ 0 = rw q refl in
    (omega (arith, less_48 o, p, d.low, d.high), omega (arith, d.low, d.high))
wanted (mark m) o e = (rw (eqb-true o m e) (xor_self m), omega arith)

-- and one at most 9 is wanted
is_wanted_lem : (w : Want) (o : ℕ) → bit_xor o (zero_of w) + six_of w ≤ most_of w → is_wanted w o ≡ true
is_wanted_lem decimal o h =
    let z : bit_xor (o / 16) 3 ≡ 0 = omega (arith, h, less_48 o) in
    let q = xor_eq (o / 16) 3 z in
    is_digit_lem o (omega (arith, q)) (omega (arith, q, h, less_48 o, z))
is_wanted_lem (mark m) o h = eq-eqb o m (xor_eq o m (omega (arith, h)))

-- ---- the word

-- the exclusive or, octet by octet
abbrev xors : List Want → List ℕ → List ℕ
xors [] os = []
xors (w ∷ ws) [] = []
xors (w ∷ ws) (o ∷ os) = bit_xor o (zero_of w) ∷ xors ws os

-- each below 256, and at most so much with so much added
abbrev Small : List Want → List ℕ → Type 0
Small [] [] = Unit {0}
Small [] (x ∷ xs) = ⊥
Small (w ∷ ws) [] = ⊥
Small (w ∷ ws) (x ∷ xs) = (x < 256) × Small ws xs

abbrev pub Most : (Want → ℕ) → List Want → List ℕ → Type 0
Most f [] [] = Unit {0}
Most f [] (x ∷ xs) = ⊥
Most f (w ∷ ws) [] = ⊥
Most f (w ∷ ws) (x ∷ xs) = (x + f w ≤ most_of w) × Most f ws xs

xors_small : (ws : List Want) (os : List ℕ) → Sized ws os → Small ws (xors ws os)
xors_small [] [] z = tt
xors_small [] (o ∷ os) z = absurd z
xors_small (w ∷ ws) [] z = absurd z
xors_small (w ∷ ws) (o ∷ os) z = (xor_lt 8 o (zero_of w) z.1.0 z.0, xors_small ws os z.1.1)

xor_word : (ws : List Want) (os : List ℕ) → Sized ws os → bit_xor (word os) (each zero_of ws) ≡ word (xors ws os)
unfolding word
xor_word [] [] z = refl
xor_word [] (o ∷ os) z = absurd z
xor_word (w ∷ ws) [] z = absurd z
xor_word (w ∷ ws) (o ∷ os) z =
    xor_block 8 (word os) (each zero_of ws) o (zero_of w) z.1.0 z.0
    ∙ ap (λ (n : ℕ). n * 256 + bit_xor o (zero_of w)) (xor_word ws os z.1.1)

-- no bit of the mask: each octet is low; and the other way
low_word : (ws : List Want) (xs : List ℕ) → Small ws xs → bit_and (word xs) (each mask_of ws) ≡ 0 → Most (λ w. 0) ws xs
unfolding word
low_word [] [] z e = tt
low_word [] (x ∷ xs) z e = absurd z
low_word (w ∷ ws) [] z e = absurd z
low_word (w ∷ ws) (x ∷ xs) z e =
    let b = and_block 8 (word xs) (each mask_of ws) x (mask_of w) z.0 (mask_small w) in
    (omega (arith, low_bits w x z.0 (omega (arith, e, b))), low_word ws xs z.1 (omega (arith, e, b)))

no_word : (ws : List Want) (xs : List ℕ) → Most (λ w. 0) ws xs → bit_and (word xs) (each mask_of ws) ≡ 0
unfolding word
no_word [] [] z = refl
no_word [] (x ∷ xs) z = absurd z
no_word (w ∷ ws) [] z = absurd z
no_word (w ∷ ws) (x ∷ xs) z =
    let b = and_block 8 (word xs) (each mask_of ws) x (mask_of w) (omega (arith, z.0, most_small w)) (mask_small w) in
    let n = no_bits w x (omega (arith, z.0)) in
    omega (arith, b, n, no_word ws xs z.1)

-- 6 added
abbrev sums : List Want → List ℕ → List ℕ
sums [] xs = []
sums (w ∷ ws) [] = []
sums (w ∷ ws) (x ∷ xs) = (x + six_of w) ∷ sums ws xs

sum_word : (ws : List Want) (xs : List ℕ) → Most (λ w. 0) ws xs → (word (sums ws xs) ≡ word xs + each six_of ws) × Small ws (sums ws xs)
unfolding word
sum_word [] [] z = (refl, tt)
sum_word [] (x ∷ xs) z = absurd z
sum_word (w ∷ ws) [] z = absurd z
sum_word (w ∷ ws) (x ∷ xs) z =
    let r = sum_word ws xs z.1 in
    (omega (arith, r.0), (omega (arith, z.0, most_small w, six_small w), r.1))

most_word : (ws : List Want) (xs : List ℕ) → Most (λ w. 0) ws xs → word xs ≤ each most_of ws
unfolding word
most_word [] [] z = omega arith
most_word [] (x ∷ xs) z = absurd z
most_word (w ∷ ws) [] z = absurd z
most_word (w ∷ ws) (x ∷ xs) z = omega (arith, z.0, most_word ws xs z.1)

summed : (ws : List Want) (xs : List ℕ) → Most six_of ws xs → Most (λ w. 0) ws (sums ws xs)
summed [] [] z = tt
summed [] (x ∷ xs) z = absurd z
summed (w ∷ ws) [] z = absurd z
summed (w ∷ ws) (x ∷ xs) z = (omega (arith, z.0), summed ws xs z.1)

unsummed : (ws : List Want) (xs : List ℕ) → Small ws xs → Most (λ w. 0) ws (sums ws xs) → Most six_of ws xs
unsummed [] [] s z = tt
unsummed [] (x ∷ xs) s z = absurd s
unsummed (w ∷ ws) [] s z = absurd s
unsummed (w ∷ ws) (x ∷ xs) s z = (omega (arith, z.0), unsummed ws xs s.1 z.1)

lower : (ws : List Want) (xs : List ℕ) → Most six_of ws xs → Most (λ w. 0) ws xs
lower [] [] z = tt
lower [] (x ∷ xs) z = absurd z
lower (w ∷ ws) [] z = absurd z
lower (w ∷ ws) (x ∷ xs) z = (omega (arith, z.0), lower ws xs z.1)

-- ---- octets and the word of them

found : (ws : List Want) (os : List ℕ) → Sized ws os → are_wanted ws os ≡ true → (xors ws os ≡ values ws os) × Most six_of ws (xors ws os)
found [] [] z e = (refl, tt)
found [] (o ∷ os) z e = absurd z
found (w ∷ ws) [] z e = absurd z
found (w ∷ ws) (o ∷ os) z e =
    let b = both_true (is_wanted w o) (are_wanted ws os) e in
    let h = wanted w o b.0 in
    let r = found ws os z.1.1 b.1 in
    (ap₂ (λ (n : ℕ) (ns : List ℕ). n ∷ ns) h.0 r.0, (rw h.0 h.1, r.1))

are_wanted_lem : (ws : List Want) (os : List ℕ) → Sized ws os → Most six_of ws (xors ws os) → are_wanted ws os ≡ true
are_wanted_lem [] [] z m = refl
are_wanted_lem [] (o ∷ os) z m = absurd z
are_wanted_lem (w ∷ ws) [] z m = absurd z
are_wanted_lem (w ∷ ws) (o ∷ os) z m = rw (is_wanted_lem w o m.0) (are_wanted_lem ws os z.1.1 m.1)

module _ (ws : List Want) (os : List ℕ) (z : Sized ws os) (r : each most_of ws + each six_of ws < 2 ^ 64) where
  -- nothing is lost where 64 bits are all there is
  unwrapped : (xs : List ℕ) → Most (λ w. 0) ws xs → (word xs + each six_of ws) % 2 ^ 64 ≡ word (sums ws xs)
  unwrapped xs m = mod-eq_of_lt (omega (arith, r, most_word ws xs m)) ∙ sym (sum_word ws xs m).0

  pub clean_wanted : are_wanted ws os ≡ true → clean (bit_xor (word os) (each zero_of ws)) (each six_of ws) (each mask_of ws) ≡ true
  unfolding clean
  clean_wanted e =
      let xs = xors ws os in
      let m = (found ws os z e).1 in
      let l = lower ws xs m in
      let a = no_word ws xs l in
      let b = no_word ws (sums ws xs) (summed ws xs m) in
      rw (xor_word ws os z, a, unwrapped xs l, b)

  pub wanted_clean : clean (bit_xor (word os) (each zero_of ws)) (each six_of ws) (each mask_of ws) ≡ true → are_wanted ws os ≡ true
  unfolding clean
  wanted_clean e =
      let xs = xors ws os in
      let x = xor_word ws os z in
      let t = both_true (eqb (bit_and (word xs) (each mask_of ws)) 0) (eqb (bit_and ((word xs + each six_of ws) % 2 ^ 64) (each mask_of ws)) 0) (rw x at e) in
      let s = xors_small ws os z in
      let l = low_word ws xs s (eqb-true _ 0 t.0) in
      let u = rw (unwrapped xs l) at (eqb-true (bit_and ((word xs + each six_of ws) % 2 ^ 64) (each mask_of ws)) 0 t.1) in
      are_wanted_lem ws os z (unsummed ws xs s (low_word ws (sums ws xs) (sum_word ws xs l).1 u))

  pub unwanted_unclean : clean (bit_xor (word os) (each zero_of ws)) (each six_of ws) (each mask_of ws) ≡ false → are_wanted ws os ≡ false
  unwanted_unclean e = go (are_wanted ws os) refl
    where
      go : (b : Bool) → are_wanted ws os ≡ b → b ≡ false
      go true f = never (sym e ∙ clean_wanted f)
      go false f = refl

  pub wanted_word : are_wanted ws os ≡ true → bit_xor (word os) (each zero_of ws) ≡ word (values ws os)
  wanted_word e = xor_word ws os z ∙ ap word (found ws os z e).0

  pub wanted_values : are_wanted ws os ≡ true → Most six_of ws (values ws os)
  wanted_values e = let f = found ws os z e in rw f.0 at f.1
