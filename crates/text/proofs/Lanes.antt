-- Tenths of numbers below 100 that stand side by side in a word: 103 / 1024 is near enough to a tenth, so that each number's tens come out of
-- one product, and a mask keeps them and drops what the numbers above it have left behind. Each law takes the lowest number off. Assumes nothing.
use Rattle.std.proofs.Common.{◌≡◌, ℕ, ◌+◌, ◌-◌, ◌*◌, ◌/◌, ◌%◌, ◌^◌, ◌<◌, sym, ap, ◌∙◌, add-zero, mod-lt, div-add-mod', arith, pow_pos}
use lib.Bits.{bit_and, and_block, and_mask, and_zero_r}
use Rattle.text.specs.Putting.{duo, Duo, Sum}

tenth : (v : ℕ) → v < 100 → v * 103 / 1024 ≡ v / 10
tenth v h = omega arith

-- ---- the tens

last_lane : (c : ℕ) → c < 100 → bit_and (c * 103 / 1024) 15 ≡ c / 10
last_lane c h =
    let e : c * 103 / 1024 % 16 ≡ c / 10 = rw (tenth c h) (omega arith) in
    and_mask (c * 103 / 1024) 4 ∙ e

-- the lowest k bits by themselves, four of which the mask keeps
keeps : (k n q m r t : ℕ) → n ≡ q * 2 ^ k + r → r < 2 ^ k → 15 < 2 ^ k → r % 16 ≡ t → bit_and n (m * 2 ^ k + 15) ≡ bit_and q m * 2 ^ k + t
keeps k n q m r t e l h z =
    ap (λ (y : ℕ). bit_and y (m * 2 ^ k + 15)) e ∙ and_block k q m r 15 l h ∙ ap (λ (y : ℕ). bit_and q m * 2 ^ k + y) (and_mask r 4 ∙ z)

-- 24 bits below the others
lane_24 : (a b m : ℕ) → a < 100 → bit_and ((a + b * 16777216) * 103 / 1024) (m * 16777216 + 15) ≡ bit_and (b * 103 / 1024) m * 16777216 + a / 10
lane_24 a b m h =
    let t : a * 103 / 1024 ≡ a / 10 = tenth a h in
    let f : (a + b * 16777216) * 103 / 1024 ≡ b * 1687552 + a / 10 = omega arith in
    keeps 24 ((a + b * 16777216) * 103 / 1024) (b * 103 / 1024) m (b * 103 % 1024 * 16384 + a / 10) (a / 10) (rw f (omega arith)) (omega arith) (omega arith) (omega arith)

-- 16 bits below the others
lane_16 : (a b m : ℕ) → a < 100 → bit_and ((a + b * 65536) * 103 / 1024) (m * 65536 + 15) ≡ bit_and (b * 103 / 1024) m * 65536 + a / 10
lane_16 a b m h =
    let t : a * 103 / 1024 ≡ a / 10 = tenth a h in
    let f : (a + b * 65536) * 103 / 1024 ≡ b * 6592 + a / 10 = omega arith in
    keeps 16 ((a + b * 65536) * 103 / 1024) (b * 103 / 1024) m (b * 103 % 1024 * 64 + a / 10) (a / 10) (rw f (omega arith)) (omega arith) (omega arith) (omega arith)

-- and none of them
drops : (k n m : ℕ) → bit_and n (m * 2 ^ k) ≡ bit_and (n / 2 ^ k) m * 2 ^ k
drops k n m =
    ap (bit_and n) (sym (add-zero (m * 2 ^ k)))
    ∙ ap (λ (y : ℕ). bit_and y (m * 2 ^ k + 0)) (sym (div-add-mod' n (2 ^ k)))
    ∙ and_block k (n / 2 ^ k) m (n % 2 ^ k) 0 (mod-lt n (pow_pos k)) (pow_pos k)
    ∙ ap (λ (y : ℕ). bit_and (n / 2 ^ k) m * 2 ^ k + y) (and_zero_r (n % 2 ^ k))
    ∙ add-zero (bit_and (n / 2 ^ k) m * 2 ^ k)

module _ (a b c : ℕ) (h : (a < 100) × (b < 100) × (c < 100)) where
  pub clock_tens : bit_and ((a + b * 16777216 + c * 281474976710656) * 103 / 1024) 0x000f00000f00000f ≡ a / 10 + b / 10 * 16777216 + c / 10 * 281474976710656
  clock_tens =
      let e : a + b * 16777216 + c * 281474976710656 ≡ a + (b + c * 16777216) * 16777216 = omega arith in
      let x : bit_and ((a + (b + c * 16777216) * 16777216) * 103 / 1024) 0x000f00000f00000f ≡ bit_and ((b + c * 16777216) * 103 / 1024) 0x0f00000f * 16777216 + a / 10 = lane_24 a (b + c * 16777216) 0x0f00000f h.0 in
      let y : bit_and ((b + c * 16777216) * 103 / 1024) 0x0f00000f ≡ bit_and (c * 103 / 1024) 15 * 16777216 + b / 10 = lane_24 b c 15 h.1 in
      rw e (omega (arith, x, y, last_lane c h.2))

  pub fraction_tens : bit_and ((a * 65536 + b * 4294967296 + c * 281474976710656) * 103 / 1024) 0x000f000f000f0000 ≡ a / 10 * 65536 + b / 10 * 4294967296 + c / 10 * 281474976710656
  fraction_tens =
      let n = (a * 65536 + b * 4294967296 + c * 281474976710656) * 103 / 1024 in
      let e : n / 65536 ≡ (a + (b + c * 65536) * 65536) * 103 / 1024 = omega arith in
      let w : bit_and n 0x000f000f000f0000 ≡ bit_and (n / 65536) 0x000f000f000f * 65536 = drops 16 n 0x000f000f000f in
      let x : bit_and ((a + (b + c * 65536) * 65536) * 103 / 1024) 0x000f000f000f ≡ bit_and ((b + c * 65536) * 103 / 1024) 0x000f000f * 65536 + a / 10 = lane_16 a (b + c * 65536) 0x000f000f h.0 in
      let y : bit_and ((b + c * 65536) * 103 / 1024) 0x000f000f ≡ bit_and (c * 103 / 1024) 15 * 65536 + b / 10 = lane_16 b c 15 h.1 in
      w ∙ rw e (omega (arith, x, y, last_lane c h.2))

pub offset_tens : (a b : ℕ) → (a < 100) × (b < 100) → bit_and ((a * 256 + b * 4294967296) * 103 / 1024) 0x0000000f00000f00 ≡ a / 10 * 256 + b / 10 * 4294967296
offset_tens a b h =
    let n = (a * 256 + b * 4294967296) * 103 / 1024 in
    let e : n / 256 ≡ (a + b * 16777216) * 103 / 1024 = omega arith in
    let w : bit_and n 0x0000000f00000f00 ≡ bit_and (n / 256) 0x0f00000f * 256 = drops 8 n 0x0f00000f in
    let x : bit_and ((a + b * 16777216) * 103 / 1024) 0x0f00000f ≡ bit_and (b * 103 / 1024) 15 * 16777216 + a / 10 = lane_24 a b 15 h.0 in
    w ∙ rw e (omega (arith, x, last_lane b h.1))

-- ---- and with them the ones

pub two_digits : (v : ℕ) → v < 100 → Duo v (v * 256 - 2559 * (v * 6554 / 65536))
unfolding duo
two_digits v h =
    let t : v * 6554 / 65536 ≡ v / 10 = omega arith in
    record { word = omega (arith, t); small = omega (arith, t) }

module _ (a b c : ℕ) (h : (a < 100) × (b < 100) × (c < 100)) where
  pub clock_digits : (n t : ℕ) → n ≡ a + b * 16777216 + c * 281474976710656 → t ≡ a / 10 + b / 10 * 16777216 + c / 10 * 281474976710656
      → Sum (duo a + duo b * 16777216 + duo c * 281474976710656) (n * 256 - 2559 * t)
  unfolding duo
  clock_digits n t e f = record { word = omega (arith, h.0, h.1, h.2); small = omega (arith, h.0, h.1, h.2) }

  pub fraction_digits : (n t : ℕ) → n ≡ a * 65536 + b * 4294967296 + c * 281474976710656 → t ≡ a / 10 * 65536 + b / 10 * 4294967296 + c / 10 * 281474976710656
      → Sum (duo a * 65536 + duo b * 4294967296 + duo c * 281474976710656) (n * 256 - 2559 * t)
  unfolding duo
  fraction_digits n t e f = record { word = omega (arith, h.0, h.1, h.2); small = omega (arith, h.0, h.1, h.2) }

pub offset_digits : (a b : ℕ) → (a < 100) × (b < 100) → (n t : ℕ) → n ≡ a * 256 + b * 4294967296 → t ≡ a / 10 * 256 + b / 10 * 4294967296
    → Sum (duo a * 256 + duo b * 4294967296) (n * 256 - 2559 * t)
unfolding duo
offset_digits a b h n t e f = record { word = omega (arith, h.0, h.1); small = omega (arith, h.0, h.1) }
