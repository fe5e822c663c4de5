-- Words of a text: a sum of digits and of the word of a text of zeros, octet by octet, is the text. Each word is first grouped from its last
-- octet to its first (`omega` does that), and then taken apart from the first, two digits or one separator at a time. Assumes nothing.
use Rattle.std.proofs.Common.{◌≡◌, ℕ, suc, ◌+◌, ◌*◌, ◌/◌, ◌%◌, ◌<◌, ◌≤◌, Bool, true, false, ◌∷◌, ◌++◌, ℤ, ◌∙◌, arith}
use lib.Signed.{non_neg}
use Rattle.format.specs.Words.{pick}
use Rattle.format.specs.Digits.{digits_of}
use Rattle.octets.specs.Words.{low_octets}
use Rattle.octets.proofs.LowFirst.{low_none, low_first}
use Rattle.text.specs.Putting.{year_month_day, hour_minute_second, PointDigits, sign_mark, sign_hour_minute, duo}

-- ---- a word taken apart from its first octet

pair : (n v w : ℕ) → v < 100 → low_octets (suc (suc n)) (duo v + 12336 + 65536 * w) ≡ digits_of 2 v ++ low_octets n w
unfolding duo digits_of
pair n v w h =
    let e : duo v + 12336 + 65536 * w ≡ 48 + v / 10 % 10 + 256 * (48 + v % 10 + 256 * w) = omega arith in
    rw (e, low_first (suc n) (48 + v / 10 % 10) (48 + v % 10 + 256 * w) (omega arith), low_first n (48 + v % 10) w (omega arith))

-- ---- the words

pub two_word : (v : ℕ) → v < 100 → low_octets 2 (duo v + 12336) ≡ digits_of 2 v
unfolding digits_of
two_word v h =
    let e : duo v + 12336 ≡ duo v + 12336 + 65536 * 0 = omega arith in
    rw (e, pair 0 v 0 h, low_none 0)

-- three times two digits, with a separator between; z is the word of such a text of zeros
three_word : (c z x y v : ℕ) → c < 256 → x < 100 → y < 100 → v < 100
    → z ≡ 12336 + c * 65536 + 12336 * 16777216 + c * 1099511627776 + 12336 * 281474976710656
    → low_octets 8 (duo x + duo y * 16777216 + duo v * 281474976710656 + z) ≡ digits_of 2 x ++ (c ∷ (digits_of 2 y ++ (c ∷ digits_of 2 v)))
three_word c z x y v h hx hy hv k =
    let w₃ = duo v + 12336 in
    let w₂ = duo y + 12336 + 65536 * (c + 256 * w₃) in
    let w₁ = c + 256 * w₂ in
    let e : duo x + duo y * 16777216 + duo v * 281474976710656 + z ≡ duo x + 12336 + 65536 * w₁ = omega arith in
    rw (
      e,
      pair 6 x w₁ hx,
      low_first 5 c w₂ h,
      pair 3 y (c + 256 * w₃) hy,
      low_first 2 c w₃ h,
      two_word v hv,
    )

pub date_word : (y m d : ℕ) → (y < 100) × (m < 100) × (d < 100)
    → low_octets 8 (duo y + duo m * 16777216 + duo d * 281474976710656 + 0x30302d30302d3030) ≡ year_month_day y m d
unfolding year_month_day
date_word y m d h = three_word 45 0x30302d30302d3030 y m d (omega arith) h.0 h.1 h.2 (omega arith)

pub clock_word : (s h m v : ℕ) → h ≡ s / 3600 → m ≡ s / 60 % 60 → v ≡ s % 60 → s ≤ 86400
    → low_octets 8 (duo h + duo m * 16777216 + duo v * 281474976710656 + 0x30303a30303a3030) ≡ hour_minute_second s
unfolding hour_minute_second
clock_word s h m v e f g k =
    three_word 58 0x30303a30303a3030 h m v (omega arith) (omega arith) (omega arith) (omega arith) (omega arith) ∙ rw (e, f, g)

six_digits : (f x y v : ℕ) → x ≡ f / 10000 → y ≡ f / 100 % 100 → v ≡ f % 100 → digits_of 2 x ++ (digits_of 2 y ++ digits_of 2 v) ≡ digits_of 6 f
unfolding digits_of
six_digits f x y v p q r =
    let a : x / 10 % 10 ≡ f / 10 / 10 / 10 / 10 / 10 % 10 = omega arith in
    let b : x % 10 ≡ f / 10 / 10 / 10 / 10 % 10 = omega arith in
    let c : y / 10 % 10 ≡ f / 10 / 10 / 10 % 10 = omega arith in
    let d : y % 10 ≡ f / 10 / 10 % 10 = omega arith in
    let e : v / 10 % 10 ≡ f / 10 % 10 = omega arith in
    let g : v % 10 ≡ f % 10 = omega arith in
    rw (a, b, c, d, e, g)

pub point_word : (f x y v : ℕ) → x ≡ f / 10000 → y ≡ f / 100 % 100 → v ≡ f % 100 → f < 1000000
    → PointDigits f (duo x * 65536 + duo y * 4294967296 + duo v * 281474976710656 + 0x3030303030302e00)
point_word f x y v p q r h =
    let w₃ = duo v + 12336 in
    let w₂ = duo y + 12336 + 65536 * w₃ in
    let w₁ = duo x + 12336 + 65536 * w₂ in
    let e : (duo x * 65536 + duo y * 4294967296 + duo v * 281474976710656 + 0x3030303030302e00) / 256 ≡ 46 + 256 * w₁ = omega arith in
    let s = six_digits f x y v p q r in
    record {
      front = omega arith;
      octets = rw (
        e,
        low_first 6 46 w₁ (omega arith),
        pair 4 x w₂ (omega arith),
        pair 2 y w₃ (omega arith),
        two_word v (omega arith),
        s,
      );
    }

mark : (b : Bool) → pick b 43 45 ≤ 45
mark true = omega arith
mark false = omega arith

pub mark_small : (m : ℤ) → sign_mark m ≤ 45
mark_small m = mark (non_neg m)

pub offset_word : (m : ℤ) (a h v : ℕ) → h ≡ a / 60 → v ≡ a % 60 → a ≤ 1439
    → low_octets 6 (duo h * 256 + duo v * 4294967296 + 0x30303a303000 + sign_mark m) ≡ sign_hour_minute m a
unfolding sign_hour_minute
offset_word m a h v p q k =
    let w₃ = duo v + 12336 in
    let w₂ = 58 + 256 * w₃ in
    let w₁ = duo h + 12336 + 65536 * w₂ in
    let e : duo h * 256 + duo v * 4294967296 + 0x30303a303000 + sign_mark m ≡ sign_mark m + 256 * w₁ = omega arith in
    rw (
      e,
      low_first 5 (sign_mark m) w₁ (omega (arith, mark_small m)),
      pair 3 h w₂ (omega arith),
      low_first 2 58 w₃ (omega arith),
      two_word v (omega arith),
      p,
      q,
    )
