-- Pairs of digits in a word, over plain numbers: ten times the word and its next octet have in the octet where a pair begins its number. Assumes nothing.
use Rattle.std.proofs.Common.{◌≡◌, ℕ, ◌+◌, ◌*◌, ◌/◌, ◌%◌, ◌<◌, ◌≤◌, List, [], ◌∷◌, ap, ◌∙◌, arith}
use lib.Pow.{high, low}
use Rattle.octets.specs.Words.{word}

-- ten times a word and its next octet
abbrev pub joined : ℕ → ℕ
joined x = x * 10 + x / 256

joins : (r a : ℕ) → a < 256 → joined (r * 256 + a) ≡ (r * 256 + a) * 10 + r
joins r a h = ap (λ (n : ℕ). (r * 256 + a) * 10 + n) (high r 8 h)

head : (os : List ℕ) (o : ℕ) → o < 256 → joined (word (o ∷ os)) ≡ word (o ∷ os) * 10 + word os
unfolding word
head os o h = joins (word os) o h

-- the last octet, and that of what stands 24 or 48 bits higher
last : (x r v : ℕ) → x ≡ r * 256 + v → v < 256 → x % 256 ≡ v
last x r v e h = rw e (low r 8 h)

middle : (x r l v : ℕ) → x ≡ (r * 256 + v) * 16777216 + l → l < 16777216 → v < 256 → x / 16777216 % 256 ≡ v
middle x r l v e h i =
    let d : x / 16777216 ≡ r * 256 + v = rw e (high (r * 256 + v) 24 h) in
    rw d (low r 8 i)

top : (x r l v : ℕ) → x ≡ (r * 256 + v) * 281474976710656 + l → l < 281474976710656 → v < 256 → x / 281474976710656 % 256 ≡ v
top x r l v e h i =
    let d : x / 281474976710656 ≡ r * 256 + v = rw e (high (r * 256 + v) 48 h) in
    rw d (low r 8 i)

pair_low : (a b : ℕ) → a ≤ 9 → b ≤ 9 → a * 10 + b < 256
pair_low a b h i = omega arith

pub record Pair (a b x : ℕ) : Type 0 where
  pub small : x ≤ 2313
  pub number : joined x % 256 ≡ a * 10 + b

pub pair_numbers : (a b : ℕ) → a ≤ 9 → b ≤ 9 → Pair a b (word (a ∷ b ∷ []))
unfolding word
pair_numbers a b h i =
    let j = joins (0 * 256 + b) a (omega arith) in
    record { small = omega arith; number = last _ (b * 10) (a * 10 + b) (j ∙ omega arith) (pair_low a b h i) }

pub record Two (a b d e x : ℕ) : Type 0 where
  pub small : x ≤ 38805702921
  pub first : joined x % 256 ≡ a * 10 + b
  pub second : joined x / 16777216 % 256 ≡ d * 10 + e

two_first : (a b d e : ℕ) → word (a ∷ b ∷ 0 ∷ d ∷ e ∷ []) * 10 + word (b ∷ 0 ∷ d ∷ e ∷ []) ≡ (((e * 10 * 256 + (d * 10 + e)) * 65536) + (d * 256 + b * 10)) * 256 + (a * 10 + b)
unfolding word
two_first a b d e = omega arith

two_second : (a b d e : ℕ) → word (a ∷ b ∷ 0 ∷ d ∷ e ∷ []) * 10 + word (b ∷ 0 ∷ d ∷ e ∷ []) ≡ (e * 10 * 256 + (d * 10 + e)) * 16777216 + ((d * 256 + b * 10) * 256 + (a * 10 + b))
unfolding word
two_second a b d e = omega arith

behind_low : (a b d : ℕ) → a ≤ 9 → b ≤ 9 → d ≤ 9 → (d * 256 + b * 10) * 256 + (a * 10 + b) < 16777216
behind_low a b d h i j = omega arith

two_small : (a b d e : ℕ) → a ≤ 9 → b ≤ 9 → d ≤ 9 → e ≤ 9 → word (a ∷ b ∷ 0 ∷ d ∷ e ∷ []) ≤ 38805702921
unfolding word
two_small a b d e ha hb hd he = omega arith

octet : (a : ℕ) → a ≤ 9 → a < 256
octet a h = omega arith

pub two_numbers : (a b d e : ℕ) → a ≤ 9 → b ≤ 9 → d ≤ 9 → e ≤ 9 → Two a b d e (word (a ∷ b ∷ 0 ∷ d ∷ e ∷ []))
two_numbers a b d e ha hb hd he =
    let j = head (b ∷ 0 ∷ d ∷ e ∷ []) a (octet a ha) in
    record {
      small = two_small a b d e ha hb hd he;
      first = last _ _ _ (j ∙ two_first a b d e) (pair_low a b ha hb);
      second = middle _ _ _ _ (j ∙ two_second a b d e) (behind_low a b d ha hb hd) (pair_low d e hd he);
    }

pub record Three (a b d e g h x : ℕ) : Type 0 where
  pub small : x ≤ 651061486403881225
  pub first : joined x % 256 ≡ a * 10 + b
  pub second : joined x / 16777216 % 256 ≡ d * 10 + e
  pub third : joined x / 281474976710656 % 256 ≡ g * 10 + h

three_first : (a b d e g h : ℕ) → word (a ∷ b ∷ 0 ∷ d ∷ e ∷ 0 ∷ g ∷ h ∷ []) * 10 + word (b ∷ 0 ∷ d ∷ e ∷ 0 ∷ g ∷ h ∷ [])
    ≡ ((((h * 10 * 256 + (g * 10 + h)) * 16777216 + ((g * 256 + e * 10) * 256 + (d * 10 + e))) * 65536) + (d * 256 + b * 10)) * 256 + (a * 10 + b)
unfolding word
three_first a b d e g h = omega arith

three_second : (a b d e g h : ℕ) → word (a ∷ b ∷ 0 ∷ d ∷ e ∷ 0 ∷ g ∷ h ∷ []) * 10 + word (b ∷ 0 ∷ d ∷ e ∷ 0 ∷ g ∷ h ∷ [])
    ≡ (((h * 10 * 256 + (g * 10 + h)) * 65536 + (g * 256 + e * 10)) * 256 + (d * 10 + e)) * 16777216 + ((d * 256 + b * 10) * 256 + (a * 10 + b))
unfolding word
three_second a b d e g h = omega arith

three_third : (a b d e g h : ℕ) → word (a ∷ b ∷ 0 ∷ d ∷ e ∷ 0 ∷ g ∷ h ∷ []) * 10 + word (b ∷ 0 ∷ d ∷ e ∷ 0 ∷ g ∷ h ∷ [])
    ≡ (h * 10 * 256 + (g * 10 + h)) * 281474976710656 + (((g * 256 + e * 10) * 256 + (d * 10 + e)) * 16777216 + ((d * 256 + b * 10) * 256 + (a * 10 + b)))
unfolding word
three_third a b d e g h = omega arith

below : (p q : ℕ) → p < 16777216 → q < 16777216 → p * 16777216 + q < 281474976710656
below p q h i = omega arith

three_small : (a b d e g h : ℕ) → a ≤ 9 → b ≤ 9 → d ≤ 9 → e ≤ 9 → g ≤ 9 → h ≤ 9 → word (a ∷ b ∷ 0 ∷ d ∷ e ∷ 0 ∷ g ∷ h ∷ []) ≤ 651061486403881225
unfolding word
three_small a b d e g h ha hb hd he hg hh = omega arith

pub three_numbers : (a b d e g h : ℕ) → a ≤ 9 → b ≤ 9 → d ≤ 9 → e ≤ 9 → g ≤ 9 → h ≤ 9
    → Three a b d e g h (word (a ∷ b ∷ 0 ∷ d ∷ e ∷ 0 ∷ g ∷ h ∷ []))
three_numbers a b d e g h ha hb hd he hg hh =
    let j = head (b ∷ 0 ∷ d ∷ e ∷ 0 ∷ g ∷ h ∷ []) a (octet a ha) in
    record {
      small = three_small a b d e g h ha hb hd he hg hh;
      first = last _ _ _ (j ∙ three_first a b d e g h) (pair_low a b ha hb);
      second = middle _ _ _ _ (j ∙ three_second a b d e g h) (behind_low a b d ha hb hd) (pair_low d e hd he);
      third = top _ _ _ _ (j ∙ three_third a b d e g h) (below _ _ (behind_low d e g hd he hg) (behind_low a b d ha hb hd)) (pair_low g h hg hh);
    }

-- a mark in front of three digits
pub record Part (a b d x : ℕ) : Type 0 where
  pub small : x ≤ 151587072
  pub first : joined x / 256 % 256 ≡ a * 10 + b
  pub last : x / 16777216 ≡ d

part_shift : (a b d : ℕ) → word (0 ∷ a ∷ b ∷ d ∷ []) * 10 + word (a ∷ b ∷ d ∷ []) ≡ (((d * 10 * 256) + (b * 10 + d)) * 256 + (a * 10 + b)) * 256 + a
unfolding word
part_shift a b d = omega arith

part_small : (a b d : ℕ) → a ≤ 9 → b ≤ 9 → d ≤ 9 → word (0 ∷ a ∷ b ∷ d ∷ []) ≤ 151587072
unfolding word
part_small a b d ha hb hd = omega arith

part_last : (a b d : ℕ) → a ≤ 9 → b ≤ 9 → word (0 ∷ a ∷ b ∷ d ∷ []) / 16777216 ≡ d
unfolding word
part_last a b d ha hb = omega arith

pub part_numbers_lem : (a b d : ℕ) → a ≤ 9 → b ≤ 9 → d ≤ 9 → Part a b d (word (0 ∷ a ∷ b ∷ d ∷ []))
part_numbers_lem a b d ha hb hd =
    let j = head (a ∷ b ∷ d ∷ []) 0 (omega arith) in
    let e : joined (word (0 ∷ a ∷ b ∷ d ∷ [])) / 256 ≡ ((d * 10 * 256) + (b * 10 + d)) * 256 + (a * 10 + b)
    = rw (j ∙ part_shift a b d) (high (((d * 10 * 256) + (b * 10 + d)) * 256 + (a * 10 + b)) 8 (octet a ha)) in
    record {
      small = part_small a b d ha hb hd;
      first = last _ _ _ e (pair_low a b ha hb);
      last = part_last a b d ha hb;
    }
