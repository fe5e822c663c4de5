-- `put_offset` meets its contract: a word of six octets. Assumes nothing.
use Rattle.std.proofs.Common.{◌≡◌, true, nat_abs, ap, ◌∙◌, arith, to_z-of_z, w32, to_z, of_z, rules}
use lib.Seq.{sets}
use borrow.Author.Rules.{sfits_of}
use Rattle.octets.specs.Words.{low_octets}
use Rattle.text.specs.Putting.{offset_octets}
use Rattle.text.proofs.Putting.{offset_small, offset_parts}
use Rattle.text.proofs.writing.put_offset.Goals as goal

pub sign_hour_minute-word-requires : goal.sign_hour_minute-word-requires
sign_hour_minute-word-requires c =
    let m = c.args.offset.minutes in
    let e : to_z w32 (of_z w32 m) ≡ m = to_z-of_z {w = w32} (sfits_of (search rules)) in
    let n : c.unsigned_abs.result ≡ nat_abs m = c.unsigned_abs.ensures.value ∙ ap nat_abs e in
    omega (arith, offset_small m c.requires.0)

pub returns : goal.returns
returns c =
    let m = c.args.offset.minutes in
    let e : to_z w32 (of_z w32 m) ≡ m = to_z-of_z {w = w32} (sfits_of (search rules)) in
    let n : c.unsigned_abs.result ≡ nat_abs m = c.unsigned_abs.ensures.value ∙ ap nat_abs e in
    let o : low_octets 6 c.sign_hour_minute-word.result ≡ offset_octets true m = c.sign_hour_minute-word.ensures ∙ rw (n, e) (offset_parts m) in
    c.put_low.ensures ∙ ap (sets c.args.buf.now c.args.at) o
