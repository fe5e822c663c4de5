-- `in_utc` meets its contract: what a clock reads, less its offset, fits. Assumes nothing.
use mathlib.Core.Path.{◌≡◌}
use native.Mathlib.Omega.{arith}
use lib.IntN.{pos, ◌*ℤ◌, ◌-ℤ◌}
use mir.Syntax.{w32, w64}
use mir.Val.{SFits, to_z, of_z}
use mir.Facts.{to_z-of_z}
use borrow.Author.Rules.{rules, sfits_of}
use Rattle.moments.specs.Instant.{ahead}
use Rattle.instants.proofs.Sizes.{ahead_small}
use Rattle.schedule.proofs.Timing.{fits_utc}
use Rattle.schedule.proofs.stamps.in_utc.Goals as goal
use Rattle.schedule.proofs.stamps.in_utc.Goals.{After-struct_told-1}

minutes : (c : After-struct_told-1) → to_z w32 (of_z w32 c.args.offset.minutes) ≡ c.args.offset.minutes
minutes c = to_z-of_z {w = w32} (sfits_of (search rules))

wide : (c : After-struct_told-1) → SFits w64 c.args.offset.minutes
wide c = sfits_of (search rules)

product : (c : After-struct_told-1) → SFits w64 (c.args.offset.minutes *ℤ pos 60000000)
unfolding ahead
product c = sfits_of (omega (arith, ahead_small c.args.offset.minutes c.requires.1))

local : (c : After-struct_told-1) → SFits w64 (pos c.args.local)
local c = sfits_of (omega (arith, c.requires.0))

instant : (c : After-struct_told-1) → SFits w64 (pos c.args.local -ℤ (c.args.offset.minutes *ℤ pos 60000000))
unfolding ahead
instant c = fits_utc c.args.local c.args.offset.minutes c.requires.0 c.requires.1

pub overflow_cast-result-2 : goal.overflow_cast-result-2
overflow_cast-result-2 c = rw (minutes (goal.at.overflow_cast-result-2 c).After-struct_told-1) (wide (goal.at.overflow_cast-result-2 c).After-struct_told-1)

pub overflow_mul-result : goal.overflow_mul-result
overflow_mul-result c = rw (minutes (goal.at.overflow_mul-result c).After-struct_told-1, to_z-of_z (wide (goal.at.overflow_mul-result c).After-struct_told-1)) (product (goal.at.overflow_mul-result c).After-struct_told-1)

pub overflow_sub-result : goal.overflow_sub-result
overflow_sub-result c = rw (minutes (goal.at.overflow_sub-result c).After-struct_told-1, to_z-of_z (wide (goal.at.overflow_sub-result c).After-struct_told-1), to_z-of_z (product (goal.at.overflow_sub-result c).After-struct_told-1), to_z-of_z (local (goal.at.overflow_sub-result c).After-struct_told-1)) (instant (goal.at.overflow_sub-result c).After-struct_told-1)

pub returns : goal.returns
unfolding ahead
returns c = rw (minutes (goal.at.returns c).After-struct_told-1, to_z-of_z (wide (goal.at.returns c).After-struct_told-1), to_z-of_z (product (goal.at.returns c).After-struct_told-1), to_z-of_z (local (goal.at.returns c).After-struct_told-1), to_z-of_z (instant (goal.at.returns c).After-struct_told-1))
